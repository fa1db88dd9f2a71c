-- Numbers as text. Assumes nothing.
use Rattle.std.specs.Prelude.{ℕ, zero, suc, ◌*◌, ◌/◌, ◌%◌, ◌^◌, true, List, [], ◌∷◌}
use Rattle.std.specs.Fmt.{digit_glyph}

-- the k lowest digits of w to the base sixteen, the highest first, in capitals
unfoldable pub hex_digits : ℕ → ℕ → List ℕ
hex_digits zero w = []
hex_digits (suc k) w = digit_glyph true (w / 2 ^ (4 * k) % 16) ∷ hex_digits k w

-- a word as eight digits
abbrev pub hex_word : ℕ → List ℕ
hex_word w = hex_digits 8 w
