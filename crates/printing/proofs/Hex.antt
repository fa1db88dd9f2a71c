-- A word as eight digits. Assumes nothing.
use Rattle.std.proofs.Common.{◌≡◌, ℕ, zero, suc, ◌+◌, ◌-◌, ◌*◌, ◌/◌, ◌%◌, ◌^◌, ◌<◌, ◌≤◌, true, false, Bool, cond, eqb, List, [], ◌∷◌, ◌++◌, length, replicate, refl, sym, ap, ◌∙◌, append_assoc, append-nil, arith}
use Rattle.std.proofs.Math.Nat.{div-div-eq-div-mul, zero-div}
use Rattle.std.proofs.lemmas.Nat.{pow-add}
use Rattle.std.proofs.lemmas.Bool.{eq-eqb, eqb-true}
use Rattle.std.specs.Fmt.{digit_glyph, digits, digits_onto, char_count, padded_integral, format_spec}
use Rattle.printing.specs.Numerals.{hex_digits, hex_word}

abbrev glyph : ℕ → ℕ
glyph n = digit_glyph true (n % 16)

-- four bits further up
further : (k n : ℕ) → n / 2 ^ (4 * suc k) ≡ n / 16 / 2 ^ (4 * k)
further k n =
    let e : 4 * suc k ≡ 4 + 4 * k = omega arith in
    ap (λ (j : ℕ). n / 2 ^ j) e ∙ ap (λ (j : ℕ). n / j) (pow-add 2 4 (4 * k)) ∙ sym (div-div-eq-div-mul n 16 (2 ^ (4 * k)))

-- the lowest digit apart
lowest : (k n : ℕ) → hex_digits (suc k) n ≡ hex_digits k (n / 16) ++ (glyph n ∷ [])
unfolding hex_digits
lowest zero n = ap (λ (m : ℕ). glyph m ∷ []) (let e : n / 1 ≡ n = omega arith in e)
lowest (suc k) n = ap (λ (m : ℕ). glyph m ∷ hex_digits (suc k) n) (further k n) ∙ ap (λ (ds : List ℕ). glyph (n / 16 / 2 ^ (4 * k)) ∷ ds) (lowest k n)

zeros : (k n : ℕ) → n ≡ 0 → hex_digits k n ≡ replicate k 48
unfolding hex_digits
zeros zero n h = refl
zeros (suc k) n h =
    let e : n / 2 ^ (4 * k) ≡ 0 = ap (λ (m : ℕ). m / 2 ^ (4 * k)) h ∙ zero-div (2 ^ (4 * k)) in
    ap (λ (m : ℕ). digit_glyph true (m % 16) ∷ hex_digits k n) e ∙ ap (λ (ds : List ℕ). 48 ∷ ds) (zeros k n h)

-- zeros before the digits, as many as are wanted
abbrev wide : ℕ → List ℕ → List ℕ → List ℕ
wide k acc ds = replicate (suc k + length acc - length ds) 48 ++ ds

-- the lowest digit goes before what is written so far
moved : (k n : ℕ) (acc : List ℕ) → hex_digits k (n / 16) ++ (glyph n ∷ acc) ≡ hex_digits (suc k) n ++ acc
moved k n acc = sym (ap (λ (ds : List ℕ). ds ++ acc) (lowest k n) ∙ append_assoc (hex_digits k (n / 16)) (glyph n ∷ []) acc)

ended : (k n : ℕ) (acc : List ℕ) → n / 16 ≡ 0 → wide k acc (glyph n ∷ acc) ≡ hex_digits (suc k) n ++ acc
ended k n acc none =
    let more : List ℕ = glyph n ∷ acc in
    let left : suc k + length acc - length more ≡ k = omega arith in
    ap (λ (i : ℕ). replicate i 48 ++ more) left ∙ ap (λ (ds : List ℕ). ds ++ more) (sym (zeros k (n / 16) none)) ∙ moved k n acc

padded : (k j n : ℕ) (acc : List ℕ) → k ≤ j → n < 16 ^ suc k → wide k acc (digits_onto (suc j) 16 true n acc) ≡ hex_digits (suc k) n ++ acc
padded zero j n acc m h =
    let none : n / 16 ≡ 0 = omega arith in
    ap (λ (b : Bool). wide 0 acc (cond b (glyph n ∷ acc) (digits_onto j 16 true (n / 16) (glyph n ∷ acc)))) (eq-eqb (n / 16) 0 none) ∙ ended 0 n acc none
padded (suc k) zero n acc m h = absurd (omega arith)
padded (suc k) (suc j) n acc m h = by (eqb (n / 16) 0) refl (padded k j (n / 16) (glyph n ∷ acc) (omega arith) (omega arith))
  where
    more : List ℕ
    more = glyph n ∷ acc

    ds : List ℕ
    ds = digits_onto (suc j) 16 true (n / 16) more

    by : (b : Bool) → b ≡ eqb (n / 16) 0 → wide k more ds ≡ hex_digits (suc k) (n / 16) ++ more → wide (suc k) acc (cond b more ds) ≡ hex_digits (suc (suc k)) n ++ acc
    by true e next = ended (suc k) n acc (eqb-true (n / 16) 0 (sym e))
    by false e next =
        let same : suc (suc k) + length acc - length ds ≡ suc k + length more - length ds = omega arith in
        ap (λ (i : ℕ). replicate i 48 ++ ds) same ∙ next ∙ moved (suc k) n acc

filled : (ds : List ℕ) → padded_integral (format_spec 32 0 4 8 (2 ^ 64 - 1)) false [] ds ≡ wide 7 [] ds
unfolding padded_integral char_count
filled ds =
    let same : 8 - length ds - 0 - 0 ≡ 8 - length ds = omega arith in
    ap (λ (i : ℕ). replicate i 48 ++ (ds ++ [])) same ∙ ap (λ (xs : List ℕ). replicate (8 - length ds) 48 ++ xs) (append-nil ds)

onto : (n : ℕ) → digits 16 true n ≡ digits_onto 64 16 true n []
unfolding digits
onto n = refl

-- what `{:08X}` writes
pub hex_padded : (n : ℕ) → n < 2 ^ 32 → padded_integral (format_spec 32 0 4 8 (2 ^ 64 - 1)) false [] (digits 16 true n) ≡ hex_word n
hex_padded n h = filled (digits 16 true n) ∙ ap (wide 7 []) (onto n) ∙ padded 7 63 n [] (omega arith) (omega arith) ∙ append-nil (hex_word n)
