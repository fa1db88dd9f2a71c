-- What a file of bytes holds, by its words. Assumes nothing.
use Rattle.std.proofs.Common.{◌≡◌, ℕ, zero, suc, ◌+◌, ◌*◌, ◌/◌, ◌%◌, ◌<◌, ◌≤◌, min, Bool, true, false, List, ◌∷◌, map, length, take, drop, slice_index, Ok, Err, Result, sym, refl, ap, ap₂, ◌∙◌, add-zero, arith, length-take, eq-eqb, ne_eqb}
use Rattle.std.specs.Int.{w32, from_le_bytes}
use Rattle.std.specs.List.{range_with_len}
use Rattle.std.specs.Simd.{first_chunks}
use Rattle.std.proofs.lemmas.List.{get_or-take, get_or-drop, drop-drop, length-map}
use Rattle.std.proofs.lemmas.List.FromFn.{length-range_with_len}
use Rattle.cards.specs.declared.faults.Reason.TheVariants.{Trailing}
use Rattle.cards.specs.declared.faults.WordFault.{WordFault}
use Rattle.cards.specs.declared.lines.Head.{Head}
use Rattle.cards.specs.declared.lines.Role.{Role}
use Rattle.cards.specs.Bytes.{looked, word_at, word_count, file_words, whole, unless_left, in_card, read_bytes}
use Rattle.cards.specs.Cards.{told}
use Rattle.cards.specs.Contents.{Contents, held, read_words}
use Rattle.cards.specs.Reading.{check}

-- four bytes on from a place, as a word
one_word : (m k : ℕ) (bs : List ℕ) → (k + 1) * 4 ≤ m → from_le_bytes w32 (take 4 (drop (k * 4) (take m bs))) ≡ word_at bs k
one_word m k bs h =
    let byte : (i : ℕ) → i < 4 → slice_index (take 4 (drop (k * 4) (take m bs))) i ≡ slice_index bs (k * 4 + i) =
    λ i l. get_or-take 4 (drop (k * 4) (take m bs)) i 0 l ∙ get_or-drop (k * 4) (take m bs) i 0 ∙ get_or-take m bs (k * 4 + i) 0 (omega arith) in
    let b0 : slice_index (take 4 (drop (k * 4) (take m bs))) 0 ≡ slice_index bs (k * 4) = byte 0 (omega arith) ∙ ap (λ (j : ℕ). slice_index bs j) (add-zero (k * 4)) in
    rw (b0, byte 1 (omega arith), byte 2 (omega arith), byte 3 (omega arith))

words_on : (m n k : ℕ) (bs : List ℕ) → (k + n) * 4 ≤ m → map (λ c. from_le_bytes w32 c) (first_chunks 4 n (drop (k * 4) (take m bs))) ≡ map (word_at bs) (range_with_len k n)
words_on m zero k bs h = refl
words_on m (suc n) k bs h =
    let d : drop 4 (drop (k * 4) (take m bs)) ≡ drop ((k + 1) * 4) (take m bs) = drop-drop 4 (k * 4) (take m bs) ∙ ap (λ (j : ℕ). drop j (take m bs)) (omega arith) in
    ap₂ (λ (w : ℕ) (ws : List ℕ). w ∷ ws) (one_word m k bs (omega arith))
    (ap (λ (xs : List ℕ). map (λ c. from_le_bytes w32 c) (first_chunks 4 n xs)) d ∙ words_on m n (k + 1) bs (omega arith))

-- the words of a file, four bytes each
pub chunked : (m : ℕ) (bs : List ℕ) (chunks : List (List ℕ)) (ws : List ℕ) → m ≡ min (length bs) 1292 → chunks ≡ first_chunks 4 (length (take m bs) / 4) (take m bs)
    → ws ≡ map (λ c. from_le_bytes w32 c) chunks → ws ≡ file_words bs
unfolding file_words
chunked m bs chunks ws e f g =
    let n : ℕ = length (take m bs) / 4 in
    let w : n ≡ word_count bs = omega (arith, length-take 1292 bs, length-take m bs) in
    g ∙ ap (λ (cs : List (List ℕ)). map (λ c. from_le_bytes w32 c) cs) f ∙ words_on m n 0 bs (omega (arith, length-take m bs))
    ∙ ap (λ (k : ℕ). map (word_at bs) (range_with_len 0 k)) w

pub file_words_length : (bs : List ℕ) → length (file_words bs) ≡ word_count bs
unfolding file_words
file_words_length bs = length-map (range_with_len 0 (word_count bs)) (word_at bs) ∙ length-range_with_len 0 (word_count bs)

module _ (role : Role) (bs ws : List ℕ) (e : ws ≡ file_words bs) where
  pub faulty : (f : WordFault) → Err f ≡ check role ws → read_bytes role bs ≡ Err (record { word = f })
  unfolding read_bytes read_words
  faulty f c = ap (λ (r : Result Head WordFault). in_card (unless_left (whole bs) (word_count bs) (held (file_words bs) r))) (ap (check role) (sym e) ∙ sym c)

  pub left_over : (h : Head) (n : ℕ) → Ok h ≡ check role ws → 0 < min (length bs) 1292 % 4 → n ≡ word_count bs
      → read_bytes role bs ≡ Err (record { word = record { reason = Trailing; place = n } })
  unfolding read_bytes read_words
  left_over h n c l m =
      let w : whole bs ≡ false = ne_eqb (length (looked bs) % 4) 0 (omega (arith, length-take 1292 bs)) in
      ap (λ (r : Result Head WordFault). in_card (unless_left (whole bs) (word_count bs) (held (file_words bs) r))) (ap (check role) (sym e) ∙ sym c)
      ∙ (rw (w, m))

unwrapped : (n : ℕ) (r : Result Contents WordFault) → unless_left true n r ≡ r
unwrapped n (Ok c) = refl
unwrapped n (Err e) = refl

pub none_left : (role : Role) (bs : List ℕ) → min (length bs) 1292 % 4 ≡ 0 → read_bytes role bs ≡ in_card (read_words role (file_words bs))
unfolding read_bytes
none_left role bs l =
    let w : whole bs ≡ true = eq-eqb (length (looked bs) % 4) 0 (omega (arith, length-take 1292 bs)) in
    ap (λ (b : Bool). in_card (unless_left b (word_count bs) (read_words role (file_words bs)))) w ∙ ap in_card (unwrapped (word_count bs) (read_words role (file_words bs)))

-- checking a file tells what reading it tells
module _ (role : Role) (bs ws : List ℕ) (e : ws ≡ file_words bs) (f : read_bytes role bs ≡ in_card (read_words role (file_words bs))) where
  known : (r : Result Head WordFault) → r ≡ check role ws → read_bytes role bs ≡ in_card (held (file_words bs) r)
  unfolding read_words
  known r c = f ∙ ap (λ (x : Result Head WordFault). in_card (held (file_words bs) x)) (sym (c ∙ ap (check role) e))

  pub checked_good : (h : Head) → Ok h ≡ check role ws → Ok tt ≡ told (read_bytes role bs)
  checked_good h c = sym (ap told (known (Ok h) c))

  pub checked_bad : (g : WordFault) → Err g ≡ check role ws → Err (record { word = g }) ≡ told (read_bytes role bs)
  checked_bad g c = sym (ap told (known (Err g) c))
