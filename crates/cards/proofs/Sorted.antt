-- What good parts are: lines, then passing states, then the end, each in order. Assumes nothing.
use Rattle.std.specs.Prelude.{◌≡◌, ℕ, ◌-◌, ◌*◌, ◌^◌, ◌<◌, ◌≤◌, true, List, [], ◌∷◌, ◌++◌, map, length, nat_lt}
use Rattle.std.proofs.Math.Path.{refl, sym, ap}
use Rattle.std.proofs.Common.{arith, lt-ltb, ltb-true}
use Rattle.lts.specs.Sets.{Above, Ascending}
use Rattle.cards.specs.declared.lines.Label.{Label}
use Rattle.cards.specs.declared.lines.Label.TheVariants.{Action, Silent}
use Rattle.cards.specs.declared.lines.Line.{Line as LineT}
use Rattle.cards.specs.declared.lines.Role.{Role}
use Rattle.cards.specs.declared.lines.Role.TheVariants.{Card, Test}
use Rattle.cards.specs.declared.lines.Word.{Word}
use Rattle.cards.specs.declared.lines.Word.TheVariants.{Line, Passing, End}
use Rattle.cards.specs.Words.{line_word, passing_word, end_word, encode}
use Rattle.cards.specs.Lines.{label_fits, lines_fit, rising}
use Rattle.cards.specs.Reading.{lines_in, passing_in}
use Rattle.cards.proofs.Parts.{PartFits, end_fits, test_fits, decode_encode}
use Rattle.cards.proofs.Accepted.{Good}
use Rattle.cards.specs.Meant.{both}

unfoldable pub lines_of : List Word → List LineT
lines_of [] = []
lines_of (Line l ∷ xs) = l ∷ lines_of xs
lines_of (Passing q ∷ xs) = lines_of xs
lines_of (End ∷ xs) = lines_of xs

unfoldable pub passing_of : List Word → List ℕ
passing_of [] = []
passing_of (Line l ∷ xs) = passing_of xs
passing_of (Passing q ∷ xs) = q ∷ passing_of xs
passing_of (End ∷ xs) = passing_of xs

pub rising_weaker : (b c : ℕ) (xs : List ℕ) → b < c → rising c xs ≡ true → rising b xs ≡ true
unfolding rising
rising_weaker b c [] h e = refl
rising_weaker b c (x ∷ xs) h e =
    let p = both (nat_lt c x) (rising x xs) e in
    let l = ltb-true c x p.0 in
    rw (lt-ltb b x (omega arith)) p.1

low : (f : ℕ) (x : Label) (t : ℕ) → f < 64 → t < 64 → label_fits x ≡ true → line_word (record { from = f; label = x; to = t }) < 4 * 2 ^ 28
low f (Action a) t hf ht e = omega (arith, ltb-true a 32 e)
low f Silent t hf ht e = omega arith

-- the words of lines are below those of passing states
pub line_low : (l : LineT) → l.from < 64 → l.to < 64 → label_fits l.label ≡ true → line_word l < 4 * 2 ^ 28
line_low l hf ht e = low l.from l.label l.to hf ht e

-- every number of the list is below n
abbrev pub Below : ℕ → List ℕ → Type 0
Below n [] = Unit {0}
Below n (x ∷ xs) = (x < n) × Below n xs

module _ (role : Role) (n : ℕ) where
  pub lines_in_lem : (b k : ℕ) (xs : List Word) → Good role n b k xs → lines_in (map encode xs) ≡ lines_of xs
  unfolding Good lines_in lines_of
  lines_in_lem b k [] g = absurd g
  lines_in_lem b k (Line l ∷ xs) g = rw (decode_encode Test (Line l) (test_fits role (Line l) g.0)) (ap (λ (ls : List LineT). l ∷ ls) (lines_in_lem (encode (Line l)) (k - 1) xs g.4))
  lines_in_lem b k (Passing q ∷ xs) g = rw (decode_encode Test (Passing q) (test_fits role (Passing q) g.0)) (lines_in_lem (encode (Passing q)) k xs g.3)
  lines_in_lem b k (End ∷ []) g = rw (decode_encode Test End (end_fits Test))
  lines_in_lem b k (End ∷ (x ∷ xs)) g = absurd g

  pub passing_in_lem : (b k : ℕ) (xs : List Word) → Good role n b k xs → passing_in (map encode xs) ≡ passing_of xs
  unfolding Good passing_in passing_of
  passing_in_lem b k [] g = absurd g
  passing_in_lem b k (Line l ∷ xs) g = rw (decode_encode Test (Line l) (test_fits role (Line l) g.0)) (passing_in_lem (encode (Line l)) (k - 1) xs g.4)
  passing_in_lem b k (Passing q ∷ xs) g = rw (decode_encode Test (Passing q) (test_fits role (Passing q) g.0)) (ap (λ (qs : List ℕ). q ∷ qs) (passing_in_lem (encode (Passing q)) k xs g.3))
  passing_in_lem b k (End ∷ []) g = rw (decode_encode Test End (end_fits Test))
  passing_in_lem b k (End ∷ (x ∷ xs)) g = absurd g

  pub lines_counted : (b k : ℕ) (xs : List Word) → Good role n b k xs → length (lines_of xs) ≡ k
  unfolding Good lines_of
  lines_counted b k [] g = absurd g
  lines_counted b k (Line l ∷ xs) g = omega (arith, lines_counted (encode (Line l)) (k - 1) xs g.4, g.3)
  lines_counted b k (Passing q ∷ xs) g = lines_counted (encode (Passing q)) k xs g.3
  lines_counted b k (End ∷ []) g = sym g.1
  lines_counted b k (End ∷ (x ∷ xs)) g = absurd g

  pub lines_fit_lem : (b k : ℕ) (xs : List Word) → Good role n b k xs → lines_fit n (lines_of xs) ≡ true
  unfolding Good lines_fit lines_of PartFits
  lines_fit_lem b k [] g = absurd g
  lines_fit_lem b k (Line l ∷ xs) g = rw (g.1, g.0.2) (lines_fit_lem (encode (Line l)) (k - 1) xs g.4)
  lines_fit_lem b k (Passing q ∷ xs) g = lines_fit_lem (encode (Passing q)) k xs g.3
  lines_fit_lem b k (End ∷ []) g = refl
  lines_fit_lem b k (End ∷ (x ∷ xs)) g = absurd g

  pub lines_rise : (b k : ℕ) (xs : List Word) → Good role n b k xs → rising b (map line_word (lines_of xs)) ≡ true
  unfolding Good rising lines_of
  lines_rise b k [] g = absurd g
  lines_rise b k (Line l ∷ xs) g = rw (lt-ltb b (line_word l) g.2) (lines_rise (encode (Line l)) (k - 1) xs g.4)
  lines_rise b k (Passing q ∷ xs) g = rising_weaker b (encode (Passing q)) (map line_word (lines_of xs)) g.2 (lines_rise (encode (Passing q)) k xs g.3)
  lines_rise b k (End ∷ []) g = refl
  lines_rise b k (End ∷ (x ∷ xs)) g = absurd g

  -- after a passing state no line comes
  no_lines : (b k : ℕ) (xs : List Word) → Good role n b k xs → 4 * 2 ^ 28 ≤ b → lines_of xs ≡ []
  unfolding Good lines_of PartFits
  no_lines b k [] g h = absurd g
  no_lines b k (Line l ∷ xs) g h = absurd (omega (arith, line_low l g.0.0 g.0.1 g.0.2, g.2))
  no_lines b k (Passing q ∷ xs) g h = no_lines (encode (Passing q)) k xs g.3 (omega arith)
  no_lines b k (End ∷ []) g h = refl
  no_lines b k (End ∷ (x ∷ xs)) g h = absurd g

  pub in_order : (b k : ℕ) (xs : List Word) → Good role n b k xs → map encode xs ≡ map line_word (lines_of xs) ++ (map passing_word (passing_of xs) ++ (end_word ∷ []))
  unfolding Good lines_of passing_of
  in_order b k [] g = absurd g
  in_order b k (Line l ∷ xs) g = ap (λ (ws : List ℕ). line_word l ∷ ws) (in_order (encode (Line l)) (k - 1) xs g.4)
  in_order b k (Passing q ∷ xs) g =
      let e = no_lines (encode (Passing q)) k xs g.3 (omega arith) in
      let i = in_order (encode (Passing q)) k xs g.3 in
      rw e (ap (λ (ws : List ℕ). passing_word q ∷ ws) (rw e at i))
  in_order b k (End ∷ []) g = refl
  in_order b k (End ∷ (x ∷ xs)) g = absurd g

  passing_above : (b k q : ℕ) (xs : List Word) → Good role n b k xs → passing_word q ≤ b → Above q (passing_of xs)
  unfolding Good passing_of
  passing_above b k q [] g h = absurd g
  passing_above b k q (Line l ∷ xs) g h = passing_above (encode (Line l)) (k - 1) q xs g.4 (omega (arith, g.2))
  passing_above b k q (Passing p ∷ xs) g h = (omega (arith, g.2), passing_above (encode (Passing p)) k q xs g.3 (omega (arith, g.2)))
  passing_above b k q (End ∷ []) g h = tt
  passing_above b k q (End ∷ (x ∷ xs)) g h = absurd g

  pub passing_ascends : (b k : ℕ) (xs : List Word) → Good role n b k xs → Ascending (passing_of xs)
  unfolding Good passing_of
  passing_ascends b k [] g = absurd g
  passing_ascends b k (Line l ∷ xs) g = passing_ascends (encode (Line l)) (k - 1) xs g.4
  passing_ascends b k (Passing q ∷ xs) g = (passing_above (encode (Passing q)) k q xs g.3 (omega arith), passing_ascends (encode (Passing q)) k xs g.3)
  passing_ascends b k (End ∷ []) g = tt
  passing_ascends b k (End ∷ (x ∷ xs)) g = absurd g

  pub passing_below : (b k : ℕ) (xs : List Word) → Good role n b k xs → Below n (passing_of xs)
  unfolding Good passing_of
  passing_below b k [] g = absurd g
  passing_below b k (Line l ∷ xs) g = passing_below (encode (Line l)) (k - 1) xs g.4
  passing_below b k (Passing q ∷ xs) g = (ltb-true q n g.1, passing_below (encode (Passing q)) k xs g.3)
  passing_below b k (End ∷ []) g = tt
  passing_below b k (End ∷ (x ∷ xs)) g = absurd g

-- a card has no passing states
pub card_passes_none : (n b k : ℕ) (xs : List Word) → Good Card n b k xs → passing_of xs ≡ []
unfolding Good passing_of PartFits
card_passes_none n b k [] g = absurd g
card_passes_none n b k (Line l ∷ xs) g = card_passes_none n (encode (Line l)) (k - 1) xs g.4
card_passes_none n b k (Passing q ∷ xs) g = absurd (let f = g.0.1 in let z : ◌≡◌ {A = ℕ} 0 1 = cc in omega arith)
card_passes_none n b k (End ∷ []) g = refl
card_passes_none n b k (End ∷ (x ∷ xs)) g = absurd g
