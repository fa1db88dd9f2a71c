-- Collecting what words hold, one word after another. Assumes nothing.
use Rattle.std.proofs.Common.{◌≡◌, ℕ, ◌+◌, ◌<◌, ◌≤◌, List, [], ◌++◌, length, get_or, drop, Some, None, Option, sym, refl, ap, ◌∙◌, append_assoc, append-nil, arith, length-append}
use Rattle.std.proofs.lemmas.List.{drop_all, drop_more}
use Rattle.cards.specs.declared.lines.Line.{Line as LineT}
use Rattle.cards.specs.declared.lines.Role.TheVariants.{Test}
use Rattle.cards.specs.declared.lines.Word.{Word}
use Rattle.cards.specs.declared.lines.Word.TheVariants.{Line, Passing, End}
use Rattle.cards.specs.Contents.{with_all}
use Rattle.cards.specs.Reading.{as_line, as_passing, lines_in, passing_in}
use Rattle.cards.specs.Words.{decode}

front_line : (o : Option Word) (rest : List LineT) → as_line o rest ≡ as_line o [] ++ rest
front_line None rest = refl
front_line (Some (Line l)) rest = refl
front_line (Some (Passing q)) rest = refl
front_line (Some End) rest = refl

front_passing : (o : Option Word) (s : ℕ) (rest : List ℕ) → with_all s (as_passing o rest) ≡ with_all (with_all s (as_passing o [])) rest
unfolding with_all
front_passing None s rest = refl
front_passing (Some (Line l)) s rest = refl
front_passing (Some (Passing q)) s rest = refl
front_passing (Some End) s rest = refl

module _ (ws : List ℕ) (i : ℕ) (o : Option Word) (h : i < length ws) (e : o ≡ decode Test (get_or ws i 0)) where
  pub lines_more : lines_in (drop i ws) ≡ as_line o (lines_in (drop (i + 1) ws))
  unfolding lines_in
  lines_more = rw (drop_more ws i 0) (ap (λ (x : Option Word). as_line x (lines_in (drop (i + 1) ws))) (sym e))

  pub passing_more : passing_in (drop i ws) ≡ as_passing o (passing_in (drop (i + 1) ws))
  unfolding passing_in
  passing_more = rw (drop_more ws i 0) (ap (λ (x : Option Word). as_passing x (passing_in (drop (i + 1) ws))) (sym e))

  -- what is collected with one word more
  pub lines_on : (old new : List LineT) → lines_in ws ≡ old ++ lines_in (drop i ws) → new ≡ old ++ as_line o [] → lines_in ws ≡ new ++ lines_in (drop (i + 1) ws)
  lines_on old new inv n =
      inv ∙ ap (λ (ls : List LineT). old ++ ls) (lines_more ∙ front_line o (lines_in (drop (i + 1) ws)))
      ∙ sym (append_assoc old (as_line o []) (lines_in (drop (i + 1) ws))) ∙ ap (λ (ls : List LineT). ls ++ lines_in (drop (i + 1) ws)) (sym n)

  pub passing_on : (s old new : ℕ) → s ≡ with_all old (passing_in (drop i ws)) → new ≡ with_all old (as_passing o []) → s ≡ with_all new (passing_in (drop (i + 1) ws))
  passing_on s old new inv n =
      inv ∙ ap (with_all old) passing_more ∙ front_passing o old (passing_in (drop (i + 1) ws))
      ∙ ap (λ (x : ℕ). with_all x (passing_in (drop (i + 1) ws))) (sym n)

  -- a line finds room
  pub line_room : (k : ℕ) (items : List LineT) → lines_in ws ≡ items ++ lines_in (drop i ws) → length (lines_in ws) ≤ k → length (items ++ as_line o []) ≤ k
  line_room k items inv room =
      let new = items ++ as_line o [] in
      let m = ap length (lines_on items new inv refl) in
      omega (arith, length-append new (lines_in (drop (i + 1) ws)))

-- all words are collected
pub lines_all : (ws : List ℕ) (i : ℕ) (items : List LineT) → length ws ≤ i → lines_in ws ≡ items ++ lines_in (drop i ws) → items ≡ lines_in ws
unfolding lines_in
lines_all ws i items h inv = sym (inv ∙ (rw (drop_all i ws) (append-nil items)))

pub passing_all : (ws : List ℕ) (i s p : ℕ) → length ws ≤ i → s ≡ with_all p (passing_in (drop i ws)) → p ≡ s
unfolding passing_in with_all
passing_all ws i s p h inv = sym (rw (drop_all i ws) at inv)
