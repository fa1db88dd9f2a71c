-- Checking words one after another. Assumes nothing.
use Rattle.std.proofs.Common.{◌≡◌, ℕ, ◌+◌, ◌<◌, ◌≤◌, List, length, get_or, drop, Ok, Err, sym, ap, ◌∙◌}
use Rattle.std.proofs.lemmas.List.{drop_all, drop_more}
use Rattle.cards.specs.declared.faults.WordFault.{WordFault}
use Rattle.cards.specs.declared.lines.Progress.{Progress}
use Rattle.cards.specs.declared.lines.Role.{Role}
use Rattle.cards.specs.Reading.{step, ended, at_place, and_then, check_from}

module _ (role : Role) (ws : List ℕ) (i : ℕ) (p : Progress) where
  one : i < length ws → check_from role p i (drop i ws) ≡ and_then (λ p'. check_from role p' (i + 1) (drop (i + 1) ws)) (at_place i (step role p (get_or ws i 0)))
  unfolding check_from
  one h = rw (drop_more ws i 0)

  pub check_more : (p' : Progress) → i < length ws → Ok p' ≡ at_place i (step role p (get_or ws i 0)) → check_from role p i (drop i ws) ≡ check_from role p' (i + 1) (drop (i + 1) ws)
  check_more p' h e = one h ∙ ap (and_then (λ p'. check_from role p' (i + 1) (drop (i + 1) ws))) (sym e)

  pub check_fault : (f : WordFault) → i < length ws → Err f ≡ at_place i (step role p (get_or ws i 0)) → check_from role p i (drop i ws) ≡ Err f
  check_fault f h e = one h ∙ ap (and_then (λ p'. check_from role p' (i + 1) (drop (i + 1) ws))) (sym e)

  pub check_all : length ws ≤ i → check_from role p i (drop i ws) ≡ at_place i (ended p)
  unfolding check_from
  check_all h = rw (drop_all i ws)
