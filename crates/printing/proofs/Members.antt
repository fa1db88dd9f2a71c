-- The members of a set, as a loop takes them. Assumes nothing.
use Rattle.std.proofs.Common.{◌≡◌, ℕ, List, [], ◌∷◌, sym, ap, ◌∙◌, subst}
use Rattle.std.specs.Iterator.{Drains}
use Rattle.lts.specs.Sets.{members}
use Rattle.lts.specs.declared.members.Members.{Members}
use Rattle.lts.proofs.Taken.{takes}

pub drained : (xs : List ℕ) (s : Members) → Drains takes s xs → xs ≡ members s.rest
drained [] s d = sym (subst (λ (t : Members). members t.rest ≡ []) (sym d.1.1) d.1.2.0)
drained (x ∷ xs) s d = ap (λ (l : List ℕ). x ∷ l) (drained xs d.1.1.0 (d.0, (d.1.0, d.1.1.2, d.1.2))) ∙ sym d.1.1.1
