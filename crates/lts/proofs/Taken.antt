-- The members of a set, as a loop or a chain takes them off one after another. Assumes nothing.
use Rattle.std.proofs.Common.{◌≡◌, ℕ, zero, suc, ◌+◌, ◌<◌, List, [], ◌∷◌, Option, MatchOption, arith}
use Rattle.std.proofs.lemmas.Bool.{cond_both}
use Rattle.lts.specs.Sets.{has, members, members_from}
use Rattle.lts.specs.declared.members.Members.{Members}

-- what `next` says
abbrev pub takes : Members → Option ℕ → Members → Type 0
takes s r t = MatchOption r ((members s.rest ≡ []) × (t.rest ≡ s.rest)) (λ q. members s.rest ≡ q ∷ members t.rest)

first_below : (n k s q : ℕ) (qs : List ℕ) → members_from k n s ≡ q ∷ qs → q < k + n
unfolding members_from
first_below zero k s q qs = λ e. cc
first_below (suc n) k s q qs = cond_both (has k s) (k ∷ members_from (suc k) n s) (members_from (suc k) n s) (λ (l : List ℕ). l ≡ q ∷ qs → q < k + suc n)
    (λ h e. let z : k ≡ q = cc in omega arith)
    (λ h e. omega (arith, first_below n (suc k) s q qs e))

-- a member is below 64
pub member_below : (s q : ℕ) (qs : List ℕ) → members s ≡ q ∷ qs → q < 64
member_below s q qs e = omega (arith, first_below 64 0 s q qs e)
