-- Tests as types: what holds when a test is true. Assumes nothing.
use Rattle.std.proofs.Common.{◌≡◌, ℕ, Bool, true, false, ◌&&◌, ◌||◌, T, eqb, ◌⊎◌, subst, inl, inr}
use lib.Dec.{eqb_refl}

pub dec_T : (b : Bool) → Dec (T b)
dec_T true = yes tt
dec_T false = no (λ t. t)

pub eq_T : (m n : ℕ) → m ≡ n → T (eqb m n)
eq_T m n e = subst (λ (x : ℕ). T (eqb m x)) e (eqb_refl m)

pub or_T : (a b : Bool) → T (a || b) → T a ⊎ T b
or_T true b t = inl tt
or_T false b t = inr t

pub T-left : (a b : Bool) → T a → T (a || b)
T-left true b t = tt
T-left false b t = absurd t

pub T-right : (a b : Bool) → T b → T (a || b)
T-right true b t = tt
T-right false b t = t

pub and_T : (a b : Bool) → T (a && b) → T a × T b
and_T true b t = (tt, t)
and_T false b t = absurd t

pub T_and : (a b : Bool) → T a → T b → T (a && b)
T_and true b s t = t
T_and false b s t = absurd s
