-- Transitions as text, one after another. Assumes nothing.
use Rattle.std.proofs.Common.{◌≡◌, ℕ, zero, suc, ◌+◌, List, ◌++◌, sym, ap, ◌∙◌, append_assoc, append-nil, arith}
use Rattle.printing.specs.Systems.{text_from}

from_split : (f : ℕ → List ℕ) (k a b : ℕ) → text_from f k (a + b) ≡ text_from f k a ++ text_from f (k + a) b
unfolding text_from
from_split f k zero b = let e : k + 0 ≡ k = omega arith in let z : 0 + b ≡ b = omega arith in ap (text_from f k) z ∙ ap (λ (j : ℕ). text_from f j b) (sym e)
from_split f k (suc a) b =
    let e : suc a + b ≡ suc (a + b) = omega arith in
    let m : k + 1 + a ≡ k + suc a = omega arith in
    ap (text_from f k) e ∙ ap (λ (t : List ℕ). f k ++ t) (from_split f (k + 1) a b ∙ ap (λ (j : ℕ). text_from f (k + 1) a ++ text_from f j b) m) ∙ sym (append_assoc (f k) (text_from f (k + 1) a) (text_from f (k + suc a) b))

-- one number more
pub from_more : (f : ℕ → List ℕ) (n : ℕ) → text_from f 0 n ++ f n ≡ text_from f 0 (n + 1)
unfolding text_from
from_more f n =
    let e : 0 + n ≡ n = omega arith in
    sym (from_split f 0 n 1 ∙ ap (λ (t : List ℕ). text_from f 0 n ++ t) (append-nil (f (0 + n)) ∙ ap f e))
