-- Words laid over a buffer, one after another. Assumes nothing.
use Rattle.std.proofs.Common.{◌≡◌, ℕ, ◌+◌, ◌<◌, ◌≤◌, List, [], ◌∷◌, ◌++◌, length, get_or, take, drop, set, Ok, Err, sym, refl, ap, ◌∙◌, ap₂, append_assoc, add-zero, zero-add, arith, length-append, take-append-drop, length-take, le-leb}
use borrow.Author.Tests.{lt-leb}
use lib.Seq.{set-append_seam, take-append_seam, drop-append-add}
use Rattle.std.proofs.lemmas.List.{drop_more, drop-drop}
use Rattle.cards.specs.Contents.{laid, wrote, buffer}

front : ℕ → List ℕ → List ℕ → List ℕ
front at ws out = take at out ++ ws

front_length : (at : ℕ) (ws out : List ℕ) → at ≤ length out → length (front at ws out) ≡ at + length ws
unfolding front
front_length at ws out h = omega (arith, length-append (take at out) ws, length-take at out)

laid_front : (at : ℕ) (ws out : List ℕ) → laid at ws out ≡ front at ws out ++ drop (at + length ws) out
unfolding front
laid_front at ws out = sym (append_assoc (take at out) ws (drop (at + length ws) out))

more : (at : ℕ) (ws out : List ℕ) (w : ℕ) → laid at (ws ++ (w ∷ [])) out ≡ front at ws out ++ (w ∷ drop (at + length ws + 1) out)
unfolding front
more at ws out w =
    let e : at + length (ws ++ (w ∷ [])) ≡ at + length ws + 1 = omega (arith, length-append ws (w ∷ [])) in
    ap (λ (j : ℕ). take at out ++ ((ws ++ (w ∷ [])) ++ drop j out)) e
    ∙ ap (λ (r : List ℕ). take at out ++ r) (append_assoc ws (w ∷ []) (drop (at + length ws + 1) out))
    ∙ sym (append_assoc (take at out) ws (w ∷ drop (at + length ws + 1) out))

pub laid_none : (at : ℕ) (out : List ℕ) → laid at [] out ≡ out
laid_none at out = rw (add-zero at) (take-append-drop at out)

-- one word more
pub laid_next : (at : ℕ) (ws out : List ℕ) (w : ℕ) → at + length ws < length out → set (laid at ws out) (at + length ws) w ≡ laid at (ws ++ (w ∷ [])) out
laid_next at ws out w h =
    let k : ℕ = at + length ws in
    let xs = front at ws out in
    let n = front_length at ws out (omega arith) in
    let whole : laid at ws out ≡ xs ++ (get_or out k 0 ∷ drop (k + 1) out) = laid_front at ws out ∙ ap (λ (r : List ℕ). xs ++ r) (drop_more out k 0 h) in
    let put : set (laid at ws out) k w ≡ xs ++ (w ∷ drop (k + 1) out) =
    ap (λ (r : List ℕ). set r k w) whole ∙ ap (λ (j : ℕ). set (xs ++ (get_or out k 0 ∷ drop (k + 1) out)) j w) (sym n) ∙ set-append_seam xs (get_or out k 0) (drop (k + 1) out) w in
    put ∙ sym (more at ws out w)

-- the same, as a loop finds it
pub laid_step : (at place : ℕ) (ws more out now : List ℕ) (w : ℕ) → now ≡ laid at ws out → place ≡ at + length ws → place < length out → more ≡ ws ++ (w ∷ [])
    → set now place w ≡ laid at more out
laid_step at place ws more out now w e p h m =
    ap (λ (r : List ℕ). set r place w) e ∙ ap (λ (j : ℕ). set (laid at ws out) j w) p ∙ laid_next at ws out w (omega arith)
    ∙ ap (λ (vs : List ℕ). laid at vs out) (sym m)

-- what was laid further on over what was laid before
pub laid_on : (at : ℕ) (us vs out : List ℕ) → at + length us ≤ length out → laid (at + length us) vs (laid at us out) ≡ laid at (us ++ vs) out
unfolding front
laid_on at us vs out h =
    let k : ℕ = at + length us in
    let xs = front at us out in
    let n = front_length at us out (omega arith) in
    let t : take k (laid at us out) ≡ xs = ap (take k) (laid_front at us out) ∙ ap (λ (j : ℕ). take j (xs ++ drop k out)) (sym n) ∙ take-append_seam xs (drop k out) in
    let j : k + length vs ≡ length xs + length vs = omega arith in
    let d : drop (k + length vs) (laid at us out) ≡ drop (length vs) (drop k out) =
    ap (drop (k + length vs)) (laid_front at us out) ∙ ap (λ (i : ℕ). drop i (xs ++ drop k out)) j ∙ drop-append-add xs (drop k out) (length vs) in
    let e : k + length vs ≡ at + length (us ++ vs) = omega (arith, length-append us vs) in
    ap₂ (λ (l r : List ℕ). l ++ (vs ++ r)) t (d ∙ drop-drop (length vs) k out ∙ ap (λ (i : ℕ). drop i out) e)
    ∙ append_assoc (take at out) us (vs ++ drop (at + length (us ++ vs)) out) ∙ ap (λ (r : List ℕ). take at out ++ r) (sym (append_assoc us vs (drop (at + length (us ++ vs)) out)))

-- a head, lines, passing states and an end laid one after another are laid together
pub laid_whole : (head last n k : ℕ) (ls ps out first second third : List ℕ) → length ls ≡ n → length ps ≡ k → 1 + n + k < length out
    → first ≡ set out 0 head → second ≡ laid 1 ls first → third ≡ laid (1 + n) ps second
    → set third (1 + n + k) last ≡ (head ∷ (ls ++ (ps ++ (last ∷ [])))) ++ drop (length (head ∷ (ls ++ (ps ++ (last ∷ []))))) out
laid_whole head last n k ls ps out first second third hn hk room e f g =
    let a : first ≡ laid 0 (head ∷ []) out = e ∙ laid_step 0 0 [] (head ∷ []) out out head (sym (laid_none 0 out)) refl (omega arith) refl in
    let b : second ≡ laid 0 (head ∷ ls) out = f ∙ ap (laid 1 ls) a ∙ laid_on 0 (head ∷ []) ls out (omega arith) in
    let j : 1 + n ≡ 0 + length (head ∷ ls) = omega arith in
    let c : third ≡ laid 0 ((head ∷ ls) ++ ps) out =
    g ∙ ap₂ (λ (i : ℕ) (o : List ℕ). laid i ps o) j b ∙ laid_on 0 (head ∷ ls) ps out (omega arith) in
    let m : 1 + n + k ≡ 0 + length ((head ∷ ls) ++ ps) = omega (arith, length-append (head ∷ ls) ps) in
    let all : head ∷ (ls ++ (ps ++ (last ∷ []))) ≡ ((head ∷ ls) ++ ps) ++ (last ∷ []) = sym (append_assoc (head ∷ ls) ps (last ∷ [])) in
    laid_step 0 (1 + n + k) ((head ∷ ls) ++ ps) (head ∷ (ls ++ (ps ++ (last ∷ [])))) out third last c m room all
    ∙ ap (λ (i : ℕ). (head ∷ (ls ++ (ps ++ (last ∷ [])))) ++ drop i out) (zero-add (length (head ∷ (ls ++ (ps ++ (last ∷ []))))))

-- a buffer that is too short, and one that is not
pub short : (ws out : List ℕ) → length out < length ws → (Err record {} ≡ wrote ws out) × (out ≡ buffer ws out)
short ws out h = (rw (lt-leb (length ws) (length out) h), rw (lt-leb (length ws) (length out) h))

pub long : (ws out new : List ℕ) (n : ℕ) → length ws ≤ length out → n ≡ length ws → new ≡ ws ++ drop (length ws) out → (Ok n ≡ wrote ws out) × (new ≡ buffer ws out)
long ws out new n h e f = (rw (le-leb (length ws) (length out) h) (ap Ok e), rw (le-leb (length ws) (length out) h) f)
