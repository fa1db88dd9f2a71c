-- The words that are accepted, by their parts. Assumes nothing.
use Rattle.std.specs.Prelude.{◌≡◌, ℕ, ◌+◌, ◌-◌, ◌<◌, Bool, true, false, cond, List, [], ◌∷◌, map, Some, None, Ok, Err, Option, Result, nat_lt, refl}
use Rattle.std.proofs.Common.{sym, ap₂, subst, arith, eq-eqb, eqb-true, lt-ltb, ltb-true}
use Rattle.cards.specs.declared.faults.Reason.TheVariants.{Range, Order, Lines}
use Rattle.cards.specs.declared.faults.WordFault.{WordFault}
use Rattle.cards.specs.declared.lines.Body.{Body}
use Rattle.cards.specs.declared.lines.Head.{Head}
use Rattle.cards.specs.declared.lines.Progress.{Progress}
use Rattle.cards.specs.declared.lines.Progress.TheVariants.{Inside, Ended}
use Rattle.cards.specs.declared.lines.Role.{Role}
use Rattle.cards.specs.declared.lines.Word.{Word}
use Rattle.cards.specs.declared.lines.Word.TheVariants.{Line, Passing, End}
use Rattle.cards.specs.Words.{encode, decode}
use Rattle.cards.specs.Reading.{within, counted, judged, moved, onward, step, at_place, and_then, check_from}
use Rattle.cards.proofs.Parts.{PartFits, end_fits, decode_encode, decode_sound}

-- true is not false, and what is Ok is no Err
pub clash : {A : Type 0} {x : A} {e : WordFault} → ◌≡◌ {A = Result A WordFault} (Err e) (Ok x) → ⊥
clash p = let z : ◌≡◌ {A = ℕ} 0 1 = cc in omega arith

-- what is known after a head h and a word b, where k lines are to come
abbrev pub known : Head → ℕ → ℕ → Body
known h b k = record { head = h; last = b; left = k }

-- good parts after a word b, where k lines are to come
unfoldable pub Good : Role → ℕ → ℕ → ℕ → List Word → Type 0
Good role n b k [] = ⊥
Good role n b k (Line l ∷ xs) = PartFits role (Line l) × (within n (Line l) ≡ true) × (b < encode (Line l)) × (0 < k) × Good role n (encode (Line l)) (k - 1) xs
Good role n b k (Passing q ∷ xs) = PartFits role (Passing q) × (within n (Passing q) ≡ true) × (b < encode (Passing q)) × Good role n (encode (Passing q)) k xs
Good role n b k (End ∷ []) = (b < encode End) × (k ≡ 0)
Good role n b k (End ∷ (x ∷ xs)) = ⊥

-- a word that was judged good, and what was made of the rest
record Judged (role : Role) (h : Head) (b k w : ℕ) (K : Progress → Result Head WordFault) (h' : Head) : Type 0 where
  part : Word
  taken : decode role w ≡ Some part
  inside : within h.states part ≡ true
  above : b < w
  awaited : counted k part ≡ true
  rest : K (moved (known h b k) w part) ≡ Ok h'

judge : (role : Role) (h : Head) (b k w i : ℕ) (K : Progress → Result Head WordFault) (h' : Head)
    → and_then K (at_place i (step role (Inside (known h b k)) w)) ≡ Ok h' → Judged role h b k w K h'
judge role h b k w i K h' e = by (decode role w) refl e
  where
    fourth : (x : Word) → decode role w ≡ Some x → within h.states x ≡ true → b < w → (c : Bool) → counted k x ≡ c
        → and_then K (at_place i (onward (known h b k) w (cond c (Ok x) (Err Lines)))) ≡ Ok h' → Judged role h b k w K h'
    fourth x d y l true c r = record { part = x; taken = d; inside = y; above = l; awaited = c; rest = r }
    fourth x d y l false c r = absurd (clash r)

    third : (x : Word) → decode role w ≡ Some x → within h.states x ≡ true → (a : Bool) → nat_lt b w ≡ a
        → and_then K (at_place i (onward (known h b k) w (cond a (cond (counted k x) (Ok x) (Err Lines)) (Err Order)))) ≡ Ok h'
        → Judged role h b k w K h'
    third x d y true l r = fourth x d y (ltb-true b w l) (counted k x) refl r
    third x d y false l r = absurd (clash r)

    second : (x : Word) → decode role w ≡ Some x → (a : Bool) → within h.states x ≡ a
        → and_then K (at_place i (onward (known h b k) w (cond a (cond (nat_lt b w) (cond (counted k x) (Ok x) (Err Lines)) (Err Order)) (Err Range)))) ≡ Ok h'
        → Judged role h b k w K h'
    second x d true y r = third x d y (nat_lt b w) refl r
    second x d false y r = absurd (clash r)

    by : (o : Option Word) → decode role w ≡ o → and_then K (at_place i (onward (known h b k) w (judged (known h b k) w o))) ≡ Ok h' → Judged role h b k w K h'
    by None d r = absurd (clash r)
    by (Some x) d r = second x d (within h.states x) refl r

-- the parts of accepted words
pub record Parts (role : Role) (h : Head) (b k : ℕ) (ws : List ℕ) (h' : Head) : Type 0 where
  pub parts : List Word
  pub words : ws ≡ map encode parts
  pub good : Good role h.states b k parts
  pub same : h ≡ h'

last : (role : Role) (h : Head) (i : ℕ) (ws : List ℕ) (h' : Head) → check_from role (Ended h) i ws ≡ Ok h' → (ws ≡ []) × (h ≡ h')
unfolding check_from
last role h i [] h' e = (refl, let r : h ≡ h' = cc in r)
last role h i (w ∷ ws) h' e = absurd (clash e)

joined : (role : Role) (h : Head) (b k w i : ℕ) (ws : List ℕ) (h' : Head) (x : Word) → encode x ≡ w → PartFits role x → within h.states x ≡ true
    → b < w → counted k x ≡ true → check_from role (moved (known h b k) w x) (i + 1) ws ≡ Ok h'
    → ((b k : ℕ) → check_from role (Inside (known h b k)) (i + 1) ws ≡ Ok h' → Parts role h b k ws h') → Parts role h b k (w ∷ ws) h'
unfolding Good
joined role h b k w i ws h' (Line l) e f y a c r further =
    let p = further w (k - 1) r in
    let g : Good role h.states (encode (Line l)) (k - 1) p.parts = subst (λ (v : ℕ). Good role h.states v (k - 1) p.parts) (sym e) p.good in
    record {
      parts = Line l ∷ p.parts;
      words = ap₂ (λ (v : ℕ) (vs : List ℕ). v ∷ vs) (sym e) p.words;
      good = (f, y, omega arith, ltb-true 0 k c, g);
      same = p.same;
    }
joined role h b k w i ws h' (Passing q) e f y a c r further =
    let p = further w k r in
    let g : Good role h.states (encode (Passing q)) k p.parts = subst (λ (v : ℕ). Good role h.states v k p.parts) (sym e) p.good in
    record {
      parts = Passing q ∷ p.parts;
      words = ap₂ (λ (v : ℕ) (vs : List ℕ). v ∷ vs) (sym e) p.words;
      good = (f, y, omega arith, g);
      same = p.same;
    }
joined role h b k w i ws h' End e f y a c r further =
    let z = last role h (i + 1) ws h' r in
    record {
      parts = End ∷ [];
      words = ap₂ (λ (v : ℕ) (vs : List ℕ). v ∷ vs) (sym e) z.0;
      good = (omega arith, eqb-true k 0 c);
      same = z.1;
    }

pub accepted : (role : Role) (h : Head) (b k i : ℕ) (ws : List ℕ) (h' : Head) → check_from role (Inside (known h b k)) i ws ≡ Ok h' → Parts role h b k ws h'
unfolding check_from
accepted role h b k i [] h' e = absurd (clash e)
accepted role h b k i (w ∷ ws) h' e =
    let j = judge role h b k w i (λ p. check_from role p (i + 1) ws) h' e in
    let d = decode_sound role w j.part j.taken in
    joined role h b k w i ws h' j.part d.0 d.1 j.inside j.above j.awaited j.rest (λ b' k' r. accepted role h b' k' (i + 1) ws h' r)

stepped : (role : Role) (h : Head) (b k w : ℕ) (x : Word) → decode role w ≡ Some x → within h.states x ≡ true → b < w → counted k x ≡ true
    → step role (Inside (known h b k)) w ≡ Ok (moved (known h b k) w x)
stepped role h b k w x d y l c = rw (d, y, lt-ltb b w l, c)

-- good parts are accepted
pub accepts : (role : Role) (h : Head) (b k i : ℕ) (xs : List Word) → Good role h.states b k xs → check_from role (Inside (known h b k)) i (map encode xs) ≡ Ok h
unfolding check_from Good
accepts role h b k i [] g = absurd g
accepts role h b k i (Line l ∷ xs) g =
    rw (stepped role h b k (encode (Line l)) (Line l) (decode_encode role (Line l) g.0) g.1 g.2 (lt-ltb 0 k g.3))
    (accepts role h (encode (Line l)) (k - 1) (i + 1) xs g.4)
accepts role h b k i (Passing q ∷ xs) g =
    rw (stepped role h b k (encode (Passing q)) (Passing q) (decode_encode role (Passing q) g.0) g.1 g.2 refl)
    (accepts role h (encode (Passing q)) k (i + 1) xs g.3)
accepts role h b k i (End ∷ []) g =
    rw (stepped role h b k (encode End) End (decode_encode role End (end_fits role)) refl g.0 (eq-eqb k 0 g.1))
accepts role h b k i (End ∷ (x ∷ xs)) g = absurd g
