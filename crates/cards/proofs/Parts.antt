-- Taking a word apart and putting it together undo each other. Assumes nothing.
use Rattle.std.specs.Prelude.{◌≡◌, ℕ, ◌+◌, ◌*◌, ◌^◌, ◌<◌, Bool, true, false, cond, ◌&&◌, ◌⊎◌, Some, None, Option, ◌==◌, refl}
use Rattle.std.proofs.Common.{subst, inl, inr, arith, eq-eqb, eqb-true, lt-ltb, ltb-true}
use Rattle.cards.specs.declared.lines.Label.{Label}
use Rattle.cards.specs.declared.lines.Label.TheVariants.{Action, Silent}
use Rattle.cards.specs.declared.lines.Line.{Line as LineT}
use Rattle.cards.specs.declared.lines.Word.{Word}
use Rattle.cards.specs.declared.lines.Word.TheVariants.{Line, Passing, End}
use Rattle.cards.specs.declared.lines.Role.{Role}
use Rattle.cards.specs.declared.lines.Role.TheVariants.{Card, Test}
use Rattle.cards.specs.Words.{bits, kind, line_word, passing_word, end_word, encode, is_test, by_kind, exactly, decode}
use Rattle.cards.specs.Lines.{label_fits}
use Rattle.cards.specs.Meant.{both}

-- the numbers of a part fit their bits, and only a test has passing states
unfoldable pub PartFits : Role → Word → Type 0
PartFits role (Line l) = (l.from < 64) × (l.to < 64) × (label_fits l.label ≡ true)
PartFits role (Passing q) = (q < 64) × (is_test role ≡ true)
PartFits role End = Unit {0}

pub end_fits : (role : Role) → PartFits role End
unfolding PartFits
end_fits role = tt

-- what fits a card fits a test
pub test_fits : (role : Role) (x : Word) → PartFits role x → PartFits Test x
unfolding PartFits
test_fits role (Line l) h = h
test_fits role (Passing q) h = (h.0, refl)
test_fits role End h = tt

line_again : (role : Role) (f : ℕ) (x : Label) (t : ℕ) → f < 64 → t < 64 → label_fits x ≡ true
    → decode role (line_word (record { from = f; label = x; to = t })) ≡ Some (Line (record { from = f; label = x; to = t }))
unfolding decode
line_again role f (Action a) t hf ht e =
    let w : ℕ = 2 * 2 ^ 28 + f * 2 ^ 11 + a * 2 ^ 6 + t in
    let ha = ltb-true a 32 e in
    let k : kind w ≡ 2 = omega arith in
    let bf : bits w 11 6 ≡ f = omega arith in
    let ba : bits w 6 5 ≡ a = omega arith in
    let bt : bits w 0 6 ≡ t = omega arith in
    rw (eq-eqb (kind w) 2 k, bf, ba, bt, eq-eqb w w refl)
line_again role f Silent t hf ht e =
    let w : ℕ = 3 * 2 ^ 28 + f * 2 ^ 11 + t in
    let k : kind w ≡ 3 = omega arith in
    let bf : bits w 11 6 ≡ f = omega arith in
    let bt : bits w 0 6 ≡ t = omega arith in
    rw (k, bf, bt, eq-eqb w w refl)

passing_again : (role : Role) (q : ℕ) → q < 64 → is_test role ≡ true → decode role (passing_word q) ≡ Some (Passing q)
unfolding decode
passing_again role q h e =
    let w : ℕ = 4 * 2 ^ 28 + q in
    let k : kind w ≡ 4 = omega arith in
    let b : bits w 0 6 ≡ q = omega arith in
    rw (k, e, b, eq-eqb w w refl)

end_again : (role : Role) → decode role end_word ≡ Some End
unfolding decode
end_again Card = refl
end_again Test = refl

pub decode_encode : (role : Role) (x : Word) → PartFits role x → decode role (encode x) ≡ Some x
unfolding PartFits
decode_encode role (Line l) h = line_again role l.from l.label l.to h.0 h.1 h.2
decode_encode role (Passing q) h = passing_again role q h.0 h.1
decode_encode role End h = end_again role

-- which of four choices was taken
chosen : (a b c d : Bool) (A B C D x : Word) → cond a (Some A) (cond b (Some B) (cond c (Some C) (cond d (Some D) None))) ≡ Some x
    → (A ≡ x) ⊎ ((B ≡ x) ⊎ (((c ≡ true) × (C ≡ x)) ⊎ (D ≡ x)))
chosen true b c d A B C D x e = inl (cc)
chosen false true c d A B C D x e = inr (inl (cc))
chosen false false true d A B C D x e = inr (inr (inl (refl, (cc))))
chosen false false false true A B C D x e = inr (inr (inr (cc)))
chosen false false false false A B C D x e = absurd (let z : ◌≡◌ {A = ℕ} 0 1 = cc in omega arith)

kept : (w : ℕ) (o : Option Word) (x : Word) → exactly w o ≡ Some x → (o ≡ Some x) × (encode x ≡ w)
kept w None x e = absurd (let z : ◌≡◌ {A = ℕ} 0 1 = cc in omega arith)
kept w (Some y) x e = by (encode y == w) refl e
  where
    by : (b : Bool) → (encode y == w) ≡ b → cond b (Some y) None ≡ Some x → (Some y ≡ Some x) × (encode x ≡ w)
    by true p q = (q, subst (λ (z : Word). encode z ≡ w) (let r : y ≡ x = cc in r) (eqb-true (encode y) w p))
    by false p q = absurd (let z : ◌≡◌ {A = ℕ} 0 1 = cc in omega arith)

action_fits : (w : ℕ) → label_fits (Action (bits w 6 5)) ≡ true
action_fits w = lt-ltb (bits w 6 5) 32 (omega arith)

fits_by_kind : (role : Role) (w : ℕ) (x : Word) → by_kind role w ≡ Some x → PartFits role x
unfolding PartFits
fits_by_kind role w x e =
    let line : LineT = record { from = bits w 11 6; label = Action (bits w 6 5); to = bits w 0 6 } in
    let silent : LineT = record { from = bits w 11 6; label = Silent; to = bits w 0 6 } in
    let f : bits w 11 6 < 64 = omega arith in
    let t : bits w 0 6 < 64 = omega arith in
    elim (chosen (kind w == 2) (kind w == 3) (kind w == 4 && is_test role) (kind w == 5) (Line line) (Line silent) (Passing (bits w 0 6)) End x e) [
      | inl y ↦ subst (PartFits role) y (f, t, action_fits w)
      | inr o ↦ elim o [
        | inl y ↦ subst (PartFits role) y (f, t, refl)
        | inr o' ↦ elim o' [ inl y ↦ subst (PartFits role) y.1 (t, (both (kind w == 4) (is_test role) y.0).1) | inr y ↦ subst (PartFits role) y tt ]
      ]
    ]

-- what a word was taken apart to is its word's part, and fits
pub decode_sound : (role : Role) (w : ℕ) (x : Word) → decode role w ≡ Some x → (encode x ≡ w) × PartFits role x
unfolding decode
decode_sound role w x e = let k = kept w (by_kind role w) x e in (k.1, fits_by_kind role w x k.0)
