-- The lines of a written card make a lawful system. Assumes nothing.
use Rattle.std.specs.Prelude.{◌≡◌, ℕ, ◌^◌, ◌<◌, ◌≤◌, Bool, true, false, cond, ◌&&◌, List, [], ◌∷◌, ◌==◌, nat_lt, refl}
use Rattle.std.proofs.Common.{arith, ltb-true, ne_eqb, le-ltb}
use Rattle.std.specs.Int.Bits.{or_zero_l}
use Rattle.std.proofs.lemmas.Nat.{pow_pos, pow_below, or_lt}
use Rattle.lts.specs.System.{Lawful}
use Rattle.cards.specs.declared.lines.Line.{Line}
use Rattle.cards.specs.declared.lines.Label.{Label}
use Rattle.cards.specs.declared.lines.Label.TheVariants.{Action, Silent}
use Rattle.cards.specs.Lines.{column, hit, targets, system_of, label_fits, line_fits, lines_fit}

-- both of two tests
pub both : (a b : Bool) → (a && b) ≡ true → (a ≡ true) × (b ≡ true)
both true b e = (refl, e)
both false b e = absurd (let z : ◌≡◌ {A = ℕ} 0 1 = cc in omega arith)

column_below : (x : Label) → label_fits x ≡ true → column x < 33
column_below (Action a) e = omega (arith, ltb-true a 32 e)
column_below Silent e = omega arith

-- what a line that fits keeps to
pub record Fits (n : ℕ) (l : Line) : Type 0 where
  pub from_below : l.from < n
  pub to_below : l.to < n
  pub label : label_fits l.label ≡ true
  pub column_below : column l.label < 33

pub fits : (n : ℕ) (l : Line) → line_fits n l ≡ true → Fits n l
fits n l e =
    let a = both (nat_lt l.from n && nat_lt l.to n) (label_fits l.label) e in
    let b = both (nat_lt l.from n) (nat_lt l.to n) a.0 in
    record {
      from_below = ltb-true l.from n b.0;
      to_below = ltb-true l.to n b.1;
      label = a.1;
      column_below = column_below l.label a.1;
    }

chosen_lt : (b : Bool) (x n : ℕ) → x < n → 0 < n → cond b x 0 < n
chosen_lt true x n h z = h
chosen_lt false x n h z = z

targets_below : (n : ℕ) (ls : List Line) (p k : ℕ) → lines_fit n ls ≡ true → targets ls p k < 2 ^ n
unfolding targets lines_fit
targets_below n [] p k e = pow_pos n
targets_below n (l ∷ ls) p k e =
    let a = both (line_fits n l) (lines_fit n ls) e in
    let f = fits n l a.0 in
    or_lt n (hit l p k) (targets ls p k)
    (chosen_lt (l.from == p && column l.label == k) (2 ^ l.to) (2 ^ n) (pow_below l.to n f.to_below) (pow_pos n))
    (targets_below n ls p k a.1)

pub targets_outside : (n : ℕ) (ls : List Line) (p k : ℕ) → lines_fit n ls ≡ true → n ≤ p → targets ls p k ≡ 0
unfolding targets lines_fit
targets_outside n [] p k e h = refl
targets_outside n (l ∷ ls) p k e h =
    let a = both (line_fits n l) (lines_fit n ls) e in
    let f = fits n l a.0 in
    rw (ne_eqb l.from p (omega (arith, f.from_below)), targets_outside n ls p k a.1 h) (or_zero_l 0)

pub cond_zero : (b : Bool) (x : ℕ) → x ≡ 0 → cond b x 0 ≡ 0
cond_zero true x e = e
cond_zero false x e = refl

pub lawful : (n start : ℕ) (ls : List Line) → 1 ≤ n → start < n → lines_fit n ls ≡ true → Lawful (system_of n start ls)
lawful n start ls some starts e = record {
  nonempty = some;
  starts = starts;
  visible_below = λ p a. chosen_lt (nat_lt a 32) (targets ls p a) (2 ^ n) (targets_below n ls p a e) (pow_pos n);
  hidden_below = λ p. targets_below n ls p 32 e;
  visible_outside = λ p a h. cond_zero (nat_lt a 32) (targets ls p a) (targets_outside n ls p a e h);
  hidden_outside = λ p h. targets_outside n ls p 32 e h;
  no_action = λ p a h. rw (le-ltb a 32 h);
}
