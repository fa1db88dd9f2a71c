-- The words of a file say, one by one, what its card means. Assumes nothing.
use Rattle.std.proofs.Common.{◌≡◌, ℕ, ◌*◌, ◌^◌, ◌<◌, ◌≤◌, true, ◌⊎◌, List, [], ◌∷◌, ◌++◌, map, Some, Ok, sym, refl, ap, ◌∙◌, subst, inl, inr, arith, ltb-true, lt-ltb}
use mathlib.Core.List.Memᴰ
use mathlib.Core.List.{Memᴰ}
use Rattle.lts.specs.Sets.{In, members}
use Rattle.cards.specs.declared.lines.Label.{Label}
use Rattle.cards.specs.declared.lines.Label.TheVariants.{Action, Silent}
use Rattle.cards.specs.declared.lines.Line.{Line as LineT}
use Rattle.cards.specs.declared.lines.Role.{Role}
use Rattle.cards.specs.declared.lines.Role.TheVariants.{Test}
use Rattle.cards.specs.declared.lines.Word.{Word}
use Rattle.cards.specs.declared.lines.Word.TheVariants.{Line}
use Rattle.cards.specs.Contents.{Contents, written, read_words}
use Rattle.cards.specs.Lines.{column, system_of, label_fits, line_fits, lines_fit}
use Rattle.cards.specs.Meaning.{Says, SaysPassing}
use Rattle.cards.specs.Words.{line_word, passing_word, end_word, encode, decode}
use Rattle.cards.proofs.Meant.{in_targets, targets_in}
use Rattle.cards.proofs.Parts.{PartFits, decode_encode}
use Rattle.cards.proofs.RoundTrip.{Valid, line_high, listed, read_back, read_valid}
use Rattle.cards.proofs.Sorted.{line_low}
use Rattle.cards.specs.Meant.{both, fits}

-- two parts that fit and have one word are one
same_part : (x y : Word) → PartFits Test x → PartFits Test y → encode x ≡ encode y → x ≡ y
same_part x y f g e =
    let p : Some x ≡ Some y = sym (decode_encode Test x f) ∙ ap (decode Test) e ∙ decode_encode Test y g in
    cc

line_fits_part : (l : LineT) → l.from < 64 → l.to < 64 → label_fits l.label ≡ true → PartFits Test (Line l)
unfolding PartFits
line_fits_part l f t e = (f, t, e)

same_line : (l k : LineT) → PartFits Test (Line l) → PartFits Test (Line k) → line_word l ≡ line_word k → l ≡ k
same_line l k f g e = let p = same_part (Line l) (Line k) f g e in cc

fits_listed : (n : ℕ) (ls : List LineT) (l : LineT) → n ≤ 64 → lines_fit n ls ≡ true → Memᴰ l ls → PartFits Test (Line l)
unfolding lines_fit
fits_listed n [] l h e m = absurd (Memᴰ.not-nil m)
fits_listed n (x ∷ xs) l h e m =
    let a = both (line_fits n x) (lines_fit n xs) e in
    elim (Memᴰ.cases_cons m) [
      | inl y ↦
          let f = fits n x a.0 in
          subst (λ (z : LineT). PartFits Test (Line z)) (sym y) (line_fits_part x (omega (arith, f.from_below)) (omega (arith, f.to_below)) f.label)
      | inr m' ↦ fits_listed n xs l h a.1 m'
    ]

action_column : (x : Label) (a : ℕ) → column x ≡ a → a < 32 → x ≡ Action a
action_column (Action b) a e h = ap Action e
action_column Silent a e h = absurd (omega arith)

silent_column : (x : Label) → label_fits x ≡ true → column x ≡ 32 → x ≡ Silent
silent_column (Action b) f e = absurd (omega (arith, ltb-true b 32 f))
silent_column Silent f e = refl

part_label : (l : LineT) → PartFits Test (Line l) → label_fits l.label ≡ true
unfolding PartFits
part_label l h = h.2

-- a line by its parts
rebuilt : (l : LineT) (p q : ℕ) (x : Label) → l.from ≡ p → l.label ≡ x → l.to ≡ q → l ≡ record { from = p; label = x; to = q }
rebuilt l p q x e f g = λ i. record { from = e i; label = f i; to = g i }

line_below : (l : LineT) → PartFits Test (Line l) → line_word l < 4 * 2 ^ 28
unfolding PartFits
line_below l h = line_low l h.0 h.1 h.2

module _ (role : Role) (c : Contents) (v : Valid role c) where
  -- where a word of the file stands
  stands : (w : ℕ) → Memᴰ w (written c)
      → (w < 2 * 2 ^ 28) ⊎ (Memᴰ w (map line_word c.lines) ⊎ (Memᴰ w (map passing_word (members c.passing)) ⊎ (w ≡ end_word)))
  unfolding written
  stands w m =
      elim (Memᴰ.cases_cons m) [
        | inl e ↦ inl (omega (arith, v.most, v.starts, v.few))
        | inr m' ↦ elim (Memᴰ.append_cases (map line_word c.lines) m') [
          | inl a ↦ inr (inl a)
          | inr b ↦ elim (Memᴰ.append_cases (map passing_word (members c.passing)) b) [
            | inl d ↦ inr (inr (inl d))
            | inr d ↦ elim (Memᴰ.cases_cons d) [ inl e ↦ inr (inr (inr e)) | inr f ↦ absurd (Memᴰ.not-nil f) ]
          ]
        ]
      ]

  line_there : (l : LineT) → Memᴰ l c.lines → Memᴰ (line_word l) (written c)
  unfolding written
  line_there l m = Memᴰ.tail (Memᴰ.append_left (map passing_word (members c.passing) ++ (end_word ∷ [])) (Memᴰ.map line_word m))

  there_line : (l : LineT) → l.from < 64 → l.to < 64 → label_fits l.label ≡ true → Memᴰ (line_word l) (written c) → Memᴰ l c.lines
  there_line l f t e m =
      let high = line_high l.from l.label l.to in
      let low = line_low l f t e in
      elim (stands (line_word l) m) [
        | inl a ↦ absurd (omega arith)
        | inr o ↦ elim o [
          | inl a ↦
              let r = Memᴰ.of_map line_word c.lines a in
              let s = same_line l r.0 (line_fits_part l f t e) (fits_listed c.states c.lines r.0 v.most v.fit r.1) (sym r.2) in
              subst (λ (k : LineT). Memᴰ k c.lines) (sym s) r.1
          | inr o' ↦ elim o' [
            | inl a ↦ absurd (let r = Memᴰ.of_map passing_word (members c.passing) a in omega (arith, r.2))
            | inr a ↦ absurd (omega arith)
          ]
        ]
      ]

  passing_there : (q : ℕ) → In q c.passing → Memᴰ (passing_word q) (written c)
  unfolding written
  passing_there q i =
      Memᴰ.tail
      (Memᴰ.append_right (map line_word c.lines) (Memᴰ.append_left (end_word ∷ []) (Memᴰ.map passing_word (((listed role c v).exact q).1 i))))

  there_passing : (q : ℕ) → q < 64 → Memᴰ (passing_word q) (written c) → In q c.passing
  there_passing q h m =
      elim (stands (passing_word q) m) [
        | inl a ↦ absurd (omega arith)
        | inr o ↦ elim o [
          | inl a ↦ absurd (let r = Memᴰ.of_map line_word c.lines a in
              omega (arith, r.2, line_below r.0 (fits_listed c.states c.lines r.0 v.most v.fit r.1)))
          | inr o' ↦ elim o' [
            | inl a ↦
                let r = Memᴰ.of_map passing_word (members c.passing) a in
                let e : r.0 ≡ q = omega (arith, r.2) in
                subst (λ (x : ℕ). In x c.passing) e (((listed role c v).exact r.0).0 r.1)
            | inr a ↦ absurd (omega arith)
          ]
        ]
      ]

  says_passing : SaysPassing (written c) c.passing
  says_passing q h = (passing_there q, there_passing q h)

  found : (x : Label) (p q : ℕ) → (l : LineT) → Memᴰ l c.lines → l.from ≡ p → l.label ≡ x → l.to ≡ q
      → Memᴰ (line_word (record { from = p; label = x; to = q })) (written c)
  found x p q l m e f g = subst (λ (k : LineT). Memᴰ (line_word k) (written c)) (rebuilt l p q x e f g) (line_there l m)

  says : Says (written c) (system_of c.states c.start c.lines)
  says = record {
    visible = λ p a q hp ha hq.
        let line : LineT = record { from = p; label = Action a; to = q } in (
          (λ h.
              let l = in_targets c.lines p a q (rw (lt-ltb a 32 ha) at h) in
              found (Action a) p q l.line l.listed l.from (action_column l.line.label a l.label ha) l.to),
          (λ m. rw (lt-ltb a 32 ha) (targets_in c.lines line (there_line line hp hq (lt-ltb a 32 ha) m))),
        );
    hidden = λ p q hp hq.
        let line : LineT = record { from = p; label = Silent; to = q } in (
          (λ h.
              let l = in_targets c.lines p 32 q h in
              let f = part_label l.line (fits_listed c.states c.lines l.line v.most v.fit l.listed) in
              found Silent p q l.line l.listed l.from (silent_column l.line.label f l.label) l.to),
          (λ m. targets_in c.lines line (there_line line hp hq refl m)),
        );
  }

-- of words that were read
module _ (role : Role) (ws : List ℕ) (c : Contents) (e : read_words role ws ≡ Ok c) where
  pub says_read : Says ws (system_of c.states c.start c.lines)
  says_read = subst (λ (vs : List ℕ). Says vs (system_of c.states c.start c.lines)) (read_back role ws c e) (says role c (read_valid role ws c e))

  pub passing_read : SaysPassing ws c.passing
  passing_read = subst (λ (vs : List ℕ). SaysPassing vs c.passing) (read_back role ws c e) (says_passing role c (read_valid role ws c e))
