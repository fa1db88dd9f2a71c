-- The table of a written card holds what its lines lead to. Assumes nothing.
use Rattle.std.specs.Prelude.{◌≡◌, ℕ, zero, suc, ◌+◌, ◌^◌, ◌<◌, ◌≤◌, true, ◌≢◌, ◌⊎◌, List, [], ◌∷◌, ◌++◌, length, get_or, take, replicate, bit_or, slice_index_or, slice_set, refl}
use Rattle.std.proofs.Common.{sym, ap, ap₂, subst, ◌∙◌, inl, inr, arith, length-set, not-suc-le-zero, le_of_suc-le-suc, eq-eqb, ne_eqb, lt-ltb}
use Rattle.std.specs.Int.Bits.{or_zero_l, or_zero_r}
use Rattle.std.proofs.lemmas.List.{take_more, get_or-set_same, get_or-set_other, get_or_past, get_or-replicate, length-replicate}
use Rattle.std.specs.List.{AllZip}
use Rattle.std.proofs.lemmas.List.Elements.{same_from_all_zip}
use Rattle.std.proofs.lemmas.Bool.{cases_eq, cases_lt}
use Rattle.lts.specs.SetTypes.{StateSet}
use Rattle.lts.specs.Sets.{inserted}
use Rattle.lts.proofs.Membership.{or_assoc}
use Rattle.cards.specs.declared.lines.Label.TheVariants.{Action}
use Rattle.cards.specs.declared.lines.Line.{Line}
use Rattle.cards.specs.Meant.{both, Fits, fits}
use Rattle.cards.proofs.Passing.{grown}
use Rattle.cards.specs.Lines.{column, hit, targets, line_fits, lines_fit, no_states, set_at, Tabled}

pub line_at : (n : ℕ) (ls : List Line) (i : ℕ) (d : Line) → lines_fit n ls ≡ true → i < length ls → line_fits n (slice_index_or ls i d) ≡ true
unfolding lines_fit
line_at n [] i d e h = absurd (not-suc-le-zero h)
line_at n (l ∷ ls) zero d e h = (both (line_fits n l) (lines_fit n ls) e).0
line_at n (l ∷ ls) (suc i) d e h = line_at n ls i d (both (line_fits n l) (lines_fit n ls) e).1 (le_of_suc-le-suc h)

pub fits_at : (n : ℕ) (ls : List Line) (i : ℕ) (d : Line) → lines_fit n ls ≡ true → i < length ls → Fits n (slice_index_or ls i d)
fits_at n ls i d e h = fits n (slice_index_or ls i d) (line_at n ls i d e h)

pub targets_push : (ls : List Line) (l : Line) (p k : ℕ) → targets (ls ++ (l ∷ [])) p k ≡ bit_or (targets ls p k) (hit l p k)
unfolding targets
targets_push [] l p k = or_zero_r (hit l p k) ∙ sym (or_zero_l (hit l p k))
targets_push (x ∷ xs) l p k =
    ap (bit_or (hit x p k)) (targets_push xs l p k) ∙ sym (or_assoc (hit x p k) (targets xs p k) (hit l p k))

hit_here : (l : Line) → hit l l.from (column l.label) ≡ 2 ^ l.to
hit_here l = rw (eq-eqb l.from l.from refl, eq-eqb (column l.label) (column l.label) refl)

hit_other_row : (l : Line) (p k : ℕ) → p ≢ l.from → hit l p k ≡ 0
hit_other_row l p k d = rw (ne_eqb l.from p (λ e. d (sym e)))

hit_other_column : (l : Line) (p k : ℕ) → k ≢ column l.label → hit l p k ≡ 0
hit_other_column l p k d =
    elim (cases_eq l.from p) [
      | inl e ↦ rw (eq-eqb l.from p e, ne_eqb (column l.label) k (λ f. d (sym f)))
      | inr e ↦ rw (ne_eqb l.from p e)
    ]

-- one line more: the set in its row and column gains the state that it leads to
module _ (rows : List (List StateSet)) (row : List StateSet) (cell : StateSet) (l : Line) (f : Fits 64 l) (old : get_or rows l.from [] ≡ row) (room : l.from < length rows)
    (wide : column l.label < length row) (at : cell.bits ≡ inserted 64 l.to (get_or row (column l.label) no_states).bits) where
  abbrev pub next : List (List StateSet)
  next = slice_set rows l.from (slice_set row (column l.label) cell)

  in_row : (k : ℕ) → (get_or (slice_set row (column l.label) cell) k no_states).bits ≡ bit_or (get_or row k no_states).bits (hit l l.from k)
  in_row k =
      elim (cases_eq k (column l.label)) [
        | inl e ↦
            subst (λ (i : ℕ). (get_or (slice_set row (column l.label) cell) i no_states).bits ≡ bit_or (get_or row i no_states).bits (hit l l.from i)) (sym e)
            (ap (λ (s : StateSet). s.bits) (get_or-set_same row (column l.label) cell no_states wide) ∙ at ∙ grown l.to (get_or row (column l.label) no_states).bits f.to_below
            ∙ ap (bit_or (get_or row (column l.label) no_states).bits) (sym (hit_here l)))
        | inr d ↦
            ap (λ (s : StateSet). s.bits) (get_or-set_other row (column l.label) k cell no_states d) ∙ sym (or_zero_r (get_or row k no_states).bits)
            ∙ ap (bit_or (get_or row k no_states).bits) (sym (hit_other_column l l.from k d))
      ]

  changed : (p k : ℕ) → set_at next p k ≡ bit_or (set_at rows p k) (hit l p k)
  changed p k =
      elim (cases_eq p l.from) [
        | inl e ↦
            subst (λ (i : ℕ). set_at next i k ≡ bit_or (set_at rows i k) (hit l i k)) (sym e)
            (ap (λ (r : List StateSet). (get_or r k no_states).bits) (get_or-set_same rows l.from (slice_set row (column l.label) cell) [] room) ∙ in_row k
            ∙ ap (λ (r : List StateSet). bit_or (get_or r k no_states).bits (hit l l.from k)) (sym old))
        | inr d ↦
            ap (λ (r : List StateSet). (get_or r k no_states).bits) (get_or-set_other rows l.from p (slice_set row (column l.label) cell) [] d)
            ∙ sym (or_zero_r (set_at rows p k)) ∙ ap (bit_or (set_at rows p k)) (sym (hit_other_row l p k d))
      ]

  pub tabled_more : (ls : List Line) → Tabled rows ls → Tabled next (ls ++ (l ∷ []))
  tabled_more ls inv p k h = changed p k ∙ ap (λ (s : ℕ). bit_or s (hit l p k)) (inv p k h) ∙ sym (targets_push ls l p k)

-- each row has n columns
abbrev pub Rows : ℕ → List (List StateSet) → Type 0
Rows n rows = (p : ℕ) → p < length rows → length (get_or rows p []) ≡ n

pub rows_filled : (m n : ℕ) (x : StateSet) (rows : List (List StateSet)) → rows ≡ replicate m (replicate n x) → Rows n rows
rows_filled m n x rows e p h =
    ap (λ (rs : List (List StateSet)). length (get_or rs p [])) e
    ∙ ap length (get_or-replicate m p (replicate n x) [] (omega (arith, ap length e, length-replicate m (replicate n x)))) ∙ length-replicate n x

pub rows_set : (n i k : ℕ) (rows : List (List StateSet)) (row : List StateSet) (cell : StateSet) → Rows n rows → i < length rows → row ≡ get_or rows i []
    → Rows n (slice_set rows i (slice_set row k cell))
rows_set n i k rows row cell w room e p h =
    elim (cases_eq p i) [
      | inl y ↦
          ap (λ (j : ℕ). length (get_or (slice_set rows i (slice_set row k cell)) j [])) y
          ∙ ap length (get_or-set_same rows i (slice_set row k cell) [] room) ∙ length-set row k cell ∙ ap length e ∙ w i room
      | inr d ↦ ap length (get_or-set_other rows i p (slice_set row k cell) [] d) ∙ w p (omega (arith, length-set rows i (slice_set row k cell)))
    ]

-- what stands where nothing is read
abbrev pub no_line : Line
no_line = record { from = 0; label = Action 0; to = 0 }

-- the same, as a program finds it: line i goes to row p and column k
pub tabled_next : (ls : List Line) (i : ℕ) (rows : List (List StateSet)) (row : List StateSet) (cell : StateSet) (p k to : ℕ) → lines_fit 64 ls ≡ true → i < length ls → p < length rows
    → p ≡ (get_or ls i no_line).from → k ≡ column (get_or ls i no_line).label → to ≡ (get_or ls i no_line).to → row ≡ get_or rows p [] → length (get_or rows p []) ≡ 33
    → cell.bits ≡ inserted 64 to (get_or row k no_states).bits → Tabled rows (take i ls) → Tabled (slice_set rows p (slice_set row k cell)) (take (i + 1) ls)
tabled_next ls i rows row cell p k to sound h room pe ke te e w at inv =
    let l = get_or ls i no_line in
    let f = fits_at 64 ls i no_line sound h in
    let old : get_or rows l.from [] ≡ row = sym (e ∙ ap (λ (q : ℕ). get_or rows q []) pe) in
    let at' : cell.bits ≡ inserted 64 l.to (get_or row (column l.label) no_states).bits =
    at ∙ ap₂ (λ (t j : ℕ). inserted 64 t (get_or row j no_states).bits) te ke in
    subst (λ (ms : List Line). Tabled (slice_set rows p (slice_set row k cell)) ms) (sym (take_more ls i no_line h))
    (subst (λ (q : ℕ). Tabled (slice_set rows q (slice_set row k cell)) (take i ls ++ (l ∷ []))) (sym pe)
    (subst (λ (j : ℕ). Tabled (slice_set rows l.from (slice_set row j cell)) (take i ls ++ (l ∷ []))) (sym ke)
    (tabled_more rows row cell l f old (omega (arith, pe)) (omega (arith, f.column_below, w, ap length e)) at' (take i ls) inv)))

-- a row whose sets are clones is the same row
pub same_row : (xs ys : List StateSet) → AllZip (λ x y. y.bits ≡ x.bits) xs ys → ys ≡ xs
same_row xs ys z = same_from_all_zip (λ x y. y.bits ≡ x.bits) xs ys z (λ x y e i. record { bits = e i })

-- rows of empty sets are the table of no lines
pub tabled_none : (m n : ℕ) (x : StateSet) (rows : List (List StateSet)) → rows ≡ replicate m (replicate n x) → x.bits ≡ 0 → Tabled rows []
unfolding targets
tabled_none m n x rows e z p k h = ap (λ (rs : List (List StateSet)). set_at rs p k) e ∙ by (cases_lt p m)
  where
    in_row : (k < n) ⊎ (n ≤ k) → (get_or (replicate n x) k no_states).bits ≡ 0
    in_row (inl w) = ap (λ (s : StateSet). s.bits) (get_or-replicate n k x no_states w) ∙ z
    in_row (inr w) = ap (λ (s : StateSet). s.bits) (get_or_past (replicate n x) k no_states (omega (arith, length-replicate n x)))

    by : (p < m) ⊎ (m ≤ p) → set_at (replicate m (replicate n x)) p k ≡ 0
    by (inl y) = ap (λ (r : List StateSet). (get_or r k no_states).bits) (get_or-replicate m p (replicate n x) [] y) ∙ in_row (cases_lt k n)
    by (inr y) = ap (λ (r : List StateSet). (get_or r k no_states).bits) (get_or_past (replicate m (replicate n x)) p [] (omega (arith, length-replicate m (replicate n x))))

-- what fits fewer states fits more
pub lines_fit_wider : (n m : ℕ) (ls : List Line) → n ≤ m → lines_fit n ls ≡ true → lines_fit m ls ≡ true
unfolding lines_fit
lines_fit_wider n m [] h e = refl
lines_fit_wider n m (l ∷ ls) h e =
    let a = both (line_fits n l) (lines_fit n ls) e in
    let f = fits n l a.0 in
    rw (lt-ltb l.from m (omega (arith, f.from_below)), lt-ltb l.to m (omega (arith, f.to_below)), f.label) (lines_fit_wider n m ls h a.1)
