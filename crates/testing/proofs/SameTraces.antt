-- If no trace splits two systems, every trace shows the same of both, and then every test passes with both or with neither. Assumes nothing.
use Rattle.std.proofs.Common.{ℕ, ◌↔◌, List, inl, inr}
use Rattle.lts.specs.System.{System, Lawful}
use Rattle.lts.specs.Traces.{CanDo, Convergent, Minimal}
use Rattle.testing.specs.declared.ground.Side.{Side}
use Rattle.testing.specs.declared.ground.Side.TheVariants.{Left, Right}
use Rattle.testing.specs.declared.ground.Ground.{Ground}
use Rattle.testing.specs.declared.ground.Ground.TheVariants.{Reach, Settle, Offer}
use Rattle.testing.specs.Splits.{Splits, NoSplit}
use Rattle.testing.specs.Theorems.{Refines, SameAt, Same, BothWays, TwoWay, SplitLaw, SoundYes}
use Rattle.testing.proofs.Laws.{path_actions}
use Rattle.testing.proofs.Decide.{can_dec, minimal_within}
use Rattle.testing.proofs.OneWay.{one_way}
use Rattle.testing.proofs.Families.{Covers, same_families, rule}

same_sym : {l r : System} → Same l r → Same r l
same_sym same s = record {
  does = ((same s).does.1, (same s).does.0);
  converges = λ c. (let i = (same s).converges ((same s).does.1 c) in (i.1, i.0));
  accepts = λ cr cl A. (let i = (same s).accepts cl cr A in (i.1, i.0));
}

same_refines : (l r : System) → Lawful r → Same l r → Refines l r
same_refines l r lr same s = record {
  does = (same s).does.1;
  converges = λ c. ((same s).converges ((same s).does.1 c)).0;
  accepts = λ cl B acc.
      (let cr = ((same s).converges ((same s).does.1 (acc.state, acc.after))).0 cl in
      let b = minimal_within r lr s B acc in
      (b.0, (((same s).accepts cl cr b.0).1 b.1).member, b.2));
}

-- each minimal set of r contains an acceptance set of l, and so a minimal one
refined_covers : (l r : System) → Lawful l → Refines l r → (s : List ℕ) → Convergent l s → Covers r l s
refined_covers l r ll refines s cl B h =
    let a = (refines s).accepts cl B h.member in
    let b = minimal_within l ll s a.0 a.1 in
    (b.0, b.1, λ k i. a.2 k (b.2 k i))

pub both_ways : BothWays
both_ways l r ll lr = (
  λ same. (same_refines l r lr same, same_refines r l ll (same_sym same)),
  λ h s. record {
    does = ((h.1 s).does, (h.0 s).does);
    converges = λ c. ((h.0 s).converges ((h.1 s).does c), (h.1 s).converges c);
    accepts = λ cl cr. same_families l r s (refined_covers l r ll h.0 s cl) (refined_covers r l lr h.1 s cr);
  },
)

pub two_way : TwoWay
two_way l r ll lr same e =
    let h = (both_ways l r ll lr).0 same in
    let there = one_way l r ll lr h.0 e in
    let back = one_way r l lr ll h.1 e in
    ((back.0, there.0), (there.1, back.1))

-- no trace splits two systems of which every trace shows the same
unsplit : (l r : System) (s : List ℕ) → SameAt l r s → (g : Ground) (p : Side) → ¬ Splits l r s g p
unsplit l r s same Reach Left b = b.1 (same.does.0 b.0)
unsplit l r s same Reach Right b = b.1 (same.does.1 b.0)
unsplit l r s same Settle Left b = b.3 ((same.converges b.0).0 b.2)
unsplit l r s same Settle Right b = b.3 ((same.converges b.0).1 b.2)
unsplit l r s same (Offer O) Right b =
    let S = b.1.0 in
    let bare = b.1.1.holds in
    bare.free S ((same.accepts b.0.left_convergent b.0.right_convergent S).0 bare.minimal) (λ k i. i)
unsplit l r s same (Offer O) Left b =
    let S = b.2.0 in
    let bare = b.2.1.holds in
    bare.free S ((same.accepts b.0.left_convergent b.0.right_convergent S).1 bare.minimal) (λ k i. i)

module _ (l r : System) (ll : Lawful l) (lr : Lawful r) (none : NoSplit l r) (s : List ℕ) where
  left_right : CanDo l s → CanDo r s
  left_right c = elim (can_dec r lr s) [ yes h ↦ h | no f ↦ absurd (none s (path_actions l ll c.1) (Reach, Left, (c, f))) ]

  right_left : CanDo r s → CanDo l s
  right_left c = elim (can_dec l ll s) [ yes h ↦ h | no f ↦ absurd (none s (path_actions r lr c.1) (Reach, Right, (c, f))) ]

  -- minimal sets, once one of the systems has any
  same_minimal : CanDo l s → Convergent l s → Convergent r s → (A : ℕ) → Minimal l s A ↔ Minimal r s A
  same_minimal c cl cr =
      elim (rule l r ll lr s (record { left = c; right = left_right c; left_convergent = cl; right_convergent = cr })) [
        | inl f ↦ absurd (none s (path_actions l ll c.1) (Offer f.0, f.1, f.2))
        | inr same ↦ same
      ]

  same_at : SameAt l r s
  same_at = record {
    does = (left_right, right_left);
    converges = λ c. (
      λ cl u v e q w d. none s (path_actions l ll c.1) (Settle, Left, (c, left_right c, cl, λ cr. cr u v e q w d)),
      λ cr u v e q w d. none s (path_actions l ll c.1) (Settle, Right, (c, left_right c, cr, λ cl. cl u v e q w d)),
    );
    accepts = λ cl cr A. (
      λ h. (same_minimal (h.member.state, h.member.after) cl cr A).0 h,
      λ h. (same_minimal (right_left (h.member.state, h.member.after)) cl cr A).1 h,
    );
  }

pub split_law : SplitLaw
split_law l r ll lr = (λ none s. same_at l r ll lr none s, λ same s actions h. unsplit l r s (same s) h.0 h.1 h.2)

pub sound_yes : SoundYes
sound_yes l r ll lr none e le = two_way l r ll lr ((split_law l r ll lr).0 none) e
