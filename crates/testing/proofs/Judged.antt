-- What is worked out from what a trace shows of two systems is how it splits them. Assumes nothing.
use Rattle.std.proofs.Common.{◌≡◌, ℕ, true, false, eqb, ◌↔◌, List, Some, None, Option, refl, sym, subst, eqb→eq, T_not}
use Rattle.lts.specs.System.{System}
use Rattle.lts.specs.Traces.{CanDo, Convergent}
use Rattle.traces.specs.Macrostates.{macrostate}
use Rattle.traces.specs.Families.{minimal}
use Rattle.traces.specs.Offered.{bits_of}
use Rattle.lts.proofs.Membership.{some_member, not_empty}
use Rattle.traces.proofs.TraceStates.{states_after, convergent_along}
use Rattle.traces.proofs.Antichains.{antichain_ascending, minimal_antichain, member_minimal, minimal_member}
use Rattle.testing.proofs.Truth.{eq_T}
use lib.Dec.{not_T}
use Rattle.testing.specs.declared.ground.Side.{Side}
use Rattle.testing.specs.declared.ground.Side.TheVariants.{Left, Right}
use Rattle.testing.specs.declared.ground.Ground.{Ground}
use Rattle.testing.specs.declared.ground.Ground.TheVariants.{Reach, Settle, Offer}
use Rattle.testing.specs.declared.ground.Shown.TheVariants.{Unable, Divergent, Offers}
use Rattle.testing.specs.declared.ground.Split.{Split}
use Rattle.testing.specs.Splits.{BothConvergent, Splits}
use Rattle.testing.specs.Judging.{split_on, shown_as, ToldAs, Judges, ShownAs, RuleJudges, MacrostateShows}
use Rattle.testing.proofs.OneGround.{one_ground}
use Rattle.testing.proofs.OfferRule.{rule_splits, some≢none}

module _ (l r : System) (s : List ℕ) where
  -- an outcome says which split there is
  abbrev Tells : Option Split → Type 0
  Tells o = (v : Split) → o ≡ Some v ↔ Splits l r s v.ground v.passer

  some_inj : {v w : Split} → ◌≡◌ {A = Option Split} (Some v) (Some w) → v ≡ w
  some_inj e = cc

  tells_split : (g : Ground) (p : Side) → Splits l r s g p → Tells (split_on g p)
  tells_split g p b v = (
    λ e. subst (λ (w : Split). Splits l r s w.ground w.passer) (some_inj e) b,
    λ c. let e = one_ground l r s g v.ground p v.passer b c in λ i. Some (record { ground = e.0 i; passer = e.1 i }),
  )

  tells_none : ((g : Ground) (p : Side) → ¬ Splits l r s g p) → Tells None
  tells_none f v = (λ e. absurd (some≢none (sym e)), λ b. absurd (f v.ground v.passer b))

  none_do : ¬ CanDo l s → ¬ CanDo r s → (g : Ground) (p : Side) → ¬ Splits l r s g p
  none_do f g Reach Left b = f b.0
  none_do f g Reach Right b = g b.0
  none_do f g Settle Left b = f b.0
  none_do f g Settle Right b = f b.0
  none_do f g (Offer O) Left b = f b.0.left
  none_do f g (Offer O) Right b = f b.0.left

  none_converge : CanDo l s → CanDo r s → ¬ Convergent l s → ¬ Convergent r s → (g : Ground) (p : Side) → ¬ Splits l r s g p
  none_converge c d f g Reach Left b = b.1 d
  none_converge c d f g Reach Right b = b.1 c
  none_converge c d f g Settle Left b = f b.2
  none_converge c d f g Settle Right b = g b.2
  none_converge c d f g (Offer O) Left b = f b.0.left_convergent
  none_converge c d f g (Offer O) Right b = f b.0.left_convergent

pub judges : Judges
judges l r s (Offers xs) (Offers ys) a b =
    let both : BothConvergent l r s = record { left = a.0; right = b.0; left_convergent = a.1; right_convergent = b.1 } in
    rule_splits l r s (bits_of xs.now) (bits_of ys.now) both a.2 b.2
judges l r s (Offers xs) Divergent a b = tells_split l r s Settle Left (a.0, b.0, a.1, b.1)
judges l r s (Offers xs) Unable a b = tells_split l r s Reach Left (a.0, b)
judges l r s Divergent (Offers ys) a b = tells_split l r s Settle Right (a.0, b.0, b.1, a.1)
judges l r s Divergent Divergent a b = tells_none l r s (none_converge l r s a.0 b.0 a.1 b.1)
judges l r s Divergent Unable a b = tells_split l r s Reach Left (a.0, b)
judges l r s Unable (Offers ys) a b = tells_split l r s Reach Right (b.0, a)
judges l r s Unable Divergent a b = tells_split l r s Reach Right (b.0, a)
judges l r s Unable Unable a b = tells_none l r s (none_do l r s a b)

pub shown_as_lem : ShownAs
shown_as_lem m s false c sets a = a.does.1
shown_as_lem m s true false sets a = (a.does.0 tt, a.converges.1)
shown_as_lem m s true true sets a = (a.does.0 tt, a.converges.0 tt, a.minimal tt)

pub told_as : ToldAs
told_as false false cl cr xs ys = refl
told_as false true cl false xs ys = refl
told_as false true cl true xs ys = refl
told_as true false false cr xs ys = refl
told_as true false true cr xs ys = refl
told_as true true false false xs ys = refl
told_as true true false true xs ys = refl
told_as true true true false xs ys = refl
told_as true true true true xs ys = refl

pub rule_judges : RuleJudges
rule_judges l r s dl dr cl cr xs ys a b =
    rw (← told_as dl dr cl cr xs ys) (judges l r s (shown_as dl cl xs) (shown_as dr cr ys) (shown_as_lem l s dl cl xs a) (shown_as_lem r s dr cr ys b))

pub macrostate_shows : MacrostateShows
macrostate_shows m lawful s =
    let S = (macrostate m s).states in
    record {
      does = (
        λ t. let b = some_member S (λ e. T_not (eqb S 0) t (eq_T S 0 e)) in (b.0, (states_after m lawful s b.0).0 b.1),
        λ c. not_T (eqb S 0) (λ t. not_empty c.0 S ((states_after m lawful s c.0).1 c.1) (eqb→eq S 0 t)),
      );
      converges = convergent_along m lawful s;
      minimal = λ t. record {
        rising = antichain_ascending (minimal m S) (minimal_antichain m S m.count);
        sets = λ A. (member_minimal m lawful s A, minimal_member m lawful s A);
      };
    }
