-- The theorems that the calls of this crate carry. Assumes nothing.
use Rattle.testing.specs.Rule.{RuleLaw, RuleDiffers, RuleSplits}
use Rattle.testing.specs.Judging.{MacrostateShows, ShownAs, Judges, RuleJudges}
use Rattle.testing.specs.Theorems.{ReachTest, SettleTest, OfferTest, SoundNo, RuleFinds, OneGround, OneFirst, OneWay, BothWays, TwoWay, SplitLaw, SoundYes, TestsAndTraces}

-- how a trace splits two systems
pub record SplitLaws : Type 0 where
  pub shows : MacrostateShows
  pub shown : ShownAs
  pub judges : Judges
  pub flags : RuleJudges
  pub rule : RuleLaw
  pub differs : RuleDiffers
  pub minimal : RuleSplits
  pub finds : RuleFinds
  pub one : OneGround
  pub first : OneFirst

-- what it says of tests that no trace splits two systems
pub record AgreeLaws : Type 0 where
  pub preorder : OneWay
  pub both : BothWays
  pub same : TwoWay
  pub traces : SplitLaw
  pub yes : SoundYes
  pub exact : TestsAndTraces

-- what the distinguishing tests say, and that they tell two systems apart
pub record TestLaws : Type 0 where
  pub reach : ReachTest
  pub settle : SettleTest
  pub offer : OfferTest
  pub no : SoundNo
