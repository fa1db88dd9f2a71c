-- The theorems that the calls of this crate carry. Assumes nothing.
use Rattle.testing.specs.Laws.{SplitLaws, AgreeLaws, TestLaws}
use Rattle.testing.proofs.OfferRule.{rule_law, rule_differs, rule_splits}
use Rattle.testing.proofs.Families.{rule_finds}
use Rattle.testing.proofs.Judged.{macrostate_shows, shown_as_lem, judges, rule_judges}
use Rattle.testing.proofs.OneGround.{one_ground, one_first}
use Rattle.testing.proofs.OneWay.{one_way}
use Rattle.testing.proofs.SameTraces.{both_ways, two_way, split_law, sound_yes}
use Rattle.testing.proofs.Apart.{sound_no, tests_and_traces}
use Rattle.testing.proofs.Ladder.{reach_test_lem, settle_test_lem, offer_test_lem}

pub split_laws : SplitLaws
split_laws = record {
  shows = macrostate_shows;
  shown = shown_as_lem;
  judges = judges;
  flags = rule_judges;
  rule = rule_law;
  differs = rule_differs;
  minimal = rule_splits;
  finds = rule_finds;
  one = one_ground;
  first = one_first;
}

pub agree_laws : AgreeLaws
agree_laws = record { preorder = one_way; both = both_ways; same = two_way; traces = split_law; yes = sound_yes; exact = tests_and_traces }

pub test_laws : TestLaws
test_laws = record { reach = reach_test_lem; settle = settle_test_lem; offer = offer_test_lem; no = sound_no }
