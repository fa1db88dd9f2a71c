use Rattle.cards.proofs.Tabled.{same_row, tabled_none}
use Rattle.cards.proofs.tables.Table.new.Goals as goal

pub returns : goal.returns
returns c = tabled_none 64 33 c.empty.result _ (c.in_ok-rows.ensures.items_if_clones_equal (λ y e. same_row _ y e.whole)) c.empty.ensures
