-- What a written card holds is valid. Assumes nothing.
use Rattle.std.specs.Prelude.{◌≡◌, ℕ, ◌^◌, ◌<◌, ◌≤◌, false}
use Rattle.std.proofs.Common.{arith}
use Rattle.lts.specs.Sets.{has}
use Rattle.lts.proofs.Membership.{outside, out_has}
use Rattle.cards.specs.declared.lines.Role.{Role}
use Rattle.cards.specs.declared.written_card.WrittenCard.{WrittenCard}
use Rattle.cards.specs.Cards.{contents_with}
use Rattle.cards.specs.Words.{is_test}
use Rattle.cards.proofs.RoundTrip.{Valid}

pub held_valid : (role : Role) (p : ℕ) (c : WrittenCard) → p < 2 ^ c.states → (is_test role ≡ false → p ≡ 0) → Valid role (contents_with p c)
held_valid role p c h a = record {
  some = c.sized.0;
  most = c.sized.1;
  starts = c.sized.2;
  fit = c.sound;
  ordered = c.ordered;
  few = omega (arith, c.few.0, c.lines.ok.0);
  passing = h;
  allowed = a;
}

-- what is no state does not pass
pub passes_none : (n p q : ℕ) → p < 2 ^ n → n ≤ q → has q p ≡ false
passes_none n p q h l = out_has q p (λ i. let z = outside n p q h l in omega arith)
