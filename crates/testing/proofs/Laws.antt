-- The laws of systems, about members of sets. Assumes nothing.
use Rattle.std.proofs.Common.{ℕ, ◌<◌, not, eqb, ◌≢◌, List, arith, eqb→eq, T_not}
use native.Mathlib.Decide.{dec_lt}
use lib.Dec.{not_T}
use Rattle.lts.specs.Sets.{In}
use Rattle.lts.specs.System.{System, Lawful}
use Rattle.lts.specs.Traces.{Hidden, Visible, Path, done, silent, action, offer}
use Rattle.lts.specs.Order.{Actions}
use Rattle.lts.proofs.Membership.{members_below, not_empty, in_set, set_in}
use Rattle.testing.proofs.Truth.{eq_T}

-- transitions lead to states, by actions below 32
pub hidden_in : (m : System) → Lawful m → (p q : ℕ) → Hidden m p q → q < m.count
hidden_in m lawful p q h = members_below m.count (m.hidden p) q (lawful.hidden_below p) h

pub visible_in : (m : System) → Lawful m → (p a q : ℕ) → Visible m p a q → q < m.count
visible_in m lawful p a q h = members_below m.count (m.visible p a) q (lawful.visible_below p a) h

pub action_below : (m : System) → Lawful m → (p a q : ℕ) → Visible m p a q → a < 32
action_below m lawful p a q h = elim (dec_lt a 32) [
  | yes b ↦ b
  | no b ↦ absurd (not_empty q (m.visible p a) h (lawful.no_action p a (omega arith)))
]

-- what a lawful system can do is a trace
pub path_actions : (m : System) → Lawful m → {p q : ℕ} {s : List ℕ} → Path m p s q → Actions s
path_actions m lawful done = tt
path_actions m lawful (silent h w) = path_actions m lawful w
path_actions m lawful (action {p = p} {a = a} {q = q} h w) = (action_below m lawful p a q h, path_actions m lawful w)

-- the actions that a state offers are those that lead somewhere
pub offer_below : (m : System) (q a : ℕ) → In a (offer m q) → a < 32
offer_below m q a h = (in_set (λ c. not (eqb (m.visible q c) 0)) 32 a h).0

pub offered : (m : System) (q a : ℕ) → In a (offer m q) → m.visible q a ≢ 0
offered m q a h e =
    T_not (eqb (m.visible q a) 0) (in_set (λ c. not (eqb (m.visible q c) 0)) 32 a h).1 (eq_T (m.visible q a) 0 e)

pub offers : (m : System) → Lawful m → (q a r : ℕ) → Visible m q a r → In a (offer m q)
offers m lawful q a r h =
    set_in (λ c. not (eqb (m.visible q c) 0)) 32 a (action_below m lawful q a r h)
    (not_T (eqb (m.visible q a) 0) (λ t. not_empty r (m.visible q a) h (eqb→eq (m.visible q a) 0 t)))
