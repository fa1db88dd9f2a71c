-- Hiding: a system some of whose actions become silent. Assumes nothing.
use Rattle.std.specs.Prelude.{◌≡◌, ℕ, zero, suc, cond, ◌⊎◌, ◌↔◌}
use Rattle.lts.specs.Sets.{In, has, union}
use Rattle.lts.specs.System.{System}

-- where a silent transition, or an action below n of the set h, leads from p
unfoldable pub silenced : ℕ → System → ℕ → ℕ → ℕ
silenced h m p zero = m.hidden p
silenced h m p (suc n) = union (silenced h m p n) (cond (has n h) (m.visible p n) 0)

-- m with the actions of the set h hidden: their transitions are silent.
abbrev pub hide : ℕ → System → System
hide h m = record {
  count = m.count;
  start = m.start;
  visible = λ p a. cond (has a h) 0 (m.visible p a);
  hidden = λ p. silenced h m p 32;
}

-- The same by membership: above is below with the actions of h hidden.
pub record Hides (h : ℕ) (below above : System) : Type 0 where
  pub count : above.count ≡ below.count
  pub start : above.start ≡ below.start
  pub visible : (p a q : ℕ) → In q (above.visible p a) ↔ (¬ In a h) × In q (below.visible p a)
  pub hidden : (p q : ℕ) → In q (above.hidden p) ↔ In q (below.hidden p) ⊎ ((a : ℕ) × In a h × In q (below.visible p a))
