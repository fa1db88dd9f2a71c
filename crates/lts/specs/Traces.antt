-- What can be found of a system from outside: traces, divergence and acceptance sets. Assumes nothing.
use Rattle.std.specs.Prelude.{◌≡◌, ℕ, zero, suc, not, List, [], ◌∷◌, ◌++◌, ◌==◌}
use Rattle.lts.specs.Sets.{In, Subset, set_of}
use Rattle.lts.specs.System.{System}

-- the action a leads from p to q
abbrev pub Visible : System → ℕ → ℕ → ℕ → Type 0
Visible m p a q = In q (m.visible p a)

-- a silent transition leads from p to q
abbrev pub Hidden : System → ℕ → ℕ → Type 0
Hidden m p q = In q (m.hidden p)

-- from p to q by the actions of s in order, with silent steps before, between and after
pub data Path (m : System) : ℕ → List ℕ → ℕ → Type 0 where
  done : {p : ℕ} → Path m p [] p
  silent : {p q r : ℕ} {s : List ℕ} → Hidden m p q → Path m q s r → Path m p s r
  action : {p a q r : ℕ} {s : List ℕ} → Visible m p a q → Path m q s r → Path m p (a ∷ s) r

-- q is a state that m may be in after the trace s
abbrev pub After : System → List ℕ → ℕ → Type 0
After m s q = Path m m.start s q

abbrev pub CanDo : System → List ℕ → Type 0
CanDo m s = (q : ℕ) × After m s q

-- n edges from p to q, in the graph where f p is the set of the nodes that an edge leads to from p
pub data Walk (f : ℕ → ℕ) : ℕ → ℕ → ℕ → Type 0 where
  stay : {p : ℕ} → Walk f zero p p
  move : {n p q r : ℕ} → In q (f p) → Walk f n q r → Walk f (suc n) p r

-- walks of every length begin at p
abbrev pub Endless : (ℕ → ℕ) → ℕ → Type 0
Endless f p = (n : ℕ) → (q : ℕ) × Walk f n p q

-- n silent steps
abbrev pub HiddenRun : System → ℕ → ℕ → ℕ → Type 0
HiddenRun m n p q = Walk m.hidden n p q

-- silent runs of every length begin at p
abbrev pub Divergent : System → ℕ → Type 0
Divergent m p = Endless m.hidden p

-- m is convergent along s: no state after s, or after a beginning of s, is divergent
abbrev pub Convergent : System → List ℕ → Type 0
Convergent m s = (u v : List ℕ) → u ++ v ≡ s → (q : ℕ) → After m u q → ¬ Divergent m q

-- no silent transition leaves q
abbrev pub Stable : System → ℕ → Type 0
Stable m q = m.hidden q ≡ 0

-- the actions that lead somewhere from q
abbrev pub offer : System → ℕ → ℕ
offer m q = set_of (λ a. not (m.visible q a == 0)) 32

-- A is what a stable state after s offers
pub record Acceptance (m : System) (s : List ℕ) (A : ℕ) : Type 0 where
  pub state : ℕ
  pub after : After m s state
  pub stable : Stable m state
  pub offers : offer m state ≡ A

-- an acceptance set after s that contains no other
pub record Minimal (m : System) (s : List ℕ) (A : ℕ) : Type 0 where
  pub member : Acceptance m s A
  pub least : (B : ℕ) → Acceptance m s B → Subset B A → B ≡ A
