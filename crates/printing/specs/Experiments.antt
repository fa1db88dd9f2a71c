-- A card file beside a test file, as text. Assumes nothing.
use Rattle.std.specs.Prelude.{◌≡◌, ℕ, ◌≤◌, cond, List, ◌++◌, Ok, Err, codes, Result, nat_le}
use Rattle.lts.specs.Sets.{has}
use Rattle.lts.specs.System.{System, Tester}
use Rattle.cards.specs.declared.faults.CardFault.{CardFault}
use Rattle.cards.specs.declared.lines.Role.TheVariants.{Card, Test}
use Rattle.cards.specs.Bytes.{read_bytes}
use Rattle.cards.specs.Contents.{Contents}
use Rattle.cards.specs.Lines.{system_of}
use Rattle.testing.specs.declared.experiment.Outcome.{Outcome}
use Rattle.testing.specs.Experiments.{tester, outcome_of, Says}
use Rattle.testing.specs.JointPairs.{pair_count}
use Rattle.printing.specs.Answers.{yes_or_no}
use Rattle.printing.specs.Shown.{newline, fault_text}

-- an outcome: may and must, a line each
abbrev pub told_text : Outcome → List ℕ
told_text o = codes "may " ++ (yes_or_no o.may ++ (codes "\nmust " ++ (yes_or_no o.must ++ newline)))

-- what joint runs of m and e say; more than 2,048 joint pairs are refused
unfoldable pub outcome_text : System → Tester → List ℕ
outcome_text m e = cond (nat_le (pair_count m e.system) 2048) (told_text (outcome_of m e)) (codes "REFUSED 7\n")

-- the text t tells may and must, as joint runs of m and e say, where there are not too many joint pairs
abbrev pub Tells : System → Tester → List ℕ → Type 0
Tells m e t = pair_count m e.system ≤ 2048 → (o : Outcome) × (t ≡ told_text o) × Says m e o

-- the card that a card file holds, and the test that a test file holds
abbrev pub card_of : Contents → System
card_of c = system_of c.states c.start c.lines

abbrev pub test_of : Contents → Tester
test_of c = tester (card_of c) (λ q. has q c.passing)

-- what is shown of a good card file and a test file
abbrev pub beside : Contents → Result Contents CardFault → List ℕ
beside c (Ok t) = outcome_text (card_of c) (test_of t)
beside c (Err e) = codes "TEST " ++ fault_text e.word

-- what is shown of both: the card file's fault comes first
abbrev pub outcome_or_fault : Result Contents CardFault → Result Contents CardFault → List ℕ
outcome_or_fault (Ok c) r = beside c r
outcome_or_fault (Err e) r = codes "CARD " ++ fault_text e.word

abbrev pub experiment_text : List ℕ → List ℕ → List ℕ
experiment_text cs ts = outcome_or_fault (read_bytes Card cs) (read_bytes Test ts)

-- the same of the text of two good files
abbrev pub FilesTell : List ℕ → List ℕ → List ℕ → Type 0
FilesTell cs ts t = (c d : Contents) → read_bytes Card cs ≡ Ok c → read_bytes Test ts ≡ Ok d → Tells (card_of c) (test_of d) t
