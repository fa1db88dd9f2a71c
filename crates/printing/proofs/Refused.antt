-- A refused experiment, as text. Assumes nothing.
use Rattle.std.proofs.Common.{◌≡◌, ℕ, ◌++◌, Some, Err, codes, decimal, sym, ap, ◌∙◌, arith}
use Rattle.std.proofs.lemmas.Bool.{cond-false, lt-leb}
use Rattle.std.specs.Fmt.{digits}
use Rattle.lts.specs.System.{System, Tester}
use Rattle.testing.specs.declared.experiment.ExperimentFault.{ExperimentFault}
use Rattle.testing.specs.declared.experiment.ExperimentFault.TheVariants.{TooLarge, Memory}
use Rattle.testing.specs.Experiments.{Tells, outcome_of, number}
use Rattle.testing.specs.JointPairs.{pair_count}
use Rattle.printing.specs.Shown.{newline}
use Rattle.printing.specs.Experiments.{told_text, outcome_text}

-- only too many joint pairs have a number
pub refused : (m : System) (e : Tester) (f : ExperimentFault) (n : ℕ) → Some n ≡ number f → Tells m e (Err f) → codes "REFUSED " ++ (decimal n ++ newline) ≡ outcome_text m e
unfolding outcome_text digits
refused m e TooLarge n s a =
    let seven : n ≡ 7 = cc in
    ap (λ (k : ℕ). codes "REFUSED " ++ (decimal k ++ newline)) seven ∙ sym (cond-false _ (told_text (outcome_of m e)) (codes "REFUSED 7\n") (lt-leb (pair_count m e.system) 2048 a))
refused m e Memory n s a = absurd (let z : ◌≡◌ {A = ℕ} 0 1 = cc in omega arith)
