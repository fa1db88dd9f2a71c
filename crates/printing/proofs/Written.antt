-- The words that a card is written as. Assumes nothing.
use Rattle.std.proofs.Common.{◌≡◌, ℕ, Bool, true, false, cond, leb, List, ◌++◌, length, take, drop, Ok, Err, Result, ap, ◌∙◌, arith}
use lib.Seq.{take-append_seam}
use Rattle.cards.specs.Contents.{wrote, buffer}
use Rattle.cards.specs.declared.faults.ShortBuffer.{ShortBuffer}

-- what was written stands at the front of the buffer
pub front : (ws out new : List ℕ) (n : ℕ) → Ok n ≡ wrote ws out → new ≡ buffer ws out → take n new ≡ ws
front ws out new n e f = by (leb (length ws) (length out)) e f
  where
    by : (b : Bool) → ◌≡◌ {A = Result ℕ ShortBuffer} (Ok n) (cond b (Ok (length ws)) (Err record {})) → new ≡ cond b (ws ++ drop (length ws) out) out → take n new ≡ ws
    by true p q =
        let m : n ≡ length ws = cc in
        ap (λ (k : ℕ). take k new) m ∙ ap (take (length ws)) q ∙ take-append_seam ws (drop (length ws) out)
    by false p q = absurd (let z : ◌≡◌ {A = ℕ} 0 1 = cc in omega arith)
