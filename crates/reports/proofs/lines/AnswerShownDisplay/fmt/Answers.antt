use Rattle.std.proofs.Common.{rules, ◌≡◌, ℕ, List, [], ◌++◌, ◌^◌, ◌-◌, true, false, codes, decimal, sym, ap, ◌∙◌, arith}
use Rattle.std.specs.Fmt.{HasWritten, padded_integral, format_spec, digits}
use Rattle.std.proofs.Output.{has_written_of_eq}
use Rattle.printing.proofs.Hex.{hex_padded}
use Rattle.printing.specs.Numerals.{hex_word}
use Rattle.printing.specs.Trails.{numbers_text}
use Rattle.comparison.specs.Exploration.{apart}
use Rattle.comparison.specs.Replies.{answer_of}
use Rattle.reports.specs.Printed.{answer_text}
use Rattle.reports.proofs.lines.AnswerShownDisplay.fmt.Goals as goal

-- the line at APART, with the texts of the ground, of the passer and of the offer
line_with : ℕ → List ℕ → List ℕ → List ℕ → List ℕ → List ℕ
line_with rows ground passer offer trace =
    codes "APART rows " ++ (decimal rows ++ (codes " ground " ++ (ground ++ (codes " passer " ++ (passer ++ (codes " offer " ++ (offer ++ (codes " track" ++ numbers_text trace))))))))

pub returns-in-Apart-clause-writes : goal.returns-in-Apart-clause-writes
unfolding line_with
returns-in-Apart-clause-writes g c p k =
    let a = c.args.self.now in
    let w = c.offer_word-offer.result in
    let hex : List ℕ = padded_integral (format_spec 32 0 4 8 (2 ^ 64 - 1)) false [] (digits 16 true w) in
    let line : HasWritten g.W.Write.write_str_gives c.args.f.now (line_with a.progress.rows c.ground_name-ground.result.now c.side_name-passer.result.now hex a.trace.now) c.write-in-Apart.new.self = search rules in
    let ground_is = c.ground_name-ground.ensures in
    let passer_is = c.side_name-passer.ensures in
    let offer_is = hex_padded w (omega arith) ∙ ap hex_word c.offer_word-offer.ensures in
    let same : line_with a.progress.rows c.ground_name-ground.result.now c.side_name-passer.result.now hex a.trace.now ≡ answer_text (apart c.in-Apart.split) a.progress.rows a.trace.now = λ i. line_with a.progress.rows (ground_is i) (passer_is i) (offer_is i) a.trace.now in
    has_written_of_eq _ _ _ _ _ (same ∙ sym (ap (λ o. answer_text (answer_of o) a.progress.rows a.trace.now) c.in-Apart.is)) line
