use Rattle.std.proofs.Common.{rules, ◌≡◌, ℕ, List, ◌++◌, take, get_or, codes, replicate, Ok, refl, sym, ap, ◌∙◌, arith}
use Rattle.std.specs.Fmt.{HasWritten}
use Rattle.std.proofs.Output.{has_written_append, has_written_of_eq}
use Rattle.std.proofs.lemmas.Grind.{put_five}
use Rattle.cards.specs.Cards.{contents}
use Rattle.cards.specs.Contents.{written, wrote}
use Rattle.printing.proofs.Hex.{hex_padded}
use Rattle.printing.proofs.Texts.{each_more, each_done}
use Rattle.printing.proofs.Written.{front}
use Rattle.printing.specs.Numerals.{hex_word}
use Rattle.printing.specs.Shown.{card_text, head_text, line_text, lines_text, words_text, newline}
use Rattle.printing.proofs.cards_shown.CardShownDisplay.fmt.Goals as goal

pub loop-word-preserved : goal.loop-word-preserved
loop-word-preserved g c p =
    let ws = take c.unwrap-written.result c.write-2.new.out in
    let i = c.loop-word.word-index in
    let piece : HasWritten g.W.Write.write_str_gives c.loop-word.f (codes " " ++ hex_word (get_or ws i 0)) c.write-in-loop-word.new.self =
    has_written_of_eq _ _ _ _ _ (ap (λ (ds : List ℕ). codes " " ++ ds) (hex_padded (get_or ws i 0) (omega arith))) (search rules) in
    let more = each_more (λ (w : ℕ). codes " " ++ hex_word w) ws i 0 (omega arith) in
    has_written_of_eq _ _ _ _ _ more (has_written_append _ _ _ _ _ _ (c.loop-word.invariant p) piece)

pub returns-clause-writes : goal.returns-clause-writes
unfolding card_text
returns-clause-writes g c p k =
    let s = contents c.args.self.now.0.now in
    let count : Ok c.unwrap-written.result ≡ wrote (written s) (replicate 258 0) = sym c.unwrap-written.ensures ∙ c.write-2.ensures.told in
    let head : HasWritten g.W.Write.write_str_gives c.args.f.now (head_text s) c.writeln.new.self = search rules in
    let lines : HasWritten g.W.Write.write_str_gives c.writeln.new.self (lines_text s.lines) c.loop-line.f =
    has_written_of_eq _ _ _ _ _ (each_done line_text _ s.lines _ (omega arith) c.lines-lines.ensures.value) (c.loop-line.invariant head.plain) in
    let label : HasWritten g.W.Write.write_str_gives c.loop-line.f (codes "words") c.write.new.self = search rules in
    let words : HasWritten g.W.Write.write_str_gives c.write.new.self (words_text (written s)) c.loop-word.f =
    has_written_of_eq _ _ _ _ _ (each_done (λ (w : ℕ). codes " " ++ hex_word w) _ (written s) _ (omega arith) (front (written s) (replicate 258 0) c.write-2.new.out c.unwrap-written.result count c.write-2.ensures.after)) (c.loop-word.invariant label.plain) in
    let end : HasWritten g.W.Write.write_str_gives c.loop-word.f newline c.writeln-2.new.self = search rules in
    put_five _ _ _ _ _ _ _ _ _ _ _ _ _ head lines label words end refl
