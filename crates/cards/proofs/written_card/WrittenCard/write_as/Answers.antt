use Rattle.std.proofs.Common.{◌≡◌, ℕ, ◌+◌, List, map, length, set, sym, ap, ◌∙◌, rules, arith}
use Rattle.std.proofs.lemmas.List.{length-map}
use Rattle.lts.specs.Sets.{members}
use Rattle.cards.specs.declared.lines.Line.{Line}
use Rattle.cards.specs.Cards.{contents_with}
use Rattle.cards.specs.Contents.{written, laid}
use Rattle.cards.specs.Words.{line_word, head_word, passing_word, end_word}
use Rattle.cards.proofs.Laid.{laid_whole, short, long}
use Rattle.cards.proofs.Written.{written_length}
use Rattle.cards.proofs.written_card.WrittenCard.write_as.Goals as goal

pub overflow_add-end-2 : goal.overflow_add-end-2
overflow_add-end-2 c = omega (arith, c.len.ensures.bound, c.len-lines.ensures, c.args.self.now.few.0)

pub returns-then-out-end : goal.returns-then-out-end
returns-then-out-end c =
    let s = contents_with c.args.passing.bits c.args.self.now in
    let r = short (written s) c.args.out.now (omega (arith, written_length s, c.len-lines.ensures, c.len.ensures.value, c.args.self.now.lines.ok.0)) in
    record { told = r.0; after = r.1 }

pub returns : goal.returns
unfolding written
returns c =
    let card = c.args.self.now in
    let s = contents_with c.args.passing.bits card in
    let n : length card.lines.items ≡ c.len-lines.result = omega (arith, card.lines.ok.0, c.len-lines.ensures) in
    let k = c.len.ensures.value in
    let w = written_length s in
    let head = head_word (length card.lines.items) card.start card.states in
    let put : ℕ = c.unwrap-first.result in
    let same : put ≡ head = search rules in
    let whole =
    laid_whole head end_word c.len-lines.result c.len.result (map line_word card.lines.items) (map passing_word (members c.args.passing.bits)) c.args.out.now (set c.args.out.now 0 put) c.write_lines.new.out c.write_passing.new.out
    (length-map card.lines.items line_word ∙ n) (length-map (members c.args.passing.bits) passing_word ∙ sym k) (omega arith)
    (ap (set c.args.out.now 0) same) (c.write_lines.ensures ∙ ap (λ (ls : List Line). laid 1 (map line_word ls) (set c.args.out.now 0 put)) c.deref.ensures.value) c.write_passing.ensures in
    let r =
    long (written s) c.args.out.now (set c.write_passing.new.out (1 + c.len-lines.result + c.len.result) c.from.result) (1 + c.len-lines.result + c.len.result + 1) (omega arith) (omega arith)
    (ap (set c.write_passing.new.out (1 + c.len-lines.result + c.len.result)) c.from.ensures ∙ whole) in
    record { told = r.0; after = r.1 }
