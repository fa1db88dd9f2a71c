use Rattle.std.proofs.Common.{List, map, length, sym, ap, ◌∙◌, subst, arith}
use Rattle.cards.specs.declared.lines.Line.{Line}
use Rattle.cards.specs.Lines.{lines_fit, rising, Tabled}
use Rattle.cards.specs.Words.{line_word}
use Rattle.cards.proofs.RoundTrip.{taken_sized, taken_counted, taken_fit, taken_rising}
use Rattle.cards.proofs.Tabled.{lines_fit_wider}
use Rattle.cards.proofs.written_card.WrittenCard.read_as.Goals as goal

pub collect-passing-requires : goal.collect-passing-requires
collect-passing-requires c =
    let e = sym c.in_ok-head.ensures in
    omega (arith, taken_counted c.args.role c.args.words.now c.in_ok-head.head e, (taken_sized c.args.role c.args.words.now c.in_ok-head.head e).few, c.args.self.now.few.1)

pub fill-requires : goal.fill-requires
fill-requires c =
    let e = sym c.in_ok-head.ensures in
    let h = c.in_ok-head.head in
    ap (lines_fit 64) (c.deref.ensures.value ∙ c.collect-passing.ensures.lines)
    ∙ lines_fit_wider h.states 64 _ (taken_sized c.args.role c.args.words.now h e).most (taken_fit c.args.role c.args.words.now h e)

pub invariant_of-self : goal.invariant_of-self
invariant_of-self c =
    let e = sym c.in_ok-head.ensures in
    let h = c.in_ok-head.head in
    let s = taken_sized c.args.role c.args.words.now h e in
    let l = c.collect-passing.ensures.lines in
    let n = taken_counted c.args.role c.args.words.now h e in
    record {
      sized = (s.some, s.most, s.starts);
      sound = ap (lines_fit h.states) l ∙ taken_fit c.args.role c.args.words.now h e;
      ordered = ap (λ (ls : List Line). rising 0 (map line_word ls)) l ∙ taken_rising c.args.role c.args.words.now h e;
      few = (
        omega (arith, c.collect-passing.new.lines.ok.0, ap length l, n, s.few),
        omega (arith, c.collect-passing.ensures.room, c.args.self.now.few.1),
      );
      tabled = subst (Tabled c.fill.new.self.rows.items) c.deref.ensures.value c.fill.ensures;
    }
