use Rattle.std.proofs.Common.{◌≡◌, ℕ, ◌<◌, ◌≤◌, [], ◌∷◌, length, get_or, Some, None, vec_items, vec_capacity, sym, ap, ◌∙◌, append-nil, arith, length-append}
use Rattle.lts.specs.SetTypes.{StateSet}
use Rattle.lts.specs.Sets.{inserted}
use Rattle.cards.specs.declared.lines.Role.TheVariants.{Test}
use Rattle.cards.specs.declared.lines.Word.TheVariants.{Line, Passing, End}
use Rattle.cards.specs.Contents.{with_all}
use Rattle.cards.specs.Reading.{lines_in}
use Rattle.cards.specs.Words.{decode}
use Rattle.cards.proofs.Collected.{line_room, lines_on, passing_on, lines_all, passing_all}
use Rattle.cards.proofs.collecting.collect.Goals as goal
use Rattle.cards.proofs.collecting.collect.Goals.{in-Some-Line, in-Some-Passing, in-Some-End, in-None}

pub push_reserved-requires : goal.push_reserved-requires
push_reserved-requires c =
    let ws = c.args.words.now in
    let i = c.loop-word.word-index in
    let items = c.loop-word.lines.items in
    let line = c.in-Some-Line.line in
    let e : Some (Line line) ≡ decode Test (get_or ws i 0) = ap Some (sym c.in-Some-Line.field-0-is) ∙ c.in-Some-Line.ensures in
    let room : length (lines_in ws) ≤ c.loop-word.lines.cap = omega (arith, c.loop-word.invariant.1, c.clear.ensures.capacity, c.requires) in
    omega (arith, line_room ws i (Some (Line line)) (omega arith) e c.loop-word.lines.cap items c.loop-word.invariant.0 room, length-append items (line ∷ []), c.loop-word.lines.ok.0)

pub loop-word-preserved : goal.loop-word-preserved
unfolding with_all
loop-word-preserved c =
    let ws = c.args.words.now in
    let i = c.loop-word.word-index in
    let h : i < length ws = omega arith in
    let inv = c.loop-word.invariant in
    let items = c.loop-word.lines.items in
    let now = c.match-decode.lines.items in
    let set = c.loop-word.passing.bits in
    let set_now = c.match-decode.passing.bits in
    elim c.match-decode.branch [
      | in-Some-Line w ↦
          let e : Some (Line w.in-Some-Line.line) ≡ decode Test (get_or ws i 0) = ap Some (sym w.in-Some-Line.field-0-is) ∙ w.in-Some-Line.ensures in (
            lines_on ws i _ h e items now inv.0 (ap vec_items w.lines-is ∙ w.push_reserved.ensures.items),
            ap vec_capacity w.lines-is ∙ w.push_reserved.ensures.capacity ∙ inv.1,
            passing_on ws i _ h e _ set set_now inv.2 (ap (λ (s : StateSet). s.bits) w.passing-is),
          )
      | in-Some-Passing w ↦
          let e : Some (Passing w.in-Some-Passing.state) ≡ decode Test (get_or ws i 0) = ap Some (sym w.in-Some-Passing.field-0-is) ∙ w.in-Some-Passing.ensures in (
            lines_on ws i _ h e items now inv.0 (ap vec_items w.lines-is ∙ sym (append-nil items)),
            ap vec_capacity w.lines-is ∙ inv.1,
            passing_on ws i _ h e _ set set_now inv.2 (ap (λ (s : StateSet). s.bits) w.passing-is ∙ w.insert.ensures.after ∙ ap (λ (q : ℕ). inserted 64 q set) w.from.ensures),
          )
      | in-Some-End w ↦
          let e : Some End ≡ decode Test (get_or ws i 0) = ap Some (sym w.in-Some-End.field-0-is) ∙ w.in-Some-End.ensures in (
            lines_on ws i _ h e items now inv.0 (ap vec_items w.lines-is ∙ sym (append-nil items)),
            ap vec_capacity w.lines-is ∙ inv.1,
            passing_on ws i _ h e _ set set_now inv.2 (ap (λ (s : StateSet). s.bits) w.passing-is),
          )
      | in-None w ↦
          let e : None ≡ decode Test (get_or ws i 0) = w.in-None.ensures in (
            lines_on ws i None h e items now inv.0 (ap vec_items w.lines-is ∙ sym (append-nil items)),
            ap vec_capacity w.lines-is ∙ inv.1,
            passing_on ws i None h e _ set set_now inv.2 (ap (λ (s : StateSet). s.bits) w.passing-is),
          )
    ]

pub returns-clause-lines : goal.returns-clause-lines
returns-clause-lines c = lines_all c.args.words.now c.loop-word.word-index c.loop-word.lines.items (omega arith) c.loop-word.invariant.0

pub returns-clause-passing : goal.returns-clause-passing
returns-clause-passing c = passing_all c.args.words.now c.loop-word.word-index _ c.loop-word.passing.bits (omega arith) c.loop-word.invariant.2
