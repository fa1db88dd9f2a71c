use Rattle.std.proofs.Common.{◌≡◌, ℕ, ◌^◌, ◌<◌, List, [], ◌∷◌, ◌++◌, map, length, sym, refl, ap, ◌∙◌, arith, length-append}
use Rattle.std.proofs.lemmas.List.{map-append, length-map}
use Rattle.lts.specs.Sets.{members}
use Rattle.lts.specs.declared.members.Members.{Members}
use Rattle.cards.specs.Contents.{laid}
use Rattle.cards.specs.Words.{passing_word}
use Rattle.cards.proofs.Laid.{laid_none, laid_step}
use Rattle.cards.proofs.Written.{come_more, come_below, come_room, come_all}
use Rattle.cards.proofs.writing.write_passing.Goals as goal

pub loop-state-init : goal.loop-state-init
loop-state-init c = (tt, tt, omega arith, sym (laid_none c.args.at c.args.out.now), refl)

-- the set that is walked over
walked : (c : goal.After-from-word) → c.into_iter-state-iterator.result.rest ≡ c.args.passing.bits
walked c = ap (λ (m : Members). m.rest) c.into_iter-state-iterator.ensures.into_iter_gives ∙ c.members-state-items.ensures.value

small : (c : goal.After-from-word) → c.into_iter-state-iterator.result.rest < 2 ^ 64
small c = omega (arith, walked c)

room : (c : goal.After-from-word) → c.loop-state.place < length c.args.out.now
room c =
    omega (
      arith,
      c.requires,
      c.loop-state.invariant.2,
      ap (λ (s : ℕ). length (members s)) (walked c),
      come_room c.into_iter-state-iterator.result.rest c.loop-state.state-iterator.rest c.next.new.self.rest c.in-Some.state c.loop-state.yielded (small c) c.loop-state.invariant.4 c.in-Some.ensures.steps,
    )

pub overflow_cast-state : goal.overflow_cast-state
overflow_cast-state c =
    let s = c.into_iter-state-iterator.result.rest in
    let e = ap (λ (m : Members). m.rest) c.into_iter-state-iterator.ensures.into_iter_gives ∙ c.members-state-items.ensures.value in
    omega (arith, come_below s c.loop-state.state-iterator.rest c.next.new.self.rest c.in-Some.state c.loop-state.yielded (omega (arith, e)) c.loop-state.invariant.4 c.in-Some.ensures.steps)

pub bounds-out-place : goal.bounds-out-place
bounds-out-place c = omega (arith, room c, c.loop-state.auto.out)

pub offset_bounds-out-place : goal.offset_bounds-out-place
offset_bounds-out-place c = omega (arith, room c)

pub overflow_add-place : goal.overflow_add-place
overflow_add-place c = omega (arith, room c)

pub loop-state-preserved : goal.loop-state-preserved
loop-state-preserved c =
    let come = c.loop-state.yielded in
    let q = c.in-Some.state in (
      tt,
      tt,
      omega (arith, c.loop-state.invariant.2, length-append come (q ∷ [])),
      laid_step c.args.at c.loop-state.place (map passing_word come) (map passing_word (come ++ (q ∷ []))) c.args.out.now c.loop-state.out c.from-word.result c.loop-state.invariant.3
          (omega (arith, c.loop-state.invariant.2, length-map come passing_word)) (room c)
          (map-append passing_word come (q ∷ []) ∙ ap (λ (w : ℕ). map passing_word come ++ (w ∷ [])) (sym c.from-word.ensures)),
      come_more c.into_iter-state-iterator.result.rest c.loop-state.state-iterator.rest c.next.new.self.rest q come (small c) c.loop-state.invariant.4 c.in-Some.ensures.steps,
    )

pub returns : goal.returns
returns c =
    let e : c.into_iter-state-iterator.result.rest ≡ c.args.passing.bits =
    ap (λ (m : Members). m.rest) c.into_iter-state-iterator.ensures.into_iter_gives ∙ c.members-state-items.ensures.value in
    let all : c.loop-state.yielded ≡ members c.args.passing.bits =
    come_all c.into_iter-state-iterator.result.rest c.loop-state.state-iterator.rest c.loop-state.yielded c.loop-state.invariant.4 c.in-None.ensures.steps.0 ∙ ap members e in
    c.loop-state.invariant.3 ∙ ap (λ (qs : List ℕ). laid c.args.at (map passing_word qs) c.args.out.now) all
