use Rattle.std.proofs.Common.{rules, ◌≡◌, ℕ, List, ◌++◌, refl, ap, ◌∙◌, arith}
use Rattle.std.specs.Fmt.{HasWritten}
use Rattle.std.proofs.Output.{has_written_append, has_written_of_eq}
use Rattle.std.proofs.lemmas.Grind.{put_three}
use Rattle.lts.specs.Sets.{members}
use Rattle.cards.specs.declared.lines.Label.TheVariants.{Action, Silent}
use Rattle.printing.specs.Systems.{targets_text, text_from, actions_text, visible_text, silent_text, system_head, system_text}
use Rattle.printing.proofs.Moves.{from_more}
use Rattle.printing.proofs.systems_shown.SystemShownDisplay.fmt.Goals as goal

pub loop-state-init : goal.loop-state-init
unfolding text_from
loop-state-init g c p = search rules

pub loop-action-init : goal.loop-action-init
unfolding text_from
loop-action-init g c p = search rules

pub loop-action-preserved : goal.loop-action-preserved
loop-action-preserved g c p =
    let m = g.S.Lts.meaning c.args.self.now.0.now in
    let s = c.loop-state.state in
    let a = c.loop-action.action in
    let done = c.loop-action.invariant p in
    let set = c.members-targets.ensures.value ∙ c.visible.ensures ∙ ap (m.visible s) c.from.ensures in
    let piece = ap (λ (q : ℕ). targets_text s (Action a) (members q)) set in
    has_written_of_eq _ _ _ _ _ (ap (λ (t : List ℕ). actions_text m s a ++ t) piece ∙ from_more (λ (k : ℕ). targets_text s (Action k) (members (m.visible s k))) a)
    (has_written_append _ _ _ _ _ _ done (c.in_ok-write_targets.ensures done.plain refl))

pub loop-state-preserved : goal.loop-state-preserved
loop-state-preserved g c p =
    let m = g.S.Lts.meaning c.args.self.now.0.now in
    let s = c.loop-state.state in
    let all : c.loop-action.action ≡ 32 = omega arith in
    let done = c.loop-state.invariant p in
    has_written_of_eq _ _ _ _ _ (ap (λ (n : ℕ). text_from (visible_text m) 0 s ++ actions_text m s n) all ∙ from_more (visible_text m) s) (has_written_append _ _ _ _ _ _ done (c.loop-action.invariant done.plain))

pub loop-from-init : goal.loop-from-init
unfolding text_from
loop-from-init g c p = search rules

pub loop-from-preserved : goal.loop-from-preserved
loop-from-preserved g c p =
    let m = g.S.Lts.meaning c.args.self.now.0.now in
    let s = c.loop-from.from in
    let done = c.loop-from.invariant p in
    let piece = ap (λ (q : ℕ). targets_text s Silent (members q)) (c.members.ensures.value ∙ c.hidden.ensures) in
    has_written_of_eq _ _ _ _ _ (ap (λ (t : List ℕ). text_from (silent_text m) 0 s ++ t) piece ∙ from_more (silent_text m) s)
    (has_written_append _ _ _ _ _ _ done (c.in_ok-write_targets-2.ensures done.plain refl))

pub returns-clause-writes : goal.returns-clause-writes
unfolding system_text
returns-clause-writes g c p k =
    let m = g.S.Lts.meaning c.args.self.now.0.now in
    let head : HasWritten g.W.Write.write_str_gives c.args.f.now (system_head m) c.writeln.new.self = search rules in
    let all : c.loop-state.state ≡ m.count = omega arith in
    let silent : c.loop-from.from ≡ m.count = omega arith in
    let visible = has_written_of_eq _ _ _ _ _ (ap (λ (n : ℕ). text_from (visible_text m) 0 n) all) (c.loop-state.invariant head.plain) in
    let last = has_written_of_eq _ _ _ _ _ (ap (λ (n : ℕ). text_from (silent_text m) 0 n) silent) (c.loop-from.invariant visible.plain) in
    put_three _ _ _ _ _ _ _ _ _ head visible last refl
