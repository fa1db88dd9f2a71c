use Rattle.std.proofs.Common.{rules, ℕ, List, ◌++◌, get_or, codes, refl, sym, ap, ◌∙◌, append_assoc, arith}
use Rattle.std.specs.Fmt.{HasWritten}
use Rattle.std.proofs.Output.{has_written_append, has_written_of_eq}
use Rattle.std.proofs.lemmas.Grind.{put_three, put_four}
use Rattle.std.proofs.lemmas.List.Folds.{flat_map-map}
use Rattle.lts.specs.Sets.{members}
use Rattle.lts.specs.SetTypes.{ActionSet}
use Rattle.printing.specs.Shown.{newline}
use Rattle.printing.specs.Trails.{numbers_text, accept_text}
use Rattle.printing.proofs.Members.{drained}
use Rattle.printing.proofs.Texts.{each_more, each_done}
use Rattle.printing.proofs.traces_shown.KnownDisplay.fmt.Goals as goal

pub loop-set-preserved : goal.loop-set-preserved
loop-set-preserved g c p =
    let sets = c.args.self.now.accepts.now in
    let i = c.loop-set.set-index in
    let s = get_or sets i (record { bits = 0 }) in
    let done = c.loop-set.invariant p in
    let label : HasWritten g.W.Write.write_str_gives c.loop-set.f (codes "accepts") c.write-in-loop-set.new.self = search rules in
    let shown = c.in_ok-write_numbers-2.ensures refl in
    let listed = drained shown.0 c.members-in-loop-set.result shown.1 ∙ ap members c.members-in-loop-set.ensures.value in
    let members = has_written_of_eq _ _ _ _ _ (ap numbers_text listed) (shown.2 label.plain) in
    let end : HasWritten g.W.Write.write_str_gives c.write_numbers-in-loop-set.new.f newline c.writeln.new.self = search rules in
    has_written_of_eq _ _ _ _ _ (each_more (λ (a : ActionSet). accept_text a.bits) sets i (record { bits = 0 }) (omega arith))
    (has_written_append _ _ _ _ _ _ done (put_three _ _ _ _ _ _ _ _ _ label members end refl))

pub returns-clause-writes : goal.returns-clause-writes
returns-clause-writes g c p k =
    let known = c.args.self.now in
    let head : HasWritten g.W.Write.write_str_gives c.args.f.now (codes "trace" ++ (numbers_text known.trace.now ++ codes "\nstates")) c.write.new.self = search rules in
    let shown = c.in_ok-write_numbers.ensures refl in
    let listed = drained shown.0 c.members.result shown.1 ∙ ap members c.members.ensures.value in
    let states = has_written_of_eq _ _ _ _ _ (ap numbers_text listed) (shown.2 head.plain) in
    let line : HasWritten g.W.Write.write_str_gives c.write_numbers.new.f (codes "\nconvergent " ++ (c.yes_or_no-convergent.result.now ++ newline)) c.write-2.new.self = search rules in
    let convergent = has_written_of_eq _ _ _ _ _ (ap (λ (bs : List ℕ). codes "\nconvergent " ++ (bs ++ newline)) c.yes_or_no-convergent.ensures) line in
    let sets = has_written_of_eq _ _ _ _ _ (each_done (λ (a : ActionSet). accept_text a.bits) known.accepts.now known.accepts.now c.loop-set.set-index c.loop-set-test.false refl ∙ sym (flat_map-map accept_text (λ (a : ActionSet). a.bits) known.accepts.now)) (c.loop-set.invariant convergent.plain) in
    put_four _ _ _ _ _ _ _ _ _ _ _ head states convergent sets (ap (λ (bs : List ℕ). codes "trace" ++ bs) (append_assoc (numbers_text known.trace.now) (codes "\nstates") _))
