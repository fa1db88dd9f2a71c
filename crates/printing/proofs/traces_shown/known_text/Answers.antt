use Rattle.std.proofs.Common.{◌≡◌, ℕ, List, IfOk, string_bytes, ◌∙◌, subst}
use Rattle.traces.specs.Offered.{bits_of}
use Rattle.traces.specs.Compiled.{system_of}
use Rattle.traces.specs.Shown.{shown}
use Rattle.printing.proofs.Known.{known}
use Rattle.printing.proofs.traces_shown.known_text.Goals as goal

pub returns : goal.returns
returns g c =
    let sets = c.members.ensures.value ∙ c.acceptance_into.ensures.value in
    let same = known (g.S.Lts.meaning c.args.system.now) (system_of c.in_ok-compiled.compiled) c.args.trace.now (shown c.after-at.result) (bits_of c.members.result.now) sets c.in_ok-compiled.ensures c.after-at.ensures.value in
    subst (λ (t : List ℕ). IfOk c.to_string.result (λ s. string_bytes s ≡ t)) same c.to_string.ensures.ok
