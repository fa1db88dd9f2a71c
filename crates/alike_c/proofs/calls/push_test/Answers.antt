use Rattle.std.proofs.Common.{rules, ◌≡◌, ℕ, OnOk, subst, List, [], ◌∷◌, ◌++◌, ap, ◌∙◌}
use Rattle.comparison.specs.Exploration.{told_trace}
use Rattle.comparison.specs.Compared.{state_of}
use Rattle.alike_c.specs.CardReplies.{word}
use Rattle.alike_c.proofs.CallSteps.{filled}
use Rattle.alike_c.proofs.calls.push_test.Goals as goal

pub returns-in-Ok : goal.returns-in-Ok
returns-in-Ok c =
    let st = state_of c.args.comparison.now in
    let words = (λ i. 2 ∷ (c.word.ensures ∙ ap word c.count.ensures) i ∷ []) ∙ filled st.answer (told_trace st) c.fill_test.new.test _ c.in-Ok.ensures.told c.in-Ok.ensures.after in
    let pushed : OnOk c.extend_from_slice.result (c.extend_from_slice.new.self.items ≡ c.args.replies.now.items ++ (2 ∷ c.word.result ∷ [])) = search rules in
    subst (λ (t : List ℕ). OnOk c.extend_from_slice.result (c.extend_from_slice.new.self.items ≡ c.args.replies.now.items ++ t)) words pushed
