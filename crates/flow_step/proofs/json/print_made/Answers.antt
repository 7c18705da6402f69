use Rattle.std.proofs.Common.{[], ◌∷◌, ◌∙◌, codes}
use Rattle.std.proofs.lemmas.Result.{IfOk-weaker}
use Rattle.flow_step.specs.Json.{joined}
use Rattle.flow_step.proofs.json.print_made.Goals as goal

pub returns : goal.returns
returns c =
    let entry = c.deref.ensures.value ∙ c.in_ok-record.ensures in
    let reply = c.deref-2.ensures.value ∙ c.in_ok-reply.ensures in
    let next = c.deref-3.ensures.value ∙ c.in_ok-next.ensures in
    IfOk-weaker c.print_pieces.result _ _
    (λ text is. is
    ∙ (λ i. joined (codes "{\"ok\":true,\"entries\":[" ∷ entry i ∷ codes "],\"reply\":" ∷ reply i ∷ codes ",\"next\":[" ∷ next i ∷ codes "]}" ∷ [])))
    c.print_pieces.ensures
