use Rattle.std.proofs.Common.{◌≡◌, ◌++◌, ◌∷◌, [], IfOk, subst, ◌∙◌}
use Rattle.flow_export.specs.Rows.{csv_record}
use Rattle.flow_export.proofs.csv_form.csv_head.Goals as goal

pub returns : goal.returns
returns c =
    let f1 = c.in_ok-push.ensures.fields ∙ (λ i. c.new-names.ensures.fields i ++ c.as_bytes.ensures.value i ∷ []) in
    let f2 = c.in_ok-push-2.ensures.fields ∙ (λ i. f1 i ++ c.as_bytes-2.ensures.value i ∷ []) in
    let f3 = c.in_ok-push-3.ensures.fields ∙ (λ i. f2 i ++ c.as_bytes-3.ensures.value i ∷ []) in
    let f4 = c.in_ok-push-4.ensures.fields ∙ (λ i. f3 i ++ c.as_bytes-4.ensures.value i ∷ []) in
    let f5 = c.in_ok-push-5.ensures.fields ∙ (λ i. f4 i ++ c.as_bytes-5.ensures.value i ∷ []) in
    let f6 = c.in_ok-push-6.ensures.fields ∙ (λ i. f5 i ++ c.as_bytes-6.ensures.value i ∷ []) in
    let f7 = c.in_ok-push-7.ensures.fields ∙ (λ i. f6 i ++ c.as_bytes-7.ensures.value i ∷ []) in
    let f8 = c.in_ok-push-8.ensures.fields ∙ (λ i. f7 i ++ c.as_bytes-8.ensures.value i ∷ []) in
    let f9 = c.in_ok-push-9.ensures.fields ∙ (λ i. f8 i ++ c.as_bytes-9.ensures.value i ∷ []) in
    let f10 = c.in_ok-push-10.ensures.fields ∙ (λ i. f9 i ++ c.as_bytes-10.ensures.value i ∷ []) in
    subst (λ fields. IfOk c.record.result (λ text. text.items ≡ csv_record fields)) f10 c.record.ensures
