use Rattle.std.proofs.Common.{ℕ, List, [], ◌∷◌, ◌++◌, ap, ◌∙◌}
use Rattle.std.proofs.lemmas.Result.{IfOk-weaker}
use Rattle.hex.specs.Hex.{encode_lower}
use Rattle.flow_step.proofs.json.print_record.Goals as goal

pub returns : goal.returns
returns c =
    IfOk-weaker c.print_pieces.result _ _
    (λ text is. is ∙ ap (λ (l : List ℕ). 34 ∷ (l ++ 34 ∷ []))
    (c.as_bytes.ensures.value ∙ c.in_ok-digits.ensures ∙ ap (λ (l : List ℕ). encode_lower l) c.record_of.ensures.bytes))
    c.print_pieces.ensures
