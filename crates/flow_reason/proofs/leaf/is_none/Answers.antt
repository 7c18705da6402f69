use Rattle.std.proofs.Common.{ℕ, length, ap, ◌∙◌}
use Rattle.std.proofs.lemmas.Bool.{eqb-true, eq-eqb}
use Rattle.std.proofs.lemmas.List.{nil_from_length}
use Rattle.flow_reason.proofs.leaf.is_none.Goals as goal
use Rattle.std.proofs.Common.{List, sym}

pub returns : goal.returns
returns c =
    let list : List ℕ = c.args.list.now in (
      λ yes. nil_from_length list (eqb-true (length list) 0 (sym c.is_empty.ensures ∙ yes)),
      λ none. c.is_empty.ensures ∙ eq-eqb (length list) 0 (ap (λ (l : List ℕ). length l) none),
    )
