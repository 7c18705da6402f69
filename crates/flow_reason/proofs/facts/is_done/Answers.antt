use Rattle.std.proofs.Common.{ℕ, List, sym, subst, ◌∙◌}
use Rattle.flow_model.specs.Lists.{◌∈◌}
use Rattle.flow_reason.proofs.Members.{member_of, told_member}
use Rattle.flow_reason.proofs.facts.is_done.Goals as goal

pub returns : goal.returns
returns c =
    let leaf : ℕ = c.args.leaf in
    let list : List ℕ = c.journal.result.now in (
      λ yes. subst (λ (l : List ℕ). leaf ∈ l) c.journal.ensures (member_of list leaf (sym c.contains.ensures.value ∙ yes)),
      λ m. c.contains.ensures.value ∙ told_member list leaf (subst (λ (l : List ℕ). leaf ∈ l) (sym c.journal.ensures) m),
    )
