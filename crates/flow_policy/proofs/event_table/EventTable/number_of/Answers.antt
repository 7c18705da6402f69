use Rattle.std.proofs.Common.{sym, ◌∙◌, subst, refl}
use Rattle.flow_model.specs.Lists.{◌∈◌}
use Rattle.flow_policy.proofs.FirstLemmas.{member_is_first}
use Rattle.flow_policy.proofs.EventLemmas.{table_number}
use Rattle.flow_policy.proofs.event_table.EventTable.number_of.Goals as goal

pub returns-in_err-place : goal.returns-in_err-place
returns-in_err-place c = λ events h.
    rw c.from_residual.ensures (λ m. c.in_err-place.ensures.none.0 refl (subst (λ l. c.args.name.now ∈ l) (sym h.names) (member_is_first events c.args.name.now m)))

pub returns : goal.returns
returns c = λ events h.
    let (there, at) = table_number events c.args.self.now.names c.args.self.now.places.items c.args.name.now c.in_ok-place.place h.names h.places c.in_ok-place.ensures.found in
    let told = c.copied.ensures ∙ c.at.ensures ∙ at in
    rw told (there, refl)
