use Rattle.std.proofs.Common.{[], ◌∷◌, ◌++◌, ap, ap₂, ◌∙◌}
use Rattle.flow_facts.specs.Atom.{atom}
use Rattle.flow_form.specs.Script.{fact}
use Rattle.flow_reader.specs.Scripts.{declared_so_far}
use Rattle.flow_reader.proofs.Ended.{fact_ended}
use Rattle.flow_reader.proofs.scripts.ScriptParts.open_args.Goals as goal

pub returns-in_ok-declare-in_default : goal.returns-in_ok-declare-in_default
returns-in_ok-declare-in_default c =
    let said = ap₂ atom c.new-fact.ensures.relation (c.new-fact.ensures.args ∙ c.new-in_default.ensures.items) in
    c.join_fact.ensures
    ∙ fact_ended _ _ c.args.relation c.args.symbol c.in_default.not-Opening
    (c.in_ok-declare-in_default.ensures ∙ ap (λ one. declared_so_far c.args.self.now ++ fact one ∷ []) said)

pub returns-in-Opening : goal.returns-in-Opening
returns-in-Opening c = rw (c.in-Opening.is, c.new.ensures.items)
