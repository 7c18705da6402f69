use Rattle.std.proofs.Common.{◌∙◌, sym}
use Rattle.flow_model.specs.Constraint.{all_of}
use Rattle.flow_model.specs.Folding.{named_events}
use Rattle.flow_workflow.specs.Rule.{rules_of}
use Rattle.flow_excise.proofs.UnseenLemmas.{among_these}
use Rattle.flow_excise.proofs.unseen.is_named.Goals as goal

pub returns-in-Some : goal.returns-in-Some
returns-in-Some c =
    among_these c.names_event.result (named_events (all_of (rules_of c.args.rules.now))) c.in-Some.event _ c.names_event.ensures (sym c.in-Some.is ∙ c.event.ensures)
