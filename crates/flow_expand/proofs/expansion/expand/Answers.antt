use Rattle.std.proofs.Common.{map, sym, subst}
use Rattle.flow_model.specs.Lists.{AreDistinct}
use Rattle.flow_form.specs.Script.{declared, said}
use Rattle.flow_form.specs.Names.{event_names}
use Rattle.flow_expand.proofs.Endings.{becomes_one}
use Rattle.flow_expand.proofs.Declarations.{distinct_events}
use Rattle.flow_expand.proofs.expansion.expand.Goals as goal

pub new-requires : goal.new-requires
new-requires c =
    subst (λ ds. AreDistinct (event_names (map declared ds))) (sym c.deref.ensures.value) (distinct_events (said c.args.script.now).decls c.requires.named.once)

pub returns-in_err-events-clause-one : goal.returns-in_err-events-clause-one
returns-in_err-events-clause-one c = λ e f. becomes_one (said c.args.script.now).decls c.requires.named.once (said c.args.script.now).goal e f

pub returns-in_err-goal-clause-one : goal.returns-in_err-goal-clause-one
returns-in_err-goal-clause-one c = λ e f. becomes_one (said c.args.script.now).decls c.requires.named.once (said c.args.script.now).goal e f

pub returns-in_err-assemble-clause-one : goal.returns-in_err-assemble-clause-one
returns-in_err-assemble-clause-one c = λ e f. becomes_one (said c.args.script.now).decls c.requires.named.once (said c.args.script.now).goal e f

pub returns-clause-one : goal.returns-clause-one
returns-clause-one c = λ e f. becomes_one (said c.args.script.now).decls c.requires.named.once (said c.args.script.now).goal e f
