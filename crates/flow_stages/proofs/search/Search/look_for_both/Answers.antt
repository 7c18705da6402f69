use Rattle.std.proofs.Common.{ap, sym, subst}
use Rattle.flow_model.specs.Lists.{◌∈◌}
use Rattle.flow_workflow.specs.Definition.{schema_of}
use Rattle.flow_stages.specs.declared.wanted.Wanted.TheVariants.{OneFor}
use Rattle.flow_stages.specs.Asked.{wanted_by}
use Rattle.flow_stages.specs.Fitting.{Fits, taker_by}
use Rattle.flow_stages.proofs.LookLemmas.{fits_events, fits_after}
use Rattle.flow_stages.proofs.search.Search.look_for_both.Goals as goal

pub returns-in-Never-clause-hopeless : goal.returns-in-Never-clause-hopeless
returns-in-Never-clause-hopeless c = λ _ list was to fits.
    let w = schema_of c.args.self.now.workflow.now in
    let d = c.args.self.now.staff.policy.now.duties in
    let own = fits_events w list d c.args.self.now.question (OneFor c.args.one c.args.two) c.in_ok-events.events.items to (ap wanted_by c.requires.asked) (c.in_ok-events.ensures list was) fits in
    c.in_ok-fill.ensures.never to (subst (λ l. Fits d (OneFor c.args.one c.args.two) (λ e. e ∈ l) to) (sym c.deref.ensures.value) own) c.in-Never.is

pub returns-clause-told : goal.returns-clause-told
returns-clause-told c = λ reached.
    let w = schema_of c.args.self.now.workflow.now in
    let d = c.args.self.now.staff.policy.now.duties in
    let list = c.args.node.now.leaves.items in
    let takers = c.fill.new.taken.items in
    let fits = (c.in_ok-fill.ensures.found c.in-Found.is).0 in
    c.shown_for_both.ensures.told c.fill.new.states reached
    (fits_after w d c.args.self.now.question (OneFor c.args.one c.args.two) list c.in_ok-events.events.items (taker_by takers) (ap wanted_by c.requires.asked) (c.in_ok-events.ensures list reached.after)
    (subst (λ l. Fits d (OneFor c.args.one c.args.two) (λ e. e ∈ l) (taker_by takers)) c.deref.ensures.value fits))
