use Rattle.std.proofs.Common.{◌↔◌, ℕ, List, inr, ap, sym, subst}
use Rattle.flow_model.specs.Lists.{◌∈◌}
use Rattle.flow_workflow.specs.Definition.{schema_of}
use Rattle.flow_stages.specs.declared.wanted.Wanted.TheVariants.{Anybody}
use Rattle.flow_stages.specs.Asked.{wanted_by, IsEventOf, IsToHave, IsNotSo}
use Rattle.flow_stages.specs.Fitting.{Fits, HasSomebody}
use Rattle.flow_stages.specs.Listed.{IsOpen, IsQuiet}
use Rattle.flow_stages.proofs.Closure.{ok_given, ok_at}
use Rattle.flow_stages.proofs.LookLemmas.{fits_events, somebody_as}
use Rattle.flow_stages.proofs.search.Search.look_for_unmanned.Goals as goal

pub returns-in-Never-clause-hopeless : goal.returns-in-Never-clause-hopeless
returns-in-Never-clause-hopeless c = λ _ list was to fits.
    let w = schema_of c.args.self.now.workflow.now in
    let d = c.args.self.now.staff.policy.now.duties in
    let own = fits_events w list d c.args.self.now.question Anybody c.in_ok-events.events.items to (ap wanted_by c.requires.asked) (c.in_ok-events.ensures list was) fits in
    c.in_ok-fill.ensures.never to (subst (λ l. Fits d Anybody (λ e. e ∈ l) to) (sym c.deref.ensures.value) own) c.in-Never.is

pub returns-clause-quiet : goal.returns-clause-quiet
returns-clause-quiet c =
    let w = schema_of c.args.self.now.workflow.now in
    let d = c.args.self.now.staff.policy.now.duties in
    let p = c.args.self.now.plan.now in
    let question = c.args.self.now.question in
    let events = c.in_ok-events.events.items in
    ok_given (λ look. IsOpen look → IsQuiet w d p question c.args.node.now.stage) c.look_at_next.result (λ look is going list to was fits.
    let are = c.in_ok-events.ensures list was in
    let own = fits_events w list d question Anybody events to (ap wanted_by c.requires.asked) are fits in
    subst (λ q. IsNotSo w d p q list to) (sym c.requires.asked) (λ n e may of.
    let told = c.look_at_next.ensures.manned to n e (subst (λ l. Fits d Anybody (λ e. e ∈ l) to) (sym c.deref-in-Found.ensures.value) own) may.leaf ((c.next_row-row.ensures list n was.done).1 may) of in
    let has = ok_at (λ look. IsOpen look → HasSomebody d e (λ f. f ∈ c.deref-in-Found.result.now) to) c.look_at_next.result look is told going in
    somebody_as d e (λ f. f ∈ events) (IsEventOf w list) to (λ f of. (are f).1 (inr of)) (subst (λ l. HasSomebody d e (λ f. f ∈ l) to) c.deref-in-Found.ensures.value has)))

pub returns-clause-told : goal.returns-clause-told
returns-clause-told c = λ reached.
    let list = c.args.node.now.leaves.items in
    let w = schema_of c.args.self.now.workflow.now in
    let are = subst (λ (l : List ℕ). (e : ℕ) → (e ∈ l) ↔ IsToHave w c.args.self.now.question list e) (sym c.deref-in-Found.ensures.value) (c.in_ok-events.ensures list reached.after) in
    c.look_at_next.ensures.told (record { reached = reached; unmanned = c.requires.asked; are = are }) (λ n there. (c.next_row-row.ensures list n reached.after.done).0 there)
