use Rattle.std.proofs.Common.{◌≡◌, ◌↔◌, ◌⊎◌, ℕ, List, take, sym, subst}
use Rattle.flow_model.specs.Lists.{◌∈◌}
use Rattle.flow_stages.specs.declared.staffing.Filled.TheVariants as fill
use Rattle.flow_stages.specs.declared.wanted.Wanted.TheVariants.{Anybody, NobodyFor}
use Rattle.flow_stages.specs.Fitting.{Fits, HasSomebody, AreUntied, taker_by}
use Rattle.flow_stages.proofs.Closure.{fits_as, ok_to}
use Rattle.flow_stages.proofs.LookLemmas.{fits_any, fits_none, somebody_as}
use Rattle.flow_stages.proofs.staffing.Staff.fill_for_nobody.Goals as goal

pub fill-requires-clause-far : goal.fill-requires-clause-far
fill-requires-clause-far c =
    subst (λ (l : List ℕ). (f : ℕ) → f ∈ l → (f ∈ take c.in_ok-ordered.near l) ⊎ AreUntied c.args.self.now.policy.now.duties c.args.event f) (sym c.deref.ensures.value) c.in_ok-ordered.ensures.far

pub returns-clause-never : goal.returns-clause-never
returns-clause-never c = λ to fits.
    let d = c.args.self.now.policy.now.duties in
    let event = c.args.event in
    let events = c.args.events.now in
    let ordered = c.deref.result.now in
    let are = subst (λ (l : List ℕ). (f : ℕ) → (f ∈ events) ↔ (f ∈ l)) (sym c.deref.ensures.value) c.in_ok-ordered.ensures.all in
    ok_to (λ filled. filled ≡ fill.Never → HasSomebody d event (λ e. e ∈ ordered) to) (λ filled. filled ≡ fill.Never → HasSomebody d event (λ e. e ∈ events) to)
    c.fill.result (λ filled told is. somebody_as d event (λ e. e ∈ ordered) (λ e. e ∈ events) to (λ f m. (are f).0 m) (told is))
    (c.fill.ensures.never to (fits_any d event (λ e. e ∈ ordered) to (fits_as d Anybody (λ e. e ∈ ordered) (λ e. e ∈ events) to (λ f m. (are f).1 m) fits)))

pub returns-clause-found : goal.returns-clause-found
returns-clause-found c =
    let d = c.args.self.now.policy.now.duties in
    let event = c.args.event in
    let events = c.args.events.now in
    let ordered = c.deref.result.now in
    let to = taker_by c.fill.new.taken.items in
    let are = subst (λ (l : List ℕ). (f : ℕ) → (f ∈ events) ↔ (f ∈ l)) (sym c.deref.ensures.value) c.in_ok-ordered.ensures.all in
    ok_to (λ filled. filled ≡ fill.Found → Fits d (NobodyFor event) (λ e. e ∈ ordered) to × ¬ (HasSomebody d event (λ e. e ∈ ordered) to))
    (λ filled. filled ≡ fill.Found → Fits d Anybody (λ e. e ∈ events) to × ¬ (HasSomebody d event (λ e. e ∈ events) to))
    c.fill.result (λ filled told is.
    let (fits, none) = told is in (
      fits_as d Anybody (λ e. e ∈ events) (λ e. e ∈ ordered) to (λ f m. (are f).0 m) (fits_none d event (λ e. e ∈ ordered) to fits),
      λ some. none (somebody_as d event (λ e. e ∈ events) (λ e. e ∈ ordered) to (λ f m. (are f).1 m) some),
    )) c.fill.ensures.found
