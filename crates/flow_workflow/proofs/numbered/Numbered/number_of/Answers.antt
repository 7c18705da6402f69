use Rattle.std.proofs.Common.{◌≡◌, Some, slice_get, true, false, refl, sym, subst}
use Rattle.std.specs.Prelude.{IsNone}
use Rattle.flow_model.proofs.Lists.{mem-slice_get}
use Rattle.flow_workflow.proofs.NumberedLemmas.{not_found, slice_get-position}
use Rattle.flow_workflow.proofs.numbered.Numbered.number_of.Goals as goal

pub returns-in_err-place-clause-none : goal.returns-in_err-place-clause-none
returns-in_err-place-clause-none g c = (
  (λ none. not_found g.K.PartialEq.eq g.met.K.Eq.laws.refl c.self.inside.places.keys c.args.self.now c.args.key.now c.self.view_is c.in_err-place.ensures.found),
  (λ other. subst IsNone (sym c.from_residual.ensures) refl),
)

pub returns-clause-found : goal.returns-clause-found
returns-clause-found g c =
    subst (λ keys. slice_get keys c.in_ok-place.place ≡ Some c.args.key.now) c.self.view_is
    (slice_get-position g.K.PartialEq.eq g.met.K.Key.same c.self.inside.places.keys c.args.key.now c.in_ok-place.place (sym c.in_ok-place.ensures.index))

pub returns-clause-none : goal.returns-clause-none
returns-clause-none g c =
    ((λ e. let f : true ≡ false = e in cc), (λ out. absurd (out (mem-slice_get c.args.self.now c.in_ok-place.place c.args.key.now (returns-clause-found g c)))))
