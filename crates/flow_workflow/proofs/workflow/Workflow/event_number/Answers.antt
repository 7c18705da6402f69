use Rattle.std.proofs.Common.{◌≡◌, ℕ, List, Option, Some, None, slice_get, subst, sym, ap}
use Rattle.std.specs.Prelude.{IfSome}
use Rattle.std.specs.Cmp.Lexicographic.{bytes_decides}
use Rattle.std.specs.Str.{bytes_eq}
use Rattle.flow_model.specs.Lists.{AreDistinct}
use Rattle.flow_workflow.specs.Numbers.{event_number}
use Rattle.flow_workflow.specs.Definition.{Definition}
use Rattle.flow_workflow.proofs.FirstPlaces.{place_in}
use Rattle.flow_workflow.proofs.workflow.Workflow.event_number.Goals as goal

its_number : (names : List (List ℕ)) (n : List ℕ) (r : Option ℕ) → AreDistinct names → IfSome r (λ i. slice_get names i ≡ Some n) → IfSome r (λ i. i ≡ event_number names n)
its_number names n None distinct place = tt
its_number names n (Some i) distinct place = sym (place_in bytes_eq bytes_decides names i n distinct place)

pub returns-clause-number : goal.returns-clause-number
returns-clause-number c =
    let same : c.self.inside.events ≡ c.args.self.now.events = ap (λ (w : Definition). w.events) c.self.view_is in
    subst (λ names. IfSome c.number_of.result (λ i. i ≡ event_number names c.args.name.now)) same
    (its_number c.self.inside.events c.args.name.now c.number_of.result c.self.invariant.distinct c.number_of.ensures.found)
