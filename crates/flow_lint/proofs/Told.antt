-- How a constraint stands to the others, by what is told of it, and constraints that name an event of no leaf.
use Rattle.std.proofs.Common.{◌≡◌, ◌<◌, ◌↔◌, ℕ, Bool, true, false, not, IsTrue, List, Some, length, slice_get, refl, sym, ◌∙◌}
use Rattle.std.proofs.lemmas.Option.{slice_get-get_or}
use Rattle.flow_model.specs.declared.labels.Label.{Label}
use Rattle.flow_model.specs.Lists.{◌∈◌}
use Rattle.flow_model.specs.Constraint.{Constraint, Always}
use Rattle.flow_model.specs.Folding.{named_events}
use Rattle.flow_model.specs.Schema.{Schema}
use Rattle.flow_model.proofs.MadeLists.{passing_member, some_passes}
use Rattle.flow_lint.specs.Events.{is_used}
use Rattle.flow_lint.specs.Constraints.{constraint_at, has_unused, NamesUnused}

pub at_number : (w : Schema) (number : ℕ) → number < length w.rules → slice_get w.rules number ≡ Some (constraint_at w number)
at_number w number below = slice_get-get_or w.rules number Always below

not_true : (b : Bool) → not b ≡ true → ¬ (IsTrue b)
not_true true e = λ is. let f : false ≡ true = e in cc
not_true false e = λ is. let f : false ≡ true = is in cc

to_not : (b : Bool) → ¬ (IsTrue b) → not b ≡ true
to_not true none = absurd (none refl)
to_not false none = refl

-- what is found among the events that are collected
pub told_unused : (labels : List Label) (rule : Constraint) (events : List ℕ) (told : Bool) →
    ((e : ℕ) → (e ∈ events) ↔ (e ∈ named_events rule)) → told ≡ has_unused labels events → IsTrue told ↔ NamesUnused labels rule
told_unused labels rule events told same is = (
  λ yes. let (e, m, none) = passing_member (λ event. not (is_used labels event)) events (sym is ∙ yes) in
      (e, (same e).0 m, not_true (is_used labels e) none),
  λ (e, m, none). is ∙ some_passes (λ event. not (is_used labels event)) e events ((same e).1 m) (to_not (is_used labels e) none),
)
