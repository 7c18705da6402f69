-- The events that rules name, as they are collected.
use Rattle.std.specs.Prelude.{◌≡◌, ◌⊎◌, ◌↔◌, ℕ, true, List}
use Rattle.flow_model.specs.Lists.{◌∈◌, AreDistinct}
use Rattle.flow_goal.specs.EventSet.{has_event}
use Rattle.flow_workflow.specs.declared.named_events.NamedEvents.{NamedEvents}

-- each stands once, and the set has them all
pub record AreNamed (named : NamedEvents) : Type 0 where
  pub distinct : AreDistinct named.events.items
  pub same : (e : ℕ) → (has_event named.set e ≡ true) ↔ (e ∈ named.events.items)

-- with these events besides
pub record HasBesides (events : List ℕ) (old new : NamedEvents) : Type 0 where
  pub named : AreNamed new
  pub members : (e : ℕ) → (e ∈ new.events.items) ↔ ((e ∈ old.events.items) ⊎ (e ∈ events))

abbrev pub Notes : List ℕ → NamedEvents → NamedEvents → Type 0
Notes events old new = AreNamed old → HasBesides events old new
