-- The places of the leaves of isolated parts in the list of all leaves.
use Rattle.std.specs.Prelude.{◌≡◌, ◌<◌, ◌≤◌, ◌+◌, ◌-◌, ℕ, List, [], ◌∷◌, ◌⊎◌, length, take, drop}
use Rattle.flow_model.specs.Lists.{◌∈◌, Each}
use Rattle.flow_model.specs.Process.{Process, leaves}
use Rattle.flow_model.specs.Ready.{isolated_parts}
use Rattle.flow_plan.specs.declared.span.Span.{Span}

-- what stands at the places of the span
abbrev pub at_span : {A : Type 0} → Span → List A → List A
at_span s list = take (s.end - s.first) (drop s.first list)

-- the one ends before the other, or stands within it at the same end
pub record IsEarlier (s t : Span) : Type 0 where
  pub end : s.end ≤ t.end
  pub first : s.end ≡ t.end → t.first < s.first

-- inner spans come before outer ones, and each comes once
abbrev pub AreRising : List Span → Type 0
AreRising [] = Unit {0}
AreRising (s ∷ spans) = Each (IsEarlier s) spans × AreRising spans

-- the one is not after the other, but may be the same
pub record IsNotAfter (s t : Span) : Type 0 where
  pub end : s.end ≤ t.end
  pub first : s.end ≡ t.end → t.first ≤ s.first

-- the span is among the new ones, unless it has no two places, and nothing else is new
pub record AddsSpan (span : Span) (old new : List Span) : Type 0 where
  pub kept : (s : Span) → s ∈ old → s ∈ new
  pub sound : (s : Span) → s ∈ new → (s ∈ old) ⊎ ((s ≡ span) × (span.first + 2 ≤ span.end))
  pub complete : (span.end < span.first + 2) ⊎ (span ∈ new)
  pub rising : AreRising old → (span.first + 2 ≤ span.end → (s : Span) → s ∈ old → IsNotAfter s span) → AreRising new

-- the span of each part is among the new ones, unless it has no two places, and nothing else is new, where the leaves
-- of the goal stand from that place on
pub record AddsSpans (g : Process) (ns : List ℕ) (first : ℕ) (old new : List Span) : Type 0 where
  pub kept : (s : Span) → s ∈ old → s ∈ new
  pub sound : (s : Span) → s ∈ new → (s ∈ old) ⊎ ((part : Process) × (part ∈ isolated_parts g) × (at_span s ns ≡ leaves part) × (s.first + 2 ≤ s.end))
  pub complete : (part : Process) → part ∈ isolated_parts g → (length (leaves part) < 2) ⊎ ((s : Span) × (s ∈ new) × (at_span s ns ≡ leaves part))
  pub within : (s : Span) → s ∈ new → (s ∈ old) ⊎ ((first ≤ s.first) × (s.end ≤ first + length (leaves g)))
  pub rising : AreRising old → ((s : Span) → s ∈ old → s.end ≤ first) → AreRising new
