-- Journals of leaves, and what their labels do.
use Rattle.std.specs.Prelude.{◌≡◌, ◌<◌, ℕ, List, length, take, slice_get}
use Rattle.std.specs.List.{filter_map}
use Rattle.flow_model.specs.declared.labels.Label.{Label}
use Rattle.flow_model.specs.Lists.{Each}
use Rattle.flow_model.specs.Facts.{State, replay}
use Rattle.flow_facts.specs.Course.{after_all}

-- the labels of the leaves, in their order
abbrev pub labels_at : List Label → List ℕ → List Label
labels_at labels leaves = filter_map (slice_get labels) leaves

-- to replay leaves is to perform their labels
abbrev pub ReplayingIsPerforming : Type 0
ReplayingIsPerforming = (labels : List Label) (s : State) (leaves : List ℕ) → replay labels s leaves ≡ after_all s (labels_at labels leaves)

-- the labels of a front of the leaves are as long a front of their labels
abbrev pub FrontsHaveFrontsOfLabels : Type 0
FrontsHaveFrontsOfLabels =
    (labels : List Label) (leaves : List ℕ) (n : ℕ) → Each (λ leaf. leaf < length labels) leaves
    → labels_at labels (take n leaves) ≡ take n (labels_at labels leaves)
