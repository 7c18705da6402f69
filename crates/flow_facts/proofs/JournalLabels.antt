-- The labels of journals: performed, of fronts, and how many there are.
use Rattle.std.proofs.Common.{◌≡◌, ◌<◌, ℕ, zero, suc, List, [], ◌∷◌, ◌++◌, length, take, Option, Some, None, slice_get, refl, sym, ap, ◌∙◌, arith}
use Rattle.std.proofs.lemmas.List.Elements.{filter_map-append}
use Rattle.flow_model.specs.declared.labels.Label.{Label}
use Rattle.flow_model.specs.Lists.{Each}
use Rattle.flow_model.specs.Facts.{State, after, replay}
use Rattle.flow_facts.specs.Course.{after_all}
use Rattle.flow_facts.specs.Journals.{labels_at}

-- a leaf below the number of labels has one
label_there : (labels : List Label) (leaf : ℕ) → leaf < length labels → (label : Label) × (slice_get labels leaf ≡ Some label)
label_there [] leaf below = absurd (omega arith)
label_there (label ∷ labels) zero below = (label, refl)
label_there (label ∷ labels) (suc leaf) below = label_there labels leaf (omega arith)

labels_at-cons : (labels : List Label) (leaf : ℕ) (leaves : List ℕ) (label : Label) → slice_get labels leaf ≡ Some label
    → labels_at labels (leaf ∷ leaves) ≡ label ∷ labels_at labels leaves
labels_at-cons labels leaf leaves label at = rw at refl

pub replay-labels_at : (labels : List Label) (s : State) (leaves : List ℕ) → replay labels s leaves ≡ after_all s (labels_at labels leaves)
replay-labels_at labels s [] = refl
replay-labels_at labels s (leaf ∷ leaves) = step (slice_get labels leaf) refl (λ next. replay-labels_at labels next leaves)
  where
    step : (o : Option Label) → slice_get labels leaf ≡ o → ((next : State) → replay labels next leaves ≡ after_all next (labels_at labels leaves)) →
        replay labels s (leaf ∷ leaves) ≡ after_all s (labels_at labels (leaf ∷ leaves))
    step (Some label) at rest = rw at (rest (after s label))
    step None at rest = rw at (rest s)

-- one leaf more
pub labels_at-push : (labels : List Label) (leaves : List ℕ) (leaf : ℕ) (label : Label) → slice_get labels leaf ≡ Some label
    → labels_at labels (leaves ++ leaf ∷ []) ≡ labels_at labels leaves ++ label ∷ []
labels_at-push labels leaves leaf label at =
    filter_map-append (slice_get labels) leaves (leaf ∷ []) ∙ ap (λ last. labels_at labels leaves ++ last) (labels_at-cons labels leaf [] label at)

pub length-labels_at : (labels : List Label) (leaves : List ℕ) → Each (λ leaf. leaf < length labels) leaves → length (labels_at labels leaves) ≡ length leaves
length-labels_at labels [] each = refl
length-labels_at labels (leaf ∷ leaves) (below, each) =
    let (label, at) = label_there labels leaf below in
    ap length (labels_at-cons labels leaf leaves label at) ∙ ap suc (length-labels_at labels leaves each)

pub labels_at-take : (labels : List Label) (leaves : List ℕ) (n : ℕ) → Each (λ leaf. leaf < length labels) leaves
    → labels_at labels (take n leaves) ≡ take n (labels_at labels leaves)
labels_at-take labels leaves zero each = refl
labels_at-take labels [] (suc n) each = refl
labels_at-take labels (leaf ∷ leaves) (suc n) (below, each) =
    let (label, at) = label_there labels leaf below in
    labels_at-cons labels leaf (take n leaves) label at ∙ ap (λ rest. label ∷ rest) (labels_at-take labels leaves n each)
    ∙ ap (take (suc n)) (sym (labels_at-cons labels leaf leaves label at))
