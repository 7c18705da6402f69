-- The labels of a text's leaves, one after another.
use Rattle.std.proofs.Common.{◌≡◌, ◌<◌, ◌≤◌, ◌+◌, ℕ, List, [], ◌∷◌, ◌++◌, length, take, map, get_or, refl, sym, ap, subst, ◌∙◌, ◌^◌}
use Rattle.std.proofs.lemmas.List.{map_more, take_all, length-map}
use Rattle.std.proofs.lemmas.Option.{slice_get-get_or}
use Rattle.flow_model.specs.declared.labels.Label.{Label}
use Rattle.flow_model.specs.declared.labels.Label.TheVariants.{Event}
use Rattle.flow_workflow.specs.Definition.{Definition}
use Rattle.flow_workflow.specs.Label.{leaf_text, label_text}
use Rattle.flow_move.specs.Labels.{labels_in}

text_of_leaf : (w : Definition) (leaf : ℕ) (d : Label) → leaf < length w.tree.labels → leaf_text w leaf ≡ label_text w (get_or w.tree.labels leaf d)
text_of_leaf w leaf d within = rw (slice_get-get_or w.tree.labels leaf d within) refl

pub labels_more : (w : Definition) (labels : List (List ℕ)) (leaf : ℕ) → leaf < length w.tree.labels →
    labels ≡ map (label_text w) (take leaf w.tree.labels) → labels ++ leaf_text w leaf ∷ [] ≡ map (label_text w) (take (leaf + 1) w.tree.labels)
labels_more w labels leaf within so_far =
    ap (λ l. l ++ leaf_text w leaf ∷ []) so_far
    ∙ ap (λ t. map (label_text w) (take leaf w.tree.labels) ++ t ∷ []) (text_of_leaf w leaf (Event 0) within)
    ∙ sym (map_more (label_text w) w.tree.labels leaf (Event 0) within)

pub labels_all : (w : Definition) (labels : List (List ℕ)) (leaf : ℕ) → length w.tree.labels ≤ leaf →
    labels ≡ map (label_text w) (take leaf w.tree.labels) → labels ≡ labels_in w
labels_all w labels leaf past so_far = so_far ∙ ap (map (label_text w)) (take_all leaf w.tree.labels past)

pub labels_few : (w : Definition) (labels : List (List ℕ)) (count : ℕ) → labels ≡ labels_in w → count ≡ length w.tree.labels → count < 2 ^ 32 →
    length labels < 2 ^ 32
labels_few w labels count is counted few =
    subst (λ n. n < 2 ^ 32) (counted ∙ sym (length-map w.tree.labels (label_text w)) ∙ sym (ap length is)) few
