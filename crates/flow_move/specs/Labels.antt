-- The labels of a text's leaves, and what names are called in another text.
use Rattle.std.specs.Prelude.{ℕ, if◌then◌else◌, List, [], ◌∷◌, map}
use Rattle.std.specs.Str.{bytes_eq}
use Rattle.flow_workflow.specs.Definition.{Definition}
use Rattle.flow_workflow.specs.Label.{label_text}
use Rattle.flow_move.specs.declared.new_names.Rename.{Rename}

-- the labels of its leaves, by their numbers
abbrev pub labels_in : Definition → List (List ℕ)
labels_in w = map (label_text w) w.tree.labels

-- the new name of what has that name: by the first that renames it; where none does, the name is kept
abbrev pub renamed : List Rename → List ℕ → List ℕ
renamed [] name = name
renamed (r ∷ more) name = if bytes_eq r.from name then r.to else renamed more name
