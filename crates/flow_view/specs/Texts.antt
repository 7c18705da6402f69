-- What is shown of texts.
use Rattle.std.specs.Prelude.{◌-◌, ℕ, List, [], ◌∷◌, ◌++◌, length, map, take, codes, nat_le, if◌then◌else◌}
use Rattle.std.specs.List.{flat_map}
use Rattle.std.specs.Fmt.{decimal}
use Rattle.flow_model.specs.Lists.{numbers_from}
use Rattle.flow_form.specs.Script.{Declared, flow}
use Rattle.flow_workflow.specs.Definition.{Definition}
use Rattle.flow_workflow.specs.Label.{leaf_text}
use Rattle.flow_view.specs.declared.size.TheConstants.{MOST_SHOWN}

-- what is shown of a text: all of it, or its beginning and two dots
abbrev pub shown_of : List ℕ → List ℕ
shown_of text = if nat_le (length text) MOST_SHOWN then text else take (MOST_SHOWN - 2) text ++ codes ".."

-- what the box of a leaf shows
abbrev pub box_text : Definition → ℕ → List ℕ
box_text w leaf = shown_of (decimal leaf ++ codes " " ++ leaf_text w leaf)

-- what the boxes show, by the numbers of the leaves
abbrev pub box_texts : Definition → List (List ℕ)
box_texts w = map (box_text w) (numbers_from 0 (length w.tree.labels))

abbrev pub flow_name : Declared → List (List ℕ)
flow_name (flow n s) = n ∷ []
flow_name _ = []

-- the names of the sub-workflows, in order of declaration
abbrev pub flow_names : List Declared → List (List ℕ)
flow_names decls = flat_map flow_name decls

-- the captions of frames, by the numbers of the sub-workflows
abbrev pub captions : List Declared → List (List ℕ)
captions decls = map shown_of (flow_names decls)
