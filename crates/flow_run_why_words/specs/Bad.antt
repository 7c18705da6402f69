-- A journal that is bad at a place, in words and as an object.
use Rattle.std.specs.Prelude.{ℕ, suc, List, [], ◌∷◌, ◌++◌, codes}
use Rattle.flow_workflow.specs.Definition.{Definition}
use Rattle.flow_record.specs.Journal.{leaf_line}
use Rattle.flow_writer.specs.Text.{between_text}
use Rattle.flow_run_why_words.specs.Reasons.{leaf_members}

-- the leaves that could have come, each on a line
abbrev pub instead_line : Definition → ℕ → List ℕ
instead_line w leaf = codes "  " ++ leaf_line w leaf

-- leaves as objects: of those numbered from 1 on a comma stands before each
abbrev pub objects_from : Definition → ℕ → List ℕ → List ℕ
objects_from w index [] = []
objects_from w index (leaf ∷ leaves) =
    between_text index (codes ",") ++ codes "{" ++ leaf_members w leaf ++ codes "}" ++ objects_from w (suc index) leaves
