-- What is told of a workflow that has an execution which meets every constraint.
use Rattle.std.specs.Prelude.{ℕ, List, ◌++◌, length, codes}
use Rattle.std.specs.List.{flat_map}
use Rattle.std.specs.Fmt.{decimal}
use Rattle.flow_model.specs.Lists.{numbers_from}
use Rattle.flow_plan.specs.declared.counts.Counts.{Counts}
use Rattle.flow_record.specs.Journal.{leaf_line}
use Rattle.flow_workflow.specs.Definition.{Definition}

-- a line a leaf, with its label
abbrev pub leaf_table : Definition → List ℕ
leaf_table w = flat_map (λ leaf. codes "leaf " ++ leaf_line w leaf) (numbers_from 0 (length w.tree.labels))

-- how many resolutions and options there are, how large all options are together, and how many have an execution
abbrev pub counts_text : Counts → List ℕ
counts_text counts =
    codes "resolutions " ++ decimal counts.resolutions ++ codes "\noptions " ++ decimal counts.options
    ++ codes "\nbulk " ++ decimal counts.bulk ++ codes "\nlive " ++ decimal counts.live ++ codes "\n"

abbrev pub check_text : Definition → Counts → List ℕ
check_text w counts =
    codes "leaves " ++ decimal (length w.tree.labels) ++ codes "\n" ++ leaf_table w ++ counts_text counts ++ codes "consistent\n"
