-- What is told of a list of leaves, of a property of all executions, and of a constraint among the others.
use Rattle.std.specs.Prelude.{ℕ, List, ◌++◌, length, codes}
use Rattle.std.specs.Fmt.{decimal}
use Rattle.flow_workflow.specs.Definition.{Definition}
use Rattle.flow_record.specs.Journal.{journal_text}
use Rattle.flow_trace.specs.declared.checked.Checked.{Checked}
use Rattle.flow_trace.specs.declared.checked.Checked.TheVariants.{Execution, Prefix, Bad}
use Rattle.flow_verify.specs.declared.answers.Verified.{Verified}
use Rattle.flow_verify.specs.declared.answers.Verified.TheVariants.{Holds, Fails}
use Rattle.flow_verify.specs.declared.answers.Redundancy.{Redundancy}
use Rattle.flow_verify.specs.declared.answers.Redundancy.TheVariants.{Redundant, Needed}

-- what a list of leaves is of a workflow
abbrev pub checked_text : Checked → List ℕ
checked_text Execution = codes "execution\n"
checked_text Prefix = codes "prefix\n"
checked_text (Bad k) = codes "bad " ++ decimal k ++ codes "\n"

-- how many leaves there are, and a line each
abbrev pub counted_journal : Definition → List ℕ → List ℕ
counted_journal w leaves = codes "journal " ++ decimal (length leaves) ++ codes "\n" ++ journal_text w leaves

-- whether a property holds; if not, an execution that breaks it
abbrev pub verified_text : Definition → Verified → List ℕ
verified_text w Holds = codes "holds\n"
verified_text w (Fails t) = codes "fails\n" ++ counted_journal w t.items

-- whether a constraint follows from the others; if not, an execution that meets these and breaks it
abbrev pub redundancy_text : Definition → Redundancy → List ℕ
redundancy_text w Redundant = codes "redundant\n"
redundancy_text w (Needed t) = codes "needed\n" ++ counted_journal w t.items
