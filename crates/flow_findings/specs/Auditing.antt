-- What is told of many journals.
use Rattle.std.specs.Prelude.{ℕ, ◌+◌, List, [], ◌∷◌, ◌++◌, length, codes}
use Rattle.std.specs.Fmt.{decimal}
use Rattle.flow_trace.specs.declared.checked.Checked.TheVariants.{Execution}
use Rattle.flow_audit.specs.declared.finding.Finding.{Finding}
use Rattle.flow_audit.specs.declared.finding.Finding.TheVariants.{Checked, BadLine, Label}
use Rattle.flow_findings.specs.Judging.{checked_text}

-- what is told of a journal: what its leaves are of the workflow, or its first line that is not as it must be, or whose label is not that of
-- its leaf
abbrev pub found_text : Finding → List ℕ
found_text (Checked checked) = checked_text checked
found_text (BadLine line) = codes "line " ++ decimal line ++ codes "\n"
found_text (Label line) = codes "label " ++ decimal line ++ codes "\n"

-- a line a journal, where they are counted from that number on
abbrev pub found_lines : ℕ → List Finding → List ℕ
found_lines number [] = []
found_lines number (finding ∷ found) = (decimal number ++ codes " " ++ found_text finding) ++ found_lines (number + 1) found

-- how many are executions
abbrev pub executions : List Finding → ℕ
executions [] = 0
executions (Checked Execution ∷ found) = executions found + 1
executions (other ∷ found) = executions found

-- a line a journal, and how many of all are executions
abbrev pub audit_text : List Finding → List ℕ
audit_text found =
    found_lines 0 found ++ codes "executions " ++ decimal (executions found) ++ codes " of " ++ decimal (length found) ++ codes "\n"
