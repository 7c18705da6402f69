-- The input of `flow trace` that shows a sequence: the workflow, a line `%%`, and a journal.
use Rattle.std.specs.Prelude.{◌≡◌, ◌++◌, ℕ, List, Option, Some, None, codes}
use Rattle.flow_record.specs.Journal.{journal_text}
use Rattle.flow_front.specs.Refusal.{workflow_part}
use Rattle.flow_workflow.specs.Definition.{Definition}
use Rattle.flow_log.specs.Fits.{TellsOfFit}
use Rattle.flow_log.specs.declared.verdict.Fit.{Fit}
use Rattle.flow_log.specs.declared.verdict.Fit.TheVariants.{Execution, Front, Deviates, Unknown, Undecided}

-- of what fits the journal of the leaves that show it; else there is none
abbrev pub journal_of : List ℕ → Definition → Fit → Option (List ℕ)
journal_of text d (Execution list) = Some (workflow_part text ++ codes "\n%%\n" ++ journal_text d list.items)
journal_of text d (Front list) = Some (workflow_part text ++ codes "\n%%\n" ++ journal_text d list.items)
journal_of text d (Deviates at) = None
journal_of text d (Unknown at) = None
journal_of text d Undecided = None

abbrev pub IsJournal : List ℕ → Definition → List ℕ → ℕ → Option (List ℕ) → Type 0
IsJournal text d events budget journal = (told : Fit) × TellsOfFit d events budget told × (journal ≡ journal_of text d told)
