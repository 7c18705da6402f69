-- What is found of journals.
use Rattle.std.specs.Prelude.{◌≡◌, ℕ, List, length, Some, slice_get}
use Rattle.flow_workflow.specs.Definition.{Definition, schema_of}
use Rattle.flow_record.specs.Journal.{journal_of, journal, bad_line, wrong_label}
use Rattle.flow_trace.specs.Traces.{TellsOfTrace}
use Rattle.flow_audit.specs.declared.finding.Finding.{Finding}
use Rattle.flow_audit.specs.declared.finding.Finding.TheVariants as finding
use Rattle.flow_audit.specs.Cuts.{piece}

-- what is found of a text that should be a journal of the workflow
abbrev pub IsJournalFinding : Definition → List ℕ → Finding → Type 0
IsJournalFinding d text (finding.BadLine line) = journal_of d text ≡ bad_line line
IsJournalFinding d text (finding.Label line) = journal_of d text ≡ wrong_label line
IsJournalFinding d text (finding.Checked checked) = (leaves : List ℕ) × (journal_of d text ≡ journal leaves) × TellsOfTrace (schema_of d) leaves checked

-- one finding for each cut, in order
pub record AreFindings (Finds : List ℕ → Finding → Type 0) (text : List ℕ) (cuts : List (ℕ × ℕ)) (found : List Finding) : Type 0 where
  pub count : length found ≡ length cuts
  pub each : (i : ℕ) (cut : ℕ × ℕ) (finding : Finding) → slice_get cuts i ≡ Some cut → slice_get found i ≡ Some finding → Finds (piece text cut) finding
