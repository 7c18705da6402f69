-- What `audit` finds.
use Rattle.std.specs.Prelude.{◌≡◌, ◌≤◌, ℕ, List, length, Result, Ok}
use Rattle.flow_form.specs.Script.{Said}
use Rattle.flow_workflow.specs.Definition.{Definition}
use Rattle.flow_audit.specs.declared.cuts.TheConstants.{MOST_JOURNALS}
use Rattle.flow_audit.specs.declared.finding.Finding as audit
use Rattle.flow_audit.specs.Cuts.{cuts_of}
use Rattle.flow_audit.specs.Findings.{IsJournalFinding, AreFindings}
use Rattle.flow_findings.specs.declared.refused.Refused.{Refused}
use Rattle.flow_front.specs.Refusal.{the_journals}
use Rattle.flow_front.specs.Stages.{Then, Prepares}
use Rattle.flow_cli.specs.Finding.{Finding, audited}

-- the text has its journals there, and they are not too many
abbrev pub HasJournals : List ℕ → List (ℕ × ℕ) → Type 0
HasJournals text cuts = (cuts ≡ cuts_of text) × (length cuts ≤ MOST_JOURNALS)

-- what is found of each journal, in order
abbrev pub FindsOfJournals : Definition → List ℕ → List (ℕ × ℕ) → Result Finding Refused → Type 0
FindsOfJournals w text cuts came = (found : List audit.Finding) × AreFindings (IsJournalFinding w) text cuts found × (came ≡ Ok (audited found))

abbrev pub AuditsSaid : Said → List ℕ → List (ℕ × ℕ) → Result Finding Refused → Type 0
AuditsSaid s text cuts came = Prepares s (λ w c. FindsOfJournals w text cuts) came

-- the journals of the text are counted before what is said is expanded
abbrev pub AuditsText : Said → List ℕ → Result Finding Refused → Type 0
AuditsText s text came = Then (the_journals text) (HasJournals text) (AuditsSaid s text) came
