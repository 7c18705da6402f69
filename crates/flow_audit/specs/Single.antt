-- Findings do not depend on who looks.
use Rattle.std.specs.Prelude.{◌≡◌, ℕ, List}
use Rattle.flow_workflow.specs.Definition.{Definition}
use Rattle.flow_audit.specs.declared.finding.Finding.{Finding}
use Rattle.flow_audit.specs.Findings.{IsJournalFinding, AreFindings}

-- a text has one finding
abbrev pub FindingIsSingle : Type 0
FindingIsSingle = (d : Definition) (text : List ℕ) (one other : Finding) → IsJournalFinding d text one → IsJournalFinding d text other → one ≡ other

-- so have several
abbrev pub FindingsAreSingle : Type 0
FindingsAreSingle = (d : Definition) (text : List ℕ) (cuts : List (ℕ × ℕ)) (one other : List Finding) →
    AreFindings (IsJournalFinding d) text cuts one → AreFindings (IsJournalFinding d) text cuts other → one ≡ other
