-- Why the file of a run tells no history.
use Rattle.std.specs.Prelude.{◌≡◌, ◌+◌, ℕ, ◌⊎◌, false, List, length, codes}
use Rattle.std.specs.Str.{bytes_eq}
use Rattle.flow_model.specs.declared.history.Entry.{Entry}
use Rattle.flow_workflow.specs.Definition.{Definition}
use Rattle.flow_record.specs.History as entries
use Rattle.flow_record.specs.Journal.{journal_of, bad_line, wrong_label}
use Rattle.flow_desk.specs.declared.report.Untold.{Untold}
use Rattle.flow_desk.specs.declared.report.Untold.TheVariants.{Line, Label, NoMemory}
use Rattle.flow_desk.specs.Report.{HasNoLine, IsBlock, head_line}

-- the first line of a block that is no entry's; or where there is none, the line above them, if it has another count; of want of memory
-- nothing is said
abbrev pub IsBadBlock : ℕ → List ℕ → List ℕ → Untold → Type 0
IsBadBlock line head body (Line bad) =
    ((within : ℕ) × (entries.history_of body ≡ entries.bad_line within) × (bad ≡ line + within))
    ⊎ ((history : List Entry) × (entries.history_of body ≡ entries.history history) × (bytes_eq head (head_line (length history)) ≡ false) × (bad + 1 ≡ line))
IsBadBlock line head body (Label bad) = ⊥
IsBadBlock line head body NoMemory = Unit {0}

-- the same of the last block of a text
abbrev pub HasBadBlock : List ℕ → Untold → Type 0
HasBadBlock text why = (line : ℕ) × (head body : List ℕ) × IsBlock text line head body × IsBadBlock line head body why

-- why a text without a block is no journal: a bad line, or else a wrong label
abbrev pub IsNoJournal : Definition → List ℕ → Untold → Type 0
IsNoJournal w text (Line line) = journal_of w text ≡ bad_line line
IsNoJournal w text (Label line) = journal_of w text ≡ wrong_label line
IsNoJournal w text NoMemory = Unit {0}

-- why a text tells no history
abbrev pub IsUntold : Definition → List ℕ → Untold → Type 0
IsUntold w text why = HasBadBlock text why ⊎ (HasNoLine text (codes "history ") × IsNoJournal w text why)
