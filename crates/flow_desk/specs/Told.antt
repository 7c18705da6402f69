-- What the file of a run tells: a history, in a report or by a journal.
use Rattle.std.specs.Prelude.{◌≡◌, ◌+◌, ℕ, List, [], ◌∷◌, ◌++◌, Option, None, Some, codes}
use Rattle.flow_model.specs.declared.labels.Label.{Label}
use Rattle.flow_model.specs.declared.history.Entry.{Entry}
use Rattle.flow_model.specs.declared.history.Step.{Step}
use Rattle.flow_model.specs.declared.history.Step.TheVariants.{Took, Done, Did}
use Rattle.flow_model.specs.Facts.{event_at}
use Rattle.flow_workflow.specs.Definition.{Definition}
use Rattle.flow_record.specs.Journal.{journal_of, journal}
use Rattle.flow_desk.specs.Report.{HasNoLine, TellsHistory}

abbrev pub by_nobody : Step → Entry
by_nobody step = record { by = 0; step = step }

-- how many claims were given once the leaf is done: one more for an event's
abbrev pub claims_with : ℕ → Option ℕ → ℕ
claims_with claims None = claims
claims_with claims (Some event) = claims + 1

-- the entries by which the leaf is done: an event's is taken and then done
abbrev pub leaf_entries : ℕ → ℕ → Option ℕ → List Entry
leaf_entries claims leaf None = by_nobody (Did leaf) ∷ []
leaf_entries claims leaf (Some event) = by_nobody (Took (claims + 1) leaf) ∷ by_nobody (Done (claims + 1)) ∷ []

-- the entries by which the leaves are done in turn, after so many claims
abbrev pub entries_from : List Label → ℕ → List ℕ → List Entry
entries_from labels claims [] = []
entries_from labels claims (leaf ∷ leaves) =
    leaf_entries claims leaf (event_at labels leaf) ++ entries_from labels (claims_with claims (event_at labels leaf)) leaves

-- the text is a journal of the workflow, the leaves of which are done in turn by these entries
abbrev pub TellsJournal : Definition → List ℕ → List Entry → Type 0
TellsJournal w text entries = (leaves : List ℕ) × (journal_of w text ≡ journal leaves) × (entries ≡ entries_from w.tree.labels 0 leaves)

-- it is the history of the last block of a report, whose entries begin at that line; without a block the text is a journal
abbrev pub Tells : Definition → List ℕ → Option ℕ → List Entry → Type 0
Tells w text (Some line) entries = TellsHistory text line entries
Tells w text None entries = HasNoLine text (codes "history ") × TellsJournal w text entries
