-- The history of a run as rows of a table.
use Rattle.std.specs.Prelude.{ℕ, ◌+◌, ◌-◌, ◌==◌, suc, Bool, true, false, if◌then◌else◌, List, [], ◌∷◌, ◌++◌, Option, None, Some, slice_get, codes}
use Rattle.std.specs.List.{flat_map}
use Rattle.std.specs.Fmt.{decimal}
use Rattle.flow_model.specs.declared.history.Entry.{Entry}
use Rattle.flow_model.specs.declared.history.Step.{Step}
use Rattle.flow_model.specs.declared.history.Step.TheVariants.{Took, Done, Failed, Late, Did, Rewound, Committed}
use Rattle.flow_workflow.specs.Definition.{Definition}
use Rattle.flow_workflow.specs.Label.{leaf_text}
use Rattle.flow_core.specs.Run.{Run}
use Rattle.flow_draw.specs.Pieces.{joined}
use Rattle.flow_standing.specs.declared.undone.TakenBack.{TakenBack}
use Rattle.flow_case_talk.specs.declared.book.Told.{Told}
use Rattle.flow_page.specs.Shown.{Shown}

-- the leaf of the claim that a step gives, if it gives one
abbrev pub leaf_given : Step → List ℕ
leaf_given (Took claim leaf) = leaf ∷ []
leaf_given other = []

-- the leaves of the claims, which are numbered from 1 as they are given
abbrev pub leaves_given : List Entry → List ℕ
leaves_given history = flat_map (λ (entry : Entry). leaf_given entry.step) history

-- the leaf that a step is about
abbrev pub leaf_of : List ℕ → Step → Option ℕ
leaf_of leaves (Took claim leaf) = Some leaf
leaf_of leaves (Did leaf) = Some leaf
leaf_of leaves (Done claim) = slice_get leaves (claim - 1)
leaf_of leaves (Failed claim effect) = slice_get leaves (claim - 1)
leaf_of leaves (Late claim) = slice_get leaves (claim - 1)
leaf_of leaves (Rewound index) = None
leaf_of leaves Committed = None

abbrev pub step_word : Step → List ℕ
step_word (Took claim leaf) = codes "took"
step_word (Done claim) = codes "done"
step_word (Failed claim effect) = codes "failed"
step_word (Late claim) = codes "late"
step_word (Did leaf) = codes "did"
step_word (Rewound index) = codes "stepped back"
step_word Committed = codes "committed"

-- what a step did, and to which task
abbrev pub what_of : Definition → List ℕ → Option ℕ → List ℕ
what_of w word None = word
what_of w word (Some leaf) = joined (word ∷ codes " " ∷ leaf_text w leaf ∷ [])

abbrev pub what_text : Definition → List ℕ → Step → List ℕ
what_text w leaves step = what_of w (step_word step) (leaf_of leaves step)

-- who made an entry, when, and with what note, without where it lies in memory
pub record Telling : Type 0 where
  pub at : List ℕ
  pub by : List ℕ
  pub note : List ℕ

abbrev pub as_told : Told → Telling
as_told told = record { at = told.at.now; by = told.by.now; note = told.note.now }

-- what is told of the entry at a place; nothing where nothing is
abbrev pub told_in : Option Told → Telling
told_in None = record { at = []; by = []; note = [] }
told_in (Some told) = as_told told

abbrev pub told_at : List Told → ℕ → Telling
told_at tellings place = told_in (slice_get tellings place)

-- the entry at the place did what was taken back
abbrev pub was_taken_back : List TakenBack → ℕ → Bool
was_taken_back [] place = false
was_taken_back (one ∷ taken) place = if one.done == place then true else was_taken_back taken place

-- its number from 1, when, who, what, the note, and whether it was taken back
abbrev pub row_told : ℕ → Telling → List ℕ → Bool → Shown
row_told place told what is_taken_back =
    record { head = decimal (place + 1); cells = told.at ∷ told.by ∷ what ∷ told.note ∷ []; is_taken_back = is_taken_back }

abbrev pub entry_told : Run → List Told → List TakenBack → ℕ → Entry → Shown
entry_told run tellings taken place entry =
    row_told place (told_at tellings place) (what_text run.definition (leaves_given run.history) entry.step) (was_taken_back taken place)

-- each entry once, in order, from that place on
abbrev pub rows_told : Run → List Told → List TakenBack → ℕ → List Entry → List Shown
rows_told run tellings taken place [] = []
rows_told run tellings taken place (entry ∷ entries) =
    entry_told run tellings taken place entry ∷ rows_told run tellings taken (suc place) entries
