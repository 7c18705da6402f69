-- The marks of leaves, by where a run stands at each.
use Rattle.std.specs.Prelude.{◌≡◌, ℕ, List, length, Some, slice_get}
use Rattle.flow_core.specs.Run.{Run, schema}
use Rattle.flow_standing.specs.declared.standing.Standing.{Standing}
use Rattle.flow_standing.specs.declared.standing.Standing.TheVariants as standing
use Rattle.flow_standing.specs.Standing.{IsStanding}
use Rattle.flow_view.specs.declared.mark.Mark.{Mark}
use Rattle.flow_view.specs.declared.mark.Mark.TheVariants as mark

-- the mark that shows it
abbrev pub mark_of : Standing → Mark
mark_of standing.Done = mark.Done
mark_of standing.Claimed = mark.Claimed
mark_of standing.Next = mark.Next
mark_of standing.Banned = mark.Banned
mark_of standing.Failed = mark.Failed
mark_of standing.Plain = mark.Plain

-- the mark shows where the run stands at the leaf
abbrev pub IsMark : Run → ℕ → Mark → Type 0
IsMark r leaf mark.Done = IsStanding r leaf standing.Done
IsMark r leaf mark.Claimed = IsStanding r leaf standing.Claimed
IsMark r leaf mark.Next = IsStanding r leaf standing.Next
IsMark r leaf mark.Banned = IsStanding r leaf standing.Banned
IsMark r leaf mark.Failed = IsStanding r leaf standing.Failed
IsMark r leaf mark.Plain = IsStanding r leaf standing.Plain

-- each leaf has its mark, and there are no others
pub record AreMarks (r : Run) (marks : List Mark) : Type 0 where
  pub count : length marks ≡ length (schema r).labels
  pub each : (leaf : ℕ) (mark : Mark) → slice_get marks leaf ≡ Some mark → IsMark r leaf mark
