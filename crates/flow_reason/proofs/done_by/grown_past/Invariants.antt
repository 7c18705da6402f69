use Rattle.std.proofs.Common.{◌≡◌, ◌≤◌, length}
use Rattle.std.specs.Prelude.{MatchOption}
use Rattle.flow_model.specs.Schema.{Schema}
use Rattle.flow_reason.specs.DoneBy.{HasGrown, journal_at}
use Rattle.flow_reason.proofs.done_by.grown_past.Given as goal

abbrev pub invariant-loop-index : goal.invariant-loop-index
invariant-loop-index l = record {
  few : l.long ≤ l.index;
  long_is : (w : Schema) → length (journal_at w l.history l.index) ≡ l.long;
  found : (w : Schema) → MatchOption l.grown (length (journal_at w l.history l.index) ≤ l.place) (HasGrown w l.history l.place l.index);
}
