-- What the type of a book keeps of its run.
use Rattle.std.specs.Prelude.{◌≡◌, Bool, true, Option, IfSome, MatchOption}
use Rattle.flow_model.specs.declared.history.Call.{Call}
use Rattle.flow_model.specs.declared.history.Outcome.{Outcome}
use Rattle.flow_model.specs.Run.{IsLegal}
use Rattle.flow_model.specs.Verdict.{IsRunLegal, IsDriven}
use Rattle.flow_core.specs.declared.next.Next.{Next}
use Rattle.flow_core.specs.Run.{Run, schema}
use Rattle.flow_core.specs.Next.{IsNext}
use Rattle.flow_core.specs.declared.end.End.{End}
use Rattle.flow_crew.specs.Ends.{IsEnd, HasNoEnd}

-- workers may have made the history, with gates whose answers pass the test
pub record IsByWorkers (gives : Call → Outcome → Bool) (r : Run) : Type 0 where
  pub run_legal : IsRunLegal (λ call outcome. gives call outcome ≡ true) (schema r) r.limit r.history
  pub driven : IsDriven (schema r) r.limit r.history

-- the history is legal, this is what the run came to, and what it does next where that is known
pub record IsTracked (r : Run) (next : Option Next) (end : Option End) : Type 0 where
  pub legal : IsLegal (schema r) r.limit r.history
  pub goes_on : IfSome next (IsNext r)
  pub ends : MatchOption end (HasNoEnd r) (IsEnd r)
