-- What a run by workers comes to.
use Rattle.std.specs.Prelude.{ℕ, List}
use Rattle.flow_model.specs.Verdict.{IsRunVerdict, committed, spent, no_other, stuck}
use Rattle.flow_core.specs.Run.{Run, schema}
use Rattle.flow_core.specs.declared.end.End.{End}
use Rattle.flow_core.specs.declared.end.End.TheVariants.{Committed, Stuck, NoOther, Spent}

-- this verdict stands
abbrev pub IsEnd : Run → End → Type 0
IsEnd r Committed = IsRunVerdict (schema r) r.limit r.history committed
IsEnd r Stuck = (waiting : List ℕ) × IsRunVerdict (schema r) r.limit r.history (stuck waiting)
IsEnd r (NoOther leaf) = IsRunVerdict (schema r) r.limit r.history (no_other leaf)
IsEnd r Spent = IsRunVerdict (schema r) r.limit r.history spent

-- some verdict stands
abbrev pub HasEnd : Run → Type 0
HasEnd r = (end : End) × IsEnd r end

-- no verdict stands
abbrev pub HasNoEnd : Run → Type 0
HasNoEnd r = (end : End) → ¬ (IsEnd r end)
