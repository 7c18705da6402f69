-- What is listed of a run.
use Rattle.std.specs.Prelude.{ℕ, IsTrue}
use Rattle.flow_model.specs.Run.{database, CanDoAside}
use Rattle.flow_core.specs.declared.next.Listed.{Listed}
use Rattle.flow_core.specs.declared.next.Listed.TheVariants.{Acting, Left, Holding}
use Rattle.flow_core.specs.Run.{Run, schema, now}
use Rattle.flow_core.specs.Next.{CanAct}

-- the fact of that number holds now
abbrev pub HoldsNow : Run → ℕ → Type 0
HoldsNow r fact = IsTrue (database (schema r) (now r) fact)

-- the number is one of those that are listed
abbrev pub IsListed : Run → Listed → ℕ → Type 0
IsListed r Acting leaf = CanAct r leaf
IsListed r Left leaf = CanDoAside (schema r) (now r) leaf
IsListed r Holding fact = HoldsNow r fact
