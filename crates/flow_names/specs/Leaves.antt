-- Which of the leaves that are sought are listed.
use Rattle.std.specs.Prelude.{ℕ}
use Rattle.flow_core.specs.Run.{Run}
use Rattle.flow_names.specs.declared.leaves.Sought.{Sought}
use Rattle.flow_names.specs.declared.leaves.Listed.{Listed}
use Rattle.flow_names.specs.declared.leaves.Listed.TheVariants.{All, Left}
use Rattle.flow_names.specs.Meaning.{IsSought, IsLeft}

abbrev pub IsListed : Run → Sought → Listed → ℕ → Type 0
IsListed r sought All leaf = IsSought r sought leaf
IsListed r sought Left leaf = IsLeft r sought leaf
