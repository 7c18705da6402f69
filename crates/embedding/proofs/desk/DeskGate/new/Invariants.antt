use Rattle.std.proofs.Common.{◌≡◌, map, take}
use Rattle.embedding.specs.Desk.{task_named}
use Rattle.embedding.proofs.desk.DeskGate.new.Given as goal

-- the events passed have their tasks
abbrev pub invariant-loop-name : goal.invariant-loop-name
invariant-loop-name l = l.tasks.items ≡ map task_named (take l.name-index l.name-items)
