use Rattle.std.proofs.Common.{◌≡◌, drop}
use Rattle.embedding.specs.Desk.{amount_of}
use Rattle.embedding.proofs.desk.amount_of.Given as goal

-- the rows passed have other numbers
abbrev pub invariant-loop-key : goal.invariant-loop-key
invariant-loop-key l = amount_of l.table l.number ≡ amount_of (drop l.key-index l.table) l.number
