use Rattle.std.proofs.Common.{◌≡◌, take}
use Rattle.flow_record.specs.Journal.{journal_text}
use Rattle.flow_record.proofs.journal.print_journal.Given as goal

abbrev pub invariant-loop-leaf : goal.invariant-loop-leaf
invariant-loop-leaf l = l.text.items ≡ journal_text l.workflow (take l.leaf-index l.leaves)
