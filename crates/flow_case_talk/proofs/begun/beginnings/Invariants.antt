use Rattle.std.proofs.Common.{◌≡◌}
use Rattle.flow_case_talk.proofs.begun.beginnings.Given as goal

abbrev pub invariant-loop-leaf : goal.invariant-loop-leaf
invariant-loop-leaf g l = g.B.Book.kept_case l.book ≡ g.B.Book.kept_case l.initial.book
