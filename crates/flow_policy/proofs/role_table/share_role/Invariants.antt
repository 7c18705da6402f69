use Rattle.std.proofs.Common.{◌+◌, length}
use Rattle.flow_policy.proofs.TableLemmas.{Sharing}
use Rattle.flow_policy.proofs.role_table.share_role.Given as goal

abbrev pub invariant-loop-one : goal.invariant-loop-one
invariant-loop-one l = Sharing l.fn.mine l.fn.theirs l.mine l.theirs

abbrev pub decreases-loop-one : goal.decreases-loop-one
decreases-loop-one l = length l.mine + length l.theirs
