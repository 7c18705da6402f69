use Rattle.std.proofs.Common.{take}
use Rattle.flow_list.specs.Filter.{IsNamedIn}
use Rattle.flow_list.proofs.filter.is_one_named.Given as goal

abbrev pub invariant-loop-number : goal.invariant-loop-number
invariant-loop-number l = ¬ (IsNamedIn l.texts.users (take l.number-index l.numbers) l.user)
