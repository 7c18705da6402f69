use Rattle.std.proofs.Common.{◌≡◌, take, map}
use Rattle.flow_move.specs.Labels.{renamed}
use Rattle.flow_move.proofs.new_names.all_renamed.Given as goal

abbrev pub invariant-loop-name : goal.invariant-loop-name
invariant-loop-name l = l.named.items ≡ map (renamed l.renames) (take l.name-index l.names)
