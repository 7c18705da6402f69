use Rattle.std.proofs.Common.{◌≡◌, drop}
use Rattle.flow_move.specs.Labels.{renamed}
use Rattle.flow_move.proofs.new_names.renamed.Given as goal

abbrev pub invariant-loop-rename : goal.invariant-loop-rename
invariant-loop-rename l = renamed l.renames l.name ≡ renamed (drop l.rename-index l.renames) l.name
