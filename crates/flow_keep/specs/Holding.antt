-- A keep as its callers see it.
use Rattle.std.specs.Prelude.{Bool}
use Rattle.flow_keep.specs.declared.keep.Keep.{Keep}

-- the run that is kept
abbrev pub run_of : {D R : Type 0} {g h : _} → Keep D R g h → R
run_of k = k.run

-- the disk that it is kept on
abbrev pub disk_of : {D R : Type 0} {g h : _} → Keep D R g h → D
disk_of k = k.disk

-- a call of it failed at the disk
abbrev pub is_broken : {D R : Type 0} {g h : _} → Keep D R g h → Bool
is_broken k = k.broken
