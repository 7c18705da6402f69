-- A trail as its callers see it.
use Rattle.std.specs.Prelude.{ℕ, Bool, List, map}
use Rattle.flow_trail.specs.declared.line.TrailEnd.{TrailEnd}
use Rattle.flow_trail.specs.declared.trail.Trail.{Trail}
use Rattle.flow_trail.specs.Lines.{Said, said_of}

-- where it begins
abbrev pub start_of : {D : Type 0} {g : _} → Trail D g → TrailEnd
start_of t = t.start

-- what its lines say
abbrev pub said_in : {D : Type 0} {g : _} → Trail D g → List Said
said_in t = map said_of t.lines.items

-- the disk that it is kept on
abbrev pub disk_of : {D : Type 0} {g : _} → Trail D g → D
disk_of t = t.disk

-- a call of it failed at the disk
abbrev pub is_broken : {D : Type 0} {g : _} → Trail D g → Bool
is_broken t = t.broken

-- how many bytes its lines take
abbrev pub place_of : {D : Type 0} {g : _} → Trail D g → ℕ
place_of t = t.place
