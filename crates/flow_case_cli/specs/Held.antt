-- A case as its callers see it.
use Rattle.std.specs.Prelude.{Bool, List}
use Rattle.flow_case.specs.declared.case_run.CaseRun.{CaseRun}
use Rattle.flow_keep.specs.Holding as holding
use Rattle.flow_trail.specs.Held as held
use Rattle.flow_trail.specs.Lines.{Said}
use Rattle.flow_trail.specs.declared.line.TrailEnd.{TrailEnd}
use Rattle.flow_case_cli.specs.declared.case.Case.{Case}

-- its run
abbrev pub case_of : {D T : Type 0} {g h : _} → Case D T g h → CaseRun
case_of c = c.run

-- the disk of its run, and the disk of its trail
abbrev pub keep_disk : {D T : Type 0} {g h : _} → Case D T g h → D
keep_disk c = holding.disk_of c.keep

abbrev pub trail_disk : {D T : Type 0} {g h : _} → Case D T g h → T
trail_disk c = held.disk_of c.trail

-- where its trail begins, and what the lines say
abbrev pub start_of : {D T : Type 0} {g h : _} → Case D T g h → TrailEnd
start_of c = held.start_of c.trail

abbrev pub said_in : {D T : Type 0} {g h : _} → Case D T g h → List Said
said_in c = held.said_in c.trail

-- a step of it could not be kept
abbrev pub is_broken : {D T : Type 0} {g h : _} → Case D T g h → Bool
is_broken c = c.broken
