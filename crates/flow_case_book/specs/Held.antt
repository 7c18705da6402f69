-- A case that is kept, as its callers see it.
use Rattle.std.specs.Prelude.{ℕ, Bool, List}
use Rattle.flow_case.specs.declared.case_run.CaseRun.{CaseRun}
use Rattle.flow_trail.specs.Lines.{Said}
use Rattle.flow_trail.specs.declared.line.TrailEnd.{TrailEnd}
use Rattle.flow_case_cli.specs.Held as cli
use Rattle.flow_case_talk.specs.Means.{KeptCase}
use Rattle.flow_case_book.specs.declared.book.CaseBook.{CaseBook}
use Rattle.flow_case_book.specs.People as people

-- its run
abbrev pub case_of : {D T : Type 0} {g h : _} → CaseBook D T g h → CaseRun
case_of b = cli.case_of b.case

-- the disk of its entries, and the disk of its trail
abbrev pub keep_disk : {D T : Type 0} {g h : _} → CaseBook D T g h → D
keep_disk b = cli.keep_disk b.case

abbrev pub trail_disk : {D T : Type 0} {g h : _} → CaseBook D T g h → T
trail_disk b = cli.trail_disk b.case

-- where its trail begins, and what the lines say
abbrev pub start_of : {D T : Type 0} {g h : _} → CaseBook D T g h → TrailEnd
start_of b = cli.start_of b.case

abbrev pub said_in : {D T : Type 0} {g h : _} → CaseBook D T g h → List Said
said_in b = cli.said_in b.case

-- a step of it could not be kept
abbrev pub is_broken : {D T : Type 0} {g h : _} → CaseBook D T g h → Bool
is_broken b = cli.is_broken b.case

-- the names of its users, by their numbers from 1
abbrev pub names_in : {D T : Type 0} {g h : _} → CaseBook D T g h → List (List ℕ)
names_in b = people.names_in b.names

-- what is asked: its run, and whether a step of it could not be kept
abbrev pub kept_of : {D T : Type 0} {g h : _} → CaseBook D T g h → KeptCase
kept_of b = record { run = case_of b; is_broken = is_broken b }

-- each `done` is followed by the updates that close off no choice
abbrev pub is_tidied : {D T : Type 0} {g h : _} → CaseBook D T g h → Bool
is_tidied b = b.texts.tidied

-- whether others than its users may come: in a case without a policy
abbrev pub is_open : {D T : Type 0} {g h : _} → CaseBook D T g h → Bool
is_open b = b.names.open
