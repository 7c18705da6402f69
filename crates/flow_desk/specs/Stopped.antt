-- What stops the desk, by what stopped flow, and by the file of a run.
use Rattle.std.specs.Prelude.{◌≡◌, ℕ, List}
use Rattle.flow_findings.specs.declared.refused.Refused.{Refused}
use Rattle.flow_front.specs.declared.stop.Stop.{Stop}
use Rattle.flow_front.specs.declared.stop.Stop.TheVariants as stop
use Rattle.flow_desk.specs.declared.stop.DeskStop.{DeskStop}
use Rattle.flow_desk.specs.declared.stop.DeskStop.TheVariants.{Workflow, NoMemory}
use Rattle.flow_desk.specs.Stop.{TellsRefusal}

-- a refusal with such a cause stops it, or want of memory, of which nothing is said
abbrev pub IsStoppedFor : List (List ℕ) → (Refused → Type 0) → DeskStop → Type 0
IsStoppedFor events Cause (Workflow telling) = (why : Refused) × Cause why × TellsRefusal events why telling
IsStoppedFor events Cause NoMemory = Unit {0}
IsStoppedFor events Cause other = ⊥

-- it is what stopped flow
abbrev pub IsStopped : List (List ℕ) → Stop → DeskStop → Type 0
IsStopped events (stop.Refused refused) desk = IsStoppedFor events (λ why. why ≡ refused) desk
IsStopped events stop.NoMemory desk = desk ≡ NoMemory
