-- Why a call finds nothing: a refusal, or want of memory, of which nothing is said.
use Rattle.std.specs.Prelude.{ℕ, List}
use Rattle.flow_form.specs.declared.refusal.TextRefusal.{TextRefusal}
use Rattle.flow_form.specs.declared.refusal.TextRefusal.TheVariants as text
use Rattle.flow_io.specs.declared.failure.ReadRefusal.{ReadRefusal}
use Rattle.flow_io.specs.declared.failure.ReadRefusal.TheVariants as read
use Rattle.flow_policy.specs.declared.refusal.PolicyRefusal.{PolicyRefusal}
use Rattle.flow_policy.specs.declared.refusal.PolicyRefusal.TheVariants as policy
use Rattle.flow_record.specs.declared.refusal.RecordRefusal.{RecordRefusal}
use Rattle.flow_record.specs.declared.refusal.RecordRefusal.TheVariants as record_refusal
use Rattle.flow_workflow.specs.declared.refusal.ExpandRefusal.{ExpandRefusal}
use Rattle.flow_workflow.specs.declared.refusal.ExpandRefusal.TheVariants as expansion
use Rattle.flow_excise.specs.declared.refusal.CompileRefusal.{CompileRefusal}
use Rattle.flow_excise.specs.declared.refusal.CompileRefusal.TheVariants as compilation
use Rattle.flow_findings.specs.declared.refused.Refused.{Refused}
use Rattle.flow_findings.specs.declared.refused.Refused.TheVariants as refused
use Rattle.flow_front.specs.declared.status.Status.{Status}
use Rattle.flow_front.specs.Status.{Tells}
use Rattle.flow_front.specs.declared.stop.Stop.{Stop}
use Rattle.flow_front.specs.declared.stop.Stop.TheVariants as stop

-- it is for want of memory, or a refusal for such a cause
abbrev pub IsStop : (Refused → Type 0) → Stop → Type 0
IsStop Cause (stop.Refused why) = Cause why
IsStop Cause stop.NoMemory = Unit {0}

-- the status and the output are those of the refusal that it is, events by these names
abbrev pub TellsStop : List (List ℕ) → Stop → Status → List ℕ → Type 0
TellsStop events (stop.Refused why) status output = Tells events why status output
TellsStop events stop.NoMemory status output = ⊥

-- refusals of the crates below

abbrev pub read_stop : ReadRefusal → Stop
read_stop read.ReadFault = stop.Refused refused.Read
read_stop read.TooLong = stop.Refused refused.TooLong
read_stop read.NoMemory = stop.NoMemory

abbrev pub text_stop : TextRefusal → Stop
text_stop text.NoMemory = stop.NoMemory
text_stop other = stop.Refused (refused.Text other)

abbrev pub query_stop : TextRefusal → Stop
query_stop text.NoMemory = stop.NoMemory
query_stop other = stop.Refused (refused.Query other)

abbrev pub policy_stop : PolicyRefusal → Stop
policy_stop policy.NoMemory = stop.NoMemory
policy_stop other = stop.Refused (refused.Policy other)

abbrev pub record_stop : RecordRefusal → Stop
record_stop record_refusal.NoMemory = stop.NoMemory
record_stop other = stop.Refused (refused.Record other)

abbrev pub expand_stop : ExpandRefusal → Stop
expand_stop expansion.NoMemory = stop.NoMemory
expand_stop other = stop.Refused (refused.Expand other)

abbrev pub compile_stop : CompileRefusal → Stop
compile_stop compilation.NoMemory = stop.NoMemory
compile_stop other = stop.Refused (refused.Compile other)
