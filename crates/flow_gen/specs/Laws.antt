-- A generated text is a text of its workflow.
use Rattle.std.specs.Prelude.{◌≡◌, ℕ, ◌+◌, ◌-◌, ◌*◌, ◌^◌, ◌<◌, ◌≤◌, Some, length, map, sum, take}
use Rattle.flow_model.specs.declared.limits.TheConstants.{GREATEST_SIZE}
use Rattle.flow_model.specs.declared.labels.Note.TheVariants.{Done}
use Rattle.flow_model.specs.Lists.{◌∈◌, Each}
use Rattle.flow_model.specs.Facts.{event_at}
use Rattle.flow_model.specs.Process.{Process, leaves}
use Rattle.flow_model.specs.Resolution.{resolutions, resolution_count, ways_in, options, bulk}
use Rattle.flow_model.specs.Schema.{IsGood}
use Rattle.flow_laws.specs.WellFormed.{IsConsistent}
use Rattle.flow_laws.specs.Histories.{NeverWaits}
use Rattle.flow_form.specs.declared.refusal.TextRefusal.{TextRefusal}
use Rattle.flow_form.specs.declared.refusal.TextRefusal.TheVariants.{NoMemory}
use Rattle.flow_form.specs.Names.{IsClosed}
use Rattle.flow_text.specs.Printed.{printed}
use Rattle.flow_text.specs.Saying.{Says}
use Rattle.flow_text.specs.Parser.{IsParseRefusal}
use Rattle.flow_workflow.specs.Definition.{Definition, schema_of}
use Rattle.flow_workflow.specs.declared.refusal.ExpandRefusal.{ExpandRefusal}
use Rattle.flow_workflow.specs.declared.refusal.ExpandRefusal.TheVariants as refusal
use Rattle.flow_expand.specs.Refusals.{IsRefusal}
use Rattle.flow_expand.specs.Workflows.{IsExpanded}
use Rattle.flow_excise.specs.declared.refusal.CompileRefusal.{CompileRefusal}
use Rattle.flow_excise.specs.declared.refusal.CompileRefusal.TheVariants as compile
use Rattle.flow_excise.specs.Compilation.{IsRefused}
use Rattle.flow_plan.specs.Compilation.{IsWithinLimits}
use Rattle.flow_excise.specs.Options.{schema_with}
use Rattle.flow_gen.specs.Generated.{choices_in, kinds, all_draws, generated}

-- it says the workflow
abbrev pub TextsSayTheirWorkflow : Type 0
TextsSayTheirWorkflow = (seed size : ℕ) → 1 ≤ size → size ≤ GREATEST_SIZE → Says (printed (generated seed size)) (generated seed size)

-- nothing is wrong with it
abbrev pub TextsAreRead : Type 0
TextsAreRead = (seed size : ℕ) (refusal : TextRefusal) → 1 ≤ size → size ≤ GREATEST_SIZE → IsParseRefusal (printed (generated seed size)) refusal → refusal ≡ NoMemory

-- each name that the workflow uses is declared, once, and as it must be
abbrev pub WorkflowsAreClosed : Type 0
WorkflowsAreClosed = (seed size : ℕ) → 1 ≤ size → size ≤ GREATEST_SIZE → IsClosed (generated seed size)

-- it is expanded
abbrev pub WorkflowsAreExpanded : Type 0
WorkflowsAreExpanded = (seed size : ℕ) → 1 ≤ size → size ≤ GREATEST_SIZE → (w : Definition) × IsExpanded (generated seed size) w

-- nothing is wrong with it
abbrev pub ExpansionsAreNotRefused : Type 0
ExpansionsAreNotRefused = (seed size : ℕ) (r : ExpandRefusal) → 1 ≤ size → size ≤ GREATEST_SIZE → IsRefusal (generated seed size) r → r ≡ refusal.NoMemory

-- it has eight leaves a block
abbrev pub LeavesAreCounted : Type 0
LeavesAreCounted = (seed size : ℕ) (w : Definition) → 1 ≤ size → size ≤ GREATEST_SIZE → IsExpanded (generated seed size) w → length w.tree.labels ≡ 8 * size

-- each is of the event with its number
abbrev pub LeavesAreEvents : Type 0
LeavesAreEvents = (seed size : ℕ) (w : Definition) → 1 ≤ size → size ≤ GREATEST_SIZE → IsExpanded (generated seed size) w → (leaf : ℕ) → leaf < 8 * size →
    event_at w.tree.labels leaf ≡ Some leaf

-- so nothing in it waits
abbrev pub LabelsNeverWait : Type 0
LabelsNeverWait = (seed size : ℕ) (w : Definition) → 1 ≤ size → size ≤ GREATEST_SIZE → IsExpanded (generated seed size) w → Each NeverWaits w.tree.labels

-- and each of its events is declared to succeed
abbrev pub NotesAreDone : Type 0
NotesAreDone = (seed size : ℕ) (w : Definition) → IsExpanded (generated seed size) w → Each (λ note. note ≡ Done) w.notes

-- from left to right, the leaves of each of its resolutions are a good trace
abbrev pub LeavesAreGoodTraces : Type 0
LeavesAreGoodTraces = (seed size : ℕ) (w : Definition) → 1 ≤ size → size ≤ GREATEST_SIZE → IsExpanded (generated seed size) w → (q : Process) →
    q ∈ resolutions w.tree.process → IsGood (schema_of w) (leaves q)

abbrev pub WorkflowsAreConsistent : Type 0
WorkflowsAreConsistent = (seed size : ℕ) (w : Definition) → 1 ≤ size → size ≤ GREATEST_SIZE → IsExpanded (generated seed size) w → IsConsistent (schema_of w)

-- so many of its blocks are choices
abbrev pub choice_count : ℕ → ℕ → ℕ
choice_count seed size = sum (map choices_in (kinds 0 (take size (all_draws seed size))))

abbrev pub ChoicesAreFew : Type 0
ChoicesAreFew = (seed size : ℕ) → choice_count seed size ≤ 6

-- each choice doubles the resolutions
abbrev pub ChoicesDouble : Type 0
ChoicesDouble = (seed size : ℕ) (w : Definition) → 1 ≤ size → size ≤ GREATEST_SIZE → IsExpanded (generated seed size) w →
    resolution_count w.tree.process ≡ 2 ^ choice_count seed size

-- and takes four leaves away
abbrev pub ChoicesTakeFour : Type 0
ChoicesTakeFour = (seed size : ℕ) (w : Definition) → 1 ≤ size → size ≤ GREATEST_SIZE → IsExpanded (generated seed size) w → (q : Process) →
    q ∈ resolutions w.tree.process → length (leaves q) + 4 * choice_count seed size ≡ 8 * size

-- the leaves of a resolution meet the constraints in one way
abbrev pub WaysAreSingle : Type 0
WaysAreSingle = (seed size : ℕ) (w : Definition) → 1 ≤ size → size ≤ GREATEST_SIZE → IsExpanded (generated seed size) w → (q : Process) →
    q ∈ resolutions w.tree.process → length (ways_in (schema_of w) q) ≡ 1

-- so each resolution is one option
abbrev pub OptionsAreResolutions : Type 0
OptionsAreResolutions = (seed size : ℕ) (w : Definition) → 1 ≤ size → size ≤ GREATEST_SIZE → IsExpanded (generated seed size) w →
    length (options (schema_of w)) ≡ resolution_count w.tree.process

-- and an option has no more leaves than there are events, and no more pairs than constraints
abbrev pub BulkIsSmall : Type 0
BulkIsSmall = (seed size : ℕ) (w : Definition) → 1 ≤ size → size ≤ GREATEST_SIZE → IsExpanded (generated seed size) w →
    bulk (schema_of w) ≤ resolution_count w.tree.process * (8 * size + (size - 1))

abbrev pub WorkflowsAreWithinLimits : Type 0
WorkflowsAreWithinLimits = (seed size : ℕ) (w : Definition) → 1 ≤ size → size ≤ GREATEST_SIZE → IsExpanded (generated seed size) w → IsWithinLimits (schema_of w)

-- nothing is wrong with it where it is compiled
abbrev pub CompilingIsNotRefused : Type 0
CompilingIsNotRefused = (seed size : ℕ) (w : Definition) (r : CompileRefusal) → 1 ≤ size → size ≤ GREATEST_SIZE → IsExpanded (generated seed size) w →
    IsRefused (schema_of w) r → r ≡ compile.NoMemory

-- nor with its tree and its rules
abbrev pub CompilingPartsIsNotRefused : Type 0
CompilingPartsIsNotRefused = (seed size : ℕ) (w : Definition) (r : CompileRefusal) → 1 ≤ size → size ≤ GREATEST_SIZE → IsExpanded (generated seed size) w →
    IsRefused (schema_with w.tree w.rules) r → r ≡ compile.NoMemory
