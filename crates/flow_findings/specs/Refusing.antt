-- What the program writes where it does nothing else.
use Rattle.std.specs.Prelude.{ℕ, ◌<◌, List, [], ◌++◌, Option, Some, None, length, slice_get, codes}
use Rattle.std.specs.List.{flat_map}
use Rattle.std.specs.Option.{unwrap_or}
use Rattle.std.specs.Fmt.{decimal}
use Rattle.std.proofs.Common.{Bor}
use Rattle.flow_model.specs.declared.limits.TheConstants.{GREATEST_INPUT}
use Rattle.flow_goal.specs.declared.repeats.Twice.{Twice}
use Rattle.flow_form.specs.declared.refusal.Wanted.{Wanted}
use Rattle.flow_form.specs.declared.refusal.Wanted.TheVariants as wanted
use Rattle.flow_form.specs.declared.refusal.TextRefusal.{TextRefusal}
use Rattle.flow_form.specs.declared.refusal.TextRefusal.TheVariants.{NotAscii, BadToken, Expected, Unknown, Repeated, TooDeep, NoMemory}
use Rattle.flow_form.specs.declared.script.Script.{Script}
use Rattle.flow_form.specs.Script.{said}
use Rattle.flow_form.specs.Names.{event_names}
use Rattle.flow_policy.specs.declared.refusal.PolicyRefusal.{PolicyRefusal}
use Rattle.flow_policy.specs.declared.refusal.PolicyRefusal.TheVariants as policy
use Rattle.flow_record.specs.declared.refusal.RecordRefusal.{RecordRefusal}
use Rattle.flow_record.specs.declared.refusal.RecordRefusal.TheVariants as record_refusal
use Rattle.flow_record.specs.Number.{spaced_numbers}
use Rattle.flow_workflow.specs.declared.refusal.ExpandRefusal.{ExpandRefusal}
use Rattle.flow_workflow.specs.declared.refusal.ExpandRefusal.TheVariants as expansion
use Rattle.flow_workflow.specs.declared.refusal.Part.TheVariants as part
use Rattle.flow_excise.specs.declared.refusal.Dropped.{Dropped}
use Rattle.flow_excise.specs.declared.refusal.CompileRefusal.{CompileRefusal}
use Rattle.flow_excise.specs.declared.refusal.CompileRefusal.TheVariants as compilation
use Rattle.flow_words.specs.Usage.{usage_text}
use Rattle.flow_findings.specs.declared.refused.Refused.{Refused}
use Rattle.flow_findings.specs.declared.refused.Refused.TheVariants.{Words, Read, TooLong, Text, Query, Policy, Journals, Record, Expand, NoRule, Compile}

-- what a text needs, in words
abbrev pub kind_text : Wanted → List ℕ
kind_text wanted.Declaration = codes "declaration"
kind_text wanted.Constraint = codes "constraint"
kind_text wanted.Name = codes "name"
kind_text wanted.Fact = codes "fact"
kind_text wanted.Constant = codes "constant"
kind_text wanted.Atom = codes "atom"
kind_text wanted.Rule = codes "rule"
kind_text wanted.Opening = codes "("
kind_text wanted.Closing = codes ")"
kind_text wanted.Equals = codes "="
kind_text wanted.Semicolon = codes ";"
kind_text wanted.Query = codes "query"
kind_text wanted.Number = codes "number"
kind_text wanted.End = codes "end"

-- why a text says nothing; want of memory says nothing of it
abbrev pub text_refusal : TextRefusal → List ℕ
text_refusal (NotAscii place) = codes "byte" ++ codes " " ++ decimal place
text_refusal (BadToken place) = codes "token" ++ codes " " ++ decimal place
text_refusal (Expected place kind) = codes "expected " ++ kind_text kind ++ codes " " ++ decimal place
text_refusal (Unknown place name) = codes "unknown" ++ codes " " ++ name ++ codes " " ++ decimal place
text_refusal (Repeated place name) = codes "repeated" ++ codes " " ++ name ++ codes " " ++ decimal place
text_refusal (TooDeep place) = codes "deep" ++ codes " " ++ decimal place
text_refusal NoMemory = []

-- the refusal is of the text, and not for want of memory
abbrev pub IsOfText : TextRefusal → Type 0
IsOfText (NotAscii place) = Unit {0}
IsOfText (BadToken place) = Unit {0}
IsOfText (Expected place kind) = Unit {0}
IsOfText (Unknown place name) = Unit {0}
IsOfText (Repeated place name) = Unit {0}
IsOfText (TooDeep place) = Unit {0}
IsOfText NoMemory = ⊥

-- why a text is no policy of the workflow; want of memory says nothing of it
abbrev pub policy_refusal : PolicyRefusal → List ℕ
policy_refusal (policy.NotAscii place) = codes "policy byte " ++ decimal place
policy_refusal (policy.BadToken place) = codes "policy token " ++ decimal place
policy_refusal (policy.Expected place) = codes "policy expected " ++ decimal place
policy_refusal (policy.Unknown place) = codes "policy unknown " ++ decimal place
policy_refusal policy.NoMemory = []

-- the refusal is not for want of memory
abbrev pub IsOfPolicy : PolicyRefusal → Type 0
IsOfPolicy (policy.NotAscii place) = Unit {0}
IsOfPolicy (policy.BadToken place) = Unit {0}
IsOfPolicy (policy.Expected place) = Unit {0}
IsOfPolicy (policy.Unknown place) = Unit {0}
IsOfPolicy policy.NoMemory = ⊥

-- each after a blank
abbrev pub spaced : List (List ℕ) → List ℕ
spaced words = flat_map (λ word. codes " " ++ word) words

-- an event twice, by its name and the leaves
abbrev pub twice_text : List (List ℕ) → Twice → List ℕ
twice_text events found =
    codes "twice " ++ unwrap_or (slice_get events found.event) [] ++ codes " " ++ decimal found.first ++ codes " " ++ decimal found.second

-- why a workflow is not expanded, its events by these names; want of memory says nothing of it
abbrev pub expand_refusal : List (List ℕ) → ExpandRefusal → List ℕ
expand_refusal events (expansion.TooLarge part.Flows count) = codes "flows " ++ decimal count
expand_refusal events (expansion.Recursive chain) = codes "recursive" ++ spaced chain.items
expand_refusal events (expansion.TooLarge part.Goal count) = codes "size " ++ decimal count
expand_refusal events (expansion.TooLarge part.Rules count) = codes "rules " ++ decimal count
expand_refusal events (expansion.Twice found) = twice_text events found
expand_refusal events expansion.NoMemory = []

-- the line of an option that has no execution: the numbers of its resolution and way, and its circle
abbrev pub dropped_line : Dropped → List ℕ
dropped_line d =
    codes "dropped " ++ decimal d.resolution ++ codes " " ++ decimal d.way ++ codes " circle" ++ spaced_numbers d.circle.leaves.items ++ codes "\n"

-- that a workflow has no execution which meets every constraint, and why
abbrev pub inconsistent_text : List Dropped → List ℕ
inconsistent_text dropped = codes "inconsistent\n" ++ flat_map dropped_line dropped

-- why a workflow is not compiled, in lines; want of memory says nothing of it
abbrev pub compile_refusal : CompileRefusal → List ℕ
compile_refusal (compilation.TooManyChoices count) = codes "refused: choices " ++ decimal count ++ codes "\n"
compile_refusal (compilation.TooManyWays count) = codes "refused: options " ++ decimal count ++ codes "\n"
compile_refusal (compilation.TooBulky count) = codes "refused: bulk " ++ decimal count ++ codes "\n"
compile_refusal (compilation.Inconsistent dropped) = inconsistent_text dropped.items
compile_refusal compilation.NoMemory = []

-- the names of the events that a script declares, if there is one
abbrev pub named_by : Option (Bor Script) → List (List ℕ)
named_by None = []
named_by (Some script) = event_names (said script.now).decls

-- the refusal is not for want of memory, and the event of it has a name
abbrev pub IsOfWorkflow : List (List ℕ) → ExpandRefusal → Type 0
IsOfWorkflow events (expansion.TooLarge p count) = Unit {0}
IsOfWorkflow events (expansion.Recursive chain) = Unit {0}
IsOfWorkflow events (expansion.Twice found) = found.event < length events
IsOfWorkflow events expansion.NoMemory = ⊥

-- the refusal is not for want of memory
abbrev pub IsOfOptions : CompileRefusal → Type 0
IsOfOptions (compilation.TooManyChoices count) = Unit {0}
IsOfOptions (compilation.TooManyWays count) = Unit {0}
IsOfOptions (compilation.TooBulky count) = Unit {0}
IsOfOptions (compilation.Inconsistent dropped) = Unit {0}
IsOfOptions compilation.NoMemory = ⊥

-- the refusal is not for want of memory
abbrev pub IsOfLines : RecordRefusal → Type 0
IsOfLines (record_refusal.BadLine line) = Unit {0}
IsOfLines (record_refusal.Label line) = Unit {0}
IsOfLines record_refusal.NoMemory = ⊥

-- the first line that is not as it must be, or whose label is not that of its leaf
abbrev pub line_refusal : RecordRefusal → List ℕ
line_refusal (record_refusal.BadLine line) = codes "line " ++ decimal line
line_refusal (record_refusal.Label line) = codes "label " ++ decimal line
line_refusal record_refusal.NoMemory = []

-- the program tells it by lines, events by these names
abbrev pub IsTold : List (List ℕ) → Refused → Type 0
IsTold events Words = Unit {0}
IsTold events Read = Unit {0}
IsTold events TooLong = Unit {0}
IsTold events (Text refusal) = IsOfText refusal
IsTold events (Query refusal) = IsOfText refusal
IsTold events (Policy refusal) = IsOfPolicy refusal
IsTold events (Journals count) = Unit {0}
IsTold events (Record refusal) = IsOfLines refusal
IsTold events (Expand refusal) = IsOfWorkflow events refusal
IsTold events (NoRule index) = Unit {0}
IsTold events (Compile refusal) = IsOfOptions refusal

-- the refusal, each line with its line feed, events by these names
abbrev pub refused_text : List (List ℕ) → Refused → List ℕ
refused_text events Words = codes "refused: words\n" ++ usage_text
refused_text events Read = codes "refused: read\n"
refused_text events TooLong = codes "refused: " ++ (codes "too long " ++ decimal GREATEST_INPUT) ++ codes "\n"
refused_text events (Text refusal) = codes "refused: " ++ text_refusal refusal ++ codes "\n"
refused_text events (Query refusal) = codes "refused: query " ++ text_refusal refusal ++ codes "\n"
refused_text events (Policy refusal) = codes "refused: " ++ policy_refusal refusal ++ codes "\n"
refused_text events (Journals count) = codes "refused: " ++ (codes "journals " ++ decimal count) ++ codes "\n"
refused_text events (Record refusal) = codes "refused: " ++ line_refusal refusal ++ codes "\n"
refused_text events (Expand refusal) = codes "refused: " ++ expand_refusal events refusal ++ codes "\n"
refused_text events (NoRule index) = codes "refused: " ++ (codes "constraint " ++ decimal index) ++ codes "\n"
refused_text events (Compile refusal) = compile_refusal refusal
