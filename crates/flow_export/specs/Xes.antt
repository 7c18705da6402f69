-- An event log in XES, by IEEE 1849-2016: a trace is a case, an event a row.
use Rattle.std.specs.Prelude.{ℕ, Bool, true, false, if◌then◌else◌, List, [], ◌∷◌, ◌++◌, codes}
use Rattle.std.specs.Fmt.{decimal}
use Rattle.std.specs.Str.Lossy.{utf8_lossy}
use Rattle.flow_draw.specs.Pieces.{joined}
use Rattle.flow_export.specs.declared.log_event.Lifecycle.{Lifecycle}
use Rattle.flow_export.specs.declared.log_event.Lifecycle.TheVariants.{Start, Complete, Fail, Late, Undone}
use Rattle.flow_export.specs.declared.xes_form.TheConstants.{NAME, RESOURCE, TIMESTAMP, TRANSITION, TIME, ENTRY, KIND, LEAF, HAPPENED, COUNTS, NOTE}
use Rattle.flow_export.specs.Rows.{Row, kind_word, word_of}
use Rattle.flow_export.specs.Value.{value_text}
use Rattle.flow_export.specs.DateTime.{is_date_time}

-- an attribute of that type: a string, an int, a boolean or a date
unfoldable pub attribute_text : List ℕ → List ℕ → List ℕ → List ℕ
attribute_text type_name key value = joined (
    codes "<" ∷ type_name ∷ codes " key=\"" ∷ key ∷ codes "\" value=\"" ∷ value_text value ∷ codes "\"/>\n" ∷ [])

-- one of a text that may be missing
unfoldable pub told_text : List ℕ → List ℕ → List ℕ
told_text key [] = []
told_text key (byte ∷ bytes) = attribute_text (codes "string") key (byte ∷ bytes)

-- when: a date, or as it was told where that is none
unfoldable pub time_text : List ℕ → List ℕ
time_text at = if is_date_time at then attribute_text (codes "date") TIMESTAMP.now at else told_text TIME.now at

-- What happened, in the words of the standard. A failure aborts the task. It has no word of its own for a result that came too late, and
-- for a task that was done and is taken back.
abbrev pub transition_of : Lifecycle → List ℕ
transition_of Start = codes "start"
transition_of Complete = codes "complete"
transition_of Fail = codes "ate_abort"
transition_of Late = codes "unknown"
transition_of Undone = codes "unknown"

abbrev pub true_false : Bool → List ℕ
true_false true = codes "true"
true_false false = codes "false"

-- what the extensions of the standard say: the activity, who, when, and what happened
unfoldable pub standard_text : Row → List ℕ
standard_text r =
    attribute_text (codes "string") NAME.now (utf8_lossy r.activity) ++ told_text RESOURCE.now r.tale.by
    ++ time_text r.tale.at ++ attribute_text (codes "string") TRANSITION.now (transition_of r.lifecycle)

-- what only a flow has: where the event stands
unfoldable pub place_text : Row → List ℕ
place_text r =
    attribute_text (codes "int") ENTRY.now (decimal r.entry) ++ attribute_text (codes "string") KIND.now (kind_word r.is_task)
    ++ attribute_text (codes "int") LEAF.now (decimal r.leaf)

-- what happened in the words of a flow, whether it counts, the note
unfoldable pub own_text : Row → List ℕ
own_text r =
    attribute_text (codes "string") HAPPENED.now (word_of r.lifecycle)
    ++ attribute_text (codes "boolean") COUNTS.now (true_false r.counts) ++ told_text NOTE.now r.tale.note

unfoldable pub event_text : Row → List ℕ
event_text r = codes "<event>\n" ++ standard_text r ++ place_text r ++ own_text r ++ codes "</event>\n"

-- the events of the rows, in order
abbrev pub events_text : List Row → List ℕ
events_text [] = []
events_text (r ∷ rows) = event_text r ++ events_text rows

-- a case by its name, and the events of its rows
unfoldable pub trace_text : List ℕ → List Row → List ℕ
trace_text name rows =
    codes "<trace>\n" ++ attribute_text (codes "string") NAME.now name ++ events_text rows ++ codes "</trace>\n"
