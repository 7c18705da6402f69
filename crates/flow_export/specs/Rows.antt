-- The rows of an event log, and their texts.
use Rattle.std.specs.Prelude.{◌≡◌, ℕ, ◌+◌, ◌-◌, ◌^◌, min, Bool, true, false, List, [], ◌∷◌, ◌++◌, codes, map, Option, None, Some, slice_get}
use Rattle.std.specs.Fmt.{decimal}
use Rattle.std.specs.List.{flat_map}
use Rattle.std.specs.Option.{is_some}
use Rattle.std.specs.String.{string_bytes}
use Rattle.std.specs.Str.{IsUtf8}
use Rattle.csv.specs.Writing.{default_writer, row_text}
use Rattle.serde_json.specs.Data.{Data, boolean, member, no_members, number, object, string, unsigned}
use Rattle.serde_json.specs.Written.{compact_text}
use Rattle.flow_model.specs.Facts.{event_at}
use Rattle.flow_model.specs.Lists.{Each}
use Rattle.flow_workflow.specs.Definition.{Definition}
use Rattle.flow_workflow.specs.Label.{leaf_text}
use Rattle.flow_core.specs.Run.{Run, schema}
use Rattle.flow_export.specs.declared.log_event.Lifecycle.{Lifecycle}
use Rattle.flow_export.specs.declared.log_event.Lifecycle.TheVariants.{Start, Complete, Fail, Late, Undone}
use Rattle.flow_export.specs.declared.log_event.LogEvent.{LogEvent}
use Rattle.flow_export.specs.declared.log_row.Teller.{Teller}
use Rattle.flow_export.specs.declared.log_row.LogRow.{LogRow}
use Rattle.flow_export.specs.Events.{IsLog}

-- who made an entry, when, and what is noted
pub record Tale : Type 0 where
  pub at : List ℕ
  pub by : List ℕ
  pub note : List ℕ

abbrev pub told : Teller → Tale
told t = record { at = string_bytes t.at; by = string_bytes t.by; note = string_bytes t.note }

-- of the entry at the place; nothing where it is not told
abbrev pub told_at : List Teller → ℕ → Tale
told_at tellers place = tale (slice_get tellers place)
  where
    tale : Option Teller → Tale
    tale None = record { at = []; by = []; note = [] }
    tale (Some t) = told t

-- a row, as its texts
pub record Row : Type 0 where
  pub case_name : List ℕ
  -- the number of the entry, from 1
  pub entry : ℕ
  pub activity : List ℕ
  pub is_task : Bool
  pub leaf : ℕ
  pub lifecycle : Lifecycle
  pub tale : Tale
  pub counts : Bool

abbrev pub said : LogRow → Row
said r = record {
  case_name = string_bytes r.case;
  entry = r.entry;
  activity = r.activity.items;
  is_task = r.is_task;
  leaf = r.leaf;
  lifecycle = r.lifecycle;
  tale = record { at = string_bytes r.at; by = string_bytes r.by; note = string_bytes r.note };
  counts = r.counts;
}

-- the row of an event: the label of its leaf, and who made its entry
abbrev pub row_at : Definition → List ℕ → List Teller → LogEvent → Row
row_at w name tellers e = record {
  case_name = name;
  entry = min (e.place + 1) (2 ^ 64 - 1);
  activity = leaf_text w e.leaf;
  is_task = is_some (event_at w.tree.labels e.leaf);
  leaf = e.leaf;
  lifecycle = e.lifecycle;
  tale = told_at tellers e.place;
  counts = e.counts;
}

-- the rows of a case: of each event of its history, in order
pub record IsLogOf (r : Run) (name : List ℕ) (tellers : List Teller) (rows : List Row) : Type 0 where
  pub events : List LogEvent
  pub is_log : IsLog (schema r) r.history events
  pub rows_are : rows ≡ map (row_at r.definition name tellers) events

-- ---- words

abbrev pub word_of : Lifecycle → List ℕ
word_of Start = codes "start"
word_of Complete = codes "complete"
word_of Fail = codes "fail"
word_of Late = codes "late"
word_of Undone = codes "undone"

abbrev pub kind_word : Bool → List ℕ
kind_word true = codes "task"
kind_word false = codes "step"

abbrev pub yes_no : Bool → List ℕ
yes_no true = codes "yes"
yes_no false = codes "no"

-- ---- CSV

abbrev pub csv_names : List (List ℕ)
csv_names =
    codes "case" ∷ codes "entry" ∷ codes "activity" ∷ codes "kind" ∷ codes "leaf" ∷ codes "lifecycle" ∷ codes "timestamp" ∷ codes "resource"
    ∷ codes "counts" ∷ codes "note" ∷ []

abbrev pub csv_fields : Row → List (List ℕ)
csv_fields r =
    r.case_name ∷ decimal r.entry ∷ r.activity ∷ kind_word r.is_task ∷ decimal r.leaf ∷ word_of r.lifecycle ∷ r.tale.at ∷ r.tale.by
    ∷ yes_no r.counts ∷ r.tale.note ∷ []

-- a record of CSV: its fields with commas between them, in quotes where they need them
abbrev pub csv_record : List (List ℕ) → List ℕ
csv_record fields = row_text default_writer fields

abbrev pub csv_lines : List Row → List ℕ
csv_lines rows = flat_map (λ r. csv_record (csv_fields r)) rows

-- a whole log: the names of the columns, and the rows
abbrev pub csv_text : List Row → List ℕ
csv_text rows = csv_record csv_names ++ csv_lines rows

-- ---- lines of JSON

-- what is told of each is text, and not only bytes
abbrev pub AreTexts : List LogRow → Type 0
AreTexts rows = Each (λ (r : LogRow). IsUtf8 r.activity.items) rows

abbrev pub json_object : Row → Data
json_object r =
    object (member (codes "activity") (string r.activity)
    (member (codes "case") (string r.case_name)
    (member (codes "counts") (boolean r.counts)
    (member (codes "entry") (number (unsigned r.entry))
    (member (codes "kind") (string (kind_word r.is_task))
    (member (codes "leaf") (number (unsigned r.leaf))
    (member (codes "lifecycle") (string (word_of r.lifecycle))
    (member (codes "note") (string r.tale.note)
    (member (codes "resource") (string r.tale.by)
    (member (codes "timestamp") (string r.tale.at) no_members))))))))))

abbrev pub json_line : Row → List ℕ
json_line r = compact_text (json_object r) ++ 10 ∷ []

abbrev pub json_lines : List Row → List ℕ
json_lines rows = flat_map json_line rows
