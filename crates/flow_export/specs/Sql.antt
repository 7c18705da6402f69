-- An event log as statements of SQL: a table of cases, and one of events.
use Rattle.std.specs.Prelude.{ℕ, List, [], ◌∷◌, ◌++◌, codes}
use Rattle.std.specs.Fmt.{decimal}
use Rattle.std.specs.Str.Lossy.{utf8_lossy}
use Rattle.flow_export.specs.declared.sql_form.TheConstants.{INSERT_CASE, INSERT_EVENTS}
use Rattle.flow_export.specs.Rows.{Row, kind_word, word_of}
use Rattle.flow_export.specs.Literal.{literal_text}
use Rattle.flow_export.specs.Xes.{true_false}

unfoldable pub text_value : List ℕ → List ℕ
text_value text = literal_text text ++ codes ", "

unfoldable pub number_value : ℕ → List ℕ
number_value number = decimal number ++ codes ", "

-- the event: its case, the entry, what was done
unfoldable pub event_values : Row → List ℕ
event_values r =
    text_value r.case_name ++ number_value r.entry ++ text_value (utf8_lossy r.activity) ++ text_value (kind_word r.is_task)
    ++ number_value r.leaf ++ text_value (word_of r.lifecycle)

-- when, by whom, whether it counts, the note
unfoldable pub told_values : Row → List ℕ
told_values r = text_value r.tale.at ++ text_value r.tale.by ++ true_false r.counts ++ codes ", " ++ literal_text r.tale.note

-- the row in brackets, behind what leads to it
unfoldable pub row_values : List ℕ → Row → List ℕ
row_values lead r = lead ++ codes "(" ++ event_values r ++ told_values r ++ codes ")"

-- rows, each behind a comma but the first, which is behind what leads to it
abbrev pub rows_values : List ℕ → List Row → List ℕ
rows_values lead [] = []
rows_values lead (r ∷ rows) = row_values lead r ++ rows_values (codes ",\n") rows

-- one statement that adds the rows; none where there is no row
abbrev pub insert_text : List Row → List ℕ
insert_text [] = []
insert_text (r ∷ rows) = rows_values INSERT_EVENTS.now (r ∷ rows) ++ codes ";\n"

unfoldable pub insert_case_text : List ℕ → List ℕ
insert_case_text name = INSERT_CASE.now ++ literal_text name ++ codes ");\n"

-- a case by its name, and its rows, in order
unfoldable pub case_text : List ℕ → List Row → List ℕ
case_text name rows = insert_case_text name ++ insert_text rows
