-- The lines of a text that stands behind a workflow, by their numbers.
use Rattle.std.specs.Prelude.{ℕ, ◌+◌, Bool, ◌||◌, ◌==◌, nat_lt, if◌then◌else◌, List, [], ◌++◌, length, slice_get, Option, None, Some, codes}
use Rattle.std.specs.List.{list_all}
use Rattle.flow_record.specs.declared.refusal.RecordRefusal.{RecordRefusal}
use Rattle.flow_record.specs.declared.refusal.RecordRefusal.TheVariants.{BadLine, Label, NoMemory}
use Rattle.flow_writer.specs.Json.{number_member, text_member}
use Rattle.flow_run_why_words.specs.Parts.{part_of}
use Rattle.flow_run_why_words.specs.declared.lines.Line.{Line}

-- a line and its number
pub record Shape : Type 0 where
  pub number : ℕ
  pub bytes : List ℕ

abbrev pub shape_of : Line → Shape
shape_of line = record { number = line.number; bytes = line.text.now }

abbrev pub no_line : Shape
no_line = record { number = 0; bytes = [] }

-- how many lines stand before the part that is read
abbrev pub lines_before : List ℕ → ℕ
lines_before text = if nat_lt (length (part_of text)) (length text) then 1 else 0

-- nothing but blanks and tabs
abbrev pub is_blank : List ℕ → Bool
is_blank line = list_all (λ byte. (byte == 32) || (byte == 9)) line

-- the line that a refusal names, which counts them from 0
abbrev pub line_refused : List Shape → RecordRefusal → Option Shape
line_refused lines (BadLine line) = slice_get lines line
line_refused lines (Label line) = slice_get lines line
line_refused lines NoMemory = None

-- a line as members of an object, if there is one
abbrev pub line_members : Option Shape → List ℕ
line_members None = []
line_members (Some line) = number_member (codes "line") line.number ++ text_member (codes "text") line.bytes
