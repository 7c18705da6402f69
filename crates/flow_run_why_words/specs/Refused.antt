-- A line of a session that is refused, and why.
use Rattle.std.specs.Prelude.{ℕ, Bool, true, false, List, ◌++◌, Option, None, Some, codes}
use Rattle.std.specs.Fmt.{decimal}
use Rattle.flow_ask.specs.declared.ask.Ask.{Ask}
use Rattle.flow_ask.specs.declared.ask.Ask.TheVariants.{Take, Do}
use Rattle.flow_ask.specs.declared.refusal.Refusal.{Refusal}
use Rattle.flow_ask.specs.declared.refusal.Refusal.TheVariants.{NotEnabled, TestFalse}
use Rattle.flow_writer.specs.Json.{text_member}
use Rattle.flow_run_why_words.specs.Lines.{Shape}

-- the leaf that an ask is about, if it is about one itself
abbrev pub leaf_asked : Ask → Option ℕ
leaf_asked (Take leaf) = Some leaf
leaf_asked (Do leaf) = Some leaf
leaf_asked other = None

-- the reason of the leaf is why that is refused
abbrev pub has_reason : Refusal → Bool
has_reason NotEnabled = true
has_reason TestFalse = true
has_reason other = false

-- the same as an object: the number of the line and the line
abbrev pub line_start : Shape → List ℕ
line_start line = codes "{\"line\":" ++ decimal line.number ++ text_member (codes "text") line.bytes
