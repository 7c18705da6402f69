-- A journal as text, a line a leaf, and what such a text says.
use Rattle.std.specs.Prelude.{ℕ, ◌+◌, Bool, ◌&&◌, nat_lt, if◌then◌else◌, List, [], ◌∷◌, ◌++◌, length, Option, Some, None, codes}
use Rattle.std.specs.List.{flat_map}
use Rattle.std.specs.Option.{option_map}
use Rattle.std.specs.Str.{bytes_eq}
use Rattle.std.specs.Fmt.{decimal}
use Rattle.flow_model.specs.declared.limits.TheConstants.{MOST_LINES}
use Rattle.flow_workflow.specs.Definition.{Definition}
use Rattle.flow_workflow.specs.Label.{leaf_text}
use Rattle.flow_record.specs.Lines.{without_returns, lines_of, cut_at}
use Rattle.flow_record.specs.Number.{plain_number}

-- the line of a leaf, with its line feed
abbrev pub leaf_line : Definition → ℕ → List ℕ
leaf_line w leaf = decimal leaf ++ codes " " ++ leaf_text w leaf ++ codes "\n"

-- the lines of the leaves
abbrev pub journal_text : Definition → List ℕ → List ℕ
journal_text w leaves = flat_map (leaf_line w) leaves

-- a number, and a label that is not empty
abbrev pub noted_by : Option (List ℕ × List ℕ) → Option (ℕ × List ℕ)
noted_by None = None
noted_by (Some (digits, [])) = None
noted_by (Some (digits, b ∷ bs)) = option_map (λ leaf. (leaf, b ∷ bs)) (plain_number digits)

-- what a line notes: a leaf, and its label after one space
abbrev pub noted_leaf : List ℕ → Option (ℕ × List ℕ)
noted_leaf line = noted_by (cut_at 32 line)

-- the leaf is one of the workflow's, and that is its label
abbrev pub is_label_of : Definition → ℕ → List ℕ → Bool
is_label_of w leaf label = nat_lt leaf (length w.tree.labels) && bytes_eq (leaf_text w leaf) label

-- what a text says of a journal
pub data JournalText : Type 0 where
  journal : List ℕ → JournalText
  -- its least line that is not as it must be
  bad_line : ℕ → JournalText
  -- all lines are as they must be: the least whose label is not that of its leaf
  wrong_label : ℕ → JournalText

-- the leaf before those of the journal
abbrev pub with_leaf : ℕ → JournalText → JournalText
with_leaf leaf (journal more) = journal (leaf ∷ more)
with_leaf leaf (bad_line line) = bad_line line
with_leaf leaf (wrong_label line) = wrong_label line

-- the label on the line of that number is wrong, unless some line is bad
abbrev pub with_wrong : ℕ → JournalText → JournalText
with_wrong number (journal more) = wrong_label number
with_wrong number (bad_line line) = bad_line line
with_wrong number (wrong_label line) = wrong_label number

-- the journal that begins with what is noted on the line of that number, before the rest
abbrev pub with_noted : Definition → ℕ → Option (ℕ × List ℕ) → JournalText → JournalText
with_noted w number None rest = bad_line number
with_noted w number (Some (leaf, label)) rest = if is_label_of w leaf label then with_leaf leaf rest else with_wrong number rest

-- the same of a line, of which an empty one is skipped
abbrev pub with_leaf_line : Definition → ℕ → List ℕ → JournalText → JournalText
with_leaf_line w number [] rest = rest
with_leaf_line w number (b ∷ bs) rest = with_noted w number (noted_leaf (b ∷ bs)) rest

-- the journal of the lines from the one of that number on: no line is numbered MOST_LINES or more
abbrev pub journal_from : Definition → ℕ → List (List ℕ) → JournalText
journal_from w number [] = journal []
journal_from w number (line ∷ lines) =
    if nat_lt number MOST_LINES then with_leaf_line w number line (journal_from w (number + 1) lines) else bad_line number

-- the journal that a text says
abbrev pub journal_of : Definition → List ℕ → JournalText
journal_of w text = journal_from w 0 (lines_of (without_returns text))

-- the leaves of the lines before those of the journal, or, where one of these has a wrong label, that it has
abbrev pub after_lines : List ℕ → Option ℕ → JournalText → JournalText
after_lines front None (journal more) = journal (front ++ more)
after_lines front None (bad_line line) = bad_line line
after_lines front None (wrong_label line) = wrong_label line
after_lines front (Some line) rest = with_wrong line rest
