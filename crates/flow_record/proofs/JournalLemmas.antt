-- A journal read line by line.
use Rattle.std.proofs.Common.{◌≡◌, ℕ, ◌+◌, ◌≤◌, ◌<◌, List, ◌∷◌, length, refl, ◌∙◌, Option, Some, None}
use Rattle.std.proofs.lemmas.Bool.{le-ltb, lt-ltb}
use Rattle.flow_model.specs.declared.limits.TheConstants.{MOST_LINES}
use Rattle.flow_workflow.specs.Definition.{Definition}
use Rattle.flow_record.specs.Lines.{without_returns, lines_of}
use Rattle.flow_record.specs.Journal.{JournalText, bad_line, after_lines, with_leaf_line, journal_from, journal_of}
use Rattle.flow_record.proofs.LineLemmas.{some_line}

-- the journal is what was read and what is left, from the line of that number on
abbrev pub IsReadTo : Definition → List ℕ → List ℕ → Option ℕ → ℕ → List ℕ → Type 0
IsReadTo w text front wrong number rest =
    journal_of w text ≡ after_lines front wrong (journal_from w number (lines_of (without_returns rest)))

-- a bad line is told, whatever was read before it
bad_told : (front : List ℕ) (wrong : Option ℕ) (line : ℕ) → after_lines front wrong (bad_line line) ≡ bad_line line
bad_told front None line = refl
bad_told front (Some number) line = refl

-- where so many lines were read, the next one is bad
pub too_many : (w : Definition) (text front : List ℕ) (wrong : Option ℕ) (number : ℕ) (rest : List ℕ) → IsReadTo w text front wrong number rest →
    0 < length rest → MOST_LINES ≤ number → journal_of w text ≡ bad_line number
too_many w text front wrong number rest is some many =
    let line = some_line rest some in
    is ∙ rw (line.1.1, le-ltb number MOST_LINES many) (bad_told front wrong number)

-- a line more is read
pub read_on : (w : Definition) (text front : List ℕ) (wrong : Option ℕ) (number : ℕ) (rest line more longer : List ℕ) (told : Option ℕ) → IsReadTo w text front wrong number rest
    → number < MOST_LINES → lines_of (without_returns rest) ≡ line ∷ lines_of (without_returns more)
    → ((later : JournalText) → after_lines front wrong (with_leaf_line w number line later) ≡ after_lines longer told later) → IsReadTo w text longer told (number + 1) more
read_on w text front wrong number rest line more longer told is below cut taken =
    is ∙ rw (cut, lt-ltb number MOST_LINES below) (taken (journal_from w (number + 1) (lines_of (without_returns more))))
