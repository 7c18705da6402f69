-- Where a report tells the history of a run.
use Rattle.std.specs.Prelude.{◌≡◌, ◌<◌, ◌+◌, ℕ, zero, suc, Bool, true, false, ◌&&◌, ◌==◌, nat_eq, ◌⊎◌, List, [], ◌++◌, length, take, drop, Option, None, Some, codes, slice_index}
use Rattle.std.specs.List.{starts_with}
use Rattle.std.specs.Str.{bytes_eq}
use Rattle.std.specs.Fmt.{decimal}
use Rattle.flow_model.specs.declared.history.Entry.{Entry}
use Rattle.flow_record.specs.Lines.{cut_at}
use Rattle.flow_record.specs.History.{history_of, history}
use Rattle.flow_desk.specs.Place.{feeds}

-- a line begins at the place: at the first byte, or behind a line feed
abbrev pub begins_line : List ℕ → ℕ → Bool
begins_line text zero = true
begins_line text (suc before) = slice_index text before == 10

-- a line that begins with the word begins at the place
abbrev pub has_line : List ℕ → List ℕ → ℕ → Bool
has_line text word place = begins_line text place && starts_with nat_eq (drop place text) word

-- no line begins with the word
abbrev pub HasNoLine : List ℕ → List ℕ → Type 0
HasNoLine text word = (place : ℕ) → place < length text → has_line text word place ≡ false

-- the last line that begins with the word begins there
pub record IsLastLine (text word : List ℕ) (place : ℕ) : Type 0 where
  pub within : place < length text
  pub is : has_line text word place ≡ true
  pub last : (later : ℕ) → place < later → later < length text → has_line text word later ≡ false

-- the first line that begins with the word begins there, or else the text ends there
pub record IsLineEnd (text word : List ℕ) (place : ℕ) : Type 0 where
  pub is : (place ≡ length text) ⊎ (has_line text word place ≡ true)
  pub first : (earlier : ℕ) → earlier < place → has_line text word earlier ≡ false

-- a line, and what follows its line feed
abbrev pub line_and_rest : List ℕ → Option (List ℕ × List ℕ) → List ℕ × List ℕ
line_and_rest text None = (text, [])
line_and_rest text (Some parts) = parts

-- The block of the last line that begins with `history `: the number of the line behind it, from 0, that line itself, and what follows up to
-- a line that begins with `journal `.
pub record IsBlock (text : List ℕ) (line : ℕ) (head entries : List ℕ) : Type 0 where
  pub place : ℕ
  pub last : IsLastLine text (codes "history ") place
  pub line_is : line ≡ feeds (take place text) + 1
  pub rest : List ℕ
  pub parts : (head, rest) ≡ line_and_rest (drop place text) (cut_at 10 (drop place text))
  pub end : ℕ
  pub ended : IsLineEnd rest (codes "journal ") end
  pub entries_are : entries ≡ take end rest

-- the line above the entries of a history
abbrev pub head_line : ℕ → List ℕ
head_line count = codes "history " ++ decimal count

-- the text has a block, which tells this history from that line on
pub record TellsHistory (text : List ℕ) (line : ℕ) (entries : List Entry) : Type 0 where
  pub head : List ℕ
  pub body : List ℕ
  pub block : IsBlock text line head body
  pub entries_are : history_of body ≡ history entries
  pub head_is : bytes_eq head (head_line (length entries)) ≡ true
