-- A history as text, a line an entry, and what such a text says.
use Rattle.std.specs.Prelude.{ℕ, ◌+◌, ◌^◌, ◌<◌, if◌then◌else◌, List, [], ◌∷◌, ◌++◌, Option, Some, None, codes}
use Rattle.std.specs.List.{flat_map}
use Rattle.std.specs.Fmt.{decimal}
use Rattle.std.specs.Option.{option_map, option_and_then}
use Rattle.std.specs.Str.{bytes_eq}
use Rattle.flow_model.specs.declared.history.Entry.{Entry}
use Rattle.flow_model.specs.declared.history.Step.{Step}
use Rattle.flow_model.specs.declared.history.Step.TheVariants.{Took, Done, Failed, Late, Did, Rewound, Committed}
use Rattle.flow_model.specs.declared.history.FailEffect.{FailEffect}
use Rattle.flow_model.specs.declared.history.FailEffect.TheVariants.{Switched, Kept}
use Rattle.flow_record.specs.Lines.{cut_at, pieces_of}
use Rattle.flow_record.specs.Number.{plain_number}

-- what an entry does, in words
abbrev pub step_text : Step → List ℕ
step_text (Took claim leaf) = codes "took " ++ decimal claim ++ codes " " ++ decimal leaf
step_text (Done claim) = codes "done " ++ decimal claim
step_text (Failed claim Switched) = codes "failed " ++ decimal claim ++ codes " switched"
step_text (Failed claim Kept) = codes "failed " ++ decimal claim ++ codes " kept"
step_text (Late claim) = codes "late " ++ decimal claim
step_text (Did leaf) = codes "did " ++ decimal leaf
step_text (Rewound index) = codes "rewound " ++ decimal index
step_text Committed = codes "committed"

-- its numbers are of 32 bits
abbrev pub HasSmallNumbers : Step → Type 0
HasSmallNumbers (Took claim leaf) = (claim < 2 ^ 32) × (leaf < 2 ^ 32)
HasSmallNumbers (Done claim) = claim < 2 ^ 32
HasSmallNumbers (Failed claim effect) = claim < 2 ^ 32
HasSmallNumbers (Late claim) = claim < 2 ^ 32
HasSmallNumbers (Did leaf) = leaf < 2 ^ 32
HasSmallNumbers (Rewound index) = index < 2 ^ 32
HasSmallNumbers Committed = Unit {0}

abbrev pub IsSmall : Entry → Type 0
IsSmall entry = (entry.by < 2 ^ 32) × HasSmallNumbers entry.step

-- the line of an entry, with its line feed
abbrev pub entry_line : Entry → List ℕ
entry_line entry = decimal entry.by ++ codes ": " ++ step_text entry.step ++ codes "\n"

-- the lines of the entries
abbrev pub history_text : List Entry → List ℕ
history_text history = flat_map entry_line history

-- what a word says of a failure
abbrev pub effect_of : List ℕ → Option FailEffect
effect_of word =
    if bytes_eq word (codes "switched") then Some Switched
    else if bytes_eq word (codes "kept") then Some Kept
    else None

-- a claim and a leaf
abbrev pub took_of : Option (List ℕ × List ℕ) → Option Step
took_of None = None
took_of (Some parts) = option_and_then (λ claim. option_map (λ leaf. Took claim leaf) (plain_number parts.1)) (plain_number parts.0)

-- a claim and an effect
abbrev pub failed_of : Option (List ℕ × List ℕ) → Option Step
failed_of None = None
failed_of (Some parts) = option_and_then (λ claim. option_map (λ effect. Failed claim effect) (effect_of parts.1)) (plain_number parts.0)

-- a word and one number
abbrev pub numbered_step : List ℕ → ℕ → Option Step
numbered_step word number =
    if bytes_eq word (codes "done") then Some (Done number)
    else if bytes_eq word (codes "late") then Some (Late number)
    else if bytes_eq word (codes "did") then Some (Did number)
    else if bytes_eq word (codes "rewound") then Some (Rewound number)
    else None

-- a word, and what follows it after a space
abbrev pub step_with : List ℕ → List ℕ → Option Step
step_with word rest =
    if bytes_eq word (codes "took") then took_of (cut_at 32 rest)
    else if bytes_eq word (codes "failed") then failed_of (cut_at 32 rest)
    else option_and_then (numbered_step word) (plain_number rest)

-- the step of one word alone
abbrev pub lone_step : List ℕ → Option Step
lone_step word = if bytes_eq word (codes "committed") then Some Committed else None

-- the step of words that are one, or are cut after the first
abbrev pub step_by : List ℕ → Option (List ℕ × List ℕ) → Option Step
step_by words None = lone_step words
step_by words (Some parts) = step_with parts.0 parts.1

-- the step that the words say, if they say one
abbrev pub step_of : List ℕ → Option Step
step_of words = step_by words (cut_at 32 words)

-- a number with nothing after it
abbrev pub number_alone : Option (List ℕ × List ℕ) → Option ℕ
number_alone None = None
number_alone (Some (digits, [])) = plain_number digits
number_alone (Some (digits, b ∷ bs)) = None

-- the number of a caller, before a colon and nothing else
abbrev pub caller_of : List ℕ → Option ℕ
caller_of text = number_alone (cut_at 58 text)

-- the step of a caller
abbrev pub made_by : ℕ → Step → Entry
made_by by step = record { by = by; step = step }

-- a caller and a step
abbrev pub entry_by : Option (List ℕ × List ℕ) → Option Entry
entry_by None = None
entry_by (Some parts) = option_and_then (λ by. option_map (made_by by) (step_of parts.1)) (caller_of parts.0)

-- the entry of a line, if it is one
abbrev pub entry_of : List ℕ → Option Entry
entry_of line = entry_by (cut_at 32 line)

-- what a text says of a history
pub data HistoryText : Type 0 where
  history : List Entry → HistoryText
  -- its least line that is no entry's, or that has no line feed
  bad_line : ℕ → HistoryText

-- the entry before those of the history
abbrev pub with_entry : Entry → HistoryText → HistoryText
with_entry entry (history more) = history (entry ∷ more)
with_entry entry (bad_line line) = bad_line line

-- the history that begins with the line of that number, before the rest
abbrev pub with_entry_line : ℕ → Option Entry → HistoryText → HistoryText
with_entry_line number None rest = bad_line number
with_entry_line number (Some entry) rest = with_entry entry rest

-- the history of the lines from the one of that number on; nothing may stand after the last line feed
abbrev pub history_from : ℕ → List (List ℕ) → HistoryText
history_from number [] = history []
history_from number ([] ∷ []) = history []
history_from number ((b ∷ bs) ∷ []) = bad_line number
history_from number (line ∷ next ∷ lines) = with_entry_line number (entry_of line) (history_from (number + 1) (next ∷ lines))

-- the history that a text says
abbrev pub history_of : List ℕ → HistoryText
history_of text = history_from 0 (pieces_of 10 text)
