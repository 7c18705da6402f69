-- What is said of a place of a text, in words.
use Rattle.std.specs.Prelude.{◌≡◌, ℕ, ◌+◌, ◌-◌, ◌^◌, min, Bool, not, ◌&&◌, if◌then◌else◌, List, [], ◌∷◌, ◌++◌, take, drop, length, Option, None, Some, slice_get, codes}
use Rattle.std.specs.List.{find}
use Rattle.std.specs.Str.{bytes_eq}
use Rattle.std.specs.Fmt.{decimal}
use Rattle.flow_form.specs.declared.refusal.TextRefusal.{TextRefusal}
use Rattle.flow_form.specs.declared.refusal.TextRefusal.TheVariants.{Expected}
use Rattle.flow_fault.specs.declared.spot.Spot.{Spot}
use Rattle.flow_fault.specs.declared.met.Met.{Met}
use Rattle.flow_fault.specs.declared.met.Met.TheVariants.{End, Reserved, Name, Number, Mark, Byte}
use Rattle.flow_fault.specs.declared.hint.Hint.{Hint}
use Rattle.flow_fault.specs.declared.fault.Fault.{Fault}
use Rattle.flow_fault.specs.Near.{is_near}
use Rattle.flow_fault.specs.Spot.{IsSpot}
use Rattle.flow_writer.specs.Text.{shown, blanks}
use Rattle.flow_why_cli.specs.declared.spots.TheConstants.{BEFORE, SHOWN}
use Rattle.flow_why_cli.specs.declared.rule_words.WrittenRule.{WrittenRule}

abbrev pub spot_text : Spot → List ℕ
spot_text spot = codes "line " ++ decimal spot.line ++ codes ", column " ++ decimal spot.column

-- how many columns of the line are left out before what is shown of it
abbrev pub skipped : Spot → ℕ
skipped spot = spot.column - 1 - BEFORE

-- the line, or a part of it, and a mark under the place
abbrev pub marked_text : Spot → List ℕ
marked_text spot =
    codes "    " ++ shown (take SHOWN (drop (skipped spot) spot.text.now)) ++ codes "\n    " ++ blanks (spot.column - 1 - skipped spot) ++ codes "^\n"

-- a spot of a text that stands so many lines behind others
abbrev pub behind_lines : ℕ → Spot → Spot
behind_lines before spot = record spot { line = min (spot.line + before) (2 ^ 64 - 1) }

abbrev pub place_text : Spot → ℕ → List ℕ
place_text spot before = spot_text (behind_lines before spot) ++ codes ":\n" ++ marked_text spot

-- what a word is, and its first bytes
abbrev pub word_text : List ℕ → List ℕ → List ℕ
word_text what word = what ++ shown (take SHOWN word)

abbrev pub met_text : Met → List ℕ
met_text End = codes "the end of the text"
met_text (Reserved word) = word_text (codes "the reserved word ") word.now
met_text (Name word) = word_text (codes "the name ") word.now
met_text (Number digits) = word_text (codes "the number ") digits.now
met_text (Mark byte) = word_text (codes "the mark ") (byte ∷ [])
met_text (Byte byte) = codes "the byte " ++ decimal byte

-- a hint on a line
abbrev pub hint_line : List ℕ → List ℕ
hint_line words = codes "hint: " ++ words ++ codes "\n"

-- what could stand at a place
abbrev pub wanted_line : List ℕ → List ℕ
wanted_line words = codes "could stand here: " ++ words ++ codes "\n"

-- the line of what is wanted, if the refusal names that
abbrev pub IsWantedLine : TextRefusal → List ℕ → Type 0
IsWantedLine (Expected place kind) line = (words : List ℕ) × (line ≡ wanted_line words)
IsWantedLine other line = line ≡ []

-- the line of the hint, if there is one
abbrev pub IsHintLine : Option Hint → List ℕ → Type 0
IsHintLine (Some hint) line = (words : List ℕ) × (line ≡ hint_line words)
IsHintLine None line = line ≡ []

-- where a text is refused, so many lines behind others, what is met there, what is wanted there, and a hint
pub record IsFaultText (fault : Fault) (before : ℕ) (refusal : TextRefusal) (old new : List ℕ) : Type 0 where
  pub wanted : List ℕ
  pub hint : List ℕ
  pub is_wanted : IsWantedLine refusal wanted
  pub is_hint : IsHintLine fault.hint hint
  pub is : new ≡ old ++ place_text fault.spot before ++ codes "met: " ++ met_text fault.met ++ codes "\n" ++ wanted ++ hint

-- what may stand where a name does
abbrev pub names_line : List ℕ
names_line = hint_line (codes "a goal has declared events and sub-workflows, a constraint declared events")

-- which other name was perhaps meant
abbrev pub other_line : List ℕ → List ℕ
other_line near = codes "hint: did you mean " ++ near ++ codes "?\n"

-- the first of the names that is near, or what may stand there where that is the name itself or there is none
abbrev pub meant_line : Option (List ℕ) → List ℕ → List ℕ
meant_line None name = names_line
meant_line (Some near) name = if bytes_eq near name then names_line else other_line near

abbrev pub near_line : List (List ℕ) → List ℕ → List ℕ
near_line names name = meant_line (find (is_near name) names) name

-- the line of a constraint in the text, and its words
abbrev pub IsWrittenAt : List ℕ → WrittenRule → List ℕ → Type 0
IsWrittenAt text rule written =
    (spot : Spot) × IsSpot text (min (length text) rule.place) spot
    × (written ≡ codes ", line " ++ decimal spot.line ++ codes ": " ++ rule.text.items)

-- the same, where the text has the constraint
abbrev pub IsWritten : List ℕ → Option WrittenRule → List ℕ → Type 0
IsWritten text None written = written ≡ []
IsWritten text (Some rule) written = IsWrittenAt text rule written

-- the line of a constraint: its number, and where the text has it its line and its words
abbrev pub IsRuleLine : List ℕ → Option WrittenRule → ℕ → List ℕ → Type 0
IsRuleLine text rule number line =
    (written : List ℕ) × IsWritten text rule written × (line ≡ codes "  constraint " ++ decimal number ++ written ++ codes "\n")
