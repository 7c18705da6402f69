-- What is wrong where a text is refused.
use Rattle.std.specs.Prelude.{◌≡◌, ℕ, ◌+◌, min, Bool, false, ◌||◌, ◌==◌, nat_le, List, length, drop, slice_index, Option, Some, None}
use Rattle.std.specs.List.{prefix_len}
use Rattle.flow_form.specs.declared.refusal.Wanted.{Wanted}
use Rattle.flow_form.specs.declared.refusal.TextRefusal.{TextRefusal}
use Rattle.flow_form.specs.declared.refusal.TextRefusal.TheVariants.{NotAscii, BadToken, Expected, Unknown, Repeated, TooDeep, NoMemory}
use Rattle.flow_fault.specs.declared.spot.Spot.{Spot}
use Rattle.flow_fault.specs.declared.met.Met.{Met}
use Rattle.flow_fault.specs.declared.met.Met.TheVariants as met
use Rattle.flow_fault.specs.declared.hint.Hint.{Hint}
use Rattle.flow_fault.specs.declared.fault.Fault.{Fault}
use Rattle.flow_fault.specs.Spot.{IsSpot}
use Rattle.flow_fault.specs.Met.{IsMet}
use Rattle.flow_fault.specs.Hints.{byte_hint, token_hint, wanted_hint}
use Rattle.flow_fault.specs.Keywords.{is_keyword_near}

-- a blank or a tab
abbrev pub is_blank : ℕ → Bool
is_blank b = (b == 32) || (b == 9)

-- nothing else stands before that column of the line
abbrev pub is_first : List ℕ → ℕ → Bool
is_first line column = nat_le column (prefix_len is_blank line + 1)

-- a name is met that is near a word that is wanted
abbrev pub is_spelled : Wanted → Met → Bool
is_spelled wanted (met.Name word) = is_keyword_near wanted word.now
is_spelled wanted other = false

-- the place of the refusal, or the end of the text
abbrev pub text_place : List ℕ → TextRefusal → ℕ
text_place text (NotAscii place) = min (length text) place
text_place text (BadToken place) = min (length text) place
text_place text (Expected place kind) = min (length text) place
text_place text (Unknown place name) = min (length text) place
text_place text (Repeated place name) = min (length text) place
text_place text (TooDeep place) = min (length text) place
text_place text NoMemory = length text

-- what may help: by the bytes at the place, or by what is wanted there and what is met
abbrev pub hint_of : List ℕ → ℕ → TextRefusal → Spot → Met → Option Hint
hint_of text place (NotAscii p) spot m = Some (byte_hint text place)
hint_of text place (BadToken p) spot m = token_hint (slice_index text place) (slice_index text (place + 1))
hint_of text place (Expected p kind) spot m = wanted_hint kind m (is_first spot.text.now spot.column) (is_spelled kind m)
hint_of text place other spot m = None

-- the spot is that of the place, that is met there, and the hint is the first that applies
pub record IsFault (text : List ℕ) (refusal : TextRefusal) (fault : Fault) : Type 0 where
  pub spot : IsSpot text (text_place text refusal) fault.spot
  pub met : IsMet (drop (text_place text refusal) text) fault.met
  pub hint : fault.hint ≡ hint_of text (text_place text refusal) refusal fault.spot fault.met
