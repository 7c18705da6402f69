-- Why a text has no tokens.
use Rattle.std.specs.Prelude.{◌≡◌, ℕ, List, Some}
use Rattle.flow_form.specs.declared.refusal.TextRefusal.{TextRefusal}
use Rattle.flow_form.specs.declared.refusal.TextRefusal.TheVariants.{NotAscii, BadToken, NoMemory}
use Rattle.flow_lex.specs.Tokens.{lexed, IsAscii, IsFirstNotAscii}

-- the refusal says what the text is; want of memory says nothing of it
abbrev pub IsRefused : List ℕ → TextRefusal → Type 0
IsRefused text (NotAscii place) = IsFirstNotAscii text place
IsRefused text (BadToken place) = IsAscii text × ((lexed text).bad ≡ Some place)
IsRefused text NoMemory = Unit {0}
IsRefused text _ = ⊥
