-- What stands at a place of a text.
use Rattle.std.specs.Prelude.{◌≡◌, ℕ, Bool, true, false, not, ◌&&◌, List, [], ◌∷◌, take}
use Rattle.std.specs.List.{prefix_len}
use Rattle.flow_lex.specs.Bytes.{is_letter, is_digit, is_in_word, is_mark}
use Rattle.flow_grammar.specs.Symbol.{Symbol, a_name}
use Rattle.flow_reader.specs.Symbols.{word_symbol}
use Rattle.flow_fault.specs.declared.met.Met.{Met}
use Rattle.flow_fault.specs.declared.met.Met.TheVariants.{End, Reserved, Name, Number, Mark, Byte}

-- the symbol is a name
abbrev pub is_name : Symbol → Bool
is_name (a_name n) = true
is_name other = false

-- the word is a name, and not a reserved word
abbrev pub names : List ℕ → Bool
names word = is_name (word_symbol word)

-- the text begins with a byte of that kind
abbrev pub begins : (ℕ → Bool) → List ℕ → Bool
begins kind [] = false
begins kind (b ∷ bs) = kind b

-- none of the bytes with which words, numbers and marks begin
abbrev pub is_other : ℕ → Bool
is_other b = not (is_letter b) && not (is_digit b) && not (is_mark b)

-- the bytes of that kind with which the text begins
abbrev pub front_of : (ℕ → Bool) → List ℕ → List ℕ
front_of kind text = take (prefix_len kind text) text

-- it is the word, reserved or not
abbrev pub IsWord : List ℕ → Met → Type 0
IsWord word (Reserved met) = (met.now ≡ word) × (names word ≡ false)
IsWord word (Name met) = (met.now ≡ word) × (names word ≡ true)
IsWord word other = ⊥

-- the text begins with it
abbrev pub IsMet : List ℕ → Met → Type 0
IsMet text End = text ≡ []
IsMet text (Number digits) = (begins is_digit text ≡ true) × (digits.now ≡ front_of is_digit text)
IsMet text (Mark byte) = (is_mark byte ≡ true) × ((rest : List ℕ) × (text ≡ byte ∷ rest))
IsMet text (Byte byte) = (is_other byte ≡ true) × ((rest : List ℕ) × (text ≡ byte ∷ rest))
IsMet text word = (begins is_letter text ≡ true) × IsWord (front_of is_in_word text) word
