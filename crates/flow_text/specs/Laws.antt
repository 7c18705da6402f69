-- A text says one thing, and what is printed is read back.
use Rattle.std.specs.Prelude.{◌≡◌, ℕ, List, None, Result, Ok, Err}
use Rattle.flow_form.specs.declared.refusal.TextRefusal.{TextRefusal}
use Rattle.flow_form.specs.declared.refusal.TextRefusal.TheVariants.{NoMemory}
use Rattle.flow_form.specs.Script.{Said, Asked}
use Rattle.flow_form.specs.Names.{HasGoodNames}
use Rattle.flow_lex.specs.declared.token.Token.{Token}
use Rattle.flow_lex.specs.Tokens.{lexed, IsAscii}
use Rattle.flow_grammar.specs.Made.{IsWellMade}
use Rattle.flow_grammar.specs.Print.{IsWithin, print_script}
use Rattle.flow_grammar.specs.Texts.{Derives, SpellsScript}
use Rattle.flow_reader.specs.Symbols.{symbols_of}
use Rattle.flow_text.specs.Printed.{printed}
use Rattle.flow_text.specs.Printable.{IsPrintable}
use Rattle.flow_text.specs.Saying.{Says, Asks}
use Rattle.flow_text.specs.Parser.{IsParseRefusal, IsQueryRefusal}

abbrev pub TextsSayOneThing : Type 0
TextsSayOneThing = (text : List ℕ) (a b : Said) → Says text a → Says text b → a ≡ b

abbrev pub PrintsAreAscii : Type 0
PrintsAreAscii = (s : Said) → IsPrintable s → IsAscii (printed s)

-- each of its bytes is of a token or between tokens
abbrev pub PrintsAreCut : Type 0
PrintsAreCut = (s : Said) → IsPrintable s → (lexed (printed s)).bad ≡ None

-- its tokens are the symbols of the grammar's print
abbrev pub PrintsAreSymbols : Type 0
PrintsAreSymbols = (s : Said) → IsPrintable s → symbols_of (printed s) (lexed (printed s)).tokens ≡ print_script s

-- whatever the tokens of a text derive can be printed
abbrev pub SaidIsPrintable : Type 0
SaidIsPrintable = (text : List ℕ) (tokens : List Token) (s : Said) → lexed text ≡ record { tokens = tokens; bad = None } →
    Derives SpellsScript (symbols_of text tokens) s → IsPrintable s

-- whatever is well made, of names and numbers that can be written, and not nested too deep, is said by its print
abbrev pub PrintsSayIt : Type 0
PrintsSayIt = (s : Said) → IsPrintable s → IsWellMade s → IsWithin s → HasGoodNames s → Says (printed s) s

-- and so is what some text says
abbrev pub PrintsAreReadBack : Type 0
PrintsAreReadBack = (text : List ℕ) (s : Said) → Says text s → Says (printed s) s

-- an answer that tells of the text: what it says, or why it says nothing, but not want of memory
abbrev pub IsAnswer : {V : Type 0} → (V → Type 0) → (TextRefusal → Type 0) → Result V TextRefusal → Type 0
IsAnswer Said Refused (Ok x) = Said x
IsAnswer Said Refused (Err refusal) = Refused refusal × ¬ (refusal ≡ NoMemory)

-- a text has one answer: the same value, or the same refusal with its place, its kind and its name
abbrev pub TextsHaveOneAnswer : Type 0
TextsHaveOneAnswer = (text : List ℕ) (a b : Result Said TextRefusal) →
    IsAnswer (Says text) (IsParseRefusal text) a → IsAnswer (Says text) (IsParseRefusal text) b → a ≡ b

-- so has a query to a workflow
abbrev pub QueriesHaveOneAnswer : Type 0
QueriesHaveOneAnswer = (text : List ℕ) (s : Said) (a b : Result Asked TextRefusal) →
    IsAnswer (Asks text s) (IsQueryRefusal text s) a → IsAnswer (Asks text s) (IsQueryRefusal text s) b → a ≡ b
