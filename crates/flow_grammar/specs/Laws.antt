-- What reading finds, in the grammar's terms. `Spells` says which texts there are.
use Rattle.std.specs.Prelude.{◌≡◌, ℕ, Option, Some, List, [], ◌∷◌, ◌++◌, ◌↔◌, take}
use Rattle.flow_form.specs.declared.refusal.Wanted.{Wanted}
use Rattle.flow_form.specs.declared.refusal.Wanted.TheVariants as want
use Rattle.flow_grammar.specs.Symbol.{Symbol, Placed, symbols, fact_word, event_word, flow_word, goal_word, constraint_word, nop_word, iso_word, ins_word, del_word, must_word, never_word, order_word, precedes_word, needs_word, not_word, holds_word, redundant_word, a_name, a_number, opening, closing, semicolon, equals, question, exclamation}
use Rattle.flow_grammar.specs.Machine.{Reading, gives, expected, too_deep}
use Rattle.flow_grammar.specs.Texts.{Derives, IsWhole, IsViable, StandsDeep, IsStuckAt, NoneDeepBefore}

-- a value is read exactly where the symbols say it
abbrev pub ReadsJustThese : {V : Type 0} → (List Placed → V → Type 0) → (List Symbol → Reading V) → Type 0
ReadsJustThese {V} Spells read = (ts : List Symbol) (x : V) → (read ts ≡ gives x) ↔ Derives Spells ts x

-- a list of symbols says one thing at most, however deep
abbrev pub SaysOneThing : {V : Type 0} → (List Placed → V → Type 0) → Type 0
SaysOneThing {V} Spells = (w v : List Placed) (x y : V) → symbols w ≡ symbols v → Spells w x → Spells v y → x ≡ y

-- something else is expected exactly at the first place where no text goes on, where none before it is too deep
abbrev pub IsStuckJustThere : {V : Type 0} → (List Placed → V → Type 0) → (List Symbol → Reading V) → Type 0
IsStuckJustThere Spells read = (ts : List Symbol) (k : ℕ) →
    ((kind : Wanted) × (read ts ≡ expected kind k)) ↔ (IsStuckAt Spells ts k × NoneDeepBefore Spells ts k)

-- it is too deep exactly at the first `(` or `not` that stands inside GREATEST_DEPTH others, if texts go on up to it and with it
abbrev pub IsTooDeepJustThere : {V : Type 0} → (List Placed → V → Type 0) → (List Symbol → Reading V) → Type 0
IsTooDeepJustThere Spells read = (ts : List Symbol) (k : ℕ) →
    (read ts ≡ too_deep k) ↔ (StandsDeep Spells ts k × NoneDeepBefore Spells ts k)

-- The kinds

-- the symbol is of that kind
abbrev pub StandsFor : Wanted → Symbol → Type 0
StandsFor want.Declaration fact_word = Unit {0}
StandsFor want.Declaration event_word = Unit {0}
StandsFor want.Declaration flow_word = Unit {0}
StandsFor want.Declaration goal_word = Unit {0}
StandsFor want.Constraint constraint_word = Unit {0}
StandsFor want.Name (a_name n) = Unit {0}
StandsFor want.Fact (a_name n) = Unit {0}
StandsFor want.Constant (a_name n) = Unit {0}
StandsFor want.Constant (a_number n) = Unit {0}
StandsFor want.Atom nop_word = Unit {0}
StandsFor want.Atom (a_name n) = Unit {0}
StandsFor want.Atom question = Unit {0}
StandsFor want.Atom exclamation = Unit {0}
StandsFor want.Atom ins_word = Unit {0}
StandsFor want.Atom del_word = Unit {0}
StandsFor want.Atom iso_word = Unit {0}
StandsFor want.Atom opening = Unit {0}
StandsFor want.Rule not_word = Unit {0}
StandsFor want.Rule opening = Unit {0}
StandsFor want.Rule must_word = Unit {0}
StandsFor want.Rule never_word = Unit {0}
StandsFor want.Rule order_word = Unit {0}
StandsFor want.Rule precedes_word = Unit {0}
StandsFor want.Rule needs_word = Unit {0}
StandsFor want.Opening opening = Unit {0}
StandsFor want.Closing closing = Unit {0}
StandsFor want.Equals equals = Unit {0}
StandsFor want.Semicolon semicolon = Unit {0}
StandsFor want.Query holds_word = Unit {0}
StandsFor want.Query redundant_word = Unit {0}
StandsFor want.Number (a_number n) = Unit {0}
StandsFor _ _ = ⊥

-- the end is of that kind
abbrev pub MayEnd : Wanted → Type 0
MayEnd want.Constraint = Unit {0}
MayEnd want.End = Unit {0}
MayEnd _ = ⊥

-- where a kind is expected, each symbol of that kind could come, and the end if it is of that kind
abbrev pub WantsWhatCouldCome : {V : Type 0} → (List Placed → V → Type 0) → (List Symbol → Reading V) → Type 0
WantsWhatCouldCome Spells read = (ts : List Symbol) (kind : Wanted) (k : ℕ) → read ts ≡ expected kind k →
    ((t : Symbol) → StandsFor kind t → IsViable Spells (take k ts ++ t ∷ [])) × (MayEnd kind → IsWhole Spells (take k ts))

-- what is expected is what the table of kinds has for where the reading stands after the symbols before
abbrev pub TellsWhatIsWanted : {V : Type 0} → (List Symbol → Option Wanted) → (List Symbol → Reading V) → Type 0
TellsWhatIsWanted wants read = (ts : List Symbol) (kind : Wanted) (k : ℕ) → read ts ≡ expected kind k → wants (take k ts) ≡ Some kind
