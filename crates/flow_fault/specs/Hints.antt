-- What may help where a text goes wrong: of each kind of place the first that applies.
use Rattle.std.specs.Prelude.{ℕ, Bool, ◌&&◌, ◌||◌, nat_eq, nat_le, if◌then◌else◌, List, [], ◌∷◌, Option, Some, None, codes}
use Rattle.std.specs.List.{starts_with}
use Rattle.flow_form.specs.declared.refusal.Wanted.{Wanted}
use Rattle.flow_form.specs.declared.refusal.Wanted.TheVariants as want
use Rattle.flow_reader.specs.Symbols.{is}
use Rattle.flow_fault.specs.declared.met.Met.{Met}
use Rattle.flow_fault.specs.declared.met.Met.TheVariants as met
use Rattle.flow_fault.specs.declared.hint.Hint.{Hint}
use Rattle.flow_fault.specs.declared.hint.Hint.TheVariants.{ByteOrderMark, Utf16, OnlyAscii, DividerAlone, NameBytes, Arrow, Quotes, Comment, Ampersand, Brackets, GreatNumber, ReservedWord, DividerMissing, Spelling, NoGoal, SecondGoal, GoalFirst, DeclarationsFirst, Comma, MarkOnce, RuleWords, SemicolonMissing, Joined, QueryWords, OneQuery}

-- where a byte is no ASCII
abbrev pub byte_hint : List ℕ → ℕ → Hint
byte_hint text place =
    if nat_eq place 0 && starts_with nat_eq text (239 ∷ 187 ∷ 191 ∷ []) then ByteOrderMark
    else if nat_eq place 0 && (starts_with nat_eq text (255 ∷ 254 ∷ []) || starts_with nat_eq text (254 ∷ 255 ∷ [])) then Utf16
    else OnlyAscii

-- where no token begins: by the byte there, and the one behind it
abbrev pub token_hint : ℕ → ℕ → Option Hint
token_hint byte next =
    if nat_eq byte 0 then Some Utf16
    else if nat_eq byte 37 then Some DividerAlone
    else if nat_eq byte 45 && nat_eq next 62 then Some Arrow
    else if nat_eq byte 45 || nat_eq byte 95 || nat_eq byte 46 then Some NameBytes
    else if nat_eq byte 60 || nat_eq byte 62 then Some Arrow
    else if nat_eq byte 34 || nat_eq byte 39 || nat_eq byte 96 then Some Quotes
    else if nat_eq byte 47 then Some Comment
    else if nat_eq byte 38 then Some Ampersand
    else if nat_eq byte 123 || nat_eq byte 125 || nat_eq byte 91 || nat_eq byte 93 then Some Brackets
    else if nat_le 48 byte && nat_le byte 57 then Some GreatNumber
    else None

-- the word stands in sessions, journals, queries or policies, and not in a workflow
abbrev pub is_of_second_part : List ℕ → Bool
is_of_second_part word =
    is word (codes "take") || is word (codes "do") || is word (codes "done") || is word (codes "fail") || is word (codes "rewind") || is word (codes "commit") || is word (codes "next") || is word (codes "enabled") || is word (codes "journal") || is word (codes "facts") || is word (codes "history") || is word (codes "holds") || is word (codes "redundant") || is word (codes "role") || is word (codes "allow") || is word (codes "separate") || is word (codes "bound") || is word (codes "as")

-- where a declaration or the goal is wanted
abbrev pub declaration_hint : Met → Bool → Option Hint
declaration_hint met.End spelled = Some NoGoal
declaration_hint (met.Name word) spelled = if spelled then Some Spelling else None
declaration_hint (met.Reserved word) spelled = if is word.now (codes "constraint") then Some GoalFirst else None
declaration_hint other spelled = None

-- where a constraint or the end is wanted
abbrev pub constraint_hint : Met → Bool → Option Hint
constraint_hint (met.Number digits) spelled = Some DividerMissing
constraint_hint (met.Name word) spelled =
    if is_of_second_part word.now then Some DividerMissing else if spelled then Some Spelling else None
constraint_hint (met.Reserved word) spelled =
    if is_of_second_part word.now then Some DividerMissing
    else if is word.now (codes "goal") then Some SecondGoal
    else if is word.now (codes "event") || is word.now (codes "fact") || is word.now (codes "flow") then Some DeclarationsFirst
    else None
constraint_hint other spelled = None

-- where a name or a constant is wanted
abbrev pub name_hint : Met → Option Hint
name_hint (met.Reserved word) = Some ReservedWord
name_hint (met.Mark byte) = if nat_eq byte 44 then Some Comma else None
name_hint other = None

-- where a goal is wanted
abbrev pub atom_hint : Met → Option Hint
atom_hint (met.Reserved word) = Some ReservedWord
atom_hint (met.Mark byte) = if nat_eq byte 42 || nat_eq byte 124 || nat_eq byte 43 then Some MarkOnce else None
atom_hint other = None

-- the end of a line, or what joins
abbrev pub joining : Bool → Option Hint
joining first = if first then Some SemicolonMissing else Some Joined

-- where something ends or goes on
abbrev pub end_hint : Met → Bool → Bool → Option Hint
end_hint met.End first spelled = Some SemicolonMissing
end_hint (met.Mark byte) first spelled = if nat_eq byte 44 then Some Comma else joining first
end_hint (met.Name word) first spelled = if spelled then Some Spelling else joining first
end_hint other first spelled = joining first

-- where that is wanted and this is met, which is the first on its line or not; a word that is wanted is spelled nearly so, or not
abbrev pub wanted_hint : Wanted → Met → Bool → Bool → Option Hint
wanted_hint want.Declaration m first spelled = declaration_hint m spelled
wanted_hint want.Constraint m first spelled = constraint_hint m spelled
wanted_hint want.Name m first spelled = name_hint m
wanted_hint want.Fact m first spelled = name_hint m
wanted_hint want.Constant m first spelled = name_hint m
wanted_hint want.Atom m first spelled = atom_hint m
wanted_hint want.Rule m first spelled = if spelled then Some Spelling else Some RuleWords
wanted_hint want.Semicolon m first spelled = end_hint m first spelled
wanted_hint want.Query m first spelled = Some QueryWords
wanted_hint want.End m first spelled = Some OneQuery
wanted_hint other m first spelled = None
