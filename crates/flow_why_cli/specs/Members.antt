-- What is said of a refusal, as members of an object of JSON.
use Rattle.std.specs.Prelude.{ℕ, ◌+◌, ◌^◌, ◌-◌, min, List, [], ◌∷◌, ◌++◌, Option, None, Some, codes}
use Rattle.flow_form.specs.declared.refusal.TextRefusal.{TextRefusal}
use Rattle.flow_form.specs.declared.refusal.TextRefusal.TheVariants as text
use Rattle.flow_workflow.specs.declared.refusal.ExpandRefusal.{ExpandRefusal}
use Rattle.flow_workflow.specs.declared.refusal.ExpandRefusal.TheVariants as expansion
use Rattle.flow_workflow.specs.declared.refusal.Part.TheVariants as part
use Rattle.flow_excise.specs.declared.refusal.CompileRefusal.TheVariants as compilation
use Rattle.flow_policy.specs.declared.refusal.PolicyRefusal.TheVariants as policy
use Rattle.flow_record.specs.declared.refusal.RecordRefusal.TheVariants as record_refusal
use Rattle.flow_findings.specs.declared.refused.Refused.{Refused}
use Rattle.flow_findings.specs.declared.refused.Refused.TheVariants.{Text, Query, Policy, Record, NoRule, Expand, Compile}
use Rattle.flow_findings.specs.Refusing.{kind_text}
use Rattle.flow_fault.specs.declared.met.Met.{Met}
use Rattle.flow_fault.specs.declared.met.Met.TheVariants as met
use Rattle.flow_fault.specs.declared.hint.Hint.{Hint}
use Rattle.flow_fault.specs.declared.hint.Hint.TheVariants as hint
use Rattle.flow_fault.specs.declared.fault.Fault.{Fault}
use Rattle.flow_writer.specs.Json.{text_member, number_member}

-- the word of a refusal
abbrev pub text_word : TextRefusal → List ℕ
text_word (text.NotAscii place) = codes "byte"
text_word (text.BadToken place) = codes "token"
text_word (text.Expected place kind) = codes "expected"
text_word (text.Unknown place name) = codes "unknown"
text_word (text.Repeated place name) = codes "repeated"
text_word (text.TooDeep place) = codes "deep"
text_word text.NoMemory = codes "memory"

abbrev pub expand_word : ExpandRefusal → List ℕ
expand_word (expansion.TooLarge part.Flows count) = codes "flows"
expand_word (expansion.TooLarge part.Goal count) = codes "size"
expand_word (expansion.TooLarge part.Rules count) = codes "rules"
expand_word (expansion.Recursive chain) = codes "recursive"
expand_word (expansion.Twice found) = codes "twice"
expand_word expansion.NoMemory = codes "memory"

abbrev pub refusal_word : Refused → List ℕ
refusal_word (Text refusal) = text_word refusal
refusal_word (Query refusal) = text_word refusal
refusal_word (Policy (policy.NotAscii place)) = codes "byte"
refusal_word (Policy (policy.BadToken place)) = codes "token"
refusal_word (Policy (policy.Expected place)) = codes "expected"
refusal_word (Policy (policy.Unknown place)) = codes "unknown"
refusal_word (Record (record_refusal.BadLine line)) = codes "line"
refusal_word (Record (record_refusal.Label line)) = codes "label"
refusal_word (NoRule index) = codes "constraint"
refusal_word (Expand refusal) = expand_word refusal
refusal_word (Compile (compilation.TooManyChoices count)) = codes "choices"
refusal_word (Compile (compilation.TooManyWays count)) = codes "options"
refusal_word (Compile (compilation.TooBulky count)) = codes "bulk"
refusal_word other = codes "too_long"

-- the word of a hint
abbrev pub hint_word : Hint → List ℕ
hint_word hint.ByteOrderMark = codes "byte_order_mark"
hint_word hint.Utf16 = codes "utf16"
hint_word hint.OnlyAscii = codes "only_ascii"
hint_word hint.DividerAlone = codes "divider_alone"
hint_word hint.NameBytes = codes "name_bytes"
hint_word hint.Arrow = codes "arrow"
hint_word hint.Quotes = codes "quotes"
hint_word hint.Comment = codes "comment"
hint_word hint.Ampersand = codes "ampersand"
hint_word hint.Brackets = codes "brackets"
hint_word hint.GreatNumber = codes "great_number"
hint_word hint.ReservedWord = codes "reserved"
hint_word hint.DividerMissing = codes "divider_missing"
hint_word hint.Spelling = codes "spelling"
hint_word hint.NoGoal = codes "no_goal"
hint_word hint.SecondGoal = codes "second_goal"
hint_word hint.GoalFirst = codes "goal_first"
hint_word hint.DeclarationsFirst = codes "declarations_first"
hint_word hint.Comma = codes "comma"
hint_word hint.MarkOnce = codes "mark_once"
hint_word hint.RuleWords = codes "rule_words"
hint_word hint.SemicolonMissing = codes "semicolon_missing"
hint_word hint.Joined = codes "joined"
hint_word hint.QueryWords = codes "query_words"
hint_word hint.OneQuery = codes "one_query"

-- what is wanted, as flow's own line has it
abbrev pub kind_member : TextRefusal → List ℕ
kind_member (text.Expected place kind) = text_member (codes "kind") (kind_text kind)
kind_member other = []

-- what is met; nothing at the end of a text
abbrev pub met_member : Met → List ℕ
met_member met.End = []
met_member (met.Reserved word) = text_member (codes "met") word.now
met_member (met.Name word) = text_member (codes "met") word.now
met_member (met.Number digits) = text_member (codes "met") digits.now
met_member (met.Mark byte) = text_member (codes "met") (byte ∷ [])
met_member (met.Byte byte) = text_member (codes "met") (byte ∷ [])

abbrev pub hint_member : Option Hint → List ℕ
hint_member None = []
hint_member (Some hint) = text_member (codes "hint") (hint_word hint)

-- where a text is refused that stands so many lines behind others, what is met there, and what may help
abbrev pub fault_members : Fault → ℕ → TextRefusal → List ℕ
fault_members fault before refusal =
    kind_member refusal ++ number_member (codes "line") (min (fault.spot.line + before) (2 ^ 64 - 1))
    ++ number_member (codes "column") fault.spot.column ++ met_member fault.met ++ hint_member fault.hint

-- how the object of a refusal of that word begins
abbrev pub refusal_start : List ℕ → List ℕ
refusal_start word = codes "{\"verdict\":\"refused\"" ++ text_member (codes "refusal") word
