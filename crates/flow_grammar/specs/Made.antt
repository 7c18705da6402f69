-- What a text says is well made.
use Rattle.std.specs.Prelude.{◌<◌, List, length}
use Rattle.flow_model.specs.Lists.{Each}
use Rattle.flow_form.specs.Form.{IsGrouped}
use Rattle.flow_form.specs.RuleForm.{IsGroupedRule}
use Rattle.flow_form.specs.Script.{Said, Asked, holds, redundant}
use Rattle.flow_form.specs.Names.{goals_of}
use Rattle.flow_grammar.specs.Symbol.{Placed}
use Rattle.flow_grammar.specs.Texts.{SpellsScript, SpellsQuery}

-- each list in its goals and constraints has two or more members
abbrev pub IsWellMade : Said → Type 0
IsWellMade s = Each IsGrouped (goals_of s) × Each IsGroupedRule s.rules

abbrev pub IsWellAsked : Asked → Type 0
IsWellAsked (holds r) = IsGroupedRule r
IsWellAsked (redundant n) = Unit {0}

-- and there are fewer declarations than symbols
abbrev pub ScriptsAreWellMade : Type 0
ScriptsAreWellMade = (w : List Placed) (x : Said) → SpellsScript w x → IsWellMade x × (length x.decls < length w)

abbrev pub QueriesAreWellMade : Type 0
QueriesAreWellMade = (w : List Placed) (x : Asked) → SpellsQuery w x → IsWellAsked x
