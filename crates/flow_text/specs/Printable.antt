-- What can be printed: its names are names, and its numbers have 32 bits.
use Rattle.std.specs.Prelude.{◌≡◌, ℕ, ◌<◌, ◌^◌, true, List, [], ◌∷◌, None}
use Rattle.std.specs.List.{list_all}
use Rattle.flow_model.specs.Lists.{Each}
use Rattle.flow_model.specs.declared.labels.Note.{Note}
use Rattle.flow_model.specs.declared.labels.Note.TheVariants.{Done, Fail, FailFirst}
use Rattle.flow_facts.specs.declared.constant.Const.{Const}
use Rattle.flow_facts.specs.declared.constant.Const.TheVariants.{Word, Number}
use Rattle.flow_facts.specs.Atom.{Atom}
use Rattle.flow_form.specs.Form.{Shape, Shapes, nop, named, test, absent, ins, del, iso, serial, beside, either, no_more, followed}
use Rattle.flow_form.specs.RuleForm.{RuleShape, RuleShapes, must, never, order, precedes, needs, negated, all, any}
use Rattle.flow_form.specs.RuleForm as rule
use Rattle.flow_form.specs.Script.{Declared, fact, event, flow, Said}
use Rattle.flow_lex.specs.Bytes.{is_letter, is_in_word}
use Rattle.flow_reader.specs.Symbols.{reserved}

-- a letter, then letters, digits and low lines; and not reserved
abbrev pub IsName : List ℕ → Type 0
IsName [] = ⊥
IsName (b ∷ bs) = (is_letter b ≡ true) × (list_all is_in_word bs ≡ true) × (reserved (b ∷ bs) ≡ None)

abbrev pub IsPrintableConstant : Const → Type 0
IsPrintableConstant (Word name) = IsName name
IsPrintableConstant (Number n) = n < 2 ^ 32

abbrev pub IsPrintableFact : Atom → Type 0
IsPrintableFact a = IsName a.relation × Each IsPrintableConstant a.args

abbrev mutual
  pub IsPrintableGoal : Shape → Type 0
  IsPrintableGoal nop = Unit {0}
  IsPrintableGoal (named n) = IsName n
  IsPrintableGoal (test a) = IsPrintableFact a
  IsPrintableGoal (absent a) = IsPrintableFact a
  IsPrintableGoal (ins a) = IsPrintableFact a
  IsPrintableGoal (del a) = IsPrintableFact a
  IsPrintableGoal (iso s) = IsPrintableGoal s
  IsPrintableGoal (serial ss) = ArePrintableGoals ss
  IsPrintableGoal (beside ss) = ArePrintableGoals ss
  IsPrintableGoal (either ss) = ArePrintableGoals ss

  pub ArePrintableGoals : Shapes → Type 0
  ArePrintableGoals no_more = Unit {0}
  ArePrintableGoals (followed s ss) = IsPrintableGoal s × ArePrintableGoals ss

abbrev mutual
  pub IsPrintableRule : RuleShape → Type 0
  IsPrintableRule (must n) = IsName n
  IsPrintableRule (never n) = IsName n
  IsPrintableRule (order ns) = Each IsName ns
  IsPrintableRule (precedes a b) = IsName a × IsName b
  IsPrintableRule (needs a b) = IsName a × IsName b
  IsPrintableRule (negated x) = IsPrintableRule x
  IsPrintableRule (all xs) = ArePrintableRules xs
  IsPrintableRule (any xs) = ArePrintableRules xs

  pub ArePrintableRules : RuleShapes → Type 0
  ArePrintableRules rule.no_more = Unit {0}
  ArePrintableRules (rule.followed x xs) = IsPrintableRule x × ArePrintableRules xs

abbrev pub IsPrintableNote : Note → Type 0
IsPrintableNote Done = Unit {0}
IsPrintableNote Fail = Unit {0}
IsPrintableNote (FailFirst n) = n < 2 ^ 32

abbrev pub IsPrintableDeclaration : Declared → Type 0
IsPrintableDeclaration (fact a) = IsPrintableFact a
IsPrintableDeclaration (event n note) = IsName n × IsPrintableNote note
IsPrintableDeclaration (flow n s) = IsName n × IsPrintableGoal s

pub record IsPrintable (s : Said) : Type 0 where
  pub decls : Each IsPrintableDeclaration s.decls
  pub goal : IsPrintableGoal s.goal
  pub rules : Each IsPrintableRule s.rules
