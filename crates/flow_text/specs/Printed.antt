-- What a workflow says, as text.
use Rattle.std.specs.Prelude.{ℕ, Bool, true, false, List, [], ◌∷◌, ◌++◌, codes}
use Rattle.std.specs.Fmt.{decimal}
use Rattle.flow_model.specs.declared.labels.Note.{Note}
use Rattle.flow_model.specs.declared.labels.Note.TheVariants.{Done, Fail, FailFirst}
use Rattle.flow_facts.specs.Text.{fact_text}
use Rattle.flow_form.specs.Form.{Shape, Shapes, nop, named, test, absent, ins, del, iso, serial, beside, either, no_more, followed}
use Rattle.flow_form.specs.RuleForm.{RuleShape, RuleShapes, must, never, order, precedes, needs, negated, all, any}
use Rattle.flow_form.specs.RuleForm as rule
use Rattle.flow_form.specs.Script.{Declared, fact, event, flow, Said}
use Rattle.flow_grammar.specs.Print.{in_serial, in_beside, in_either, in_all, in_any}

-- in parentheses, where that is so
abbrev pub bracketed : Bool → List ℕ → List ℕ
bracketed true text = codes "(" ++ text ++ codes ")"
bracketed false text = text

-- a list has its mark between each two members, and those members in parentheses that must stand so
abbrev mutual
  pub goal_text : Shape → List ℕ
  goal_text nop = codes "nop"
  goal_text (named n) = n
  goal_text (test a) = codes "?" ++ fact_text a
  goal_text (absent a) = codes "!" ++ fact_text a
  goal_text (ins a) = codes "ins " ++ fact_text a
  goal_text (del a) = codes "del " ++ fact_text a
  goal_text (iso s) = codes "iso(" ++ goal_text s ++ codes ")"
  goal_text (serial ss) = list_text (codes " * ") in_serial ss
  goal_text (beside ss) = list_text (codes " | ") in_beside ss
  goal_text (either ss) = list_text (codes " + ") in_either ss

  pub list_text : List ℕ → (Shape → Bool) → Shapes → List ℕ
  list_text mark parted no_more = []
  list_text mark parted (followed s ss) = bracketed (parted s) (goal_text s) ++ more_text mark parted ss

  pub more_text : List ℕ → (Shape → Bool) → Shapes → List ℕ
  more_text mark parted no_more = []
  more_text mark parted (followed s ss) = mark ++ bracketed (parted s) (goal_text s) ++ more_text mark parted ss

-- each of them after a blank
abbrev pub names_text : List (List ℕ) → List ℕ
names_text [] = []
names_text (n ∷ ns) = codes " " ++ n ++ names_text ns

abbrev mutual
  pub rule_text : RuleShape → List ℕ
  rule_text (must n) = codes "must " ++ n
  rule_text (never n) = codes "never " ++ n
  rule_text (order ns) = codes "order" ++ names_text ns
  rule_text (precedes a b) = codes "precedes " ++ a ++ codes " " ++ b
  rule_text (needs a b) = codes "needs " ++ a ++ codes " " ++ b
  rule_text (negated x) = codes "not " ++ bracketed (in_all x) (rule_text x)
  rule_text (all xs) = rules_text (codes " and ") in_all xs
  rule_text (any xs) = rules_text (codes " or ") in_any xs

  pub rules_text : List ℕ → (RuleShape → Bool) → RuleShapes → List ℕ
  rules_text word parted rule.no_more = []
  rules_text word parted (rule.followed x xs) = bracketed (parted x) (rule_text x) ++ more_rules word parted xs

  pub more_rules : List ℕ → (RuleShape → Bool) → RuleShapes → List ℕ
  more_rules word parted rule.no_more = []
  more_rules word parted (rule.followed x xs) = word ++ bracketed (parted x) (rule_text x) ++ more_rules word parted xs

abbrev pub note_text : Note → List ℕ
note_text Done = []
note_text Fail = codes " fail"
note_text (FailFirst n) = codes " fail " ++ decimal n

-- a line each

abbrev pub declaration_line : Declared → List ℕ
declaration_line (fact a) = codes "fact " ++ fact_text a ++ codes ";\n"
declaration_line (event n note) = codes "event " ++ n ++ note_text note ++ codes ";\n"
declaration_line (flow n s) = codes "flow " ++ n ++ codes " = " ++ goal_text s ++ codes ";\n"

abbrev pub declaration_lines : List Declared → List ℕ
declaration_lines [] = []
declaration_lines (d ∷ ds) = declaration_line d ++ declaration_lines ds

abbrev pub goal_line : Shape → List ℕ
goal_line s = codes "goal " ++ goal_text s ++ codes ";\n"

unfoldable pub constraint_line : RuleShape → List ℕ
constraint_line x = codes "constraint " ++ rule_text x ++ codes ";\n"

abbrev pub constraint_lines : List RuleShape → List ℕ
constraint_lines [] = []
constraint_lines (x ∷ xs) = constraint_line x ++ constraint_lines xs

-- the declarations, the goal, the constraints
abbrev pub printed : Said → List ℕ
printed s = declaration_lines s.decls ++ goal_line s.goal ++ constraint_lines s.rules
