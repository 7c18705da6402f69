-- How a value is printed, with as few parentheses as may be.
use Rattle.std.specs.Prelude.{ℕ, suc, ◌≤◌, max, Bool, true, false, List, [], ◌∷◌}
use Rattle.flow_model.specs.Lists.{Each}
use Rattle.flow_model.specs.declared.labels.Note.{Note}
use Rattle.flow_model.specs.declared.labels.Note.TheVariants.{Done, Fail, FailFirst}
use Rattle.flow_facts.specs.declared.constant.Const.{Const}
use Rattle.flow_facts.specs.Atom.{Atom}
use Rattle.flow_form.specs.Form.{Shape, Shapes, nop, named, test, absent, ins, del, iso, serial, beside, either, no_more, followed}
use Rattle.flow_form.specs.RuleForm.{RuleShape, RuleShapes, must, never, order, precedes, needs, negated, all, any}
use Rattle.flow_form.specs.RuleForm as rule
use Rattle.flow_form.specs.Script.{Declared, fact, event, flow, Said}
use Rattle.flow_form.specs.Names.{goals_of}
use Rattle.flow_grammar.specs.Symbol.{Symbol, constant_symbol, fact_word, event_word, flow_word, goal_word, constraint_word, nop_word, iso_word, ins_word, del_word, must_word, never_word, order_word, precedes_word, needs_word, not_word, and_word, or_word, fail_word, a_name, a_number, star, bar, plus, opening, closing, comma, semicolon, equals, question, exclamation}
use Rattle.flow_model.specs.declared.limits.TheConstants.{GREATEST_DEPTH}

-- what follows is the last argument, as in spelling

abbrev pub bracket : Bool → (List Symbol → List Symbol) → List Symbol → List Symbol
bracket true print r = opening ∷ print (closing ∷ r)
bracket false print r = print r

abbrev pub print_constants : List Const → List Symbol → List Symbol
print_constants [] r = r
print_constants (c ∷ cs) r = comma ∷ constant_symbol c ∷ print_constants cs r

abbrev pub print_arguments : List Const → List Symbol → List Symbol
print_arguments [] r = r
print_arguments (c ∷ cs) r = opening ∷ constant_symbol c ∷ print_constants cs (closing ∷ r)

abbrev pub print_fact : Atom → List Symbol → List Symbol
print_fact a r = a_name a.relation ∷ print_arguments a.args r

-- which members stand in parentheses

abbrev pub in_serial : Shape → Bool
in_serial (serial ss) = true
in_serial (beside ss) = true
in_serial (either ss) = true
in_serial _ = false

abbrev pub in_beside : Shape → Bool
in_beside (beside ss) = true
in_beside (either ss) = true
in_beside _ = false

abbrev pub in_either : Shape → Bool
in_either (either ss) = true
in_either _ = false

-- in an `and` list, and after `not`
abbrev pub in_all : RuleShape → Bool
in_all (all rs) = true
in_all (any rs) = true
in_all _ = false

abbrev pub in_any : RuleShape → Bool
in_any (any rs) = true
in_any _ = false

abbrev mutual
  pub print_goal : Shape → List Symbol → List Symbol
  print_goal nop r = nop_word ∷ r
  print_goal (named n) r = a_name n ∷ r
  print_goal (test a) r = question ∷ print_fact a r
  print_goal (absent a) r = exclamation ∷ print_fact a r
  print_goal (ins a) r = ins_word ∷ print_fact a r
  print_goal (del a) r = del_word ∷ print_fact a r
  print_goal (iso s) r = iso_word ∷ opening ∷ print_goal s (closing ∷ r)
  print_goal (serial ss) r = print_list star in_serial ss r
  print_goal (beside ss) r = print_list bar in_beside ss r
  print_goal (either ss) r = print_list plus in_either ss r

  pub print_list : Symbol → (Shape → Bool) → Shapes → List Symbol → List Symbol
  print_list join parted no_more r = r
  print_list join parted (followed s ss) r = bracket (parted s) (λ q. print_goal s q) (print_rest join parted ss r)

  pub print_rest : Symbol → (Shape → Bool) → Shapes → List Symbol → List Symbol
  print_rest join parted no_more r = r
  print_rest join parted (followed s ss) r = join ∷ bracket (parted s) (λ q. print_goal s q) (print_rest join parted ss r)

abbrev pub print_names : List (List ℕ) → List Symbol → List Symbol
print_names [] r = r
print_names (n ∷ ns) r = a_name n ∷ print_names ns r

abbrev mutual
  pub print_rule : RuleShape → List Symbol → List Symbol
  print_rule (must n) r = must_word ∷ a_name n ∷ r
  print_rule (never n) r = never_word ∷ a_name n ∷ r
  print_rule (order ns) r = order_word ∷ print_names ns r
  print_rule (precedes a b) r = precedes_word ∷ a_name a ∷ a_name b ∷ r
  print_rule (needs a b) r = needs_word ∷ a_name a ∷ a_name b ∷ r
  print_rule (negated x) r = not_word ∷ bracket (in_all x) (λ q. print_rule x q) r
  print_rule (all xs) r = print_rules and_word in_all xs r
  print_rule (any xs) r = print_rules or_word in_any xs r

  pub print_rules : Symbol → (RuleShape → Bool) → RuleShapes → List Symbol → List Symbol
  print_rules join parted rule.no_more r = r
  print_rules join parted (rule.followed x xs) r = bracket (parted x) (λ q. print_rule x q) (print_more_rules join parted xs r)

  pub print_more_rules : Symbol → (RuleShape → Bool) → RuleShapes → List Symbol → List Symbol
  print_more_rules join parted rule.no_more r = r
  print_more_rules join parted (rule.followed x xs) r = join ∷ bracket (parted x) (λ q. print_rule x q) (print_more_rules join parted xs r)

abbrev pub print_note : Note → List Symbol → List Symbol
print_note Done r = r
print_note Fail r = fail_word ∷ r
print_note (FailFirst n) r = fail_word ∷ a_number n ∷ r

abbrev pub print_declared : Declared → List Symbol → List Symbol
print_declared (fact a) r = fact_word ∷ print_fact a (semicolon ∷ r)
print_declared (event n note) r = event_word ∷ a_name n ∷ print_note note (semicolon ∷ r)
print_declared (flow n s) r = flow_word ∷ a_name n ∷ equals ∷ print_goal s (semicolon ∷ r)

abbrev pub print_declarations : List Declared → List Symbol → List Symbol
print_declarations [] r = r
print_declarations (d ∷ ds) r = print_declared d (print_declarations ds r)

abbrev pub print_constraints : List RuleShape → List Symbol
print_constraints [] = []
print_constraints (x ∷ xs) = constraint_word ∷ print_rule x (semicolon ∷ print_constraints xs)

abbrev pub print_script : Said → List Symbol
print_script s = print_declarations s.decls (goal_word ∷ print_goal s.goal (semicolon ∷ print_constraints s.rules))

-- How deep the print is: so many parentheses and nots stand inside one another

abbrev pub nest : Bool → ℕ → ℕ
nest true n = suc n
nest false n = n

abbrev pub arguments_nesting : List Const → ℕ
arguments_nesting [] = 0
arguments_nesting (c ∷ cs) = 1

abbrev mutual
  pub nesting : Shape → ℕ
  nesting (test a) = arguments_nesting a.args
  nesting (absent a) = arguments_nesting a.args
  nesting (ins a) = arguments_nesting a.args
  nesting (del a) = arguments_nesting a.args
  nesting (iso s) = suc (nesting s)
  nesting (serial ss) = nesting_list in_serial ss
  nesting (beside ss) = nesting_list in_beside ss
  nesting (either ss) = nesting_list in_either ss
  nesting _ = 0

  pub nesting_list : (Shape → Bool) → Shapes → ℕ
  nesting_list parted no_more = 0
  nesting_list parted (followed s ss) = max (nest (parted s) (nesting s)) (nesting_list parted ss)

abbrev mutual
  pub rule_nesting : RuleShape → ℕ
  rule_nesting (negated x) = suc (nest (in_all x) (rule_nesting x))
  rule_nesting (all xs) = rules_nesting in_all xs
  rule_nesting (any xs) = rules_nesting in_any xs
  rule_nesting _ = 0

  pub rules_nesting : (RuleShape → Bool) → RuleShapes → ℕ
  rules_nesting parted rule.no_more = 0
  rules_nesting parted (rule.followed x xs) = max (nest (parted x) (rule_nesting x)) (rules_nesting parted xs)

-- no goal and no constraint is printed too deep
abbrev pub IsWithin : Said → Type 0
IsWithin s = Each (λ g. nesting g ≤ GREATEST_DEPTH) (goals_of s) × Each (λ x. rule_nesting x ≤ GREATEST_DEPTH) s.rules
