-- What is printed is cut into the tokens that the grammar prints.
use Rattle.std.proofs.Common.{◌≡◌, ℕ, zero, Bool, true, false, List, [], ◌∷◌, ◌++◌, map, refl, sym, ap, ◌∙◌, codes}
use Rattle.std.specs.Prelude.{None}
use Rattle.std.specs.List.{list_all}
use Rattle.std.proofs.lemmas.List.{append-nil}
use Rattle.flow_model.specs.Lists.{Each}
use Rattle.flow_model.specs.declared.labels.Note.{Note}
use Rattle.flow_model.specs.declared.labels.Note.TheVariants.{Done, Fail, FailFirst}
use Rattle.flow_facts.specs.declared.constant.Const.{Const}
use Rattle.flow_facts.specs.declared.constant.Const.TheVariants.{Word, Number}
use Rattle.flow_facts.specs.Atom.{Atom}
use Rattle.flow_form.specs.Form.{Shape, Shapes, nop, named, test, absent, ins, del, iso, serial, beside, either, no_more, followed}
use Rattle.flow_form.specs.RuleForm.{RuleShape, RuleShapes, must, never, order, precedes, needs, negated, all, any}
use Rattle.flow_form.specs.RuleForm as rule
use Rattle.flow_form.specs.Script.{Declared, fact, event, flow, Said}
use Rattle.flow_lex.specs.declared.token.Token.{Token}
use Rattle.flow_lex.specs.Bytes.{is_letter, is_in_word}
use Rattle.flow_lex.specs.Tokens.{Lexed, lexed, lexed_after}
use Rattle.flow_grammar.specs.Symbol.{Symbol, constant_symbol, goal_word, constraint_word, and_word, or_word, star, bar, plus, semicolon}
use Rattle.flow_grammar.specs.Print.{bracket, print_constants, print_arguments, print_fact, in_serial, in_beside, in_either, in_all, in_any, print_goal, print_list, print_rest, print_names, print_rule, print_rules, print_more_rules, print_note, print_declared, print_declarations, print_constraints, print_script}
use Rattle.flow_reader.specs.Symbols.{word_symbol, mark_symbol, symbol_of, symbols_of}
use Rattle.flow_facts.specs.Text.{constant_text, more_constants, arguments_text, fact_text}
use Rattle.flow_text.specs.Printed.{bracketed, goal_text, list_text, more_text, names_text, rule_text, rules_text, more_rules, note_text, declaration_line, declaration_lines, goal_line, constraint_line, constraint_lines, printed}
use Rattle.flow_text.specs.Printable.{IsName, IsPrintableConstant, IsPrintableFact, IsPrintableGoal, ArePrintableGoals, IsPrintableRule, ArePrintableRules, IsPrintableNote, IsPrintableDeclaration, IsPrintable}
use Rattle.flow_text.specs.Laws.{PrintsAreAscii, PrintsAreCut, PrintsAreSymbols}
use Rattle.flow_text.proofs.PrintedPieces.{Reads, Follows, then, ended_by, closed, opened, nothing, word, name, number, blank, IsMark, mark}

-- a word and a blank
word_blank : (b : ℕ) (bs : List ℕ) → is_letter b ≡ true → list_all is_in_word bs ≡ true → Reads false ((b ∷ bs) ++ codes " ") (λ r. word_symbol (b ∷ bs) ∷ r)
word_blank b bs first inside = ended_by (word b bs first inside) (blank 32 refl) refl

-- a mark between blanks
joint : (b : ℕ) → IsMark b → Reads false (32 ∷ b ∷ 32 ∷ []) (λ r. mark_symbol b ∷ r)
joint b h = then (blank 32 refl) (then (mark b h) (blank 32 refl))

line_end : Reads false (codes ";\n") (λ r. semicolon ∷ r)
line_end = then (mark 59 (refl, λ bs. refl)) (blank 10 refl)

bracket_read : (t : Bool) {x : List ℕ} {f : List Symbol → List Symbol} → Reads true x f → Reads true (bracketed t x) (bracket t f)
bracket_read true a = opened (ended_by (then (mark 40 (refl, λ bs. refl)) a) (mark 41 (refl, λ bs. refl)) refl)
bracket_read false a = a

constant_read : (c : Const) → IsPrintableConstant c → Reads true (constant_text c) (λ r. constant_symbol c ∷ r)
constant_read (Word n) h = name n h
constant_read (Number n) h = number n h

constants_read : (cs : List Const) → Each IsPrintableConstant cs → Follows true (more_constants cs) (print_constants cs)
constants_read [] h = (nothing true, tt)
constants_read (c ∷ cs) (h, hs) = (closed (then (mark 44 (refl, λ bs. refl)) (constant_read c h)) (constants_read cs hs), refl)

arguments_read : (cs : List Const) → Each IsPrintableConstant cs → Follows true (arguments_text cs) (print_arguments cs)
arguments_read [] h = (nothing true, tt)
arguments_read (c ∷ cs) (h, hs) =
    (opened (ended_by (closed (then (mark 40 (refl, λ bs. refl)) (constant_read c h)) (constants_read cs hs)) (mark 41 (refl, λ bs. refl)) refl), refl)

fact_read : (a : Atom) → IsPrintableFact a → Reads true (fact_text a) (print_fact a)
fact_read a (h, hs) = closed (name a.relation h) (arguments_read a.args hs)

mutual
  goal_read : (s : Shape) → IsPrintableGoal s → Reads true (goal_text s) (print_goal s)
  goal_read nop h = word 110 (codes "op") refl refl
  goal_read (named n) h = name n h
  goal_read (test a) h = then (mark 63 (refl, λ bs. refl)) (fact_read a h)
  goal_read (absent a) h = then (mark 33 (refl, λ bs. refl)) (fact_read a h)
  goal_read (ins a) h = then (word_blank 105 (codes "ns") refl refl) (fact_read a h)
  goal_read (del a) h = then (word_blank 100 (codes "el") refl refl) (fact_read a h)
  goal_read (iso s) h = opened (ended_by (then (ended_by (word 105 (codes "so") refl refl) (mark 40 (refl, λ bs. refl)) refl) (goal_read s h)) (mark 41 (refl, λ bs. refl)) refl)
  goal_read (serial ss) h = list_read (42 ∷ 32 ∷ []) star (joint 42 (refl, λ bs. refl)) in_serial ss h
  goal_read (beside ss) h = list_read (124 ∷ 32 ∷ []) bar (joint 124 (refl, λ bs. refl)) in_beside ss h
  goal_read (either ss) h = list_read (43 ∷ 32 ∷ []) plus (joint 43 (refl, λ bs. refl)) in_either ss h

  list_read : (m : List ℕ) (join : Symbol) → Reads false (32 ∷ m) (λ r. join ∷ r) → (parted : Shape → Bool) (ss : Shapes) → ArePrintableGoals ss →
      Reads true (list_text (32 ∷ m) parted ss) (print_list join parted ss)
  list_read m join between parted no_more h = nothing true
  list_read m join between parted (followed s ss) (h, hs) =
      closed (bracket_read (parted s) (goal_read s h)) (more_read m join between parted ss hs)

  more_read : (m : List ℕ) (join : Symbol) → Reads false (32 ∷ m) (λ r. join ∷ r) → (parted : Shape → Bool) (ss : Shapes) → ArePrintableGoals ss →
      Follows true (more_text (32 ∷ m) parted ss) (print_rest join parted ss)
  more_read m join between parted no_more h = (nothing true, tt)
  more_read m join between parted (followed s ss) (h, hs) =
      (closed (then between (bracket_read (parted s) (goal_read s h))) (more_read m join between parted ss hs), refl)

names_read : (ns : List (List ℕ)) → Each IsName ns → Follows true (names_text ns) (print_names ns)
names_read [] h = (nothing true, tt)
names_read (n ∷ ns) (h, hs) = (closed (then (blank 32 refl) (name n h)) (names_read ns hs), refl)

mutual
  rule_read : (x : RuleShape) → IsPrintableRule x → Reads true (rule_text x) (print_rule x)
  rule_read (must n) h = then (word_blank 109 (codes "ust") refl refl) (name n h)
  rule_read (never n) h = then (word_blank 110 (codes "ever") refl refl) (name n h)
  rule_read (order ns) hs = closed (word 111 (codes "rder") refl refl) (names_read ns hs)
  rule_read (precedes a b) (h, k) = then (ended_by (then (word_blank 112 (codes "recedes") refl refl) (name a h)) (blank 32 refl) refl) (name b k)
  rule_read (needs a b) (h, k) = then (ended_by (then (word_blank 110 (codes "eeds") refl refl) (name a h)) (blank 32 refl) refl) (name b k)
  rule_read (negated x) h = then (word_blank 110 (codes "ot") refl refl) (bracket_read (in_all x) (rule_read x h))
  rule_read (all xs) hs = rules_read (codes "and ") and_word (then (blank 32 refl) (word_blank 97 (codes "nd") refl refl)) in_all xs hs
  rule_read (any xs) hs = rules_read (codes "or ") or_word (then (blank 32 refl) (word_blank 111 (codes "r") refl refl)) in_any xs hs

  rules_read : (m : List ℕ) (join : Symbol) → Reads false (32 ∷ m) (λ r. join ∷ r) → (parted : RuleShape → Bool) (xs : RuleShapes) → ArePrintableRules xs →
      Reads true (rules_text (32 ∷ m) parted xs) (print_rules join parted xs)
  rules_read m join between parted rule.no_more h = nothing true
  rules_read m join between parted (rule.followed x xs) (h, hs) =
      closed (bracket_read (parted x) (rule_read x h)) (more_rules_read m join between parted xs hs)

  more_rules_read : (m : List ℕ) (join : Symbol) → Reads false (32 ∷ m) (λ r. join ∷ r) → (parted : RuleShape → Bool) (xs : RuleShapes) → ArePrintableRules xs →
      Follows true (more_rules (32 ∷ m) parted xs) (print_more_rules join parted xs)
  more_rules_read m join between parted rule.no_more h = (nothing true, tt)
  more_rules_read m join between parted (rule.followed x xs) (h, hs) =
      (closed (then between (bracket_read (parted x) (rule_read x h))) (more_rules_read m join between parted xs hs), refl)

note_read : (note : Note) → IsPrintableNote note → Follows true (note_text note) (print_note note)
note_read Done h = (nothing true, tt)
note_read Fail h = (then (blank 32 refl) (word 102 (codes "ail") refl refl), refl)
note_read (FailFirst n) h = (then (then (blank 32 refl) (word_blank 102 (codes "ail") refl refl)) (number n h), refl)

declaration_read : (d : Declared) → IsPrintableDeclaration d → Reads false (declaration_line d) (print_declared d)
declaration_read (fact a) h = ended_by (then (word_blank 102 (codes "act") refl refl) (fact_read a h)) line_end refl
declaration_read (event n note) (h, k) =
    ended_by (closed (then (word_blank 101 (codes "vent") refl refl) (name n h)) (note_read note k)) line_end refl
declaration_read (flow n s) (h, k) =
    ended_by (then (ended_by (then (word_blank 102 (codes "low") refl refl) (name n h)) (joint 61 (refl, λ bs. refl)) refl) (goal_read s k)) line_end refl

declarations_read : (ds : List Declared) → Each IsPrintableDeclaration ds → Reads false (declaration_lines ds) (print_declarations ds)
declarations_read [] h = nothing false
declarations_read (d ∷ ds) (h, hs) = then (declaration_read d h) (declarations_read ds hs)

goal_line_read : (s : Shape) → IsPrintableGoal s → Reads false (goal_line s) (λ r. goal_word ∷ print_goal s (semicolon ∷ r))
goal_line_read s h = ended_by (then (word_blank 103 (codes "oal") refl refl) (goal_read s h)) line_end refl

-- the constraints, and then the rest
abbrev constraints_then : List RuleShape → List Symbol → List Symbol
constraints_then [] r = r
constraints_then (x ∷ xs) r = constraint_word ∷ print_rule x (semicolon ∷ constraints_then xs r)

constraints_end : (xs : List RuleShape) → constraints_then xs [] ≡ print_constraints xs
constraints_end [] = refl
constraints_end (x ∷ xs) = ap (λ r. constraint_word ∷ print_rule x (semicolon ∷ r)) (constraints_end xs)

constraints_read : (xs : List RuleShape) → Each IsPrintableRule xs → Reads false (constraint_lines xs) (constraints_then xs)
unfolding constraint_line
constraints_read [] h = nothing false
constraints_read (x ∷ xs) (h, hs) =
    then (ended_by (then (word_blank 99 (codes "onstraint") refl refl) (rule_read x h)) line_end refl) (constraints_read xs hs)

script_read : (s : Said) → IsPrintable s →
    Reads false (printed s) (λ r. print_declarations s.decls (goal_word ∷ print_goal s.goal (semicolon ∷ constraints_then s.rules r)))
script_read s h = then (then (declarations_read s.decls h.decls) (goal_line_read s.goal h.goal)) (constraints_read s.rules h.rules)

whole : (s : Said) → IsPrintable s → (ts : List Token) × ((lexed (printed s) ≡ record { tokens = ts; bad = None }) × (map (symbol_of (printed s)) ts ≡ print_script s))
whole s h =
    let text : List ℕ = printed s in
    let there : text ++ [] ≡ text = append-nil text in
    let c = (script_read s h).cut text [] [] (sym there) tt in
    let ended : c.0 ++ [] ≡ c.0 = append-nil c.0 in (
      c.0,
      (
        ap (λ t. lexed_after 0 zero t) (sym there) ∙ c.1.0 ∙ ap (λ (ts : List Token). record { tokens = ts; bad = None }) ended,
        sym (append-nil (map (symbol_of text) c.0)) ∙ c.1.1 []
            ∙ ap (λ r. print_declarations s.decls (goal_word ∷ print_goal s.goal (semicolon ∷ r))) (constraints_end s.rules),
      ),
    )

pub prints_ascii : PrintsAreAscii
prints_ascii s h = (script_read s h).ascii

pub prints_cut : PrintsAreCut
prints_cut s h = ap (λ (l : Lexed). l.bad) (whole s h).1.0

pub prints_symbols : PrintsAreSymbols
prints_symbols s h =
    let w = whole s h in
    ap (λ (l : Lexed). symbols_of (printed s) l.tokens) w.1.0 ∙ w.1.1
