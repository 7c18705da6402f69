-- A goal and a rule have a derivation that spells their print, no deeper than the print.
use Rattle.std.proofs.Common.{rules as std_rules, ◌≡◌, ◌↔◌, ℕ, suc, ◌+◌, ◌≤◌, max, Bool, true, false, List, [], ◌∷◌, length, refl, ap, ◌∙◌, arith}
use Rattle.flow_facts.specs.declared.constant.Const.{Const}
use Rattle.flow_facts.specs.Atom.{Atom, atom}
use Rattle.flow_form.specs.Form.{Shape, Shapes, nop, named, test, absent, ins, del, iso, serial, beside, either, no_more, followed, shapes, members, IsGrouped, AreGrouped}
use Rattle.flow_form.specs.RuleForm.{RuleShape, RuleShapes, must, never, order, precedes, needs, negated, all, any, rule_shapes, rule_members, IsGroupedRule, AreGroupedRules}
use Rattle.flow_form.specs.RuleForm as rule
use Rattle.flow_grammar.specs.Symbol.{Symbol, Placed, at, symbols, constant_symbol, a_name, star, bar, plus, and_word, or_word, not_word, order_word, opening, closing, comma, iso_word}
use Rattle.flow_grammar.specs.Grammar.{FactText, bare, applied, spell_constants, spell_fact, mean_fact, Prefix, asking, denying, adding, taking, prefix_symbol, prefixed, must_come, never_come, preceding, needing, spell_names, Kind, goals, rules, Meaning, top, join, list, gather, Text, joined, group_text, nop_text, name_text, fact_text, iso_text, not_text, single_text, order_text, pair_text, More, no_more_text, then_text, spell, spell_more, mean, mean_more}
use Rattle.flow_model.specs.declared.limits.TheConstants.{GREATEST_DEPTH}
use Rattle.flow_grammar.specs.Texts.{IsShallow}
use Rattle.flow_grammar.specs.Print.{bracket, print_constants, print_fact, in_serial, in_beside, in_either, in_all, in_any, print_goal, print_rest, print_names, print_rule, print_more_rules, nest, arguments_nesting, nesting, nesting_list, rule_nesting, rules_nesting}

-- Facts

pub constants_spelled : (d : ℕ) (cs : List Const) (r : List Placed) →
    (symbols (spell_constants d cs r) ≡ print_constants cs (symbols r)) × (IsShallow (spell_constants d cs r) ↔ IsShallow r)
constants_spelled d [] r = (refl, (λ h. h, λ h. h))
constants_spelled d (c ∷ cs) r = let (e, flat) = constants_spelled d cs r in
    (ap (λ y. comma ∷ constant_symbol c ∷ y) e, (λ h. flat.0 h.1.1, λ h. (λ k. absurd k, (λ k. search std_rules, flat.1 h))))

-- a derivation that spells the fact's print
pub record PrintedFact (a : Atom) : Type 0 where
  pub text : FactText
  pub means : mean_fact text ≡ a
  pub prints : (d : ℕ) (r : List Placed) → symbols (spell_fact d text r) ≡ print_fact a (symbols r)
  pub shallow : (d : ℕ) (r : List Placed) → d + arguments_nesting a.args ≤ GREATEST_DEPTH → IsShallow r → IsShallow (spell_fact d text r)

with_args : (n : List ℕ) (args : List Const) → PrintedFact (atom n args)
with_args n [] = record { text = bare n; means = refl; prints = λ d r. refl; shallow = λ d r l h. (λ k. absurd k, h) }
with_args n (c ∷ cs) = record {
  text = applied n c cs;
  means = refl;
  prints = λ d r. ap (λ y. a_name n ∷ opening ∷ constant_symbol c ∷ y) (constants_spelled (suc d) cs (at (suc d) closing ∷ r)).0;
  shallow = λ d r l h.
      (λ k. absurd k, (λ k. omega arith, (λ k. search std_rules, (constants_spelled (suc d) cs (at (suc d) closing ∷ r)).1.1 (λ k. absurd k, h))));
}

pub fact_printed : (a : Atom) → PrintedFact a
fact_printed a = with_args a.relation a.args

-- A derivation at a level

-- of x, that spells `print`, whose parentheses and nots stand so deep in one another
pub record Spelled (k : Kind) (n : ℕ) (x : Meaning k) (print : List Symbol → List Symbol) (depth : ℕ) : Type 0 where
  pub text : Text k n
  pub means : mean text ≡ x
  pub prints : (d : ℕ) (r : List Placed) → symbols (spell d text r) ≡ print (symbols r)
  pub shallow : (d : ℕ) (r : List Placed) → d + depth ≤ GREATEST_DEPTH → IsShallow r → IsShallow (spell d text r)

-- the same of the members that follow one
record SpelledMore (k : Kind) (n : ℕ) (xs : List (Meaning k)) (print : List Symbol → List Symbol) (depth : ℕ) : Type 0 where
  pub more : More k n
  pub means : mean_more more ≡ xs
  pub prints : (d : ℕ) (r : List Placed) → symbols (spell_more d more r) ≡ print (symbols r)
  pub shallow : (d : ℕ) (r : List Placed) → d + depth ≤ GREATEST_DEPTH → IsShallow r → IsShallow (spell_more d more r)

-- as the only member of a level above
alone : {k : Kind} {n : ℕ} {x : Meaning k} {print : List Symbol → List Symbol} {depth : ℕ} → Spelled k n x print depth → Spelled k (suc n) x print depth
alone s = record { text = joined s.text no_more_text; means = s.means; prints = s.prints; shallow = s.shallow }

in_group : {k : Kind} {x : Meaning k} {print : List Symbol → List Symbol} {depth : ℕ} → Spelled k (top k) x print depth → Spelled k 0 x (bracket true print) (suc depth)
in_group s = record {
  text = group_text s.text;
  means = s.means;
  prints = λ d r. ap (λ y. opening ∷ y) (s.prints (suc d) (at (suc d) closing ∷ r));
  shallow = λ d r l h. (λ j. omega arith, s.shallow (suc d) (at (suc d) closing ∷ r) (omega arith) (λ j. absurd j, h));
}

nothing : {k : Kind} {n : ℕ} → SpelledMore k n [] (λ r. r) 0
nothing = record { more = no_more_text; means = refl; prints = λ d r. refl; shallow = λ d r l h. h }

module _ {k : Kind} {n : ℕ} {x : Meaning k} {xs : List (Meaning k)} {print rest : List Symbol → List Symbol} {depth depth' : ℕ} where
  another : Spelled k n x print depth → SpelledMore k n xs rest depth' → SpelledMore k n (x ∷ xs) (λ r. join k n ∷ print (rest r)) (max depth depth')
  another s ss = record {
    more = then_text s.text ss.more;
    means = rw (s.means, ss.means);
    prints = λ d r. ap (λ y. join k n ∷ y) (s.prints d (spell_more d ss.more r) ∙ ap print (ss.prints d r));
    shallow = λ d r l h. (λ j. search std_rules, s.shallow d (spell_more d ss.more r) (omega arith) (ss.shallow d r (omega arith) h));
  }

  -- a list
  several : {y : Meaning k} → gather (list k n) (x ∷ xs) ≡ y → Spelled k n x print depth → SpelledMore k n xs rest depth' → Spelled k (suc n) y (λ r. print (rest r)) (max depth depth')
  several e s ss = record {
    text = joined s.text ss.more;
    means = ap (λ z. gather (list k n) (z ∷ mean_more ss.more)) s.means ∙ (ap (λ zs. gather (list k n) (x ∷ zs)) ss.means ∙ e);
    prints = λ d r. s.prints d (spell_more d ss.more r) ∙ ap print (ss.prints d r);
    shallow = λ d r l h. s.shallow d (spell_more d ss.more r) (omega arith) (ss.shallow d r (omega arith) h);
  }

-- Goals

-- at each level, with what stands in parentheses there
pub record AtEach (s : Shape) (in_s in_b in_e : Bool) (print : List Symbol → List Symbol) (depth : ℕ) : Type 0 where
  pub as_atom : Spelled goals 0 s (bracket in_s print) (nest in_s depth)
  pub as_serial : Spelled goals 1 s (bracket in_b print) (nest in_b depth)
  pub as_beside : Spelled goals 2 s (bracket in_e print) (nest in_e depth)
  pub as_goal : Spelled goals 3 s print depth

module _ {s : Shape} {print : List Symbol → List Symbol} {depth : ℕ} where
  of_atom : Spelled goals 0 s print depth → AtEach s false false false print depth
  of_atom t = record { as_atom = t; as_serial = alone t; as_beside = alone (alone t); as_goal = alone (alone (alone t)) }

  of_serial : Spelled goals 1 s print depth → AtEach s true false false print depth
  of_serial t = record { as_atom = in_group (alone (alone t)); as_serial = t; as_beside = alone t; as_goal = alone (alone t) }

  of_beside : Spelled goals 2 s print depth → AtEach s true true false print depth
  of_beside t = let g = in_group (alone t) in record { as_atom = g; as_serial = alone g; as_beside = t; as_goal = alone t }

  of_either : Spelled goals 3 s print depth → AtEach s true true true print depth
  of_either t = let g = in_group t in record { as_atom = g; as_serial = alone g; as_beside = alone (alone g); as_goal = t }

with_prefix : (p : Prefix) (a : Atom) → Spelled goals 0 (prefixed p a) (λ r. prefix_symbol p ∷ print_fact a r) (arguments_nesting a.args)
with_prefix p a = let f = fact_printed a in record {
  text = fact_text p f.text;
  means = ap (prefixed p) f.means;
  prints = λ d r. ap (λ y. prefix_symbol p ∷ y) (f.prints d r);
  shallow = λ d r l h. (λ j. search std_rules, f.shallow d r l h);
}

isolated : {s : Shape} {print : List Symbol → List Symbol} {depth : ℕ} → Spelled goals 3 s print depth → Spelled goals 0 (iso s) (λ r. iso_word ∷ bracket true print r) (suc depth)
unfolding in_group
isolated t = let g = in_group t in record {
  text = iso_text t.text;
  means = ap iso t.means;
  prints = λ d r. ap (λ y. iso_word ∷ y) (g.prints d r);
  shallow = λ d r l h. (λ j. absurd j, g.shallow d r l h);
}

shapes-members : (ss : Shapes) → shapes (members ss) ≡ ss
shapes-members no_more = refl
shapes-members (followed s ss) = ap (followed s) (shapes-members ss)

all_shapes : (c : Shapes → Shape) (s : Shape) (ss : Shapes) → 2 ≤ length (members (followed s ss)) → gather (λ xs. c (shapes xs)) (s ∷ members ss) ≡ c (followed s ss)
all_shapes c s no_more l = absurd (omega arith)
all_shapes c s (followed s' ss) l = ap (λ y. c (followed s (followed s' y))) (shapes-members ss)

mutual
  pub goal_printed : (s : Shape) → IsGrouped s → AtEach s (in_serial s) (in_beside s) (in_either s) (print_goal s) (nesting s)
  goal_printed nop h = of_atom (record { text = nop_text; means = refl; prints = λ d r. refl; shallow = λ d r l k. (λ j. absurd j, k) })
  goal_printed (named n) h = of_atom (record { text = name_text n; means = refl; prints = λ d r. refl; shallow = λ d r l k. (λ j. absurd j, k) })
  goal_printed (test a) h = of_atom (with_prefix asking a)
  goal_printed (absent a) h = of_atom (with_prefix denying a)
  goal_printed (ins a) h = of_atom (with_prefix adding a)
  goal_printed (del a) h = of_atom (with_prefix taking a)
  goal_printed (iso s) h = of_atom (isolated (goal_printed s h).as_goal)
  goal_printed (serial no_more) (l, h) = absurd (omega arith)
  goal_printed (serial (followed s ss)) (l, (h, more)) = of_serial (several (all_shapes serial s ss l) (goal_printed s h).as_atom (atoms_printed ss more))
  goal_printed (beside no_more) (l, h) = absurd (omega arith)
  goal_printed (beside (followed s ss)) (l, (h, more)) = of_beside (several (all_shapes beside s ss l) (goal_printed s h).as_serial (serials_printed ss more))
  goal_printed (either no_more) (l, h) = absurd (omega arith)
  goal_printed (either (followed s ss)) (l, (h, more)) = of_either (several (all_shapes either s ss l) (goal_printed s h).as_beside (besides_printed ss more))

  atoms_printed : (ss : Shapes) → AreGrouped ss → SpelledMore goals 0 (members ss) (print_rest star in_serial ss) (nesting_list in_serial ss)
  atoms_printed no_more h = nothing
  atoms_printed (followed s ss) (h, more) = another (goal_printed s h).as_atom (atoms_printed ss more)

  serials_printed : (ss : Shapes) → AreGrouped ss → SpelledMore goals 1 (members ss) (print_rest bar in_beside ss) (nesting_list in_beside ss)
  serials_printed no_more h = nothing
  serials_printed (followed s ss) (h, more) = another (goal_printed s h).as_serial (serials_printed ss more)

  besides_printed : (ss : Shapes) → AreGrouped ss → SpelledMore goals 2 (members ss) (print_rest plus in_either ss) (nesting_list in_either ss)
  besides_printed no_more h = nothing
  besides_printed (followed s ss) (h, more) = another (goal_printed s h).as_beside (besides_printed ss more)

-- Rules

pub record RuleAtEach (x : RuleShape) (in_l in_y : Bool) (print : List Symbol → List Symbol) (depth : ℕ) : Type 0 where
  pub as_unit : Spelled rules 0 x (bracket in_l print) (nest in_l depth)
  pub as_conj : Spelled rules 1 x (bracket in_y print) (nest in_y depth)
  pub as_rule : Spelled rules 2 x print depth

module _ {x : RuleShape} {print : List Symbol → List Symbol} {depth : ℕ} where
  of_unit : Spelled rules 0 x print depth → RuleAtEach x false false print depth
  of_unit t = record { as_unit = t; as_conj = alone t; as_rule = alone (alone t) }

  of_conj : Spelled rules 1 x print depth → RuleAtEach x true false print depth
  of_conj t = record { as_unit = in_group (alone t); as_conj = t; as_rule = alone t }

  of_rule : Spelled rules 2 x print depth → RuleAtEach x true true print depth
  of_rule t = let g = in_group t in record { as_unit = g; as_conj = alone g; as_rule = t }

  negated_unit : Spelled rules 0 x print depth → Spelled rules 0 (negated x) (λ r. not_word ∷ print r) (suc depth)
  negated_unit t = record {
    text = not_text t.text;
    means = ap negated t.means;
    prints = λ d r. ap (λ y. not_word ∷ y) (t.prints (suc d) r);
    shallow = λ d r l h. (λ j. omega arith, t.shallow (suc d) r (omega arith) h);
  }

pub names_spelled : (d : ℕ) (ns : List (List ℕ)) (r : List Placed) →
    (symbols (spell_names d ns r) ≡ print_names ns (symbols r)) × (IsShallow (spell_names d ns r) ↔ IsShallow r)
names_spelled d [] r = (refl, (λ h. h, λ h. h))
names_spelled d (n ∷ ns) r = let (e, flat) = names_spelled d ns r in (ap (λ y. a_name n ∷ y) e, (λ h. flat.0 h.1, λ h. (λ k. absurd k, flat.1 h)))

order_unit : (ns : List (List ℕ)) → 2 ≤ length ns → Spelled rules 0 (order ns) (print_rule (order ns)) 0
order_unit [] l = absurd (omega arith)
order_unit (a ∷ []) l = absurd (omega arith)
order_unit (a ∷ b ∷ ns) l = record {
  text = order_text a b ns;
  means = refl;
  prints = λ d r. ap (λ y. order_word ∷ a_name a ∷ a_name b ∷ y) (names_spelled d ns r).0;
  shallow = λ d r l' h. (λ k. absurd k, (names_spelled d (a ∷ b ∷ ns) r).1.1 h);
}

-- a unit of a word and names
flat_unit : (x : RuleShape) (u : Text rules 0) (p : List Symbol → List Symbol) → mean u ≡ x → ((d : ℕ) (r : List Placed) → symbols (spell d u r) ≡ p (symbols r)) →
    ((d : ℕ) (r : List Placed) → IsShallow r → IsShallow (spell d u r)) → RuleAtEach x false false p 0
flat_unit x u p e prints flat = of_unit (record { text = u; means = e; prints = prints; shallow = λ d r l h. flat d r h })

rule_shapes-members : (xs : RuleShapes) → rule_shapes (rule_members xs) ≡ xs
rule_shapes-members rule.no_more = refl
rule_shapes-members (rule.followed x xs) = ap (rule.followed x) (rule_shapes-members xs)

all_rules : (c : RuleShapes → RuleShape) (x : RuleShape) (xs : RuleShapes) → 2 ≤ length (rule_members (rule.followed x xs)) →
    gather (λ ys. c (rule_shapes ys)) (x ∷ rule_members xs) ≡ c (rule.followed x xs)
all_rules c x rule.no_more l = absurd (omega arith)
all_rules c x (rule.followed y ys) l = ap (λ z. c (rule.followed x (rule.followed y z))) (rule_shapes-members ys)

mutual
  pub rule_printed : (x : RuleShape) → IsGroupedRule x → RuleAtEach x (in_all x) (in_any x) (print_rule x) (rule_nesting x)
  rule_printed (must n) h = flat_unit (must n) (single_text must_come n) (print_rule (must n)) refl (λ d r. refl) (λ d r k. (λ j. absurd j, (λ j. absurd j, k)))
  rule_printed (never n) h = flat_unit (never n) (single_text never_come n) (print_rule (never n)) refl (λ d r. refl) (λ d r k. (λ j. absurd j, (λ j. absurd j, k)))
  rule_printed (order ns) h = of_unit (order_unit ns h)
  rule_printed (precedes a b) h =
      flat_unit (precedes a b) (pair_text preceding a b) (print_rule (precedes a b)) refl (λ d r. refl) (λ d r k. (λ j. absurd j, (λ j. absurd j, (λ j. absurd j, k))))
  rule_printed (needs a b) h =
      flat_unit (needs a b) (pair_text needing a b) (print_rule (needs a b)) refl (λ d r. refl) (λ d r k. (λ j. absurd j, (λ j. absurd j, (λ j. absurd j, k))))
  rule_printed (negated x) h = of_unit (negated_unit (rule_printed x h).as_unit)
  rule_printed (all rule.no_more) (l, h) = absurd (omega arith)
  rule_printed (all (rule.followed x xs)) (l, (h, more)) = of_conj (several (all_rules all x xs l) (rule_printed x h).as_unit (units_printed xs more))
  rule_printed (any rule.no_more) (l, h) = absurd (omega arith)
  rule_printed (any (rule.followed x xs)) (l, (h, more)) = of_rule (several (all_rules any x xs l) (rule_printed x h).as_conj (conjs_printed xs more))

  units_printed : (xs : RuleShapes) → AreGroupedRules xs → SpelledMore rules 0 (rule_members xs) (print_more_rules and_word in_all xs) (rules_nesting in_all xs)
  units_printed rule.no_more h = nothing
  units_printed (rule.followed x xs) (h, more) = another (rule_printed x h).as_unit (units_printed xs more)

  conjs_printed : (xs : RuleShapes) → AreGroupedRules xs → SpelledMore rules 1 (rule_members xs) (print_more_rules or_word in_any xs) (rules_nesting in_any xs)
  conjs_printed rule.no_more h = nothing
  conjs_printed (rule.followed x xs) (h, more) = another (rule_printed x h).as_conj (conjs_printed xs more)
