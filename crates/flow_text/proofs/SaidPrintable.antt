-- What is derived from symbols that can be written can be printed.
use Rattle.std.proofs.Common.{rules as std_rules, ℕ, zero, suc, List, [], ◌∷◌, map, flat_map, sym, subst}
use Rattle.flow_model.specs.Lists.{Each}
use Rattle.flow_facts.specs.declared.constant.Const.{Const}
use Rattle.flow_form.specs.Form.{Shape, shapes}
use Rattle.flow_form.specs.RuleForm.{RuleShape, rule_shapes}
use Rattle.flow_form.specs.Script.{Declared}
use Rattle.flow_grammar.specs.Symbol.{Placed, at, symbol, symbols, constant_symbol, closing, semicolon, goal_word}
use Rattle.flow_grammar.specs.Grammar.{FactText, bare, applied, spell_constants, spell_fact, mean_fact, Prefix, prefixed, Single, single, Pair, paired, spell_names, Kind, goals, rules, Meaning, list, Text, joined, group_text, nop_text, name_text, fact_text, iso_text, not_text, single_text, order_text, pair_text, More, no_more_text, then_text, spell, spell_more, mean, mean_more, NoteText, silent_text, done_text, fail_text, fail_first_text, spell_note, mean_note, NotedText, noted_text, spell_noted, mean_noted, DeclText, facts_text, events_text, flow_text, spell_items, declared_fact, spell_decl, mean_decl, ScriptText, script_text, spell_decls, spell_constraints, mean_rule, spell_script, mean_script}
use Rattle.flow_text.specs.Printable.{IsName, IsPrintableConstant, IsPrintableFact, IsPrintableGoal, ArePrintableGoals, IsPrintableRule, ArePrintableRules, IsPrintableNote, IsPrintableDeclaration, IsPrintable}
use Rattle.flow_text.specs.Laws.{SaidIsPrintable}
use Rattle.flow_text.proofs.Writable.{IsWritable, tokens-writable}
use Rattle.flow_grammar.proofs.MadeTexts.{gathered}
use Rattle.flow_model.proofs.Lists.{each-append}

-- each symbol of the spelled list can be written
abbrev W : List Placed → Type 0
W w = Each (λ p. IsWritable (symbol p)) w

constant : (c : Const) → IsWritable (constant_symbol c) → IsPrintableConstant c
constant c h = search std_rules

constants : (cs : List Const) (d : ℕ) (r : List Placed) → W (spell_constants d cs r) → Each IsPrintableConstant cs × W r
constants [] d r h = (tt, h)
constants (c ∷ cs) d r (join, (c', h)) = let (cs', r') = constants cs d r h in ((constant c c', cs'), r')

a-fact : (f : FactText) (d : ℕ) (r : List Placed) → W (spell_fact d f r) → IsPrintableFact (mean_fact f) × W r
a-fact (bare n) d r (n', h) = ((n', tt), h)
a-fact (applied n c cs) d r (n', (opened, (c', h))) =
    let (cs', (closed, r')) = constants cs (suc d) (at (suc d) closing ∷ r) h in
    ((n', (constant c c', cs')), r')

prefix-printable : (p : Prefix) (f : FactText) → IsPrintableFact (mean_fact f) → IsPrintableGoal (prefixed p (mean_fact f))
prefix-printable p f h = search std_rules

goals-listed : (ss : List Shape) → Each IsPrintableGoal ss → ArePrintableGoals (shapes ss)
goals-listed [] h = tt
goals-listed (s ∷ ss) (h, hs) = (h, goals-listed ss hs)

rules-listed : (rs : List RuleShape) → Each IsPrintableRule rs → ArePrintableRules (rule_shapes rs)
rules-listed [] h = tt
rules-listed (r ∷ rs) (h, hs) = (h, rules-listed rs hs)

abbrev IsPrintableMeaning : (k : Kind) → Meaning k → Type 0
IsPrintableMeaning goals = IsPrintableGoal
IsPrintableMeaning rules = IsPrintableRule

listed : (k : Kind) (n : ℕ) (ms : List (Meaning k)) → Each (IsPrintableMeaning k) ms → IsPrintableMeaning k (list k n ms)
listed goals zero ss h = goals-listed ss h
listed goals (suc zero) ss h = goals-listed ss h
listed goals (suc (suc n)) ss h = goals-listed ss h
listed rules zero rs h = rules-listed rs h
listed rules (suc n) rs h = rules-listed rs h

single-printable : (s : Single) (n : List ℕ) → IsName n → IsPrintableRule (single s n)
single-printable s n h = search std_rules

pair-printable : (p : Pair) (a b : List ℕ) → IsName a → IsName b → IsPrintableRule (paired p a b)
pair-printable p a b h k = search std_rules

names : (ns : List (List ℕ)) (d : ℕ) (r : List Placed) → W (spell_names d ns r) → Each IsName ns × W r
names [] d r h = (tt, h)
names (n ∷ ns) d r (n', h) = let (ns', r') = names ns d r h in ((n', ns'), r')

mutual
  text : {k : Kind} {n : ℕ} (t : Text k n) (d : ℕ) (r : List Placed) → W (spell d t r) → IsPrintableMeaning k (mean t) × W r
  text {k} (joined {n = n} m ms) d r h =
      let (x, h1) = text m d (spell_more d ms r) h in
      let (xs, r') = more ms d r h1 in
      (gathered (IsPrintableMeaning k) (IsPrintableMeaning k) (list k n) (λ m' h2. h2) (λ m1 m2 ms'. listed k n (m1 ∷ m2 ∷ ms')) (mean m) (mean_more ms) x xs, r')
  text (group_text t) d r (opened, h) = let (x, (closed, r')) = text t (suc d) (at (suc d) closing ∷ r) h in (x, r')
  text nop_text d r (w, h) = (tt, h)
  text (name_text n) d r (n', h) = (n', h)
  text (fact_text p f) d r (w, h) = let (f', r') = a-fact f d r h in (prefix-printable p f f', r')
  text (iso_text g) d r (w, (opened, h)) = let (g', (closed, r')) = text g (suc d) (at (suc d) closing ∷ r) h in (g', r')
  text (not_text u) d r (w, h) = text u (suc d) r h
  text (single_text s n) d r (w, (n', h)) = (single-printable s n n', h)
  text (order_text a b ns) d r (w, (a', (b', h))) = let (ns', r') = names ns d r h in ((a', (b', ns')), r')
  text (pair_text p a b) d r (w, (a', (b', h))) = (pair-printable p a b a' b', h)

  more : {k : Kind} {n : ℕ} (ms : More k n) (d : ℕ) (r : List Placed) → W (spell_more d ms r) → Each (IsPrintableMeaning k) (mean_more ms) × W r
  more no_more_text d r h = (tt, h)
  more (then_text m ms) d r (join, h) =
      let (x, h1) = text m d (spell_more d ms r) h in
      let (xs, r') = more ms d r h1 in
      ((x, xs), r')

note : (n : NoteText) (r : List Placed) → W (spell_note n r) → IsPrintableNote (mean_note n) × W r
note silent_text r h = (tt, h)
note done_text r (w, h) = (tt, h)
note fail_text r (w, h) = (tt, h)
note (fail_first_text n) r (w, (n', h)) = (n', h)

noted : (e : NotedText) (r : List Placed) → W (spell_noted e r) → IsPrintableDeclaration (mean_noted e) × W r
noted (noted_text n x) r (n', h) = let (x', r') = note x r h in ((n', x'), r')

items : {A : Type 0} (spell_item : A → List Placed → List Placed) (meant : A → Declared) →
    ((x : A) (r : List Placed) → W (spell_item x r) → IsPrintableDeclaration (meant x) × W r) → (xs : List A) (r : List Placed) → W (spell_items spell_item xs r) →
    Each IsPrintableDeclaration (map meant xs) × W r
items spell_item meant item [] r h = (tt, h)
items spell_item meant item (x ∷ xs) r (join, h) =
    let (x', h1) = item x (spell_items spell_item xs r) h in
    let (xs', r') = items spell_item meant item xs r h1 in
    ((x', xs'), r')

decl : (x : DeclText) (r : List Placed) → W (spell_decl x r) → Each IsPrintableDeclaration (mean_decl x) × W r
decl (facts_text f fs) r h = let (xs, (end, r')) = items (spell_fact 0) declared_fact (λ x. a-fact x 0) (f ∷ fs) (at 0 semicolon ∷ r) h in (xs, r')
decl (events_text e es) r h = let (xs, (end, r')) = items spell_noted mean_noted noted (e ∷ es) (at 0 semicolon ∷ r) h in (xs, r')
decl (flow_text n g) r (w, (n', (eq, h))) =
    let (g', (end, r')) = text g 0 (at 0 semicolon ∷ r) h in
    (((n', g'), tt), r')

decls : (ds : List DeclText) (r : List Placed) → W (spell_decls ds r) → Each IsPrintableDeclaration (flat_map mean_decl ds) × W r
decls [] r h = (tt, h)
decls (x ∷ ds) r h =
    let (xs, h1) = decl x (spell_decls ds r) h in
    let (ys, r') = decls ds r h1 in
    (each-append IsPrintableDeclaration (mean_decl x) (flat_map mean_decl ds) xs ys, r')

constraints : (cs : List (Text rules 2)) → W (spell_constraints cs) → Each IsPrintableRule (map mean_rule cs)
constraints [] h = tt
constraints (c ∷ cs) (w, h) = let (c', (end, h1)) = text c 0 (at 0 semicolon ∷ spell_constraints cs) h in (c', constraints cs h1)

script : (x : ScriptText) → W (spell_script x) → IsPrintable (mean_script x)
script (script_text ds g cs) h =
    let (ds', (w, h1)) = decls ds (at 0 goal_word ∷ spell 0 g (at 0 semicolon ∷ spell_constraints cs)) h in
    let (g', (end, h2)) = text g 0 (at 0 semicolon ∷ spell_constraints cs) h1 in
    record { decls = ds'; goal = g'; rules = constraints cs h2 }

all-placed : (w : List Placed) → Each IsWritable (symbols w) → W w
all-placed [] h = tt
all-placed (at n t ∷ w) (h, hs) = (h, all-placed w hs)

pub said_is_printable : SaidIsPrintable
said_is_printable text tokens s e (w, same, shallow, (d, spelled, means)) =
    let writable : W w = all-placed w (subst (Each IsWritable) (sym same) (tokens-writable text tokens e)) in
    subst IsPrintable means (script d (subst W (sym spelled) writable))
