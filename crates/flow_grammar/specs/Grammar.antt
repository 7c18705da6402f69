-- The grammar: for each part of a text its derivations, what each spells, and what it means.
-- `spell` and `spell_..` take the number of parentheses and nots around the part, and what follows it.
use Rattle.std.specs.Prelude.{ℕ, zero, suc, List, [], ◌∷◌, map}
use Rattle.std.specs.List.{flat_map}
use Rattle.flow_model.specs.declared.labels.Note.{Note}
use Rattle.flow_model.specs.declared.labels.Note.TheVariants.{Done, Fail, FailFirst}
use Rattle.flow_facts.specs.declared.constant.Const.{Const}
use Rattle.flow_facts.specs.Atom.{Atom, atom}
use Rattle.flow_form.specs.Form.{Shape, nop, named, test, absent, ins, del, iso, serial, beside, either, shapes}
use Rattle.flow_form.specs.RuleForm.{RuleShape, must, never, order, precedes, needs, negated, all, any, rule_shapes}
use Rattle.flow_form.specs.Script.{Declared, fact, event, flow, Said, Asked, holds, redundant}
use Rattle.flow_grammar.specs.Symbol.{Symbol, Placed, at, constant_symbol, fact_word, event_word, flow_word, goal_word, constraint_word, nop_word, iso_word, ins_word, del_word, must_word, never_word, order_word, precedes_word, needs_word, not_word, and_word, or_word, done_word, fail_word, holds_word, redundant_word, a_name, a_number, star, bar, plus, opening, closing, comma, semicolon, equals, question, exclamation}

-- fact = name [ "(" constant { "," constant } ")" ]
pub data FactText : Type 0 where
  bare : List ℕ → FactText
  applied : List ℕ → Const → List Const → FactText

abbrev pub spell_constants : ℕ → List Const → List Placed → List Placed
spell_constants d [] r = r
spell_constants d (c ∷ cs) r = at d comma ∷ at d (constant_symbol c) ∷ spell_constants d cs r

abbrev pub spell_fact : ℕ → FactText → List Placed → List Placed
spell_fact d (bare n) r = at d (a_name n) ∷ r
spell_fact d (applied n c cs) r =
    at d (a_name n) ∷ at d opening ∷ at (suc d) (constant_symbol c) ∷ spell_constants (suc d) cs (at (suc d) closing ∷ r)

abbrev pub mean_fact : FactText → Atom
mean_fact (bare n) = atom n []
mean_fact (applied n c cs) = atom n (c ∷ cs)

-- "?", "!", "ins", "del"
pub data Prefix : Type 0 where
  asking denying adding taking : Prefix

abbrev pub prefix_symbol : Prefix → Symbol
prefix_symbol asking = question
prefix_symbol denying = exclamation
prefix_symbol adding = ins_word
prefix_symbol taking = del_word

abbrev pub prefixed : Prefix → Atom → Shape
prefixed asking = test
prefixed denying = absent
prefixed adding = ins
prefixed taking = del

-- "must", "never"
pub data Single : Type 0 where
  must_come never_come : Single

abbrev pub single_symbol : Single → Symbol
single_symbol must_come = must_word
single_symbol never_come = never_word

abbrev pub single : Single → List ℕ → RuleShape
single must_come = must
single never_come = never

-- "precedes", "needs"
pub data Pair : Type 0 where
  preceding needing : Pair

abbrev pub pair_symbol : Pair → Symbol
pair_symbol preceding = precedes_word
pair_symbol needing = needs_word

abbrev pub paired : Pair → List ℕ → List ℕ → RuleShape
paired preceding = precedes
paired needing = needs

abbrev pub spell_names : ℕ → List (List ℕ) → List Placed → List Placed
spell_names d [] r = r
spell_names d (n ∷ ns) r = at d (a_name n) ∷ spell_names d ns r

-- Goals and rules are read by levels. At level 0 stand atoms and units; at each level above a member of the level below, and
-- further ones, each behind a join. So a serial has level 1, a beside 2 and a goal 3; a conj has level 1 and a rule 2.
pub data Kind : Type 0 where
  goals rules : Kind

abbrev pub Meaning : Kind → Type 0
Meaning goals = Shape
Meaning rules = RuleShape

-- the level of a whole goal or rule
abbrev pub top : Kind → ℕ
top goals = 3
top rules = 2

-- what stands before each further member of that level, and what the members are together
abbrev pub join : Kind → ℕ → Symbol
join goals zero = star
join goals (suc zero) = bar
join goals _ = plus
join rules zero = and_word
join rules _ = or_word

abbrev pub list : (k : Kind) → ℕ → List (Meaning k) → Meaning k
list goals zero ss = serial (shapes ss)
list goals (suc zero) ss = beside (shapes ss)
list goals _ ss = either (shapes ss)
list rules zero rs = all (rule_shapes rs)
list rules _ rs = any (rule_shapes rs)

mutual
  pub data Text : Kind → ℕ → Type 0 where
    -- goal = beside { "+" beside }, beside = serial { "|" serial }, serial = atom { "*" atom }
    -- rule = conj { "or" conj }, conj = unit { "and" unit }
    joined : {k : Kind} {n : ℕ} → Text k n → More k n → Text k (suc n)
    -- atom = "(" goal ")", unit = "(" rule ")"
    group_text : {k : Kind} → Text k (top k) → Text k 0
    -- atom = "nop" | name | "?" fact | "!" fact | "ins" fact | "del" fact | "iso" "(" goal ")"
    nop_text : Text goals 0
    name_text : List ℕ → Text goals 0
    fact_text : Prefix → FactText → Text goals 0
    iso_text : Text goals 3 → Text goals 0
    -- unit = "not" unit | "must" name | "never" name | "order" name name { name } | "precedes" name name | "needs" name name
    not_text : Text rules 0 → Text rules 0
    single_text : Single → List ℕ → Text rules 0
    order_text : List ℕ → List ℕ → List (List ℕ) → Text rules 0
    pair_text : Pair → List ℕ → List ℕ → Text rules 0

  pub data More : Kind → ℕ → Type 0 where
    no_more_text : {k : Kind} {n : ℕ} → More k n
    then_text : {k : Kind} {n : ℕ} → Text k n → More k n → More k n

abbrev mutual
  pub spell : {k : Kind} {n : ℕ} → ℕ → Text k n → List Placed → List Placed
  spell d (joined m ms) r = spell d m (spell_more d ms r)
  spell d (group_text t) r = at d opening ∷ spell (suc d) t (at (suc d) closing ∷ r)
  spell d nop_text r = at d nop_word ∷ r
  spell d (name_text n) r = at d (a_name n) ∷ r
  spell d (fact_text p f) r = at d (prefix_symbol p) ∷ spell_fact d f r
  spell d (iso_text g) r = at d iso_word ∷ at d opening ∷ spell (suc d) g (at (suc d) closing ∷ r)
  spell d (not_text u) r = at d not_word ∷ spell (suc d) u r
  spell d (single_text s n) r = at d (single_symbol s) ∷ at d (a_name n) ∷ r
  spell d (order_text a b ns) r = at d order_word ∷ at d (a_name a) ∷ at d (a_name b) ∷ spell_names d ns r
  spell d (pair_text p a b) r = at d (pair_symbol p) ∷ at d (a_name a) ∷ at d (a_name b) ∷ r

  pub spell_more : {k : Kind} {n : ℕ} → ℕ → More k n → List Placed → List Placed
  spell_more d no_more_text r = r
  spell_more {k} {n} d (then_text m ms) r = at d (join k n) ∷ spell d m (spell_more d ms r)

-- a list of one is its one member
abbrev pub gather : {M : Type 0} → (List M → M) → List M → M
gather list [] = list []
gather list (m ∷ []) = m
gather list (m ∷ m' ∷ ms) = list (m ∷ m' ∷ ms)

abbrev mutual
  pub mean : {k : Kind} {n : ℕ} → Text k n → Meaning k
  mean {k} (joined {n = n} m ms) = gather (list k n) (mean m ∷ mean_more ms)
  mean (group_text t) = mean t
  mean nop_text = nop
  mean (name_text n) = named n
  mean (fact_text p f) = prefixed p (mean_fact f)
  mean (iso_text g) = iso (mean g)
  mean (not_text u) = negated (mean u)
  mean (single_text s n) = single s n
  mean (order_text a b ns) = order (a ∷ b ∷ ns)
  mean (pair_text p a b) = paired p a b

  pub mean_more : {k : Kind} {n : ℕ} → More k n → List (Meaning k)
  mean_more no_more_text = []
  mean_more (then_text m ms) = mean m ∷ mean_more ms

-- [ "done" | "fail" [ number ] ]
pub data NoteText : Type 0 where
  silent_text done_text fail_text : NoteText
  fail_first_text : ℕ → NoteText

abbrev pub spell_note : NoteText → List Placed → List Placed
spell_note silent_text r = r
spell_note done_text r = at 0 done_word ∷ r
spell_note fail_text r = at 0 fail_word ∷ r
spell_note (fail_first_text n) r = at 0 fail_word ∷ at 0 (a_number n) ∷ r

abbrev pub mean_note : NoteText → Note
mean_note silent_text = Done
mean_note done_text = Done
mean_note fail_text = Fail
mean_note (fail_first_text n) = FailFirst n

-- noted = name [ "done" | "fail" [ number ] ]
pub data NotedText : Type 0 where
  noted_text : List ℕ → NoteText → NotedText

abbrev pub spell_noted : NotedText → List Placed → List Placed
spell_noted (noted_text n note) r = at 0 (a_name n) ∷ spell_note note r

abbrev pub mean_noted : NotedText → Declared
mean_noted (noted_text n note) = event n (mean_note note)

-- decl = "fact" fact { "," fact } ";" | "event" noted { "," noted } ";" | "flow" name "=" goal ";"
pub data DeclText : Type 0 where
  facts_text : FactText → List FactText → DeclText
  events_text : NotedText → List NotedText → DeclText
  flow_text : List ℕ → Text goals 3 → DeclText

-- { "," item }
abbrev pub spell_items : {A : Type 0} → (A → List Placed → List Placed) → List A → List Placed → List Placed
spell_items spell_item [] r = r
spell_items spell_item (x ∷ xs) r = at 0 comma ∷ spell_item x (spell_items spell_item xs r)

abbrev pub spell_decl : DeclText → List Placed → List Placed
spell_decl (facts_text f fs) r = at 0 fact_word ∷ spell_fact 0 f (spell_items (spell_fact 0) fs (at 0 semicolon ∷ r))
spell_decl (events_text e es) r = at 0 event_word ∷ spell_noted e (spell_items spell_noted es (at 0 semicolon ∷ r))
spell_decl (flow_text n g) r = at 0 flow_word ∷ at 0 (a_name n) ∷ at 0 equals ∷ spell 0 g (at 0 semicolon ∷ r)

abbrev pub declared_fact : FactText → Declared
declared_fact f = fact (mean_fact f)

abbrev pub mean_decl : DeclText → List Declared
mean_decl (facts_text f fs) = map declared_fact (f ∷ fs)
mean_decl (events_text e es) = map mean_noted (e ∷ es)
mean_decl (flow_text n g) = flow n (mean g) ∷ []

-- script = { decl } "goal" goal ";" { "constraint" rule ";" } end
pub data ScriptText : Type 0 where
  script_text : List DeclText → Text goals 3 → List (Text rules 2) → ScriptText

abbrev pub spell_decls : List DeclText → List Placed → List Placed
spell_decls [] r = r
spell_decls (d ∷ ds) r = spell_decl d (spell_decls ds r)

abbrev pub spell_constraints : List (Text rules 2) → List Placed
spell_constraints [] = []
spell_constraints (c ∷ cs) = at 0 constraint_word ∷ spell 0 c (at 0 semicolon ∷ spell_constraints cs)

abbrev pub spell_script : ScriptText → List Placed
spell_script (script_text ds g cs) = spell_decls ds (at 0 goal_word ∷ spell 0 g (at 0 semicolon ∷ spell_constraints cs))

abbrev pub mean_rule : Text rules 2 → RuleShape
mean_rule c = mean c

abbrev pub mean_script : ScriptText → Said
mean_script (script_text ds g cs) = record { decls = flat_map mean_decl ds; goal = mean g; rules = map mean_rule cs }

-- query = "holds" rule ";" end | "redundant" number ";" end
pub data QueryText : Type 0 where
  holds_text : Text rules 2 → QueryText
  redundant_text : ℕ → QueryText

abbrev pub spell_query : QueryText → List Placed
spell_query (holds_text x) = at 0 holds_word ∷ spell 0 x (at 0 semicolon ∷ [])
spell_query (redundant_text n) = at 0 redundant_word ∷ at 0 (a_number n) ∷ at 0 semicolon ∷ []

abbrev pub mean_query : QueryText → Asked
mean_query (holds_text x) = holds (mean x)
mean_query (redundant_text n) = redundant n
