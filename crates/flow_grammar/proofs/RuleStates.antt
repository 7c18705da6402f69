-- A rule: what may follow each state, up to its semicolon.
use Rattle.std.proofs.Common.{◌≡◌, ℕ, suc, List, [], ◌∷◌, ◌++◌, refl, sym, ap, ◌∙◌, subst, append_assoc, append-nil}
use Rattle.flow_form.specs.RuleForm.{RuleShape, order}
use Rattle.flow_grammar.specs.Symbol.{Symbol, Placed, at, Deepens, must_word, never_word, order_word, precedes_word, needs_word, not_word, and_word, or_word, a_name, opening, closing, semicolon}
use Rattle.flow_grammar.specs.Grammar.{must_come, never_come, single, preceding, needing, paired, rules, list, gather, Text, joined, group_text, not_text, single_text, order_text, pair_text, More, no_more_text, then_text, spell_names, spell, spell_more, mean, mean_more}
use Rattle.flow_grammar.specs.Machine.{RuleLevel, rule_level, push_rule, close_all, close_rule, RuleFrame, rule_parenthesis, negate, wrap_rule, Names, one, two, second, two_or_more, one_or_more, RuleState, unit_needed, after_unit, name_needed, after_names, step_rule, nots_in, rule_height, depth_rule}
use Rattle.flow_grammar.proofs.Parts.{Follow, StepNext, StepFront}
use Rattle.flow_grammar.proofs.Parts as parts

-- the rule of a level, with the members that follow in each of its lists
abbrev whole_rule : RuleLevel → List RuleShape → List RuleShape → RuleShape
whole_rule l us cs = gather (list rules 1) (l.anys ++ gather (list rules 0) (l.alls ++ us) ∷ cs)

-- what may follow a unit, where C says what may follow the rule
abbrev pub Tail : Follow RuleShape → ℕ → RuleLevel → List Placed → Type 0
Tail C d l w =
    (us : More rules 0) × (cs : More rules 1) × (r : List Placed) ×
    (spell_more d us (spell_more d cs r) ≡ w) × C (whole_rule l (mean_more us) (mean_more cs)) r

abbrev pub Closing : Follow RuleShape → List RuleFrame → Follow RuleShape
Closing = parts.Closing Tail rule_height wrap_rule

-- what may follow a unit under k nots
abbrev After : Follow RuleShape → List RuleFrame → RuleLevel → ℕ → Follow RuleShape
After K fs l k x v = Tail (Closing K fs) (rule_height fs) (push_rule l (negate k x)) v

abbrev pub Need : Follow RuleShape → ℕ → RuleLevel → ℕ → List Placed → Type 0
Need C d l k w = (u : Text rules 0) × (v : List Placed) × (spell (nots_in k d) u v ≡ w) × Tail C d (push_rule l (negate k (mean u))) v

-- what may follow inside k nots, where A says what may follow the unit
abbrev NamesRest : Names → ℕ → List Placed → Follow RuleShape → Type 0
NamesRest (one s) d w A = (n : List ℕ) × (v : List Placed) × (at d (a_name n) ∷ v ≡ w) × A (single s n) v
NamesRest (two p) d w A = (a b : List ℕ) × (v : List Placed) × (at d (a_name a) ∷ at d (a_name b) ∷ v ≡ w) × A (paired p a b) v
NamesRest (second p a) d w A = (b : List ℕ) × (v : List Placed) × (at d (a_name b) ∷ v ≡ w) × A (paired p a b) v
NamesRest two_or_more d w A =
    (a b : List ℕ) × (ns : List (List ℕ)) × (v : List Placed) × (at d (a_name a) ∷ at d (a_name b) ∷ spell_names d ns v ≡ w) × A (order (a ∷ b ∷ ns)) v
NamesRest (one_or_more a) d w A =
    (b : List ℕ) × (ns : List (List ℕ)) × (v : List Placed) × (at d (a_name b) ∷ spell_names d ns v ≡ w) × A (order (a ∷ b ∷ ns)) v

abbrev pub RuleRest : RuleState → List Placed → Follow RuleShape → Type 0
RuleRest (unit_needed fs l k) w K = Need (Closing K fs) (rule_height fs) l k w
RuleRest (after_unit fs l) w K = Tail (Closing K fs) (rule_height fs) l w
RuleRest (name_needed names fs l k) w K = NamesRest names (nots_in k (rule_height fs)) w (After K fs l k)
RuleRest (after_names ms fs l k) w K =
    (ns : List (List ℕ)) × (v : List Placed) × (spell_names (nots_in k (rule_height fs)) ns v ≡ w) × After K fs l k (order (ms ++ ns)) v

abbrev pub RuleFront : RuleState → List Placed → Follow RuleShape → Type 0
RuleFront = StepFront step_rule depth_rule RuleRest

-- A rule whose members are moved into its lists

push_more : (l : RuleLevel) (m : RuleShape) (us cs : List RuleShape) → whole_rule l (m ∷ us) cs ≡ whole_rule (push_rule l m) us cs
push_more l m us cs = rw (append_assoc l.alls (m ∷ []) us)

all_more : (l : RuleLevel) (m : RuleShape) (us cs : List RuleShape) →
    whole_rule l [] (gather (list rules 0) (m ∷ us) ∷ cs) ≡ whole_rule (push_rule (close_all l) m) us cs
all_more l m us cs = rw (append-nil l.alls, append_assoc l.anys)

close_more : (l : RuleLevel) → whole_rule l [] [] ≡ close_rule l
close_more l = rw (append-nil l.alls)

-- A whole rule is what an empty level needs

pub need_of_rule : (C : Follow RuleShape) (d : ℕ) (x : Text rules 2) (v : List Placed) → C (mean x) v → Need C d (rule_level [] []) 0 (spell d x v)
need_of_rule C d (joined (joined u us) cs) v c = (u, _, refl, (us, cs, v, refl, c))

pub rule_of_need : (C : Follow RuleShape) (d : ℕ) (w : List Placed) → Need C d (rule_level [] []) 0 w → (x : Text rules 2) × (v : List Placed) × (spell d x v ≡ w) × C (mean x) v
rule_of_need C d w (u, v, e, (us, cs, r, e', c)) = (joined (joined u us) cs, r, ap (spell d u) e' ∙ e, c)

-- Forth: what may follow a state begins with a step

join_forth : (K : Follow RuleShape) (fs : List RuleFrame) (l : RuleLevel) (w : List Placed) → Tail (Closing K fs) (rule_height fs) l w → RuleFront (after_unit fs l) w K
join_forth K fs l w (then_text u us, cs, r, e, c) =
    subst (λ y. RuleFront (after_unit fs l) y K) e
    (λ h. refl, (u, _, refl, (us, cs, r, refl, subst (λ y. Closing K fs y r) (push_more l (mean u) (mean_more us) (mean_more cs)) c)))
join_forth K fs l w (no_more_text, then_text (joined u us) cs, r, e, c) =
    subst (λ y. RuleFront (after_unit fs l) y K) e
    (λ h. refl, (u, _, refl, (us, cs, r, refl, subst (λ y. Closing K fs y r) (all_more l (mean u) (mean_more us) (mean_more cs)) c)))
join_forth K [] l w (no_more_text, no_more_text, r, e, (v, e', h)) =
    subst (λ y. RuleFront (after_unit [] l) y K) (e' ∙ e) (λ h'. refl, subst (λ y. K y v) (close_more l) h)
join_forth K (f ∷ fs) l w (no_more_text, no_more_text, r, e, (v, e', h)) =
    subst (λ y. RuleFront (after_unit (f ∷ fs) l) y K) (e' ∙ e)
    (λ h'. refl, subst (λ y. Tail (Closing K fs) (rule_height fs) (wrap_rule f y) v) (close_more l) h)

start_forth : (K : Follow RuleShape) (fs : List RuleFrame) (l : RuleLevel) (k : ℕ) (u : Text rules 0) (v : List Placed) → After K fs l k (mean u) v →
    RuleFront (unit_needed fs l k) (spell (nots_in k (rule_height fs)) u v) K
start_forth K fs l k (not_text u) v t = (λ h. refl, (u, v, refl, t))
start_forth K fs l k (group_text x) v t =
    (λ h. refl, need_of_rule (Closing K (rule_parenthesis l k ∷ fs)) (suc (nots_in k (rule_height fs))) x (at (suc (nots_in k (rule_height fs))) closing ∷ v) (v, refl, t))
start_forth K fs l k (single_text must_come n) v t = (λ h. refl, (n, v, refl, t))
start_forth K fs l k (single_text never_come n) v t = (λ h. refl, (n, v, refl, t))
start_forth K fs l k (order_text a b ns) v t = (λ h. refl, (a, b, ns, v, refl, t))
start_forth K fs l k (pair_text preceding a b) v t = (λ h. refl, (a, b, v, refl, t))
start_forth K fs l k (pair_text needing a b) v t = (λ h. refl, (a, b, v, refl, t))

-- what may follow the names begins as it does after the unit
names_front : (K : Follow RuleShape) (ms : List (List ℕ)) (fs : List RuleFrame) (l : RuleLevel) (k : ℕ) (w : List Placed) →
    RuleFront (after_unit fs (push_rule l (negate k (order ms)))) w K → RuleFront (after_names ms fs l k) w K
names_front K ms fs l k [] h = h
names_front K ms fs l k (at m (a_name n) ∷ w) h = absurd h.1
names_front K ms fs l k (at m _ ∷ w) h = h

pub rule_forth : (s : RuleState) (w : List Placed) (K : Follow RuleShape) → RuleRest s w K → RuleFront s w K
rule_forth (unit_needed fs l k) w K (u, v, e, t) = subst (λ y. RuleFront (unit_needed fs l k) y K) e (start_forth K fs l k u v t)
rule_forth (after_unit fs l) w K h = join_forth K fs l w h
rule_forth (name_needed (one s) fs l k) w K (n, v, e, t) = subst (λ y. RuleFront (name_needed (one s) fs l k) y K) e (λ h. refl, t)
rule_forth (name_needed (two p) fs l k) w K (a, b, v, e, t) = subst (λ y. RuleFront (name_needed (two p) fs l k) y K) e (λ h. refl, (b, v, refl, t))
rule_forth (name_needed (second p a) fs l k) w K (b, v, e, t) = subst (λ y. RuleFront (name_needed (second p a) fs l k) y K) e (λ h. refl, t)
rule_forth (name_needed two_or_more fs l k) w K (a, b, ns, v, e, t) =
    subst (λ y. RuleFront (name_needed two_or_more fs l k) y K) e (λ h. refl, (b, ns, v, refl, t))
rule_forth (name_needed (one_or_more a) fs l k) w K (b, ns, v, e, t) =
    subst (λ y. RuleFront (name_needed (one_or_more a) fs l k) y K) e (λ h. refl, (ns, v, refl, t))
rule_forth (after_names ms fs l k) w K ([], v, e, t) =
    let after = subst (After K fs l k (order ms)) e (subst (λ y. After K fs l k (order y) v) (append-nil ms) t) in
    names_front K ms fs l k w (join_forth K fs (push_rule l (negate k (order ms))) w after)
rule_forth (after_names ms fs l k) w K (n ∷ ns, v, e, t) =
    subst (λ y. RuleFront (after_names ms fs l k) y K) e
    (λ h. absurd h, (ns, v, refl, subst (λ y. After K fs l k (order y) v) (sym (append_assoc ms (n ∷ []) ns)) t))

-- Back: a step and what may follow it may follow the state

-- with the symbol inside d others
abbrev Back : RuleState → ℕ → Symbol → List Placed → Follow RuleShape → Type 0
Back s d t w K = StepNext RuleRest (step_rule s t) w K → RuleRest s (at d t ∷ w) K

start_back : (K : Follow RuleShape) (fs : List RuleFrame) (l : RuleLevel) (k : ℕ) (t : Symbol) (w : List Placed) → Back (unit_needed fs l k) (nots_in k (rule_height fs)) t w K
start_back K fs l k not_word w (u, v, e, t) = (not_text u, v, ap (λ y. at (nots_in k (rule_height fs)) not_word ∷ y) e, t)
start_back K fs l k opening w h =
    let (x, r, e, (v, e', t)) = rule_of_need (Closing K (rule_parenthesis l k ∷ fs)) (suc (nots_in k (rule_height fs))) w h in
    (group_text x, v, ap (λ y. at (nots_in k (rule_height fs)) opening ∷ y) (ap (spell (suc (nots_in k (rule_height fs))) x) e' ∙ e), t)
start_back K fs l k must_word w (n, v, e, t) = (single_text must_come n, v, ap (λ y. at (nots_in k (rule_height fs)) must_word ∷ y) e, t)
start_back K fs l k never_word w (n, v, e, t) = (single_text never_come n, v, ap (λ y. at (nots_in k (rule_height fs)) never_word ∷ y) e, t)
start_back K fs l k order_word w (a, b, ns, v, e, t) = (order_text a b ns, v, ap (λ y. at (nots_in k (rule_height fs)) order_word ∷ y) e, t)
start_back K fs l k precedes_word w (a, b, v, e, t) = (pair_text preceding a b, v, ap (λ y. at (nots_in k (rule_height fs)) precedes_word ∷ y) e, t)
start_back K fs l k needs_word w (a, b, v, e, t) = (pair_text needing a b, v, ap (λ y. at (nots_in k (rule_height fs)) needs_word ∷ y) e, t)
start_back K fs l k _ w h = absurd h

join_back : (K : Follow RuleShape) (fs : List RuleFrame) (l : RuleLevel) (t : Symbol) (w : List Placed) → Back (after_unit fs l) (rule_height fs) t w K
join_back K fs l and_word w (u, v, e, (us, cs, r, e', c)) =
    let moved = subst (λ y. Closing K fs y r) (sym (push_more l (mean u) (mean_more us) (mean_more cs))) c in
    (then_text u us, cs, r, ap (λ y. at (rule_height fs) and_word ∷ y) (ap (spell (rule_height fs) u) e' ∙ e), moved)
join_back K fs l or_word w (u, v, e, (us, cs, r, e', c)) =
    let moved = subst (λ y. Closing K fs y r) (sym (all_more l (mean u) (mean_more us) (mean_more cs))) c in
    (no_more_text, then_text (joined u us) cs, r, ap (λ y. at (rule_height fs) or_word ∷ y) (ap (spell (rule_height fs) u) e' ∙ e), moved)
join_back K [] l semicolon w h = (no_more_text, no_more_text, _, refl, (w, refl, subst (λ y. K y w) (sym (close_more l)) h))
join_back K (f ∷ fs) l closing w t =
    (no_more_text, no_more_text, _, refl, (w, refl, subst (λ y. Tail (Closing K fs) (rule_height fs) (wrap_rule f y) w) (sym (close_more l)) t))
join_back K _ l _ w h = absurd h

named_back : (K : Follow RuleShape) (names : Names) (fs : List RuleFrame) (l : RuleLevel) (k : ℕ) (n : List ℕ) (w : List Placed) → Back (name_needed names fs l k) (nots_in k (rule_height fs)) (a_name n) w K
named_back K (one s) fs l k n w t = (n, w, refl, t)
named_back K (two p) fs l k n w (b, v, e, t) = (n, b, v, ap (λ y. at (nots_in k (rule_height fs)) (a_name n) ∷ y) e, t)
named_back K (second p a) fs l k n w t = (n, w, refl, t)
named_back K two_or_more fs l k n w (b, ns, v, e, t) = (n, b, ns, v, ap (λ y. at (nots_in k (rule_height fs)) (a_name n) ∷ y) e, t)
named_back K (one_or_more a) fs l k n w (ns, v, e, t) = (n, ns, v, ap (λ y. at (nots_in k (rule_height fs)) (a_name n) ∷ y) e, t)

name_back : (K : Follow RuleShape) (names : Names) (fs : List RuleFrame) (l : RuleLevel) (k : ℕ) (t : Symbol) (w : List Placed) → Back (name_needed names fs l k) (nots_in k (rule_height fs)) t w K
name_back K names fs l k (a_name n) w h = named_back K names fs l k n w h
name_back K names fs l k _ w h = absurd h

pub rule_back : (s : RuleState) (t : Symbol) (w : List Placed) (K : Follow RuleShape) → StepNext RuleRest (step_rule s t) w K →
    (n : ℕ) × (Deepens t → n ≡ depth_rule s) × RuleRest s (at n t ∷ w) K
rule_back (unit_needed fs l k) t w K h = (nots_in k (rule_height fs), λ h'. refl, start_back K fs l k t w h)
rule_back (after_unit fs l) t w K h = (rule_height fs, λ h'. refl, join_back K fs l t w h)
rule_back (name_needed names fs l k) t w K h = (nots_in k (rule_height fs), λ h'. refl, name_back K names fs l k t w h)
-- a further name stands inside the nots, what follows the unit outside
rule_back (after_names ms fs l k) (a_name n) w K (ns, v, e, t) =
    let moved = subst (λ y. After K fs l k (order y) v) (append_assoc ms (n ∷ []) ns) t in
    (nots_in k (rule_height fs), λ h. absurd h, (n ∷ ns, v, ap (λ y. at (nots_in k (rule_height fs)) (a_name n) ∷ y) e, moved))
rule_back (after_names ms fs l k) t w K h =
    let after = join_back K fs (push_rule l (negate k (order ms))) t w h in
    (rule_height fs, λ h'. refl, ([], _, refl, subst (λ y. After K fs l k (order y) (at (rule_height fs) t ∷ w)) (sym (append-nil ms)) after))

-- Each state can be completed

level_completes : {X : Type 0} (K : X → Follow RuleShape) → ((y : RuleShape) → (w : List Placed) × (x : X) × K x y w) → (fs : List RuleFrame) (l : RuleLevel) →
    (w : List Placed) × (x : X) × Tail (Closing (K x) fs) (rule_height fs) l w
level_completes K rest [] l = let (w, x, k) = rest (close_rule l) in (_, x, join_back (K x) [] l semicolon w k)
level_completes K rest (f ∷ fs) l = let (w, x, t) = level_completes K rest fs (wrap_rule f (close_rule l)) in (_, x, join_back (K x) (f ∷ fs) l closing w t)

names_complete : {X : Type 0} (A : X → Follow RuleShape) → ((y : RuleShape) → (w : List Placed) × (x : X) × A x y w) → (names : Names) (d : ℕ) →
    (w : List Placed) × (x : X) × NamesRest names d w (A x)
names_complete A rest (one s) d = let (w, x, t) = rest (single s []) in (_, x, ([], w, refl, t))
names_complete A rest (two p) d = let (w, x, t) = rest (paired p [] []) in (_, x, ([], [], w, refl, t))
names_complete A rest (second p a) d = let (w, x, t) = rest (paired p a []) in (_, x, ([], w, refl, t))
names_complete A rest two_or_more d = let (w, x, t) = rest (order ([] ∷ [] ∷ [])) in (_, x, ([], [], [], w, refl, t))
names_complete A rest (one_or_more a) d = let (w, x, t) = rest (order (a ∷ [] ∷ [])) in (_, x, ([], [], w, refl, t))

pub rule_completes : {X : Type 0} (s : RuleState) (K : X → Follow RuleShape) → ((y : RuleShape) → (w : List Placed) × (x : X) × K x y w) →
    (w : List Placed) × (x : X) × RuleRest s w (K x)
rule_completes (unit_needed fs l k) K rest =
    let (w, x, t) = level_completes K rest fs (push_rule l (negate k (single must_come []))) in (_, x, (single_text must_come [], w, refl, t))
rule_completes (after_unit fs l) K rest = level_completes K rest fs l
rule_completes (name_needed names fs l k) K rest =
    names_complete (λ x. After (K x) fs l k) (λ y. level_completes K rest fs (push_rule l (negate k y))) names (nots_in k (rule_height fs))
rule_completes (after_names ms fs l k) K rest =
    let (w, x, t) = level_completes K rest fs (push_rule l (negate k (order (ms ++ [])))) in (w, x, ([], w, refl, t))
