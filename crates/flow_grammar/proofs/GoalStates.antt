-- A goal: what may follow each state, up to its semicolon.
use Rattle.std.proofs.Common.{◌≡◌, ℕ, suc, ◌⊎◌, List, [], ◌∷◌, ◌++◌, refl, sym, ap, ◌∙◌, subst, inl, inr, append_assoc, append-nil}
use Rattle.flow_facts.specs.Atom.{Atom, atom}
use Rattle.flow_form.specs.Form.{Shape, iso}
use Rattle.flow_grammar.specs.Symbol.{Symbol, Placed, at, nop_word, iso_word, ins_word, del_word, a_name, star, bar, plus, opening, closing, semicolon, question, exclamation}
use Rattle.flow_grammar.specs.Grammar.{FactText, bare, applied, asking, denying, adding, taking, prefixed, spell_fact, mean_fact, Prefix, goals, list, gather, Text, joined, group_text, nop_text, name_text, fact_text, iso_text, More, no_more_text, then_text, spell, spell_more, mean, mean_more}
use Rattle.flow_grammar.specs.Machine.{Step, reading, whole, stuck, ArgState, constant_needed, step_arg, after_arg, Level, level, push, close_serial, close_beside, close, Frame, parenthesis, isolation, wrap, GoalState, atom_needed, after_atom, opening_needed, fact_needed, after_relation, in_args, step_goal, height, depth_goal}
use Rattle.flow_grammar.proofs.Parts.{Follow, StepNext, StepFront}
use Rattle.flow_grammar.proofs.Parts as parts
use Rattle.flow_grammar.proofs.ArgStates.{ArgRest, arg_forth, arg_back, arg_completes}

-- the goal of a level, with the members that follow in each of its lists
abbrev whole_of : Level → List Shape → List Shape → List Shape → Shape
whole_of l more ss bs =
    gather (list goals 2) (l.eithers ++ gather (list goals 1) (l.besides ++ gather (list goals 0) (l.serials ++ more) ∷ ss) ∷ bs)

-- what may follow an atom, where C says what may follow the goal
abbrev pub Tail : Follow Shape → ℕ → Level → List Placed → Type 0
Tail C d l w =
    (more : More goals 0) × (ss : More goals 1) × (bs : More goals 2) × (r : List Placed) ×
    (spell_more d more (spell_more d ss (spell_more d bs r)) ≡ w) × C (whole_of l (mean_more more) (mean_more ss) (mean_more bs)) r

abbrev pub Closing : Follow Shape → List Frame → Follow Shape
Closing = parts.Closing Tail height wrap

abbrev pub Need : Follow Shape → ℕ → Level → List Placed → Type 0
Need C d l w = (a : Text goals 0) × (v : List Placed) × (spell d a v ≡ w) × Tail C d (push l (mean a)) v

-- what may follow the facts of a prefix
abbrev AfterFact : Follow Shape → List Frame → Level → Prefix → Follow Atom
AfterFact K fs l p f r = Tail (Closing K fs) (height fs) (push l (prefixed p f)) r

abbrev pub GoalRest : GoalState → List Placed → Follow Shape → Type 0
GoalRest (atom_needed fs l) w K = Need (Closing K fs) (height fs) l w
GoalRest (after_atom fs l) w K = Tail (Closing K fs) (height fs) l w
GoalRest (opening_needed fs l) w K =
    (g : Text goals 3) × (v : List Placed) × (at (height fs) opening ∷ spell (suc (height fs)) g (at (suc (height fs)) closing ∷ v) ≡ w) ×
    Tail (Closing K fs) (height fs) (push l (iso (mean g))) v
GoalRest (fact_needed p fs l) w K = (f : FactText) × (v : List Placed) × (spell_fact (height fs) f v ≡ w) × AfterFact K fs l p (mean_fact f) v
GoalRest (after_relation p n fs l) w K =
    AfterFact K fs l p (atom n []) w ⊎
    ((v : List Placed) × (at (height fs) opening ∷ v ≡ w) × ArgRest (suc (height fs)) (constant_needed n []) v (AfterFact K fs l p))
GoalRest (in_args p a fs l) w K = ArgRest (suc (height fs)) a w (AfterFact K fs l p)

abbrev pub GoalFront : GoalState → List Placed → Follow Shape → Type 0
GoalFront = StepFront step_goal depth_goal GoalRest

-- A goal whose members are moved into its lists

push_more : (l : Level) (m : Shape) (more ss bs : List Shape) → whole_of l (m ∷ more) ss bs ≡ whole_of (push l m) more ss bs
push_more l m more ss bs = rw (append_assoc l.serials (m ∷ []) more)

serial_more : (l : Level) (m : Shape) (more ss bs : List Shape) →
    whole_of l [] (gather (list goals 0) (m ∷ more) ∷ ss) bs ≡ whole_of (push (close_serial l) m) more ss bs
serial_more l m more ss bs = rw (append-nil l.serials, append_assoc l.besides)

beside_more : (l : Level) (m : Shape) (more ss bs : List Shape) →
    whole_of l [] [] (gather (list goals 1) (gather (list goals 0) (m ∷ more) ∷ ss) ∷ bs) ≡ whole_of (push (close_beside l) m) more ss bs
beside_more l m more ss bs = rw (append-nil l.serials, append_assoc l.eithers)

close_more : (l : Level) → whole_of l [] [] [] ≡ close l
close_more l = rw (append-nil l.serials)

-- A whole goal is what an empty level needs

pub need_of_goal : (C : Follow Shape) (d : ℕ) (g : Text goals 3) (v : List Placed) → C (mean g) v → Need C d (level [] [] []) (spell d g v)
need_of_goal C d (joined (joined (joined a more) ss) bs) v c = (a, _, refl, (more, ss, bs, v, refl, c))

pub goal_of_need : (C : Follow Shape) (d : ℕ) (w : List Placed) → Need C d (level [] [] []) w → (g : Text goals 3) × (v : List Placed) × (spell d g v ≡ w) × C (mean g) v
goal_of_need C d w (a, v, e, (more, ss, bs, r, e', c)) = (joined (joined (joined a more) ss) bs, r, ap (spell d a) e' ∙ e, c)

-- Forth: what may follow a state begins with a step

join_forth : (K : Follow Shape) (fs : List Frame) (l : Level) (w : List Placed) → Tail (Closing K fs) (height fs) l w → GoalFront (after_atom fs l) w K
join_forth K fs l w (then_text a more, ss, bs, r, e, c) =
    subst (λ y. GoalFront (after_atom fs l) y K) e
    (λ h. refl, (a, _, refl, (more, ss, bs, r, refl, subst (λ y. Closing K fs y r) (push_more l (mean a) (mean_more more) (mean_more ss) (mean_more bs)) c)))
join_forth K fs l w (no_more_text, then_text (joined a more) ss, bs, r, e, c) =
    subst (λ y. GoalFront (after_atom fs l) y K) e
    (λ h. refl, (a, _, refl, (more, ss, bs, r, refl, subst (λ y. Closing K fs y r) (serial_more l (mean a) (mean_more more) (mean_more ss) (mean_more bs)) c)))
join_forth K fs l w (no_more_text, no_more_text, then_text (joined (joined a more) ss) bs, r, e, c) =
    subst (λ y. GoalFront (after_atom fs l) y K) e
    (λ h. refl, (a, _, refl, (more, ss, bs, r, refl, subst (λ y. Closing K fs y r) (beside_more l (mean a) (mean_more more) (mean_more ss) (mean_more bs)) c)))
join_forth K [] l w (no_more_text, no_more_text, no_more_text, r, e, (v, e', h)) =
    subst (λ y. GoalFront (after_atom [] l) y K) (e' ∙ e) (λ h'. refl, subst (λ y. K y v) (close_more l) h)
join_forth K (f ∷ fs) l w (no_more_text, no_more_text, no_more_text, r, e, (v, e', h)) =
    subst (λ y. GoalFront (after_atom (f ∷ fs) l) y K) (e' ∙ e)
    (λ h'. refl, subst (λ y. Tail (Closing K fs) (height fs) (wrap f y) v) (close_more l) h)

start_forth : (K : Follow Shape) (fs : List Frame) (l : Level) (a : Text goals 0) (v : List Placed) → Tail (Closing K fs) (height fs) (push l (mean a)) v →
    GoalFront (atom_needed fs l) (spell (height fs) a v) K
start_forth K fs l nop_text v t = (λ h. refl, t)
start_forth K fs l (name_text n) v t = (λ h. refl, t)
start_forth K fs l (fact_text asking f) v t = (λ h. refl, (f, v, refl, t))
start_forth K fs l (fact_text _ f) v t = (λ h. refl, (f, v, refl, t))
start_forth K fs l (iso_text g) v t = (λ h. refl, (g, v, refl, t))
start_forth K fs l (group_text g) v t =
    (λ h. refl, need_of_goal (Closing K (parenthesis l ∷ fs)) (suc (height fs)) g (at (suc (height fs)) closing ∷ v) (v, refl, t))

-- what may follow a relation or an argument begins as it does in the state that the step leaves
relation_front : (K : Follow Shape) (p : Prefix) (n : List ℕ) (fs : List Frame) (l : Level) (w : List Placed) →
    GoalFront (after_atom fs (push l (prefixed p (atom n [])))) w K → GoalFront (after_relation p n fs l) w K
relation_front K p n fs l [] h = h
relation_front K p n fs l (at m opening ∷ w) h = absurd h.1
relation_front K p n fs l (at m _ ∷ w) h = h

args_next : (K : Follow Shape) (p : Prefix) (fs : List Frame) (l : Level) (s : Step ArgState Atom) (w : List Placed) →
    StepNext (ArgRest (suc (height fs))) s w (AfterFact K fs l p) → StepNext GoalRest (after_arg p fs l s) w K
args_next K p fs l (reading a) w h = h
args_next K p fs l (whole f) w h = h
args_next K p fs l stuck w h = h

args_before : (K : Follow Shape) (p : Prefix) (fs : List Frame) (l : Level) (s : Step ArgState Atom) (w : List Placed) →
    StepNext GoalRest (after_arg p fs l s) w K → StepNext (ArgRest (suc (height fs))) s w (AfterFact K fs l p)
args_before K p fs l (reading a) w h = h
args_before K p fs l (whole f) w h = h
args_before K p fs l stuck w h = h

args_front : (K : Follow Shape) (p : Prefix) (a : ArgState) (fs : List Frame) (l : Level) (w : List Placed) →
    StepFront step_arg (λ b. suc (height fs)) (ArgRest (suc (height fs))) a w (AfterFact K fs l p) → GoalFront (in_args p a fs l) w K
args_front K p a fs l [] h = h
args_front K p a fs l (at m t ∷ w) h = (h.0, args_next K p fs l (step_arg a t) w h.1)

pub goal_forth : (s : GoalState) (w : List Placed) (K : Follow Shape) → GoalRest s w K → GoalFront s w K
goal_forth (atom_needed fs l) w K (a, v, e, t) = subst (λ y. GoalFront (atom_needed fs l) y K) e (start_forth K fs l a v t)
goal_forth (after_atom fs l) w K h = join_forth K fs l w h
goal_forth (opening_needed fs l) w K (g, v, e, t) =
    subst (λ y. GoalFront (opening_needed fs l) y K) e
    (λ h. refl, need_of_goal (Closing K (isolation l ∷ fs)) (suc (height fs)) g (at (suc (height fs)) closing ∷ v) (v, refl, t))
goal_forth (fact_needed p fs l) w K (bare n, v, e, t) = subst (λ y. GoalFront (fact_needed p fs l) y K) e (λ h. refl, inl t)
goal_forth (fact_needed p fs l) w K (applied n c cs, v, e, t) =
    subst (λ y. GoalFront (fact_needed p fs l) y K) e (λ h. refl, inr (_, refl, (c, cs, v, refl, t)))
goal_forth (after_relation p n fs l) w K (inl t) = relation_front K p n fs l w (join_forth K fs (push l (prefixed p (atom n []))) w t)
goal_forth (after_relation p n fs l) w K (inr (v, e, t)) = subst (λ y. GoalFront (after_relation p n fs l) y K) e (λ h. refl, t)
goal_forth (in_args p a fs l) w K h = args_front K p a fs l w (arg_forth (suc (height fs)) a w (AfterFact K fs l p) h)

-- Back: a step and what may follow it may follow the state

abbrev Back : GoalState → Symbol → List Placed → Follow Shape → Type 0
Back s t w K = StepNext GoalRest (step_goal s t) w K → GoalRest s (at (depth_goal s) t ∷ w) K

join_back : (K : Follow Shape) (fs : List Frame) (l : Level) (t : Symbol) (w : List Placed) → Back (after_atom fs l) t w K
join_back K fs l star w (a, v, e, (more, ss, bs, r, e', c)) =
    let moved = subst (λ y. Closing K fs y r) (sym (push_more l (mean a) (mean_more more) (mean_more ss) (mean_more bs))) c in
    (then_text a more, ss, bs, r, ap (λ y. at (height fs) star ∷ y) (ap (spell (height fs) a) e' ∙ e), moved)
join_back K fs l bar w (a, v, e, (more, ss, bs, r, e', c)) =
    let moved = subst (λ y. Closing K fs y r) (sym (serial_more l (mean a) (mean_more more) (mean_more ss) (mean_more bs))) c in
    (no_more_text, then_text (joined a more) ss, bs, r, ap (λ y. at (height fs) bar ∷ y) (ap (spell (height fs) a) e' ∙ e), moved)
join_back K fs l plus w (a, v, e, (more, ss, bs, r, e', c)) =
    let moved = subst (λ y. Closing K fs y r) (sym (beside_more l (mean a) (mean_more more) (mean_more ss) (mean_more bs))) c in
    (no_more_text, no_more_text, then_text (joined (joined a more) ss) bs, r, ap (λ y. at (height fs) plus ∷ y) (ap (spell (height fs) a) e' ∙ e), moved)
join_back K [] l semicolon w h = (no_more_text, no_more_text, no_more_text, _, refl, (w, refl, subst (λ y. K y w) (sym (close_more l)) h))
join_back K (f ∷ fs) l closing w t =
    (no_more_text, no_more_text, no_more_text, _, refl, (w, refl, subst (λ y. Tail (Closing K fs) (height fs) (wrap f y) w) (sym (close_more l)) t))
join_back K _ l _ w h = absurd h

pub goal_back : (s : GoalState) (t : Symbol) (w : List Placed) (K : Follow Shape) → Back s t w K
goal_back (atom_needed fs l) nop_word w K t = (nop_text, w, refl, t)
goal_back (atom_needed fs l) (a_name n) w K t = (name_text n, w, refl, t)
goal_back (atom_needed fs l) question w K (f, v, e, t) = (fact_text asking f, v, ap (λ y. at (height fs) question ∷ y) e, t)
goal_back (atom_needed fs l) exclamation w K (f, v, e, t) = (fact_text denying f, v, ap (λ y. at (height fs) exclamation ∷ y) e, t)
goal_back (atom_needed fs l) ins_word w K (f, v, e, t) = (fact_text adding f, v, ap (λ y. at (height fs) ins_word ∷ y) e, t)
goal_back (atom_needed fs l) del_word w K (f, v, e, t) = (fact_text taking f, v, ap (λ y. at (height fs) del_word ∷ y) e, t)
goal_back (atom_needed fs l) iso_word w K (g, v, e, t) = (iso_text g, v, ap (λ y. at (height fs) iso_word ∷ y) e, t)
goal_back (atom_needed fs l) opening w K h =
    let (g, r, e, (v, e', t)) = goal_of_need (Closing K (parenthesis l ∷ fs)) (suc (height fs)) w h in
    (group_text g, v, ap (λ y. at (height fs) opening ∷ y) (ap (spell (suc (height fs)) g) e' ∙ e), t)
goal_back (atom_needed fs l) _ w K h = absurd h
goal_back (after_atom fs l) t w K h = join_back K fs l t w h
goal_back (opening_needed fs l) opening w K h =
    let (g, r, e, (v, e', t)) = goal_of_need (Closing K (isolation l ∷ fs)) (suc (height fs)) w h in
    (g, v, ap (λ y. at (height fs) opening ∷ y) (ap (spell (suc (height fs)) g) e' ∙ e), t)
goal_back (opening_needed fs l) _ w K h = absurd h
goal_back (fact_needed p fs l) (a_name n) w K (inl t) = (bare n, w, refl, t)
goal_back (fact_needed p fs l) (a_name n) w K (inr (v, e, (c, cs, r, e', t))) =
    (applied n c cs, r, ap (λ y. at (height fs) (a_name n) ∷ y) (ap (λ y. at (height fs) opening ∷ y) e' ∙ e), t)
goal_back (fact_needed p fs l) _ w K h = absurd h
goal_back (after_relation p n fs l) opening w K h = inr (w, refl, h)
goal_back (after_relation p n fs l) t w K h = inl (join_back K fs (push l (prefixed p (atom n []))) t w h)
goal_back (in_args p a fs l) t w K h = arg_back (suc (height fs)) a t w (AfterFact K fs l p) (args_before K p fs l (step_arg a t) w h)

-- Each state can be completed

level_completes : {X : Type 0} (K : X → Follow Shape) → ((y : Shape) → (w : List Placed) × (x : X) × K x y w) → (fs : List Frame) (l : Level) →
    (w : List Placed) × (x : X) × Tail (Closing (K x) fs) (height fs) l w
level_completes K rest [] l = let (w, x, k) = rest (close l) in (_, x, join_back (K x) [] l semicolon w k)
level_completes K rest (f ∷ fs) l = let (w, x, t) = level_completes K rest fs (wrap f (close l)) in (_, x, join_back (K x) (f ∷ fs) l closing w t)

pub nop_goal : Text goals 3
nop_goal = joined (joined (joined nop_text no_more_text) no_more_text) no_more_text

pub goal_completes : {X : Type 0} (s : GoalState) (K : X → Follow Shape) → ((y : Shape) → (w : List Placed) × (x : X) × K x y w) →
    (w : List Placed) × (x : X) × GoalRest s w (K x)
goal_completes (atom_needed fs l) K rest = let (w, x, t) = level_completes K rest fs (push l (mean nop_text)) in (_, x, (nop_text, w, refl, t))
goal_completes (after_atom fs l) K rest = level_completes K rest fs l
goal_completes (opening_needed fs l) K rest =
    let (w, x, t) = level_completes K rest fs (push l (iso (mean nop_goal))) in (_, x, (nop_goal, w, refl, t))
goal_completes (fact_needed p fs l) K rest =
    let (w, x, t) = level_completes K rest fs (push l (prefixed p (mean_fact (bare [])))) in (_, x, (bare [], w, refl, t))
goal_completes (after_relation p n fs l) K rest =
    let (w, x, t) = level_completes K rest fs (push l (prefixed p (atom n []))) in (w, x, inl t)
goal_completes (in_args p a fs l) K rest =
    arg_completes (suc (height fs)) a (λ x. AfterFact (K x) fs l p) (λ f. level_completes K rest fs (push l (prefixed p f)))
