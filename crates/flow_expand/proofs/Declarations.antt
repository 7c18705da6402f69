-- What is declared, as it is gone through, and the names that are found there.
use Rattle.std.proofs.Common.{◌≡◌, ℕ, List, [], ◌∷◌, Some, map, slice_get, refl, sym, ap, ◌∙◌, subst, inl, inr, ◌+◌, ◌<◌, ◌≤◌, ◌++◌, length, get_or, take, drop, arith, zero, suc, Bool, true, false, cond, Option, None, Bor}
use Rattle.std.specs.List.{flat_map, list_any, position_or_len}
use Rattle.std.proofs.lemmas.List.{append-nil, take-append-drop, drop_more, map-append, length-map}
use Rattle.std.proofs.lemmas.List.Concat.{flat_map-append}
use Rattle.std.specs.Prelude.{◌↔◌, IsNone, IfSome}
use Rattle.std.specs.Str.{bytes_eq}
use Rattle.std.specs.Cmp.Lexicographic.{bytes_decides}
use Rattle.std.proofs.lemmas.Option.{slice_get-get_or, slice_get_within}
use Rattle.flow_model.specs.Lists.{◌∈◌, Each, AreDistinct}
use Rattle.flow_model.specs.Trace.{Shuffle, both_end, from_left, from_right}
use Rattle.flow_model.specs.declared.labels.Note.{Note}
use Rattle.flow_model.proofs.MadeLists.{mem-flat_map, some_same}
use Rattle.flow_laws.proofs.Shuffles.{shuffle_swap, mem_shuffle_left, mem_shuffle_right, distinct_in_shuffle}
use Rattle.flow_model.proofs.Lists.{each_from_members, each_member, not_elsewhere, mem_append_left, mem_append_right, mem-slice_get}
use Rattle.flow_workflow.specs.Numbered.{IsAdded}
use Rattle.flow_workflow.proofs.Places.{place_of}
use Rattle.flow_workflow.proofs.FirstPlaces.{place_in}
use Rattle.flow_form.specs.Form.{Shape, shape_of, shapes}
use Rattle.flow_form.specs.RuleForm.{RuleShape, rule_shapes}
use Rattle.flow_form.specs.Script.{Declared, fact, event, flow, Said, declared}
use Rattle.flow_form.specs.Names.{names_in, names_in_each, names_in_rule, names_in_rules, declared_names, event_names, flow_goal, goals_of, IsClosed, event_name}
use Rattle.flow_form.specs.declared.form.Form.{Form}
use Rattle.flow_form.specs.declared.script.Decl.{Decl}
use Rattle.flow_form.specs.declared.script.Decl.TheVariants as decl
use Rattle.flow_expand.specs.Steps.{flow_of, flows_of, flow_name, flow_names, AreDeclared}
use Rattle.flow_expand.specs.Numbers.{declared_facts, event_note, notes_of}
use Rattle.flow_expand.specs.declared.directory.Directory.{Directory}
use Rattle.flow_expand.specs.Directory.{found_in, decls_of, IsDirectory}
use Rattle.flow_expand.proofs.Members.{get_map, same_place, flat_more, any_member, member_any, never_any}

-- the names of events and those of sub-workflows among all
pub names_split : (decls : List Declared) → Shuffle (event_names decls) (flow_names decls) (declared_names decls)
names_split [] = both_end
names_split (fact a ∷ ds) = names_split ds
names_split (event n note ∷ ds) = from_left (names_split ds)
names_split (flow n s ∷ ds) = from_right (names_split ds)

pub flow_named : (decls : List Declared) (n : List ℕ) (s : Shape) → flow n s ∈ decls → n ∈ flow_names decls
flow_named decls n s m = mem-flat_map flow_name (flow n s) n decls m (inl refl)

-- a name is not both an event's and a sub-workflow's
pub not_both : (decls : List Declared) (n : List ℕ) → AreDistinct (declared_names decls) → n ∈ event_names decls → n ∈ flow_names decls → ⊥
not_both [] n d e f = e
not_both (fact a ∷ ds) n d e f = not_both ds n d e f
not_both (event k note ∷ ds) n (out, d) (inl e) f = out (subst (λ z. z ∈ declared_names ds) e (mem_shuffle_right (names_split ds) n f))
not_both (event k note ∷ ds) n (out, d) (inr e) f = not_both ds n d e f
not_both (flow k s ∷ ds) n (out, d) e (inl f) = out (subst (λ z. z ∈ declared_names ds) f (mem_shuffle_left (names_split ds) n e))
not_both (flow k s ∷ ds) n (out, d) e (inr f) = not_both ds n d e f

pub distinct_flows : (decls : List Declared) → AreDistinct (declared_names decls) → AreDistinct (flow_names decls)
distinct_flows decls d = distinct_in_shuffle (shuffle_swap (names_split decls)) d

-- the places of sub-workflows
pub flow_place : (decls : List Declared) (n : List ℕ) (s : Shape) → flow n s ∈ decls → (k : ℕ) × (slice_get (flows_of decls) k ≡ Some (n, s))
flow_place decls n s m = place_of (flows_of decls) (n, s) (mem-flat_map flow_of (flow n s) (n, s) decls m (inl refl))

pub in_flows : (decls : List Declared) (n : List ℕ) (s : Shape) → (n, s) ∈ flows_of decls → flow n s ∈ decls
in_flows [] n s m = absurd m
in_flows (flow k t ∷ ds) n s (inl e) = inl (λ i. flow ((e i).0) ((e i).1))
in_flows (flow k t ∷ ds) n s (inr m) = inr (in_flows ds n s m)
in_flows (d ∷ ds) n s m = inr (in_flows ds n s m)

pub names_of_flows : (decls : List Declared) → flow_names decls ≡ map (λ (p : List ℕ × Shape). p.0) (flows_of decls)
names_of_flows [] = refl
names_of_flows (flow n s ∷ ds) = ap (λ l. n ∷ l) (names_of_flows ds)
names_of_flows (d ∷ ds) = names_of_flows ds

pub name_there : (decls : List Declared) (k : ℕ) (n : List ℕ) (s : Shape) → slice_get (flows_of decls) k ≡ Some (n, s) → slice_get (flow_names decls) k ≡ Some n
name_there decls k n s e = ap (λ l. slice_get l k) (names_of_flows decls) ∙ get_map (λ (p : List ℕ × Shape). p.0) (flows_of decls) k (n, s) e

-- a sub-workflow has one goal
pub same_goal : (decls : List Declared) (n : List ℕ) (s t : Shape) → AreDistinct (declared_names decls) → flow n s ∈ decls → flow n t ∈ decls → s ≡ t
same_goal decls n s t d e f =
    let (k, one) = flow_place decls n s e in
    let (j, other) = flow_place decls n t f in
    let same : k ≡ j = same_place (flow_names decls) k j n (distinct_flows decls d) (name_there decls k n s one) (name_there decls j n t other) in
    ap (λ (p : List ℕ × Shape). p.1) (some_same (n, s) (n, t) (sym one ∙ ap (slice_get (flows_of decls)) same ∙ other))

-- names in lists

pub names_in_shapes : (ss : List Shape) → names_in_each (shapes ss) ≡ flat_map names_in ss
names_in_shapes [] = refl
names_in_shapes (s ∷ ss) = ap (λ l. names_in s ++ l) (names_in_shapes ss)

pub names_in_all : (rs : List RuleShape) → names_in_rules (rule_shapes rs) ≡ flat_map names_in_rule rs
names_in_all [] = refl
names_in_all (r ∷ rs) = ap (λ l. names_in_rule r ++ l) (names_in_all rs)

-- each name of a goal was declared

goals_closed : (s : Said) (t : Shape) → IsClosed s → t ∈ goals_of s → Each (λ x. x ∈ declared_names s.decls) (names_in t)
goals_closed s t h m =
    each_from_members (λ x. x ∈ declared_names s.decls) (names_in t)
    (λ n used. each_member (λ x. x ∈ declared_names s.decls) (flat_map names_in (goals_of s)) h.named.in_goals n (mem-flat_map names_in t n (goals_of s) m used))

pub goals_declared : (s : Said) → IsClosed s → AreDeclared s.decls
goals_declared s h k n t at =
    goals_closed s t h
    (mem_append_left t (flat_map flow_goal s.decls) (s.goal ∷ []) (mem-flat_map flow_goal (flow n t) t s.decls (in_flows s.decls n t (mem-slice_get (flows_of s.decls) k (n, t) at)) (inl refl)))

pub goal_declared : (s : Said) → IsClosed s → Each (λ x. x ∈ declared_names s.decls) (names_in s.goal)
goal_declared s h = goals_closed s s.goal h (mem_append_right s.goal (flat_map flow_goal s.decls) (s.goal ∷ []) (inl refl))

-- names of events

pub distinct_events : (decls : List Declared) → AreDistinct (declared_names decls) → AreDistinct (event_names decls)
distinct_events decls d = distinct_in_shuffle (names_split decls) d

pub events_few : (decls : List Declared) → length (event_names decls) ≤ length decls
events_few [] = omega arith
events_few (fact a ∷ ds) = omega (arith, events_few ds)
events_few (d ∷ ds) = omega (arith, events_few ds)

pub facts_few : (decls : List Declared) → length (declared_facts decls) ≤ length decls
facts_few [] = omega arith
facts_few (fact a ∷ ds) = omega (arith, facts_few ds)
facts_few (d ∷ ds) = omega (arith, facts_few ds)

-- there is a note of each event
pub events_noted : (decls : List Declared) → length (notes_of decls) ≡ length (event_names decls)
events_noted [] = refl
events_noted (event n note ∷ ds) = omega (arith, events_noted ds)
events_noted (d ∷ ds) = events_noted ds

-- what declarations hold of a kind, as they are gone through

module _ {A : Type 0} (part : Declared → List A) (decls : List Decl) (i : ℕ) (item : Decl) (lt : i < length decls) (is : item ≡ get_or decls i item) where
  pub part_put : (x : A) (old new : List A) → part (declared item) ≡ x ∷ [] → old ≡ flat_map part (map declared (take i decls)) → new ≡ old ++ x ∷ [] →
      new ≡ flat_map part (map declared (take (i + 1) decls))
  part_put x old new one before put = put ∙ ap (λ l. l ++ x ∷ []) before ∙ ap (λ l. flat_map part (map declared (take i decls)) ++ l) (sym one) ∙ sym (flat_more part declared decls i item lt is)

  -- what is of another kind adds nothing
  pub part_passed : (old : List A) → part (declared item) ≡ [] → old ≡ flat_map part (map declared (take i decls)) → old ≡ flat_map part (map declared (take (i + 1) decls))
  part_passed old none before = before ∙ sym (append-nil _) ∙ ap (λ l. flat_map part (map declared (take i decls)) ++ l) (sym none) ∙ sym (flat_more part declared decls i item lt is)

  -- before it, its own, and after it
  part_split : flat_map part (map declared decls) ≡ flat_map part (map declared (take i decls)) ++ (part (declared item) ++ flat_map part (map declared (drop (i + 1) decls)))
  part_split =
      ap (λ l. flat_map part (map declared l)) (sym (take-append-drop i decls))
      ∙ ap (flat_map part) (map-append declared (take i decls) (drop i decls))
      ∙ flat_map-append part (map declared (take i decls)) (map declared (drop i decls))
      ∙ ap (λ l. flat_map part (map declared (take i decls)) ++ flat_map part (map declared l)) (drop_more decls i item lt)
      ∙ ap (λ d. flat_map part (map declared (take i decls)) ++ (part (declared d) ++ flat_map part (map declared (drop (i + 1) decls)))) (sym is)

  -- where none stands twice, a new one goes last
  pub part_added : (x : A) (old new : List A) → AreDistinct (flat_map part (map declared decls)) → part (declared item) ≡ x ∷ [] → old ≡ flat_map part (map declared (take i decls)) →
      IsAdded old x new → new ≡ flat_map part (map declared (take (i + 1) decls))
  part_added x old new distinct one before put = part_put x old new one before (put.missing out)
    where
      rest : List A
      rest = flat_map part (map declared (drop (i + 1) decls))

      out : ¬ (x ∈ old)
      out m =
          (not_elsewhere (flat_map part (map declared (take i decls))) rest x
          (subst AreDistinct (part_split ∙ ap (λ l. flat_map part (map declared (take i decls)) ++ (l ++ rest)) one) distinct)).0
          (subst (λ l. x ∈ l) before m)

pub not_event : (d : Decl) → ((n : List ℕ) (note : Note) → ¬ (d ≡ decl.Event n note)) → (event_name (declared d) ≡ []) × (event_note (declared d) ≡ [])
not_event (decl.Event n note) h = absurd (h n note refl)
not_event d h = (refl, refl)

pub not_flow : (d : Decl) → ((n : List ℕ) (f : Form) → ¬ (d ≡ decl.Flow n f)) → (flow_name (declared d) ≡ []) × (flow_goal (declared d) ≡ [])
not_flow (decl.Flow n f) h = absurd (h n f refl)
not_flow d h = (refl, refl)

pub found_is : (names : List (List ℕ)) (n : List ℕ) (r : Option ℕ) → AreDistinct names → (IsNone r ↔ ¬ (n ∈ names)) → IfSome r (λ k. slice_get names k ≡ Some n) → r ≡ found_in names n
found_is names n None d none at = sym (ap (λ b. cond b (Some (position_or_len (bytes_eq n) names)) None) (never_any bytes_eq bytes_decides n names (none.0 refl)))
found_is names n (Some k) d none at =
    ap Some (sym (place_in bytes_eq bytes_decides names k n d at))
    ∙ sym (ap (λ b. cond b (Some (position_or_len (bytes_eq n) names)) None) (member_any bytes_eq bytes_decides n names (mem-slice_get names k n at)))

-- what is found stands there
pub found_at : (names : List (List ℕ)) (n : List ℕ) (k : ℕ) → AreDistinct names → found_in names n ≡ Some k → slice_get names k ≡ Some n
found_at names n k d e = go (list_any (bytes_eq n) names) refl
  where
    go : (t : Bool) → list_any (bytes_eq n) names ≡ t → slice_get names k ≡ Some n
    go true f =
        let (i, at) = place_of names n (any_member bytes_eq bytes_decides n names f) in
        let g : Some (position_or_len (bytes_eq n) names) ≡ Some k = sym (ap (λ b. cond b (Some (position_or_len (bytes_eq n) names)) None) f) ∙ e in
        let same : position_or_len (bytes_eq n) names ≡ k = cc in
        subst (λ j. slice_get names j ≡ Some n) (sym (place_in bytes_eq bytes_decides names i n d at) ∙ same) at
    go false f = let g : None ≡ Some k = sym (ap (λ b. cond b (Some (position_or_len (bytes_eq n) names)) None) f) ∙ e in cc

-- and what is not found is none of them
pub found_none : (names : List (List ℕ)) (n : List ℕ) → found_in names n ≡ None → ¬ (n ∈ names)
found_none names n e m =
    let g : None ≡ Some (position_or_len (bytes_eq n) names) =
    sym e ∙ ap (λ b. cond b (Some (position_or_len (bytes_eq n) names)) None) (member_any bytes_eq bytes_decides n names m) in
    cc

-- names and goals of sub-workflows

goals_of_flows : (decls : List Declared) → flat_map flow_goal decls ≡ map (λ (p : List ℕ × Shape). p.1) (flows_of decls)
goals_of_flows [] = refl
goals_of_flows (flow n s ∷ ds) = ap (λ l. s ∷ l) (goals_of_flows ds)
goals_of_flows (d ∷ ds) = goals_of_flows ds

pub of_get_map : {A B : Type 0} (f : A → B) (xs : List A) (i : ℕ) (y : B) → slice_get (map f xs) i ≡ Some y → (x : A) × (slice_get xs i ≡ Some x) × (f x ≡ y)
of_get_map f [] i y e = cc
of_get_map f (x ∷ xs) zero y e = (x, refl, let g : Some (f x) ≡ Some y = e in cc)
of_get_map f (x ∷ xs) (suc i) y e = of_get_map f xs i y e

pub flow_with_name : (decls : List Declared) (k : ℕ) (n : List ℕ) → slice_get (flow_names decls) k ≡ Some n → (s : Shape) × (slice_get (flows_of decls) k ≡ Some (n, s))
flow_with_name decls k n e =
    let (p, at, is) = of_get_map (λ (p : List ℕ × Shape). p.0) (flows_of decls) k n (ap (λ l. slice_get l k) (sym (names_of_flows decls)) ∙ e) in
    (p.1, at ∙ (λ i. Some (is i, p.1)))

pub flow_with_goal : (decls : List Declared) (k : ℕ) (s : Shape) → slice_get (flat_map flow_goal decls) k ≡ Some s → (n : List ℕ) × (slice_get (flows_of decls) k ≡ Some (n, s))
flow_with_goal decls k s e =
    let (p, at, is) = of_get_map (λ (p : List ℕ × Shape). p.1) (flows_of decls) k s (ap (λ l. slice_get l k) (sym (goals_of_flows decls)) ∙ e) in
    (p.0, at ∙ (λ i. Some (p.0, is i)))

module _ (d : Directory) (h : IsDirectory d) where
  pub goals_counted : length d.goals.items ≡ length (flows_of (decls_of d))
  goals_counted =
      sym (length-map d.goals.items (λ (f : Bor Form). shape_of f.now)) ∙ ap length (h.goals ∙ goals_of_flows (decls_of d)) ∙ length-map (flows_of (decls_of d)) (λ (p : List ℕ × Shape). p.1)

  pub names_counted : length d.goals.items ≡ length (flow_names (decls_of d))
  names_counted = goals_counted ∙ sym (ap length (names_of_flows (decls_of d)) ∙ length-map (flows_of (decls_of d)) (λ (p : List ℕ × Shape). p.0))

  pub flows_below : (k : ℕ) (n : List ℕ) (s : Shape) → slice_get (flows_of (decls_of d)) k ≡ Some (n, s) → k < length d.goals.items
  flows_below k n s e = omega (arith, slice_get_within (flows_of (decls_of d)) k (n, s) e, goals_counted)

  -- the sub-workflow of a number
  pub flow_of_goal : (k : ℕ) (f : Bor Form) → slice_get d.goals.items k ≡ Some f → (n : List ℕ) × (slice_get (flows_of (decls_of d)) k ≡ Some (n, shape_of f.now))
  flow_of_goal k f at =
      flow_with_goal (decls_of d) k (shape_of f.now) (ap (λ l. slice_get l k) (sym h.goals) ∙ get_map (λ (g : Bor Form). shape_of g.now) d.goals.items k f at)

  pub flow_at : (k : ℕ) (f : Bor Form) → k < length d.goals.items → f ≡ get_or d.goals.items k f → (n : List ℕ) × (slice_get (flows_of (decls_of d)) k ≡ Some (n, shape_of f.now))
  flow_at k f lt is = flow_of_goal k f (slice_get-get_or d.goals.items k f lt ∙ ap Some (sym is))

  -- and that of a name
  pub flow_found : (n : List ℕ) (k : ℕ) → found_in d.flows n ≡ Some k → (s : Shape) × (slice_get (flows_of (decls_of d)) k ≡ Some (n, s))
  flow_found n k e =
      flow_with_name (decls_of d) k n
      (found_at (flow_names (decls_of d)) n k (distinct_flows (decls_of d) h.once) (ap (λ l. found_in l n) (sym h.flows) ∙ e))
