-- Sub-workflows that are laid one after another, those that their goals name, and rings of them.
use Rattle.std.proofs.Common.{◌≡◌, ◌≢◌, ℕ, zero, suc, ◌+◌, ◌-◌, ◌<◌, List, [], ◌∷◌, ◌++◌, ◌⊎◌, length, get_or, set, slice_get, Option, Some, None, refl, sym, ap, ◌∙◌, subst, inl, inr, ⊎_elim, arith, ◌≤◌, map, take, Vec, Global, Bor, drop}
use Rattle.std.specs.Prelude.{All, MatchOption}
use Rattle.std.proofs.lemmas.Option.{slice_get-get_or, slice_get_within, get_or_from_slice_get}
use Rattle.std.proofs.lemmas.List.{append_assoc, length-set, get_or-set_same, append-nil, length-map, map-append, take-append-drop, drop_more, take_more, take_all}
use Rattle.std.proofs.lemmas.Bool.Decides.{eqb_tells}
use Rattle.std.specs.Option.{option_to_list}
use Rattle.std.proofs.lemmas.Bool.{cases_lt}
use Rattle.std.proofs.lemmas.List.Concat.{flat_map-append}
use Rattle.flow_model.specs.Lists.{◌∈◌, AreDistinct, Begins, Each, StandsBefore}
use Rattle.flow_model.proofs.MadeLists.{some_same, mem-flat_map, of_flat_map, of_map}
use Rattle.flow_model.proofs.Lists.{distinct_right, distinct_parts, distinct-append, mem_append_left, mem_append_right, mem-append, mem-slice_get}
use Rattle.flow_workflow.proofs.Places.{distinct_more, place_of}
use Rattle.flow_form.specs.Form.{Shape, shape_of, shapes}
use Rattle.flow_form.specs.Script.{Declared, flow}
use Rattle.flow_form.specs.declared.form.Form.{Form}
use Rattle.flow_form.specs.Names.{names_in, names_in_each}
use Rattle.flow_expand.specs.declared.directory.Directory.{Directory}
use Rattle.flow_expand.specs.declared.layout.Piece.{Piece}
use Rattle.flow_expand.specs.declared.layout.Root.{Root}
use Rattle.flow_expand.specs.declared.lay.Stage.{Stage}
use Rattle.flow_expand.specs.Steps.{flows_of, flow_names, IsStep, LeadsTo, IsRecursion}
use Rattle.flow_expand.specs.Directory.{decls_of, IsDirectory, found_in}
use Rattle.flow_expand.specs.Lay.{Goes, IsLaid, IsLaidAt}
use Rattle.flow_expand.specs.Settlement.{NumberStep, AreSteps, IsPath, IsIdle, Stays, weight, work_left, ComesBack, name_at}
use Rattle.flow_expand.specs.declared.settlement.Settlement.{Settlement}
use Rattle.flow_expand.specs.Calls.{calls_in, AreCalls, AreSeen, IsSettlement}
use Rattle.flow_expand.specs.declared.lay.Stage.TheVariants as stage
use Rattle.flow_expand.proofs.Members.{get_map, same_place, flat_more}
use Rattle.flow_expand.proofs.LayLemmas.{laid_more}
use Rattle.flow_expand.proofs.Declarations.{of_get_map, flow_of_goal, flow_found, in_flows, name_there, names_in_shapes}

pub get_set_same : {A : Type 0} (xs : List A) (i : ℕ) (y : A) → i < length xs → slice_get (set xs i y) i ≡ Some y
get_set_same xs i y lt = slice_get-get_or (set xs i y) i y (subst (λ n. i < n) (sym (length-set xs i y)) lt) ∙ ap Some (get_or-set_same xs i y y lt)

pub get_set_other : {A : Type 0} (xs : List A) (i k : ℕ) (y : A) → k ≢ i → slice_get (set xs i y) k ≡ slice_get xs k
get_set_other (x ∷ xs) zero zero y n = absurd (n refl)
get_set_other (x ∷ xs) (suc i) (suc k) y n = get_set_other xs i k y (λ e. n (omega arith))
get_set_other xs i k y n = refl

pub same_or_not : (k i : ℕ) → (k ≡ i) ⊎ (k ≢ i)
same_or_not k i = ⊎_elim (λ e. inl e.1) (λ n. inr n.1) (eqb_tells k i)

-- what stands in a list after a write
pub get_set_cases : {A : Type 0} (xs : List A) (i k : ℕ) (y z : A) → slice_get (set xs i y) k ≡ Some z → ((k ≡ i) × (z ≡ y)) ⊎ (slice_get xs k ≡ Some z)
get_set_cases (x ∷ xs) zero zero y z e = inl (refl, let f : Some y ≡ Some z = e in cc)
get_set_cases (x ∷ xs) (suc i) (suc k) y z e = ⊎_elim (λ p. inl (omega arith, p.1)) (λ q. inr q) (get_set_cases xs i k y z e)
get_set_cases xs i k y z e = inr e

pub laid_set : (d : Directory) (laid : List Stage) (old new : List Piece) (k : ℕ) (n : List ℕ) (s : Shape) (root : Root) → IsLaid d laid old → Begins new old →
    slice_get (flows_of (decls_of d)) k ≡ Some (n, s) → Goes (decls_of d) new s root → IsLaid d (set laid k (stage.Laid root)) new
laid_set d laid old new k n s root h grown at goes = record {
  directory = h.directory;
  flows = λ j other m t e f. ⊎_elim
      (λ p.
      let same : other ≡ root = let g : stage.Laid other ≡ stage.Laid root = p.1 in cc in
      let u : s ≡ t = let g : Some (n, s) ≡ Some (m, t) = sym at ∙ ap (slice_get (flows_of (decls_of d))) (sym p.0) ∙ f in ap (λ (q : List ℕ × Shape). q.1) (some_same (n, s) (m, t) g) in
      subst (λ r. Goes (decls_of d) new t r) (sym same) (subst (λ v. Goes (decls_of d) new v root) u goes))
      (λ q. (laid_more d laid old new grown h).flows j other m t q f)
      (get_set_cases laid k j (stage.Laid root) (stage.Laid other) e);
}

-- the work that a write leaves
pub work_set : (laid : List Stage) (i : ℕ) (old new : Stage) → slice_get laid i ≡ Some old → work_left (set laid i new) + weight old ≡ work_left laid + weight new
work_set [] i old new e = absurd (cc)
work_set (p ∷ ps) zero old new e = let f : Some p ≡ Some old = e in let g : p ≡ old = cc in subst (λ o. weight new + work_left ps + weight o ≡ weight p + work_left ps + weight new) g (omega arith)
work_set (p ∷ ps) (suc i) old new e = let h = work_set ps i old new e in omega (arith, h)

-- steps of a path

steps_begin : (decls : List Declared) (xs ys : List ℕ) → AreSteps decls (xs ++ ys) → AreSteps decls xs
steps_begin decls [] ys s = tt
steps_begin decls (x ∷ []) ys s = tt
steps_begin decls (x ∷ z ∷ xs) ys s = (s.0, steps_begin decls (z ∷ xs) ys s.1)

steps_glue : (decls : List Declared) (xs : List ℕ) (h : ℕ) (ys : List ℕ) → AreSteps decls (xs ++ h ∷ []) → AreSteps decls (h ∷ ys) → AreSteps decls (xs ++ h ∷ ys)
steps_glue decls [] h ys s t = t
steps_glue decls (x ∷ []) h ys s t = (s.0, t)
steps_glue decls (x ∷ z ∷ xs) h ys s t = (s.0, steps_glue decls (z ∷ xs) h ys s.1 t)

-- one more waits
pub path_more : (decls : List Declared) (laid : List Stage) (front : List ℕ) (last next : ℕ) → IsPath decls laid (front ++ last ∷ []) → NumberStep decls last next →
    slice_get laid next ≡ Some stage.Unlaid → IsPath decls (set laid next stage.Begun) (front ++ last ∷ [] ++ next ∷ [])
path_more decls laid front last next h step unlaid = record {
  steps = subst (AreSteps decls) (sym (append_assoc front (last ∷ []) (next ∷ []))) (steps_glue decls front last (next ∷ []) h.steps (step, tt));
  distinct = distinct_more (front ++ last ∷ []) next h.distinct (λ m. apart next refl (h.begun next m));
  begun = λ k m. ⊎_elim
      (λ i. get_set_other laid next k stage.Begun (λ e. apart k e (h.begun k i)) ∙ h.begun k i)
      (λ o. ⊎_elim (λ e. ap (slice_get (set laid next stage.Begun)) e ∙ get_set_same laid next stage.Begun (slice_get_within laid next stage.Unlaid unlaid)) (λ f. absurd f) o)
      (mem-append k (front ++ last ∷ []) (next ∷ []) m);
  only = λ k e. ⊎_elim
      (λ p. mem_append_right k (front ++ last ∷ []) (next ∷ []) (inl p.0))
      (λ q. mem_append_left k (front ++ last ∷ []) (next ∷ []) (h.only k q))
      (get_set_cases laid next k stage.Begun stage.Begun e);
}
  where
    apart : (k : ℕ) → k ≡ next → slice_get laid k ≡ Some stage.Begun → ⊥
    apart k e b = let f : Some stage.Begun ≡ Some stage.Unlaid = sym b ∙ ap (slice_get laid) e ∙ unlaid in cc

-- the last is laid
pub path_less : (decls : List Declared) (laid : List Stage) (front : List ℕ) (last : ℕ) (root : Root) → IsPath decls laid (front ++ last ∷ []) →
    IsPath decls (set laid last (stage.Laid root)) front
path_less decls laid front last root h = record {
  steps = steps_begin decls front (last ∷ []) h.steps;
  distinct = d.0;
  begun = λ k m. get_set_other laid last k (stage.Laid root) (λ e. d.1 (subst (λ j. j ∈ front) e m)) ∙ h.begun k (mem_append_left k front (last ∷ []) m);
  only = λ k e. ⊎_elim
      (λ p. let f : stage.Begun ≡ stage.Laid root = p.1 in absurd (cc))
      (λ q. ⊎_elim (λ m. m) (λ o. ⊎_elim (λ same. absurd (not_begun k same e)) (λ f. absurd f) o) (mem-append k front (last ∷ []) (h.only k q)))
      (get_set_cases laid last k (stage.Laid root) stage.Begun e);
}
  where
    d : AreDistinct front × ¬ (last ∈ front)
    d = let (x, y, z) = distinct_parts front (last ∷ []) h.distinct in (x, λ m. z last m (inl refl))

    not_begun : (k : ℕ) → k ≡ last → slice_get (set laid last (stage.Laid root)) k ≡ Some stage.Begun → ⊥
    not_begun k same e =
        let f : Some (stage.Laid root) ≡ Some stage.Begun =
        sym (get_set_same laid last (stage.Laid root) (slice_get_within laid last stage.Begun (h.begun last (mem_append_right last front (last ∷ []) (inl refl))))) ∙ ap (slice_get (set laid last (stage.Laid root))) (sym same) ∙ e in
        cc

pub path_push : (decls : List Declared) (laid : List Stage) (path new front : List ℕ) (last next : ℕ) → path ≡ front ++ last ∷ [] → IsPath decls laid path → NumberStep decls last next →
    slice_get laid next ≡ Some stage.Unlaid → new ≡ path ++ next ∷ [] → IsPath decls (set laid next stage.Begun) new
path_push decls laid path new front last next is h step unlaid grown =
    subst (IsPath decls (set laid next stage.Begun)) (sym (grown ∙ ap (λ l. l ++ next ∷ []) is)) (path_more decls laid front last next (subst (IsPath decls laid) is h) step unlaid)

pub path_pop : (decls : List Declared) (laid : List Stage) (path new front : List ℕ) (last : ℕ) (root : Root) → path ≡ front ++ last ∷ [] → IsPath decls laid path →
    new ≡ front → IsPath decls (set laid last (stage.Laid root)) new
path_pop decls laid path new front last root is h less =
    subst (IsPath decls (set laid last (stage.Laid root))) (sym less) (path_less decls laid front last root (subst (IsPath decls laid) is h))

stays_set : (laid : List Stage) (k : ℕ) (old new : Stage) → slice_get laid k ≡ Some old → ((root : Root) → old ≡ stage.Laid root → ⊥) → (new ≡ stage.Unlaid → ⊥) → Stays laid (set laid k new)
stays_set laid k old new at unlaid done = record {
  as_many = length-set laid k new;
  laid = λ j root e. ⊎_elim
      (λ same. let f : Some old ≡ Some (stage.Laid root) = sym at ∙ ap (slice_get laid) (sym same) ∙ e in let g : old ≡ stage.Laid root = cc in absurd (unlaid root g))
      (λ other. get_set_other laid k j new other ∙ e)
      (same_or_not j k);
  unlaid = λ j e. ⊎_elim (λ p. absurd (done (sym p.1))) (λ q. q) (get_set_cases laid k j new stage.Unlaid e);
}

pub stays_begun : (laid : List Stage) (k : ℕ) → slice_get laid k ≡ Some stage.Unlaid → Stays laid (set laid k stage.Begun)
stays_begun laid k at = stays_set laid k stage.Unlaid stage.Begun at (λ root e. cc) (λ e. cc)

pub stays_laid : (laid : List Stage) (k : ℕ) (root : Root) → slice_get laid k ≡ Some stage.Begun → Stays laid (set laid k (stage.Laid root))
stays_laid laid k root at = stays_set laid k stage.Begun (stage.Laid root) at (λ other e. cc) (λ e. cc)

pub stays_twice : (a b c : List Stage) → Stays a b → Stays b c → Stays a c
stays_twice a b c x y = record {
  as_many = y.as_many ∙ x.as_many;
  laid = λ k root e. y.laid k root (x.laid k root e);
  unlaid = λ k e. x.unlaid k (y.unlaid k e);
}

pub path_within : (decls : List Declared) (laid : List Stage) (path : List ℕ) (n : ℕ) → IsPath decls laid path → length laid ≡ n → All (λ k. k < n) path
path_within decls laid path n h count = λ k d lt. subst (λ m. get_or path k d < m) count (slice_get_within laid (get_or path k d) stage.Begun (h.begun (get_or path k d) (mem-slice_get path k (get_or path k d) (slice_get-get_or path k d lt))))

pub laid_begun : (d : Directory) (laid : List Stage) (layout : List Piece) (k : ℕ) → IsLaid d laid layout → IsLaid d (set laid k stage.Begun) layout
laid_begun d laid layout k h = record {
  directory = h.directory;
  flows = λ j root m t e f. ⊎_elim
      (λ p. let g : stage.Laid root ≡ stage.Begun = p.1 in absurd (cc))
      (λ q. h.flows j root m t q f)
      (get_set_cases laid k j stage.Begun (stage.Laid root) e);
}

pub last_begun : (decls : List Declared) (laid : List Stage) (path front : List ℕ) (last : ℕ) → IsPath decls laid path → path ≡ front ++ last ∷ [] → slice_get laid last ≡ Some stage.Begun
last_begun decls laid path front last h is = h.begun last (subst (λ l. last ∈ l) (sym is) (mem_append_right last front (last ∷ []) (inl refl)))

pub when_none : {T : Type 0} (o : Option T) (P : Type 0) (Q : T → Type 0) → o ≡ None → MatchOption o P Q → P
when_none None P Q e h = h
when_none (Some x) P Q e h = absurd (cc)

pub when_some : {T : Type 0} (o : Option T) (P : Type 0) (Q : T → Type 0) (x : T) → o ≡ Some x → MatchOption o P Q → Q x
when_some None P Q x e h = absurd (cc)
when_some (Some y) P Q x e h = subst Q (some_same y x e) h

-- the last of the path was laid
pub record IsDone (decls : List Declared) (old new : List Stage) (shorter : List ℕ) : Type 0 where
  pub path : IsPath decls new shorter
  pub stays : Stays old new
  pub less : work_left new + 1 ≡ work_left old

pub done : (decls : List Declared) (old new : List Stage) (path shorter front : List ℕ) (last : ℕ) → (root : Root) × (new ≡ set old last (stage.Laid root)) → IsPath decls old path →
    path ≡ front ++ last ∷ [] → shorter ≡ front → IsDone decls old new shorter
done decls old new path shorter front last (root, e) h is less =
    subst (λ l. IsDone decls old l shorter) (sym e) (record {
      path = path_pop decls old path shorter front last root is h less;
      stays = stays_laid old last root at;
      less = omega (arith, work_set old last stage.Begun (stage.Laid root) at);
    })
  where
    at : slice_get old last ≡ Some stage.Begun
    at = last_begun decls old path front last h is

-- where none waits, each is unlaid or laid
pub settled : (laid : List Stage) (k : ℕ) → IsIdle laid → k < length laid → (slice_get laid k ≡ Some stage.Unlaid) ⊎ IsLaidAt laid k
settled laid k idle lt = go (slice_get laid k) refl
  where
    go : (o : Option Stage) → slice_get laid k ≡ o → (slice_get laid k ≡ Some stage.Unlaid) ⊎ IsLaidAt laid k
    go None e = let f : Some (get_or laid k stage.Unlaid) ≡ None = sym (slice_get-get_or laid k stage.Unlaid lt) ∙ e in absurd (cc)
    go (Some stage.Unlaid) e = inl e
    go (Some stage.Begun) e = absurd (idle k e)
    go (Some (stage.Laid root)) e = inr (root, e)

pub stays_at : (old new : List Stage) (k : ℕ) → Stays old new → IsLaidAt old k → IsLaidAt new k
stays_at old new k h (root, e) = (root, h.laid k root e)

pub last_some : (xs path : List ℕ) (n y : ℕ) → xs ≡ path → n ≡ length path → slice_get xs (length xs - 1) ≡ Some y → path ≡ take (n - 1) path ++ y ∷ []
last_some xs path n y same count e =
    let at : slice_get path (length path - 1) ≡ Some y = subst (λ l. slice_get l (length l - 1) ≡ Some y) same e in
    let lt : length path - 1 < length path = slice_get_within path (length path - 1) y at in
    let whole : length path - 1 + 1 ≡ length path = omega arith in
    sym (take_all (length path) path (omega arith)) ∙ ap (λ k. take k path) (sym whole) ∙ take_more path (length path - 1) 0 lt
    ∙ (λ i. take (sym count i - 1) path ++ get_or_from_slice_get path (length path - 1) y 0 at i ∷ [])

of_option : (o : Option ℕ) (j : ℕ) → j ∈ option_to_list o → o ≡ Some j
of_option None j m = absurd m
of_option (Some k) j (inl e) = ap Some (sym e)
of_option (Some k) j (inr m) = absurd m

-- the calls of a sub-workflow

pub calls_at : (d : Directory) (calls : List (Vec ℕ Global)) (k : ℕ) (list : Vec ℕ Global) (f : Bor Form) → AreCalls d calls → slice_get calls k ≡ Some list →
    k < length d.goals.items → f ≡ get_or d.goals.items k f → list.items ≡ calls_in d.flows (names_in (shape_of f.now))
calls_at d calls k list f h at lt is =
    let one = get_map (λ (v : Vec ℕ Global). v.items) calls k list at in
    let two = get_map (λ (g : Bor Form). calls_in d.flows (names_in (shape_of g.now))) d.goals.items k f (slice_get-get_or d.goals.items k f lt ∙ ap Some (sym is)) in
    let both : Some list.items ≡ Some (calls_in d.flows (names_in (shape_of f.now))) = sym one ∙ ap (λ l. slice_get l k) h ∙ two in
    cc

pub calls_many : (d : Directory) (calls : List (Vec ℕ Global)) → AreCalls d calls → length calls ≡ length d.goals.items
calls_many d calls h =
    sym (length-map calls (λ (v : Vec ℕ Global). v.items)) ∙ ap length h ∙ length-map d.goals.items (λ (g : Bor Form). calls_in d.flows (names_in (shape_of g.now)))

pub list_at : (d : Directory) (s : Settlement) (k : ℕ) (list : Vec ℕ Global) → IsSettlement d s → k < d.goals.len → list ≡ get_or s.calls.items k list → slice_get s.calls.items k ≡ Some list
list_at d s k list h lt is = slice_get-get_or s.calls.items k list (omega (arith, lt, d.goals.ok.0, calls_many d s.calls.items h.calls)) ∙ ap Some (sym is)

-- each is a step
calls_step : (d : Directory) (k i j : ℕ) (list : List ℕ) (n : List ℕ) (s : Shape) → IsDirectory d → slice_get (flows_of (decls_of d)) k ≡ Some (n, s) →
    list ≡ calls_in d.flows (names_in s) → slice_get list i ≡ Some j → NumberStep (decls_of d) k j
calls_step d k i j list n s h at is there =
    let (m, used, found) = of_flat_map (λ n. option_to_list (found_in d.flows n)) j (names_in s) (subst (λ l. j ∈ l) is (mem-slice_get list i j there)) in
    let (t, second) = flow_found d h m j (of_option (found_in d.flows m) j found) in
    record { name = n; goal = s; other = m; others = t; first = at; second = second; names = used }

pub calls_found : (d : Directory) (calls : List (Vec ℕ Global)) (k i j : ℕ) (list : Vec ℕ Global) → IsDirectory d → AreCalls d calls → k < length d.goals.items → slice_get calls k ≡ Some list →
    slice_get list.items i ≡ Some j → NumberStep (decls_of d) k j
calls_found d calls k i j list h are lt at there =
    let (f, here, same) = of_get_map (λ (g : Bor Form). calls_in d.flows (names_in (shape_of g.now))) d.goals.items k list.items
    (ap (λ l. slice_get l k) (sym are) ∙ get_map (λ (v : Vec ℕ Global). v.items) calls k list at) in
    let (n, goal) = flow_of_goal d h k f here in
    calls_step d k i j list.items n (shape_of f.now) h goal (sym same) there

-- a sub-workflow that is named is called
pub named_call : (flows : List (List ℕ)) (ns : List (List ℕ)) (n : List ℕ) (k : ℕ) → n ∈ ns → found_in flows n ≡ Some k → k ∈ calls_in flows ns
named_call flows ns n k m e = mem-flat_map (λ n. option_to_list (found_in flows n)) n k ns m (subst (λ o. k ∈ option_to_list o) (sym e) (inl refl))

-- where those before its end are laid, all are
pub all_laid : (laid : List Stage) (ahead : ℕ) (list : List ℕ) → slice_get list ahead ≡ None → ((i k : ℕ) → i < ahead → slice_get list i ≡ Some k → IsLaidAt laid k) →
    (j : ℕ) → j ∈ list → IsLaidAt laid j
all_laid laid ahead list ends all j m = let (i, at) = place_of list j m in all i j (before list ahead i j ends at) at
  where
    before : (xs : List ℕ) (a i x : ℕ) → slice_get xs a ≡ None → slice_get xs i ≡ Some x → i < a
    before [] a i x e f = cc
    before (y ∷ xs) zero i x e f = cc
    before (y ∷ xs) (suc a) zero x e f = omega arith
    before (y ∷ xs) (suc a) (suc i) x e f = let h = before xs a i x e f in omega (arith, h)

-- as far as was seen before, and on
pub seen_to : (d : Directory) (s : Settlement) (k start ahead : ℕ) (list : Vec ℕ Global) (called : List ℕ) (laid : List Stage) → IsSettlement d s → slice_get s.calls.items k ≡ Some list →
    k < d.goals.len → start ≡ get_or s.seen.items k start → called ≡ list.items → laid ≡ s.laid.items →
    ((i j : ℕ) → start ≤ i → i < ahead → slice_get called i ≡ Some j → IsLaidAt laid j) → (i j : ℕ) → i < ahead → slice_get list.items i ≡ Some j → IsLaidAt s.laid.items j
seen_to d s k start ahead list called laid h at lt is same now more i j below there =
    ⊎_elim (λ before. h.seen k i j start list at (slice_get-get_or s.seen.items k start (subst (λ m. k < m) (sym h.counted ∙ s.seen.ok.0) lt) ∙ ap Some (sym is)) before there)
    (λ after. subst (λ l. IsLaidAt l j) now (more i j after below (ap (λ l. slice_get l i) same ∙ there))) (cases_lt i start)

pub seen_moved : (calls : List (Vec ℕ Global)) (seen : List ℕ) (laid : List Stage) (k ahead : ℕ) (list : Vec ℕ Global) → slice_get calls k ≡ Some list →
    AreSeen calls seen laid → ((i j : ℕ) → i < ahead → slice_get list.items i ≡ Some j → IsLaidAt laid j) → AreSeen calls (set seen k ahead) laid
seen_moved calls seen laid k ahead list at h all m i j n other there is lt e =
    ⊎_elim
    (λ p.
    let f : Some other ≡ Some list = sym there ∙ ap (slice_get calls) p.0 ∙ at in
    let same : other ≡ list = cc in
    all i j (subst (λ b. i < b) p.1 lt) (ap (λ (l : Vec ℕ Global). slice_get l.items i) (sym same) ∙ e))
    (λ q. h m i j n other there q lt e)
    (get_set_cases seen k m ahead n is)

pub laid_stays : (laid : List Stage) (k j : ℕ) (root : Root) → IsLaidAt laid j → IsLaidAt (set laid k (stage.Laid root)) j
laid_stays laid k j root (r, e) =
    ⊎_elim
    (λ same. (root, ap (slice_get (set laid k (stage.Laid root))) same ∙ get_set_same laid k (stage.Laid root) (subst (λ i. i < length laid) same (slice_get_within laid j (stage.Laid r) e))))
    (λ other. (r, get_set_other laid k j (stage.Laid root) other ∙ e))
    (same_or_not j k)

pub seen_kept : (calls : List (Vec ℕ Global)) (seen : List ℕ) (old new : List Stage) → ((j : ℕ) → IsLaidAt old j → IsLaidAt new j) → AreSeen calls seen old → AreSeen calls seen new
seen_kept calls seen old new kept h m i j n list there is lt e = kept j (h m i j n list there is lt e)

-- the names of one more goal

pub calls_more : (flows : List (List ℕ)) (forms : List Form) (i : ℕ) (item : Form) (old now new : List ℕ) → i < length forms → item ≡ get_or forms i item →
    now ≡ old ++ calls_in flows (names_in_each (shapes (map shape_of (take i forms)))) → new ≡ now ++ calls_in flows (names_in (shape_of item)) →
    new ≡ old ++ calls_in flows (names_in_each (shapes (map shape_of (take (i + 1) forms))))
calls_more flows forms i item old now new lt is before more =
    more ∙ ap (λ l. l ++ calls_in flows (names_in (shape_of item))) before
    ∙ append_assoc old (calls_in flows (names_in_each (shapes so_far))) (calls_in flows (names_in (shape_of item)))
    ∙ ap (λ l. old ++ l) (sym (flat_map-append (λ n. option_to_list (found_in flows n)) (names_in_each (shapes so_far)) (names_in (shape_of item))))
    ∙ ap (λ ns. old ++ calls_in flows ns)
    (ap (λ l. l ++ names_in (shape_of item)) (names_in_shapes so_far) ∙ sym (flat_more names_in shape_of forms i item lt is) ∙ sym (names_in_shapes (map shape_of (take (i + 1) forms))))
  where
    so_far : List Shape
    so_far = map shape_of (take i forms)

-- names and numbers

name_is : (decls : List Declared) (k : ℕ) (n : List ℕ) (s : Shape) → slice_get (flows_of decls) k ≡ Some (n, s) → name_at decls k ≡ n
name_is decls k n s e = get_or_from_slice_get (flow_names decls) k n [] (name_there decls k n s e)

step_of : (decls : List Declared) (k j : ℕ) → NumberStep decls k j → IsStep decls (name_at decls k) (name_at decls j)
step_of decls k j h = record {
  goal = h.goal;
  is_goal = subst (λ n. flow n h.goal ∈ decls) (sym (name_is decls k h.name h.goal h.first)) (in_flows decls h.name h.goal (mem-slice_get (flows_of decls) k (h.name, h.goal) h.first));
  names = subst (λ n. n ∈ names_in h.goal) (sym (name_is decls j h.other h.others h.second)) h.names;
  is_flow = subst (λ n. n ∈ flow_names decls) (sym (name_is decls j h.other h.others h.second)) (mem-slice_get (flow_names decls) j h.other (name_there decls j h.other h.others h.second));
}

leads_of : (decls : List Declared) (k : ℕ) (more : List ℕ) (last : ℕ) → AreSteps decls (k ∷ (more ++ last ∷ [])) → LeadsTo decls (name_at decls last) (name_at decls k) (map (name_at decls) more)
leads_of decls k [] last (s, t) = step_of decls k last s
leads_of decls k (j ∷ more) last (s, t) = (step_of decls k j s, leads_of decls j more last t)

-- the number of a name

stands_before : {A : Type 0} (xs : List A) (i j : ℕ) (x y : A) → slice_get xs i ≡ Some x → slice_get xs j ≡ Some y → i < j → StandsBefore x y xs
stands_before [] i j x y e f lt = absurd (cc)
stands_before (z ∷ xs) zero (suc j) x y e f lt = inl (let g : Some z ≡ Some x = e in (cc), mem-slice_get xs j y f)
stands_before (z ∷ xs) (suc i) (suc j) x y e f lt = inr (stands_before xs i j x y e f (omega arith))
stands_before (z ∷ xs) i j x y e f lt = absurd (omega arith)

name_within : (decls : List Declared) (k : ℕ) → k < length (flow_names decls) → slice_get (flow_names decls) k ≡ Some (name_at decls k)
name_within decls k lt = slice_get-get_or (flow_names decls) k [] lt

distinct_names : (decls : List Declared) (ks : List ℕ) → AreDistinct (flow_names decls) → ((k : ℕ) → k ∈ ks → k < length (flow_names decls)) → AreDistinct ks → AreDistinct (map (name_at decls) ks)
distinct_names decls [] once lt d = tt
distinct_names decls (k ∷ ks) once lt (out, d) = (fresh, distinct_names decls ks once (λ j m. lt j (inr m)) d)
  where
    fresh : ¬ (name_at decls k ∈ map (name_at decls) ks)
    fresh m =
        let (j, i, e) = of_map (name_at decls) (name_at decls k) ks m in
        out (subst (λ z. z ∈ ks)
        (same_place (flow_names decls) j k (name_at decls j) once (name_within decls j (lt j (inr i))) (name_within decls k (lt k (inl refl)) ∙ ap Some e)) i)

earlier_names : (decls : List Declared) (m : ℕ) (ks : List ℕ) → m < length (flow_names decls) → ((k : ℕ) → k ∈ ks → (m < k) × (k < length (flow_names decls))) →
    Each (λ n. StandsBefore (name_at decls m) n (flow_names decls)) (map (name_at decls) ks)
earlier_names decls m [] lt all = tt
earlier_names decls m (k ∷ ks) lt all = (
  stands_before (flow_names decls) m k (name_at decls m) (name_at decls k) (name_within decls m lt) (name_within decls k (all k (inl refl)).1) (all k (inl refl)).0,
  earlier_names decls m ks lt (λ j i. all j (inr i)),
)

-- steps of a ring

steps_back : (decls : List Declared) (xs ys : List ℕ) → AreSteps decls (xs ++ ys) → AreSteps decls ys
steps_back decls [] ys s = s
steps_back decls (x ∷ []) [] s = tt
steps_back decls (x ∷ []) (y ∷ ys) s = s.1
steps_back decls (x ∷ z ∷ xs) ys s = steps_back decls (z ∷ xs) ys s.1

turned : (decls : List Declared) (a : List ℕ) (m : ℕ) (b : List ℕ) (next : ℕ) (rest : List ℕ) → a ++ m ∷ b ≡ next ∷ rest → AreSteps decls ((a ++ m ∷ b) ++ next ∷ []) → AreSteps decls (m ∷ ((b ++ a) ++ m ∷ []))
turned decls [] m b next rest e s =
    let h : m ≡ next = cc in
    subst (λ l. AreSteps decls (m ∷ (l ++ m ∷ []))) (sym (append-nil b)) (subst (λ n. AreSteps decls (m ∷ (b ++ n ∷ []))) (sym h) s)
turned decls (h ∷ a) m b next rest e s =
    let g : h ≡ next = cc in
    let whole : AreSteps decls ((h ∷ a) ++ (m ∷ b ++ h ∷ [])) = subst (λ n. AreSteps decls ((h ∷ a) ++ (m ∷ b ++ n ∷ []))) (sym g) (subst (AreSteps decls) (append_assoc (h ∷ a) (m ∷ b) (next ∷ [])) s) in
    let front : AreSteps decls (h ∷ (a ++ m ∷ [])) = steps_begin decls ((h ∷ a) ++ m ∷ []) (b ++ h ∷ []) (subst (AreSteps decls) (sym (append_assoc (h ∷ a) (m ∷ []) (b ++ h ∷ []))) whole) in
    let back : AreSteps decls ((m ∷ b) ++ h ∷ []) = steps_back decls (h ∷ a) (m ∷ b ++ h ∷ []) whole in
    subst (λ l. AreSteps decls (m ∷ l)) (sym (append_assoc b (h ∷ a) (m ∷ []))) (steps_glue decls (m ∷ b) h (a ++ m ∷ []) back front)

-- a ring from its least member on is a chain
ring_chain : (decls : List Declared) (a : List ℕ) (m : ℕ) (b : List ℕ) (next : ℕ) (rest : List ℕ) (chain : List (List ℕ)) → AreDistinct (flow_names decls) →
    a ++ m ∷ b ≡ next ∷ rest → AreSteps decls ((a ++ m ∷ b) ++ next ∷ []) → AreDistinct (a ++ m ∷ b) → ((k : ℕ) → k ∈ (a ++ m ∷ b) → (m ≤ k) × (k < length (flow_names decls))) →
    chain ≡ map (name_at decls) (m ∷ ((b ++ a) ++ m ∷ [])) → IsRecursion decls chain
ring_chain decls a m b next rest chain once begins steps distinct all written = record {
  first = name_at decls m;
  between = map (name_at decls) (b ++ a);
  written = written ∙ ap (λ l. name_at decls m ∷ l) (map-append (name_at decls) (b ++ a) (m ∷ []));
  steps = leads_of decls m (b ++ a) m (turned decls a m b next rest begins steps);
  distinct = distinct_names decls (m ∷ (b ++ a)) once (λ k i. (all k (back k i)).1) d;
  earliest = earlier_names decls m (b ++ a) (all m (mem_append_right m a (m ∷ b) (inl refl))).1 (λ k i. (later k i, (all k (back k (inr i))).1));
}
  where
    d : AreDistinct (m ∷ (b ++ a))
    d = let (x, y, z) = distinct_parts a (m ∷ b) distinct in distinct-append (m ∷ b) a y x (λ k i j. z k j i)

    back : (k : ℕ) → k ∈ (m ∷ (b ++ a)) → k ∈ (a ++ m ∷ b)
    back k i = ⊎_elim (λ j. mem_append_right k a (m ∷ b) j) (λ j. mem_append_left k a (m ∷ b) j) (mem-append k (m ∷ b) a i)

    later : (k : ℕ) → k ∈ (b ++ a) → m < k
    later k i =
        let le : m ≤ k = (all k (back k (inr i))).0 in
        let n : m ≢ k = λ e. d.0 (subst (λ z. z ∈ (b ++ a)) (sym e) i) in
        omega arith

-- the chain of a path that comes back to one of its members
module _ (decls : List Declared) (path : List ℕ) (last next p low : ℕ) (once : AreDistinct (flow_names decls)) (back : ComesBack decls path last next) (at : slice_get path p ≡ Some next)
    (lt : low < length (drop p path)) (least : (k : ℕ) → k < length (drop p path) → get_or (drop p path) low 0 ≤ get_or (drop p path) k 0) where
  abbrev ring : List ℕ
  ring = drop p path

  abbrev a : List ℕ
  a = take low (drop p path)

  abbrev b : List ℕ
  b = drop (low + 1) (drop p path)

  abbrev m : ℕ
  m = get_or (drop p path) low 0

  laid_out : drop p path ≡ a ++ m ∷ b
  laid_out = sym (take-append-drop low (drop p path)) ∙ ap (λ l. take low (drop p path) ++ l) (drop_more (drop p path) low 0 lt)

  begins : a ++ m ∷ b ≡ next ∷ drop (p + 1) path
  begins = sym laid_out ∙ drop_more path p 0 (slice_get_within path p next at) ∙ ap (λ n. n ∷ drop (p + 1) path) (get_or_from_slice_get path p next 0 at)

  whole : take p path ++ drop p path ≡ path
  whole = take-append-drop p path

  closed : AreSteps decls ((a ++ m ∷ b) ++ next ∷ [])
  closed =
      let (front, ends) = back.ends in
      subst (λ l. AreSteps decls (l ++ next ∷ [])) laid_out
      (steps_back decls (take p path) (drop p path ++ next ∷ [])
      (subst (AreSteps decls) (ap (λ l. l ++ next ∷ []) (sym whole) ∙ append_assoc (take p path) (drop p path) (next ∷ []))
      (subst (λ l. AreSteps decls (l ++ next ∷ [])) (sym ends)
      (subst (AreSteps decls) (sym (append_assoc front (last ∷ []) (next ∷ []))) (steps_glue decls front last (next ∷ []) (subst (AreSteps decls) ends back.steps) (back.step, tt))))))

  bounds : (k : ℕ) → k ∈ (a ++ m ∷ b) → (m ≤ k) × (k < length (flow_names decls))
  bounds k i =
      let in_ring : k ∈ drop p path = subst (λ l. k ∈ l) (sym laid_out) i in
      let (j, there) = place_of (drop p path) k in_ring in
      let (q, here) = place_of path k (subst (λ l. k ∈ l) whole (mem_append_right k (take p path) (drop p path) in_ring)) in (
        subst (λ z. m ≤ z) (get_or_from_slice_get (drop p path) j k 0 there) (least j (slice_get_within (drop p path) j k there)),
        subst (λ z. z < length (flow_names decls)) (get_or_from_slice_get path q k 0 here) (back.within q 0 (slice_get_within path q k here)),
      )

  pub path_chain : (chain : List (List ℕ)) → chain ≡ map (name_at decls) (drop low (drop p path)) ++ map (name_at decls) (take (low + 1) (drop p path)) → IsRecursion decls chain
  path_chain chain written =
      ring_chain decls a m b next (drop (p + 1) path) chain once begins closed
      (subst AreDistinct laid_out (distinct_right (take p path) (drop p path) (subst AreDistinct (sym whole) back.distinct))) bounds
      (written ∙ sym (map-append (name_at decls) (drop low ring) (take (low + 1) ring))
      ∙ ap (map (name_at decls)) ((λ t. drop_more ring low 0 lt t ++ take_more ring low 0 lt t) ∙ sym (append_assoc (m ∷ b) a (m ∷ []))))
