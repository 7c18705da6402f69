-- A goal that becomes one names no sub-workflow that names itself, and it becomes no other.
use Rattle.std.proofs.Common.{◌≡◌, ℕ, List, [], ◌∷◌, ◌++◌, refl, ap, subst, inl, inr, ⊎_elim}
use Rattle.flow_model.specs.Lists.{◌∈◌, AreDistinct}
use Rattle.flow_form.specs.Form.{Shape, Shapes, nop, named, test, absent, ins, del, iso, serial, beside, either, no_more, followed}
use Rattle.flow_form.specs.Script.{Declared, flow}
use Rattle.flow_form.specs.Names.{names_in, names_in_each, declared_names}
use Rattle.flow_expand.specs.Expansion.{Expansion, in_turn, at_once, one_of, alone, joined, Becomes, AllBecome, becomes_nop, becomes_event, becomes_flow, becomes_test, becomes_absent, becomes_ins, becomes_del, becomes_iso, becomes_serial, becomes_beside, becomes_either, none_becomes, more_become}
use Rattle.flow_expand.specs.Steps.{flow_names, IsStep, LeadsTo, IsRecursive}
use Rattle.flow_model.proofs.Lists.{mem-append}
use Rattle.flow_expand.proofs.Declarations.{not_both, same_goal, flow_named}

-- every way of steps from the sub-workflow comes to an end
data Ends (decls : List Declared) : List ℕ → Type 0 where
  ends : {n : List ℕ} → ((m : List ℕ) → IsStep decls n m → Ends decls m) → Ends decls n

module _ (decls : List Declared) (once : AreDistinct (declared_names decls)) where
  mutual
    names_end : (s : Shape) (e : Expansion) → Becomes decls s e → (m : List ℕ) → m ∈ names_in s → m ∈ flow_names decls → Ends decls m
    names_end (named n) e (becomes_event there) m (inl same) f = absurd (not_both decls n once there (subst (λ z. z ∈ flow_names decls) same f))
    names_end (named n) e (becomes_event there) m (inr i) f = absurd i
    names_end (named n) e (becomes_flow {n = k} {s = t} {e = g} there b) m (inl same) f =
        ends (λ j step. names_end t g b j
        (subst (λ u. j ∈ names_in u) (same_goal decls n step.goal t once (subst (λ z. flow z step.goal ∈ decls) same step.is_goal) there) step.names) step.is_flow)
    names_end (named n) e (becomes_flow there b) m (inr i) f = absurd i
    names_end (iso s) e (becomes_iso {s = t} {e = g} b) m i f = names_end t g b m i f
    names_end (serial ss) e (becomes_serial {ss = us} {es = gs} b) m i f = all_end us gs b m i f
    names_end (beside ss) e (becomes_beside {ss = us} {es = gs} b) m i f = all_end us gs b m i f
    names_end (either ss) e (becomes_either {ss = us} {es = gs} b) m i f = all_end us gs b m i f
    names_end s e b m i f = absurd i

    all_end : (ss : Shapes) (es : List Expansion) → AllBecome decls ss es → (m : List ℕ) → m ∈ names_in_each ss → m ∈ flow_names decls → Ends decls m
    all_end no_more es none_becomes m i f = absurd i
    all_end (followed s ss) es (more_become {s = t} {e = g} {ss = us} {es = gs} b all) m i f =
        ⊎_elim (λ j. names_end t g b m j f) (λ j. all_end us gs all m j f) (mem-append m (names_in s) (names_in_each ss) i)

  mutual
    pub becomes_one : (s : Shape) (e f : Expansion) → Becomes decls s e → Becomes decls s f → e ≡ f
    becomes_one nop e f becomes_nop becomes_nop = refl
    becomes_one (named n) e f (becomes_event there) (becomes_event other) = refl
    becomes_one (named n) e f (becomes_event there) (becomes_flow {n = k} {s = t} {e = g} other b) = absurd (not_both decls n once there (flow_named decls n t other))
    becomes_one (named n) e f (becomes_flow {n = k} {s = t} {e = g} there b) (becomes_event other) = absurd (not_both decls n once other (flow_named decls n t there))
    becomes_one (named n) e f (becomes_flow {n = k} {s = t} {e = g} there b) (becomes_flow {n = l} {s = u} {e = h} other c) =
        becomes_one t g h b (subst (λ v. Becomes decls v h) (same_goal decls n u t once other there) c)
    becomes_one (test a) e f becomes_test becomes_test = refl
    becomes_one (absent a) e f becomes_absent becomes_absent = refl
    becomes_one (ins a) e f becomes_ins becomes_ins = refl
    becomes_one (del a) e f becomes_del becomes_del = refl
    becomes_one (iso s) e f (becomes_iso {s = t} {e = g} b) (becomes_iso {s = u} {e = h} c) = ap alone (becomes_one t g h b c)
    becomes_one (serial ss) e f (becomes_serial {ss = us} {es = gs} b) (becomes_serial {ss = vs} {es = hs} c) = ap (joined in_turn) (all_one us gs hs b c)
    becomes_one (beside ss) e f (becomes_beside {ss = us} {es = gs} b) (becomes_beside {ss = vs} {es = hs} c) = ap (joined at_once) (all_one us gs hs b c)
    becomes_one (either ss) e f (becomes_either {ss = us} {es = gs} b) (becomes_either {ss = vs} {es = hs} c) = ap (joined one_of) (all_one us gs hs b c)

    all_one : (ss : Shapes) (es fs : List Expansion) → AllBecome decls ss es → AllBecome decls ss fs → es ≡ fs
    all_one no_more es fs none_becomes none_becomes = refl
    all_one (followed s ss) es fs (more_become {s = t} {e = g} {ss = us} {es = gs} b all) (more_become {s = u} {e = h} {ss = vs} {es = hs} c others) =
        λ i. becomes_one t g h b c i ∷ all_one us gs hs all others i

leads_more : (decls : List Declared) (last k j : List ℕ) (more : List (List ℕ)) → LeadsTo decls last k more → IsStep decls last j → LeadsTo decls j k (more ++ last ∷ [])
leads_more decls last k j [] s t = (s, t)
leads_more decls last k j (n ∷ more) s t = (s.0, leads_more decls last n j more s.1 t)

no_ring : (decls : List Declared) (n : List ℕ) → Ends decls n → (between : List (List ℕ)) → LeadsTo decls n n between → ⊥
no_ring decls n (ends f) [] s = no_ring decls n (f n s) [] s
no_ring decls n (ends f) (m ∷ more) s = no_ring decls m (f m s.0) (more ++ n ∷ []) (leads_more decls n m m more s.1 s.0)

-- where every sub-workflow becomes a goal, none names itself
pub no_recursion : (decls : List Declared) → AreDistinct (declared_names decls) → ((n : List ℕ) (s : Shape) → flow n s ∈ decls → (e : Expansion) × Becomes decls s e) → ¬ (IsRecursive decls)
no_recursion decls once all (n, (between, leads)) =
    no_ring decls n (ends (λ m step. let b = all n step.goal step.is_goal in names_end decls once step.goal b.0 b.1 m step.names step.is_flow)) between leads
