-- Sets of names: what one more name does to them, and what one more declaration makes known.
use Rattle.std.proofs.Common.{◌≡◌, ℕ, List, [], ◌∷◌, ◌++◌, Bool, true, false, cond, refl, sym, ap, subst, ◌∙◌, ◌⊎◌, inl, inr, Bor, append-nil}
use Rattle.std.specs.Prelude.{Option, Some, None, is_some, ◌||◌}
use Rattle.indexmap.specs.IndexMap.{IndexMap, UpdatesBy, get_by}
use Rattle.std.specs.Cmp.Lexicographic.{bytes_decides}
use Rattle.std.specs.Str.{bytes_eq}
use Rattle.std.proofs.lemmas.Bool.{or_parts}
use Rattle.std.proofs.lemmas.List.Concat.{flat_map-append}
use Rattle.flow_model.specs.Lists.{◌∈◌, AreDistinct}
use Rattle.flow_model.specs.declared.labels.Note.{Note}
use Rattle.flow_model.proofs.Lists.{mem_append_left, mem_append_right, mem-append, distinct-append}
use Rattle.flow_facts.specs.declared.text_key.TextKey.{TextKey}
use Rattle.flow_form.specs.Form.{Shape}
use Rattle.flow_form.specs.Script.{Declared, event, flow}
use Rattle.flow_form.specs.Names.{declared_name, declared_names, event_name, event_names}
use Rattle.flow_text.specs.declared.known.DeclaredAs.{DeclaredAs}
use Rattle.flow_text.specs.declared.known.DeclaredAs.TheVariants.{Flow}
use Rattle.flow_text.specs.declared.known.Known.{Known}
use Rattle.flow_text.specs.KnownNames.{NameSet, no_names, with_name, HasJust, has, as_event, has_as_event, KnowsThose}

abbrev looked_up : {X : Type 0} → IndexMap (Bor (List ℕ)) X TextKey → List ℕ → Option X
looked_up m name = get_by (λ key. bytes_eq name key.now) m

-- the map has been given w for that name
abbrev IsGiven : {X : Type 0} → IndexMap (Bor (List ℕ)) X TextKey → IndexMap (Bor (List ℕ)) X TextKey → List ℕ → X → Type 0
IsGiven m m' name w = UpdatesBy (λ x y. bytes_eq x.now y.now) (λ key. bytes_eq name key.now) m m' (Some w)

found_after : {X : Type 0} (m m' : IndexMap (Bor (List ℕ)) X TextKey) (name : List ℕ) (w : X) → IsGiven m m' name w → (q : List ℕ)
    → looked_up m' q ≡ cond (bytes_eq name q) (Some w) (looked_up m q)
found_after m m' name w updates q = updates.0 (record { ref_ptr = (0, 0); now = q })

-- where w has what is asked of a value, the names of such values are one more
pub given : {X : Type 0} (asked : Option X → Bool) (m m' : IndexMap (Bor (List ℕ)) X TextKey) (name : List ℕ) (w : X) → asked (Some w) ≡ true
    → IsGiven m m' name w → (λ q. asked (looked_up m' q)) ≡ with_name (λ q. asked (looked_up m q)) name
given {X} asked m m' name w is_asked updates = λ i q. (ap asked (found_after m m' name w updates q) ∙ taken (bytes_eq name q) (looked_up m q)) i
  where
    taken : (b : Bool) (o : Option X) → asked (cond b (Some w) o) ≡ cond b true (asked o)
    taken true o = is_asked
    taken false o = refl

-- a new name that is no event leaves the events
pub given_flow : (m m' : IndexMap (Bor (List ℕ)) DeclaredAs TextKey) (name : List ℕ) → has m name ≡ false → IsGiven m m' name Flow → has_as_event m' ≡ has_as_event m
given_flow m m' name new updates = λ i q. (ap as_event (found_after m m' name Flow updates q) ∙ other q (bytes_eq name q) refl) i
  where
    no_event : (o : Option DeclaredAs) → is_some o ≡ false → false ≡ as_event o
    no_event None e = refl
    no_event (Some kind) e = absurd (cc)

    other : (q : List ℕ) (b : Bool) → bytes_eq name q ≡ b → as_event (cond b (Some Flow) (looked_up m q)) ≡ as_event (looked_up m q)
    other q true same = no_event (looked_up m q) (subst (λ z. has m z ≡ false) ((bytes_decides name q).0 same) new)
    other q false same = refl

-- Members

pub none_held : HasJust no_names []
none_held q = (λ e. absurd (cc), λ member. absurd member)

pub held_more : (set : NameSet) (names : List (List ℕ)) (n : List ℕ) → HasJust set names → HasJust (with_name set n) (names ++ n ∷ [])
held_more set names n h q = (in_names (bytes_eq n q) refl, λ member. in_set (mem-append q names (n ∷ []) member))
  where
    in_names : (b : Bool) → bytes_eq n q ≡ b → cond b true (set q) ≡ true → q ∈ (names ++ n ∷ [])
    in_names true same t = mem_append_right q names (n ∷ []) (inl (sym ((bytes_decides n q).0 same)))
    in_names false other t = mem_append_left q names (n ∷ []) ((h q).0 t)

    kept : (b : Bool) → cond b true true ≡ true
    kept true = refl
    kept false = refl

    in_set : (q ∈ names) ⊎ (q ∈ (n ∷ [])) → with_name set n q ≡ true
    in_set (inl m) = ap (λ z. cond (bytes_eq n q) true z) ((h q).1 m) ∙ kept (bytes_eq n q)
    in_set (inr (inl e)) = ap (λ b. cond b true (set q)) ((bytes_decides n q).1 (sym e))
    in_set (inr (inr none)) = absurd none

pub held_again : (set : NameSet) (names : List (List ℕ)) (n : List ℕ) → set n ≡ true → HasJust set names → HasJust set (names ++ n ∷ [])
held_again set names n there h q = (λ e. mem_append_left q names (n ∷ []) ((h q).0 e), λ member. in_set (mem-append q names (n ∷ []) member))
  where
    in_set : (q ∈ names) ⊎ (q ∈ (n ∷ [])) → set q ≡ true
    in_set (inl m) = (h q).1 m
    in_set (inr (inl e)) = subst (λ z. set z ≡ true) (sym e) there
    in_set (inr (inr none)) = absurd none

pub held_none : (set : NameSet) (names : List (List ℕ)) → HasJust set names → HasJust set (names ++ [])
held_none set names h = subst (HasJust set) (sym (append-nil names)) h

pub distinct_more : (names : List (List ℕ)) (n : List ℕ) → AreDistinct names → ¬ (n ∈ names) → AreDistinct (names ++ n ∷ [])
distinct_more names n distinct new =
    distinct-append names (n ∷ []) distinct ((λ none. none), tt)
    (λ x member same. elim same [ inl e ↦ new (subst (λ z. z ∈ names) e member) | inr none ↦ none ])

-- Declarations

grown : (ds : List Declared) (d e : Declared) (known : Known) → d ≡ e → HasJust (has known.names) (declared_names ds ++ declared_names (e ∷ []))
    → HasJust (has_as_event known.names) (event_names ds ++ event_names (e ∷ []))
    → (known.is_again ≡ false → AreDistinct (declared_names ds ++ declared_names (e ∷ []))) → KnowsThose (ds ++ d ∷ []) known
grown ds d e known is names events once = subst (λ z. KnowsThose (ds ++ z ∷ []) known) (sym is) (record {
  declared = subst (HasJust (has known.names)) (sym (flat_map-append declared_name ds (e ∷ []))) names;
  events = subst (HasJust (has_as_event known.names)) (sym (flat_map-append event_name ds (e ∷ []))) events;
  once = λ no. subst AreDistinct (sym (flat_map-append declared_name ds (e ∷ []))) (once no);
})

-- a name that is not known is a new one
new_once : (ds : List Declared) (n : List ℕ) (known : Known) → KnowsThose ds known → (known.is_again ≡ false) × (has known.names n ≡ false)
    → AreDistinct (declared_names ds ++ n ∷ [])
new_once ds n known h (once, new) = distinct_more (declared_names ds) n (h.once once) (λ member. let t = (h.declared n).1 member in cc)

pub event_known : (ds : List Declared) (d : Declared) (n : List ℕ) (note : Note) (old new : Known) → d ≡ event n note → KnowsThose ds old
    → has new.names ≡ with_name (has old.names) n → has_as_event new.names ≡ with_name (has_as_event old.names) n → new.is_again ≡ old.is_again || has old.names n
    → KnowsThose (ds ++ d ∷ []) new
event_known ds d n note old new is h names events again =
    grown ds d (event n note) new is (subst (λ z. HasJust z (declared_names ds ++ n ∷ [])) (sym names) (held_more (has old.names) (declared_names ds) n h.declared))
    (subst (λ z. HasJust z (event_names ds ++ n ∷ [])) (sym events) (held_more (has_as_event old.names) (event_names ds) n h.events))
    (λ e. new_once ds n old h (or_parts old.is_again (has old.names n) (sym again ∙ e)))

-- a sub-workflow, whose name may be declared before
pub flow_known : (ds : List Declared) (d : Declared) (n : List ℕ) (s : Shape) (old new : Known) → d ≡ flow n s → KnowsThose ds old
    → HasJust (has new.names) (declared_names ds ++ n ∷ []) → has_as_event new.names ≡ has_as_event old.names
    → (new.is_again ≡ false → (old.is_again ≡ false) × (has old.names n ≡ false)) → KnowsThose (ds ++ d ∷ []) new
flow_known ds d n s old new is h names events again =
    grown ds d (flow n s) new is names (subst (λ z. HasJust z (event_names ds ++ [])) (sym events) (held_none (has_as_event old.names) (event_names ds) h.events))
    (λ e. new_once ds n old h (again e))
