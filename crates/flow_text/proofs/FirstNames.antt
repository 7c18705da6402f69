-- What the passes find is the first role of its kind.
use Rattle.std.proofs.Common.{◌≡◌, ℕ, ◌+◌, List, [], ◌∷◌, ◌++◌, length, Bool, true, false, cond, refl, sym, ap, subst, ◌∙◌, append_assoc, append-nil, arith, IsErrOf}
use Rattle.std.specs.Prelude.{Option, Some, None, not, Ok, Err}
use Rattle.std.specs.List.{position_from}
use Rattle.std.proofs.lemmas.Bool.{not-false}
use Rattle.std.proofs.lemmas.Grind.{flat_map-append}
use Rattle.flow_model.specs.Lists.{◌∈◌, Each, AreDistinct}
use Rattle.flow_form.specs.Script.{Declared, Said, Asked}
use Rattle.flow_form.specs.Names.{declared_names, event_names, HasGoodNames}
use Rattle.flow_grammar.specs.Roles.{Role, declares, in_goal, in_rule, declared_by, declaring, used_in_goals, used_in_rules, script_roles, query_roles}
use Rattle.flow_grammar.proofs.RolesOfNames.{roles_are_the_names}
use Rattle.flow_text.specs.declared.known.Known.{Known}
use Rattle.flow_text.specs.declared.name_refusal.NameRefusal.{NameRefusal}
use Rattle.flow_text.specs.declared.name_refusal.NameRefusal.TheVariants.{Repeated, Unknown}
use Rattle.flow_text.specs.GoodNames.{IsRepeated, IsUnknown, IsFirst, IsFirstRepeated, IsFirstUnknown, AsksOfEvents, AsksFirstOfOther}
use Rattle.flow_text.specs.KnownNames.{NameSet, no_names, HasJust, is_again, with_role, repeated_from, is_unknown, has, has_as_event, KnowsThose}
use Rattle.flow_text.proofs.KnownNames.{none_held, held_more, held_none, distinct_more}

-- no role of the list has P after `before` and those before it
abbrev HasNone : (List Role → Role → Type 0) → List Role → List Role → Type 0
HasNone P before [] = Unit {0}
HasNone P before (r ∷ rs) = (P before r → ⊥) × HasNone P (before ++ r ∷ []) rs

-- role number k, counted from `start`, is the first that has P after `before` and those before it
record Cut (P : List Role → Role → Type 0) (before : List Role) (start : ℕ) (roles : List Role) (k : ℕ) : Type 0 where
  front : List Role
  role : Role
  back : List Role
  cut : roles ≡ front ++ role ∷ back
  place : start + length front ≡ k
  here : P (before ++ front) role
  first : (a b : List Role) (r : Role) → front ≡ a ++ r ∷ b → P (before ++ a) r → ⊥

module _ (P : List Role → Role → Type 0) (before : List Role) (start : ℕ) (r : Role) (rs : List Role) (k : ℕ) where
  cut_here : P before r → k ≡ start → Cut P before start (r ∷ rs) k
  cut_here here e = record {
    front = [];
    role = r;
    back = rs;
    cut = refl;
    place = omega (arith, e);
    here = subst (λ z. P z r) (sym (append-nil before)) here;
    first = none;
  }
    where
      none : (a b : List Role) (q : Role) → [] ≡ a ++ q ∷ b → P (before ++ a) q → ⊥
      none [] b q e = absurd (cc)
      none (x ∷ a) b q e = absurd (cc)

  cut_later : (P before r → ⊥) → Cut P (before ++ r ∷ []) (start + 1) rs k → Cut P before start (r ∷ rs) k
  cut_later out c = record {
    front = r ∷ c.front;
    role = c.role;
    back = c.back;
    cut = ap (λ z. r ∷ z) c.cut;
    place = let p = c.place in omega arith;
    here = subst (λ z. P z c.role) (append_assoc before (r ∷ []) c.front) c.here;
    first = first;
  }
    where
      first : (a b : List Role) (q : Role) → r ∷ c.front ≡ a ++ q ∷ b → P (before ++ a) q → ⊥
      first [] b q e p = let same : q ≡ r = cc in out (subst (λ z. P before z) same (subst (λ z. P z q) (append-nil before) p))
      first (x ∷ a) b q e p =
          let same : x ≡ r = cc in
          let rest : c.front ≡ a ++ q ∷ b = cc in
          c.first a b q rest (subst (λ z. P z q) (sym (append_assoc before (r ∷ []) a)) (subst (λ z. P (before ++ z ∷ a) q) same p))

  -- a pass that found a role found it here or later
  cut_by : (test : Bool) (later : Option ℕ) → (test ≡ true → P before r) → (test ≡ false → P before r → ⊥)
      → (later ≡ Some k → Cut P (before ++ r ∷ []) (start + 1) rs k) → cond test (Some start) later ≡ Some k → Cut P before start (r ∷ rs) k
  cut_by true later holds fails more e = let same : k ≡ start = cc in cut_here (holds refl) same
  cut_by false later holds fails more e = cut_later (fails refl) (more e)

-- and one that found none found none here and none later
passed : (test : Bool) (start : ℕ) (later : Option ℕ) → cond test (Some start) later ≡ None → (test ≡ false) × (later ≡ None)
passed true start later e = absurd (cc)
passed false start later e = (refl, e)

is_first : (P : List Role → Role → Type 0) (roles : List Role) (k : ℕ) → Cut P [] 0 roles k → IsFirst P roles k
is_first P roles k c =
    record { front = c.front; role = c.role; back = c.back; cut = c.cut; place = (let p = c.place in omega arith); here = c.here; first = c.first }

-- Names that are declared again

held_after : (set : NameSet) (front : List Role) (r : Role) → HasJust set (declaring front) → HasJust (with_role set r) (declaring (front ++ r ∷ []))
held_after set front r h = subst (HasJust (with_role set r)) (sym (flat_map-append declared_by front (r ∷ []))) (more r)
  where
    more : (r : Role) → HasJust (with_role set r) (declaring front ++ declaring (r ∷ []))
    more (declares n) = held_more set (declaring front) n h
    more _ = held_none set (declaring front) h

again_is : (set : NameSet) (front : List Role) (r : Role) → HasJust set (declaring front) → is_again set r ≡ true → IsRepeated front r
again_is set front (declares n) h e = (h n).0 e
again_is set front _ h e = absurd (cc)

again_is_not : (set : NameSet) (front : List Role) (r : Role) → HasJust set (declaring front) → is_again set r ≡ false → IsRepeated front r → ⊥
again_is_not set front (declares n) h e member = let t = (h n).1 member in cc
again_is_not set front _ h e member = member

repeated_first : (set : NameSet) (front : List Role) (start : ℕ) (roles : List Role) (k : ℕ) → HasJust set (declaring front)
    → repeated_from set start roles ≡ Some k → Cut IsRepeated front start roles k
repeated_first set front start [] k h e = absurd (cc)
repeated_first set front start (r ∷ rs) k h e =
    cut_by IsRepeated front start r rs k (is_again set r) (repeated_from (with_role set r) (start + 1) rs) (again_is set front r h) (again_is_not set front r h)
    (repeated_first (with_role set r) (front ++ r ∷ []) (start + 1) rs k (held_after set front r h)) e

repeated_none : (set : NameSet) (front : List Role) (start : ℕ) (roles : List Role) → HasJust set (declaring front)
    → repeated_from set start roles ≡ None → HasNone IsRepeated front roles
repeated_none set front start [] h e = tt
repeated_none set front start (r ∷ rs) h e =
    let (not_here, later) = passed (is_again set r) start (repeated_from (with_role set r) (start + 1) rs) e in
    (again_is_not set front r h not_here, repeated_none (with_role set r) (front ++ r ∷ []) (start + 1) rs (held_after set front r h) later)

once_all : (front roles : List Role) → AreDistinct (declaring front) → HasNone IsRepeated front roles → AreDistinct (declaring (front ++ roles))
once_all front [] distinct none = subst (λ z. AreDistinct (declaring z)) (sym (append-nil front)) distinct
once_all front (r ∷ rs) distinct (new, none) =
    subst (λ z. AreDistinct (declaring z)) (append_assoc front (r ∷ []) rs) (once_all (front ++ r ∷ []) rs (subst AreDistinct (sym (flat_map-append declared_by front (r ∷ []))) (more r new)) none)
  where
    same : AreDistinct (declaring front ++ [])
    same = subst AreDistinct (sym (append-nil (declaring front))) distinct

    more : (r : Role) → (IsRepeated front r → ⊥) → AreDistinct (declaring front ++ declaring (r ∷ []))
    more (declares n) new = distinct_more (declaring front) n distinct new
    more _ new = same

-- Names that are not declared as they must be

-- the role is as it must be
abbrev pub IsWell : List Declared → Role → Type 0
IsWell decls (in_goal n) = n ∈ declared_names decls
IsWell decls (in_rule n) = n ∈ event_names decls
IsWell decls _ = Unit {0}

pub well_is_known : (decls : List Declared) (r : Role) → IsWell decls r → IsUnknown decls r → ⊥
well_is_known decls (in_goal n) w u = u w
well_is_known decls (in_rule n) w u = u w
well_is_known decls _ w u = u

-- as the code tests it
abbrev pub is_other : Known → Role → Bool
is_other known = is_unknown (has known.names) (has_as_event known.names)

module _ (decls : List Declared) (known : Known) (knows : KnowsThose decls known) where
  other_is : (r : Role) → is_other known r ≡ true → IsUnknown decls r
  other_is (in_goal n) e = λ member. let t = (knows.declared n).1 member in let u : not (has known.names n) ≡ not true = ap not t in cc
  other_is (in_rule n) e = λ member. let t = (knows.events n).1 member in let u : not (has_as_event known.names n) ≡ not true = ap not t in cc
  other_is _ e = absurd (cc)

  well_is : (r : Role) → is_other known r ≡ false → IsWell decls r
  well_is (in_goal n) e = (knows.declared n).0 (not-false (has known.names n) e)
  well_is (in_rule n) e = (knows.events n).0 (not-false (has_as_event known.names n) e)
  well_is _ e = tt

  other_first : (front : List Role) (start : ℕ) (roles : List Role) (k : ℕ) → position_from (is_other known) start roles ≡ Some k
      → Cut (λ front role. IsUnknown decls role) front start roles k
  other_first front start [] k e = absurd (cc)
  other_first front start (r ∷ rs) k e =
      cut_by (λ front role. IsUnknown decls role) front start r rs k (is_other known r) (position_from (is_other known) (start + 1) rs) (other_is r)
      (λ t. well_is_known decls r (well_is r t)) (other_first (front ++ r ∷ []) (start + 1) rs k) e

  all_well : (start : ℕ) (roles : List Role) → position_from (is_other known) start roles ≡ None → Each (IsWell decls) roles
  all_well start [] e = tt
  all_well start (r ∷ rs) e =
      let (not_here, later) = passed (is_other known r) start (position_from (is_other known) (start + 1) rs) e in
      (well_is r not_here, all_well (start + 1) rs later)

well_in_goals : (decls : List Declared) (roles : List Role) → Each (IsWell decls) roles → Each (λ n. n ∈ declared_names decls) (used_in_goals roles)
well_in_goals decls [] w = tt
well_in_goals decls (in_goal n ∷ rs) (w, ws) = (w, well_in_goals decls rs ws)
well_in_goals decls (_ ∷ rs) (w, ws) = well_in_goals decls rs ws

well_in_rules : (decls : List Declared) (roles : List Role) → Each (IsWell decls) roles → Each (λ n. n ∈ event_names decls) (used_in_rules roles)
well_in_rules decls [] w = tt
well_in_rules decls (in_rule n ∷ rs) (w, ws) = (w, well_in_rules decls rs ws)
well_in_rules decls (_ ∷ rs) (w, ws) = well_in_rules decls rs ws

-- Scripts and queries

-- what the pass for repeated names gives, which is made where it is known that there is one
abbrev pub found_repeated : Known → List Role → Option ℕ
found_repeated known roles = cond known.is_again (repeated_from no_names 0 roles) None

script_once : (s : Said) (known : Known) (roles : List Role) → roles ≡ script_roles s → KnowsThose s.decls known
    → found_repeated known roles ≡ None → AreDistinct (declared_names s.decls)
script_once s known roles is knows none = go known.is_again refl none
  where
    go : (b : Bool) → known.is_again ≡ b → cond b (repeated_from no_names 0 roles) None ≡ None → AreDistinct (declared_names s.decls)
    go true again e =
        subst AreDistinct (ap declaring is ∙ (roles_are_the_names s).0) (once_all [] roles tt (repeated_none no_names [] 0 roles none_held e))
    go false again e = knows.once again

pub script_repeated : (s : Said) (known : Known) (roles : List Role) (k : ℕ) → roles ≡ script_roles s → found_repeated known roles ≡ Some k → IsFirstRepeated s k
script_repeated s known roles k is found = go known.is_again found
  where
    go : (b : Bool) → cond b (repeated_from no_names 0 roles) None ≡ Some k → IsFirstRepeated s k
    go true e = subst (λ z. IsFirst IsRepeated z k) is (is_first IsRepeated roles k (repeated_first no_names [] 0 roles k none_held e))
    go false e = absurd (cc)

pub script_unknown : (s : Said) (known : Known) (roles : List Role) (k : ℕ) → roles ≡ script_roles s → KnowsThose s.decls known
    → found_repeated known roles ≡ None → position_from (is_other known) 0 roles ≡ Some k → IsFirstUnknown s k
script_unknown s known roles k is knows none e = record {
  once = script_once s known roles is knows none;
  first = subst (λ z. IsFirst (λ front role. IsUnknown s.decls role) z k) is (is_first (λ front role. IsUnknown s.decls role) roles k (other_first s.decls known knows [] 0 roles k e));
}

pub script_good : (s : Said) (known : Known) (roles : List Role) → roles ≡ script_roles s → KnowsThose s.decls known
    → found_repeated known roles ≡ None → position_from (is_other known) 0 roles ≡ None → HasGoodNames s
script_good s known roles is knows none e =
    let well : Each (IsWell s.decls) roles = all_well s.decls known knows 0 roles e in
    record {
      in_goals = subst (λ z. Each (λ n. n ∈ declared_names s.decls) z) (ap used_in_goals is ∙ (roles_are_the_names s).1) (well_in_goals s.decls roles well);
      in_rules = subst (λ z. Each (λ n. n ∈ event_names s.decls) z) (ap used_in_rules is ∙ (roles_are_the_names s).2) (well_in_rules s.decls roles well);
      once = script_once s known roles is knows none;
    }

pub query_unknown : (q : Asked) (s : Said) (known : Known) (roles : List Role) (k : ℕ) → roles ≡ query_roles q → KnowsThose s.decls known
    → position_from (is_other known) 0 roles ≡ Some k → AsksFirstOfOther q s k
query_unknown q s known roles k is knows e =
    subst (λ z. IsFirst (λ front role. IsUnknown s.decls role) z k) is (is_first (λ front role. IsUnknown s.decls role) roles k (other_first s.decls known knows [] 0 roles k e))

pub query_good : (q : Asked) (s : Said) (known : Known) (roles : List Role) → roles ≡ query_roles q → KnowsThose s.decls known
    → position_from (is_other known) 0 roles ≡ None → AsksOfEvents q s
query_good q s known roles is knows e =
    subst (λ z. Each (λ n. n ∈ event_names s.decls) (used_in_rules z)) is (well_in_rules s.decls roles (all_well s.decls known knows 0 roles e))

pub none_of : (o : Option ℕ) → ((k : ℕ) → o ≡ Some k → ⊥) → o ≡ None
none_of None out = refl
none_of (Some k) out = absurd (out k refl)

-- one refusal has one index
pub same_repeated : {T : Type 0} (j k : ℕ) → IsErrOf {T = T} {E = NameRefusal} (Err (Repeated j)) (Repeated k) → j ≡ k
same_repeated j k e = cc

pub same_unknown : {T : Type 0} (j k : ℕ) → IsErrOf {T = T} {E = NameRefusal} (Err (Unknown j)) (Unknown k) → j ≡ k
same_unknown j k e = cc

pub not_repeated : {T : Type 0} (j k : ℕ) → IsErrOf {T = T} {E = NameRefusal} (Err (Unknown j)) (Repeated k) → ⊥
not_repeated j k e = cc

pub not_unknown : {T : Type 0} (j k : ℕ) → IsErrOf {T = T} {E = NameRefusal} (Err (Repeated j)) (Unknown k) → ⊥
not_unknown j k e = cc

pub not_err : {T : Type 0} {x : T} (refusal : NameRefusal) → IsErrOf {T = T} {E = NameRefusal} (Ok x) refusal → ⊥
not_err refusal e = cc
