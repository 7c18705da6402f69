-- The events that rules name: of one rule after another, and how they are collected.
use Rattle.std.proofs.Common.{◌≡◌, ◌+◌, ◌<◌, ◌↔◌, ◌++◌, ◌∷◌, ◌||◌, ◌==◌, [], ℕ, List, Vec, Box, Global, true, false, map, length, take, drop, get_or, true≢false, refl, sym, ap, ◌∙◌, subst, inl, inr, ⊎_elim, append_assoc, append-nil}
use Rattle.std.proofs.lemmas.Bool.{eqb-true, eq-eqb, or_left, or_right, or_cases}
use Rattle.std.proofs.lemmas.List.{map-append, take_more, take-append-drop}
use Rattle.flow_model.specs.Constraint as model
use Rattle.flow_model.specs.Constraint.{Constraint, all_of}
use Rattle.flow_model.specs.Folding.{named_events}
use Rattle.flow_model.specs.Lists.{◌∈◌, AreDistinct, joined}
use Rattle.flow_model.proofs.Lists.{mem_append_left, mem_append_right, mem-append, distinct-append}
use Rattle.flow_model.proofs.MadeLists.{joined-append}
use Rattle.flow_goal.specs.EventSet.{has_event}
use Rattle.flow_workflow.specs.declared.named_events.NamedEvents.{NamedEvents}
use Rattle.flow_workflow.specs.declared.rule.Rule as rule
use Rattle.flow_workflow.specs.declared.rule.Rule.{Rule}
use Rattle.flow_workflow.specs.NamedEvents.{AreNamed, Notes}
use Rattle.flow_workflow.specs.Rule.{any_of, rule_of, rules_of}
use Rattle.flow_workflow.proofs.RuleViews.{rule_of-Must, rule_of-Never, rule_of-Order, rule_of-Not, rule_of-And, rule_of-Or}

-- rules joined from the left

abbrev joined_with : (Constraint → Constraint → Constraint) → Constraint → List Constraint → Constraint
joined_with op c [] = c
joined_with op c (d ∷ ds) = joined_with op (op c d) ds

named_joined : (op : Constraint → Constraint → Constraint) → ((c d : Constraint) → named_events (op c d) ≡ named_events c ++ named_events d) →
    (c : Constraint) (cs : List Constraint) → named_events (joined_with op c cs) ≡ named_events c ++ joined (map named_events cs)
named_joined op h c [] = sym (append-nil (named_events c))
named_joined op h c (d ∷ ds) =
    named_joined op h (op c d) ds ∙ ap (λ list. list ++ joined (map named_events ds)) (h c d)
    ∙ append_assoc (named_events c) (named_events d) (joined (map named_events ds))

pub named_in_all : (cs : List Constraint) → named_events (all_of cs) ≡ joined (map named_events cs)
named_in_all cs = named_joined model.And (λ c d. refl) model.Always cs

named_in_any : (cs : List Constraint) → named_events (any_of cs) ≡ joined (map named_events cs)
named_in_any cs = named_joined model.Or (λ c d. refl) model.Impossible cs

-- those of a rule

pub named_in_must : (r : Rule) (event : ℕ) → r ≡ rule.Must event → event ∷ [] ≡ named_events (rule_of r)
named_in_must r event is = sym (ap (λ (x : Rule). named_events (rule_of x)) is ∙ ap named_events (rule_of-Must event))

pub named_in_never : (r : Rule) (event : ℕ) → r ≡ rule.Never event → event ∷ [] ≡ named_events (rule_of r)
named_in_never r event is = sym (ap (λ (x : Rule). named_events (rule_of x)) is ∙ ap named_events (rule_of-Never event))

pub named_in_order : (r : Rule) (events : Vec ℕ Global) → r ≡ rule.Order events → events.items ≡ named_events (rule_of r)
named_in_order r events is = sym (ap (λ (x : Rule). named_events (rule_of x)) is ∙ ap named_events (rule_of-Order events))

pub named_in_not : (r : Rule) (part : Box Rule Global) → r ≡ rule.Not part → named_events (rule_of part.value) ≡ named_events (rule_of r)
named_in_not r part is = sym (ap (λ (x : Rule). named_events (rule_of x)) is ∙ ap named_events (rule_of-Not part))

pub named_in_and : (r : Rule) (parts : Vec Rule Global) → r ≡ rule.And parts → joined (map named_events (rules_of parts.items)) ≡ named_events (rule_of r)
named_in_and r parts is =
    sym (ap (λ (x : Rule). named_events (rule_of x)) is ∙ ap named_events (rule_of-And parts) ∙ named_in_all (rules_of parts.items))

pub named_in_or : (r : Rule) (parts : Vec Rule Global) → r ≡ rule.Or parts → joined (map named_events (rules_of parts.items)) ≡ named_events (rule_of r)
named_in_or r parts is =
    sym (ap (λ (x : Rule). named_events (rule_of x)) is ∙ ap named_events (rule_of-Or parts) ∙ named_in_any (rules_of parts.items))

-- What is noted

pub none_noted : (named : NamedEvents) → Notes [] named named
none_noted named are = record { named = are; members = λ e. ((λ m. inl m), (λ h. ⊎_elim (λ m. m) (λ none. absurd none) h)) }

pub noted_more : (xs ys : List ℕ) (old next new : NamedEvents) → Notes xs old next → Notes ys next new → Notes (xs ++ ys) old new
noted_more xs ys old next new first second are =
    let one = first are in
    let other = second one.named in
    record {
      named = other.named;
      members = λ e. (
        (λ m. ⊎_elim (λ k. ⊎_elim (λ l. inl l) (λ l. inr (mem_append_left e xs ys l)) ((one.members e).0 k)) (λ k. inr (mem_append_right e xs ys k)) ((other.members e).0 m)),
        (λ h. (other.members e).1 (⊎_elim (λ l. inl ((one.members e).1 (inl l))) (λ l. ⊎_elim (λ k. inl ((one.members e).1 (inr k))) (λ k. inr k) (mem-append e xs ys l)) h)),
      );
    }

-- an event that is there already
pub noted_there : (event : ℕ) (named : NamedEvents) → has_event named.set event ≡ true → Notes (event ∷ []) named named
noted_there event named there are = record {
  named = are;
  members = λ e. ((λ m. inl m), (λ h. ⊎_elim (λ m. m) (λ only. ⊎_elim (λ same. subst (λ x. x ∈ named.events.items) (sym same) ((are.same event).0 there)) (λ none. absurd none) only) h));
}

-- one that is new
pub noted_new : (event : ℕ) (old new : NamedEvents) → has_event old.set event ≡ false → new.events.items ≡ old.events.items ++ event ∷ [] →
    ((other : ℕ) → has_event new.set other ≡ (event == other || has_event old.set other)) → Notes (event ∷ []) old new
noted_new event old new missing pushed added are = record {
  named = record {
    distinct = subst AreDistinct (sym pushed) (distinct-append old.events.items (event ∷ []) are.distinct ((λ none. none), tt) (λ x m. ⊎_elim (λ same. not_there (subst (λ y. y ∈ old.events.items) same m)) (λ none. none)));
    same = λ e. (
      (λ there. subst (λ list. e ∈ list) (sym pushed) (⊎_elim
          (λ is. mem_append_right e old.events.items (event ∷ []) (inl (sym (eqb-true event e is))))
          (λ had. mem_append_left e old.events.items (event ∷ []) ((are.same e).0 had))
          (or_cases (event == e) (has_event old.set e) (sym (added e) ∙ there)))),
      (λ m. added e ∙ ⊎_elim
          (λ had. or_right (event == e) (has_event old.set e) ((are.same e).1 had))
          (λ only. ⊎_elim (λ same. or_left (event == e) (has_event old.set e) (eq-eqb event e (sym same))) (λ none. absurd none) only)
          (mem-append e old.events.items (event ∷ []) (subst (λ list. e ∈ list) pushed m))),
    );
  };
  members = λ e. (
    (λ m. mem-append e old.events.items (event ∷ []) (subst (λ list. e ∈ list) pushed m)),
    (λ h. subst (λ list. e ∈ list) (sym pushed) (⊎_elim (mem_append_left e old.events.items (event ∷ [])) (mem_append_right e old.events.items (event ∷ [])) h)),
  );
}
  where
    not_there : ¬ (event ∈ old.events.items)
    not_there m = true≢false (sym ((are.same event).1 m) ∙ missing)

-- one more of a list of events

pub event_noted : (events : List ℕ) (i event : ℕ) (old next new : NamedEvents) → i < length events → event ≡ get_or events i event →
    Notes (take i events) old next → Notes (event ∷ []) next new → Notes (take (i + 1) events) old new
event_noted events i event old next new inside is so_far noted =
    subst (λ list. Notes list old new) (ap (λ x. take i events ++ x ∷ []) is ∙ sym (take_more events i event inside)) (noted_more (take i events) (event ∷ []) old next new so_far noted)

-- and of a list of rules

abbrev pub named_in : List Rule → List ℕ
named_in rules = joined (map named_events (rules_of rules))

pub named_in-append : (xs ys : List Rule) → named_in (xs ++ ys) ≡ named_in xs ++ named_in ys
named_in-append xs ys =
    ap (λ list. joined (map named_events list)) (map-append rule_of xs ys)
    ∙ ap joined (map-append named_events (rules_of xs) (rules_of ys))
    ∙ joined-append (map named_events (rules_of xs)) (map named_events (rules_of ys))

pub named_in-more : (rules : List Rule) (i : ℕ) (r : Rule) → i < length rules → r ≡ get_or rules i r →
    named_in (take (i + 1) rules) ≡ named_in (take i rules) ++ named_events (rule_of r)
named_in-more rules i r inside is =
    ap named_in (take_more rules i r inside ∙ ap (λ (x : Rule). take i rules ++ x ∷ []) (sym is))
    ∙ named_in-append (take i rules) (r ∷ [])
    ∙ ap (λ list. named_in (take i rules) ++ list) (append-nil (named_events (rule_of r)))

pub rule_noted : (rules : List Rule) (i : ℕ) (r : Rule) (old next new : NamedEvents) → i < length rules → r ≡ get_or rules i r →
    Notes (joined (map named_events (rules_of (take i rules)))) old next → Notes (named_events (rule_of r)) next new →
    Notes (joined (map named_events (rules_of (take (i + 1) rules)))) old new
rule_noted rules i r old next new inside is so_far noted =
    subst (λ list. Notes list old new) (sym (named_in-more rules i r inside is)) (noted_more (named_in (take i rules)) (named_events (rule_of r)) old next new so_far noted)

-- whether an event is among them, rule by rule

pub not_yet : (rules : List Rule) (i : ℕ) (r : Rule) (event : ℕ) → i < length rules → r ≡ get_or rules i r →
    ¬ (event ∈ named_in (take i rules)) → ¬ (event ∈ named_events (rule_of r)) → ¬ (event ∈ named_in (take (i + 1) rules))
not_yet rules i r event inside is none other m =
    ⊎_elim none other (mem-append event (named_in (take i rules)) (named_events (rule_of r)) (subst (λ list. event ∈ list) (named_in-more rules i r inside is) m))

pub named_by_one : (rules : List Rule) (i : ℕ) (r : Rule) (event : ℕ) → i < length rules → r ≡ get_or rules i r →
    event ∈ named_events (rule_of r) → event ∈ named_in rules
named_by_one rules i r event inside is m =
    let here = subst (λ list. event ∈ list) (sym (named_in-more rules i r inside is)) (mem_append_right event (named_in (take i rules)) (named_events (rule_of r)) m) in
    let all = ap named_in (sym (take-append-drop (i + 1) rules)) ∙ named_in-append (take (i + 1) rules) (drop (i + 1) rules) in
    subst (λ list. event ∈ list) (sym all) (mem_append_left event (named_in (take (i + 1) rules)) (named_in (drop (i + 1) rules)) here)

-- What is found where nothing was noted before

pub all_found : (rules : List Rule) (old new : NamedEvents) → AreNamed old → old.events.items ≡ [] → Notes (joined (map named_events (rules_of rules))) old new →
    (e : ℕ) → (e ∈ new.events.items) ↔ (e ∈ named_events (all_of (rules_of rules)))
all_found rules old new are none noted e =
    let h = (noted are).members e in (
      (λ m. ⊎_elim (λ k. absurd (subst (λ list. e ∈ list) none k)) (λ k. subst (λ list. e ∈ list) (sym (named_in_all (rules_of rules))) k) (h.0 m)),
      (λ m. h.1 (inr (subst (λ list. e ∈ list) (named_in_all (rules_of rules)) m))),
    )
