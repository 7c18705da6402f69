-- An entry that is made, or has no place, by what was found of its leaves.
use Rattle.std.proofs.Common.{◌≡◌, ◌<◌, ℕ, ◌+◌, List, [], ◌∷◌, ◌++◌, Some, length, take, slice_get, refl, sym, ap, subst, ◌∙◌, get_or, append_assoc}
use Rattle.std.proofs.lemmas.List.{take_more}
use Rattle.std.proofs.lemmas.Option.{same_Some, slice_get_within}
use Rattle.flow_model.specs.declared.history.Entry.{Entry}
use Rattle.flow_model.specs.declared.history.Step.{Step}
use Rattle.flow_core.specs.Run.{Run}
use Rattle.flow_case.specs.declared.case_run.CaseRun.{CaseRun}
use Rattle.flow_case.specs.declared.case_run.CaseRun.TheVariants.{Free, UnderPolicy}
use Rattle.flow_case.specs.CaseRun.{run_of, case_with, CanMakeInCase}
use Rattle.flow_case.proofs.Following.{with_none}
use Rattle.flow_move.specs.declared.new_names.NewNames.{NewNames}
use Rattle.flow_move.specs.declared.unmoved.Cause.{Cause}
use Rattle.flow_move.specs.declared.unmoved.Cause.TheVariants.{NoUser, NoName, NotNow, Forbidden}
use Rattle.flow_move.specs.Labels.{labels_in}
use Rattle.flow_move.specs.Moves.{IsCaller, definition_of, MayMove, Moves, AreMoved, on_leaf, leaf_in}
use Rattle.flow_move.specs.Causes.{IsLetByRun, IsCause, IsUnmoved, IsCauseOn, IsCauseOf}
use Rattle.flow_move.specs.Found.{MayOn, HasLeaf}
use Rattle.flow_move.proofs.StepLemmas.{step_on, as_on, plain_as, as_plain}

-- one number of a user stands for one in the new case
one_caller : (names : NewNames) (old by other : ℕ) → IsCaller names old by → IsCaller names old other → other ≡ by
one_caller names old by other is also = same_Some other by (same_Some (Some other) (Some by) (sym also ∙ is))

entry_is : (new : Entry) (by : ℕ) (step : Step) → new.by ≡ by → new.step ≡ step → new ≡ record { by = by; step = step }
entry_is new by step e f k = record { by = e k; step = f k }

-- what is found of a step that is on a leaf of the label
pub record IsSought (names : NewNames) (old : Entry) (by : ℕ) (label : List ℕ) : Type 0 where
  pub caller : IsCaller names old.by by
  pub leaf : HasLeaf old.step
  pub named : slice_get names.labels.items (leaf_in old.step) ≡ Some label

record IsFoundOn (names : NewNames) (c : CaseRun) (old : Entry) (by : ℕ) (label : List ℕ) (new : Entry) : Type 0 where
  pub on : ℕ
  pub may : MayOn c (labels_in (definition_of c)) label by old.step on
  pub is : new.step ≡ on_leaf old.step on

found_on : (names : NewNames) (c : CaseRun) (old : Entry) (by : ℕ) (label : List ℕ) (new : Entry) → IsSought names old by label →
    MayMove names c old new → IsFoundOn names c old by label new
found_on names c old by label new s ((caller, by_names), can) =
    let on = as_on names (definition_of c) old.step label new.step s.leaf s.named by_names in record {
      on = on.leaf;
      may = (on.there, subst (CanMakeInCase c) (entry_is new by (on_leaf old.step on.leaf) (one_caller names old.by by new.by s.caller caller) on.is) can);
      is = on.is;
    }

-- where it may come on none, it has no place
none_on : (names : NewNames) (c : CaseRun) (old : Entry) (by : ℕ) (label : List ℕ) → IsSought names old by label →
    ((leaf : ℕ) → ¬ (MayOn c (labels_in (definition_of c)) label by old.step leaf)) → (new : Entry) → ¬ (MayMove names c old new)
none_on names c old by label s none new may = let found = found_on names c old by label new s may in none found.on found.may

cause_is : (names : NewNames) (c : CaseRun) (old : Entry) (by : ℕ) (label : List ℕ) (cause : Cause) → IsSought names old by label →
    IsCauseOn (run_of c) (labels_in (definition_of c)) label old.step (length (labels_in (definition_of c))) cause → IsCause names c old cause
cause_is names c old by label NoUser s none = elim none [ ]
cause_is names c old by label NoName s none = (
  (by, s.caller),
  λ step by_names.
      let on = as_on names (definition_of c) old.step label step s.leaf s.named by_names in
      none on.leaf (slice_get_within (labels_in (definition_of c)) on.leaf label on.there) on.there,
)
cause_is names c old by label NotNow s ((leaf, there), none) = (
  (by, s.caller),
  (on_leaf old.step leaf, step_on names (definition_of c) old.step label leaf s.leaf s.named there),
  λ step (by_names, lets).
      let on = as_on names (definition_of c) old.step label step s.leaf s.named by_names in
      none on.leaf (slice_get_within (labels_in (definition_of c)) on.leaf label on.there) on.there (subst (IsLetByRun (run_of c)) on.is lets),
)
cause_is names c old by label Forbidden s (leaf, there, lets) = (
  (by, s.caller),
  (on_leaf old.step leaf, (step_on names (definition_of c) old.step label leaf s.leaf s.named there, lets)),
)

unmoved_on : (names : NewNames) (c : CaseRun) (old : Entry) (by : ℕ) (label : List ℕ) (cause : Cause) → IsSought names old by label →
    ((leaf : ℕ) → ¬ (MayOn c (labels_in (definition_of c)) label by old.step leaf)) →
    IsCauseOn (run_of c) (labels_in (definition_of c)) label old.step (length (labels_in (definition_of c))) cause → IsUnmoved names c old cause
unmoved_on names c old by label cause s none on = record {
  none = none_on names c old by label s none;
  why = cause_is names c old by label cause s on;
}

-- ---- a step that has no leaf

plain_cause : (names : NewNames) (c : CaseRun) (old : Entry) (by : ℕ) (cause : Cause) → IsCaller names old.by by → ¬ (HasLeaf old.step) →
    IsCauseOf (run_of c) old.step cause → IsCause names c old cause
plain_cause names c old by NoUser caller plain none = elim none [ ]
plain_cause names c old by NoName caller plain none = elim none [ ]
plain_cause names c old by NotNow caller plain none = (
  (by, caller),
  (old.step, as_plain names (definition_of c) old.step plain),
  λ step (by_names, lets). none (subst (IsLetByRun (run_of c)) (plain_as names (definition_of c) old.step step plain by_names) lets),
)
plain_cause names c old by Forbidden caller plain lets = ((by, caller), (old.step, (as_plain names (definition_of c) old.step plain, lets)))

unmoved_plain : (names : NewNames) (c : CaseRun) (old : Entry) (by : ℕ) (cause : Cause) → IsCaller names old.by by → ¬ (HasLeaf old.step) →
    ¬ (CanMakeInCase c (record { by = by; step = old.step })) → IsCauseOf (run_of c) old.step cause → IsUnmoved names c old cause
unmoved_plain names c old by cause caller plain cannot why = record {
  none = λ new may. cannot (subst (CanMakeInCase c)
      (entry_is new by old.step (one_caller names old.by by new.by caller may.0.0) (plain_as names (definition_of c) old.step new.step plain may.0.1)) may.1);
  why = plain_cause names c old by cause caller plain why;
}

-- ---- entries, one after another

abbrev with_history : CaseRun → List Entry → CaseRun
with_history (Free r) history = Free (record r { history = history })
with_history (UnderPolicy c) history = UnderPolicy (record c { desk = record c.desk { run = record c.desk.run { history = history } } })

with_both : (c : CaseRun) (xs ys : List Entry) → case_with (case_with c xs) ys ≡ case_with c (xs ++ ys)
with_both (Free r) xs ys = ap (with_history (Free r)) (append_assoc r.history xs ys)
with_both (UnderPolicy c) xs ys = ap (with_history (UnderPolicy c)) (append_assoc c.desk.run.history xs ys)

moved_more : (names : NewNames) (c : CaseRun) (olds : List Entry) (old : Entry) (made : List Entry) (new : Entry) → AreMoved names c olds made →
    Moves names (case_with c made) old new → AreMoved names c (olds ++ old ∷ []) (made ++ new ∷ [])
moved_more names c [] old made new none moves = (
  new,
  [],
  ap (λ l. l ++ new ∷ []) none,
  subst (λ (d : CaseRun). Moves names d old new) (ap (case_with c) none ∙ sym (with_none c)) moves,
  refl,
)
moved_more names c (x ∷ olds) old made new (first, rest, is, first_moves, more) moves = (
  first,
  rest ++ new ∷ [],
  ap (λ l. l ++ new ∷ []) is,
  first_moves,
  moved_more names (case_with c (first ∷ [])) olds old rest new more
      (subst (λ (d : CaseRun). Moves names d old new) (ap (case_with c) is ∙ sym (with_both c (first ∷ []) rest)) moves),
)

-- ---- as the code has them

pub unmoved_at : (names : NewNames) (c after : CaseRun) (r : Run) (old : Entry) (by : ℕ) (label : List ℕ) (labels : List (List ℕ)) (cause : Cause) →
    IsSought names old by label → labels ≡ labels_in (definition_of c) → after ≡ c → r ≡ run_of after →
    ((leaf : ℕ) → ¬ (MayOn c labels label by old.step leaf)) → IsCauseOn r labels label old.step (length labels) cause → IsUnmoved names c old cause
unmoved_at names c after r old by label labels cause s is kept run none why =
    unmoved_on names c old by label cause s (subst (λ (l : List (List ℕ)). (leaf : ℕ) → ¬ (MayOn c l label by old.step leaf)) is none)
    (subst (λ (l : List (List ℕ)). IsCauseOn (run_of c) l label old.step (length l) cause) is
    (subst (λ (q : Run). IsCauseOn q labels label old.step (length labels) cause) (run ∙ ap run_of kept) why))

pub unmoved_plain_at : (names : NewNames) (c after : CaseRun) (r : Run) (old : Entry) (by : ℕ) (cause : Cause) → IsCaller names old.by by →
    ¬ (HasLeaf old.step) → after ≡ c → r ≡ run_of after → ¬ (CanMakeInCase c (record { by = by; step = old.step })) → IsCauseOf r old.step cause →
    IsUnmoved names c old cause
unmoved_plain_at names c after r old by cause caller plain kept run cannot why =
    unmoved_plain names c old by cause caller plain cannot (subst (λ (q : Run). IsCauseOf q old.step cause) (run ∙ ap run_of kept) why)

pub record HasMoved (names : NewNames) (now : CaseRun) (old : Entry) (after : CaseRun) : Type 0 where
  pub new : Entry
  pub moves : Moves names now old new
  pub is : after ≡ case_with now (new ∷ [])

pub moved_at : (names : NewNames) (c now after : CaseRun) (history made : List Entry) (k : ℕ) (d : Entry) → k < length history →
    AreMoved names c (take k history) made → now ≡ case_with c made → HasMoved names now (get_or history k d) after →
    (x : List Entry) × AreMoved names c (take (k + 1) history) x × (after ≡ case_with c x)
moved_at names c now after history made k d within moved is has = (
  made ++ has.new ∷ [],
  subst (λ (l : List Entry). AreMoved names c l (made ++ has.new ∷ [])) (sym (take_more history k d within))
      (moved_more names c (take k history) (get_or history k d) made has.new moved
      (subst (λ (x : CaseRun). Moves names x (get_or history k d) has.new) is has.moves)),
  has.is ∙ ap (λ (x : CaseRun). case_with x (has.new ∷ [])) is ∙ with_both c made (has.new ∷ []),
)
