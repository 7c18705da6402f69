-- The events that are to have takers.
use Rattle.std.proofs.Common.{◌≡◌, ◌<◌, ◌≤◌, ◌+◌, ◌↔◌, ◌⊎◌, ℕ, zero, suc, List, [], ◌∷◌, ◌++◌, length, Some, inl, inr, ⊎_elim, sym, ap, subst, ◌∙◌, arith}
use Rattle.std.proofs.lemmas.Bool.{cases_lt}
use Rattle.flow_model.specs.declared.labels.Label.{Label}
use Rattle.flow_model.specs.Facts.{event_at}
use Rattle.flow_model.specs.Lists.{◌∈◌}
use Rattle.flow_model.specs.Schema.{Schema}
use Rattle.flow_model.specs.Duties.{Duties}
use Rattle.flow_model.proofs.Lists.{mem-append, mem_append_left, mem_append_right, only_one}
use Rattle.flow_stages.specs.declared.question.Question.{Question}
use Rattle.flow_stages.specs.declared.wanted.Wanted.{Wanted}
use Rattle.flow_stages.specs.declared.wanted.Wanted.TheVariants.{Anybody, NobodyFor}
use Rattle.flow_stages.specs.declared.nodes.Node.{Node}
use Rattle.flow_stages.specs.declared.question.Question.TheVariants.{Both}
use Rattle.flow_plan.specs.Orders.{MayComeNext}
use Rattle.flow_plan.specs.Planned.{Planned}
use Rattle.flow_stages.specs.Asked.{wanted_by, IsEventOf, IsToHave, FitsAfter, IsSo, IsShown}
use Rattle.flow_stages.specs.Listed.{IsReached, IsLookedAt}
use Rattle.flow_stages.specs.Fitting.{Fits, HasSomebody, taker_by}
use Rattle.flow_stages.proofs.Closure.{fits_as}

-- it is the event of a leaf of the list with a number below
abbrev pub IsEventBelow : Schema → List ℕ → ℕ → ℕ → Type 0
IsEventBelow w list below e = (n : ℕ) × (n < below) × (n ∈ list) × (event_at w.labels n ≡ Some e)

-- a leaf with an event has a label
labelled : (labels : List Label) (n e : ℕ) → event_at labels n ≡ Some e → n < length labels
labelled [] n e is = cc
labelled (x ∷ labels) zero e is = omega arith
labelled (x ∷ labels) (suc n) e is = let more = labelled labels n e is in omega (arith, more)

module _ (w : Schema) (list : List ℕ) where
  pub none_below : (e : ℕ) → ¬ (IsEventBelow w list 0 e)
  none_below e (n, low, m, is) = omega (arith, low)

  pub all_below : (leaves e : ℕ) → length w.labels ≤ leaves → IsEventBelow w list leaves e ↔ IsEventOf w list e
  all_below leaves e all = (
    λ (n, low, m, is). (n, m, is),
    λ (n, m, is). (n, (let h = labelled w.labels n e is in omega (arith, h, all)), m, is),
  )

  -- one leaf more
  pub one_below : (leaf e : ℕ) → IsEventBelow w list (leaf + 1) e → IsEventBelow w list leaf e ⊎ ((leaf ∈ list) × (event_at w.labels leaf ≡ Some e))
  one_below leaf e (n, low, m, is) = ⊎_elim
      (λ less. inl (n, less, m, is))
      (λ past. let same : n ≡ leaf = omega (arith, low, past) in inr (subst (λ x. x ∈ list) same m, subst (λ x. event_at w.labels x ≡ Some e) same is))
      (cases_lt n leaf)

  pub below_more : (leaf e : ℕ) → IsEventBelow w list leaf e → IsEventBelow w list (leaf + 1) e
  below_more leaf e (n, low, m, is) = (n, (let h : n < leaf + 1 = omega (arith, low) in h), m, is)

  pub below_here : (leaf e : ℕ) → leaf ∈ list → event_at w.labels leaf ≡ Some e → IsEventBelow w list (leaf + 1) e
  below_here leaf e m is = (leaf, (let h : leaf < leaf + 1 = omega arith in h), m, is)

  -- of one more leaf the event is added, where it is done
  pub event_more : (Named : ℕ → Type 0) (old new : List ℕ) (leaf event : ℕ) → event_at w.labels leaf ≡ Some event → leaf ∈ list → new ≡ old ++ event ∷ [] →
      ((e : ℕ) → (e ∈ old) ↔ (Named e ⊎ IsEventBelow w list leaf e)) → (e : ℕ) → (e ∈ new) ↔ (Named e ⊎ IsEventBelow w list (leaf + 1) e)
  event_more Named old new leaf event of m same are e = (
    λ k. ⊎_elim (λ before. ⊎_elim (λ named. inl named) (λ below. inr (below_more leaf e below)) ((are e).0 before))
        (λ here. inr (below_here leaf e m (of ∙ ap Some (sym (only_one e event here))))) (mem-append e old (event ∷ []) (subst (λ (l : List ℕ). e ∈ l) same k)),
    λ h. subst (λ (l : List ℕ). e ∈ l) (sym same) (⊎_elim
        (λ named. mem_append_left e old (event ∷ []) ((are e).1 (inl named)))
        (λ below. ⊎_elim (λ less. mem_append_left e old (event ∷ []) ((are e).1 (inr less)))
        (λ (j, is). let both : Some e ≡ Some event = sym is ∙ of in let one : e ≡ event = cc in mem_append_right e old (event ∷ []) (inl one)) (one_below leaf e below)) h),
  )

  pub event_none : (Named : ℕ → Type 0) (old new : List ℕ) (leaf : ℕ) → ((event : ℕ) → event_at w.labels leaf ≡ Some event → ¬ (leaf ∈ list)) → new ≡ old →
      ((e : ℕ) → (e ∈ old) ↔ (Named e ⊎ IsEventBelow w list leaf e)) → (e : ℕ) → (e ∈ new) ↔ (Named e ⊎ IsEventBelow w list (leaf + 1) e)
  event_none Named old new leaf none same are e = (
    λ k. ⊎_elim (λ named. inl named) (λ below. inr (below_more leaf e below)) ((are e).0 (subst (λ (l : List ℕ). e ∈ l) same k)),
    λ h. subst (λ (l : List ℕ). e ∈ l) (sym same) ((are e).1 (⊎_elim (λ named. inl named)
        (λ below. ⊎_elim (λ less. inr less) (λ (j, is). absurd (none e is j)) (one_below leaf e below)) h)),
  )

  pub events_are : (question : Question) (Named : ℕ → Type 0) (events : List ℕ) (leaves : ℕ) → length w.labels ≤ leaves →
      ((e : ℕ) → (e ∈ events) ↔ (Named e ⊎ IsEventBelow w list leaves e)) → (e : ℕ) → (e ∈ events) ↔ (Named e ⊎ IsEventOf w list e)
  events_are question Named events leaves all are e = (
    λ k. ⊎_elim (λ named. inl named) (λ below. inr ((all_below leaves e all).0 below)) ((are e).0 k),
    λ h. (are e).1 (⊎_elim (λ named. inl named) (λ of. inr ((all_below leaves e all).1 of)) h),
  )

  -- users who fit the leaves fit the events
  pub fits_events : (d : Duties) (question : Question) (wanted : Wanted) (events : List ℕ) (to : ℕ → ℕ) → wanted_by question ≡ wanted →
      ((e : ℕ) → (e ∈ events) ↔ IsToHave w question list e) → FitsAfter w d question list to → Fits d wanted (λ e. e ∈ events) to
  fits_events d question wanted events to is are fits =
      subst (λ (v : Wanted). Fits d v (λ e. e ∈ events) to) is (fits_as d (wanted_by question) (λ e. e ∈ events) (IsToHave w question list) to (λ e. (are e).0) fits)

-- where nobody is to have an event, no two events are to go to one user
pub fits_any : (d : Duties) (event : ℕ) (P : ℕ → Type 0) (to : ℕ → ℕ) → Fits d Anybody P to → Fits d (NobodyFor event) P to
fits_any d event P to fits = record {
  role = fits.role;
  beside = λ e f m k. let goes = fits.beside e f m k in record { same = goes.same; apart = goes.apart; together = goes.together; one = λ none. absurd none };
}

pub somebody_as : (d : Duties) (event : ℕ) (P Q : ℕ → Type 0) (to : ℕ → ℕ) → ((f : ℕ) → Q f → P f) → HasSomebody d event P to → HasSomebody d event Q to
somebody_as d event P Q to less (user, role, beside) = (user, role, λ f m. beside f (less f m))

-- nobody may have it, so nobody is to
pub fits_none : (d : Duties) (event : ℕ) (P : ℕ → Type 0) (to : ℕ → ℕ) → Fits d (NobodyFor event) P to → Fits d Anybody P to
fits_none d event P to fits = record {
  role = fits.role;
  beside = λ e f m k. let goes = fits.beside e f m k in record { same = goes.same; apart = goes.apart; together = goes.together; one = λ none. absurd none };
}

-- users who fit the events fit the leaves
pub fits_after : (w : Schema) (d : Duties) (question : Question) (wanted : Wanted) (list events : List ℕ) (to : ℕ → ℕ) → wanted_by question ≡ wanted →
    ((e : ℕ) → (e ∈ events) ↔ IsToHave w question list e) → Fits d wanted (λ e. e ∈ events) to → FitsAfter w d question list to
fits_after w d question wanted list events to is are fits =
    subst (λ (v : Wanted). Fits d v (IsToHave w question list) to) (sym is) (fits_as d wanted (IsToHave w question list) (λ e. e ∈ events) to (λ e. (are e).1) fits)

-- what is shown of an event that nobody may take
pub unmanned_shown : (w : Schema) (d : Duties) (p : Planned) (question : Question) (node : Node) (events : List ℕ) (takers : List (ℕ × ℕ)) (event leaf : ℕ) →
    IsLookedAt w p question node events → MayComeNext p (λ x. x ∈ node.leaves.items) leaf → event_at w.labels leaf ≡ Some event →
    Fits d Anybody (λ e. e ∈ events) (taker_by takers) → ¬ (HasSomebody d event (λ e. e ∈ events) (taker_by takers)) →
    IsShown w d p question node.leaves.items takers event
unmanned_shown w d p question node events takers event leaf looked may of fits none = record {
  run = looked.reached.run;
  fits = fits_after w d question Anybody node.leaves.items events (taker_by takers) (ap wanted_by looked.unmanned) looked.are fits;
  so = subst (λ (q : Question). IsSo w d p q node.leaves.items (taker_by takers) event) (sym looked.unmanned) (
    (leaf, may, of),
    λ some. none (somebody_as d event (IsEventOf w node.leaves.items) (λ e. e ∈ events) (taker_by takers) (λ f m.
        ⊎_elim (λ named. absurd named) (λ e. e) (subst (λ (q : Question). IsToHave w q node.leaves.items f) looked.unmanned ((looked.are f).0 m))) some),
  );
}

-- what is shown of one user who has both
pub both_shown : (w : Schema) (d : Duties) (p : Planned) (question : Question) (node : Node) (takers : List (ℕ × ℕ)) (one two event : ℕ) → question ≡ Both one two →
    IsReached w p node → FitsAfter w d question node.leaves.items (taker_by takers) → IsEventOf w node.leaves.items one → IsEventOf w node.leaves.items two →
    IsShown w d p question node.leaves.items takers event
both_shown w d p question node takers one two event is reached fits first second = record {
  run = reached.run;
  fits = fits;
  so = subst (λ (q : Question). IsSo w d p q node.leaves.items (taker_by takers) event) (sym is) (first, second);
}
