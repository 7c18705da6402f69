-- Steps that are asked of a scout, one after another.
use Rattle.std.proofs.Common.{◌≡◌, ℕ, ◌+◌, ◌-◌, ◌<◌, Bool, true, false, IsTrue, ◌↔◌, List, [], ◌∷◌, ◌++◌, length, length-append, Result, refl, sym, ap, ◌∙◌, subst, inl, inr, ⊎_elim, true≢false, arith}
use Rattle.flow_ask.specs.declared.ask.Ask.{Ask}
use Rattle.flow_ask.specs.declared.ask.Ask.TheVariants.{Do}
use Rattle.flow_ask.specs.declared.made.Made.{Made}
use Rattle.flow_ask.specs.declared.refusal.Refusal.{Refusal}
use Rattle.flow_model.specs.declared.history.Step.{Step}
use Rattle.flow_model.specs.declared.history.Step.TheVariants.{Took, Done, Failed, Late, Did, Rewound, Committed}
use Rattle.flow_core.specs.Run.{Run, with_entry, HasEntryLeft}
use Rattle.flow_core.specs.Ask.{ComesOf, GrowsAtMost}
use Rattle.flow_core.specs.Answers.{IsLeast}
use Rattle.flow_core.specs.Holding.{IsTakeable}
use Rattle.flow_names.specs.Meaning.{NoneHas}
use Rattle.flow_names.specs.Steps.{IsStepBefore, AreSteps, LeadTo, Does}

-- only a step that was done comes of asking for it
did : (leaf : ℕ) (step : Step) → ComesOf (Do leaf) step → step ≡ Did leaf
did leaf (Took claim n) h = absurd h
did leaf (Done claim) h = absurd h
did leaf (Failed claim effect) h = absurd h
did leaf (Late claim) h = absurd h
did leaf (Did n) h = ap Did h
did leaf (Rewound index) h = absurd h
did leaf Committed h = absurd h

-- a run with one entry more is longer
longer : (r : Run) (by : ℕ) (step : Step) → length (with_entry r by step).history ≡ length r.history + 1
longer r by step = length-append r.history (record { by = by; step = step } ∷ [])

-- whether the step was done, by the lengths of the history
pub does_by : {S : Type 0} (run : S → Run) (answers : S → Ask → ℕ → Result Made Refusal → S → Type 0) (before after : S) (by leaf : ℕ)
    (answer : Result Made Refusal) (b : Bool) → GrowsAtMost (run before) (Do leaf) by (run after) → answers before (Do leaf) by answer after →
    HasEntryLeft (run before) → IsTrue b ↔ (length (run before).history < length (run after).history) → Does run answers before by leaf b after
does_by run answers before after by leaf answer true grows asked room test = ⊎_elim
    (λ same. let less : length (run before).history < length (run after).history = test.0 refl in
    absurd (omega (arith, less, ap (λ (r : Run). length r.history) same)))
    (λ (step, comes, e). (room, subst (λ s. run after ≡ with_entry (run before) by s) (did leaf step comes) e)) grows
does_by run answers before after by leaf answer false grows asked room test = ⊎_elim
    (λ same. (same, inr (answer, asked)))
    (λ (step, comes, e). let less : length (run before).history < length (run after).history =
    omega (arith, longer (run before) by step, ap (λ (r : Run). length r.history) e) in
    absurd (true≢false (sym (test.1 less)))) grows

-- one step more
pub steps_more : (r : Run) (by leaf : ℕ) (steps : List ℕ) (mid after : Run) (step : ℕ) → AreSteps r by leaf steps mid → ¬ (IsTakeable mid leaf) →
    IsLeast (IsStepBefore mid leaf) step → after ≡ with_entry mid by (Did step) → AreSteps r by leaf (steps ++ step ∷ []) after
steps_more r by leaf [] mid after step same waits least next =
    let P : Run → Type 0 = λ m. ¬ (IsTakeable m leaf) × IsLeast (IsStepBefore m leaf) step × (after ≡ with_entry m by (Did step)) in
    subst P same (waits, least, next)
steps_more r by leaf (s ∷ steps) mid after step (w, l, more) waits least next =
    (w, l, steps_more (with_entry r by (Did s)) by leaf steps mid after step more waits least next)

-- there is less room behind a step
pub less_room : (r after : Run) (by step : ℕ) → HasEntryLeft r → after ≡ with_entry r by (Did step) →
    after.limit - length after.history < r.limit - length r.history
less_room r after by step room e =
    let limit : after.limit ≡ r.limit = ap (λ (s : Run). s.limit) e in
    let count : length after.history ≡ length r.history + 1 = ap (λ (s : Run). length s.history) e ∙ longer r by (Did step) in
    let left : length r.history < r.limit = room in
    omega arith

-- no step was left
pub none_left : {S : Type 0} (run : S → Run) (answers : S → Ask → ℕ → Result Made Refusal → S → Type 0) (r : Run) (by leaf : ℕ) (tried list : List ℕ)
    (after : S) → AreSteps r by leaf tried (run after) → ¬ (IsTakeable (run after) leaf) → NoneHas (IsStepBefore (run after) leaf) → list ≡ [] →
    LeadTo run answers r by leaf list after
none_left run answers r by leaf tried list after steps waits none empty = inr (empty, (tried, steps, waits, inl none))

-- the next step was not done
pub not_done : {S : Type 0} (run : S → Run) (answers : S → Ask → ℕ → Result Made Refusal → S → Type 0) (r : Run) (by leaf step : ℕ) (tried list : List ℕ)
    (before after : S) → AreSteps r by leaf tried (run before) → ¬ (IsTakeable (run before) leaf) → IsLeast (IsStepBefore (run before) leaf) step →
    Does run answers before by step false after → list ≡ [] → LeadTo run answers r by leaf list after
not_done run answers r by leaf step tried list before after steps waits least (same, why) empty =
    let back = sym same in
    inr (
      empty,
      (
        tried,
        subst (AreSteps r by leaf tried) back steps,
        subst (λ m. ¬ (IsTakeable m leaf)) back waits,
        inr (⊎_elim (λ full. inl (subst (λ m. ¬ (HasEntryLeft m)) back full))
            (λ (answer, asked). inr (before, step, answer, back, subst (λ m. IsLeast (IsStepBefore m leaf) step) back least, asked)) why),
      ),
    )
