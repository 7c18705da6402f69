-- What workers do leaves a history that workers may make.
use Rattle.std.proofs.Common.{◌≡◌, ◌≤◌, ◌<◌, ℕ, Bool, true, length, Result, Ok, Err, refl, sym, ap, ◌∙◌, subst, inl, inr, arith, true≢false}
use Rattle.flow_model.specs.declared.history.Call.{Call}
use Rattle.flow_model.specs.declared.history.FailEffect.TheVariants.{Switched, Kept}
use Rattle.flow_model.specs.declared.history.Outcome.{Outcome}
use Rattle.flow_model.specs.declared.history.Outcome.TheVariants as outcome
use Rattle.flow_model.specs.declared.history.Step.{Step}
use Rattle.flow_model.specs.declared.history.Step.TheVariants.{Took, Done, Failed, Late, Did, Rewound}
use Rattle.flow_model.specs.Run.{first_state, IsOpenIndex, IsLegal, leaf_of_claim}
use Rattle.flow_model.specs.Verdict.{Verdict, EndsKept, IsRunStep, IsRunVerdict, call_of, committed, spent, no_other, stuck, unfinished}
use Rattle.flow_core.specs.declared.next.Next.{Next}
use Rattle.flow_core.specs.declared.next.Next.TheVariants as next
use Rattle.flow_core.specs.declared.refusal.RewindRefusal.{RewindRefusal}
use Rattle.flow_core.specs.declared.refusal.RewindRefusal.TheVariants as rewind
use Rattle.flow_core.specs.Run.{Run, schema, now, with_entry, IsUncommitted, HasEntryLeft}
use Rattle.flow_core.specs.Answers.{Rewinds}
use Rattle.flow_core.specs.Next.{IsNext}
use Rattle.flow_core.proofs.Steps.{state_after-append}
use Rattle.flow_crew.specs.declared.moves.Move.{Move}
use Rattle.flow_crew.specs.Ends.{HasNoEnd}
use Rattle.flow_crew.specs.Moves.{IsNextStep, Advances, IsBegun, IsOut, IsPosted, IsRecorded}
use Rattle.flow_crew.specs.Invariant.{IsByWorkers}
use Rattle.flow_crew.proofs.Histories.{AreRunSteps, one_step_more, not_last_kept, IsDrivenSoFar, IsSettled, so_far, driven_settles, driven_of, one_driven_more}
use Rattle.flow_crew.proofs.Acting.{refused_late}
use Rattle.flow_crew.proofs.Endings.{has_steps, no_verdict}

-- a step by which a run goes on is no failure
pub not_failed : (r : Run) (next : Next) (step : Step) → IsNextStep r next step → (claim : ℕ) → ¬ (step ≡ Failed claim Kept)
not_failed r (next.Act leaf) step (inl h) claim e = let is : step ≡ Took _ leaf = h.1 in cc
not_failed r (next.Act leaf) step (inr h) claim e = let is : step ≡ Did leaf = h.1 in cc
not_failed r next.Finished step h claim e = cc
not_failed r (next.Stuck leaf) step h claim e = let is : step ≡ Rewound h.0 = h.2 in cc
not_failed r other step h claim e = h

module _ (gives : Call → Outcome → Bool) where
  abbrev MayGive : Call → Outcome → Type 0
  MayGive call outcome = gives call outcome ≡ true

  next_may : (r : Run) (next : Next) → IsNext r next → (step : Step) → IsNextStep r next step → IsRunStep MayGive (schema r) r.history step
  next_may r (next.Act leaf) n step (inl h) = subst (λ (s : Step). IsRunStep MayGive (schema r) r.history s) (sym h.1) tt
  next_may r (next.Act leaf) n step (inr h) = subst (λ (s : Step). IsRunStep MayGive (schema r) r.history s) (sym h.1) tt
  next_may r next.Finished n step h = subst (λ (s : Step). IsRunStep MayGive (schema r) r.history s) (sym h) tt
  next_may r (next.Stuck leaf) n step h = subst (λ (s : Step). IsRunStep MayGive (schema r) r.history s) (sym h.2) (inl n.0.0)
  next_may r other n step h = absurd h

  -- the steps of a run, and that it was driven so far
  abbrev SoFar : Run → Type 0
  SoFar r = AreRunSteps MayGive (schema r) r.history × IsDrivenSoFar (schema r) r.limit r.history

  abbrev HasNoVerdict : Run → Type 0
  HasNoVerdict r = (verdict : Verdict) → ¬ (IsRunVerdict (schema r) r.limit r.history verdict)

  -- one entry more
  one_more : (r : Run) (by : ℕ) (step : Step) → SoFar r → HasNoVerdict r → IsRunStep MayGive (schema r) r.history step →
      ((leaf i : ℕ) → EndsKept (schema r) r.history leaf → IsOpenIndex (schema r) (now r) i → length r.history < r.limit → step ≡ Rewound i) →
      SoFar (with_entry r by step)
  one_more r by step (steps, driven) none may back = (
    one_step_more MayGive (schema r) r.history (record { by = by; step = step }) steps may,
    one_driven_more (schema r) r.limit r.history (record { by = by; step = step }) driven none back,
  )

  begins : (r : Run) → IsByWorkers gives r → SoFar r
  begins r k = (k.run_legal.1, so_far (schema r) r.limit r.history k.driven)

  closes : (r : Run) → SoFar r → IsLegal (schema r) r.limit r.history → IsSettled (schema r) r.limit r.history → IsByWorkers gives r
  closes r (steps, driven) legal settled = record {
    run_legal = (legal, steps);
    driven = driven_of (schema r) r.limit r.history driven settled;
  }

  -- one entry that is no kept failure
  pub one_entry : (r : Run) (by : ℕ) (step : Step) (after : Run) → IsByWorkers gives r → HasNoEnd r → IsRunStep MayGive (schema r) r.history step →
      ((claim : ℕ) → ¬ (step ≡ Failed claim Kept)) → after ≡ with_entry r by step → IsLegal (schema after) after.limit after.history → IsByWorkers gives after
  one_entry r by step after k none may other is legal =
      let new : SoFar (with_entry r by step) = one_more r by step (begins r k) (no_verdict r none) may (λ leaf i kept free room. absurd (driven_settles (schema r) r.limit r.history k.driven leaf i kept free room)) in
      let settled : IsSettled (schema r) r.limit (with_entry r by step).history =
      λ leaf i kept free room. absurd (not_last_kept (schema r) r.history (record { by = by; step = step }) other leaf kept) in
      subst (IsByWorkers gives) (sym is) (closes (with_entry r by step) new (subst (λ (a : Run). IsLegal (schema a) a.limit a.history) is legal) settled)

  pub advanced : (r : Run) (by : ℕ) (step : Step) (after : Run) → IsByWorkers gives r → HasNoEnd r → Advances r by step after →
      IsLegal (schema after) after.limit after.history → IsByWorkers gives after
  advanced r by step after k none (next, n, s, is) legal =
      one_entry r by step after k none (next_may r next n step s) (not_failed r next step s) is legal

  -- the call is what the gate was asked
  asked : (r : Run) (call : Call) (o : Outcome) → IsOut r call → gives call o ≡ true → gives (call_of (schema r) (now r) call.claim) o ≡ true
  asked r call o out given = subst (λ (c : Call). gives c o ≡ true) out.1 given

  -- after a kept failure the run goes back, or it cannot
  module _ (r : Run) (claim by : ℕ) (k : IsByWorkers gives r) (none : HasNoEnd r) (going : IsUncommitted r) (given : IsRunStep MayGive (schema r) r.history (Failed claim Kept)) where
    abbrev failed : Run
    failed = with_entry r by (Failed claim Kept)

    failed_so_far : SoFar failed
    failed_so_far = one_more r by (Failed claim Kept) (begins r k) (no_verdict r none) given (λ leaf i kept free room. absurd (driven_settles (schema r) r.limit r.history k.driven leaf i kept free room))

    still_going : IsUncommitted failed
    still_going = ap (λ s. s.committed) (state_after-append (schema r) first_state r.history (record { by = by; step = Failed claim Kept })) ∙ going

    stays : (after : Run) → after ≡ failed → IsSettled (schema r) r.limit failed.history → IsLegal (schema after) after.limit after.history → IsByWorkers gives after
    stays after is settled legal =
        subst (IsByWorkers gives) (sym is) (closes failed failed_so_far (subst (λ (a : Run). IsLegal (schema a) a.limit a.history) is legal) settled)

    -- it goes on: there is room, and a place to go back to
    no_verdict_yet : (index : ℕ) → IsUncommitted failed → HasEntryLeft failed → IsOpenIndex (schema r) (now failed) index → HasNoVerdict failed
    no_verdict_yet index going room free committed h = true≢false (sym h ∙ going)
    no_verdict_yet index going room free spent h = omega (arith, h.1, room)
    no_verdict_yet index going room free (no_other leaf) h = h.2 index free
    no_verdict_yet index going room free (stuck waiting) h = h.2 index free
    no_verdict_yet index going room free unfinished h = h

    kept_now : (leaf : ℕ) × EndsKept (schema r) failed.history leaf
    kept_now = (leaf_of_claim (now r) claim, (r.history, (record { by = by; step = Failed claim Kept }, (claim, refl, refl, refl))))

    same_index : (i j : ℕ) → IsOpenIndex (schema r) (now failed) i → IsOpenIndex (schema r) (now failed) j → Rewound i ≡ Rewound j
    same_index i j one other = let a : i ≤ j = other.1 i one.0 in let b : j ≤ i = one.1 j other.0 in let e : i ≡ j = omega arith in ap Rewound e

    pub went_back : (answer : Result ℕ RewindRefusal) (after : Run) → Rewinds failed by answer after → IsLegal (schema after) after.limit after.history → IsByWorkers gives after
    went_back (Err rewind.Closed) after h legal = absurd (true≢false (sym h.0 ∙ still_going))
    went_back (Err (rewind.Spent limit)) after h legal = stays after h.2 (λ leaf i kept free room. h.1.0 room) legal
    went_back (Err rewind.NoChoice) after h legal = stays after h.3 (λ leaf i kept free room. h.2 i free.0) legal
    went_back (Ok index) after h legal =
        let again : SoFar (with_entry failed by (Rewound index)) =
        one_more failed by (Rewound index) failed_so_far (no_verdict_yet index h.0 h.1 h.2) (inr kept_now) (λ leaf i kept free room. same_index index i h.2 free) in
        let settled : IsSettled (schema r) r.limit (with_entry failed by (Rewound index)).history =
        λ leaf i kept free room. absurd (not_last_kept (schema r) failed.history (record { by = by; step = Rewound index }) (λ c e. cc) leaf kept) in
        subst (IsByWorkers gives) (sym h.3) (closes (with_entry failed by (Rewound index)) again (subst (λ (a : Run). IsLegal (schema a) a.limit a.history) h.3 legal) settled)

  -- a result is told
  pub recorded : (r : Run) (call : Call) (o : Outcome) (by : ℕ) (after : Run) → IsByWorkers gives r → HasNoEnd r → IsOut r call → gives call o ≡ true →
      IsRecorded r call o by after → IsLegal (schema after) after.limit after.history → IsByWorkers gives after
  recorded r call outcome.Done by after k none out given (Err refusal, h) legal =
      one_entry r by (Late call.claim) after k none tt (λ c e. cc) (refused_late r none (has_steps r none k.run_legal.0) call out by refusal after h) legal
  recorded r call outcome.Done by after k none out given (Ok _, h) legal =
      one_entry r by (Done call.claim) after k none (asked r call outcome.Done out given) (λ c e. cc) h.3 legal
  recorded r call outcome.Failed by after k none out given (Err refusal, (failed, h, is)) legal =
      one_entry r by (Late call.claim) after k none tt (λ c e. cc) (is ∙ refused_late r none (has_steps r none k.run_legal.0) call out by refusal failed h) legal
  recorded r call outcome.Failed by after k none out given (Ok Switched, (failed, h, is)) legal =
      one_entry r by (Failed call.claim Switched) after k none (asked r call outcome.Failed out given) (λ c e. cc) (is ∙ h.4) legal
  recorded r call outcome.Failed by after k none out given (Ok Kept, (failed, h, (answer, back))) legal =
      went_back r call.claim by k none h.0 (asked r call outcome.Failed out given) answer after (subst (λ (f : Run). Rewinds f by answer after) h.4 back) legal

  pub begun_by_workers : (r : Run) (by : ℕ) (move : Move) (after : Run) → IsByWorkers gives r → IsBegun r by move after →
      IsLegal (schema after) after.limit after.history → IsByWorkers gives after
  begun_by_workers r by move after k (inl h) legal = subst (IsByWorkers gives) (sym h.2) k
  begun_by_workers r by move after k (inr (inl h)) legal = subst (IsByWorkers gives) (sym h.4) k
  begun_by_workers r by move after k (inr (inr h)) legal = advanced r by h.0 after k h.1 h.2 legal

  pub posted_by_workers : (r : Run) (call : Call) (o : Outcome) (by : ℕ) (after : Run) → IsByWorkers gives r → gives call o ≡ true → IsPosted r call o by after →
      IsLegal (schema after) after.limit after.history → IsByWorkers gives after
  posted_by_workers r call o by after k given (inl h) legal = subst (IsByWorkers gives) (sym h.1) k
  posted_by_workers r call o by after k given (inr (inl h)) legal = subst (IsByWorkers gives) (sym h.2) k
  posted_by_workers r call o by after k given (inr (inr h)) legal = recorded r call o by after k h.0 h.1 given h.2 legal
