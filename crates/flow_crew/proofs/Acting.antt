-- The answers that a run gives where it can go on.
use Rattle.std.proofs.Common.{◌≡◌, ℕ, false, Result, Ok, Err, IsSomeAnd, refl, subst, inl, inr, arith}
use Rattle.std.specs.Result.{IsOk}
use Rattle.flow_model.specs.declared.history.Call.{Call}
use Rattle.flow_model.specs.declared.history.FailEffect.{FailEffect}
use Rattle.flow_model.specs.declared.history.FailEffect.TheVariants.{Switched, Kept}
use Rattle.flow_model.specs.declared.history.Step.{Step}
use Rattle.flow_model.specs.declared.history.Step.TheVariants.{Done, Failed, Late, Did, Committed}
use Rattle.flow_model.specs.Schema.{IsOtherLeaf}
use Rattle.flow_model.specs.Run.{Claim, CanDo}
use Rattle.flow_model.specs.Verdict.{EndsKept}
use Rattle.flow_core.specs.declared.next.Next.TheVariants as next
use Rattle.flow_core.specs.declared.refusal.TakeRefusal.{TakeRefusal}
use Rattle.flow_core.specs.declared.refusal.TakeRefusal.TheVariants as take
use Rattle.flow_core.specs.declared.refusal.DoRefusal.{DoRefusal}
use Rattle.flow_core.specs.declared.refusal.DoRefusal.TheVariants as perform
use Rattle.flow_core.specs.declared.refusal.PostRefusal.{PostRefusal}
use Rattle.flow_core.specs.declared.refusal.PostRefusal.TheVariants as post
use Rattle.flow_core.specs.declared.refusal.RewindRefusal.{RewindRefusal}
use Rattle.flow_core.specs.declared.refusal.RewindRefusal.TheVariants as rewind
use Rattle.flow_core.specs.declared.refusal.CommitRefusal.{CommitRefusal}
use Rattle.flow_core.specs.declared.refusal.CommitRefusal.TheVariants as commit
use Rattle.flow_core.specs.Run.{Run, schema, now, with_entry, HasEntryLeft}
use Rattle.flow_core.specs.Answers.{IsOver, Takes, Performs, Commits, Rewinds, PostIsRefused, PostsDone, PostsFailed}
use Rattle.flow_core.specs.Next.{IsNext}
use Rattle.flow_core.proofs.SingleLemmas.{none_event, none_other, other_event, not_both}
use Rattle.flow_core.proofs.NextLemmas.{none_current}
use Rattle.flow_core.specs.declared.end.End.TheVariants as end
use Rattle.flow_crew.specs.Ends.{HasNoEnd}
use Rattle.flow_crew.specs.Moves.{IsOut}
use Rattle.flow_crew.proofs.Endings.{goes_on, stuck_ends}
use Rattle.flow_crew.proofs.Histories.{not_last_kept}

module _ (r : Run) (none : HasNoEnd r) (steps : HasEntryLeft r) where
  not_over : ¬ (IsOver r)
  not_over over = none end.Committed over

  module _ (leaf : ℕ) (acts : IsNext r (next.Act leaf)) where
    -- a leaf that can act and is not taken can be done
    pub not_taken : (by : ℕ) (refusal : TakeRefusal) (after : Run) → Takes r leaf by (Err refusal) after → CanDo (schema r) (now r) leaf × (after ≡ r)
    not_taken by take.Closed after (h, is) = absurd (not_over h)
    not_taken by take.NoLeaf after (h, is) = elim acts.0.1 [
      | inl can ↦ absurd (none_event (schema r) leaf h.1 can.0)
      | inr can ↦ absurd (none_other (schema r) leaf h.1 can.0.0)
    ]
    not_taken by take.WrongKind after (h, is) = elim acts.0.1 [
      | inl can ↦ absurd (other_event (schema r) leaf h.1 can.0)
      | inr can ↦ (can, is)
    ]
    not_taken by (take.Spent limit) after (h, is) = absurd (h.2.0 steps)
    not_taken by take.NotEnabled after (h, is) = elim acts.0.1 [
      | inl can ↦ absurd (h.3 can)
      | inr can ↦ absurd (other_event (schema r) leaf can.0.0 h.1)
    ]

    performed : (by : ℕ) (answer : Result (Unit {0}) DoRefusal) (after : Run) → CanDo (schema r) (now r) leaf → Performs r leaf by answer after →
        IsOk answer × (after ≡ with_entry r by (Did leaf))
    performed by (Err perform.Closed) after can h = absurd (not_over h.0)
    performed by (Err perform.NoLeaf) after can h = absurd (none_other (schema r) leaf h.1 can.0.0)
    performed by (Err perform.WrongKind) after can h = absurd (other_event (schema r) leaf can.0.0 h.1)
    performed by (Err (perform.Spent limit)) after can h = absurd (h.2.0 steps)
    performed by (Err perform.NotEnabled) after can h = absurd (h.3 can.0)
    performed by (Err perform.TestFalse) after can h = absurd (h.3 can.1)
    performed by (Ok _) after can h = (refl, h.4)

    pub done_instead : (by : ℕ) (refusal : TakeRefusal) (mid : Run) (answer : Result (Unit {0}) DoRefusal) (after : Run) → Takes r leaf by (Err refusal) mid →
        Performs mid leaf by answer after → IsOk answer × (IsOtherLeaf (schema r) leaf × (after ≡ with_entry r by (Did leaf)))
    done_instead by refusal mid answer after h p =
        let (can, is) = not_taken by refusal mid h in
        let (fine, made) = performed by answer after can (subst (λ (m : Run). Performs m leaf by answer after) is p) in
        (fine, (can.0.0, made))

  pub is_committed : IsNext r next.Finished → (by : ℕ) (answer : Result (Unit {0}) CommitRefusal) (after : Run) → Commits r by answer after →
      IsOk answer × (after ≡ with_entry r by Committed)
  is_committed n by (Err commit.Closed) after h = absurd (not_over h.0)
  is_committed n by (Err (commit.Spent limit)) after h = absurd (h.1.0 steps)
  is_committed n by (Err (commit.ClaimsOut claim)) after h = absurd (none_current (now r) claim n.2 h.2.0)
  is_committed n by (Err commit.Unfinished) after h = absurd (h.3 n.3)
  is_committed n by (Ok _) after h = (refl, h.4)

  pub is_rewound : (leaf : ℕ) → IsNext r (next.Stuck leaf) → (by : ℕ) (answer : Result ℕ RewindRefusal) (after : Run) → Rewinds r by answer after → IsOk answer
  is_rewound leaf n by (Err rewind.Closed) after h = absurd (not_over h.0)
  is_rewound leaf n by (Err (rewind.Spent limit)) after h = absurd (h.1.0 steps)
  is_rewound leaf n by (Err rewind.NoChoice) after h =
      let stands = stuck_ends r (goes_on r none) (λ full. omega arith) (λ i free. h.2 i free.0) n.0.0 in absurd (none stands.0 stands.1)
  is_rewound leaf n by (Ok index) after h = refl

  -- ---- what is told of a claim that is out

  module _ (call : Call) (out : IsOut r call) (by : ℕ) where
    -- only a late result is refused
    pub refused_late : (refusal : PostRefusal) (after : Run) → PostIsRefused r call.claim by refusal after → after ≡ with_entry r by (Late call.claim)
    refused_late post.Closed after h = absurd (not_over h.0)
    refused_late post.NoClaim after h = absurd (subst (λ o. IsSomeAnd o (λ (c : Claim). c.answered ≡ false)) h.1 out.0)
    refused_late post.Answered after h = absurd (not_both (now r) call.claim h.1 out.0)
    refused_late (post.Spent limit) after h = absurd (h.2.0 steps)
    refused_late (post.Late of at) after h = h.4

    ends_otherwise : (step : Step) → ((claim : ℕ) → ¬ (step ≡ Failed claim Kept)) → (after : Run) → after ≡ with_entry r by step → (leaf : ℕ) → ¬ (EndsKept (schema after) after.history leaf)
    ends_otherwise step other after is leaf kept =
        not_last_kept (schema r) r.history (record { by = by; step = step }) other leaf (subst (λ (a : Run). EndsKept (schema a) a.history leaf) is kept)

    pub done_not_kept : (answer : Result (Unit {0}) PostRefusal) (after : Run) → PostsDone r call.claim by answer after → (leaf : ℕ) → ¬ (EndsKept (schema after) after.history leaf)
    done_not_kept (Err refusal) after h leaf = ends_otherwise (Late call.claim) (λ c e. cc) after (refused_late refusal after h) leaf
    done_not_kept (Ok _) after h leaf = ends_otherwise (Done call.claim) (λ c e. cc) after h.3 leaf

    pub failed_not_kept : (answer : Result FailEffect PostRefusal) (after : Run) → PostsFailed r call.claim by answer after → ¬ (answer ≡ Ok Kept) → (leaf : ℕ) → ¬ (EndsKept (schema after) after.history leaf)
    failed_not_kept (Err refusal) after h other leaf = ends_otherwise (Late call.claim) (λ c e. cc) after (refused_late refusal after h) leaf
    failed_not_kept (Ok Switched) after h other leaf = ends_otherwise (Failed call.claim Switched) (λ c e. cc) after h.4 leaf
    failed_not_kept (Ok Kept) after h other leaf = absurd (other refl)
