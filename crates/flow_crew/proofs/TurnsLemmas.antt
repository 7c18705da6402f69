-- Each turn at a run has one answer, and leaves one run.
use Rattle.std.proofs.Common.{◌≡◌, ◌∙◌, ℕ, Result, Ok, Err, le_antisymm, sym, ap, subst, inl, inr}
use Rattle.flow_model.specs.declared.history.Call.{Call}
use Rattle.flow_model.specs.declared.history.FailEffect.{FailEffect}
use Rattle.flow_model.specs.declared.history.FailEffect.TheVariants.{Switched, Kept}
use Rattle.flow_model.specs.declared.history.Outcome.{Outcome}
use Rattle.flow_model.specs.declared.history.Outcome.TheVariants as outcome
use Rattle.flow_model.specs.declared.history.Step.{Step}
use Rattle.flow_model.specs.declared.history.Step.TheVariants.{Rewound}
use Rattle.flow_core.specs.declared.next.Next.{Next}
use Rattle.flow_core.specs.declared.next.Next.TheVariants as next
use Rattle.flow_core.specs.declared.refusal.PostRefusal.{PostRefusal}
use Rattle.flow_core.specs.Run.{Run, schema, with_entry}
use Rattle.flow_core.specs.Next.{IsNext}
use Rattle.flow_core.proofs.SingleLemmas.{other_event, nexts_once, posts_done_once, posts_failed_once, rewinds_once}
use Rattle.flow_crew.specs.declared.moves.Move.{Move}
use Rattle.flow_crew.specs.declared.moves.Move.TheVariants.{Wait}
use Rattle.flow_crew.specs.Moves.{IsNextStep, Advances, move_after, Tells, IsBegun, GoesBack, IsRecorded, IsPosted, IsPostedAndBegun}

-- ---- what `begin` does

step_once : (r : Run) (what : Next) (a b : Step) → IsNextStep r what a → IsNextStep r what b → a ≡ b
step_once r (next.Act leaf) a b (inl h) (inl k) = h.1 ∙ sym k.1
step_once r (next.Act leaf) a b (inl h) (inr k) = absurd (other_event (schema r) leaf k.0 h.0)
step_once r (next.Act leaf) a b (inr h) (inl k) = absurd (other_event (schema r) leaf h.0 k.0)
step_once r (next.Act leaf) a b (inr h) (inr k) = h.1 ∙ sym k.1
step_once r (next.Wait claim) a b h k = absurd h
step_once r next.Finished a b h k = h ∙ sym k
step_once r (next.Stuck leaf) a b (index, free, is) (other, also, same) =
    is ∙ (λ i. Rewound (le_antisymm (also.1 index free.0) (free.1 other also.0) i)) ∙ sym same
step_once r next.Ended a b h k = absurd h

steps_once : (r : Run) (by : ℕ) (a b : Step) (after other : Run) → Advances r by a after → Advances r by b other → a ≡ b
steps_once r by a b after other (what, is_next, steps, is) (also, is_also, stepped, same) =
    step_once r what a b steps (subst (λ n. IsNextStep r n b) (sym (nexts_once r what also is_next is_also)) stepped)

advances_once : (r : Run) (by : ℕ) (a b : Step) (after other : Run) → Advances r by a after → Advances r by b other → after ≡ other
advances_once r by a b after other h k = h.3 ∙ ap (with_entry r by) (steps_once r by a b after other h k) ∙ sym k.3

tells_once : (after : Run) (usual a b : Move) → Tells after usual a → Tells after usual b → a ≡ b
tells_once after usual a b (inl h) (inl k) = h.1 ∙ sym k.1
tells_once after usual a b (inl h) (inr k) = absurd (k.0 h.0.0 h.0.1)
tells_once after usual a b (inr h) (inl k) = absurd (h.0 k.0.0 k.0.1)
tells_once after usual a b (inr h) (inr k) = h.1 ∙ sym k.1

-- where a claim is waited for, the run does not go on
no_advance : (r : Run) (by claim : ℕ) (step : Step) (after : Run) → IsNext r (next.Wait claim) → ¬ (Advances r by step after)
no_advance r by claim step after waits (what, is_next, steps, is) =
    subst (λ n. IsNextStep r n step) (nexts_once r what (next.Wait claim) is_next waits) steps

same_claim : (r : Run) (n m : ℕ) → IsNext r (next.Wait n) → IsNext r (next.Wait m) → n ≡ m
same_claim r n m h k = let e = nexts_once r (next.Wait n) (next.Wait m) h k in cc

pub begins_once : (r : Run) (by : ℕ) (a b : Move) (after other : Run) → IsBegun r by a after → IsBegun r by b other → (a ≡ b) × (after ≡ other)
begins_once r by a b after other (inl h) (inl k) = (h.1 ∙ sym k.1, h.2 ∙ sym k.2)
begins_once r by a b after other (inl h) (inr (inl k)) = absurd (k.1 h.0.0 h.0.1)
begins_once r by a b after other (inl h) (inr (inr k)) = absurd (k.1 h.0.0 h.0.1)
begins_once r by a b after other (inr (inl h)) (inl k) = absurd (h.1 k.0.0 k.0.1)
begins_once r by a b after other (inr (inl h)) (inr (inl k)) = (h.3 ∙ ap Wait (same_claim r h.0 k.0 h.2 k.2) ∙ sym k.3, h.4 ∙ sym k.4)
begins_once r by a b after other (inr (inl h)) (inr (inr k)) = absurd (no_advance r by h.0 k.0 other h.2 k.2)
begins_once r by a b after other (inr (inr h)) (inl k) = absurd (h.1 k.0.0 k.0.1)
begins_once r by a b after other (inr (inr h)) (inr (inl k)) = absurd (no_advance r by k.0 h.0 after k.2 h.2)
begins_once r by a b after other (inr (inr h)) (inr (inr k)) =
    let steps = steps_once r by h.0 k.0 after other h.2 k.2 in
    let afters = advances_once r by h.0 k.0 after other h.2 k.2 in
    (tells_once after (move_after after h.0) a b h.3 (subst (λ (r : Run). Tells r (move_after r h.0) b) (sym afters) (subst (λ (s : Step). Tells other (move_after other s) b) (sym steps) k.3)), afters)

-- ---- what `post` does

back_once : (failed : Run) (by : ℕ) (answer : Result FailEffect PostRefusal) (after other : Run) → GoesBack failed by answer after → GoesBack failed by answer other → after ≡ other
back_once failed by (Ok Kept) after other (a, h) (b, k) = (rewinds_once failed by a b after other h k).1
back_once failed by (Ok Switched) after other h k = h ∙ sym k
back_once failed by (Err refusal) after other h k = h ∙ sym k

recorded_once : (r : Run) (call : Call) (o : Outcome) (by : ℕ) (after other : Run) → IsRecorded r call o by after → IsRecorded r call o by other → after ≡ other
recorded_once r call outcome.Done by after other (a, h) (b, k) = (posts_done_once r call.claim by a b after other h k).1
recorded_once r call outcome.Failed by after other (a, (failed, h, back)) (b, (gone, k, also)) =
    let same = posts_failed_once r call.claim by a b failed gone h k in
    back_once failed by a after other back
    (subst (λ (f : Run). GoesBack f by a other) (sym same.1) (subst (λ (answer : Result FailEffect PostRefusal). GoesBack gone by answer other) (sym same.0) also))

pub posteds_once : (r : Run) (call : Call) (o : Outcome) (by : ℕ) (after other : Run) → IsPosted r call o by after → IsPosted r call o by other → after ≡ other
posteds_once r call o by after other (inl h) (inl k) = h.1 ∙ sym k.1
posteds_once r call o by after other (inl h) (inr (inl k)) = h.1 ∙ sym k.2
posteds_once r call o by after other (inl h) (inr (inr k)) = absurd (k.0 h.0.0 h.0.1)
posteds_once r call o by after other (inr (inl h)) (inl k) = h.2 ∙ sym k.1
posteds_once r call o by after other (inr (inl h)) (inr (inl k)) = h.2 ∙ sym k.2
posteds_once r call o by after other (inr (inl h)) (inr (inr k)) = absurd (h.1 k.1)
posteds_once r call o by after other (inr (inr h)) (inl k) = absurd (h.0 k.0.0 k.0.1)
posteds_once r call o by after other (inr (inr h)) (inr (inl k)) = absurd (k.1 h.1)
posteds_once r call o by after other (inr (inr h)) (inr (inr k)) = recorded_once r call o by after other h.2 k.2

-- ---- what the two do in one turn

pub both_once : (r : Run) (call : Call) (o : Outcome) (by : ℕ) (a b : Move) (after other : Run) → IsPostedAndBegun r call o by a after → IsPostedAndBegun r call o by b other →
    (a ≡ b) × (after ≡ other)
both_once r call o by a b after other (told, posted, begun) (also, same, too) =
    begins_once told by a b after other begun (subst (λ (run : Run). IsBegun run by b other) (posteds_once r call o by also told same posted) too)
