-- What a caller does adds entries of its own to a history.
use Rattle.std.proofs.Common.{◌≡◌, ◌≤◌, ◌<◌, ◌+◌, ◌-◌, ℕ, Bool, true, false, true≢false, List, [], ◌∷◌, ◌++◌, length, Result, Ok, Err, refl, sym, ap, ◌∙◌, subst, inl, inr, arith, append-nil, append_assoc, length-append}
use Rattle.flow_model.specs.declared.history.Call.{Call}
use Rattle.flow_model.specs.declared.history.Entry.{Entry}
use Rattle.flow_model.specs.declared.history.FailEffect.TheVariants.{Switched, Kept}
use Rattle.flow_model.specs.declared.history.Outcome.{Outcome}
use Rattle.flow_model.specs.declared.history.Outcome.TheVariants as outcome
use Rattle.flow_model.specs.declared.history.Step.{Step}
use Rattle.flow_model.specs.declared.history.Step.TheVariants.{Took, Done, Failed, Late, Rewound}
use Rattle.flow_model.specs.Verdict.{call_of}
use Rattle.flow_model.proofs.Lists.{each-append}
use Rattle.flow_core.specs.declared.next.Next.TheVariants as next
use Rattle.flow_core.specs.declared.refusal.RewindRefusal.{RewindRefusal}
use Rattle.flow_core.specs.declared.refusal.RewindRefusal.TheVariants as rewind
use Rattle.flow_core.specs.Run.{Run, schema, now, with_entry, HasEntryLeft}
use Rattle.flow_core.specs.Answers.{IsUnanswered, Rewinds}
use Rattle.flow_core.specs.Next.{IsNext}
use Rattle.flow_crew.specs.declared.moves.Move.{Move}
use Rattle.flow_crew.specs.declared.moves.Move.TheVariants.{Wait, Over}
use Rattle.flow_crew.specs.Ends.{HasEnd, HasNoEnd}
use Rattle.flow_crew.specs.Moves.{move_after, IsBegun, IsOut, IsRecorded, IsPosted, IsContinued}
use Rattle.flow_crew.proofs.Acting.{refused_late}
use Rattle.flow_crew.proofs.Endings.{IsWithin, has_room}

-- the run went on by entries of the caller, and not past the limit
pub record Goes (r : Run) (by : ℕ) (after : Run) : Type 0 where
  pub continued : IsContinued r by after
  pub within : IsWithin after

pub stays : (r : Run) (by : ℕ) (after : Run) → after ≡ r → IsWithin r → Goes r by after
stays r by after is within = record {
  continued = ([], is ∙ ap (λ (h : List Entry). record r { history = h }) (sym (append-nil r.history)), tt);
  within = subst IsWithin (sym is) within;
}

pub goes_on_from : (r : Run) (by : ℕ) (mid after : Run) → Goes r by mid → Goes mid by after → Goes r by after
goes_on_from r by mid after a b =
    let (first, is, own) = a.continued in
    let (more, same, also) = b.continued in record {
      continued = (
        first ++ more,
        same ∙ ap (λ (m : Run). record m { history = m.history ++ more }) is ∙ ap (λ (h : List Entry). record r { history = h }) (append_assoc r.history first more),
        each-append (λ (e : Entry). e.by ≡ by) first more own also,
      );
      within = b.within;
    }

pub not_shorter : (r : Run) (by : ℕ) (after : Run) → Goes r by after → (length r.history ≤ length after.history) × (after.limit ≡ r.limit)
not_shorter r by after g =
    let (more, is, own) = g.continued in
    let long : length after.history ≡ length r.history + length more = ap (λ (a : Run). length a.history) is ∙ length-append r.history more in
    (omega arith, ap (λ (a : Run). a.limit) is)

-- with at least one entry
pub record GoesFurther (r : Run) (by : ℕ) (after : Run) : Type 0 where
  pub goes : Goes r by after
  pub longer : length r.history < length after.history

further_one : (r : Run) (by : ℕ) (step : Step) (after : Run) → after ≡ with_entry r by step → HasEntryLeft r → GoesFurther r by after
further_one r by step after is room =
    let entry : Entry = record { by = by; step = step } in
    let more : length (with_entry r by step).history ≡ length r.history + 1 = length-append r.history (entry ∷ []) in
    record {
      goes = record { continued = (entry ∷ [], is, (refl, tt)); within = subst IsWithin (sym is) (omega arith) };
      longer = (let same = ap (λ (a : Run). length a.history) is in omega arith);
    }

pub further_then : (r : Run) (by : ℕ) (mid after : Run) → GoesFurther r by mid → Goes mid by after → GoesFurther r by after
further_then r by mid after a b = record {
  goes = goes_on_from r by mid after a.goes b;
  longer = (let l = a.longer in let m = (not_shorter mid by after b).0 in omega arith);
}

-- fewer entries are left
pub fewer_left : (r : Run) (by : ℕ) (after : Run) → GoesFurther r by after → after.limit - length after.history < r.limit - length r.history
fewer_left r by after g =
    let same : after.limit ≡ r.limit = (not_shorter r by after g.goes).1 in
    let more : length r.history < length after.history = g.longer in
    let within : length after.history ≤ after.limit = g.goes.within in
    omega arith

-- ---- what `begin` does

pub begun : (r : Run) (by : ℕ) (move : Move) (after : Run) → IsWithin r → IsBegun r by move after → Goes r by after
begun r by move after within (inl h) = stays r by after h.2 within
begun r by move after within (inr (inl h)) = stays r by after h.4 within
begun r by move after within (inr (inr h)) = (further_one r by h.0 after h.2.3 (has_room r h.1 within)).goes

-- the caller asks again at once, or performs a task
abbrev pub goes : Move → Bool
goes (Wait claim) = false
goes Over = false
goes other = true

pub begun_further : (r : Run) (by : ℕ) (move : Move) (after : Run) → IsWithin r → IsBegun r by move after → goes move ≡ true → GoesFurther r by after
begun_further r by move after within (inl h) on = absurd (true≢false (sym on ∙ ap goes h.1))
begun_further r by move after within (inr (inl h)) on = absurd (true≢false (sym on ∙ ap goes h.3))
begun_further r by move after within (inr (inr h)) on = further_one r by h.0 after h.2.3 (has_room r h.1 within)

goes_after : (after : Run) (step : Step) → goes (move_after after step) ≡ true
goes_after after (Took c leaf) = refl
goes_after after other = refl

-- a claim is waited for where nothing was done
pub begun_waits : (r : Run) (by claim : ℕ) (after : Run) → IsBegun r by (Wait claim) after → HasNoEnd r × IsNext r (next.Wait claim) × (after ≡ r)
begun_waits r by claim after (inl h) = let e : Wait claim ≡ Over = h.1 in absurd cc
begun_waits r by claim after (inr (inl h)) =
    let e : Wait claim ≡ Wait h.0 = h.3 in
    let same : h.0 ≡ claim = cc in
    (h.1, subst (λ n. IsNext r (next.Wait n)) same h.2, h.4)
begun_waits r by claim after (inr (inr h)) = elim h.3 [
  | inl k ↦ (let e : Wait claim ≡ Over = k.1 in absurd cc)
  | inr k ↦ absurd (true≢false (sym (goes_after after h.0) ∙ ap goes (sym k.1)))
]

-- it is over where a verdict stands
pub begun_over : (r : Run) (by : ℕ) (after : Run) → IsBegun r by Over after → HasEnd after
begun_over r by after (inl h) = subst HasEnd (sym h.2) h.0
begun_over r by after (inr (inl h)) = let e : Over ≡ Wait h.0 = h.3 in absurd cc
begun_over r by after (inr (inr h)) = elim h.3 [
  | inl k ↦ k.0
  | inr k ↦ absurd (true≢false (sym (goes_after after h.0) ∙ ap goes (sym k.1)))
]

-- ---- what `post` does

went_back : (r : Run) (by : ℕ) (answer : Result ℕ RewindRefusal) (after : Run) → IsWithin r → Rewinds r by answer after → Goes r by after
went_back r by (Err rewind.Closed) after within h = stays r by after h.1 within
went_back r by (Err (rewind.Spent limit)) after within h = stays r by after h.2 within
went_back r by (Err rewind.NoChoice) after within h = stays r by after h.3 within
went_back r by (Ok index) after within h = (further_one r by (Rewound index) after h.3 h.1).goes

told : (r : Run) (call : Call) (o : Outcome) (by : ℕ) (after : Run) → HasNoEnd r → HasEntryLeft r → IsOut r call → IsRecorded r call o by after → GoesFurther r by after
told r call outcome.Done by after none room out (Err refusal, h) =
    further_one r by (Late call.claim) after (refused_late r none room call out by refusal after h) room
told r call outcome.Done by after none room out (Ok _, h) = further_one r by (Done call.claim) after h.3 room
told r call outcome.Failed by after none room out (Err refusal, (failed, h, is)) =
    further_one r by (Late call.claim) after (is ∙ refused_late r none room call out by refusal failed h) room
told r call outcome.Failed by after none room out (Ok Switched, (failed, h, is)) = further_one r by (Failed call.claim Switched) after (is ∙ h.4) room
told r call outcome.Failed by after none room out (Ok Kept, (failed, h, (answer, back))) =
    let first : GoesFurther r by failed = further_one r by (Failed call.claim Kept) failed h.4 room in
    further_then r by failed after first (went_back failed by answer after first.goes.within back)

pub posted : (r : Run) (call : Call) (o : Outcome) (by : ℕ) (after : Run) → IsWithin r → IsPosted r call o by after → Goes r by after
posted r call o by after within (inl h) = stays r by after h.1 within
posted r call o by after within (inr (inl h)) = stays r by after h.2 within
posted r call o by after within (inr (inr h)) = (told r call o by after h.0 (has_room r h.0 within) h.1 h.2).goes

pub posted_further : (r : Run) (call : Call) (o : Outcome) (by : ℕ) (after : Run) → IsWithin r → HasNoEnd r → IsOut r call → IsPosted r call o by after → GoesFurther r by after
posted_further r call o by after within none out (inl h) = absurd (none h.0.0 h.0.1)
posted_further r call o by after within none out (inr (inl h)) = absurd (h.1 out)
posted_further r call o by after within none out (inr (inr h)) = told r call o by after none (has_room r none within) out h.2

-- the call of a claim that is not answered is out
pub out_by_claim : (r : Run) (claim : ℕ) (call : Call) → IsUnanswered (now r) claim → call ≡ call_of (schema r) (now r) claim → IsOut r call
out_by_claim r claim call unanswered is =
    let same : claim ≡ call.claim = ap (λ (c : Call). c.claim) (sym is) in
    (subst (IsUnanswered (now r)) same unanswered, is ∙ ap (call_of (schema r) (now r)) same)
