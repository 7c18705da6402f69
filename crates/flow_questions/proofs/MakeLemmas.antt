-- The entries of a leaf can be made in a run, and what the run is after them.
use Rattle.std.proofs.Common.{◌≡◌, ◌≤◌, ◌<◌, ◌+◌, ◌*◌, ℕ, IsTrue, Bool, List, [], ◌∷◌, ◌++◌, length, Some, None, ◌↔◌, sym, ap, subst, ◌∙◌, append-nil, arith, length-append}
use Rattle.flow_model.specs.declared.history.Entry.{Entry}
use Rattle.flow_model.specs.declared.history.Step.{Step}
use Rattle.flow_model.specs.declared.history.Step.TheVariants.{Took, Done, Did}
use Rattle.flow_model.specs.Duties.{IsLeft}
use Rattle.flow_model.specs.Facts.{event_at}
use Rattle.flow_model.specs.Run.{RunState, first_state, next_state, IsAllowed, IsLegal}
use Rattle.flow_model.specs.Schema.{Schema}
use Rattle.flow_model.specs.Takers.{Takings, no_takings, next_takings, takings_of}
use Rattle.flow_laws.specs.Histories.{IsSound}
use Rattle.flow_laws.specs.WellFormed.{IsWellFormed}
use Rattle.flow_laws.proofs.NeverAtALoss.{sound_state}
use Rattle.flow_duty_laws.proofs.Claims.{AreThose}
use Rattle.flow_duty_laws.proofs.Kept.{takings_after-append, those_of}
use Rattle.flow_core.specs.Run.{schema, now}
use Rattle.flow_core.proofs.Steps.{state_after-append}
use Rattle.flow_roles.specs.Ask.{with_entries}
use Rattle.flow_case.specs.Ask.{CanMakeRuled}
use Rattle.flow_case.specs.Ruled.{Ruled}
use Rattle.flow_questions.specs.Made.{AreDone, AreDoneIn, IsNext}
use Rattle.flow_questions.proofs.TraceLemmas.{trace_within}
use Rattle.flow_questions.proofs.DoneLemmas.{is_left, took_allowed, done_allowed, event_done, did_allowed, other_done}

-- the run with one entry more
abbrev pub more : Ruled → Entry → Ruled
more c entry = record c { desk = with_entries c.desk (entry ∷ []) }

abbrev pub took_by : ℕ → ℕ → ℕ → Entry
took_by by claim leaf = record { by = by; step = Took claim leaf }

abbrev pub done_by : ℕ → ℕ → Entry
done_by by claim = record { by = by; step = Done claim }

abbrev pub did_by : ℕ → ℕ → Entry
did_by by leaf = record { by = by; step = Did leaf }

-- the state and the takings after one entry more
state_more : (c : Ruled) (e : Entry) → now (more c e).desk.run ≡ next_state (schema c.desk.run) (now c.desk.run) e.step
state_more c e = state_after-append (schema c.desk.run) first_state c.desk.run.history e

takings_more : (history : List Entry) (e : Entry) → takings_of (history ++ e ∷ []) ≡ next_takings (takings_of history) e.by e.step
takings_more history e = takings_after-append no_takings history (e ∷ [])

done_as : (w : Schema) (s s' : RunState) (t t' : Takings) (leaves : List ℕ) (to : ℕ → ℕ) → s' ≡ s → t' ≡ t → AreDoneIn w s t leaves to → AreDoneIn w s' t' leaves to
done_as w s s' t t' leaves to es et done = subst (λ x. AreDoneIn w x t' leaves to) (sym es) (subst (λ y. AreDoneIn w s y leaves to) (sym et) done)

module _ (c : Ruled) (f : IsWellFormed (schema c.desk.run)) (legal : IsLegal (schema c.desk.run) c.desk.run.limit c.desk.run.history) (leaves : List ℕ) (to : ℕ → ℕ) (leaf claim : ℕ)
    (next : IsNext c leaves to leaf claim) where
  abbrev w : Schema
  w = schema c.desk.run

  abbrev s : RunState
  s = now c.desk.run

  abbrev t : Takings
  t = takings_of c.desk.run.history

  sound : IsSound w s
  sound = let (trace, good, begins) = next.next.goes_on in
      sound_state w f (trace, good) c.desk.run.limit c.desk.run.history legal c.desk.run.history ([], sym (append-nil c.desk.run.history))

  those : AreThose s.claims t.given
  those = those_of w c.desk.run.history

  within : length leaves + 1 ≤ length w.labels
  within = omega (arith, trace_within w f (leaves ++ leaf ∷ []) next.next.goes_on, length-append leaves (leaf ∷ []))

  module _ (event : ℕ) (is : event_at w.labels leaf ≡ Some event) (by : ℕ) (so : by ≡ to event) where
    abbrev first : Entry
    first = took_by by claim leaf

    abbrev second : Entry
    second = done_by by claim

    left : IsLeft w c.desk.assigned.duties s t by event
    left = subst (λ u. IsLeft w c.desk.assigned.duties s t u event) (sym so)
        (is_left w f s t sound those leaves to next.so_far.done c.desk.assigned.duties leaf next.next event is)

    pub can_take_it : CanMakeRuled c first
    can_take_it = (
      tt,
      (
        (event, is, left),
        record {
          going = next.so_far.done.going;
          room = omega (arith, within, next.so_far.room, next.so_far.entries);
          allowed = took_allowed w f s t sound those leaves to next.so_far.done c.desk.assigned.duties leaf next.next event is claim next.number by so;
        },
      ),
    )

    abbrev mid : Ruled
    mid = more c first

    pub can_finish_it : CanMakeRuled mid second
    can_finish_it = (
      tt,
      (
        tt,
        record {
          going = ap (λ (x : RunState). x.committed) (state_more c first) ∙ next.so_far.done.going;
          room = omega (arith, within, next.so_far.room, next.so_far.entries, length-append c.desk.run.history (first ∷ []));
          allowed = subst (λ x. IsAllowed w x (Done claim)) (sym (state_more c first))
              (done_allowed w f s t sound those leaves to next.so_far.done c.desk.assigned.duties leaf next.next event is claim next.number by so);
        },
      ),
    )

    pub finished : AreDone (more mid second) (leaves ++ leaf ∷ []) to
    finished = record {
      done = done_as w (next_state w (next_state w s (Took claim leaf)) (Done claim)) (now (more mid second).desk.run)
          (next_takings (next_takings t by (Took claim leaf)) by (Done claim)) (takings_of (more mid second).desk.run.history) (leaves ++ leaf ∷ []) to
          (state_more mid second ∙ ap (λ x. next_state w x (Done claim)) (state_more c first))
          (takings_more mid.desk.run.history second ∙ ap (λ x. next_takings x by (Done claim)) (takings_more c.desk.run.history first))
          (event_done w f s t sound those leaves to next.so_far.done c.desk.assigned.duties leaf next.next event is claim next.number by so);
      entries = omega (arith, next.so_far.entries, length-append c.desk.run.history (first ∷ []), length-append mid.desk.run.history (second ∷ []), length-append leaves (leaf ∷ []));
      room = next.so_far.room;
    }

    -- so both entries are made
    pub event_made : (after new : Ruled) (made : Bool) → after ≡ mid → (IsTrue made ↔ CanMakeRuled after second) → (IsTrue made → new ≡ more after second) →
        IsTrue made × AreDone new (leaves ++ leaf ∷ []) to
    event_made after new made same allowed is_new =
        let yes : IsTrue made = allowed.1 (subst (λ (x : Ruled). CanMakeRuled x second) (sym same) can_finish_it) in
        (yes, subst (λ (x : Ruled). AreDone x (leaves ++ leaf ∷ []) to) (sym (is_new yes ∙ ap (λ (x : Ruled). more x second) same)) finished)

  module _ (is : event_at w.labels leaf ≡ None) (by : ℕ) where
    abbrev only : Entry
    only = did_by by leaf

    pub can_do_it : CanMakeRuled c only
    can_do_it = (
      tt,
      (
        tt,
        record {
          going = next.so_far.done.going;
          room = omega (arith, within, next.so_far.room, next.so_far.entries);
          allowed = did_allowed w f s t sound those leaves to next.so_far.done c.desk.assigned.duties leaf next.next is by;
        },
      ),
    )

    pub did_it : AreDone (more c only) (leaves ++ leaf ∷ []) to
    did_it = record {
      done = done_as w (next_state w s (Did leaf)) (now (more c only).desk.run) (next_takings t by (Did leaf)) (takings_of (more c only).desk.run.history) (leaves ++ leaf ∷ []) to
          (state_more c only) (takings_more c.desk.run.history only)
          (other_done w f s t sound those leaves to next.so_far.done c.desk.assigned.duties leaf next.next is by);
      entries = omega (arith, next.so_far.entries, length-append c.desk.run.history (only ∷ []), length-append leaves (leaf ∷ []));
      room = next.so_far.room;
    }

    pub other_made : (new : Ruled) (made : Bool) → (IsTrue made ↔ CanMakeRuled c only) → (IsTrue made → new ≡ more c only) → IsTrue made × AreDone new (leaves ++ leaf ∷ []) to
    other_made new made allowed is_new =
        let yes : IsTrue made = allowed.1 can_do_it in
        (yes, subst (λ (x : Ruled). AreDone x (leaves ++ leaf ∷ []) to) (sym (is_new yes)) did_it)
