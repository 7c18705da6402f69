-- The taker of a claim that is out: its taking is the last on its event, and stands among those of
-- the history.
use Rattle.std.proofs.Common.{◌≡◌, ℕ, ◌+◌, Bool, IsTrue, IsSome, List, [], ◌∷◌, ◌++◌, length, map, Option, Some, None, option_map, filter, refl, sym, ap, ◌∙◌, subst, append-nil, true≢false, inl, inr, ⊎_elim, arith}
use Rattle.std.proofs.lemmas.Bool.{cases_Bool, eq-eqb, ne_eqb}
use Rattle.flow_model.specs.declared.history.Entry.{Entry}
use Rattle.flow_model.specs.declared.labels.Label.{Label}
use Rattle.flow_model.specs.Lists.{◌∈◌, AreDistinct, Begins}
use Rattle.flow_model.specs.Facts.{event_at, is_event}
use Rattle.flow_model.specs.Schema.{Schema}
use Rattle.flow_model.specs.Run.{Claim, RunState, is_current, first_state, next_state, IsLegal, IsLegalFrom, state_of}
use Rattle.flow_model.specs.Takers.{Taking, taking_of, takings_of, taker_of, IsOut, IsTakenBy}
use Rattle.flow_model.proofs.Lists.{each_member}
use Rattle.flow_model.proofs.MadeLists.{mem-map, some_same, distinct-numbers_from}
use Rattle.flow_laws.specs.Histories.{IsSound}
use Rattle.flow_laws.specs.WellFormed.{IsWellFormed, IsConsistent}
use Rattle.flow_laws.proofs.ClaimLemmas.{number_of}
use Rattle.flow_laws.proofs.NeverAtALoss.{sound_state}
use Rattle.flow_duty_laws.specs.TakerLaws.{last_on}
use Rattle.flow_duty_laws.proofs.Claims.{AreThose}
use Rattle.flow_duty_laws.proofs.Kept.{taking, those_of, duties_are_kept}
use Rattle.flow_duty_laws.proofs.Last.{last_has_it, out_is_last}
use Rattle.flow_duty_laws.proofs.Each.{done_leaves_have_takers}
use Rattle.flow_run_laws.specs.ClaimTakers.{IsTakenByOnly, IsDoneOrOut, ClaimsOutHaveTakers, LeavesHaveOneTaker, TakersHaveRoles}

-- a front of a legal history is one
pub legal_front : (w : Schema) (limit : ℕ) (s : RunState) (made : ℕ) (front later : List Entry) → IsLegalFrom w limit s made (front ++ later) → IsLegalFrom w limit s made front
legal_front w limit s made [] later legal = tt
legal_front w limit s made (entry ∷ front) later (going, room, allowed, rest) =
    (going, room, allowed, legal_front w limit (next_state w s entry.step) (made + 1) front later rest)

pub front_is_legal : (w : Schema) (limit : ℕ) (history front : List Entry) → IsLegal w limit history → Begins history front → IsLegal w limit front
front_is_legal w limit history front legal (later, e) = legal_front w limit first_state 0 front later (subst (IsLegal w limit) e legal)

-- the last taking on an event is one of them
last_is_given : (labels : List Label) (ts : List Taking) (event : ℕ) (t : Taking) → last_on labels ts event ≡ Some t → t ∈ ts
last_is_given labels [] event t e = cc
last_is_given labels (u ∷ ts) event t e = grind (arith, e, cases_Bool (is_event event (event_at labels u.leaf)), last_is_given labels ts event t)

-- takings that go in step with claims have their numbers
numbers_those : (cs : List Claim) (ts : List Taking) → AreThose cs ts → map number_of cs ≡ map (λ (t : Taking). t.claim) ts
numbers_those [] [] h = refl
numbers_those [] (t ∷ ts) h = absurd h
numbers_those (c ∷ cs) [] h = absurd h
numbers_those (c ∷ cs) (t ∷ ts) h = λ i. h.0 i ∷ numbers_those cs ts h.2 i

-- of different numbers, each is found by its own
found_by_number : (ts : List Taking) → AreDistinct (map (λ (t : Taking). t.claim) ts) → (t : Taking) → t ∈ ts → taking_of ts t.claim ≡ Some t
found_by_number [] d t m = absurd m
found_by_number (u ∷ ts) d t (inl e) = rw (← e, eq-eqb t.claim t.claim refl) refl
found_by_number (u ∷ ts) (new, d) t (inr m) =
    rw (ne_eqb u.claim t.claim (λ e. new (subst (λ n. n ∈ map (λ (t : Taking). t.claim) ts) (sym e) (mem-map (λ (t : Taking). t.claim) t ts m))))
    (found_by_number ts d t m)

-- a claim of the list that passes the test and is on a leaf of those
abbrev HasPassing : (Claim → Bool) → List Claim → ℕ → Type 0
HasPassing p claims n = (c : Claim) × (c ∈ claims) × IsTrue (p c) × (c.leaf ≡ n)

passing_on : (p : Claim → Bool) (claims : List Claim) (n : ℕ) → n ∈ map (λ (c : Claim). c.leaf) (filter p claims) → HasPassing p claims n
passing_on p [] n m = absurd m
passing_on p (c ∷ claims) n m = elim (cases_Bool (p c)) [
  | inl is ↦ ⊎_elim (λ e. (c, inl refl, is, sym e)) (λ k. let (d, i, passes, l) = passing_on p claims n k in (d, inr i, passes, l)) (rw is at m)
  | inr other ↦ (let (d, i, passes, l) = passing_on p claims n (rw other at m) in (d, inr i, passes, l))
]

-- a legal history
module _ (w : Schema) (f : IsWellFormed w) (consistent : IsConsistent w) (limit : ℕ) (history : List Entry) (legal : IsLegal w limit history) where
  sound : IsSound w (state_of w history)
  sound = sound_state w f consistent limit history legal history ([], sym (append-nil history))

  -- its takings are found by their numbers
  found : (t : Taking) → t ∈ (takings_of history).given → taking_of (takings_of history).given t.claim ≡ Some t
  found = found_by_number (takings_of history).given
      (subst AreDistinct (sym sound.numbered ∙ numbers_those (state_of w history).claims (takings_of history).given (those_of w history))
      (distinct-numbers_from 1 (length (state_of w history).claims)))

  -- who has a leaf of an event has it alone
  alone : (n event user : ℕ) → event_at w.labels n ≡ Some event → IsTakenBy (state_of w history) (takings_of history) n user →
      IsTakenByOnly (state_of w history) (takings_of history) n user
  alone n event user ne taken = (
    taken,
    λ other also.
        let (c, e) = last_has_it w f consistent limit history legal n user event ne taken in
        let (d, k) = last_has_it w f consistent limit history legal n other event ne also in
        ap (λ (t : Taking). t.taker) (some_same (taking d n other) (taking c n user) (sym k ∙ e)),
  )

  pub claim_has_taker : (claim n event : ℕ) → event_at w.labels n ≡ Some event → IsOut (state_of w history) claim n →
      (user : ℕ) × (taker_of history claim ≡ Some user) × IsTakenByOnly (state_of w history) (takings_of history) n user
  claim_has_taker claim n event ne out =
      let (user, e) = out_is_last w f consistent limit history legal claim n event ne out in
      let given = last_is_given w.labels (takings_of history).given event (taking claim n user) e in
      (user, ap (option_map (λ (t : Taking). t.taker)) (found (taking claim n user) given), alone n event user ne (inl (claim, out, given)))

  -- the event at the leaf of a claim
  pub event_of_out : (claim n : ℕ) → IsOut (state_of w history) claim n → (event : ℕ) × (event_at w.labels n ≡ Some event)
  event_of_out claim n out = of_some (event_at w.labels n) refl (subst (λ l. IsSome (event_at w.labels l)) out.leaf_is
      (each_member (λ (c : Claim). IsSome (event_at w.labels c.leaf)) (state_of w history).claims sound.on_events out.claim out.given))
    where
      of_some : (o : Option ℕ) → event_at w.labels n ≡ o → IsSome (event_at w.labels n) → (event : ℕ) × (event_at w.labels n ≡ Some event)
      of_some (Some event) e some = (event, e)
      of_some None e some = absurd (true≢false (sym (subst (λ o. IsSome o) e some)))

  pub leaf_has_taker : (n event : ℕ) → event_at w.labels n ≡ Some event → IsDoneOrOut (state_of w history) n →
      (user : ℕ) × IsTakenByOnly (state_of w history) (takings_of history) n user
  leaf_has_taker n event ne (inl done) =
      let (user, taken) = done_leaves_have_takers w f consistent limit history legal n event ne done in (user, alone n event user ne taken)
  leaf_has_taker n event ne (inr there) =
      let (c, given, current, on) = passing_on (is_current (state_of w history)) (state_of w history).claims n there in
      let (user, is, only) = claim_has_taker c.number n event ne (record { claim = c; given = given; current = current; number_is = refl; leaf_is = on }) in
      (user, only)

pub claims_out_have_takers : ClaimsOutHaveTakers
claims_out_have_takers w f consistent limit history legal front begins claim n out =
    let here = front_is_legal w limit history front legal begins in
    let (event, ne) = event_of_out w f consistent limit front here claim n out in
    claim_has_taker w f consistent limit front here claim n event ne out

pub leaves_have_one_taker : LeavesHaveOneTaker
leaves_have_one_taker w f consistent limit history legal front begins n event ne there =
    leaf_has_taker w f consistent limit front (front_is_legal w limit history front legal begins) n event ne there

pub takers_have_roles : TakersHaveRoles
takers_have_roles w f consistent d limit history legal dutiful front begins n event ne there =
    let (user, only) = leaves_have_one_taker w f consistent limit history legal front begins n event ne there in
    (user, only, (duties_are_kept w f consistent d limit history legal dutiful front begins).allowed n user event ne only.0)
