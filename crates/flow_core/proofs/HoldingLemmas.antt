-- Who has an event.
use Rattle.std.proofs.Common.{◌≡◌, ◌+◌, ℕ, suc, ◌==◌, nat_eq, ◌⊎◌, inl, inr, ⊎_elim, IsTrue, List, [], ◌∷◌, map, length, drop, Some, None, slice_get, refl, sym, ap, ◌∙◌, subst, arith}
use Rattle.std.specs.List.{find}
use Rattle.std.proofs.lemmas.Bool.{eq-eqb, ne_eqb}
use Rattle.flow_model.specs.Lists.{◌∈◌, numbers_from}
use Rattle.flow_model.specs.Facts.{event_at}
use Rattle.flow_model.specs.Schema.{Schema}
use Rattle.flow_model.specs.Run.{Claim, RunState, state_of, claim_at, is_current}
use Rattle.flow_model.specs.Takers.{Taking, Takings, takings_of, IsOut, IsTakenBy}
use Rattle.flow_model.specs.Decided.{cons_same}
use Rattle.flow_model.proofs.MadeLists.{mem-map, of_find, some_same, numbers_from_least}
use Rattle.flow_laws.proofs.ClaimLemmas.{number_of, claim_in}
use Rattle.flow_duty_laws.specs.TakerLaws.{last_on}
use Rattle.flow_duty_laws.proofs.Claims.{those_at, those_leaves}
use Rattle.flow_duty_laws.proofs.Kept.{taking, those_of}
use Rattle.flow_duty_laws.proofs.Last.{last_has_it, out_is_last, none_on, last_at}
use Rattle.flow_duty_laws.proofs.Each.{done_leaves_have_takers}
use Rattle.flow_workflow.specs.Definition.{schema_of}
use Rattle.flow_residual.specs.declared.given.Given.{Given}
use Rattle.flow_residual.specs.Given.{claim_of, is_out}
use Rattle.flow_residual.specs.Claimed.{IsLastOn}
use Rattle.flow_core.specs.declared.run.Core.TheInside.{Inside}
use Rattle.flow_core.specs.Invariant.{run_by, IsRunning}
use Rattle.flow_core.specs.Claim.{IsGiven}
use Rattle.flow_core.specs.Holding.{NoneHas, IsTheTaker}
use Rattle.flow_core.proofs.Steps.{events_at, sound_now}
use Rattle.flow_core.proofs.GivenClaims.{find_place, given_is}

-- a claim is found by its number
pub found_by_number : (first : ℕ) (claims : List Claim) (x : Claim) → map number_of claims ≡ numbers_from first (length claims) → x ∈ claims →
    find (λ (claim : Claim). nat_eq claim.number x.number) claims ≡ Some x
found_by_number first [] x numbered m = absurd m
found_by_number first (y ∷ ys) x numbered (inl e) = rw (eq-eqb y.number x.number (ap number_of (sym e))) (ap Some (sym e))
found_by_number first (y ∷ ys) x numbered (inr m) =
    let both = cons_same y.number first (map number_of ys) (numbers_from (first + 1) (length ys)) numbered in
    let here : y.number ≡ first = both.0 in
    let later = numbers_from_least (first + 1) (length ys) x.number (subst (λ l. x.number ∈ l) both.1 (mem-map number_of x ys m)) in
    rw (ne_eqb y.number x.number (omega arith)) (found_by_number (first + 1) ys x both.1 m)

module _ (i : Inside) (kept : IsRunning i) where
  abbrev w : Schema
  w = schema_of i.workflow

  abbrev s : RunState
  s = state_of w i.history.items

  abbrev t : Takings
  t = takings_of i.history.items

  -- the events of the claims, as their takings have them
  taken_events : map (λ (g : Taking). event_at w.labels g.leaf) t.given ≡ map Some i.claims.events
  taken_events =
      those_leaves (event_at w.labels) s.claims t.given (those_of w i.history.items) ∙ ap (events_at w.labels) kept.kept.claims.claims_are ∙ kept.kept.claims.events_are

  -- who has a leaf of the event took the last claim on it
  has_last : (event n by : ℕ) → event_at w.labels n ≡ Some event → IsTakenBy s t n by → (claim : ℕ) × (last_on w.labels t.given event ≡ Some (taking claim n by))
  has_last event n by at taken = last_has_it w kept.kept.remains.well_formed kept.kept.consistent i.limit i.history.items kept.kept.legal n by event at taken

  -- without a claim on the event nobody has it
  pub none_given : (event : ℕ) → ¬ (event ∈ i.claims.events) → NoneHas (run_by i) event
  none_given event none n by at taken =
      let (claim, last) = has_last event n by at taken in
      let clash : None ≡ Some (taking claim n by) = sym (none_on w.labels t.given i.claims.events event taken_events none) ∙ last in
      cc

  module _ (event : ℕ) (g : Given) (last : IsLastOn i.claims event g) where
    given : IsGiven (run_by i) last.number g
    given = given_is i kept last.number (Some g) last.is_given

    its_event : event_at w.labels g.leaf ≡ Some event
    its_event = given.event ∙ ap Some last.on_event

    -- it is the last of the takings on the event
    last_is : last_on w.labels t.given event ≡ Some (taking last.number g.leaf g.by)
    last_is =
        let (j, is, there) = find_place 1 s.claims last.number (claim_of last.number g) (sound_now i kept).numbered given.claim in
        let at_j : slice_get t.given j ≡ Some (taking last.number g.leaf g.by) =
        sym (those_at 1 s.claims t.given j last.number (those_of w i.history.items) (sound_now i kept).numbered is) ∙ given.taking in
        last_at w.labels t.given i.claims.events event j (taking last.number g.leaf g.by) taken_events at_j its_event
        (subst (λ n. ¬ (event ∈ drop n i.claims.events)) (let place : last.number ≡ suc j = omega arith in place) last.none_later)

    -- so it is the taking of whoever has the event
    same_taking : (claim n by : ℕ) → last_on w.labels t.given event ≡ Some (taking claim n by) → taking claim n by ≡ taking last.number g.leaf g.by
    same_taking claim n by is = some_same (taking claim n by) (taking last.number g.leaf g.by) (sym is ∙ last_is)

    same_taker : (n other : ℕ) → event_at w.labels n ≡ Some event → IsTakenBy s t n other → other ≡ g.by
    same_taker n other at taken = let (claim, is) = has_last event n other at taken in ap (λ (g : Taking). g.taker) (same_taking claim n other is)

    -- the claim is out
    its_taker_out : IsTrue (is_out s.epoch g) → IsTakenBy s t g.leaf g.by
    its_taker_out is = inl (
      last.number,
      (record {
        claim = claim_of last.number g;
        given = claim_in s.claims last.number (claim_of last.number g) given.claim;
        current = is;
        number_is = refl;
        leaf_is = refl;
      }),
      (of_find (λ (x : Taking). x.claim == last.number) t.given (taking last.number g.leaf g.by) given.taking).0,
    )

    -- or its leaf is done
    its_taker_done : g.leaf ∈ s.journal → IsTakenBy s t g.leaf g.by
    its_taker_done done =
        let (user, taken) = done_leaves_have_takers w kept.kept.remains.well_formed kept.kept.consistent i.limit i.history.items kept.kept.legal g.leaf event its_event done in
        subst (λ u. IsTakenBy s t g.leaf u) (same_taker g.leaf user its_event taken) taken

    pub taker_is : IsTrue (is_out s.epoch g) ⊎ (g.leaf ∈ s.journal) → IsTheTaker (run_by i) event g.by
    taker_is has = ((g.leaf, its_event, ⊎_elim its_taker_out its_taker_done has), same_taker)

    -- a claim that is out on the event is this one
    out_is_it : (claim n : ℕ) → event_at w.labels n ≡ Some event → IsOut s claim n → IsTrue (is_out s.epoch g)
    out_is_it claim n at o =
        let (user, is) = out_is_last w kept.kept.remains.well_formed kept.kept.consistent i.limit i.history.items kept.kept.legal claim n event at o in
        let number : o.claim.number ≡ last.number = o.number_is ∙ ap (λ (g : Taking). g.claim) (same_taking claim n user is) in
        let found : claim_at s last.number ≡ Some o.claim =
        subst (λ k. claim_at s k ≡ Some o.claim) number (found_by_number 1 s.claims o.claim (sound_now i kept).numbered o.given) in
        let same : o.claim ≡ claim_of last.number g = some_same o.claim (claim_of last.number g) (sym found ∙ given.claim) in
        subst (λ (c : Claim). IsTrue (is_current s c)) same o.current

    pub nobody_has : ¬ (IsTrue (is_out s.epoch g) ⊎ (g.leaf ∈ s.journal)) → NoneHas (run_by i) event
    nobody_has neither n by at (inl (claim, o, m)) = neither (inl (out_is_it claim n at o))
    nobody_has neither n by at (inr (j, (claim, e))) =
        let (c, is) = has_last event n by at (inr (j, (claim, e))) in
        neither (inr (subst (λ l. l ∈ s.journal) (ap (λ (g : Taking). g.leaf) (same_taking c n by is)) j))
