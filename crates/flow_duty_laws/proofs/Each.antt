-- Each event leaf that is done has a taker.
use Rattle.std.proofs.Common.{◌≡◌, ℕ, ◌+◌, true, false, ◌==◌, IsTrue, List, [], ◌∷◌, Some, take, drop, sym, ap, ◌∙◌, subst, inl, inr, ⊎_elim, ◌⊎◌, true≢false, take-append-drop}
use Rattle.std.proofs.lemmas.Bool.{cases_Bool, eqb-true, eq-eqb}
use Rattle.flow_model.specs.declared.history.Entry.{Entry}
use Rattle.flow_model.specs.declared.history.Step.{Step}
use Rattle.flow_model.specs.declared.history.Step.TheVariants.{Took, Done, Failed, Late, Did, Rewound, Committed}
use Rattle.flow_model.specs.declared.history.FailEffect.TheVariants.{Switched, Kept}
use Rattle.flow_model.specs.Lists.{◌∈◌}
use Rattle.flow_model.specs.Facts.{event_at}
use Rattle.flow_model.specs.Schema.{Schema}
use Rattle.flow_model.specs.Run.{RunState, first_state, is_current, claim_at, leaf_of_claim, IsAllowed, IsLegalFrom, next_state, state_after}
use Rattle.flow_laws.specs.Histories.{IsSound}
use Rattle.flow_laws.specs.WellFormed.{IsWellFormed}
use Rattle.flow_model.proofs.Lists.{mem-append, mem_append_left}
use Rattle.flow_laws.proofs.ClaimLemmas.{some_claim}
use Rattle.flow_laws.proofs.SoundStates.{kept_next, first_is_kept}
use Rattle.flow_model.specs.Takers.{Taking, Takings, no_takings, taking_on, next_takings, takings_after}
use Rattle.flow_duty_laws.specs.TakerLaws.{DoneLeavesHaveTakers}
use Rattle.flow_duty_laws.proofs.Claims.{AreThose}
use Rattle.flow_duty_laws.proofs.Kept.{taking, done_of, those_next, did_before}

-- the last claim on it that was done is known
abbrev HasDone : List Taking → ℕ → Type 0
HasDone done n = (claim user : ℕ) × (taking_on done n ≡ Some (taking claim n user))

abbrev AllHave : Schema → List ℕ → List Taking → Type 0
AllHave w journal done = (n event : ℕ) → event_at w.labels n ≡ Some event → n ∈ journal → HasDone done n

with_done : (given : Taking) (done : List Taking) (n : ℕ) → HasDone done n ⊎ (given.leaf ≡ n) → HasDone (given ∷ done) n
with_done given done n h = by_leaf (cases_Bool (given.leaf == n))
  where
    by_leaf : ((given.leaf == n) ≡ true) ⊎ ((given.leaf == n) ≡ false) → HasDone (given ∷ done) n
    by_leaf (inl here) = (given.claim, given.taker, rw here (ap (λ l. Some (taking given.claim l given.taker)) (eqb-true given.leaf n here)))
    by_leaf (inr other) = ⊎_elim (λ (c, u, e). (c, u, rw other e)) (λ e. absurd (true≢false (sym (eq-eqb given.leaf n e) ∙ other))) h

next_have : (w : Schema) (s : RunState) (t : Takings) → AreThose s.claims t.given → AllHave w s.journal t.done → (by : ℕ) (step : Step) → IsAllowed w s step →
    AllHave w (next_state w s step).journal (next_takings t by step).done
next_have w s t those have by (Took claim leaf) a n event ne m = have n event ne m
next_have w s t those have by (Done claim) a n event ne m =
    let (c, found, current) = some_claim (λ c. IsTrue (is_current s c)) (claim_at s claim) a in
    let d = done_of s t those claim c found current in
    rw d.found (with_done d.given t.done n (⊎_elim (λ k. inl (have n event ne k)) (λ k. inr (d.on_leaf ∙ only k)) (mem-append n s.journal (leaf_of_claim s claim ∷ []) m)))
  where
    only : n ∈ (leaf_of_claim s claim ∷ []) → leaf_of_claim s claim ≡ n
    only (inl e) = sym e
    only (inr e) = absurd e
next_have w s t those have by (Failed claim Switched) a n event ne m = have n event ne m
next_have w s t those have by (Failed claim Kept) a n event ne m = have n event ne m
next_have w s t those have by (Late claim) a n event ne m = have n event ne m
next_have w s t those have by (Did leaf) a n event ne m = have n event ne (did_before w s.journal leaf n event a.0.0.1 ne m)
next_have w s t those have by (Rewound i) a n event ne m =
    have n event ne (subst (λ list. n ∈ list) (take-append-drop i s.journal) (mem_append_left n (take i s.journal) (drop i s.journal) m))
next_have w s t those have by Committed a n event ne m = have n event ne m

have_from : (w : Schema) → IsWellFormed w → (limit : ℕ) (s : RunState) (t : Takings) (made : ℕ) → IsSound w s → AreThose s.claims t.given → AllHave w s.journal t.done → (entries : List Entry) →
    IsLegalFrom w limit s made entries → AllHave w (state_after w s entries).journal (takings_after t entries).done
have_from w f limit s t made h those have [] legal = have
have_from w f limit s t made h those have (entry ∷ entries) legal =
    have_from w f limit (next_state w s entry.step) (next_takings t entry.by entry.step) (made + 1) (kept_next w f s h entry.step legal.2)
    (those_next w s t those entry.by entry.step) (next_have w s t those have entry.by entry.step legal.2) entries legal.3

pub done_leaves_have_takers : DoneLeavesHaveTakers
done_leaves_have_takers w f consistent limit history legal n event ne m =
    let (claim, user, e) = have_from w f limit first_state no_takings 0 (first_is_kept w f consistent) tt (λ n event ne m. absurd m) history legal n event ne m in
    (user, inr (m, (claim, e)))
