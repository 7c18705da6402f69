-- A legal history that goes on has a claim out, or a next leaf.
use Rattle.std.proofs.Common.{◌≡◌, ℕ, ◌<◌, ◌⊎◌, is_some, List, [], ◌∷◌, ◌++◌, map, length, refl, sym, ap, ◌∙◌, subst, inl, inr, Option, Some, None, append_assoc, append-nil, arith}
use Rattle.flow_model.specs.declared.history.Entry.{Entry}
use Rattle.flow_model.specs.Lists.{◌∈◌, Each, Begins, IsOrderOf, numbers_from}
use Rattle.flow_model.specs.Facts.{event_at}
use Rattle.flow_model.specs.Schema.{Schema, IsEventLeaf, IsGood}
use Rattle.flow_model.specs.Run.{Claim, RunState, first_state, state_of, current_claims, current_leaves, database, IsFree, CanTake, CanDoAside, IsLegal, IsStuck}
use Rattle.flow_laws.specs.WellFormed.{IsWellFormed, IsConsistent}
use Rattle.flow_laws.specs.Histories.{IsSound, NeverWaits}
use Rattle.flow_model.proofs.Lists.{mem_append_right}
use Rattle.flow_model.specs.Decided.{order_of_none}
use Rattle.flow_model.proofs.MadeLists.{order_of_one, numbers_from_below}
use Rattle.flow_laws.proofs.TraceLeaves.{leaf_of_trace}
use Rattle.flow_laws.proofs.SoundStates.{always_holds, free_may_follow, first_is_kept, kept_from}

pub sound_state : (w : Schema) → IsWellFormed w → IsConsistent w → (limit : ℕ) (history : List Entry) → IsLegal w limit history →
    (front : List Entry) → Begins history front → IsSound w (state_of w front)
sound_state w f consistent limit history legal front (later, e) =
    kept_from w f limit first_state 0 (first_is_kept w f consistent) front later (subst (IsLegal w limit) e legal)

-- With no claim out

-- some leaf can be taken or, state aside, done
abbrev pub CanGoOn : Schema → RunState → Type 0
CanGoOn w s = (n : ℕ) × (CanTake w s n ⊎ CanDoAside w s n)

-- the leaf at which a free execution goes on can be taken where it is an event's
pub take_next : (w : Schema) → IsWellFormed w → (s : RunState) (n : ℕ) (t : List ℕ) → IsEventLeaf w n → current_leaves s ≡ [] →
    IsFree w s t → Begins t (s.journal ++ n ∷ []) → CanTake w s n
take_next w f s n t event none free begins =
    let (o, m, follows) = free_may_follow w f s t (n ∷ []) free begins in
    (event, rw none (λ l. l), (o, m, λ order p. follows order (order_of_one order n (subst (λ l. IsOrderOf order (l ++ n ∷ [])) none p))))

-- and else be done
next_leaf : (w : Schema) → IsWellFormed w → (s : RunState) → current_leaves s ≡ [] →
    (t : List ℕ) (n : ℕ) (rest : List ℕ) → IsFree w s t → t ≡ s.journal ++ n ∷ rest → CanGoOn w s
next_leaf w f s none t n rest free e = step (event_at w.labels n) refl
  where
    begins : Begins t (s.journal ++ n ∷ [])
    begins = (rest, e ∙ sym (append_assoc s.journal (n ∷ []) rest))

    within : n < length w.labels
    within =
        let in_trace : n ∈ t = subst (λ w. n ∈ w) (sym e) (mem_append_right n s.journal (n ∷ rest) (inl refl)) in
        let in_goal : n ∈ numbers_from 0 (length w.labels) = subst (λ w. n ∈ w) f.numbered (leaf_of_trace w.goal t free.0.0 n in_trace) in
        omega (arith, numbers_from_below 0 (length w.labels) n in_goal)

    step : (event : Option ℕ) → event_at w.labels n ≡ event → CanGoOn w s
    step (Some x) i = (n, inl (take_next w f s n t (ap is_some i) none free begins))
    step None i =
        let (o, m, follows) = free_may_follow w f s t (n ∷ []) free begins in
        let first = λ (order : List ℕ) (p : IsOrderOf order (current_leaves s)).
        follows (n ∷ order) (ap (λ w. n ∷ w) (order_of_none order (subst (IsOrderOf order) none p))) in
        (n, inr ((within, i), (o, m, first)))

pub goes_on : (w : Schema) → IsWellFormed w → (s : RunState) → IsSound w s → ¬ (IsGood w s.journal) → current_claims s ≡ [] → CanGoOn w s
goes_on w f s h unfinished none =
    let no_leaf : current_leaves s ≡ [] = ap (map (λ (claim : Claim). claim.leaf)) none in
    let (t, trace, free, (rest, e)) = h.extends.2 [] (subst (IsOrderOf []) (sym no_leaf) refl) in
    step no_leaf t free rest (e ∙ ap (λ w. w ++ rest) (append-nil s.journal))
  where
    step : current_leaves s ≡ [] → (t : List ℕ) → IsFree w s t → (rest : List ℕ) → t ≡ s.journal ++ rest → CanGoOn w s
    step no_leaf t free [] e = absurd (unfinished (subst (IsGood w) (e ∙ append-nil s.journal) free.0))
    step no_leaf t free (n ∷ rest) e = next_leaf w f s no_leaf t n rest free e

pub not_at_a_loss : (w : Schema) → IsWellFormed w → (s : RunState) → IsSound w s → ¬ (IsGood w s.journal) →
    ((claim : Claim) × (claim ∈ current_claims s)) ⊎ CanGoOn w s
not_at_a_loss w f s h unfinished = step (current_claims s) refl
  where
    step : (claims : List Claim) → current_claims s ≡ claims → ((claim : Claim) × (claim ∈ current_claims s)) ⊎ CanGoOn w s
    step [] e = inr (goes_on w f s h unfinished e)
    step (claim ∷ claims) e = inl (claim, rw e (inl refl))

-- where no label ever waits, nothing is stuck
pub never_stuck : (w : Schema) → IsWellFormed w → Each NeverWaits w.labels → (s : RunState) → IsSound w s → ¬ (IsStuck w s)
never_stuck w f never s h stuck =
    let (n, can) = goes_on w f s h stuck.unfinished stuck.no_claim in
    (stuck.only_waiting n can).1 (always_holds w.labels never (database w s) n)
