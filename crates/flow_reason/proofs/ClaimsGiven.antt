-- Each claim of a run was given by an entry.
use Rattle.std.proofs.Common.{◌≡◌, ◌<◌, ◌+◌, ℕ, suc, true, false, cond, ◌==◌, List, [], ◌∷◌, ◌++◌, ◌⊎◌, inl, inr, ⊎_elim, IsTrue, IsSomeAnd, filter, nat_le, length, take, get_or, slice_get, slice_index, Some, refl, sym, ap, subst, ◌∙◌, arith, append-nil}
use Rattle.std.proofs.lemmas.Bool.{cases_Bool}
use Rattle.std.proofs.lemmas.Option.{slice_get-get_or}
use Rattle.flow_model.specs.declared.history.Entry.{Entry}
use Rattle.flow_model.specs.declared.history.Step.{Step}
use Rattle.flow_model.specs.declared.history.Step.TheVariants.{Took, Done, Failed, Late, Did, Rewound, Committed}
use Rattle.flow_model.specs.declared.history.FailEffect.TheVariants.{Switched, Kept}
use Rattle.flow_model.specs.Lists.{◌∈◌}
use Rattle.flow_model.specs.Schema.{Schema}
use Rattle.flow_model.specs.Run.{Claim, RunState, first_state, claim_at, current_claims, current_leaves, leaf_of_claim, is_current, IsCurrent, answer, spare, next_state, state_after}
use Rattle.flow_model.proofs.Lists.{mem-append, only_one}
use Rattle.flow_model.proofs.MadeLists.{of_map}
use Rattle.flow_laws.specs.Histories.{IsSound}
use Rattle.flow_laws.proofs.ClaimLemmas.{number_of, leaf_of, is_spared, leaf_of_claim_is}
use Rattle.flow_residual.proofs.SetLemmas.{of_filter}
use Rattle.flow_core.specs.Run.{Run, schema, now}
use Rattle.flow_core.specs.Lawful.{IsLawful}
use Rattle.flow_core.proofs.HoldingLemmas.{found_by_number}
use Rattle.flow_reason.specs.Claimed.{IsOutOn, IsOutBy}
use Rattle.flow_reason.proofs.JournalLengths.{none}

-- one of the claims has this one's number and leaf
abbrev IsLike : List Claim → Claim → Type 0
IsLike claims one = (old : Claim) × (old ∈ claims) × (old.number ≡ one.number) × (old.leaf ≡ one.leaf)

like_answered : (number : ℕ) (claims : List Claim) (one : Claim) → one ∈ answer number claims → IsLike claims one
like_answered number claims one member =
    let (old, there, is) = of_map (λ (claim : Claim). cond (claim.number == number) (record claim { answered = true }) claim) one claims member in (
      old,
      there,
      elim (cases_Bool (old.number == number)) [
        | inl e ↦ sym (ap number_of is ∙ (rw e refl))
        | inr e ↦ sym (ap number_of is ∙ (rw e refl))
      ],
      elim (cases_Bool (old.number == number)) [
        | inl e ↦ sym (ap leaf_of is ∙ (rw e refl))
        | inr e ↦ sym (ap leaf_of is ∙ (rw e refl))
      ],
    )

like_later : (x : Claim) (xs : List Claim) (one : Claim) → IsLike xs one → IsLike (x ∷ xs) one
like_later x xs one (old, there, number, leaf) = (old, inr there, number, leaf)

like_spared : (w : Schema) (s : RunState) (before : List ℕ) (claims : List Claim) (one : Claim) → one ∈ spare w s before claims → IsLike claims one
like_spared w s before [] one member = absurd member
like_spared w s before (x ∷ xs) one member = elim (cases_Bool (is_spared w s before x)) [
  | inl e ↦ (let new : Claim = record x { epoch = s.epoch + 1 } in
      let m : one ∈ (new ∷ spare w s (before ++ x.leaf ∷ []) xs) = rw e at member in
      ⊎_elim (λ (is : one ≡ new). (x, inl refl, sym (ap number_of is), sym (ap leaf_of is)))
      (λ (later : one ∈ spare w s (before ++ x.leaf ∷ []) xs). like_later x xs one (like_spared w s (before ++ x.leaf ∷ []) xs one later)) m)
  | inr e ↦ (let m : one ∈ (x ∷ spare w s before xs) = rw e at member in
      ⊎_elim (λ (is : one ≡ x). (x, inl refl, sym (ap number_of is), sym (ap leaf_of is)))
      (λ (later : one ∈ spare w s before xs). like_later x xs one (like_spared w s before xs one later)) m)
]

like_trans : (claims more : List Claim) (one : Claim) → ((old : Claim) → old ∈ more → IsLike claims old) → IsLike more one → IsLike claims one
like_trans claims more one each (old, there, number, leaf) =
    let (older, is_there, number', leaf') = each old there in (older, is_there, number' ∙ number, leaf' ∙ leaf)

-- each claim after a step was there before, or was given by it
like_next : (w : Schema) (s : RunState) (step : Step) (one : Claim) → one ∈ (next_state w s step).claims →
    IsLike s.claims one ⊎ (step ≡ Took one.number one.leaf)
like_next w s (Took claim leaf) one member =
    let new : Claim = record { number = claim; leaf = leaf; epoch = s.epoch; answered = false } in
    ⊎_elim (λ (old : one ∈ s.claims). inl (one, old, refl, refl))
    (λ (last : one ∈ (new ∷ [])). let is : one ≡ new = only_one one new last in inr (sym (ap (λ (c : Claim). Took c.number c.leaf) is)))
    (mem-append one s.claims (new ∷ []) member)
like_next w s (Done claim) one member = inl (like_answered claim s.claims one member)
like_next w s (Failed claim Switched) one member =
    let before : RunState = record s { bans = s.bans ++ (length s.journal, leaf_of_claim s claim) ∷ []; claims = answer claim s.claims } in
    inl (like_trans s.claims (answer claim s.claims) one (like_answered claim s.claims) (like_spared w before [] (answer claim s.claims) one member))
like_next w s (Failed claim Kept) one member = inl (like_answered claim s.claims one member)
like_next w s (Late claim) one member = inl (like_answered claim s.claims one member)
like_next w s (Did leaf) one member = inl (one, member, refl, refl)
like_next w s (Rewound index) one member =
    let before : RunState = record s {
      journal = take index s.journal;
      bans = filter (λ ban. nat_le ban.0 index) s.bans ++ (index, slice_index s.journal index) ∷ [];
    } in
    inl (like_spared w before [] s.claims one member)
like_next w s Committed one member = inl (one, member, refl, refl)

-- an entry of the history gave the claim
abbrev IsGivenIn : List Entry → Claim → Type 0
IsGivenIn history one = (k : ℕ) × (k < length history) × ((get_or history k none).step ≡ Took one.number one.leaf)

given_in : (w : Schema) (s : RunState) (history : List Entry) (one : Claim) → one ∈ (state_after w s history).claims →
    IsLike s.claims one ⊎ IsGivenIn history one
given_in w s [] one member = inl (one, member, refl, refl)
given_in w s (entry ∷ entries) one member =
    ⊎_elim
    (λ (like : IsLike (next_state w s entry.step).claims one).
    let (old, there, number, leaf) = like in
    ⊎_elim
    (λ (older : IsLike s.claims old). inl (let (first, is_there, number', leaf') = older in (first, is_there, number' ∙ number, leaf' ∙ leaf)))
    (λ (took : entry.step ≡ Took old.number old.leaf).
    inr (0, omega arith, took ∙ ap (λ n. Took n old.leaf) number ∙ ap (Took one.number) leaf))
    (like_next w s entry.step old there))
    (λ (later : IsGivenIn entries one). inr (let (k, below, is) = later in (suc k, omega arith, is)))
    (given_in w (next_state w s entry.step) entries one member)

-- where no entry gave a claim on the leaf that is out, none is
pub none_out : (r : Run) (leaf : ℕ) → IsLawful (schema r) r.limit r.history →
    ((k : ℕ) → k < length r.history → (claim : ℕ) → (get_or r.history k none).step ≡ Took claim leaf → ¬ (IsOutOn r leaf claim)) →
    ¬ (leaf ∈ current_leaves (now r))
none_out r leaf lawful each member =
    let s : RunState = now r in
    let sound : IsSound (schema r) s = lawful.sound r.history ([], sym (append-nil r.history)) in
    let (claim, there, is) = of_map (λ (c : Claim). c.leaf) leaf (current_claims s) member in
    let (given, current) = of_filter (is_current s) s.claims claim there in
    let found : claim_at s claim.number ≡ Some claim = found_by_number 1 s.claims claim sound.numbered given in
    let out : IsCurrent s claim.number = subst (λ o. IsSomeAnd o (λ (c : Claim). IsTrue (is_current s c))) (sym found) current in
    ⊎_elim
    (λ (like : IsLike [] claim). absurd (like.1))
    (λ (taken : IsGivenIn r.history claim).
    let (k, below, step) = taken in
    each k below claim.number (step ∙ ap (Took claim.number) (sym is)) (out, leaf_of_claim_is s claim.number claim found ∙ sym is))
    (given_in (schema r) first_state r.history claim given)

-- the entry that gave it
pub gave : (r : Run) (leaf claim i : ℕ) (made : Entry) → i < length r.history → made ≡ get_or r.history i none → made.step ≡ Took claim leaf → IsOutOn r leaf claim →
    IsOutBy r leaf claim i made.by
gave r leaf claim i made below is step out = record {
  is_out = out;
  given =
      let read : slice_get r.history i ≡ Some (get_or r.history i none) = slice_get-get_or r.history i none below in
      read ∙ ap Some (sym is ∙ ap (λ (t : Step). (let e : Entry = record { by = made.by; step = t } in e)) step);
}
