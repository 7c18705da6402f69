-- The claims of a legal history have numbers from 1 up to its length.
use Rattle.std.proofs.Common.{◌≡◌, ℕ, ◌+◌, ◌<◌, ◌≤◌, ◌==◌, nat_le, IsTrue, List, [], ◌∷◌, ◌++◌, length, map, take, filter, slice_index, refl, sym, ap, ◌∙◌, subst, append-nil, length-append, arith}
use Rattle.std.proofs.lemmas.List.{length-map}
use Rattle.std.proofs.lemmas.Bool.{eqb-true}
use Rattle.flow_model.specs.declared.history.Entry.{Entry}
use Rattle.flow_model.specs.declared.history.Step.{Step}
use Rattle.flow_model.specs.declared.history.Step.TheVariants.{Took, Done, Failed, Late, Did, Rewound, Committed}
use Rattle.flow_model.specs.declared.history.FailEffect.TheVariants.{Switched, Kept}
use Rattle.flow_model.specs.Lists.{◌∈◌, numbers_from}
use Rattle.flow_model.specs.Schema.{Schema}
use Rattle.flow_model.specs.Run.{Claim, RunState, first_state, is_current, claim_at, leaf_of_claim, answer, spare, with_new_epoch, next_state, state_after, IsCurrent}
use Rattle.flow_model.proofs.MadeLists.{mem-map, of_find, numbers_from_below}
use Rattle.flow_laws.specs.Histories.{IsSound}
use Rattle.flow_laws.proofs.ClaimLemmas.{number_of, numbers-answer, numbers-spare, some_claim}
use Rattle.flow_laws.proofs.SoundStates.{legal_length}
use Rattle.flow_core.specs.Run.{Run, schema, now}
use Rattle.flow_core.specs.Lawful.{IsLawful}

-- as many claims as numbers of them
count_of : (one other : List Claim) → map number_of one ≡ map number_of other → length one ≡ length other
count_of one other same = sym (length-map one number_of) ∙ ap (λ (l : List ℕ). length l) same ∙ length-map other number_of

answered : (number : ℕ) (claims : List Claim) → length (answer number claims) ≡ length claims
answered number claims = count_of (answer number claims) claims (numbers-answer number claims)

spared : (w : Schema) (s : RunState) (claims : List Claim) → length (spare w s [] claims) ≡ length claims
spared w s claims = count_of (spare w s [] claims) claims (numbers-spare w s [] claims)

new_epoch : (w : Schema) (s : RunState) → length (with_new_epoch w s).claims ≡ length s.claims
new_epoch w s = spared w s s.claims

at_most : (a b c : ℕ) → a ≡ b → b ≡ c → a ≤ c + 1
at_most a b c e f = omega (arith, e, f)

-- an entry gives one claim at most
one_more : (w : Schema) (s : RunState) (step : Step) → length (next_state w s step).claims ≤ length s.claims + 1
one_more w s (Took claim leaf) = simp length-append (omega arith)
one_more w s (Done claim) = omega (arith, answered claim s.claims)
one_more w s (Failed claim Switched) = at_most _ _ _
    (new_epoch w (record s { bans = s.bans ++ (length s.journal, leaf_of_claim s claim) ∷ []; claims = answer claim s.claims })) (answered claim s.claims)
one_more w s (Failed claim Kept) = omega (arith, answered claim s.claims)
one_more w s (Late claim) = omega (arith, answered claim s.claims)
one_more w s (Did leaf) = omega arith
one_more w s (Rewound index) = at_most _ _ _ (new_epoch w (record s {
  journal = take index s.journal;
  bans = filter (λ ban. nat_le ban.0 index) s.bans ++ (index, slice_index s.journal index) ∷ [];
})) refl
one_more w s Committed = omega arith

as_many : (w : Schema) (s : RunState) (history : List Entry) → length (state_after w s history).claims ≤ length s.claims + length history
as_many w s [] = omega arith
as_many w s (entry ∷ history) =
    let rest : length (state_after w (next_state w s entry.step) history).claims ≤ length (next_state w s entry.step).claims + length history =
    as_many w (next_state w s entry.step) history in
    let more : length (next_state w s entry.step).claims ≤ length s.claims + 1 = one_more w s entry.step in
    omega arith

-- the number of a current claim
within : (w : Schema) (s : RunState) → IsSound w s → (number : ℕ) → IsCurrent s number → number < 1 + length s.claims
within w s sound number current =
    let (claim, e, k) = some_claim (λ claim. IsTrue (is_current s claim)) (claim_at s number) current in
    let found = of_find (λ (x : Claim). x.number == number) s.claims claim e in
    let there : number_of claim ∈ numbers_from 1 (length s.claims) =
    subst (λ l. number_of claim ∈ l) sound.numbered (mem-map number_of claim s.claims found.0) in
    let below : claim.number < 1 + length s.claims = numbers_from_below 1 (length s.claims) claim.number there in
    let same : claim.number ≡ number = eqb-true claim.number number found.1 in
    omega arith

-- the number of a current claim of a lawful history is at most its length
pub current_below : (r : Run) → IsLawful (schema r) r.limit r.history → (claim : ℕ) → IsCurrent (now r) claim → claim < length r.history + 1
current_below r lawful claim current =
    let sound : IsSound (schema r) (now r) = lawful.sound r.history ([], sym (append-nil r.history)) in
    let below : claim < 1 + length (now r).claims = within (schema r) (now r) sound claim current in
    let few : length (now r).claims ≤ 0 + length r.history = as_many (schema r) first_state r.history in
    omega arith

-- a lawful history is no longer than its limit
pub history_within : (r : Run) → IsLawful (schema r) r.limit r.history → length r.history ≤ r.limit
history_within r lawful =
    let few : 0 + length r.history ≤ r.limit = legal_length (schema r) r.limit first_state 0 r.history lawful.legal (omega arith) in
    omega arith
