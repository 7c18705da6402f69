-- One token more.
use Rattle.std.proofs.Common.{◌≡◌, ℕ, ◌+◌, ◌<◌, ◌↔◌, subst, List, [], ◌∷◌, ◌++◌, length, get_or, take, add-one, zero-add, sym, ◌∙◌, ap}
use Rattle.std.proofs.lemmas.List.{take_more, map-append}
use Rattle.flow_model.specs.Lists.{numbers_from}
use Rattle.flow_model.specs.Process.{Process}
use Rattle.flow_model.specs.FoldedReady.{IsCompleteFoldedRun}
use Rattle.flow_model.specs.Resolution.{OptionTrace}
use Rattle.flow_fold_laws.specs.Unfolding.{IsFoldedOrdered}
use Rattle.flow_fold_laws.proofs.FoldedRunsLemmas.{folded_complete_runs_are_traces}
use Rattle.flow_model.proofs.MadeLists.{numbers_from_more}
use Rattle.flow_plan.specs.declared.token.OrderToken.{OrderToken}
use Rattle.flow_plan.specs.Planned.{pairs_of, token_numbers}

pub pairs_with : (pairs : List (ℕ × ℕ)) (i : ℕ) (old new : List OrderToken) (token : OrderToken) → i < length pairs →
    (token.sender, token.receiver) ≡ get_or pairs i (0, 0) → new ≡ old ++ token ∷ [] → pairs_of old ≡ take i pairs → pairs_of new ≡ take (i + 1) pairs
pairs_with pairs i old new token within is more before =
    ap pairs_of more ∙ map-append (λ (t : OrderToken). (t.sender, t.receiver)) old (token ∷ [])
    ∙ (λ k. before k ++ is k ∷ []) ∙ sym (take_more pairs i (0, 0) within)

pub numbers_with : (i : ℕ) (old new : List OrderToken) (token : OrderToken) → token.number ≡ i → new ≡ old ++ token ∷ [] →
    token_numbers old ≡ numbers_from 0 i → token_numbers new ≡ numbers_from 0 (i + 1)
numbers_with i old new token is more before =
    ap token_numbers more ∙ map-append (λ (t : OrderToken). t.number) old (token ∷ [])
    ∙ (λ k. before k ++ is k ∷ [])
    ∙ sym (ap (λ (n : ℕ). numbers_from 0 n) (add-one i) ∙ numbers_from_more 0 i ∙ ap (λ (n : ℕ). numbers_from 0 i ++ n ∷ []) (zero-add i))

-- the complete ready runs of a plan are the executions of its option
pub woven_runs : (q g : Process) (tokens : List OrderToken) (pairs : List (ℕ × ℕ)) → q ≡ g → pairs_of tokens ≡ pairs → IsFoldedOrdered q (pairs_of tokens) → (t : List ℕ) →
    IsCompleteFoldedRun q (pairs_of tokens) t ↔ OptionTrace (record { resolution = g; order = pairs }) t
woven_runs q g tokens pairs same_goal same_pairs ordered t =
    let Says : Process → List (ℕ × ℕ) → Type 0 = λ h ps. IsCompleteFoldedRun q (pairs_of tokens) t ↔ OptionTrace (record { resolution = h; order = ps }) t in
    subst (λ (h : Process). Says h pairs) same_goal
    (subst (λ (ps : List (ℕ × ℕ)). Says q ps) same_pairs (folded_complete_runs_are_traces q (pairs_of tokens) ordered t))
