-- The claims that are out, an entry at a time.
use Rattle.std.proofs.Common.{◌≡◌, ◌≤◌, ◌+◌, ℕ, suc, false, IsTrue, ◌==◌, List, [], ◌∷◌, ◌++◌, length, map, take, Some, None, slice_get, refl, sym, ap, subst, ◌∙◌, arith}
use Rattle.std.proofs.lemmas.Bool.{eqb-true}
use Rattle.std.proofs.lemmas.List.{length-map, map-append, length_push, take_all}
use Rattle.std.proofs.Math.Seq.{get_or-append_seam}
use Rattle.std.proofs.Common.{le_refl}
use Rattle.flow_model.specs.declared.history.Call.{Call}
use Rattle.flow_model.specs.declared.history.Entry.{Entry}
use Rattle.flow_model.specs.declared.history.Step.{Step}
use Rattle.flow_model.specs.declared.history.Step.TheVariants.{Took, Done, Failed, Late, Did, Rewound, Committed}
use Rattle.flow_model.specs.Lists.{◌∈◌, Each, Begins, numbers_from}
use Rattle.flow_model.specs.Schema.{Schema}
use Rattle.flow_model.specs.Takers.{Taking, Takings, takings_of, next_takings}
use Rattle.flow_model.specs.Run.{Claim, RunState, leaf_of_claim, claim_at, is_current, IsCurrent, CanTake, next_state, state_of, IsAllowed, IsLegal}
use Rattle.flow_model.specs.Verdict.{call_of, AreJust}
use Rattle.flow_model.proofs.Lists.{each-append}
use Rattle.flow_model.proofs.MadeLists.{mem-map, of_find, numbers_from_least}
use Rattle.flow_laws.specs.Histories.{IsSound}
use Rattle.flow_laws.proofs.ClaimLemmas.{number_of, some_claim, claim_in}
use Rattle.flow_duty_laws.proofs.Claims.{those_leaves}
use Rattle.flow_duty_laws.proofs.Kept.{those_of}
use Rattle.flow_standing.specs.declared.claims.Out.{Out}
use Rattle.flow_standing.specs.Out.{number_of_out, IsGiven, AreClaimsOut}
use Rattle.flow_standing.specs.Following.{state_at, leaf_numbered, FindsOut}
use Rattle.flow_standing.proofs.Fronts.{state_next, takings_next, allowed_at, leaf_of, leaf_by_number}
use Rattle.flow_standing.proofs.Trails.{sound_at, sound_end, leaf_stays, current_given}
use Rattle.flow_core.proofs.RisingLists.{Below, none_yet, one_found, one_passed, all_found}

-- one more than how many claims the first entries gave
abbrev pub next_number : List Entry → ℕ → ℕ
next_number history k = length (takings_of (take k history)).given + 1

-- those of the claims that the first entries gave
pub record AreOutUpTo (w : Schema) (history : List Entry) (k : ℕ) (outs : List Out) : Type 0 where
  pub claims : AreJust (Below (IsCurrent (state_of w history)) (next_number history k)) (map number_of_out outs)
  pub each : Each (IsGiven w history) outs

module _ (w : Schema) (limit : ℕ) (history : List Entry) (legal : IsLegal w limit history) (sound : (front : List Entry) → Begins history front → IsSound w (state_of w front)) where
  abbrev s : RunState
  s = state_of w history

  -- the claim of a number that is current
  current_least : (claim : ℕ) → IsCurrent s claim → 1 ≤ claim
  current_least claim current =
      let (c, found, told) = some_claim (λ (c : Claim). IsTrue (is_current s c)) (claim_at s claim) current in
      let there : c ∈ s.claims = claim_in s.claims claim c found in
      let numbered : c.number ∈ numbers_from 1 (length s.claims) = subst (λ l. c.number ∈ l) (sound_end w limit history legal sound).numbered (mem-map number_of c s.claims there) in
      let is : c.number ≡ claim = eqb-true c.number claim (of_find (λ (x : Claim). x.number == claim) s.claims c found).1 in
      omega (arith, numbers_from_least 1 (length s.claims) c.number numbered)

  pub none_out : AreOutUpTo w history 0 []
  none_out = record {
    claims = one_passed (IsCurrent s) 0 [] (none_yet (IsCurrent s)) (λ current. let l : 1 ≤ 0 = current_least 0 current in absurd (omega arith));
    each = tt;
  }

  given_count : (k : ℕ) → length (takings_of (take k history)).given ≡ length (state_at w history k).claims
  given_count k =
      sym (length-map (takings_of (take k history)).given (λ (t : Taking). t.leaf))
      ∙ ap length (those_leaves (λ n. n) (state_at w history k).claims (takings_of (take k history)).given (those_of w (take k history)))
      ∙ length-map (state_at w history k).claims leaf_of

  module _ (k : ℕ) (entry : Entry) (at : slice_get history k ≡ Some entry) (outs : List Out) (so_far : AreOutUpTo w history k outs) where
    -- the leaf of the claim that the entry gave
    its_leaf : (claim leaf : ℕ) → entry.step ≡ Took claim leaf → claim ≡ length (state_at w history k).claims + 1 → leaf_of_claim s claim ≡ leaf
    its_leaf claim leaf step number =
        let before : RunState = state_at w history k in
        let new : Claim = record { number = claim; leaf = leaf; epoch = before.epoch; answered = false } in
        let claims_are : (state_at w history (k + 1)).claims ≡ before.claims ++ new ∷ [] =
        ap (λ (t : RunState). t.claims) (state_next w history k entry at) ∙ ap (λ (st : Step). (next_state w before st).claims) step in
        let count : length (state_at w history (k + 1)).claims ≡ length before.claims + 1 = ap length claims_are ∙ length_push before.claims new in
        let leaves : map leaf_of (state_at w history (k + 1)).claims ≡ map leaf_of before.claims ++ leaf ∷ [] = ap (map leaf_of) claims_are ∙ map-append leaf_of before.claims (new ∷ []) in
        let place : claim ≡ suc (length (map leaf_of before.claims)) = let l = length-map before.claims leaf_of in omega arith in
        leaf_stays w limit history legal sound (k + 1) claim (omega (arith, count, number))
        ∙ leaf_by_number (state_at w history (k + 1)) claim (sound_at w limit history legal sound (k + 1)).numbered
        ∙ ap (λ l. leaf_numbered l claim) leaves ∙ ap (leaf_numbered (map leaf_of before.claims ++ leaf ∷ [])) place
        ∙ get_or-append_seam (map leaf_of before.claims) leaf [] 0

    taken : (claim leaf : ℕ) → entry.step ≡ Took claim leaf → claim ≡ next_number history k
    taken claim leaf step =
        let allowed : (claim ≡ length (state_at w history k).claims + 1) × CanTake w (state_at w history k) leaf =
        subst (IsAllowed w (state_at w history k)) step (allowed_at w limit history legal k entry at) in
        omega (arith, allowed.0, given_count k)

    count_taken : (claim leaf : ℕ) → entry.step ≡ Took claim leaf → next_number history (k + 1) ≡ next_number history k + 1
    count_taken claim leaf step =
        let given : (takings_of (take (k + 1) history)).given ≡ (takings_of (take k history)).given ++ record { claim = claim; leaf = leaf; taker = entry.by } ∷ [] =
        ap (λ (t : Takings). t.given) (takings_next history k entry at) ∙ ap (λ (st : Step). (next_takings (takings_of (take k history)) entry.by st).given) step in
        ap (λ n. n + 1) (ap length given ∙ length_push (takings_of (take k history)).given (record { claim = claim; leaf = leaf; taker = entry.by }))

    pub one_out : (out : Out) → FindsOut w history k entry (Some out) → AreOutUpTo w history (k + 1) (outs ++ out ∷ [])
    one_out out (claim, leaf, step, current, is) =
        let this : claim ≡ next_number history k = taken claim leaf step in
        let number : out.call.claim ≡ claim = ap number_of_out is in
        let call : out.call ≡ call_of w s claim = ap (λ (o : Out). o.call) is in
        let on : out.call.leaf ≡ leaf = ap (λ (c : Call). c.leaf) call ∙ its_leaf claim leaf step (omega (arith, this, given_count k)) in
        let step_is : entry.step ≡ Took out.call.claim out.call.leaf = step ∙ (λ i. Took (sym number i) (sym on i)) in
        let holder : entry.by ≡ out.holder = sym (ap (λ (o : Out). o.holder) is) in record {
          claims = subst (λ n. AreJust (Below (IsCurrent s) n) (map number_of_out (outs ++ out ∷ []))) (sym (count_taken claim leaf step))
              (subst (AreJust (Below (IsCurrent s) (next_number history k + 1)))
              (ap (λ n. map number_of_out outs ++ n ∷ []) (sym this ∙ sym number) ∙ sym (map-append number_of_out outs (out ∷ [])))
              (one_found (IsCurrent s) (next_number history k) (map number_of_out outs) so_far.claims (subst (IsCurrent s) this current)));
          each = each-append (IsGiven w history) outs (out ∷ []) so_far.each (
            (record {
              call = call ∙ ap (call_of w s) (sym number);
              entry = ap (slice_get history) (ap (λ (o : Out). o.place) is) ∙ at
                  ∙ (λ i. Some (record { by = holder i; step = step_is i }));
            }),
            tt,
          );
        }

    same_outs : next_number history (k + 1) ≡ next_number history k → AreOutUpTo w history (k + 1) outs
    same_outs same = record { claims = subst (λ n. AreJust (Below (IsCurrent s) n) (map number_of_out outs)) (sym same) so_far.claims; each = so_far.each }

    pub not_out : FindsOut w history k entry None → AreOutUpTo w history (k + 1) outs
    not_out none = go entry.step refl
      where
        after : (step : Step) → entry.step ≡ step → (takings_of (take (k + 1) history)).given ≡ (next_takings (takings_of (take k history)) entry.by step).given
        after step e = ap (λ (t : Takings). t.given) (takings_next history k entry at) ∙ ap (λ (st : Step). (next_takings (takings_of (take k history)) entry.by st).given) e

        still : (step : Step) → entry.step ≡ step → (next_takings (takings_of (take k history)) entry.by step).given ≡ (takings_of (take k history)).given → AreOutUpTo w history (k + 1) outs
        still step e same = same_outs (ap (λ (g : List Taking). length g + 1) (after step e ∙ same))

        go : (step : Step) → entry.step ≡ step → AreOutUpTo w history (k + 1) outs
        go (Took claim leaf) e = record {
          claims = subst (λ n. AreJust (Below (IsCurrent s) n) (map number_of_out outs)) (sym (count_taken claim leaf e))
              (one_passed (IsCurrent s) (next_number history k) (map number_of_out outs) so_far.claims
              (λ current. none claim leaf e (subst (IsCurrent s) (sym (taken claim leaf e)) current)));
          each = so_far.each;
        }
        go (Done claim) e = still (Done claim) e refl
        go (Failed claim effect) e = still (Failed claim effect) e refl
        go (Late claim) e = still (Late claim) e refl
        go (Did leaf) e = still (Did leaf) e refl
        go (Rewound index) e = still (Rewound index) e refl
        go Committed e = still Committed e refl

  -- the claims of all entries are looked at
  pub outs_end : (outs : List Out) → AreOutUpTo w history (length history) outs → AreClaimsOut w history outs
  outs_end outs are = record {
    claims = all_found (IsCurrent s) (next_number history (length history)) (map number_of_out outs) are.claims
        (λ n current.
        let whole : take (length history) history ≡ history = take_all (length history) history (le_refl (length history)) in
        let given : n ≤ length (state_at w history (length history)).claims =
        current_given w limit history legal sound (length history) n (subst (λ h. IsCurrent (state_of w h) n) (sym whole) current) in
        omega (arith, given_count (length history)));
    each = are.each;
  }

  pub outs_all : (k : ℕ) (outs : List Out) → k ≡ length history → AreOutUpTo w history k outs → AreClaimsOut w history outs
  outs_all k outs all are = outs_end outs (subst (λ n. AreOutUpTo w history n outs) all are)
