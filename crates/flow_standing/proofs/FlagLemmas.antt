-- What is known of leaves by lists of them.
use Rattle.std.proofs.Common.{◌≡◌, ◌<◌, ◌≤◌, ◌+◌, ℕ, Bool, true, false, nat_eq, cond, ◌↔◌, IsTrue, IsSomeAnd, inl, inr, ⊎_elim, List, [], ◌∷◌, ◌++◌, length, map, take, replicate, set, get_or, Some, slice_get, sym, ap, subst, ◌∙◌, arith, true≢false}
use Rattle.std.proofs.lemmas.Bool.{cases_Bool, eqb-true, eq-eqb}
use Rattle.std.proofs.lemmas.List.{length-set, length-replicate, take_all}
use Rattle.std.proofs.lemmas.Option.{slice_get-get_or, slice_get_within}
use Rattle.flow_model.specs.declared.history.Call.{Call}
use Rattle.flow_model.specs.declared.history.Entry.{Entry}
use Rattle.flow_model.specs.Lists.{◌∈◌}
use Rattle.flow_model.specs.Schema.{Schema}
use Rattle.flow_model.specs.Run.{Claim, RunState, claim_at, current_claims, current_leaves, leaf_of_claim, is_current, IsCurrent, state_of}
use Rattle.flow_model.proofs.Lists.{mem-append, mem_append_left, mem_append_right, each_member}
use Rattle.flow_model.proofs.MadeLists.{some_same, mem-map, of_map}
use Rattle.flow_laws.specs.Histories.{IsSound}
use Rattle.flow_laws.proofs.ClaimLemmas.{some_claim, claim_in, leaf_of_claim_is}
use Rattle.flow_residual.proofs.SetLemmas.{mem-filter, of_filter}
use Rattle.flow_core.proofs.HoldingLemmas.{found_by_number}
use Rattle.flow_standing.specs.declared.claims.Out.{Out}
use Rattle.flow_standing.specs.Out.{number_of_out, IsGiven, AreClaimsOut}
use Rattle.flow_core.specs.Run.{Run}
use Rattle.flow_standing.specs.declared.standing.Standing.{Standing}
use Rattle.flow_standing.specs.Standing.{IsStanding, AreFlags}
use Rattle.flow_standing.proofs.Places.{of_push}
use Rattle.flow_standing.proofs.Fronts.{take_next}
use Rattle.flow_standing.proofs.PastLemmas.{flag_put, none_failed}

pub none_flagged : (members : List ℕ) (count : ℕ) (flags : List Bool) → flags ≡ replicate count false → AreFlags (λ leaf. leaf ∈ take 0 members) count flags
none_flagged members count flags is = record {
  count = ap length is ∙ length-replicate count false;
  each = λ leaf flag told.
      let within : leaf < length flags = slice_get_within flags leaf flag told in
      let low : leaf < count = let l = ap length is ∙ length-replicate count false in omega arith in
      let not : false ≡ flag = some_same false flag (sym (none_failed count leaf low) ∙ ap (λ l. slice_get l leaf) (sym is) ∙ told) in
      ((λ yes. absurd (true≢false (sym yes ∙ sym not))), (λ m. absurd m));
}

pub flag_more : (members : List ℕ) (k : ℕ) (member : ℕ) (count : ℕ) (flags more : List Bool) → slice_get members k ≡ Some member → more ≡ set flags member true →
    AreFlags (λ leaf. leaf ∈ take k members) count flags → AreFlags (λ leaf. leaf ∈ take (k + 1) members) count more
flag_more members k member count flags more at is so_far = record {
  count = ap length is ∙ length-set flags member true ∙ so_far.count;
  each = λ leaf flag told.
      let there : slice_get (set flags member true) leaf ≡ Some flag = ap (λ l. slice_get l leaf) (sym is) ∙ told in
      let within : leaf < length flags = let l = slice_get_within (set flags member true) leaf flag there in let e = length-set flags member true in omega arith in
      let old : Bool = get_or flags leaf false in
      let was : slice_get flags leaf ≡ Some old = slice_get-get_or flags leaf false within in
      let now : cond (nat_eq member leaf) true old ≡ flag = some_same _ flag (sym (flag_put flags member true old leaf within was) ∙ there) in
      let grown = take_next members k member at in
      elim (cases_Bool (nat_eq member leaf)) [
        | inl same ↦ (
          (λ yes. subst (λ l. leaf ∈ l) (sym grown) (mem_append_right leaf (take k members) (member ∷ []) (inl (sym (eqb-true member leaf same))))),
          (λ m. sym now ∙ ap (λ b. cond b true old) same),
        )
        | inr differs ↦
            let as_before : old ≡ flag = ap (λ b. cond b true old) (sym differs) ∙ now in (
              (λ yes. subst (λ l. leaf ∈ l) (sym grown) (mem_append_left leaf (take k members) (member ∷ []) ((so_far.each leaf old was).0 (as_before ∙ yes)))),
              (λ m. ⊎_elim
                  (λ o. sym as_before ∙ (so_far.each leaf old was).1 o)
                  (λ one. ⊎_elim (λ e. absurd (true≢false (sym (eq-eqb member leaf (sym e)) ∙ differs))) (λ none. absurd none) one)
                  (mem-append leaf (take k members) (member ∷ []) (subst (λ l. leaf ∈ l) grown m))),
            )
      ];
}

-- known of a property that the same leaves have
pub flags_as : (P Q : ℕ → Type 0) (count n : ℕ) (flags : List Bool) → count ≡ n → ((leaf : ℕ) → P leaf ↔ Q leaf) → AreFlags P count flags → AreFlags Q n flags
flags_as P Q count n flags all same are = record {
  count = are.count ∙ all;
  each = λ leaf flag told. ((λ yes. (same leaf).0 ((are.each leaf flag told).0 yes)), (λ has. (are.each leaf flag told).1 ((same leaf).1 has)));
}

pub all_flagged : (members : List ℕ) (k count : ℕ) (flags : List Bool) → length members ≤ k → AreFlags (λ leaf. leaf ∈ take k members) count flags → AreFlags (λ leaf. leaf ∈ members) count flags
all_flagged members k count flags all are = subst (λ l. AreFlags (λ leaf. leaf ∈ l) count flags) (take_all k members all) are

pub banned_members : (bans : List (ℕ × ℕ)) (leaf : ℕ) → (leaf ∈ map (λ (ban : ℕ × ℕ). ban.1) bans) ↔ ((place : ℕ) × ((place, leaf) ∈ bans))
banned_members bans leaf = (
  (λ m. let (ban, there, is) = of_map (λ (b : ℕ × ℕ). b.1) leaf bans m in (ban.0, subst (λ n. (ban.0, n) ∈ bans) (sym is) there)),
  (λ h. mem-map (λ (b : ℕ × ℕ). b.1) (h.0, leaf) bans h.1),
)

module _ (w : Schema) (history : List Entry) (sound : IsSound w (state_of w history)) (outs : List Out) (are : AreClaimsOut w history outs) where
  abbrev s : RunState
  s = state_of w history

  abbrev leaf_out : Out → ℕ
  leaf_out out = out.call.leaf

  to : (leaf : ℕ) → leaf ∈ map leaf_out outs → leaf ∈ current_leaves s
  to leaf m =
      let (out, there, is) = of_map leaf_out leaf outs m in
      let given : IsGiven w history out = each_member (IsGiven w history) outs are.each out there in
      let current : IsCurrent s out.call.claim = (are.claims.exact out.call.claim).0 (mem-map number_of_out out outs there) in
      let (claim, found, told) = some_claim (λ (c : Claim). IsTrue (is_current s c)) (claim_at s out.call.claim) current in
      let on : out.call.leaf ≡ claim.leaf = ap (λ (c : Call). c.leaf) given.call ∙ leaf_of_claim_is s out.call.claim claim found in
      subst (λ n. n ∈ current_leaves s) (sym (is ∙ on))
      (mem-map (λ (c : Claim). c.leaf) claim (current_claims s) (mem-filter (is_current s) s.claims claim told (claim_in s.claims out.call.claim claim found)))

  from : (leaf : ℕ) → leaf ∈ current_leaves s → leaf ∈ map leaf_out outs
  from leaf m =
      let (claim, there, is) = of_map (λ (c : Claim). c.leaf) leaf (current_claims s) m in
      let (given, current) = of_filter (is_current s) s.claims claim there in
      let found : claim_at s claim.number ≡ Some claim = found_by_number 1 s.claims claim sound.numbered given in
      let out_now : IsCurrent s claim.number = subst (λ o. IsSomeAnd o (λ (c : Claim). IsTrue (is_current s c))) (sym found) current in
      let (out, member, number) = of_map number_of_out claim.number outs ((are.claims.exact claim.number).1 out_now) in
      let its : IsGiven w history out = each_member (IsGiven w history) outs are.each out member in
      let on : leaf ≡ out.call.leaf =
      is ∙ sym (leaf_of_claim_is s claim.number claim found) ∙ ap (leaf_of_claim s) number ∙ sym (ap (λ (c : Call). c.leaf) its.call) in
      subst (λ n. n ∈ map leaf_out outs) (sym on) (mem-map leaf_out out outs member)

  -- the leaves of the claims that are out
  pub claimed_members : (leaf : ℕ) → (leaf ∈ map (λ (out : Out). out.call.leaf) outs) ↔ (leaf ∈ current_leaves s)
  claimed_members leaf = (to leaf, from leaf)

-- one standing more
pub standing_more : (r : Run) (standings more : List Standing) (standing : Standing) → more ≡ standings ++ standing ∷ [] → IsStanding r (length standings) standing →
    ((leaf : ℕ) (s : Standing) → slice_get standings leaf ≡ Some s → IsStanding r leaf s) → (leaf : ℕ) (s : Standing) → slice_get more leaf ≡ Some s → IsStanding r leaf s
standing_more r standings more standing is here each leaf s told = ⊎_elim
    (λ old. each leaf s old)
    (λ new. subst (λ n. IsStanding r n s) (sym new.0) (subst (IsStanding r (length standings)) new.1 here))
    (of_push standings standing s leaf (ap (λ l. slice_get l leaf) (sym is) ∙ told))
