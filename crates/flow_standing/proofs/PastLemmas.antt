-- What a history leaves, an entry at a time.
use Rattle.std.proofs.Common.{◌≡◌, ◌≢◌, ◌<◌, ◌+◌, ℕ, zero, suc, Bool, true, false, nat_eq, nat_le, cond, List, [], ◌∷◌, ◌++◌, length, take, replicate, set, get_or, filter, Some, slice_get, refl, sym, ap, subst, ◌∙◌, inl, inr, arith, true≢false}
use Rattle.std.proofs.lemmas.Bool.{cases_Bool, eq-eqb, eqb-true}
use Rattle.std.proofs.lemmas.Grind.{get_or-set_at}
use Rattle.std.proofs.lemmas.List.{length-set, length-map, length-replicate, get_or-set_other, take_all}
use Rattle.std.proofs.lemmas.Option.{slice_get-get_or}
use Rattle.flow_model.proofs.MadeLists.{some_same}
use Rattle.flow_model.specs.declared.history.Entry.{Entry}
use Rattle.flow_model.specs.declared.history.Step.{Step}
use Rattle.flow_model.specs.declared.history.Step.TheVariants.{Took, Done, Failed, Late, Did, Rewound, Committed}
use Rattle.flow_model.specs.declared.history.FailEffect.{FailEffect}
use Rattle.flow_model.specs.declared.history.FailEffect.TheVariants.{Switched, Kept}
use Rattle.flow_model.specs.Lists.{Begins}
use Rattle.flow_model.specs.Schema.{Schema}
use Rattle.flow_model.specs.Run.{RunState, first_state, leaf_of_claim, next_state, state_after, state_of, IsCurrent, IsAllowed, IsLegal}
use Rattle.flow_laws.specs.Histories.{IsSound}
use Rattle.flow_standing.specs.declared.trail.Doing.{Doing}
use Rattle.flow_standing.specs.Following.{state_at, leaves_given, leaf_numbered, leaf_done, IsTrail, leaf_at, next_bans, next_flags}
use Rattle.flow_standing.specs.Past.{next_failed, failed_after, has_failed, IsPast}
use Rattle.flow_standing.proofs.Fronts.{take_next, state_next, allowed_at}
use Rattle.flow_standing.proofs.Trails.{leaf_stays, current_given, leaves_told}

failed_after-append : (w : Schema) (s : RunState) (leaf : ℕ) (failed : Bool) (history : List Entry) (entry : Entry) →
    failed_after w s leaf failed (history ++ entry ∷ []) ≡ next_failed (state_after w s history) leaf (failed_after w s leaf failed history) entry.step
failed_after-append w s leaf failed [] entry = refl
failed_after-append w s leaf failed (x ∷ xs) entry = failed_after-append w (next_state w s x.step) leaf (next_failed s leaf failed x.step) xs entry

-- a flag is put at a place
pub flag_put : (flags : List Bool) (place : ℕ) (flag old : Bool) (n : ℕ) → n < length flags → slice_get flags n ≡ Some old →
    slice_get (set flags place flag) n ≡ Some (cond (nat_eq place n) flag old)
flag_put flags place flag old n within is =
    slice_get-get_or (set flags place flag) n false (let l = length-set flags place flag in omega arith) ∙ ap Some (elim (cases_Bool (nat_eq place n)) [
      | inl same ↦ let e : place ≡ n = eqb-true place n same in
          rw same (get_or-set_at flags place n flag false (sym e) (omega arith))
      | inr differs ↦
          let e : n ≢ place = λ e. true≢false (sym (eq-eqb place n (sym e)) ∙ differs) in
          rw differs (get_or-set_other flags place n flag false e ∙ some_same (get_or flags n false) old (sym (slice_get-get_or flags n false within) ∙ is))
    ])

pub none_failed : (count leaf : ℕ) → leaf < count → slice_get (replicate count false) leaf ≡ Some false
none_failed zero leaf l = absurd (omega arith)
none_failed (suc count) zero l = refl
none_failed (suc count) (suc leaf) l = none_failed count leaf (omega arith)

pub no_past : (w : Schema) (history : List Entry) (bans : List (ℕ × ℕ)) (failed : List Bool) (count : ℕ) → bans ≡ [] → failed ≡ replicate count false → count ≡ length w.labels →
    IsPast w (take 0 history) bans failed
no_past w history bans failed count none flags leaves = record {
  bans_are = none;
  count = ap length flags ∙ length-replicate count false ∙ leaves;
  failed_are = λ leaf within. ap (λ l. slice_get l leaf) flags ∙ none_failed count leaf (omega arith);
}

module _ (w : Schema) (limit : ℕ) (history : List Entry) (legal : IsLegal w limit history) (sound : (front : List Entry) → Begins history front → IsSound w (state_of w front)) where
  module _ (k : ℕ) (entry : Entry) (at : slice_get history k ≡ Some entry) (trail : List Doing) (trailed : IsTrail w history k trail)
      (bans : List (ℕ × ℕ)) (failed : List Bool) (past : IsPast w (take k history) bans failed) where
    s : RunState
    s = state_of w (take k history)

    -- the claim of a failure has the same leaf in the end
    its_leaf : (claim : ℕ) (effect : FailEffect) → entry.step ≡ Failed claim effect → leaf_of_claim (state_of w history) claim ≡ leaf_of_claim (state_at w history k) claim
    its_leaf claim effect e = leaf_stays w limit history legal sound k claim (current_given w limit history legal sound k claim (current effect e))
      where
        current : (effect : FailEffect) → entry.step ≡ Failed claim effect → IsCurrent (state_at w history k) claim
        current Switched e = (subst (IsAllowed w (state_at w history k)) e (allowed_at w limit history legal k entry at)).0
        current Kept e = (subst (IsAllowed w (state_at w history k)) e (allowed_at w limit history legal k entry at)).0

    -- the bans and flags that the step leaves
    then : (later : List (ℕ × ℕ)) (flags : List Bool) → later ≡ (next_state w (state_at w history k) entry.step).bans → length flags ≡ length failed →
        ((leaf : ℕ) → leaf < length failed → slice_get failed leaf ≡ Some (has_failed w (take k history) leaf) →
        slice_get flags leaf ≡ Some (next_failed (state_at w history k) leaf (has_failed w (take k history) leaf) entry.step)) →
        IsPast w (take (k + 1) history) later flags
    then later flags bans_are count told = record {
      bans_are = bans_are ∙ sym (ap (λ (s : RunState). s.bans) (state_next w history k entry at));
      count = count ∙ past.count;
      failed_are = λ leaf within.
          told leaf (omega (arith, past.count, within)) (past.failed_are leaf within)
          ∙ ap Some (sym (ap (λ h. has_failed w h leaf) (take_next history k entry at) ∙ failed_after-append w first_state leaf false (take k history) entry));
    }

    by_step : (step : Step) → entry.step ≡ step → (later : List (ℕ × ℕ)) (flags : List Bool) → later ≡ (next_state w (state_at w history k) step).bans → length flags ≡ length failed →
        ((leaf : ℕ) (old : Bool) → leaf < length failed → slice_get failed leaf ≡ Some old → slice_get flags leaf ≡ Some (next_failed (state_at w history k) leaf old step)) →
        IsPast w (take (k + 1) history) later flags
    by_step step e later flags bans_are count told = then later flags
        (bans_are ∙ ap (λ (st : Step). (next_state w (state_at w history k) st).bans) (sym e)) count
        (λ leaf within is. told leaf (has_failed w (take k history) leaf) within is ∙ ap (λ (st : Step). Some (next_failed (state_at w history k) leaf (has_failed w (take k history) leaf) st)) (sym e))

    kept : (step : Step) → entry.step ≡ step → (later : List (ℕ × ℕ)) → later ≡ (next_state w (state_at w history k) step).bans →
        ((leaf : ℕ) (old : Bool) → next_failed (state_at w history k) leaf old step ≡ old) → IsPast w (take (k + 1) history) later failed
    kept step e later bans_are same = by_step step e later failed bans_are refl (λ leaf old within is. is ∙ ap Some (sym (same leaf old)))

    put : (step : Step) → entry.step ≡ step → (later : List (ℕ × ℕ)) → later ≡ (next_state w (state_at w history k) step).bans → (place : ℕ) (flag : Bool) →
        ((leaf : ℕ) (old : Bool) → next_failed (state_at w history k) leaf old step ≡ cond (nat_eq place leaf) flag old) → IsPast w (take (k + 1) history) later (set failed place flag)
    put step e later bans_are place flag is = by_step step e later (set failed place flag) bans_are (length-set failed place flag)
        (λ leaf old within told. flag_put failed place flag old leaf within told ∙ ap Some (sym (is leaf old)))

    long : length trail ≡ length (state_at w history k).journal
    long = sym (length-map trail leaf_done) ∙ ap length trailed.leaves

    past_next : IsPast w (take (k + 1) history)
        (next_bans (leaf_of_claim (state_of w history)) trail bans entry.step) (next_flags (leaf_of_claim (state_of w history)) failed entry.step)
    past_next = go entry.step refl
      where
        go : (step : Step) → entry.step ≡ step → IsPast w (take (k + 1) history) (next_bans (leaf_of_claim (state_of w history)) trail bans step) (next_flags (leaf_of_claim (state_of w history)) failed step)
        go (Took claim leaf) e = put (Took claim leaf) e bans past.bans_are leaf false (λ n old. refl)
        go (Done claim) e = kept (Done claim) e bans past.bans_are (λ n old. refl)
        go (Failed claim Switched) e =
            let leaf = its_leaf claim Switched e in
            put (Failed claim Switched) e (bans ++ (length trail, leaf_of_claim (state_of w history) claim) ∷ [])
            (λ i. past.bans_are i ++ (long i, leaf i) ∷ []) (leaf_of_claim (state_of w history) claim) true
            (λ n old. ap (λ l. cond (nat_eq l n) true old) (sym leaf))
        go (Failed claim Kept) e =
            let leaf = its_leaf claim Kept e in
            put (Failed claim Kept) e bans past.bans_are (leaf_of_claim (state_of w history) claim) true (λ n old. ap (λ l. cond (nat_eq l n) true old) (sym leaf))
        go (Late claim) e = kept (Late claim) e bans past.bans_are (λ n old. refl)
        go (Did leaf) e = kept (Did leaf) e bans past.bans_are (λ n old. refl)
        go (Rewound index) e = kept (Rewound index) e (filter (λ ban. nat_le ban.0 index) bans ++ (index, leaf_at trail index) ∷ [])
            (λ i. filter (λ ban. nat_le ban.0 index) (past.bans_are i) ++ (index, get_or (trailed.leaves i) index 0) ∷ []) (λ n old. refl)
        go Committed e = kept Committed e bans past.bans_are (λ n old. refl)

    -- as the leaves of claims are told by number
    pub noted : (leaves : List ℕ) → leaves ≡ leaves_given history → (later : List (ℕ × ℕ)) (flags : List Bool) →
        later ≡ next_bans (leaf_numbered leaves) trail bans entry.step → flags ≡ next_flags (leaf_numbered leaves) failed entry.step → IsPast w (take (k + 1) history) later flags
    noted leaves given later flags a b =
        let same = leaves_told w limit history legal sound leaves given in
        subst (λ l. IsPast w (take (k + 1) history) l flags) (sym (a ∙ (λ i. next_bans (λ n. same n i) trail bans entry.step)))
        (subst (IsPast w (take (k + 1) history) _) (sym (b ∙ (λ i. next_flags (λ n. same n i) failed entry.step))) past_next)

pub past_all : (w : Schema) (history : List Entry) (k : ℕ) (bans : List (ℕ × ℕ)) (failed : List Bool) → k ≡ length history → IsPast w (take k history) bans failed → IsPast w history bans failed
past_all w history k bans failed all past = subst (λ h. IsPast w h bans failed) (take_all k history (omega arith)) past
