-- The entries that put the leaves on the journal, an entry at a time.
use Rattle.std.proofs.Common.{◌≡◌, ◌<◌, ◌≤◌, ◌+◌, ℕ, zero, suc, inl, inr, ⊎_elim, IsTrue, List, [], ◌∷◌, ◌++◌, length, map, take, drop, Some, None, slice_get, refl, sym, ap, subst, ◌∙◌, arith, append-nil, append_assoc, take-append-drop, ◌==◌, le_refl}
use Rattle.std.proofs.lemmas.Bool.{cases_lt, eqb-true}
use Rattle.std.proofs.lemmas.List.{length-map, map-append, take-map, length_push, get_or_append_left, take_all}
use Rattle.std.proofs.lemmas.Option.{slice_get_within}
use Rattle.flow_model.specs.declared.history.Entry.{Entry}
use Rattle.flow_model.specs.declared.history.Step.{Step}
use Rattle.flow_model.specs.declared.history.Step.TheVariants.{Took, Done, Failed, Late, Did, Rewound, Committed}
use Rattle.flow_model.specs.declared.history.FailEffect.TheVariants.{Switched, Kept}
use Rattle.flow_model.specs.Lists.{◌∈◌, Begins, numbers_from}
use Rattle.flow_model.specs.Schema.{Schema}
use Rattle.flow_model.specs.Takers.{Taking, Takings, takings_of, takings_after, next_takings}
use Rattle.flow_model.specs.Run.{Claim, RunState, leaf_of_claim, claim_at, is_current, IsCurrent, next_state, state_of, IsAllowed, IsLegal}
use Rattle.flow_model.proofs.MadeLists.{mem-map, of_find, numbers_from_below}
use Rattle.flow_laws.specs.Histories.{IsSound}
use Rattle.flow_laws.proofs.ClaimLemmas.{number_of, some_claim, claim_in}
use Rattle.flow_duty_laws.proofs.Claims.{those_leaves}
use Rattle.flow_duty_laws.proofs.Kept.{those_of, takings_after-append}
use Rattle.flow_standing.specs.declared.trail.Doing.{Doing}
use Rattle.flow_standing.specs.Trail.{doing_by, IsMade, length_after, StandsAt, AreDoings}
use Rattle.flow_standing.specs.Following.{state_at, leaves_given, leaf_numbered, leaf_done, IsTrail, next_trail}
use Rattle.flow_standing.proofs.Fronts.{state_next, allowed_at, leaf_of, leaf_by_number}
use Rattle.flow_standing.proofs.Places.{of_push, of_take}

-- the takings of later histories are more
given_next : (t : Takings) (by : ℕ) (step : Step) → (more : List Taking) × ((next_takings t by step).given ≡ t.given ++ more)
given_next t by (Took claim leaf) = (record { claim = claim; leaf = leaf; taker = by } ∷ [], refl)
given_next t by (Done claim) = ([], sym (append-nil t.given))
given_next t by (Failed claim effect) = ([], sym (append-nil t.given))
given_next t by (Late claim) = ([], sym (append-nil t.given))
given_next t by (Did leaf) = ([], sym (append-nil t.given))
given_next t by (Rewound index) = ([], sym (append-nil t.given))
given_next t by Committed = ([], sym (append-nil t.given))

given_more : (t : Takings) (entries : List Entry) → (more : List Taking) × ((takings_after t entries).given ≡ t.given ++ more)
given_more t [] = ([], sym (append-nil t.given))
given_more t (e ∷ entries) =
    let (first, a) = given_next t e.by e.step in
    let (more, b) = given_more (next_takings t e.by e.step) entries in
    (first ++ more, b ∙ ap (λ g. g ++ more) a ∙ append_assoc t.given first more)

leaf_more : (leaves more : List ℕ) (n : ℕ) → n ≤ length leaves → leaf_numbered (leaves ++ more) n ≡ leaf_numbered leaves n
leaf_more leaves more zero l = refl
leaf_more leaves more (suc i) l = get_or_append_left leaves more 0 i (omega arith)

pub no_trail : (w : Schema) (history : List Entry) → IsTrail w history 0 []
no_trail w history = record { leaves = refl; each = λ index doing e. absurd (none index doing e) }
  where
    none : (index : ℕ) (doing : Doing) → slice_get [] index ≡ Some doing → ⊥
    none index doing e = cc

module _ (w : Schema) (limit : ℕ) (history : List Entry) (legal : IsLegal w limit history) (sound : (front : List Entry) → Begins history front → IsSound w (state_of w front)) where
  pub sound_at : (k : ℕ) → IsSound w (state_at w history k)
  sound_at k = sound (take k history) (drop k history, sym (take-append-drop k history))

  pub sound_end : IsSound w (state_of w history)
  sound_end = sound history ([], sym (append-nil history))

  -- the leaves of the claims of a history begin with those of its fronts
  pub leaves_more : (k : ℕ) → (more : List ℕ) × (map leaf_of (state_of w history).claims ≡ map leaf_of (state_at w history k).claims ++ more)
  leaves_more k =
      let (more, is) = given_more (takings_of (take k history)) (drop k history) in
      let whole : (takings_of history).given ≡ (takings_of (take k history)).given ++ more =
      ap (λ h. (takings_of h).given) (sym (take-append-drop k history)) ∙ ap (λ (t : Takings). t.given) (takings_after-append _ (take k history) (drop k history)) ∙ is in (
        map (λ (t : Taking). t.leaf) more,
        sym (those_leaves (λ n. n) (state_of w history).claims (takings_of history).given (those_of w history))
            ∙ ap (λ g. map (λ (t : Taking). t.leaf) g) whole ∙ map-append (λ (t : Taking). t.leaf) (takings_of (take k history)).given more
            ∙ ap (λ l. l ++ map (λ (t : Taking). t.leaf) more) (those_leaves (λ n. n) (state_at w history k).claims (takings_of (take k history)).given (those_of w (take k history))),
      )

  -- so a claim keeps its leaf
  pub leaf_stays : (k claim : ℕ) → claim ≤ length (state_at w history k).claims → leaf_of_claim (state_of w history) claim ≡ leaf_of_claim (state_at w history k) claim
  leaf_stays k claim given =
      let (more, is) = leaves_more k in
      leaf_by_number (state_of w history) claim sound_end.numbered ∙ ap (λ l. leaf_numbered l claim) is
      ∙ leaf_more (map leaf_of (state_at w history k).claims) more claim (omega (arith, length-map (state_at w history k).claims leaf_of))
      ∙ sym (leaf_by_number (state_at w history k) claim (sound_at k).numbered)

  pub current_given : (k claim : ℕ) → IsCurrent (state_at w history k) claim → claim ≤ length (state_at w history k).claims
  current_given k claim current =
      let s = state_at w history k in
      let (c, found, told) = some_claim (λ (c : Claim). IsTrue (is_current s c)) (claim_at s claim) current in
      let there : c ∈ s.claims = claim_in s.claims claim c found in
      let numbered : c.number ∈ numbers_from 1 (length s.claims) = subst (λ l. c.number ∈ l) (sound_at k).numbered (mem-map number_of c s.claims there) in
      let is : c.number ≡ claim = eqb-true c.number claim (of_find (λ (x : Claim). x.number == claim) s.claims c found).1 in
      omega (arith, numbers_from_below 1 (length s.claims) c.number numbered)

  module _ (k : ℕ) (entry : Entry) (at : slice_get history k ≡ Some entry) (trail : List Doing) (is : IsTrail w history k trail) where
    here : length trail ≡ length_after w history k
    here = sym (length-map trail leaf_done) ∙ ap length is.leaves

    -- what stood there stands there still
    stands_on : (q : ℕ) (x : Doing) → slice_get trail q ≡ Some x → q < length_after w history (k + 1) → StandsAt w history (k + 1) q x
    stands_on q x e long =
        let old = is.each q x e in
        let before : x.place < k = old.before in record {
          before = omega arith;
          made = old.made;
          index_is = old.index_is;
          stood = λ j after upto. elim (cases_lt k j) [
            | inl l ↦ (let last : j ≡ k + 1 = omega arith in
                subst (λ n. length_after w history x.place < length_after w history n) (sym last) (omega (arith, old.index_is, long)))
            | inr l ↦ old.stood j after l
          ];
        }

    kept : (state_at w history (k + 1)).journal ≡ (state_at w history k).journal → IsTrail w history (k + 1) trail
    kept same = record {
      leaves = is.leaves ∙ sym same;
      each = λ q x e. let within : q < length trail = slice_get_within trail q x e in stands_on q x e (omega (arith, here, ap length same));
    }

    cut : (index : ℕ) → (state_at w history (k + 1)).journal ≡ take index (state_at w history k).journal → IsTrail w history (k + 1) (take index trail)
    cut index same =
        let leaves : map leaf_done (take index trail) ≡ (state_at w history (k + 1)).journal = sym (take-map leaf_done index trail) ∙ ap (take index) is.leaves ∙ sym same in record {
          leaves = leaves;
          each = λ q x e.
              let within : q < length (take index trail) = slice_get_within (take index trail) q x e in
              let long : length (take index trail) ≡ length_after w history (k + 1) = sym (length-map (take index trail) leaf_done) ∙ ap length leaves in
              stands_on q x (of_take index trail q x e).0 (omega arith);
        }

    pushed : (new : Doing) → new.place ≡ k → IsMade w history new → (state_at w history (k + 1)).journal ≡ (state_at w history k).journal ++ new.leaf ∷ [] →
        IsTrail w history (k + 1) (trail ++ new ∷ [])
    pushed new place made grown =
        let longer : length_after w history (k + 1) ≡ length_after w history k + 1 = ap length grown ∙ length_push (state_at w history k).journal new.leaf in record {
          leaves = map-append leaf_done trail (new ∷ []) ∙ ap (λ l. l ++ new.leaf ∷ []) is.leaves ∙ sym grown;
          each = λ q x e. ⊎_elim
              (λ old. let within : q < length trail = slice_get_within trail q x old in stands_on q x old (omega (arith, here)))
              (λ new_one. subst (λ (y : Doing). StandsAt w history (k + 1) q y) new_one.1 (record {
                before = omega (arith, place);
                made = made;
                index_is = ap (length_after w history) place ∙ sym here ∙ sym new_one.0;
                stood = λ j after upto.
                    let last : j ≡ k + 1 = omega (arith, place) in
                    subst (λ n. length_after w history new.place < length_after w history n) (sym last)
                    (subst (λ n. length_after w history n < length_after w history (k + 1)) (sym place) (omega arith));
              }))
              (of_push trail new x q e);
        }

    -- after the entry
    pub trail_next : IsTrail w history (k + 1) (next_trail (leaf_of_claim (state_of w history)) trail k entry.by entry.step)
    trail_next = go entry.step refl
      where
        after : (step : Step) → entry.step ≡ step → (state_at w history (k + 1)).journal ≡ (next_state w (state_at w history k) step).journal
        after step e = ap (λ (s : RunState). s.journal) (state_next w history k entry at) ∙ ap (λ (st : Step). (next_state w (state_at w history k) st).journal) e

        go : (step : Step) → entry.step ≡ step → IsTrail w history (k + 1) (next_trail (leaf_of_claim (state_of w history)) trail k entry.by step)
        go (Took claim leaf) e = kept (after (Took claim leaf) e)
        go (Done claim) e =
            let current : IsCurrent (state_at w history k) claim = subst (IsAllowed w (state_at w history k)) e (allowed_at w limit history legal k entry at) in
            let stays = leaf_stays k claim (current_given k claim current) in
            let new : Doing = record { leaf = leaf_of_claim (state_of w history) claim; claim = Some claim; by = entry.by; place = k } in
            pushed new refl (entry, at, ap (doing_by (leaf_of_claim (state_of w history)) k entry.by) e)
            (after (Done claim) e ∙ ap (λ n. (state_at w history k).journal ++ n ∷ []) (sym stays))
        go (Failed claim Switched) e = kept (after (Failed claim Switched) e)
        go (Failed claim Kept) e = kept (after (Failed claim Kept) e)
        go (Late claim) e = kept (after (Late claim) e)
        go (Did leaf) e =
            let new : Doing = record { leaf = leaf; claim = None; by = entry.by; place = k } in
            pushed new refl (entry, at, ap (doing_by (leaf_of_claim (state_of w history)) k entry.by) e) (after (Did leaf) e)
        go (Rewound index) e = cut index (after (Rewound index) e)
        go Committed e = kept (after Committed e)

  -- the leaves of claims, as they are told by number
  pub leaves_told : (leaves : List ℕ) → leaves ≡ leaves_given history → (n : ℕ) → leaf_numbered leaves n ≡ leaf_of_claim (state_of w history) n
  leaves_told leaves is n =
      ap (λ l. leaf_numbered l n) (is ∙ those_leaves (λ n. n) (state_of w history).claims (takings_of history).given (those_of w history))
      ∙ sym (leaf_by_number (state_of w history) n sound_end.numbered)

  -- what is followed by them
  pub followed : (k : ℕ) (entry : Entry) → slice_get history k ≡ Some entry → (trail : List Doing) → IsTrail w history k trail → (leaves : List ℕ) → leaves ≡ leaves_given history →
      (next : List Doing) → next ≡ next_trail (leaf_numbered leaves) trail k entry.by entry.step → IsTrail w history (k + 1) next
  followed k entry at trail is leaves given next told =
      subst (IsTrail w history (k + 1)) (sym (told ∙ (λ i. next_trail (λ n. leaves_told leaves given n i) trail k entry.by entry.step))) (trail_next k entry at trail is)

  -- after all entries
  pub trail_end : (trail : List Doing) → IsTrail w history (length history) trail → AreDoings w history trail
  trail_end trail is = record { leaves = is.leaves ∙ ap (λ h. (state_of w h).journal) (take_all (length history) history (le_refl (length history))); each = is.each }

  pub trail_all : (k : ℕ) (trail : List Doing) → k ≡ length history → IsTrail w history k trail → AreDoings w history trail
  trail_all k trail all is = trail_end trail (subst (λ n. IsTrail w history n trail) all is)
