-- Each entry that may be made keeps the state sound.
use Rattle.std.proofs.Common.{◌≡◌, ℕ, zero, suc, true, List, [], ◌∷◌, ◌++◌, is_some, MatchOption, slice_get, Option, Some, None, sym, true≢false, ◌+◌, ◌<◌, ◌≤◌, false, not, ◌&&◌, nat_le, nat_lt, IsTrue, map, length, take, drop, filter, slice_index, refl, ap, ◌∙◌, subst, append_assoc, length-append, take-append-drop, arith, le_refl, append-nil, ◌⊎◌, inl, inr, ⊎_elim}
use Rattle.std.proofs.lemmas.Bool.{eq-eqb, leb-true}
use Rattle.std.proofs.lemmas.List.{length-take-le, length-map, map-append}
use Rattle.std.proofs.lemmas.List.Elements.{filter-append}
use Rattle.flow_model.specs.declared.labels.Label.{Label}
use Rattle.flow_model.specs.declared.labels.Label.TheVariants.{Test, Absent}
use Rattle.flow_model.specs.declared.history.Entry.{Entry}
use Rattle.flow_model.specs.declared.history.Step.{Step}
use Rattle.flow_model.specs.declared.history.Step.TheVariants.{Took, Done, Failed, Late, Did, Rewound, Committed}
use Rattle.flow_model.specs.declared.history.FailEffect.TheVariants.{Switched, Kept}
use Rattle.flow_model.specs.Lists.{Each, ◌∈◌, AreDistinct, Begins, IsOrderOf, numbers_from}
use Rattle.flow_model.specs.Facts.{State, Holds, HoldsAt, after_leaf, replay, Runs, event_in}
use Rattle.flow_model.specs.Schema.{Schema, IsEventLeaf, start_of}
use Rattle.flow_model.specs.Resolution.{ChoiceOption, options}
use Rattle.flow_model.specs.Run.{Claim, RunState, first_state, current_leaves, is_current, claim_at, leaf_of_claim, IsCurrent, IsLapsed, database, IsFree, MayFollow, MayAllFollow, CanTake, CanDo, IsOpen, IsAllowed, answer, spare, with_new_epoch, next_state, state_after, IsLegalFrom}
use Rattle.flow_laws.specs.Histories.{NeverWaits, IsSound}
use Rattle.flow_laws.specs.WellFormed.{IsWellFormed, IsConsistent}
use Rattle.flow_model.proofs.Lists.{each-append, each_to, each_member}
use Rattle.flow_model.proofs.MadeLists.{distinct-numbers_from, begins_front, each-filter, order_with_last, numbers_from_more}
use Rattle.flow_model.specs.Decided.{order_of_none}
use Rattle.flow_laws.proofs.OptionsLemmas.{option_of_good}
use Rattle.flow_laws.proofs.ClaimLemmas.{number_of, leaf_of, is_of, answer_keeps, numbers-answer, taken_out, none_taken_out, leaf_of_claim_is, some_claim, lapsed_is_not_current, claim_in, spare_keeps, numbers-spare, spared_are_current, spared_may_follow}

pub runs-append : (labels : List Label) (s : State) (a b : List ℕ) → Runs labels s a → Runs labels (replay labels s a) b → Runs labels s (a ++ b)
runs-append labels s [] b ha hb = hb
runs-append labels s (n ∷ a) b (h, ha) hb = (h, runs-append labels (after_leaf labels s n) a b ha hb)

pub runs_front : (labels : List Label) (s : State) (a b : List ℕ) → Runs labels s (a ++ b) → Runs labels s a
runs_front labels s [] b h = tt
runs_front labels s (n ∷ a) b (h, t) = (h, runs_front labels (after_leaf labels s n) a b t)

-- the event of the label, if there is one
abbrev pub event_if : Option Label → Option ℕ
event_if None = None
event_if (Some label) = event_in label

-- a label that is an event's, or neither a test nor an absence, holds always
holds_freely : (s : State) (label : Label) → NeverWaits label ⊎ (is_some (event_in label) ≡ true) → Holds s label
holds_freely s (Test f) h = ⊎_elim absurd (λ e. absurd (true≢false (sym e))) h
holds_freely s (Absent f) h = ⊎_elim absurd (λ e. absurd (true≢false (sym e))) h
holds_freely s other h = tt

-- an event may be performed in every state
pub event_holds : (w : Schema) (s : State) (n : ℕ) → IsEventLeaf w n → HoldsAt w.labels s n
event_holds w s n h = holds (slice_get w.labels n) h
  where
    holds : (o : Option Label) → is_some (event_if o) ≡ true → MatchOption o (Unit {0}) (Holds s)
    holds None h = tt
    holds (Some label) h = holds_freely s label (inr h)

pub always_holds : (labels : List Label) → Each NeverWaits labels → (s : State) (n : ℕ) → HoldsAt labels s n
always_holds [] h s n = tt
always_holds (label ∷ labels) (h, t) s zero = holds_freely s label (inl h)
always_holds (label ∷ labels) (h, t) s (suc n) = always_holds labels t s n

-- A good execution that goes on from the journal

-- in some option these leaves may follow, as they do in a free execution
pub free_may_follow : (w : Schema) → IsWellFormed w → (s : RunState) (t these : List ℕ) → IsFree w s t → Begins t (s.journal ++ these) →
    (o : ChoiceOption) × (o ∈ options w) × ((next : List ℕ) → next ≡ these → MayFollow w s o next)
free_may_follow w f s t these free begins =
    let (o, m, trace) = option_of_good w f t free.0 in
    (o, m, λ next e. (t, trace, free, subst (λ l. Begins t (s.journal ++ l)) (sym e) begins))

-- where none is to follow, one free execution will do
none_may_follow : (w : Schema) → IsWellFormed w → (s : RunState) (t : List ℕ) → IsFree w s t → MayAllFollow w s []
none_may_follow w f s t free =
    let (o, m, follows) = free_may_follow w f s t [] free (rw append-nil free.1) in (o, m, λ order p. follows order (order_of_none order p))

-- the claims of a sound state
record AreSoundClaims (w : Schema) (epoch : ℕ) (claims : List Claim) : Type 0 where
  numbered : map number_of claims ≡ numbers_from 1 (length claims)
  on_events : Each (λ (claim : Claim). IsEventLeaf w claim.leaf) claims
  epochs : Each (λ (claim : Claim). claim.epoch ≤ epoch) claims

sound_claims : (w : Schema) (s : RunState) → IsSound w s → AreSoundClaims w s.epoch s.claims
sound_claims w s h = record { numbered = h.numbered; on_events = h.on_events; epochs = h.epochs }

sound_with : (w : Schema) (s : RunState) → Runs w.labels (start_of w) s.journal → Each (λ ban. ban.0 ≤ length s.journal) s.bans →
    AreSoundClaims w s.epoch s.claims → MayAllFollow w s (current_leaves s) → IsSound w s
sound_with w s runs bans h extends =
    record { runs = runs; bans = bans; numbered = h.numbered; on_events = h.on_events; epochs = h.epochs; extends = extends }

pub first_is_kept : (w : Schema) → IsWellFormed w → IsConsistent w → IsSound w first_state
first_is_kept w f (t, good) = sound_with w first_state tt tt (record { numbered = refl; on_events = tt; epochs = tt })
    (none_may_follow w f first_state t (good, (t, refl), tt))

-- What an answer keeps

answered_claims : (w : Schema) (epoch : ℕ) (claims : List Claim) → AreSoundClaims w epoch claims → (number : ℕ) →
    AreSoundClaims w epoch (answer number claims)
answered_claims w epoch claims h number = record {
  numbered = numbers-answer number claims ∙ (h.numbered ∙ ap (numbers_from 1) (sym (length-map claims _)));
  on_events = answer_keeps (λ (claim : Claim). IsEventLeaf w claim.leaf) (λ claim k. k) number claims h.on_events;
  epochs = answer_keeps (λ (claim : Claim). claim.epoch ≤ epoch) (λ claim k. k) number claims h.epochs;
}

distinct_numbers : (s : RunState) → map number_of s.claims ≡ numbers_from 1 (length s.claims) → AreDistinct (map number_of s.claims)
distinct_numbers s e = subst AreDistinct (sym e) (distinct-numbers_from 1 (length s.claims))

-- a current claim: its leaf among the current ones, and those without it
pub record IsTaken (s : RunState) (number : ℕ) : Type 0 where
  pub front : List ℕ
  pub back : List ℕ
  pub whole : current_leaves s ≡ front ++ leaf_of_claim s number ∷ back
  pub left : map leaf_of (filter (is_of s.epoch) (answer number s.claims)) ≡ front ++ back
  pub claim : Claim
  pub given : claim ∈ s.claims
  pub on_leaf : leaf_of_claim s number ≡ claim.leaf

pub taken_of_current : (w : Schema) (s : RunState) → IsSound w s → (number : ℕ) → IsCurrent s number → IsTaken s number
taken_of_current w s h number current =
    let (claim, e, k) = some_claim (λ claim. IsTrue (is_current s claim)) (claim_at s number) current in
    let (a, b, i, j) = taken_out s.epoch number s.claims claim (distinct_numbers s h.numbered) e k in
    record {
      front = a;
      back = b;
      whole = i ∙ ap (λ n. a ++ n ∷ b) (sym (leaf_of_claim_is s number claim e));
      left = j;
      claim = claim;
      given = claim_in s.claims number claim e;
      on_leaf = leaf_of_claim_is s number claim e;
    }

-- The journal with one more leaf

pub longer_bans : (journal : List ℕ) (leaf : ℕ) (bans : List (ℕ × ℕ)) → Each (λ ban. ban.0 ≤ length journal) bans →
    Each (λ ban. ban.0 ≤ length (journal ++ leaf ∷ [])) bans
longer_bans journal leaf bans h = each_to (λ (ban : ℕ × ℕ). ban.0 ≤ length journal) _ bans (λ ban k. omega (arith, k, length-append journal (leaf ∷ []))) h

pub follow_after : (w : Schema) (s : RunState) (o : ChoiceOption) (leaf : ℕ) (claims : List Claim) (more : List ℕ) →
    MayFollow w s o (leaf ∷ more) → MayFollow w (record s { journal = s.journal ++ leaf ∷ []; claims = claims }) o more
follow_after w s o leaf claims more (t, trace, free, (rest, e)) =
    let begins : Begins t ((s.journal ++ leaf ∷ []) ++ more) = (rest, e ∙ ap (λ w. w ++ rest) (sym (append_assoc s.journal (leaf ∷ []) more))) in
    (t, trace, (free.0, begins_front t (s.journal ++ leaf ∷ []) more begins, free.2), begins)

-- A new epoch

-- all but its claims is sound, and some free execution goes on
kept_new_epoch : (w : Schema) → IsWellFormed w → (s : RunState) → Runs w.labels (start_of w) s.journal →
    Each (λ ban. ban.0 ≤ length s.journal) s.bans → AreSoundClaims w s.epoch s.claims →
    (t : List ℕ) → IsFree w s t → IsSound w (with_new_epoch w s)
kept_new_epoch w f s runs bans h t free =
    let numbers = numbers-spare w s [] s.claims in
    let count : length s.claims ≡ length (spare w s [] s.claims) =
    omega (arith, ap length numbers, length-map s.claims number_of, length-map (spare w s [] s.claims) number_of) in
    let claims : AreSoundClaims w (s.epoch + 1) (spare w s [] s.claims) = record {
      numbered = numbers ∙ (h.numbered ∙ ap (numbers_from 1) count);
      on_events = spare_keeps (λ (claim : Claim). IsEventLeaf w claim.leaf) w s (λ claim k. k) [] s.claims h.on_events;
      epochs = spare_keeps (λ (claim : Claim). claim.epoch ≤ s.epoch + 1) w s (λ claim k. le_refl (s.epoch + 1)) [] s.claims
          (each_to (λ (claim : Claim). claim.epoch ≤ s.epoch) _ s.claims (λ claim k. omega arith) h.epochs);
    } in
    sound_with w (with_new_epoch w s) runs bans claims
    (subst (MayAllFollow w s) (sym (spared_are_current w s [] s.claims h.epochs)) (spared_may_follow w s [] s.claims (none_may_follow w f s t free)))

-- Row by row

pub kept_took : (w : Schema) (s : RunState) → IsSound w s → (claim leaf : ℕ) → claim ≡ length s.claims + 1 → CanTake w s leaf →
    IsSound w (next_state w s (Took claim leaf))
kept_took w s h claim leaf e (event, unclaimed, (o, m, follow)) =
    let new : Claim = record { number = claim; leaf = leaf; epoch = s.epoch; answered = false } in
    let count : suc (length s.claims) ≡ length (s.claims ++ new ∷ []) = omega (arith, length-append s.claims (new ∷ [])) in
    let next : claim ≡ 1 + length s.claims = omega arith in
    let now : current_leaves (next_state w s (Took claim leaf)) ≡ current_leaves s ++ leaf ∷ [] =
    rw (filter-append (is_of s.epoch) s.claims (new ∷ []), map-append leaf_of (filter (is_of s.epoch) s.claims), eq-eqb s.epoch s.epoch refl) refl in
    let claims : AreSoundClaims w s.epoch (s.claims ++ new ∷ []) = record {
      numbered = rw (map-append number_of s.claims (new ∷ []), h.numbered, ← count, numbers_from_more 1 (length s.claims), ← next) refl;
      on_events = each-append _ s.claims (new ∷ []) h.on_events (event, tt);
      epochs = each-append _ s.claims (new ∷ []) h.epochs (le_refl s.epoch, tt);
    } in
    sound_with w (next_state w s (Took claim leaf)) h.runs h.bans claims (o, m, λ order p. follow order (subst (IsOrderOf order) now p))

pub kept_done : (w : Schema) (s : RunState) → IsSound w s → (claim : ℕ) → IsCurrent s claim → IsSound w (next_state w s (Done claim))
kept_done w s h claim current =
    let leaf = leaf_of_claim s claim in
    let taken = taken_of_current w s h claim current in
    let event : IsEventLeaf w leaf = rw taken.on_leaf (each_member (λ (claim : Claim). IsEventLeaf w claim.leaf) s.claims h.on_events taken.claim taken.given) in
    let (o, m, follow) = h.extends in
    let next = λ (order : List ℕ) (p : IsOrderOf order (current_leaves (next_state w s (Done claim)))).
    follow_after w s o leaf (answer claim s.claims) order (follow (leaf ∷ order) (taken.front, taken.back, taken.whole, subst (IsOrderOf order) taken.left p)) in
    sound_with w (next_state w s (Done claim))
    (runs-append w.labels (start_of w) s.journal (leaf ∷ []) h.runs (event_holds w (database w s) leaf event, tt))
    (longer_bans s.journal leaf s.bans h.bans) (answered_claims w s.epoch s.claims (sound_claims w s h) claim) (o, m, next)

pub kept_failed : (w : Schema) (s : RunState) → IsSound w s → (claim : ℕ) → IsCurrent s claim → IsSound w (next_state w s (Failed claim Kept))
kept_failed w s h claim current =
    let leaf = leaf_of_claim s claim in
    let taken = taken_of_current w s h claim current in
    let (o, m, follow) = h.extends in
    sound_with w (next_state w s (Failed claim Kept)) h.runs h.bans (answered_claims w s.epoch s.claims (sound_claims w s h) claim) (
      o,
      m,
      λ order p.
          let (t, trace, free, (rest, e)) = follow (order ++ leaf ∷ []) (rw taken.whole
          (order_with_last order leaf taken.front taken.back (subst (IsOrderOf order) taken.left p))) in
          (t, trace, free, begins_front t (s.journal ++ order) (leaf ∷ []) (rest, rw (append_assoc s.journal order (leaf ∷ [])) e)),
    )

pub kept_switched : (w : Schema) → IsWellFormed w → (s : RunState) → IsSound w s → (claim : ℕ) →
    (t : List ℕ) × IsFree w s t × ¬ (leaf_of_claim s claim ∈ t) → IsSound w (next_state w s (Failed claim Switched))
kept_switched w f s h claim (t, free, lacks) =
    let ban : ℕ × ℕ = (length s.journal, leaf_of_claim s claim) in
    kept_new_epoch w f (record s { bans = s.bans ++ ban ∷ []; claims = answer claim s.claims }) h.runs
    (each-append _ s.bans (ban ∷ []) h.bans (le_refl (length s.journal), tt)) (answered_claims w s.epoch s.claims (sound_claims w s h) claim)
    t (free.0, free.1, each-append _ s.bans (ban ∷ []) free.2 (lacks, tt))

pub kept_late : (w : Schema) (s : RunState) → IsSound w s → (claim : ℕ) → IsLapsed s claim → IsSound w (next_state w s (Late claim))
kept_late w s h number lapsed =
    let (claim, e, k) = some_claim (λ claim. IsTrue (not claim.answered && nat_lt claim.epoch s.epoch)) (claim_at s number) lapsed in
    let same = none_taken_out s.epoch number s.claims claim (distinct_numbers s h.numbered) e (lapsed_is_not_current s.epoch claim k) in
    sound_with w (next_state w s (Late number)) h.runs h.bans (answered_claims w s.epoch s.claims (sound_claims w s h) number)
    (subst (MayAllFollow w s) (sym (ap (map leaf_of) same)) h.extends)

pub kept_did : (w : Schema) (s : RunState) → IsSound w s → (leaf : ℕ) → CanDo w s leaf → IsSound w (next_state w s (Did leaf))
kept_did w s h leaf ((other, (o, m, follow)), holds) =
    sound_with w (next_state w s (Did leaf)) (runs-append w.labels (start_of w) s.journal (leaf ∷ []) h.runs (holds, tt))
    (longer_bans s.journal leaf s.bans h.bans) (sound_claims w s h) (o, m, λ order p. follow_after w s o leaf s.claims order (follow order p))

pub kept_rewound : (w : Schema) → IsWellFormed w → (s : RunState) → IsSound w s → (i : ℕ) → IsOpen w s i → IsSound w (next_state w s (Rewound i))
kept_rewound w f s h i (below, (t, good, begins, unbanned, lacks)) =
    let left = filter (λ ban. nat_le ban.0 i) s.bans in
    let here : ℕ × ℕ = (i, slice_index s.journal i) in
    let long : length (take i s.journal) ≡ i = length-take-le i s.journal (omega arith) in
    let bans = each-append (λ (ban : ℕ × ℕ). ban.0 ≤ length (take i s.journal)) left (here ∷ [])
    (each-filter _ _ (λ (ban : ℕ × ℕ). nat_le ban.0 i) s.bans (λ ban k _. rw long (leb-true ban.0 i k)) h.bans) (rw long (le_refl i), tt) in
    kept_new_epoch w f (record s { journal = take i s.journal; bans = left ++ here ∷ [] })
    (runs_front w.labels (start_of w) (take i s.journal) (drop i s.journal) (rw (take-append-drop i s.journal) h.runs)) bans (sound_claims w s h) t (
      good,
      begins,
      each-append _ left (here ∷ [])
          (each-filter _ _ (λ (ban : ℕ × ℕ). nat_le ban.0 i) s.bans (λ ban k none. none (leb-true ban.0 i k)) unbanned)
          (lacks, tt),
    )

pub kept_next : (w : Schema) → IsWellFormed w → (s : RunState) → IsSound w s → (step : Step) → IsAllowed w s step → IsSound w (next_state w s step)
kept_next w f s h (Took claim leaf) a = kept_took w s h claim leaf a.0 a.1
kept_next w f s h (Done claim) a = kept_done w s h claim a
kept_next w f s h (Failed claim Switched) a = kept_switched w f s h claim a.1
kept_next w f s h (Failed claim Kept) a = kept_failed w s h claim a.0
kept_next w f s h (Late claim) a = kept_late w s h claim a
kept_next w f s h (Did leaf) a = kept_did w s h leaf a
kept_next w f s h (Rewound i) a = kept_rewound w f s h i a.0
kept_next w f s h Committed a = sound_with w (next_state w s Committed) h.runs h.bans (sound_claims w s h) h.extends

pub kept_from : (w : Schema) → IsWellFormed w → (limit : ℕ) (s : RunState) (made : ℕ) → IsSound w s → (front later : List Entry) →
    IsLegalFrom w limit s made (front ++ later) → IsSound w (state_after w s front)
kept_from w f limit s made h [] later legal = h
kept_from w f limit s made h (entry ∷ front) later legal =
    kept_from w f limit (next_state w s entry.step) (made + 1) (kept_next w f s h entry.step legal.2) front later legal.3

-- a legal history is no longer than the limit
pub legal_length : (w : Schema) (limit : ℕ) (s : RunState) (made : ℕ) (history : List Entry) → IsLegalFrom w limit s made history → made ≤ limit → made + length history ≤ limit
legal_length w limit s made [] legal few = omega arith
legal_length w limit s made (entry ∷ history) legal few =
    let room : made < limit = legal.1 in
    let rest : made + 1 + length history ≤ limit = legal_length w limit (next_state w s entry.step) (made + 1) history legal.3 (omega arith) in
    omega arith
