-- Who has a leaf of an event took the last claim on it.
use Rattle.std.proofs.Common.{◌≡◌, ℕ, zero, suc, ◌+◌, Bool, true, false, List, [], ◌∷◌, ◌++◌, Some, None, if◌then◌else◌, map, filter, drop, slice_get, refl, sym, ap, ◌∙◌, subst, inl, inr, ⊎_elim, ◌⊎◌, arith, true≢false, append_assoc}
use Rattle.std.proofs.lemmas.Bool.{cases_Bool, ne_eqb}
use Rattle.std.proofs.lemmas.List.Elements.{filter_map-append}
use Rattle.flow_model.specs.declared.labels.Label.{Label}
use Rattle.flow_model.specs.declared.history.Entry.{Entry}
use Rattle.flow_model.specs.declared.history.Step.{Step}
use Rattle.flow_model.specs.declared.history.Step.TheVariants.{Took, Done, Failed, Late, Did, Rewound, Committed}
use Rattle.flow_model.specs.Lists.{◌∈◌, AreDistinct}
use Rattle.flow_model.specs.Facts.{event_at, is_event, events_of}
use Rattle.flow_model.specs.Schema.{Schema}
use Rattle.flow_model.specs.Run.{Claim, RunState, is_current, first_state, current_leaves, CanTake, MayAllFollow, IsAllowed, IsLegalFrom, IsLegal, next_state, state_of, state_after}
use Rattle.flow_laws.specs.Histories.{IsSound}
use Rattle.flow_laws.specs.WellFormed.{IsWellFormed, IsConsistent}
use Rattle.flow_model.proofs.Lists.{mem_append_left, mem_append_right, distinct_left, distinct_apart}
use Rattle.flow_model.proofs.MadeLists.{mem-filter_map, same_order, some_same}
use Rattle.flow_model.specs.Decided.{cons_same}
use Rattle.flow_laws.proofs.WaysLemmas.{event_from_test, test_of_event}
use Rattle.flow_laws.proofs.SoundStates.{kept_next, first_is_kept}
use Rattle.flow_model.specs.Takers.{Taking, Takings, no_takings, next_takings, takings_after, takings_of, IsOut, IsTakenBy}
use Rattle.flow_duty_laws.specs.TakerLaws.{last_on, LastClaimHasIt}
use Rattle.flow_duty_laws.proofs.Claims.{AreThose}
use Rattle.flow_duty_laws.proofs.Kept.{taking, WasTaken, taken_before, WasOut, out_before, still_out, those_next}

-- two leaves of one event do not both stand in a list of distinct events, one before the end and one there
not_twice : (labels : List Label) (list : List ℕ) (n m event : ℕ) → AreDistinct (events_of labels (list ++ m ∷ [])) → n ∈ list →
    event_at labels n ≡ Some event → event_at labels m ≡ Some event → ⊥
not_twice labels list n m event d there ne me =
    distinct_apart (events_of labels list) (events_of labels (m ∷ [])) (subst AreDistinct (filter_map-append (event_at labels) list (m ∷ [])) d) event
    (mem-filter_map (event_at labels) n event list there ne) (mem-filter_map (event_at labels) m event (m ∷ []) (inl refl) me)

-- what may all follow the journal has other events than the journal, each once
events_apart : (w : Schema) → IsWellFormed w → (s : RunState) (list : List ℕ) → MayAllFollow w s list → AreDistinct (events_of w.labels (s.journal ++ list))
events_apart w f s list (o, m, follows) =
    let (t, trace, free, (rest, e)) = follows list (same_order list) in
    let whole : AreDistinct (events_of w.labels ((s.journal ++ list) ++ rest)) = subst (λ l. AreDistinct (events_of w.labels l)) e (f.unique t free.0.0) in
    distinct_left (events_of w.labels (s.journal ++ list)) (events_of w.labels rest)
    (subst AreDistinct (filter_map-append (event_at w.labels) (s.journal ++ list) rest) whole)

leaf_among : (p : Claim → Bool) (claims : List Claim) (claim : Claim) → claim ∈ claims → p claim ≡ true → claim.leaf ∈ map (λ (c : Claim). c.leaf) (filter p claims)
leaf_among p [] claim m h = absurd m
leaf_among p (x ∷ xs) claim m h = grind (arith, cases_Bool (p x), m, h, leaf_among p xs claim)

-- the leaf of a claim that is out
out_leaf : (s : RunState) (number n : ℕ) → IsOut s number n → n ∈ current_leaves s
out_leaf s number n o = subst (λ l. l ∈ current_leaves s) o.leaf_is (leaf_among (is_current s) s.claims o.claim o.given o.current)

-- what is taken is done or under a claim
there_of : (s : RunState) (t : Takings) (n user : ℕ) → IsTakenBy s t n user → n ∈ (s.journal ++ current_leaves s)
there_of s t n user (inl (c, o, m)) = mem_append_right n s.journal (current_leaves s) (out_leaf s c n o)
there_of s t n user (inr (j, e)) = mem_append_left n s.journal (current_leaves s) j

last_more : (labels : List Label) (ts : List Taking) (t : Taking) (event : ℕ) →
    last_on labels (ts ++ t ∷ []) event ≡ (if is_event event (event_at labels t.leaf) then Some t else last_on labels ts event)
last_more labels [] t event = grind (arith, cases_Bool (is_event event (event_at labels t.leaf)))
last_more labels (u ∷ ts) t event = grind (arith, cases_Bool (is_event event (event_at labels t.leaf)), last_more labels ts t event)

-- by the events of all: no claim on the event has no last, and a claim with none on the event behind it is the last
pub none_on : (labels : List Label) (ts : List Taking) (events : List ℕ) (event : ℕ) → map (λ (t : Taking). event_at labels t.leaf) ts ≡ map Some events →
    ¬ (event ∈ events) → last_on labels ts event ≡ None
none_on labels [] events event same out = refl
none_on labels (t ∷ ts) [] event same out = cc
none_on labels (t ∷ ts) (e ∷ es) event same out =
    let both = cons_same (event_at labels t.leaf) (Some e) (map (λ (t : Taking). event_at labels t.leaf) ts) (map Some es) same in
    let other : is_event event (event_at labels t.leaf) ≡ false = ap (is_event event) both.0 ∙ ne_eqb e event (λ same. out (inl (sym same))) in
    grind (arith, other, none_on labels ts es event both.1 (λ m. out (inr m)))

pub last_at : (labels : List Label) (ts : List Taking) (events : List ℕ) (event j : ℕ) (u : Taking) → map (λ (t : Taking). event_at labels t.leaf) ts ≡ map Some events →
    slice_get ts j ≡ Some u → event_at labels u.leaf ≡ Some event → ¬ (event ∈ drop (suc j) events) → last_on labels ts event ≡ Some u
last_at labels [] events event j u same at on out = cc
last_at labels (t ∷ ts) [] event j u same at on out = cc
last_at labels (t ∷ ts) (e ∷ es) event zero u same at on out =
    let both = cons_same (event_at labels t.leaf) (Some e) (map (λ (t : Taking). event_at labels t.leaf) ts) (map Some es) same in
    let it : t ≡ u = some_same t u at in
    let here : is_event event (event_at labels t.leaf) ≡ true = test_of_event event (event_at labels t.leaf) (ap (λ (t : Taking). event_at labels t.leaf) it ∙ on) in
    grind (arith, here, it, none_on labels ts es event both.1 out)
last_at labels (t ∷ ts) (e ∷ es) event (suc j) u same at on out =
    let both = cons_same (event_at labels t.leaf) (Some e) (map (λ (t : Taking). event_at labels t.leaf) ts) (map Some es) same in
    grind (arith, last_at labels ts es event j u both.1 at on out)

-- who has a leaf of an event took the last claim on it
abbrev HasLast : Schema → RunState → Takings → Type 0
HasLast w s t = (n user event : ℕ) → event_at w.labels n ≡ Some event → IsTakenBy s t n user →
    (claim : ℕ) × (last_on w.labels t.given event ≡ Some (taking claim n user))

-- a leaf that can be taken has another event than what is done or under a claim
beside : (w : Schema) → IsWellFormed w → (s : RunState) (leaf : ℕ) → CanTake w s leaf → AreDistinct (events_of w.labels ((s.journal ++ current_leaves s) ++ leaf ∷ []))
beside w f s leaf can =
    subst (λ l. AreDistinct (events_of w.labels l)) (sym (append_assoc s.journal (current_leaves s) (leaf ∷ []))) (events_apart w f s (current_leaves s ++ leaf ∷ []) can.2)

took_last : (w : Schema) → IsWellFormed w → (s : RunState) (t : Takings) → HasLast w s t → (by claim leaf : ℕ) → CanTake w s leaf → (n user event : ℕ) → event_at w.labels n ≡ Some event →
    WasTaken s t by (Took claim leaf) n user → (c : ℕ) × (last_on w.labels (t.given ++ taking claim leaf by ∷ []) event ≡ Some (taking c n user))
took_last w f s t q by claim leaf can n user event ne was = by_event (cases_Bool (is_event event (event_at w.labels leaf)))
  where
    new : Taking
    new = taking claim leaf by

    step_leaf : (c : ℕ) → Took claim leaf ≡ Took c n → leaf ≡ n
    step_leaf c e = cc

    by_event : (is_event event (event_at w.labels leaf) ≡ true) ⊎ (is_event event (event_at w.labels leaf) ≡ false) →
        (c : ℕ) × (last_on w.labels (t.given ++ new ∷ []) event ≡ Some (taking c n user))
    by_event (inl same) = ⊎_elim
        (λ old. absurd (not_twice w.labels (s.journal ++ current_leaves s) n leaf event
        (subst (λ l. AreDistinct (events_of w.labels l)) (sym (append_assoc s.journal (current_leaves s) (leaf ∷ []))) (events_apart w f s (current_leaves s ++ leaf ∷ []) can.2))
        (there_of s t n user old) ne (event_from_test event (event_at w.labels leaf) same)))
        (λ ((c, e), b). (claim, last_more w.labels t.given new event ∙ rw same (ap Some (rw (step_leaf c e, b) refl))))
        was
    by_event (inr other) = ⊎_elim
        (λ old. let (c, e) = q n user event ne old in (c, last_more w.labels t.given new event ∙ rw other e))
        (λ ((c, e), b). absurd (true≢false (sym (test_of_event event (event_at w.labels leaf) (ap (event_at w.labels) (step_leaf c e) ∙ ne)) ∙ other)))
        was

-- no other step takes anything
not_took : (w : Schema) (s : RunState) (t : Takings) → HasLast w s t → (by : ℕ) (step : Step) → ((c l : ℕ) → ¬ (step ≡ Took c l)) → (n user event : ℕ) → event_at w.labels n ≡ Some event →
    WasTaken s t by step n user → (c : ℕ) × (last_on w.labels t.given event ≡ Some (taking c n user))
not_took w s t q by step none n user event ne (inl old) = q n user event ne old
not_took w s t q by step none n user event ne (inr ((c, e), b)) = absurd (none c n e)

next_last : (w : Schema) → IsWellFormed w → (s : RunState) (t : Takings) → IsSound w s → AreThose s.claims t.given → HasLast w s t → (by : ℕ) (step : Step) → IsAllowed w s step →
    HasLast w (next_state w s step) (next_takings t by step)
next_last w f s t h those q by (Took claim leaf) a n user event ne taken =
    took_last w f s t q by claim leaf a.1 n user event ne (taken_before w s t h those by (Took claim leaf) a n user event ne taken)
next_last w f s t h those q by (Done claim) a n user event ne taken =
    not_took w s t q by (Done claim) (λ c l e. cc) n user event ne (taken_before w s t h those by (Done claim) a n user event ne taken)
next_last w f s t h those q by (Failed claim effect) a n user event ne taken =
    not_took w s t q by (Failed claim effect) (λ c l e. cc) n user event ne (taken_before w s t h those by (Failed claim effect) a n user event ne taken)
next_last w f s t h those q by (Late claim) a n user event ne taken =
    not_took w s t q by (Late claim) (λ c l e. cc) n user event ne (taken_before w s t h those by (Late claim) a n user event ne taken)
next_last w f s t h those q by (Did leaf) a n user event ne taken =
    not_took w s t q by (Did leaf) (λ c l e. cc) n user event ne (taken_before w s t h those by (Did leaf) a n user event ne taken)
next_last w f s t h those q by (Rewound i) a n user event ne taken =
    not_took w s t q by (Rewound i) (λ c l e. cc) n user event ne (taken_before w s t h those by (Rewound i) a n user event ne taken)
next_last w f s t h those q by Committed a n user event ne taken =
    not_took w s t q by Committed (λ c l e. cc) n user event ne (taken_before w s t h those by Committed a n user event ne taken)

last_from : (w : Schema) → IsWellFormed w → (limit : ℕ) (s : RunState) (t : Takings) (made : ℕ) → IsSound w s → AreThose s.claims t.given → HasLast w s t → (entries : List Entry) →
    IsLegalFrom w limit s made entries → HasLast w (state_after w s entries) (takings_after t entries)
last_from w f limit s t made h those q [] legal = q
last_from w f limit s t made h those q (entry ∷ entries) legal =
    last_from w f limit (next_state w s entry.step) (next_takings t entry.by entry.step) (made + 1) (kept_next w f s h entry.step legal.2)
    (those_next w s t those entry.by entry.step) (next_last w f s t h those q entry.by entry.step legal.2) entries legal.3

pub last_has_it : LastClaimHasIt
last_has_it w f consistent limit history legal =
    last_from w f limit first_state no_takings 0 (first_is_kept w f consistent) tt
    (λ n user event ne taken. ⊎_elim (λ (c, o, m). absurd m) (λ (j, e). absurd j) taken) history legal

-- A claim that is out is the last on its event

abbrev IsLastOut : Schema → RunState → Takings → Type 0
IsLastOut w s t = (number n event : ℕ) → event_at w.labels n ≡ Some event → IsOut s number n → (user : ℕ) × (last_on w.labels t.given event ≡ Some (taking number n user))

took_out : (w : Schema) → IsWellFormed w → (s : RunState) (t : Takings) → IsLastOut w s t → (by claim leaf : ℕ) → CanTake w s leaf → (number n event : ℕ) → event_at w.labels n ≡ Some event →
    WasOut s (Took claim leaf) number n → (user : ℕ) × (last_on w.labels (t.given ++ taking claim leaf by ∷ []) event ≡ Some (taking number n user))
took_out w f s t q by claim leaf can number n event ne was = by_event (cases_Bool (is_event event (event_at w.labels leaf)))
  where
    new : Taking
    new = taking claim leaf by

    both : Took claim leaf ≡ Took number n → (claim ≡ number) × (leaf ≡ n)
    both e = (cc, cc)

    by_event : (is_event event (event_at w.labels leaf) ≡ true) ⊎ (is_event event (event_at w.labels leaf) ≡ false) →
        (user : ℕ) × (last_on w.labels (t.given ++ new ∷ []) event ≡ Some (taking number n user))
    by_event (inl same) = ⊎_elim
        (λ old. absurd (not_twice w.labels (s.journal ++ current_leaves s) n leaf event (beside w f s leaf can)
        (mem_append_right n s.journal (current_leaves s) (out_leaf s number n old)) ne (event_from_test event (event_at w.labels leaf) same)))
        (λ e. (by, last_more w.labels t.given new event ∙ rw same (λ i. Some (taking ((both e).0 i) ((both e).1 i) by))))
        was
    by_event (inr other) = ⊎_elim
        (λ old. let (u, e) = q number n event ne old in (u, last_more w.labels t.given new event ∙ rw other e))
        (λ e. absurd (true≢false (sym (test_of_event event (event_at w.labels leaf) (ap (event_at w.labels) (both e).1 ∙ ne)) ∙ other)))
        was

next_out : (w : Schema) → IsWellFormed w → (s : RunState) (t : Takings) → IsSound w s → IsLastOut w s t → (by : ℕ) (step : Step) → IsAllowed w s step →
    IsLastOut w (next_state w s step) (next_takings t by step)
next_out w f s t h q by (Took claim leaf) a number n event ne o =
    took_out w f s t q by claim leaf a.1 number n event ne (out_before w s h.epochs (Took claim leaf) number n o)
next_out w f s t h q by (Done claim) a number n event ne o = q number n event ne (still_out w s h.epochs (Done claim) (λ c l e. cc) number n o)
next_out w f s t h q by (Failed claim effect) a number n event ne o = q number n event ne (still_out w s h.epochs (Failed claim effect) (λ c l e. cc) number n o)
next_out w f s t h q by (Late claim) a number n event ne o = q number n event ne (still_out w s h.epochs (Late claim) (λ c l e. cc) number n o)
next_out w f s t h q by (Did leaf) a number n event ne o = q number n event ne (still_out w s h.epochs (Did leaf) (λ c l e. cc) number n o)
next_out w f s t h q by (Rewound i) a number n event ne o = q number n event ne (still_out w s h.epochs (Rewound i) (λ c l e. cc) number n o)
next_out w f s t h q by Committed a number n event ne o = q number n event ne (still_out w s h.epochs Committed (λ c l e. cc) number n o)

out_from : (w : Schema) → IsWellFormed w → (limit : ℕ) (s : RunState) (t : Takings) (made : ℕ) → IsSound w s → IsLastOut w s t → (entries : List Entry) →
    IsLegalFrom w limit s made entries → IsLastOut w (state_after w s entries) (takings_after t entries)
out_from w f limit s t made h q [] legal = q
out_from w f limit s t made h q (entry ∷ entries) legal =
    out_from w f limit (next_state w s entry.step) (next_takings t entry.by entry.step) (made + 1) (kept_next w f s h entry.step legal.2)
    (next_out w f s t h q entry.by entry.step legal.2) entries legal.3

-- of every legal history
pub out_is_last : (w : Schema) → IsWellFormed w → IsConsistent w → (limit : ℕ) (history : List Entry) → IsLegal w limit history → IsLastOut w (state_of w history) (takings_of history)
out_is_last w f consistent limit history legal =
    out_from w f limit first_state no_takings 0 (first_is_kept w f consistent) (λ number n event ne o. absurd o.given) history legal
