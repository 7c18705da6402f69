-- A run whose tasks all succeed comes to a commit.
use Rattle.std.proofs.Common.{◌≡◌, ◌≤◌, ◌<◌, ◌+◌, ◌*◌, ℕ, zero, suc, Bool, true, false, cond, not, ◌&&◌, nat_lt, IsTrue, is_some, List, [], ◌∷◌, ◌++◌, map, length, filter, Option, Some, None, slice_get, refl, sym, ap, ◌∙◌, subst, inl, inr, arith, true≢false, append-nil, append_assoc, length-append, ◌==◌, nat_le, ◌≢◌, if◌then◌else◌}
use Rattle.std.proofs.lemmas.Bool.{eq-eqb, ltb-true, eqb-true, le-leb, lt-leb}
use Rattle.std.proofs.lemmas.List.{map-append, nil_from_length}
use Rattle.std.proofs.lemmas.List.Elements.{filter-append}
use Rattle.flow_model.specs.declared.history.Call.{Call}
use Rattle.flow_model.specs.declared.history.Entry.{Entry}
use Rattle.flow_model.specs.declared.history.FailEffect.{FailEffect}
use Rattle.flow_model.specs.declared.history.FailEffect.TheVariants.{Switched, Kept}
use Rattle.flow_model.specs.declared.history.Outcome.{Outcome}
use Rattle.flow_model.specs.declared.history.Outcome.TheVariants as outcome
use Rattle.flow_model.specs.declared.history.Step.{Step}
use Rattle.flow_model.specs.declared.history.Step.TheVariants.{Took, Done, Failed, Late, Did, Rewound, Committed}
use Rattle.flow_model.specs.declared.labels.Note.{Note}
use Rattle.flow_model.specs.declared.labels.Note.TheVariants as note
use Rattle.flow_model.specs.Lists.{◌∈◌, Each}
use Rattle.flow_model.specs.Facts.{event_at, is_event}
use Rattle.flow_model.specs.Schema.{Schema, IsEventLeaf}
use Rattle.flow_model.specs.Run.{Claim, RunState, first_state, state_of, next_state, current_leaves, claim_at, leaf_of_claim, IsCurrent, IsAllowed, IsLegal, IsLegalFrom, is_current}
use Rattle.flow_model.specs.Verdict.{EndsKept, IsRunStep, call_of, attempts, event_of_claim}
use Rattle.flow_laws.specs.WellFormed.{IsWellFormed, IsConsistent}
use Rattle.flow_laws.specs.Histories.{IsSound, NeverWaits}
use Rattle.flow_model.proofs.Lists.{each-append, each_parts, each_member, at_most}
use Rattle.flow_model.proofs.MadeLists.{of_find, same_order}
use Rattle.flow_laws.proofs.TraceLeaves.{distinct_trace}
use Rattle.flow_laws.proofs.OptionsLemmas.{distinct_leaves}
use Rattle.flow_laws.proofs.ClaimLemmas.{leaf_of, is_of, and_parts, some_claim, leaf_of_claim_is}
use Rattle.flow_laws.proofs.SoundStates.{taken_of_current}
use Rattle.flow_laws.proofs.NeverAtALoss.{sound_state, never_stuck}
use Rattle.flow_core.specs.Run.{Run, schema, now}
use Rattle.flow_core.proofs.Steps.{state_after-append}
use Rattle.flow_core.proofs.JournalLemmas.{within_free}
use Rattle.flow_core.proofs.Calls.{number_in, note_in}
use Rattle.flow_gate.specs.Gate.{is_same}
use Rattle.flow_gate.specs.NoteGate.{announced, outcome_by}
use Rattle.flow_core.specs.declared.end.End.{End}
use Rattle.flow_core.specs.declared.end.End.TheVariants as end
use Rattle.flow_crew.specs.Ends.{IsEnd}
use Rattle.flow_crew.proofs.Histories.{AreRunSteps}
use Rattle.flow_crew.specs.Done.{IsPlainStep, IsCallFor, NeverFails, AllSucceeds, HoldsEventsAlone, DeclaresSuccess}
use Rattle.std.proofs.lemmas.List.Sums.{length-filter}
use Rattle.flow_core.proofs.NextLemmas.{left_in}

-- ---- how many entries the leaves allow

-- the claims that are out, with one more
more_out : (w : Schema) (s : RunState) (claim leaf : ℕ) → length (current_leaves (next_state w s (Took claim leaf))) ≡ length (current_leaves s) + 1
more_out w s claim leaf =
    let new : Claim = record { number = claim; leaf = leaf; epoch = s.epoch; answered = false } in
    let is : current_leaves (next_state w s (Took claim leaf)) ≡ current_leaves s ++ leaf ∷ [] =
    ap (map leaf_of) (filter-append (is_of s.epoch) s.claims (new ∷ []))
    ∙ (map-append leaf_of (filter (is_of s.epoch) s.claims) (filter (is_of s.epoch) (new ∷ []))
    ∙ ap (λ b. current_leaves s ++ map leaf_of (cond b (new ∷ []) [])) (eq-eqb s.epoch s.epoch refl)) in
    ap length is ∙ length-append (current_leaves s) (leaf ∷ [])

-- and with one answered
fewer_out : (w : Schema) (s : RunState) → IsSound w s → (claim : ℕ) → IsCurrent s claim →
    length (current_leaves s) ≡ length (current_leaves (next_state w s (Done claim))) + 1
fewer_out w s sound claim current =
    let taken = taken_of_current w s sound claim current in
    let whole : length (current_leaves s) ≡ length taken.front + length (leaf_of_claim s claim ∷ taken.back) =
    ap length taken.whole ∙ length-append taken.front (leaf_of_claim s claim ∷ taken.back) in
    let left : length (current_leaves (next_state w s (Done claim))) ≡ length taken.front + length taken.back =
    ap length taken.left ∙ length-append taken.front taken.back in
    omega arith

-- the leaves that count and those that are out are no more than the workflow's
few_leaves : (w : Schema) → IsWellFormed w → (s : RunState) → IsSound w s → length s.journal + length (current_leaves s) ≤ length w.labels
few_leaves w f s sound =
    let (o, m, follow) = sound.extends in
    let (t, trace, free, (rest, is)) = follow (current_leaves s) (same_order (current_leaves s)) in
    let most : length t ≤ length w.labels = at_most (length w.labels) t (distinct_trace w.goal (distinct_leaves w f) t free.0.0) (λ n m. within_free w f s t free n m) in
    let long : length t ≡ length (s.journal ++ current_leaves s) + length rest = ap length is ∙ length-append (s.journal ++ current_leaves s) rest in
    let both : length (s.journal ++ current_leaves s) ≡ length s.journal + length (current_leaves s) = length-append s.journal (current_leaves s) in
    omega arith

-- No epoch has ended. Each leaf that counts stands for two entries at most, and each that is out for one; for just so many where each leaf is an
-- event.
record IsPlainState (w : Schema) (s : RunState) (made : ℕ) : Type 0 where
  epoch_is : s.epoch ≡ 0
  few : s.committed ≡ false → made ≤ 2 * length s.journal + length (current_leaves s)
  just : HoldsEventsAlone w → s.committed ≡ false → made ≡ 2 * length s.journal + length (current_leaves s)
  over : HoldsEventsAlone w → s.committed ≡ true → made ≡ 2 * length s.journal + 1

plain_next : (w : Schema) (s : RunState) (made : ℕ) → IsSound w s → IsPlainState w s made → s.committed ≡ false → (step : Step) → IsPlainStep step →
    IsAllowed w s step → IsPlainState w (next_state w s step) (made + 1)
plain_next w s made sound k going (Took claim leaf) plain may = record {
  epoch_is = k.epoch_is;
  few = λ _. (let so_far : made ≤ 2 * length s.journal + length (current_leaves s) = k.few going in let l = more_out w s claim leaf in omega arith);
  just = λ events _. (let so_far : made ≡ 2 * length s.journal + length (current_leaves s) = k.just events going in let l = more_out w s claim leaf in omega arith);
  over = λ _ over. absurd (true≢false (sym over ∙ going));
}
plain_next w s made sound k going (Done claim) plain may =
    let out = fewer_out w s sound claim may in
    let counts : length (s.journal ++ leaf_of_claim s claim ∷ []) ≡ length s.journal + 1 = length-append s.journal (leaf_of_claim s claim ∷ []) in record {
      epoch_is = k.epoch_is;
      few = λ _. (let so_far : made ≤ 2 * length s.journal + length (current_leaves s) = k.few going in omega arith);
      just = λ events _. (let so_far : made ≡ 2 * length s.journal + length (current_leaves s) = k.just events going in omega arith);
      over = λ _ over. absurd (true≢false (sym over ∙ going));
    }
plain_next w s made sound k going (Did leaf) plain may = record {
  epoch_is = k.epoch_is;
  few = λ _. (
      let so_far : made ≤ 2 * length s.journal + length (current_leaves s) = k.few going in
      let counts : length (s.journal ++ leaf ∷ []) ≡ length s.journal + 1 = length-append s.journal (leaf ∷ []) in
      omega arith);
  just = λ events _. absurd (events leaf may.0.0);
  over = λ events _. absurd (events leaf may.0.0);
}
plain_next w s made sound k going Committed plain may = record {
  epoch_is = k.epoch_is;
  few = λ going. absurd (true≢false going);
  just = λ _ going. absurd (true≢false going);
  over = λ events _. (
      let so_far : made ≡ 2 * length s.journal + length (current_leaves s) = k.just events going in
      let none : length (current_leaves s) ≡ 0 = ap (λ (claims : List Claim). length (map leaf_of claims)) may.0 in
      omega arith);
}
plain_next w s made sound k going other plain may = absurd plain

-- ---- which entries a run makes where no task fails

abbrev IsPlain : Entry → Type 0
IsPlain entry = IsPlainStep entry.step

-- no kept failure stands at the end of a plain history
not_kept : (w : Schema) (history : List Entry) → Each IsPlain history → (leaf : ℕ) → ¬ (EndsKept w history leaf)
not_kept w history plain leaf (earlier, (entry, (claim, is, kept, on))) =
    let parts = each_parts IsPlain earlier (entry ∷ []) (subst (Each IsPlain) is plain) in
    subst IsPlainStep kept parts.1.0

some_event : (o : Option ℕ) → IsTrue (is_some o) → o ≡ Some (number_in o)
some_event None h = absurd (true≢false (sym h))
some_event (Some e) h = refl

-- what is asked for a claim that is out is asked for an event of the workflow
asked_for : (w : Schema) (s : RunState) → IsSound w s → (number : ℕ) → IsCurrent s number → IsCallFor w (call_of w s number)
asked_for w s sound number current =
    let (claim, found, told) = some_claim (λ (c : Claim). IsTrue (is_current s c)) (claim_at s number) current in
    let (given, named) = of_find (λ (c : Claim). c.number == number) s.claims claim found in
    let leaf : leaf_of_claim s number ≡ claim.leaf = leaf_of_claim_is s number claim found in
    let on_event : IsEventLeaf w claim.leaf = each_member (λ (c : Claim). IsEventLeaf w c.leaf) s.claims sound.on_events claim given in
    let event : event_at w.labels (leaf_of_claim s number) ≡ Some (event_of_claim w s number) =
    some_event (event_at w.labels (leaf_of_claim s number)) (subst (IsEventLeaf w) (sym leaf) on_event) in
    (event, refl, tried claim given (eqb-true claim.number number named) (ap (event_at w.labels) (sym leaf) ∙ event))
  where
    tried : (claim : Claim) → claim ∈ s.claims → claim.number ≡ number → event_at w.labels claim.leaf ≡ Some (event_of_claim w s number) →
        1 ≤ attempts w s (event_of_claim w s number) number
    tried claim given named event =
        let counts : (nat_le claim.number number && is_event (event_of_claim w s number) (event_at w.labels claim.leaf)) ≡ true =
        ap (λ b. b && is_event (event_of_claim w s number) (event_at w.labels claim.leaf)) (le-leb claim.number number (omega (arith, named)))
        ∙ ap (is_event (event_of_claim w s number)) event ∙ eq-eqb (event_of_claim w s number) (event_of_claim w s number) refl in
        let some : attempts w s (event_of_claim w s number) number ≢ 0 =
        λ none. left_in counted s.claims claim given counts (nil_from_length (filter counted s.claims) (length-filter counted s.claims ∙ none)) in
        omega arith
      where
        counted : Claim → Bool
        counted c = nat_le c.number number && is_event (event_of_claim w s number) (event_at w.labels c.leaf)

module _ (gives : Call → Outcome → Bool) (w : Schema) (formed : IsWellFormed w) (never_waits : Each NeverWaits w.labels) (never_fails : NeverFails gives w) where
  abbrev MayGive : Call → Outcome → Type 0
  MayGive call outcome = gives call outcome ≡ true

  plain_step : (earlier : List Entry) (made : ℕ) → IsSound w (state_of w earlier) → IsPlainState w (state_of w earlier) made →
      Each IsPlain earlier → (step : Step) → IsAllowed w (state_of w earlier) step →
      IsRunStep MayGive w earlier step → IsPlainStep step
  plain_step earlier made sound k plain (Failed claim effect) may run = true≢false (sym run ∙ never_fails (call_of w (state_of w earlier) claim) (asked effect may))
    where
      asked : (effect : FailEffect) → IsAllowed w (state_of w earlier) (Failed claim effect) → IsCallFor w (call_of w (state_of w earlier) claim)
      asked Switched may = asked_for w (state_of w earlier) sound claim may.0
      asked Kept may = asked_for w (state_of w earlier) sound claim may.0
  plain_step earlier made sound k plain (Late claim) may run =
      let (one, found, told) = some_claim (λ (c : Claim). IsTrue (not c.answered && nat_lt c.epoch (state_of w earlier).epoch)) (claim_at (state_of w earlier) claim) may in
      let older : one.epoch < (state_of w earlier).epoch = ltb-true one.epoch (state_of w earlier).epoch (and_parts (not one.answered) (nat_lt one.epoch (state_of w earlier).epoch) told).1 in
      let first : (state_of w earlier).epoch ≡ 0 = k.epoch_is in
      absurd (omega arith)
  plain_step earlier made sound k plain (Rewound index) may run = elim run [
    | inl stuck ↦ never_stuck w formed never_waits (state_of w earlier) sound stuck
    | inr kept ↦ not_kept w earlier plain kept.0 kept.1
  ]
  plain_step earlier made sound k plain other may run = tt

  -- the whole history is plain, and its state too
  abbrev PlainWhole : List Entry → Type 0
  PlainWhole history = Each IsPlain history × IsPlainState w (state_of w history) (length history)

  module _ (consistent : IsConsistent w) (limit : ℕ) (history : List Entry) (legal : IsLegal w limit history) (runs : AreRunSteps MayGive w history) where
    plain_from : (later earlier : List Entry) (made : ℕ) → history ≡ earlier ++ later → PlainWhole earlier →
        IsLegalFrom w limit (state_of w earlier) made later → PlainWhole history
    plain_from [] earlier made is k rest = subst PlainWhole (sym (is ∙ append-nil earlier)) k
    plain_from (e ∷ later) earlier made is (plain, k) (going, room, may, rest) =
        let sound = sound_state w formed consistent limit history legal earlier (e ∷ later, is) in
        let step : IsPlainStep e.step = plain_step earlier (length earlier) sound k plain e.step may (runs earlier later e is) in
        let next = state_after-append w first_state earlier e in
        let after = plain_next w (state_of w earlier) (length earlier) sound k going e.step step may in
        let long = length-append earlier (e ∷ []) in
        plain_from later (earlier ++ e ∷ []) (made + 1) (is ∙ sym (append_assoc earlier (e ∷ []) later)) (
          each-append IsPlain earlier (e ∷ []) plain (step, tt),
          subst (λ n. IsPlainState w (state_of w (earlier ++ e ∷ [])) n) (sym long) (subst (λ s. IsPlainState w s (length earlier + 1)) (sym next) after),
        )
        (subst (λ s. IsLegalFrom w limit s (made + 1) later) (sym next) rest)

    plain_whole : PlainWhole history
    plain_whole = plain_from history [] 0 refl (tt, record { epoch_is = refl; few = λ _. omega arith; just = λ _ _. refl; over = λ _ over. absurd (true≢false (sym over)) }) legal

module _ (gives : Call → Outcome → Bool) (r : Run) (all : AllSucceeds gives r) where
  whole : Each IsPlain r.history × IsPlainState (schema r) (now r) (length r.history)
  whole = plain_whole gives (schema r) all.well_formed all.never_waits all.never_fails all.consistent r.limit r.history all.by_workers.run_legal.0 all.by_workers.run_legal.1

  sound : IsSound (schema r) (now r)
  sound = sound_state (schema r) all.well_formed all.consistent r.limit r.history all.by_workers.run_legal.0 r.history ([], sym (append-nil r.history))

  pub are_plain : Each IsPlain r.history
  are_plain = whole.0

  pub committed : 2 * length (schema r).labels + 1 ≤ r.limit → (found : End) → IsEnd r found → found ≡ end.Committed
  committed room end.Committed stands = refl
  committed room end.Stuck (waiting, stands) = absurd (never_stuck (schema r) all.well_formed all.never_waits (now r) sound stands.3)
  committed room (end.NoOther leaf) stands = absurd (not_kept (schema r) r.history whole.0 leaf stands.1)
  committed room end.Spent stands =
      let few : length r.history ≤ 2 * length (now r).journal + length (current_leaves (now r)) = whole.1.few stands.0 in
      let leaves : length (now r).journal + length (current_leaves (now r)) ≤ length (schema r).labels = few_leaves (schema r) all.well_formed (now r) sound in
      let full : length r.history ≡ r.limit = stands.1 in
      absurd (omega arith)

  pub counted : HoldsEventsAlone (schema r) → (now r).committed ≡ true → length r.history ≡ 2 * length (now r).journal + 1
  counted events over = whole.1.over events over

-- ---- declarations

declared : (notes : List Note) → Each DeclaresSuccess notes → (event : ℕ) → DeclaresSuccess (note_in (slice_get notes event))
declared [] all event = tt
declared (n ∷ notes) (is, all) zero = is
declared (n ∷ notes) (is, all) (suc event) = declared notes all event

never_failed : (n : Note) → DeclaresSuccess n → (attempt : ℕ) → 1 ≤ attempt → is_same outcome.Failed (outcome_by n attempt) ≡ false
never_failed note.Done is attempt some = refl
never_failed note.Fail is attempt some = absurd is
never_failed (note.FailFirst count) is attempt some =
    ap (λ b. is_same outcome.Failed (if b then outcome.Failed else outcome.Done)) (lt-leb attempt count (omega (arith, is, some)))

pub as_declared : (w : Schema) → Each DeclaresSuccess w.notes → NeverFails (λ call answer. is_same answer (announced call)) w
as_declared w all call (at, noted, some) = never_failed call.note (subst DeclaresSuccess (sym noted) (declared w.notes all call.event)) call.attempt some
