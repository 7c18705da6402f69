-- Each entry that a core makes keeps what its fields keep.
use Rattle.std.proofs.Common.{◌≡◌, ◌≤◌, ◌<◌, ◌+◌, ℕ, Bool, true, false, nat_le, ◌&&◌, if◌then◌else◌, List, [], ◌∷◌, ◌++◌, map, length, take, Option, Some, None, slice_get, slice_index, ◌==◌, refl, sym, ap, ◌∙◌, subst, arith, length-append, append-nil}
use Rattle.std.specs.List.{filter}
use Rattle.std.proofs.lemmas.List.{map-append, length-map}
use Rattle.flow_model.specs.declared.history.Entry.{Entry}
use Rattle.flow_model.specs.declared.history.Step.{Step}
use Rattle.flow_model.specs.declared.history.Step.TheVariants.{Took, Done, Failed, Did, Rewound, Committed}
use Rattle.flow_model.specs.declared.history.FailEffect.TheVariants.{Switched}
use Rattle.flow_model.specs.declared.labels.Label.{Label}
use Rattle.flow_model.specs.declared.labels.Label.TheVariants.{Event}
use Rattle.flow_model.specs.Facts.{event_at, event_in}
use Rattle.flow_model.specs.Schema.{Schema, IsGood}
use Rattle.flow_model.specs.Folding.{folded_options}
use Rattle.flow_model.specs.Decided.{can_all_follow}
use Rattle.flow_model.specs.Takers.{Taking, Takings, no_takings, next_takings, takings_of}
use Rattle.flow_model.specs.Run.{Claim, RunState, first_state, next_state, state_after, state_of, current_claims, leaf_of_claim, is_current, IsCurrent, IsOpenIndex, IsAllowed, IsLegalFrom, CanTake, CanDo, answer, spare, with_new_epoch}
use Rattle.flow_laws.proofs.NeverAtALoss.{sound_state}
use Rattle.flow_laws.specs.Histories.{IsSound}
use Rattle.flow_duty_laws.proofs.Kept.{takings_after-append}
use Rattle.flow_workflow.specs.Definition.{schema_of}
use Rattle.flow_plan.specs.Options.{HasExecution, AreJustThose}
use Rattle.flow_residual.specs.Remaining.{Remaining, IsOf}
use Rattle.flow_residual.specs.Claimed.{Claimed}
use Rattle.flow_facts.specs.Course.{Course}
use Rattle.flow_facts.specs.Journals.{labels_at}
use Rattle.flow_facts.proofs.JournalLabels.{labels_at-push, labels_at-take}
use Rattle.flow_core.specs.declared.run.Core.TheInside.{Inside}
use Rattle.flow_core.specs.Invariant.{AreClaimsOf, IsCourseOf, IsKept, IsRunning}
use Rattle.flow_core.proofs.JournalLemmas.{journal_within}

-- the state after one entry more
pub state_after-append : (w : Schema) (s : RunState) (history : List Entry) (entry : Entry) →
    state_after w s (history ++ entry ∷ []) ≡ next_state w (state_after w s history) entry.step
state_after-append w s [] entry = refl
state_after-append w s (e ∷ history) entry = state_after-append w (next_state w s e.step) history entry

-- a legal history goes on with an entry that is legal after it
pub legal-append : (w : Schema) (limit : ℕ) (s : RunState) (made : ℕ) (history : List Entry) (entry : Entry) → IsLegalFrom w limit s made history →
    (state_after w s history).committed ≡ false → made + length history < limit → IsAllowed w (state_after w s history) entry.step →
    IsLegalFrom w limit s made (history ++ entry ∷ [])
legal-append w limit s made [] entry legal going room allowed = (going, (let r : made < limit = omega arith in r), allowed, tt)
legal-append w limit s made (e ∷ history) entry (a, b, c, rest) going room allowed =
    (a, b, c, legal-append w limit (next_state w s e.step) (made + 1) history entry rest going (let r : made + 1 + length history < limit = omega arith in r) allowed)

-- one entry more of the history
abbrev pub longer : List Entry → ℕ → Step → List Entry
longer history by step = history ++ record { by = by; step = step } ∷ []

-- ---- claims

-- the events at the leaves of claims
abbrev pub events_at : List Label → List Claim → List (Option ℕ)
events_at labels claims = map (λ (claim : Claim). event_at labels claim.leaf) claims

events-answer : (labels : List Label) (number : ℕ) (claims : List Claim) → events_at labels (answer number claims) ≡ events_at labels claims
events-answer labels number [] = refl
events-answer labels number (x ∷ xs) =
    ap (λ (e : Option ℕ). e ∷ events_at labels (answer number xs)) (step (x.number == number)) ∙ ap (λ (es : List (Option ℕ)). event_at labels x.leaf ∷ es) (events-answer labels number xs)
  where
    step : (same : Bool) → event_at labels (if same then record x { answered = true } else x).leaf ≡ event_at labels x.leaf
    step true = refl
    step false = refl

events-spare : (labels : List Label) (w : Schema) (s : RunState) (before : List ℕ) (claims : List Claim) → events_at labels (spare w s before claims) ≡ events_at labels claims
events-spare labels w s before [] = refl
events-spare labels w s before (x ∷ xs) =
    step (is_current s x && can_all_follow w s (before ++ x.leaf ∷ [])) (events-spare labels w s (before ++ x.leaf ∷ []) xs) (events-spare labels w s before xs)
  where
    step : (spared : Bool) → events_at labels (spare w s (before ++ x.leaf ∷ []) xs) ≡ events_at labels xs → events_at labels (spare w s before xs) ≡ events_at labels xs →
        events_at labels (if spared then record x { epoch = s.epoch + 1 } ∷ spare w s (before ++ x.leaf ∷ []) xs else x ∷ spare w s before xs)
        ≡ event_at labels x.leaf ∷ events_at labels xs
    step true a b = ap (λ (es : List (Option ℕ)). event_at labels x.leaf ∷ es) a
    step false a b = ap (λ (es : List (Option ℕ)). event_at labels x.leaf ∷ es) b

-- as many events as claims
length-events_at : (labels : List Label) (claims : List Claim) → length (events_at labels claims) ≡ length claims
length-events_at labels claims = length-map claims _

-- a leaf with an event has its label
abbrev event_of : Option Label → Option ℕ
event_of None = None
event_of (Some label) = event_in label

event_label : (o : Option Label) (event : ℕ) → event_of o ≡ Some event → o ≡ Some (Event event)
event_label (Some (Event x)) event e = let same : x ≡ event = cc in ap (λ n. Some (Event n)) same
event_label other event e = cc

pub label_of_event : (labels : List Label) (leaf event : ℕ) → event_at labels leaf ≡ Some event → slice_get labels leaf ≡ Some (Event event)
label_of_event labels leaf event e = event_label (slice_get labels leaf) event e

-- to whom the claims were given
abbrev pub takers_in : Takings → List ℕ
takers_in t = map (λ (g : Taking). g.taker) t.given

-- ---- the entries

module _ (i : Inside) (kept : IsRunning i) where
  abbrev w : Schema
  w = schema_of i.workflow

  abbrev s : RunState
  s = state_of w i.history.items

  abbrev taken : Takings
  taken = takings_of i.history.items

  -- the state is sound
  pub sound_now : IsSound w s
  sound_now = sound_state w kept.kept.remains.well_formed kept.kept.consistent i.limit i.history.items kept.kept.legal i.history.items ([], sym (append-nil i.history.items))

  module _ (going : s.committed ≡ false) (room : length i.history.items < i.limit) (by : ℕ) where
    -- what the fields keep after the step
    abbrev Keeps : Step → Remaining → Claimed → Course → Bool → Type 0
    Keeps step = IsKept i.workflow i.limit (longer i.history.items by step)

    -- what an entry owes
    kept_longer : (step : Step) (r : Remaining) (c : Claimed) (v : Course) (committed : Bool) → IsAllowed w s step →
        IsOf w (next_state w s step) r → AreClaimsOf i.workflow (next_state w s step) c → IsCourseOf i.workflow (next_state w s step) v →
        c.takers ≡ takers_in (next_takings taken by step) → (next_state w s step).committed ≡ committed → c.room ≡ i.claims.room → length c.claims ≤ length i.claims.claims + 1 → c.epoch ≤ i.claims.epoch + 1 →
        Keeps step r c v committed
    kept_longer step r c v committed allowed remains claims course takers closed same_room more_claims more_epochs =
        let k = kept.kept in
        let entry : Entry = record { by = by; step = step } in
        let same : state_of w (longer i.history.items by step) ≡ next_state w s step = state_after-append w first_state i.history.items entry in
        let count : length (longer i.history.items by step) ≡ length i.history.items + 1 = length-append i.history.items (entry ∷ []) in
        let enough : i.limit ≤ i.claims.room = k.claims_room in
        let few : length i.claims.claims ≤ length i.history.items = k.few_claims in
        let epochs : i.claims.epoch ≤ length i.history.items = k.few_epochs in
        record {
          legal = legal-append w i.limit first_state 0 i.history.items entry k.legal going (let h : 0 + length i.history.items < i.limit = omega arith in h) allowed;
          consistent = k.consistent;
          known = k.known;
          noted = k.noted;
          remains = subst (λ (s : RunState). IsOf w s r) (sym same) remains;
          claims = subst (λ (s : RunState). AreClaimsOf i.workflow s c) (sym same) claims;
          takers_are = takers ∙ ap takers_in (sym (takings_after-append no_takings i.history.items (entry ∷ [])));
          course = subst (λ (s : RunState). IsCourseOf i.workflow s v) (sym same) course;
          committed_is = ap (λ (s : RunState). s.committed) same ∙ closed;
          within_limit = omega arith;
          claims_room = omega arith;
          few_claims = omega arith;
          few_epochs = omega arith;
        }

    remains : (s' : RunState) (r : Remaining) → r.options ≡ i.residual.options → s'.journal ≡ r.journal → s'.bans ≡ r.bans → IsOf w s' r
    remains s' r o j b = let f = kept.kept.remains in record {
      well_formed = f.well_formed;
      options_are = subst (AreJustThose HasExecution (folded_options w)) (sym o) f.options_are;
      journal_is = j;
      bans_are = b;
    }

    -- with the journal and the bans as they were
    same_remains : (s' : RunState) → s'.journal ≡ s.journal → s'.bans ≡ s.bans → IsOf w s' i.residual
    same_remains s' j b = remains s' i.residual refl (j ∙ kept.kept.remains.journal_is) (b ∙ kept.kept.remains.bans_are)

    -- with the journal as it was
    same_course : (s' : RunState) → s'.journal ≡ s.journal → IsCourseOf i.workflow s' i.world
    same_course s' j = let c = kept.kept.course in
        record { held_is = c.held_is; count = c.count; labels_are = c.labels_are ∙ ap (labels_at w.labels) (sym j); room = c.room }

    -- a leaf more of the journal
    longer_course : (s' : RunState) (leaf : ℕ) (label : Label) → s'.journal ≡ s.journal ++ leaf ∷ [] → slice_get w.labels leaf ≡ Some label →
        IsCourseOf i.workflow s' (record i.world { labels = i.world.labels ++ label ∷ [] })
    longer_course s' leaf label j at = let c = kept.kept.course in record {
      held_is = c.held_is;
      count = c.count;
      labels_are = ap (λ (l : List Label). l ++ label ∷ []) c.labels_are ∙ sym (labels_at-push w.labels s.journal leaf label at) ∙ ap (labels_at w.labels) (sym j);
      room = c.room;
    }

    -- with the claims as they were
    same_claims : (s' : RunState) → s'.claims ≡ s.claims → s'.epoch ≡ s.epoch → AreClaimsOf i.workflow s' i.claims
    same_claims s' a b = let c = kept.kept.claims in
        record { claims_are = a ∙ c.claims_are; epoch_is = b ∙ c.epoch_is; events_are = c.events_are; kinds = c.kinds }

    -- with a claim answered
    answered_claims : (s' : RunState) (claim : ℕ) → s'.claims ≡ answer claim s.claims → s'.epoch ≡ s.epoch →
        AreClaimsOf i.workflow s' (record i.claims { claims = answer claim i.claims.claims })
    answered_claims s' claim a b = let c = kept.kept.claims in record {
      claims_are = a ∙ ap (answer claim) c.claims_are;
      epoch_is = b ∙ c.epoch_is;
      events_are = events-answer w.labels claim i.claims.claims ∙ c.events_are;
      kinds = c.kinds;
    }

    -- as many claims, once one is answered
    few_answered : (claim : ℕ) → length (answer claim i.claims.claims) ≤ length i.claims.claims + 1
    few_answered claim = let e : length (answer claim i.claims.claims) ≡ length i.claims.claims = length-map i.claims.claims _ in omega arith

    -- a claim is given
    pub kept_took : (leaf event claim : ℕ) → claim ≡ length i.claims.claims + 1 → event_at w.labels leaf ≡ Some event → CanTake w s leaf →
        Keeps (Took claim leaf) i.residual (record i.claims {
          claims = i.claims.claims ++ record { number = length i.claims.claims + 1; leaf = leaf; epoch = i.claims.epoch; answered = false } ∷ [];
          events = i.claims.events ++ event ∷ [];
          takers = i.claims.takers ++ by ∷ [];
        }) i.world i.committed
    kept_took leaf event claim number at can =
        let k = kept.kept in
        let one : Claim = record { number = length i.claims.claims + 1; leaf = leaf; epoch = i.claims.epoch; answered = false } in
        kept_longer (Took claim leaf) i.residual _ i.world i.committed (number ∙ ap (λ (cs : List Claim). length cs + 1) (sym k.claims.claims_are), can)
        (same_remains (next_state w s (Took claim leaf)) refl refl)
        (record {
          claims_are = λ j. k.claims.claims_are j ++ record { number = number j; leaf = leaf; epoch = k.claims.epoch_is j; answered = false } ∷ [];
          epoch_is = k.claims.epoch_is;
          events_are = map-append (λ (claim : Claim). event_at w.labels claim.leaf) i.claims.claims (one ∷ [])
              ∙ (λ j. k.claims.events_are j ++ at j ∷ []) ∙ sym (map-append Some i.claims.events (event ∷ []));
          kinds = k.claims.kinds;
        })
        (same_course (next_state w s (Took claim leaf)) refl)
        ((λ j. k.takers_are j ++ by ∷ []) ∙ sym (map-append (λ (g : Taking). g.taker) taken.given (record { claim = claim; leaf = leaf; taker = by } ∷ []))) k.committed_is refl
        (let e : length (i.claims.claims ++ one ∷ []) ≡ length i.claims.claims + 1 = length-append i.claims.claims (one ∷ []) in omega arith) (omega arith)

    -- a success is posted
    pub kept_done : (claim leaf event : ℕ) → IsCurrent s claim → leaf_of_claim s claim ≡ leaf → event_at w.labels leaf ≡ Some event →
        Keeps (Done claim) (record i.residual { journal = i.residual.journal ++ leaf ∷ [] }) (record i.claims { claims = answer claim i.claims.claims })
        (record i.world { labels = i.world.labels ++ Event event ∷ [] }) i.committed
    kept_done claim leaf event current on at =
        let after : RunState = next_state w s (Done claim) in
        let j : s.journal ++ leaf_of_claim s claim ∷ [] ≡ s.journal ++ leaf ∷ [] = ap (λ n. s.journal ++ n ∷ []) on in
        kept_longer (Done claim) _ _ _ i.committed current
        (remains after (record i.residual { journal = i.residual.journal ++ leaf ∷ [] }) refl (j ∙ ap (λ (j : List ℕ). j ++ leaf ∷ []) kept.kept.remains.journal_is) kept.kept.remains.bans_are)
        (answered_claims after claim refl refl) (longer_course after leaf (Event event) j (label_of_event w.labels leaf event at)) kept.kept.takers_are kept.kept.committed_is refl
        (few_answered claim) (omega arith)

    -- a claim is answered, and nothing else changes: a result that came too late, and a failure that every execution needs otherwise
    pub kept_answered : (step : Step) (claim : ℕ) → IsAllowed w s step → next_state w s step ≡ record s { claims = answer claim s.claims } →
        (next_takings taken by step).given ≡ taken.given →
        Keeps step i.residual (record i.claims { claims = answer claim i.claims.claims }) i.world i.committed
    kept_answered step claim allowed is none_given =
        kept_longer step i.residual _ i.world i.committed allowed (same_remains _ (ap (λ (s : RunState). s.journal) is) (ap (λ (s : RunState). s.bans) is))
        (answered_claims _ claim (ap (λ (s : RunState). s.claims) is) (ap (λ (s : RunState). s.epoch) is)) (same_course _ (ap (λ (s : RunState). s.journal) is))
        (kept.kept.takers_are ∙ ap (map (λ (g : Taking). g.taker)) (sym none_given))
        (ap (λ (s : RunState). s.committed) is ∙ kept.kept.committed_is) refl (few_answered claim) (omega arith)

    -- a leaf is done that is no event's
    pub kept_did : (leaf : ℕ) (label : Label) → slice_get w.labels leaf ≡ Some label → CanDo w s leaf →
        Keeps (Did leaf) (record i.residual { journal = i.residual.journal ++ leaf ∷ [] }) i.claims (record i.world { labels = i.world.labels ++ label ∷ [] }) i.committed
    kept_did leaf label at can =
        let after : RunState = next_state w s (Did leaf) in
        kept_longer (Did leaf) _ i.claims _ i.committed can
        (remains after (record i.residual { journal = i.residual.journal ++ leaf ∷ [] }) refl (ap (λ (j : List ℕ). j ++ leaf ∷ []) kept.kept.remains.journal_is) kept.kept.remains.bans_are)
        (same_claims after refl refl) (longer_course after leaf label refl at) kept.kept.takers_are kept.kept.committed_is refl (omega arith) (omega arith)

    -- the run is over
    pub kept_committed : current_claims s ≡ [] → IsGood w s.journal → Keeps Committed i.residual i.claims i.world true
    kept_committed none good =
        let after : RunState = next_state w s Committed in
        kept_longer Committed i.residual i.claims i.world true (none, good) (same_remains after refl refl) (same_claims after refl refl) (same_course after refl) kept.kept.takers_are refl refl (omega arith) (omega arith)

    -- ---- new epochs

    -- the claims are those that a new epoch leaves, once the residual is that of the state before it
    abbrev pub IsRaised : Remaining → List Claim → Claimed → Type 0
    IsRaised r claims c =
        ((w : Schema) (s : RunState) → s.claims ≡ claims → s.epoch ≡ i.claims.epoch → IsOf w s r → c.claims ≡ (with_new_epoch w s).claims)
        × (c ≡ record i.claims { claims = c.claims; epoch = i.claims.epoch + 1 })

    -- a step by which the epoch rises, after the state `before`
    kept_raised : (step : Step) (before : RunState) (r : Remaining) (claims : List Claim) (c : Claimed) (v : Course) → IsAllowed w s step →
        next_state w s step ≡ with_new_epoch w before → r.options ≡ i.residual.options → before.journal ≡ r.journal → before.bans ≡ r.bans →
        before.claims ≡ claims → before.epoch ≡ s.epoch → before.committed ≡ s.committed → events_at w.labels claims ≡ map Some i.claims.events → length claims ≡ length i.claims.claims →
        IsRaised r claims c → IsCourseOf i.workflow (next_state w s step) v → (next_takings taken by step).given ≡ taken.given → Keeps step r c v i.committed
    kept_raised step before r claims c v allowed is options journal bans same epoch closed events count (raised, others) course none_given =
        let k = kept.kept in
        let at_epoch : before.epoch ≡ i.claims.epoch = epoch ∙ k.claims.epoch_is in
        let new : c.claims ≡ (with_new_epoch w before).claims = raised w before same at_epoch (remains before r options journal bans) in
        let later : c.epoch ≡ i.claims.epoch + 1 = ap (λ (x : Claimed). x.epoch) others in
        let as_many : length c.claims ≡ length i.claims.claims =
        ap length new ∙ sym (length-events_at w.labels (spare w before [] before.claims)) ∙ ap length (events-spare w.labels w before [] before.claims)
        ∙ length-events_at w.labels before.claims ∙ ap length same ∙ count in
        kept_longer step r c v i.committed allowed (subst (λ (s : RunState). IsOf w s r) (sym is) (remains (with_new_epoch w before) r options journal bans))
        (subst (λ (s : RunState). AreClaimsOf i.workflow s c) (sym is) record {
          claims_are = sym new;
          epoch_is = ap (λ n. n + 1) at_epoch ∙ sym later;
          events_are = ap (events_at w.labels) new ∙ events-spare w.labels w before [] before.claims ∙ ap (events_at w.labels) same ∙ events ∙ ap (λ (x : Claimed). map Some x.events) (sym others);
          kinds = ap (λ (x : Claimed). x.kinds) others ∙ k.claims.kinds;
        })
        course (ap (λ (x : Claimed). x.takers) others ∙ k.takers_are ∙ ap (map (λ (g : Taking). g.taker)) (sym none_given)) (ap (λ (s : RunState). s.committed) is ∙ closed ∙ k.committed_is) (ap (λ (x : Claimed). x.room) others) (omega arith) (omega arith)

    -- a failure after which an execution goes on without the leaf
    pub kept_switched : (claim leaf : ℕ) (c : Claimed) → IsAllowed w s (Failed claim Switched) → leaf_of_claim s claim ≡ leaf →
        IsRaised (record i.residual { bans = i.residual.bans ++ (length i.residual.journal, leaf) ∷ [] }) (answer claim i.claims.claims) c →
        Keeps (Failed claim Switched) (record i.residual { bans = i.residual.bans ++ (length i.residual.journal, leaf) ∷ [] }) c i.world i.committed
    kept_switched claim leaf c allowed on raised =
        let k = kept.kept in
        kept_raised (Failed claim Switched) (record s { bans = s.bans ++ (length s.journal, leaf_of_claim s claim) ∷ []; claims = answer claim s.claims })
        (record i.residual { bans = i.residual.bans ++ (length i.residual.journal, leaf) ∷ [] }) (answer claim i.claims.claims) c i.world allowed refl refl k.remains.journal_is
        (λ j. k.remains.bans_are j ++ (length (k.remains.journal_is j), on j) ∷ []) (ap (answer claim) k.claims.claims_are) refl refl
        (events-answer w.labels claim i.claims.claims ∙ k.claims.events_are) (length-map i.claims.claims _) raised (same_course (next_state w s (Failed claim Switched)) refl) refl

    -- the journal is cut
    abbrev rewound : ℕ → Remaining
    rewound index =
        record i.residual { journal = take index i.residual.journal; bans = filter (λ ban. nat_le ban.0 index) i.residual.bans ++ (index, slice_index i.residual.journal index) ∷ [] }

    pub kept_rewound : (index : ℕ) (c : Claimed) → IsOpenIndex w s index → IsRaised (rewound index) i.claims.claims c →
        Keeps (Rewound index) (rewound index) c (record i.world { labels = take index i.world.labels }) i.committed
    kept_rewound index c allowed raised =
        let k = kept.kept in
        let bans : List ℕ → List (ℕ × ℕ) → List (ℕ × ℕ) = λ journal bans. filter (λ ban. nat_le ban.0 index) bans ++ (index, slice_index journal index) ∷ [] in
        kept_raised (Rewound index) (record s { journal = take index s.journal; bans = bans s.journal s.bans })
        (rewound index) i.claims.claims c _ allowed refl refl (ap (take index) k.remains.journal_is)
        (λ j. bans (k.remains.journal_is j) (k.remains.bans_are j)) k.claims.claims_are refl refl k.claims.events_are refl raised
        (record {
          held_is = k.course.held_is;
          count = k.course.count;
          labels_are = ap (take index) k.course.labels_are ∙ sym (labels_at-take w.labels s.journal index (journal_within w k.remains.well_formed s sound_now));
          room = k.course.room;
        }) refl
