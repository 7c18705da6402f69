-- What a run with just some leaves done is after one leaf more.
use Rattle.std.proofs.Common.{◌≡◌, ◌≢◌, ◌≤◌, ◌<◌, ◌+◌, ◌*◌, ◌==◌, ℕ, suc, true, false, IsTrue, List, [], ◌∷◌, ◌++◌, length, map, filter, find, Option, Some, None, inl, inr, ⊎_elim, refl, sym, ap, subst, ◌∙◌, append_assoc, arith, length-append, true≢false, is_some}
use Rattle.std.proofs.lemmas.Bool.{cases_Bool, eqb-true, eq-eqb, ne_eqb, and_parts}
use Rattle.std.proofs.lemmas.List.{length-map}
use Rattle.std.proofs.lemmas.List.Elements.{filter_map-append}
use Rattle.flow_model.specs.declared.labels.Label.{Label}
use Rattle.flow_model.specs.declared.history.Step.{Step}
use Rattle.flow_model.specs.declared.history.Step.TheVariants.{Took, Done, Did}
use Rattle.flow_model.specs.Decided.{cons_same, order_of_none}
use Rattle.flow_model.specs.Duties.{Duties, IsLeft}
use Rattle.flow_model.specs.Facts.{HoldsAt, event_at, events_of, replay}
use Rattle.flow_model.specs.Lists.{◌∈◌, AreDistinct, Begins, Each, IsOrderOf, numbers_from}
use Rattle.flow_model.specs.Run.{Claim, RunState, answer, claim_at, current_leaves, is_current, leaf_of_claim, next_state, CanTake, IsAllowed, IsFree}
use Rattle.flow_model.specs.Schema.{Schema, IsGood, start_of}
use Rattle.flow_model.specs.Takers.{Takings, next_takings, IsTakenBy}
use Rattle.flow_model.proofs.Lists.{each-append, each_member, mem_append_right, mem_here, distinct_apart, distinct_left}
use Rattle.flow_model.proofs.MadeLists.{mem-filter_map, numbers_from_below, some_same}
use Rattle.flow_laws.specs.Histories.{IsSound}
use Rattle.flow_laws.specs.WellFormed.{IsWellFormed}
use Rattle.flow_laws.proofs.ClaimLemmas.{number_of, leaf_of_claim_is}
use Rattle.flow_laws.proofs.NeverAtALoss.{take_next}
use Rattle.flow_laws.proofs.SoundStates.{free_may_follow, kept_next}
use Rattle.flow_laws.proofs.TraceLeaves.{leaf_of_trace}
use Rattle.flow_duty_laws.proofs.Claims.{AreThose}
use Rattle.flow_duty_laws.proofs.Kept.{taken_before, those_next, IsTook}
use Rattle.flow_stages.specs.Asked.{IsEventOf}
use Rattle.flow_questions.specs.Made.{AreDoneIn, MayComeNext}

-- ---- lists of claims

-- where each claim is answered, none is out
none_out : (s : RunState) (claims : List Claim) → Each (λ (claim : Claim). IsTrue claim.answered) claims →
    map (λ (claim : Claim). claim.leaf) (filter (is_current s) claims) ≡ []
none_out s [] h = refl
none_out s (x ∷ xs) (h, t) = grind (arith, h, none_out s xs t)

-- a claim behind claims that are numbered in turn is found by its number
found_last : (first : ℕ) (claims : List Claim) (new : Claim) (number : ℕ) → map number_of claims ≡ numbers_from first (length claims) → number ≡ first + length claims →
    new.number ≡ number → find (λ (x : Claim). x.number == number) (claims ++ new ∷ []) ≡ Some new
found_last first [] new number numbered is so = rw (eq-eqb new.number number so) refl
found_last first (x ∷ xs) new number numbered is so =
    let both = cons_same x.number first (map number_of xs) (numbers_from (first + 1) (length xs)) numbered in
    rw (ne_eqb x.number number (omega (arith, both.0, is))) (found_last (first + 1) xs new number both.1 (omega (arith, is)) so)

-- once it is answered, each claim is
all_answered : (claims : List Claim) (new : Claim) (number : ℕ) → Each (λ (claim : Claim). IsTrue claim.answered) claims → new.number ≡ number →
    Each (λ (claim : Claim). IsTrue claim.answered) (answer number (claims ++ new ∷ []))
all_answered [] new number h so = rw (eq-eqb new.number number so) (refl, tt)
all_answered (x ∷ xs) new number (h, t) so = grind (arith, cases_Bool (x.number == number), h, all_answered xs new number t so)

-- ---- events

-- two leaves of one event do not stand in a good trace, one before the other
pub not_again : (w : Schema) → IsWellFormed w → (t list : List ℕ) (n m event : ℕ) → IsGood w t → Begins t (list ++ m ∷ []) → n ∈ list →
    event_at w.labels n ≡ Some event → event_at w.labels m ≡ Some event → ⊥
not_again w f t list n m event good (rest, e) there ne me =
    let whole : AreDistinct (events_of w.labels ((list ++ m ∷ []) ++ rest)) = subst (λ l. AreDistinct (events_of w.labels l)) e (f.unique t good.0) in
    let front : AreDistinct (events_of w.labels (list ++ m ∷ [])) = distinct_left (events_of w.labels (list ++ m ∷ [])) (events_of w.labels rest)
    (subst AreDistinct (filter_map-append (event_at w.labels) (list ++ m ∷ []) rest) whole) in
    distinct_apart (events_of w.labels list) (events_of w.labels (m ∷ [])) (subst AreDistinct (filter_map-append (event_at w.labels) list (m ∷ [])) front) event
    (mem-filter_map (event_at w.labels) n event list there ne) (mem-filter_map (event_at w.labels) m event (m ∷ []) (inl refl) me)

one_event : (labels : List Label) (list : List ℕ) (n event : ℕ) → event_at labels n ≡ Some event → length (events_of labels (list ++ n ∷ [])) ≡ length (events_of labels list) + 1
one_event labels list n event is = rw (filter_map-append (event_at labels) list (n ∷ []), is) (length-append (events_of labels list) (event ∷ []))

no_event : (labels : List Label) (list : List ℕ) (n : ℕ) → event_at labels n ≡ None → length (events_of labels (list ++ n ∷ [])) ≡ length (events_of labels list)
no_event labels list n is = rw (filter_map-append (event_at labels) list (n ∷ []), is) (omega (arith, length-append (events_of labels list) []))

module _ (w : Schema) (f : IsWellFormed w) (s : RunState) (t : Takings) (sound : IsSound w s) (those : AreThose s.claims t.given) (list : List ℕ) (to : ℕ → ℕ)
    (done : AreDoneIn w s t list to) where
  -- what is taken is done
  pub taken_is_done : (n user : ℕ) → IsTakenBy s t n user → n ∈ list
  taken_is_done n user (inl (claim, o, m)) =
      let answered : o.claim.answered ≡ true = each_member (λ (claim : Claim). IsTrue claim.answered) s.claims done.answered o.claim o.given in
      let current : is_current s o.claim ≡ true = o.current in
      absurd (true≢false (sym current ∙ (rw answered refl)))
  taken_is_done n user (inr (j, e)) = subst (λ l. n ∈ l) done.journal j

  no_claim : current_leaves s ≡ []
  no_claim = none_out s s.claims done.answered

  module _ (leaf : ℕ) (trace : List ℕ) (good : IsGood w trace) (begins : Begins trace (list ++ leaf ∷ [])) where
    free : IsFree w s trace
    free = let (rest, e) = begins in
        (good, (leaf ∷ rest, e ∙ append_assoc list (leaf ∷ []) rest ∙ ap (λ l. l ++ leaf ∷ rest) (sym done.journal)), subst (Each (λ ban. ¬ (ban.1 ∈ trace))) (sym done.no_ban) tt)

    begins_there : Begins trace (s.journal ++ leaf ∷ [])
    begins_there = subst (λ l. Begins trace (l ++ leaf ∷ [])) (sym done.journal) begins

    -- a leaf of an event that comes next in a good trace can be taken
    pub can_take : (event : ℕ) → event_at w.labels leaf ≡ Some event → CanTake w s leaf
    can_take event is = take_next w f s leaf trace (ap is_some is) no_claim free begins_there

  module _ (d : Duties) (leaf : ℕ) (next : MayComeNext w d list to leaf) where
    abbrev trace : List ℕ
    trace = next.goes_on.0

    abbrev good : IsGood w trace
    good = next.goes_on.1

    abbrev begins : Begins trace (list ++ leaf ∷ [])
    begins = next.goes_on.2

    -- ---- an event

    -- duties leave it to its taker
    pub is_left : (event : ℕ) → event_at w.labels leaf ≡ Some event → IsLeft w d s t (to event) event
    is_left event is = record {
      role = next.role event is;
      apart = λ i (g, n, tie, ng, taken).
          let there = taken_is_done n (to event) taken in
          elim (cases_Bool (event == g)) [
            | inl same ↦ not_again w f trace list n leaf event good begins there (ng ∙ ap Some (sym (eqb-true event g same))) is
            | inr other ↦ (next.beside event g is (n, there, ng)).apart (λ same. true≢false (sym (eq-eqb event g same) ∙ other)) i tie (done.takers n (to event) g ng taken)
          ];
      together = λ i (g, n, user, tie, ng, taken, differ).
          let there = taken_is_done n user taken in
          let by : user ≡ to g = done.takers n user g ng taken in
          let goes = next.beside event g is (n, there, ng) in
          elim (cases_Bool (event == g)) [
            | inl same ↦ differ (by ∙ sym (goes.same (eqb-true event g same)))
            | inr other ↦ differ (by ∙ sym (goes.together (λ same. true≢false (sym (eq-eqb event g same) ∙ other)) i tie))
          ];
    }

    -- it is taken under the next claim, and done
    module _ (event : ℕ) (is : event_at w.labels leaf ≡ Some event) (claim : ℕ) (number : claim ≡ length s.claims + 1) (by : ℕ) (so : by ≡ to event) where
      abbrev new : Claim
      new = record { number = claim; leaf = leaf; epoch = s.epoch; answered = false }

      abbrev took : Step
      took = Took claim leaf

      abbrev s1 : RunState
      s1 = next_state w s took

      abbrev t1 : Takings
      t1 = next_takings t by took

      pub took_allowed : IsAllowed w s took
      took_allowed = (number, can_take leaf trace good begins event is)

      sound1 : IsSound w s1
      sound1 = kept_next w f s sound took took_allowed

      those1 : AreThose s1.claims t1.given
      those1 = those_next w s t those by took

      found : claim_at s1 claim ≡ Some new
      found = found_last 1 s.claims new claim sound.numbered (omega (arith, number)) refl

      pub done_allowed : IsAllowed w s1 (Done claim)
      done_allowed = rw found (eq-eqb s.epoch s.epoch refl)

      same_leaf : (c n : ℕ) → Took claim leaf ≡ Took c n → leaf ≡ n
      same_leaf c n same = cc

      by_took : (n user e : ℕ) → event_at w.labels n ≡ Some e → IsTook took n by user → user ≡ to e
      by_took n user e ne ((c, same), it) =
          let of : event ≡ e = some_same event e (sym is ∙ ap (event_at w.labels) (same_leaf c n same) ∙ ne) in
          sym it ∙ so ∙ ap to of

      not_took : (c n : ℕ) → Done claim ≡ Took c n → ⊥
      not_took c n same = cc

      pub event_done : AreDoneIn w (next_state w s1 (Done claim)) (next_takings t1 by (Done claim)) (list ++ leaf ∷ []) to
      event_done = record {
        going = done.going;
        journal = λ i. done.journal i ++ leaf_of_claim_is s1 claim new found i ∷ [];
        no_ban = done.no_ban;
        answered = all_answered s.claims new claim done.answered refl;
        claims = length-map (s.claims ++ new ∷ []) _ ∙ (length-append s.claims (new ∷ []) ∙ (ap (λ k. k + 1) done.claims ∙ sym (one_event w.labels list leaf event is)));
        takers = λ n user e ne taken. ⊎_elim
            (λ mid. ⊎_elim (λ old. done.takers n user e ne old) (by_took n user e ne) (taken_before w s t sound those by took took_allowed n user e ne mid))
            (λ ((c, other), it). absurd (not_took c n other))
            (taken_before w s1 t1 sound1 those1 by (Done claim) done_allowed n user e ne taken);
      }

    -- ---- another leaf

    module _ (is : event_at w.labels leaf ≡ None) (by : ℕ) where
      within : leaf < length w.labels
      within =
          let (rest, e) = begins in
          let in_trace : leaf ∈ trace = subst (λ l. leaf ∈ l) (sym (e ∙ append_assoc list (leaf ∷ []) rest)) (mem_here leaf list rest) in
          let in_goal : leaf ∈ numbers_from 0 (length w.labels) = subst (λ l. leaf ∈ l) f.numbered (leaf_of_trace w.goal trace good.0 leaf in_trace) in
          omega (arith, numbers_from_below 0 (length w.labels) leaf in_goal)

      pub did_allowed : IsAllowed w s (Did leaf)
      did_allowed =
          let (o, m, follows) = free_may_follow w f s trace (leaf ∷ []) (free leaf trace good begins) (begins_there leaf trace good begins) in (
            (
              (within, is),
              (
                o,
                m,
                λ order p. follows (leaf ∷ order) (ap (λ l. leaf ∷ l) (order_of_none order (subst (IsOrderOf order) no_claim p))),
              ),
            ),
            subst (λ l. HoldsAt w.labels (replay w.labels (start_of w) l) leaf) (sym done.journal) next.holds,
          )

      not_given : (c n : ℕ) → Did leaf ≡ Took c n → ⊥
      not_given c n same = cc

      pub other_done : AreDoneIn w (next_state w s (Did leaf)) (next_takings t by (Did leaf)) (list ++ leaf ∷ []) to
      other_done = record {
        going = done.going;
        journal = ap (λ l. l ++ leaf ∷ []) done.journal;
        no_ban = done.no_ban;
        answered = done.answered;
        claims = done.claims ∙ sym (no_event w.labels list leaf is);
        takers = λ n user e ne taken. ⊎_elim (λ old. done.takers n user e ne old)
            (λ ((c, other), it). absurd (not_given c n other))
            (taken_before w s t sound those by (Did leaf) did_allowed n user e ne taken);
      }
