-- One more event of a case, and one more sequence in its place.
use Rattle.std.proofs.Common.{◌≡◌, ◌≢◌, ◌<◌, ◌≤◌, ◌+◌, ◌++◌, ◌∷◌, ◌==◌, inl, inr, [], Bool, true, false, ℕ, List, map, length, slice_index, refl, sym, ap, ◌∙◌, subst, arith, get_or-set_same, get_or-set_other, length-append, reverse, Vec, Global}
use Rattle.std.specs.List.{filter}
use Rattle.std.proofs.Math.ListN.{set, length-set, get_or-append}
use Rattle.std.proofs.Math.Seq.{get_or-append_seam}
use Rattle.std.proofs.lemmas.Bool.{eq-eqb, ne_eqb, cases_eq}
use Rattle.std.proofs.lemmas.List.{map-append, reverse-append, reverse-reverse, append-nil}
use Rattle.std.proofs.lemmas.List.Elements.{filter-append}
use Rattle.flow_event_log.specs.declared.sequences.Step.{Step}
use Rattle.flow_event_log.specs.Reached.{IsReached}
use Rattle.flow_event_log.specs.Grouped.{events_of_case, AreCases}
use Rattle.flow_event_log.specs.Ends.{AreEnds, StandsAt, ArePlaced, HavePlaces}
use Rattle.flow_event_log.proofs.ReachedLemmas.{get_before, get_last}

filter_one : {X : Type 0} (p : X → Bool) (x : X) → p x ≡ true → filter p (x ∷ []) ≡ x ∷ []
filter_one p x h = rw h refl

filter_none : {X : Type 0} (p : X → Bool) (x : X) → p x ≡ false → filter p (x ∷ []) ≡ []
filter_none p x h = rw h refl

abbrev is_of : ℕ → ℕ × ℕ → Bool
is_of case entry = entry.0 == case

abbrev event_in : ℕ × ℕ → ℕ
event_in entry = entry.1

pub own_event : (case event : ℕ) (entries : List (ℕ × ℕ)) → events_of_case case (entries ++ (case, event) ∷ []) ≡ events_of_case case entries ++ event ∷ []
own_event case event entries =
    ap (map event_in) (filter-append (is_of case) entries ((case, event) ∷ [])
    ∙ ap (λ (more : List (ℕ × ℕ)). filter (is_of case) entries ++ more) (filter_one (is_of case) (case, event) (eq-eqb case case refl)))
    ∙ map-append event_in (filter (is_of case) entries) ((case, event) ∷ [])

pub other_event : (case other event : ℕ) (entries : List (ℕ × ℕ)) → other ≢ case → events_of_case other (entries ++ (case, event) ∷ []) ≡ events_of_case other entries
other_event case other event entries apart =
    ap (map event_in) (filter-append (is_of other) entries ((case, event) ∷ [])
    ∙ ap (λ (more : List (ℕ × ℕ)). filter (is_of other) entries ++ more) (filter_none (is_of other) (case, event) (ne_eqb case other (λ same. apart (sym same))))
    ∙ append-nil (filter (is_of other) entries))

at_same : (xs : List ℕ) (i v : ℕ) → i < length xs → slice_index (set xs i v) i ≡ v
at_same xs i v below = get_or-set_same xs i v 0 below

at_other : (xs : List ℕ) (i j v : ℕ) → j ≢ i → slice_index (set xs i v) j ≡ slice_index xs j
at_other xs i j v apart = get_or-set_other xs i j v 0 apart

pub next_ends : (cases : ℕ) (entries : List (ℕ × ℕ)) (steps steps' : List Step) (ends : List ℕ) (case event number : ℕ) → AreEnds cases entries steps ends → case < cases →
    ((events : List ℕ) → IsReached steps (slice_index ends case) events → IsReached steps' number (event ∷ events)) →
    ((n : ℕ) (events : List ℕ) → IsReached steps n events → IsReached steps' n events) →
    number ≤ length steps' → length steps ≤ length steps' →
    AreEnds cases (entries ++ (case, event) ∷ []) steps' (set ends case number)
next_ends cases entries steps steps' ends case event number are below reached kept bound more = record {
  one_each = length-set ends case number ∙ are.one_each;
  known = λ other within. elim (cases_eq other case) [
    | inl same ↦ (let e = ap (slice_index (set ends case number)) same ∙ at_same ends case number small in omega (arith, e, bound))
    | inr apart ↦ (let e = at_other ends case other number apart in let old = are.known other within in omega (arith, e, old, more))
  ];
  reached = λ other within. elim (cases_eq other case) [
    | inl same ↦
        let here : IsReached steps' number (event ∷ reverse (events_of_case case entries)) = reached (reverse (events_of_case case entries)) (are.reached case below) in
        let list : reverse (events_of_case case (entries ++ (case, event) ∷ [])) ≡ event ∷ reverse (events_of_case case entries) =
        ap reverse (own_event case event entries) ∙ reverse-append (events_of_case case entries) (event ∷ []) in
        let at : slice_index (set ends case number) case ≡ number = at_same ends case number small in
        let there : IsReached steps' (slice_index (set ends case number) case) (reverse (events_of_case case (entries ++ (case, event) ∷ []))) =
        subst (λ (n : ℕ). IsReached steps' n (reverse (events_of_case case (entries ++ (case, event) ∷ [])))) (sym at)
        (subst (λ (es : List ℕ). IsReached steps' number es) (sym list) here) in
        subst (λ (c : ℕ). IsReached steps' (slice_index (set ends case number) c) (reverse (events_of_case c (entries ++ (case, event) ∷ [])))) (sym same) there
    | inr apart ↦
        let list = ap reverse (other_event case other event entries apart) in
        let old = kept (slice_index ends other) (reverse (events_of_case other entries)) (are.reached other within) in
        subst (λ (n : ℕ). IsReached steps' n (reverse (events_of_case other (entries ++ (case, event) ∷ [])))) (sym (at_other ends case other number apart))
        (subst (λ (es : List ℕ). IsReached steps' (slice_index ends other) es) (sym list) old)
  ];
}
  where
    small : case < length ends
    small = (let each = are.one_each in omega (arith, below, each))

pub first_ends : (cases : ℕ) (steps : List Step) (ends : List ℕ) → length ends ≡ cases → ((case : ℕ) → case < cases → slice_index ends case ≡ 0) → AreEnds cases [] steps ends
first_ends cases steps ends each zeros = record {
  one_each = each;
  known = λ case within. (let e = zeros case within in omega (arith, e));
  reached = λ case within. zeros case within;
}

pub stands_more : (steps : List Step) (sequences more : List (Vec ℕ Global)) (number place : ℕ) → StandsAt steps sequences number place → StandsAt steps (sequences ++ more) number place
stands_more steps sequences more number place at = record {
  events = at.events;
  stands = get_before sequences more place at.events at.stands;
  are = at.are;
}

pub stands_last : (steps : List Step) (sequences : List (Vec ℕ Global)) (events : Vec ℕ Global) (number : ℕ) →
    ((latest_first : List ℕ) → IsReached steps number latest_first → events.items ≡ reverse latest_first) → StandsAt steps (sequences ++ events ∷ []) number (length sequences)
stands_last steps sequences events number are = record {
  events = events;
  stands = get_last sequences events;
  are = are;
}

pub placed_more : (steps : List Step) (places : List ℕ) (sequences : List (Vec ℕ Global)) (events : Vec ℕ Global) (end : ℕ) → ArePlaced steps places sequences → end ≤ length steps →
    ((latest_first : List ℕ) → IsReached steps end latest_first → events.items ≡ reverse latest_first) →
    ArePlaced steps (set places end (length sequences + 1)) (sequences ++ events ∷ [])
placed_more steps places sequences events end are within of = record {
  wide = length-set places end (length sequences + 1) ∙ are.wide;
  placed = λ number place is. elim (cases_eq number end) [
    | inl same ↦
        let count : place ≡ length sequences =
        (let e = sym is ∙ ap (slice_index (set places end (length sequences + 1))) same ∙ at_same places end (length sequences + 1) small in omega (arith, e)) in
        subst (λ (p : ℕ). StandsAt steps (sequences ++ events ∷ []) number p) (sym count)
        (subst (λ (n : ℕ). StandsAt steps (sequences ++ events ∷ []) n (length sequences)) (sym same) (stands_last steps sequences events end of))
    | inr apart ↦ stands_more steps sequences (events ∷ []) number place (are.placed number place (sym (at_other places end number (length sequences + 1) apart) ∙ is))
  ];
}
  where
    small : end < length places
    small = (let wide = are.wide in omega (arith, within, wide))

pub have_more : (steps : List Step) (ends of_ends : List ℕ) (sequences more : List (Vec ℕ Global)) (count place : ℕ) → HavePlaces steps ends sequences count of_ends →
    ((n p : ℕ) → StandsAt steps sequences n p → StandsAt steps more n p) → StandsAt steps more (slice_index ends count) place →
    HavePlaces steps ends more (count + 1) (of_ends ++ place ∷ [])
have_more steps ends of_ends sequences more count place have kept here = record {
  one_each = (let each = have.one_each in omega (arith, each, length-append of_ends (place ∷ [])));
  each = λ k within. elim (cases_eq k count) [
    | inl same ↦
        let at : slice_index (of_ends ++ place ∷ []) k ≡ place =
        ap (λ (i : ℕ). slice_index (of_ends ++ place ∷ []) i) (same ∙ sym have.one_each) ∙ get_or-append_seam of_ends place [] 0 in
        subst (λ (p : ℕ). StandsAt steps more (slice_index ends k) p) (sym at)
        (subst (λ (i : ℕ). StandsAt steps more (slice_index ends i) place) (sym same) here)
    | inr apart ↦
        let below : k < count = omega (arith, within, apart) in
        let at : slice_index (of_ends ++ place ∷ []) k ≡ slice_index of_ends k =
        get_or-append of_ends (place ∷ []) 0 k (let each = have.one_each in omega (arith, below, each)) in
        subst (λ (p : ℕ). StandsAt steps more (slice_index ends k) p) (sym at) (kept (slice_index ends k) (slice_index of_ends k) (have.each k below))
  ];
}

pub grouped : (cases : ℕ) (entries : List (ℕ × ℕ)) (steps : List Step) (ends of_cases : List ℕ) (sequences : List (Vec ℕ Global)) →
    AreEnds cases entries steps ends → HavePlaces steps ends sequences (length ends) of_cases → AreCases cases entries of_cases sequences
grouped cases entries steps ends of_cases sequences are have = record {
  one_each = have.one_each ∙ are.one_each;
  each = λ case within.
      let at = have.each case (let each = are.one_each in omega (arith, within, each)) in
      (at.events, at.stands, at.are (reverse (events_of_case case entries)) (are.reached case within) ∙ reverse-reverse (events_of_case case entries));
}
