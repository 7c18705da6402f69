-- The events of claims and their attempts, as one is given and as one is answered.
use Rattle.std.proofs.Common.{◌≡◌, ◌≢◌, ◌≤◌, ◌<◌, ◌+◌, ◌-◌, ℕ, zero, suc, Bool, true, false, cond, nat_eq, ◌==◌, List, [], ◌∷◌, ◌++◌, length, map, set, take, drop, slice_index, Option, Some, None, slice_get, inl, inr, ⊎_elim, refl, sym, ap, ◌∙◌, subst, arith, append-nil, append_assoc, length-append, length-set, MatchOption}
use Rattle.std.specs.List.{remove, position_from}
use Rattle.std.specs.Option.{option_map}
use Rattle.std.proofs.lemmas.Option.{slice_get-map, slice_get_within}
use Rattle.std.proofs.lemmas.Bool.{eq-eqb, ne_eqb}
use Rattle.std.proofs.lemmas.List.Sums.{sum_by-cons, sum_by_push, sum_by-take-drop, count_by-le-length}
use Rattle.std.proofs.lemmas.List.{drop_all, drop-append-le, get_or-set_same, get_or-set_other, length-map, map-append}
use Rattle.flow_model.specs.Lists.{◌∈◌, Each}
use Rattle.flow_model.specs.Decided.{cons_same, decide_eq}
use Rattle.flow_model.proofs.Lists.{each-append, mem-append, only_one, slice_get_append_left}
use Rattle.flow_model.proofs.MadeLists.{slice_get_append_right, some_same}
use Rattle.flow_residual.specs.declared.given.Given.{Given}
use Rattle.flow_model.specs.Run.{claim_at, answer}
use Rattle.flow_residual.specs.Given.{claim_of, claims_from, is_out, out_places, out_leaves}
use Rattle.flow_residual.specs.Claimed.{run_of, count_of, IsGivenAt, IsLastOn}
use Rattle.flow_residual.specs.Fields.{events_of, takers_of, claimed, AreCounted, IsLastOf, IsKept}
use Rattle.flow_residual.proofs.Numbering.{answered, claims_counted, claims_from-append, answer-claims_from, told, claim_in, none_of_zero, claim_is}
use Rattle.flow_residual.proofs.Outstanding.{out_given, found, not_found, answer_out, answer_other}

abbrev one_if : Bool → ℕ
one_if b = cond b 1 0

pub count-push : (event other : ℕ) (events : List ℕ) → count_of event (events ++ other ∷ []) ≡ count_of event events + one_if (nat_eq other event)
count-push event other events = sum_by_push (λ x. one_if (nat_eq x event)) events other

pub counted_more : (before : List ℕ) (gs : List Given) (g : Given) → AreCounted before gs →
    g.attempt ≡ count_of g.event ((before ++ events_of gs) ++ g.event ∷ []) → AreCounted before (gs ++ g ∷ [])
counted_more before [] g h is = (rw (append-nil before) at is, tt)
counted_more before (x ∷ gs) g (h, t) is =
    (h, counted_more (before ++ x.event ∷ []) gs g t (rw (append_assoc before (x.event ∷ []) (events_of gs)) is))

-- only events and attempts count
abbrev pub counts_of : Given → ℕ × ℕ
counts_of g = (g.attempt, g.event)

pub counted_alike : (before : List ℕ) (gs new : List Given) → map counts_of new ≡ map counts_of gs → AreCounted before gs → AreCounted before new
counted_alike before [] [] same h = tt
counted_alike before [] (x ∷ new) same h = cc
counted_alike before (g ∷ gs) [] same h = cc
counted_alike before (g ∷ gs) (x ∷ new) same (h, t) =
    let both = cons_same (counts_of x) (counts_of g) (map counts_of new) (map counts_of gs) same in
    subst (λ (p : ℕ × ℕ). (p.0 ≡ count_of p.1 (before ++ p.1 ∷ [])) × AreCounted (before ++ p.1 ∷ []) new) (sym both.0) (h, counted_alike (before ++ g.event ∷ []) gs new both.1 t)

-- the attempt of the claim at a place
pub attempt_at : (before : List ℕ) (gs : List Given) (i : ℕ) (g : Given) → AreCounted before gs → slice_get gs i ≡ Some g →
    g.attempt ≡ count_of g.event (before ++ take (suc i) (events_of gs))
attempt_at before [] i g h at = cc
attempt_at before (x ∷ gs) zero g h at =
    let e : x ≡ g = cc in subst (λ (y : Given). y.attempt ≡ count_of y.event (before ++ x.event ∷ [])) e h.0
attempt_at before (x ∷ gs) (suc i) g h at =
    attempt_at (before ++ x.event ∷ []) gs i g h.1 at ∙ ap (count_of g.event) (append_assoc before (x.event ∷ []) (take (suc i) (events_of gs)))

-- ---- the last claim on an event

pub count_none : (event : ℕ) (events : List ℕ) → ¬ (event ∈ events) → count_of event events ≡ 0
count_none event [] out = refl
count_none event (x ∷ xs) out =
    sum_by-cons (λ x. one_if (nat_eq x event)) x xs ∙ (λ i. one_if (ne_eqb x event (λ e. out (inl (sym e))) i) + count_none event xs (λ m. out (inr m)) i)

-- where none comes later, those up to it are all
pub count_last : (event number : ℕ) (events : List ℕ) → ¬ (event ∈ drop number events) → count_of event (take number events) ≡ count_of event events
count_last event number events out =
    let split = sum_by-take-drop (λ x. one_if (nat_eq x event)) events number in
    let none = count_none event (drop number events) out in
    omega arith

-- no more were given on an event than in all
pub few_on : (gs : List Given) (event : ℕ) → count_of event (events_of gs) ≤ length gs
few_on gs event = subst (λ n. count_of event (events_of gs) ≤ n) (length-map gs (λ (g : Given). g.event)) (count_by-le-length (λ other. other == event) (events_of gs))

last_within : (events : List ℕ) (event number : ℕ) → IsLastOf events event number → number ≤ length events
last_within events event number is = elim is.on_it [
  | inl none ↦ omega arith
  | inr at ↦ (let within = slice_get_within events (number - 1) event at in omega arith)
]

-- a claim more on another event leaves it the last on its own
last_stays : (events : List ℕ) (event other number : ℕ) → IsLastOf events other number → other ≢ event → IsLastOf (events ++ event ∷ []) other number
last_stays events event other number is differs = record {
  on_it = ⊎_elim inl (λ at. inr (slice_get_append_left events (event ∷ []) (number - 1) other at)) is.on_it;
  none_later = λ m. ⊎_elim is.none_later (λ one. differs (only_one other event one))
      (mem-append other (drop number events) (event ∷ []) (subst (λ l. other ∈ l) (drop-append-le number events (event ∷ []) (last_within events other number is)) m));
}

last_given : (events : List ℕ) (event number : ℕ) → number ≡ length events + 1 → IsLastOf (events ++ event ∷ []) event number
last_given events event number is =
    let all : length (events ++ event ∷ []) ≡ length events + 1 = length-append events (event ∷ []) in
    let place : number - 1 ≡ length events + 0 = omega arith in record {
      on_it = inr (ap (slice_get (events ++ event ∷ [])) place ∙ slice_get_append_right events (event ∷ []) 0);
      none_later = λ m. subst (λ l. event ∈ l) (drop_all number (events ++ event ∷ []) (omega arith)) m;
    }

lasts_more : (events last : List ℕ) (event number : ℕ) → ((other : ℕ) → other < length last → IsLastOf events other (slice_index last other)) → event < length last →
    number ≡ length events + 1 → (other : ℕ) → other < length last → IsLastOf (events ++ event ∷ []) other (slice_index (set last event number) other)
lasts_more events last event number lasts within is other h = elim (decide_eq other event) [
  | inl same ↦ subst (λ o. IsLastOf (events ++ event ∷ []) o (slice_index (set last event number) o)) (sym same)
      (subst (IsLastOf (events ++ event ∷ []) event) (sym (get_or-set_same last event number 0 within)) (last_given events event number is))
  | inr differs ↦ subst (IsLastOf (events ++ event ∷ []) other) (sym (get_or-set_other last event other number 0 differs))
      (last_stays events event other (slice_index last other) (lasts other h) differs)
]

-- ---- one more is given

module _ (gs new : List Given) (current new_current leaves new_leaves last : List ℕ) (e leaf event by attempt place number : ℕ) (k : IsKept gs current leaves last e)
    (within : event < length last) (is : attempt ≡ count_of event (events_of gs) + 1) (here : place ≡ length gs) (next : number ≡ place + 1) where
  abbrev g : Given
  g = record { leaf = leaf; event = event; by = by; epoch = e; attempt = attempt; answered = false }

  pub kept_given : new ≡ gs ++ g ∷ [] → new_current ≡ current ++ place ∷ [] → new_leaves ≡ leaves ++ leaf ∷ [] → IsKept new new_current new_leaves (set last event number) e
  kept_given more more_current more_leaves =
      let out : is_out e g ≡ true = eq-eqb e e refl in
      let once : one_if (nat_eq event event) ≡ 1 = ap one_if (eq-eqb event event refl) in
      let counted = count-push event event (events_of gs) in
      let count : attempt ≡ count_of event (events_of gs ++ event ∷ []) = omega arith in
      let events : events_of gs ++ event ∷ [] ≡ events_of (gs ++ g ∷ []) = sym (map-append (λ (g : Given). g.event) gs (g ∷ [])) in
      let same : length (set last event number) ≡ length last = length-set last event number in
      let as_many : length (events_of gs) ≡ length gs = length-map gs (λ (g : Given). g.event) in
      rw (more, more_current, more_leaves) (record {
        epochs = each-append (λ (g : Given). g.epoch ≤ e) gs (g ∷ []) k.epochs (omega arith, tt);
        current_are = ap (λ l. l ++ place ∷ []) k.current_are ∙ ap (λ n. out_places e 0 gs ++ n ∷ []) (omega arith) ∙ sym (out_given (λ place g. place) e 0 gs g out);
        leaves_are = ap (λ l. l ++ leaf ∷ []) k.leaves_are ∙ sym (out_given (λ place g. g.leaf) e 0 gs g out);
        counted = counted_more [] gs g k.counted count;
        known = subst (λ n. Each (λ event. event < n) (events_of (gs ++ g ∷ []))) (sym same)
            (subst (Each (λ event. event < length last)) events (each-append (λ event. event < length last) (events_of gs) (event ∷ []) k.known (within, tt)));
        lasts = λ other h. subst (λ l. IsLastOf l other (slice_index (set last event number) other)) events
            (lasts_more (events_of gs) last event number k.lasts within (omega arith) other (omega arith));
      })

-- ---- one is answered

pub epochs_answered : (P : Given → Type 0) → ((g : Given) → P g → P (answered g)) → (gs : List Given) (i : ℕ) (g : Given) → slice_get gs i ≡ Some g →
    Each P gs → Each P (set gs i (answered g))
epochs_answered P keeps [] i g at h = cc
epochs_answered P keeps (x ∷ gs) zero g at (h, t) = let e : x ≡ g = cc in (keeps g (subst P e h), t)
epochs_answered P keeps (x ∷ gs) (suc i) g at (h, t) = (h, epochs_answered P keeps gs i g at t)

pub map-answered : {A : Type 0} (f : Given → A) → ((g : Given) → f (answered g) ≡ f g) → (gs : List Given) (i : ℕ) (g : Given) → slice_get gs i ≡ Some g → map f (set gs i (answered g)) ≡ map f gs
map-answered f same [] i g at = cc
map-answered f same (x ∷ gs) zero g at = let e : g ≡ x = cc in ap (λ z. z ∷ map f gs) (same g ∙ ap f e)
map-answered f same (x ∷ gs) (suc i) g at = ap (λ l. f x ∷ l) (map-answered f same gs i g at)

pub events_answered : (gs : List Given) (i : ℕ) (g : Given) → slice_get gs i ≡ Some g → events_of (set gs i (answered g)) ≡ events_of gs
events_answered = map-answered (λ g. g.event) (λ g. refl)

module _ (gs : List Given) (current leaves last : List ℕ) (e : ℕ) (k : IsKept gs current leaves last e) (place : ℕ) (g : Given) (at : slice_get gs place ≡ Some g) where
  with_lists : (new_current new_leaves : List ℕ) → new_current ≡ out_places e 0 (set gs place (answered g)) → new_leaves ≡ out_leaves e 0 (set gs place (answered g)) →
      IsKept (set gs place (answered g)) new_current new_leaves last e
  with_lists new_current new_leaves p l = record {
    epochs = epochs_answered (λ (g : Given). g.epoch ≤ e) (λ g h. h) gs place g at k.epochs;
    current_are = p;
    leaves_are = l;
    counted = counted_alike [] gs (set gs place (answered g)) (map-answered counts_of (λ g. refl) gs place g at) k.counted;
    known = subst (Each (λ event. event < length last)) (sym (events_answered gs place g at)) k.known;
    lasts = λ event h. subst (λ l. IsLastOf l event (slice_index last event)) (sym (events_answered gs place g at)) (k.lasts event h);
  }

  pub kept_answer : (index : ℕ) → position_from (λ other. other == place) 0 current ≡ Some index →
      IsKept (set gs place (answered g)) (remove current index) (remove leaves index) last e
  kept_answer index is =
      let (j, same, there) = found place 0 current index is in
      let i : index ≡ j = omega arith in
      let there : slice_get (out_places e 0 gs) index ≡ Some place = rw (i, ← k.current_are) there in
      let out = λ (f : ℕ → Given → ℕ). answer_out f e 0 place gs place index g (omega arith) there in
      with_lists (remove current index) (remove leaves index) (ap (λ l. remove l index) k.current_are ∙ sym (out (λ place g. place))) (ap (λ l. remove l index) k.leaves_are ∙ sym (out (λ place g. g.leaf)))

  pub kept_late : position_from (λ other. other == place) 0 current ≡ None → IsKept (set gs place (answered g)) current leaves last e
  kept_late is =
      let same = λ (f : ℕ → Given → ℕ). answer_other f e 0 place gs place g (omega arith) (λ m. not_found place 0 current is (rw k.current_are m)) in
      with_lists current leaves (k.current_are ∙ sym (same (λ place g. place))) (k.leaves_are ∙ sym (same (λ place g. g.leaf)))

-- ---- the value

pub found_claim : (gs : List Given) (e room kinds : ℕ) → AreCounted [] gs → (number place : ℕ) → number ≡ 1 + place → (r : Option Given) → r ≡ slice_get gs place →
    MatchOption r (claim_at (run_of (claimed gs e room kinds)) number ≡ None) (IsGivenAt (claimed gs e room kinds) number)
found_claim gs e room kinds counted number place n None h = claim_is gs number place n ∙ ap (told number) (sym h)
found_claim gs e room kinds counted number place n (Some g) h = let back : number - 1 ≡ place = omega arith in let forth : suc place ≡ number = omega arith in record {
  claim = claim_is gs number place n ∙ ap (told number) (sym h);
  event = ap (slice_get (events_of gs)) back ∙ slice_get-map (λ (g : Given). g.event) gs place ∙ ap (option_map (λ (g : Given). g.event)) (sym h);
  taker = ap (slice_get (takers_of gs)) back ∙ slice_get-map (λ (g : Given). g.by) gs place ∙ ap (option_map (λ (g : Given). g.by)) (sym h);
  attempt = attempt_at [] gs place g counted (sym h) ∙ ap (λ m. count_of g.event (take m (events_of gs))) forth;
}

-- what is found by the number of the last claim on an event is that claim
pub found_last : (gs : List Given) (e room kinds event number : ℕ) → IsLastOf (events_of gs) event number → (found : Option Given) →
    MatchOption found (claim_at (run_of (claimed gs e room kinds)) number ≡ None) (IsGivenAt (claimed gs e room kinds) number) →
    MatchOption found (¬ (event ∈ events_of gs)) (IsLastOn (claimed gs e room kinds) event)
found_last gs e room kinds event zero is None none = is.none_later
found_last gs e room kinds event (suc place) is None none = elim is.on_it [
  | inl none ↦ absurd (let never : suc place ≡ 0 = none in omega arith)
  | inr at ↦ absurd (both (slice_get gs place) (sym (claim_is gs (suc place) place (omega arith)) ∙ none)
      (sym (slice_get-map (λ (g : Given). g.event) gs place) ∙ ap (slice_get (events_of gs)) (omega arith) ∙ at))
]
  where
    both : (o : Option Given) → told (suc place) o ≡ None → option_map (λ (g : Given). g.event) o ≡ Some event → ⊥
    both None n at = cc
    both (Some x) n at = cc
found_last gs e room kinds event number is (Some found) given = record {
  number = number;
  is_given = given;
  on_event = elim is.on_it [
    | inl none ↦ absurd (let clash : None ≡ Some (claim_of number found) = sym (none_of_zero gs) ∙ ap (claim_in gs) (sym none) ∙ given.claim in cc)
    | inr at ↦ some_same found.event event (sym given.event ∙ at)
  ];
  none_later = is.none_later;
}

-- one more
pub given_value : (gs new : List Given) (e leaf event by attempt room new_room kinds new_kinds : ℕ) →
    new ≡ gs ++ record { leaf = leaf; event = event; by = by; epoch = e; attempt = attempt; answered = false } ∷ [] → new_room ≡ room → new_kinds ≡ kinds →
    claimed new e new_room new_kinds ≡ record (claimed gs e room kinds) {
      claims = claims_from 1 gs ++ record { number = length (claims_from 1 gs) + 1; leaf = leaf; epoch = e; answered = false } ∷ [];
      events = events_of gs ++ event ∷ [];
      takers = takers_of gs ++ by ∷ [];
    }
given_value gs new e leaf event by attempt room new_room kinds new_kinds more same_room same_kinds =
    let g : Given = record { leaf = leaf; event = event; by = by; epoch = e; attempt = attempt; answered = false } in
    let len = claims_counted 1 gs in
    let number : 1 + length gs ≡ length (claims_from 1 gs) + 1 = omega arith in
    let claims : claims_from 1 new ≡ claims_from 1 gs ++ claim_of (length (claims_from 1 gs) + 1) g ∷ [] =
    ap (claims_from 1) more ∙ claims_from-append 1 gs g ∙ ap (λ n. claims_from 1 gs ++ claim_of n g ∷ []) number in
    let events : events_of new ≡ events_of gs ++ event ∷ [] = ap events_of more ∙ map-append (λ (g : Given). g.event) gs (g ∷ []) in
    let takers : takers_of new ≡ takers_of gs ++ by ∷ [] = ap takers_of more ∙ map-append (λ (g : Given). g.by) gs (g ∷ []) in
    λ i. record { claims = claims i; events = events i; takers = takers i; epoch = e; room = same_room i; kinds = same_kinds i }

-- one answered
pub answered_value : (gs : List Given) (e room kinds number place : ℕ) (g : Given) → number ≡ 1 + place → slice_get gs place ≡ Some g →
    claimed (set gs place (answered g)) e room kinds ≡ record (claimed gs e room kinds) { claims = answer number (claims_from 1 gs) }
answered_value gs e room kinds number place g n at =
    let claims : claims_from 1 (set gs place (answered g)) ≡ answer number (claims_from 1 gs) =
    sym (answer-claims_from 1 place number gs g n at) in
    let events = events_answered gs place g at in
    let takers = map-answered (λ g. g.by) (λ g. refl) gs place g at in
    λ i. record { claims = claims i; events = events i; takers = takers i; epoch = e; room = room; kinds = kinds }
