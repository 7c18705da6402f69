-- The events that count are the journal.
use Rattle.std.proofs.Common.{◌≡◌, ◌≢◌, ◌<◌, ◌≤◌, ℕ, suc, ◌+◌, ◌-◌, ◌==◌, true, false, List, [], ◌∷◌, ◌++◌, length, map, filter_map, Option, Some, None, slice_get, refl, sym, ap, subst, ◌∙◌, arith, inl, inr}
use Rattle.std.proofs.lemmas.Bool.{cases_lt, cases_Bool, eq-eqb, ne_eqb}
use Rattle.flow_model.specs.declared.history.Entry.{Entry}
use Rattle.flow_model.specs.declared.history.Step.{Step}
use Rattle.flow_model.specs.declared.history.Step.TheVariants.{Took, Done, Failed, Late, Did, Rewound, Committed}
use Rattle.flow_model.specs.Decided.{decide_eq}
use Rattle.flow_model.proofs.MadeLists.{some_same}
use Rattle.flow_model.specs.Lists.{Each}
use Rattle.flow_model.specs.Schema.{Schema}
use Rattle.flow_model.specs.Run.{leaf_of_claim, state_of}
use Rattle.flow_standing.specs.declared.trail.Doing.{Doing}
use Rattle.flow_standing.specs.declared.undone.TakenBack.{TakenBack}
use Rattle.flow_standing.specs.Trail.{doing_by, IsMade, length_after, StandsAt}
use Rattle.flow_export.specs.declared.log_event.LogEvent.{LogEvent}
use Rattle.flow_export.specs.Events.{is_counted, undone_by, events_at, events_from, IsLog, counted_leaves}

abbrev leaf_in : Doing → ℕ
leaf_in d = d.leaf

none_at : (q : ℕ) (x : Entry) → slice_get [] q ≡ Some x → ⊥
none_at q x e = cc

-- the places rise, from there on
abbrev Rise : ℕ → List Doing → Type 0
Rise p [] = Unit {0}
Rise p (d ∷ ds) = (p ≤ d.place) × Rise (d.place + 1) ds

rise_later : (p q : ℕ) (ds : List Doing) → q ≤ p → Rise p ds → Rise q ds
rise_later p q [] l r = tt
rise_later p q (d ∷ ds) l r = let h : p ≤ d.place = r.0 in (omega arith, r.1)

-- none stands at an earlier place
none_before : (p q : ℕ) (ds : List Doing) → q < p → Rise p ds → is_counted ds q ≡ false
none_before p q [] l r = refl
none_before p q (d ∷ ds) l r =
    let h : p ≤ d.place = r.0 in
    rw (ne_eqb d.place q (omega arith)) (none_before (d.place + 1) q ds (omega arith) r.1)

-- ---- what steps back took does not count

undone_none : (place : ℕ) (taken : List TakenBack) → counted_leaves (filter_map (undone_by place) taken) ≡ []
undone_none place [] = refl
undone_none place (t ∷ ts) = elim (cases_Bool (t.rewound == place)) [
  | inl same ↦ rw same (undone_none place ts)
  | inr other ↦ rw other (undone_none place ts)
]

counted_append : (a b : List LogEvent) → counted_leaves (a ++ b) ≡ counted_leaves a ++ counted_leaves b
counted_append [] b = refl
counted_append (x ∷ a) b = elim (cases_Bool x.counts) [
  | inl has ↦ rw has (ap (λ l. x.leaf ∷ l) (counted_append a b))
  | inr lacks ↦ rw lacks (counted_append a b)
]

-- it is made by its entry
abbrev Made : (ℕ → ℕ) → List Entry → Doing → Type 0
Made leaf_of history d = (entry : Entry) × (slice_get history d.place ≡ Some entry) × (doing_by leaf_of d.place entry.by entry.step ≡ Some d)

module _ (leaf_of : ℕ → ℕ) (doings : List Doing) (taken : List TakenBack) where
  -- an entry whose leaf does not stand in the end
  not_counted : (p : ℕ) (step : Step) → is_counted doings p ≡ false → counted_leaves (events_at leaf_of doings taken p step) ≡ []
  not_counted p (Took claim leaf) counts_not = refl
  not_counted p (Done claim) counts_not = rw counts_not refl
  not_counted p (Failed claim effect) counts_not = refl
  not_counted p (Late claim) counts_not = refl
  not_counted p (Did leaf) counts_not = rw counts_not refl
  not_counted p (Rewound index) counts_not = undone_none p taken
  not_counted p Committed counts_not = refl

  -- the entry that put it there
  its_leaf : (p by : ℕ) (step : Step) (d : Doing) → doing_by leaf_of p by step ≡ Some d → is_counted doings p ≡ true →
      counted_leaves (events_at leaf_of doings taken p step) ≡ d.leaf ∷ []
  its_leaf p by (Took claim leaf) d e counts_so = cc
  its_leaf p by (Done claim) d e counts_so = let same : leaf_of claim ≡ d.leaf = ap leaf_or e in rw counts_so (ap (λ l. l ∷ []) same)
    where
      leaf_or : Option Doing → ℕ
      leaf_or None = 0
      leaf_or (Some x) = x.leaf
  its_leaf p by (Failed claim effect) d e counts_so = cc
  its_leaf p by (Late claim) d e counts_so = cc
  its_leaf p by (Did leaf) d e counts_so = let same : leaf ≡ d.leaf = ap leaf_or e in rw counts_so (ap (λ l. l ∷ []) same)
    where
      leaf_or : Option Doing → ℕ
      leaf_or None = 0
      leaf_or (Some x) = x.leaf
  its_leaf p by (Rewound index) d e counts_so = cc
  its_leaf p by Committed d e counts_so = cc

  counted_from : (history : List Entry) (p : ℕ) (es : List Entry) (ds : List Doing) →
      ((q : ℕ) → slice_get es q ≡ slice_get history (p + q)) → Rise p ds → Each (Made leaf_of history) ds →
      ((q : ℕ) → p ≤ q → is_counted doings q ≡ is_counted ds q) →
      counted_leaves (events_from leaf_of doings taken p es) ≡ map leaf_in ds
  counted_from history p [] [] at rise made counts = refl
  counted_from history p [] (d ∷ ds) at rise made counts =
      let later : p ≤ d.place = rise.0 in
      let there : p + (d.place - p) ≡ d.place = omega arith in
      absurd (none_at (d.place - p) made.0.0 (at (d.place - p) ∙ ap (slice_get history) there ∙ made.0.1))
  counted_from history p (e ∷ es) ds at rise made counts = go (counted_from history (p + 1) es) ds rise made counts
    where
      shifted : (q : ℕ) → slice_get es q ≡ slice_get history (p + 1 + q)
      shifted q = let same : p + suc q ≡ p + 1 + q = omega arith in at (suc q) ∙ ap (slice_get history) same

      first : slice_get history p ≡ Some e
      first = let same : p ≡ p + 0 = omega arith in ap (slice_get history) same ∙ sym (at 0)

      go : ((ds : List Doing) → ((q : ℕ) → slice_get es q ≡ slice_get history (p + 1 + q)) → Rise (p + 1) ds → Each (Made leaf_of history) ds →
          ((q : ℕ) → p + 1 ≤ q → is_counted doings q ≡ is_counted ds q) → counted_leaves (events_from leaf_of doings taken (p + 1) es) ≡ map leaf_in ds) →
          (ds : List Doing) → Rise p ds → Each (Made leaf_of history) ds → ((q : ℕ) → p ≤ q → is_counted doings q ≡ is_counted ds q) →
          counted_leaves (events_from leaf_of doings taken p (e ∷ es)) ≡ map leaf_in ds
      go more [] rise made counts =
          counted_append (events_at leaf_of doings taken p e.step) (events_from leaf_of doings taken (p + 1) es)
          ∙ (λ i. not_counted p e.step (counts p (omega arith)) i ++ counted_leaves (events_from leaf_of doings taken (p + 1) es))
          ∙ more [] shifted tt tt (λ q l. counts q (omega arith))
      go more (d ∷ ds) rise made counts = elim (decide_eq d.place p) [
        | inl same ↦ (
            let (entry, there, does) = made.0 in
            let is : e ≡ entry = some_same e entry (sym first ∙ ap (slice_get history) (sym same) ∙ there) in
            let does_here : doing_by leaf_of p e.by e.step ≡ Some d =
            subst (λ (x : Entry). doing_by leaf_of p x.by x.step ≡ Some d) (sym is) (subst (λ n. doing_by leaf_of n entry.by entry.step ≡ Some d) same does) in
            let counts_so : is_counted doings p ≡ true = counts p (omega arith) ∙ rw (eq-eqb d.place p same) refl in
            counted_append (events_at leaf_of doings taken p e.step) (events_from leaf_of doings taken (p + 1) es)
            ∙ (λ i. its_leaf p e.by e.step d does_here counts_so i ++ counted_leaves (events_from leaf_of doings taken (p + 1) es))
            ∙ ap (λ l. d.leaf ∷ l) (more ds shifted (subst (λ n. Rise (n + 1) ds) same rise.1) made.1
            (λ q l. counts q (omega arith) ∙ rw (ne_eqb d.place q (omega (arith, same, l))) refl)))
        | inr other ↦ (
            let ne : d.place ≢ p = other in
            let low : p ≤ d.place = rise.0 in
            let later : Rise (p + 1) (d ∷ ds) = (omega arith, rise.1) in
            let counts_not : is_counted doings p ≡ false = counts p (omega arith) ∙ none_before (p + 1) p (d ∷ ds) (omega arith) later in
            counted_append (events_at leaf_of doings taken p e.step) (events_from leaf_of doings taken (p + 1) es)
            ∙ (λ i. not_counted p e.step counts_not i ++ counted_leaves (events_from leaf_of doings taken (p + 1) es))
            ∙ more (d ∷ ds) shifted later made (λ q l. counts q (omega arith)))
      ]

-- ---- what stands on the journal

module _ (w : Schema) (h : List Entry) (n : ℕ) where
  next_later : (i : ℕ) (d e : Doing) → StandsAt w h n i d → StandsAt w h n (i + 1) e → d.place < e.place
  next_later i d e one two = elim (cases_lt d.place e.place) [
    | inl l ↦ l
    | inr l ↦ elim (decide_eq e.place d.place) [
      | inl same ↦ (
          let a : length_after w h d.place ≡ i = one.index_is in
          let b : length_after w h d.place ≡ i + 1 = ap (length_after w h) (sym same) ∙ two.index_is in
          absurd (omega (arith, a, b)))
      | inr other ↦ (
          let ne : e.place ≢ d.place = other in
          let low : e.place ≤ d.place = l in
          let before : d.place < n = one.before in
          let longer : length_after w h e.place < length_after w h d.place = two.stood d.place (omega arith) (omega arith) in
          absurd (omega (arith, longer, one.index_is, two.index_is)))
    ]
  ]

  rise_from : (i : ℕ) (ds : List Doing) → ((q : ℕ) (d : Doing) → slice_get ds q ≡ Some d → StandsAt w h n (i + q) d) →
      (p : ℕ) → ((d : Doing) → slice_get ds 0 ≡ Some d → p ≤ d.place) → Rise p ds
  rise_from i [] each p first = tt
  rise_from i (d ∷ ds) each p first = (
    first d refl,
    rise_from (i + 1) ds (λ q x e. let same : i + suc q ≡ i + 1 + q = omega arith in subst (λ m. StandsAt w h n m x) same (each (suc q) x e)) (d.place + 1)
        (λ x e.
        let here : i + 0 ≡ i = omega arith in
        let l : d.place < x.place = next_later i d x (subst (λ m. StandsAt w h n m d) here (each 0 d refl)) (each 1 x e) in
        omega (arith, l)),
  )

each_made : (w : Schema) (h : List Entry) (ds : List Doing) → ((q : ℕ) (d : Doing) → slice_get ds q ≡ Some d → IsMade w h d) →
    Each (Made (leaf_of_claim (state_of w h)) h) ds
each_made w h [] each = tt
each_made w h (d ∷ ds) each = (each 0 d refl, each_made w h ds (λ q x e. each (suc q) x e))

pub journal_is : (w : Schema) (h : List Entry) (events : List LogEvent) → IsLog w h events → counted_leaves events ≡ (state_of w h).journal
journal_is w h events log =
    let ds = log.doings in
    let each = log.are_doings.each in
    ap counted_leaves log.events_are
    ∙ counted_from (leaf_of_claim (state_of w h)) ds log.taken h 0 h ds (λ q. let same : q ≡ 0 + q = omega arith in ap (slice_get h) same)
    (rise_from w h (length h) 0 ds (λ q d e. let same : q ≡ 0 + q = omega arith in subst (λ m. StandsAt w h (length h) m d) same (each q d e)) 0 (λ d e. omega arith))
    (each_made w h ds (λ q d e. (each q d e).made)) (λ q l. refl)
    ∙ log.are_doings.leaves
