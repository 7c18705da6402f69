-- What a step back cuts off the journal.
use Rattle.std.proofs.Common.{◌≡◌, ◌<◌, ◌≤◌, ◌+◌, ℕ, min, inl, inr, ⊎_elim, ◌↔◌, List, ◌++◌, length, drop, Option, Some, None, slice_get, get_or, option_map, filter_map, refl, sym, ap, subst, ◌∙◌, arith}
use Rattle.std.proofs.lemmas.Bool.{cases_lt}
use Rattle.std.proofs.lemmas.List.{length-map, length-take}
use Rattle.std.proofs.lemmas.Option.{slice_get-get_or, slice_get_within}
use Rattle.flow_model.specs.declared.history.Entry.{Entry}
use Rattle.flow_model.specs.declared.history.Step.{Step}
use Rattle.flow_model.specs.declared.history.Step.TheVariants.{Took, Done, Failed, Late, Did, Rewound, Committed}
use Rattle.flow_model.specs.Lists.{◌∈◌}
use Rattle.flow_model.specs.Schema.{Schema}
use Rattle.flow_model.specs.Run.{RunState, leaf_of_claim, next_state, state_of}
use Rattle.flow_model.proofs.Lists.{mem-append, mem_append_left, mem_append_right}
use Rattle.flow_model.proofs.MadeLists.{some_same, mem-filter_map, of_filter_map}
use Rattle.flow_standing.specs.declared.trail.Doing.{Doing}
use Rattle.flow_standing.specs.declared.undone.TakenBack.{TakenBack}
use Rattle.flow_standing.specs.Trail.{doing_by, IsMade, length_after, Stood, StandsAt}
use Rattle.flow_standing.specs.Undone.{IsTakenBack, ComesBefore, ArePairwise, AreTakenBack}
use Rattle.flow_standing.specs.Following.{state_at, leaf_done, IsTrail, taken_by, index_cut}
use Rattle.flow_standing.proofs.Fronts.{state_next}
use Rattle.flow_standing.proofs.Places.{of_drop, mem_drop}
use Rattle.flow_standing.proofs.Pairwise.{pairwise_places, pairwise-drop, pairwise-append, pairwise-filter_map}

taken_place : (k : ℕ) (x : Doing) (a : TakenBack) → taken_by k x ≡ Some a → (a.done ≡ x.place) × (a.rewound ≡ k)
taken_place k x a e = go x.claim e
  where
    go : (claim : Option ℕ) → option_map (λ (claim : ℕ). record { leaf = x.leaf; claim = claim; by = x.by; done = x.place; rewound = k }) claim ≡ Some a →
        (a.done ≡ x.place) × (a.rewound ≡ k)
    go None e = cc
    go (Some claim) e =
        let it : TakenBack = record { leaf = x.leaf; claim = claim; by = x.by; done = x.place; rewound = k } in
        let same : it ≡ a = some_same it a e in
        (ap (λ (t : TakenBack). t.done) (sym same), ap (λ (t : TakenBack). t.rewound) (sym same))

-- what the steps back among the first entries took, in order
pub record IsTakenUpTo (w : Schema) (history : List Entry) (k : ℕ) (all : List TakenBack) : Type 0 where
  pub exact : (taken : TakenBack) → (taken ∈ all) ↔ (IsTakenBack w history taken × (taken.rewound < k))
  pub ordered : ArePairwise ComesBefore all

-- the task of what was done
pub record IsDoneBy (w : Schema) (history : List Entry) (k : ℕ) (doing : Doing) (taken : TakenBack) : Type 0 where
  pub done : slice_get history taken.done ≡ Some (record { by = taken.by; step = Done taken.claim })
  pub leaf : taken.leaf ≡ leaf_of_claim (state_of w history) taken.claim
  pub place : taken.done ≡ doing.place
  pub rewound : taken.rewound ≡ k

module _ (w : Schema) (history : List Entry) where
  task_of : (k : ℕ) (doing : Doing) (taken : TakenBack) → IsMade w history doing → taken_by k doing ≡ Some taken → IsDoneBy w history k doing taken
  task_of k doing taken (entry, at, made) is = go entry.step refl made
    where
      go : (step : Step) → entry.step ≡ step → doing_by (leaf_of_claim (state_of w history)) doing.place entry.by step ≡ Some doing → IsDoneBy w history k doing taken
      go (Done claim) e made =
          let what : Doing = record { leaf = leaf_of_claim (state_of w history) claim; claim = Some claim; by = entry.by; place = doing.place } in
          let same : what ≡ doing = some_same what doing made in
          let it : TakenBack = record { leaf = leaf_of_claim (state_of w history) claim; claim = claim; by = entry.by; done = doing.place; rewound = k } in
          let told : it ≡ taken = some_same it taken (ap (taken_by k) same ∙ is) in
          subst (IsDoneBy w history k doing) told
          (record { done = at ∙ ap (λ s. Some (record { by = entry.by; step = s })) e; leaf = refl; place = refl; rewound = refl })
      go (Did leaf) e made =
          let what : Doing = record { leaf = leaf; claim = None; by = entry.by; place = doing.place } in
          let same : what ≡ doing = some_same what doing made in
          let clash : None ≡ Some taken = ap (taken_by k) same ∙ is in cc
      go (Took claim leaf) e made = cc
      go (Failed claim effect) e made = cc
      go (Late claim) e made = cc
      go (Rewound index) e made = cc
      go Committed e made = cc

  module _ (k : ℕ) (entry : Entry) (at : slice_get history k ≡ Some entry) (trail : List Doing) (trailed : IsTrail w history k trail) where
    long : length trail ≡ length_after w history k
    long = sym (length-map trail leaf_done) ∙ ap length trailed.leaves

    -- where one stands behind another it was put there later
    in_turn : (i j : ℕ) (x y : Doing) → i < j → slice_get trail i ≡ Some x → slice_get trail j ≡ Some y → x.place < y.place
    in_turn i j x y less a b =
        let sx = trailed.each i x a in
        let sy = trailed.each j y b in
        elim (cases_lt x.place y.place) [
          | inl l ↦ l
          | inr l ↦ elim (cases_lt y.place x.place) [
            | inl m ↦ (let beyond : j < i = subst (λ n. n < i) sy.index_is (subst (λ n. length_after w history y.place < n) sx.index_is (sy.stood x.place m (omega (arith, sx.before)))) in absurd (omega arith))
            | inr m ↦ (let same : x.place ≡ y.place = omega arith in let one : i ≡ j = sym sx.index_is ∙ ap (length_after w history) same ∙ sy.index_is in absurd (omega arith))
          ]
        ]

    module _ (index : ℕ) (step : entry.step ≡ Rewound index) where
      cut_length : length_after w history (k + 1) ≡ min index (length_after w history k)
      cut_length =
          ap (λ (s : RunState). length s.journal) (state_next w history k entry at) ∙ ap (λ (st : Step). length (next_state w (state_at w history k) st).journal) step
          ∙ length-take index (state_at w history k).journal

      taken_here : (taken : TakenBack) → taken ∈ filter_map (taken_by k) (drop index trail) → IsTakenBack w history taken × (taken.rewound ≡ k)
      taken_here taken m =
          let (x, there, is) = of_filter_map (taken_by k) taken (drop index trail) m in
          let (q, low, stands) = of_drop index trail x there in
          let s = trailed.each q x stands in
          let task = task_of k x taken s.made is in
          let before : x.place < k = s.before in (
            (record {
              done = task.done;
              leaf = task.leaf;
              rewound = (entry.by, index, ap (slice_get history) task.rewound ∙ at ∙ ap (λ st. Some (record { by = entry.by; step = st })) step);
              later = omega (arith, task.place, task.rewound);
              stood = subst (λ p. Stood w history p taken.rewound) (sym task.place) (subst (Stood w history x.place) (sym task.rewound) s.stood);
              cut = subst (λ p. length_after w history (taken.rewound + 1) ≤ length_after w history p) (sym task.place)
                  (subst (λ r. length_after w history (r + 1) ≤ length_after w history x.place) (sym task.rewound) (omega (arith, cut_length, s.index_is)));
            }),
            task.rewound,
          )

      all_here : (taken : TakenBack) → IsTakenBack w history taken → taken.rewound ≡ k → taken ∈ filter_map (taken_by k) (drop index trail)
      all_here taken is here =
          let earlier : taken.done < k = omega (arith, is.later, here) in
          let q : ℕ = length_after w history taken.done in
          let deep : q < length_after w history k = is.stood k earlier (omega (arith, here)) in
          let any : Doing = record { leaf = 0; claim = None; by = 0; place = 0 } in
          let y : Doing = get_or trail q any in
          let there : slice_get trail q ≡ Some y = slice_get-get_or trail q any (omega (arith, long)) in
          let s : StandsAt w history k q y = trailed.each q y there in
          let same : y.place ≡ taken.done = elim (cases_lt y.place taken.done) [
            | inl l ↦ (let beyond : q < q = subst (λ n. n < q) s.index_is (s.stood taken.done l (omega arith)) in absurd (omega arith))
            | inr l ↦ elim (cases_lt taken.done y.place) [
              | inl m ↦ (let beyond : q < q = subst (λ n. q < n) s.index_is (is.stood y.place m (let b : y.place < k = s.before in omega (arith, here))) in absurd (omega arith))
              | inr m ↦ omega arith
            ]
          ] in
          let (other, found, made) = s.made in
          let is_entry : record { by = taken.by; step = Done taken.claim } ≡ other =
          some_same (record { by = taken.by; step = Done taken.claim }) other (sym is.done ∙ ap (slice_get history) (sym same) ∙ found) in
          let what : Doing = record { leaf = leaf_of_claim (state_of w history) taken.claim; claim = Some taken.claim; by = taken.by; place = y.place } in
          let told : what ≡ y = some_same what y (subst (λ (e : Entry). doing_by (leaf_of_claim (state_of w history)) y.place e.by e.step ≡ Some y) (sym is_entry) made) in
          let it : TakenBack = record { leaf = leaf_of_claim (state_of w history) taken.claim; claim = taken.claim; by = taken.by; done = y.place; rewound = k } in
          let its : it ≡ taken = λ i. record { leaf = sym is.leaf i; claim = taken.claim; by = taken.by; done = same i; rewound = sym here i } in
          mem-filter_map (taken_by k) y taken (drop index trail)
          (mem_drop index trail q y (let c : length_after w history (taken.rewound + 1) ≤ q = is.cut in
          let d : length_after w history (k + 1) ≤ q = subst (λ r. length_after w history (r + 1) ≤ q) here c in omega (arith, cut_length)) there)
          (ap (taken_by k) (sym told) ∙ ap Some its)

      pub taken_next : (all : List TakenBack) → IsTakenUpTo w history k all → IsTakenUpTo w history (k + 1) (all ++ filter_map (taken_by k) (drop index trail))
      taken_next all so_far = record {
        exact = λ taken. (
          (λ m. ⊎_elim
              (λ old. let h = (so_far.exact taken).0 old in let l : taken.rewound < k = h.1 in (h.0, omega arith))
              (λ new. let h = taken_here taken new in (h.0, omega (arith, h.1)))
              (mem-append taken all (filter_map (taken_by k) (drop index trail)) m)),
          (λ h. elim (cases_lt taken.rewound k) [
            | inl l ↦ mem_append_left taken all _ ((so_far.exact taken).1 (h.0, l))
            | inr l ↦ mem_append_right taken all _ (all_here taken h.0 (omega (arith, h.1)))
          ]),
        );
        ordered = pairwise-append ComesBefore all _ so_far.ordered
            (pairwise-filter_map (λ (x y : Doing). x.place < y.place) ComesBefore (taken_by k) (drop index trail) one_step
            (pairwise-drop _ index trail (pairwise_places _ trail in_turn)))
            (λ x y m n. let a = (so_far.exact x).0 m in let b = taken_here y n in let l : x.rewound < k = a.1 in inl (omega (arith, b.1)));
      }
        where
          one_step : (x y : Doing) (a b : TakenBack) → x.place < y.place → taken_by k x ≡ Some a → taken_by k y ≡ Some b → ComesBefore a b
          one_step x y a b less e f = let s = taken_place k x a e in let t = taken_place k y b f in inr (s.1 ∙ sym t.1, omega (arith, s.0, t.0, less))

    -- another step takes nothing
    pub none_taken : ((index : ℕ) → ¬ (entry.step ≡ Rewound index)) → (all : List TakenBack) → IsTakenUpTo w history k all → IsTakenUpTo w history (k + 1) all
    none_taken not_back all so_far = record {
      exact = λ taken. (
        (λ m. let h = (so_far.exact taken).0 m in let l : taken.rewound < k = h.1 in (h.0, omega arith)),
        (λ h. elim (cases_lt taken.rewound k) [
          | inl l ↦ (so_far.exact taken).1 (h.0, l)
          | inr l ↦
              let here : taken.rewound ≡ k = omega (arith, h.1) in
              let (by, index, is) = h.0.rewound in
              let same : record { by = by; step = Rewound index } ≡ entry = some_same (record { by = by; step = Rewound index }) entry (sym is ∙ ap (slice_get history) here ∙ at) in
              absurd (not_back index (ap (λ (e : Entry). e.step) (sym same)))
        ]),
      );
      ordered = so_far.ordered;
    }

  -- all entries are looked at
  pub taken_all : (k : ℕ) (all : List TakenBack) → k ≡ length history → IsTakenUpTo w history k all → AreTakenBack w history all
  taken_all k all whole up = record {
    exact = λ taken. (
      (λ m. ((up.exact taken).0 m).0),
      (λ is.
          let (by, index, at) = is.rewound in
          let within : taken.rewound < length history = slice_get_within history taken.rewound (record { by = by; step = Rewound index }) at in
          (up.exact taken).1 (is, omega arith)),
    );
    ordered = up.ordered;
  }

-- what is told of a step
pub index_of : (step : Step) (index : ℕ) → Some index ≡ index_cut step → step ≡ Rewound index
index_of (Rewound i) index e = let same : index ≡ i = some_same index i e in ap Rewound (sym same)
index_of (Took claim leaf) index e = cc
index_of (Done claim) index e = cc
index_of (Failed claim effect) index e = cc
index_of (Late claim) index e = cc
index_of (Did leaf) index e = cc
index_of Committed index e = cc

pub no_index : (step : Step) → None ≡ index_cut step → (index : ℕ) → ¬ (step ≡ Rewound index)
no_index step e index is = let clash : None ≡ Some index = e ∙ ap index_cut is in cc
