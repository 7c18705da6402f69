-- Histories that gain an entry.
use Rattle.std.proofs.Common.{◌≡◌, ◌<◌, ℕ, List, [], ◌∷◌, ◌++◌, length, ◌⊎◌, inl, inr, refl, sym, ap, ◌∙◌, subst, append-nil, suc-ne-zero}
use Rattle.flow_model.specs.declared.history.Call.{Call}
use Rattle.flow_model.specs.declared.history.Entry.{Entry}
use Rattle.flow_model.specs.declared.history.Outcome.{Outcome}
use Rattle.flow_model.specs.declared.history.Step.TheVariants.{Failed, Rewound}
use Rattle.flow_model.specs.declared.history.FailEffect.TheVariants.{Kept}
use Rattle.flow_model.specs.Schema.{Schema}
use Rattle.flow_model.specs.Run.{state_of, IsOpenIndex}
use Rattle.flow_model.specs.Verdict.{Verdict, EndsKept, IsRunStep, IsRunVerdict, IsDriven}
use Rattle.flow_model.specs.Decided.{cons_same, not_empty}
use Rattle.flow_model.proofs.MadeLists.{two_cuts}

-- a list with one member more, cut before some member: before the last or earlier
pub cut_last : {A : Type 0} (list : List A) (x : A) (earlier : List A) (y : A) (later : List A) → list ++ x ∷ [] ≡ earlier ++ y ∷ later →
    ((later ≡ []) × (earlier ≡ list) × (y ≡ x)) ⊎ ((rest : List A) × (later ≡ rest ++ x ∷ []) × (list ≡ earlier ++ y ∷ rest))
cut_last {A} list x earlier y later e = elim (two_cuts list (x ∷ []) earlier y later e) [
  | inl k ↦ inr (k.0, k.2, k.1)
  | inr k ↦ inl (last k.0 k.1 k.2)
]
  where
    last : (m : List A) → earlier ≡ list ++ m → x ∷ [] ≡ m ++ y ∷ later → (later ≡ []) × (earlier ≡ list) × (y ≡ x)
    last [] e h = let (same, none) = cons_same x y [] later h in (sym none, e ∙ append-nil list, sym same)
    last (z ∷ m) e h = absurd (not_empty m y later (cons_same x z [] (m ++ y ∷ later) h).1)

-- only the last entry tells whether a history ends with a kept failure
pub not_last_kept : (w : Schema) (history : List Entry) (last : Entry) → ((claim : ℕ) → ¬ (last.step ≡ Failed claim Kept)) → (leaf : ℕ) → ¬ (EndsKept w (history ++ last ∷ []) leaf)
not_last_kept w history last other leaf (earlier, (entry, (claim, is, kept, on))) = elim (cut_last history last earlier entry [] is) [
  | inl k ↦ other claim (ap (λ (e : Entry). e.step) (sym k.2) ∙ kept)
  | inr k ↦ absurd (not_empty k.0 last [] k.1)
]

module _ (gives : Call → Outcome → Type 0) (w : Schema) where
  -- each entry is one that a run may make
  abbrev pub AreRunSteps : List Entry → Type 0
  AreRunSteps history = (earlier later : List Entry) (entry : Entry) → history ≡ earlier ++ entry ∷ later → IsRunStep gives w earlier entry.step

  pub one_step_more : (history : List Entry) (last : Entry) → AreRunSteps history → IsRunStep gives w history last.step → AreRunSteps (history ++ last ∷ [])
  one_step_more history last steps may earlier later entry e = elim (cut_last history last earlier entry later e) [
    | inl k ↦ subst (λ (h : List Entry). IsRunStep gives w h entry.step) (sym k.1) (subst (λ (e : Entry). IsRunStep gives w history e.step) (sym k.2) may)
    | inr k ↦ steps earlier k.0 entry k.2
  ]

-- driven, but for a kept failure at its end
pub record IsDrivenSoFar (w : Schema) (limit : ℕ) (history : List Entry) : Type 0 where
  pub stops : (earlier later : List Entry) (entry : Entry) (verdict : Verdict) → history ≡ earlier ++ entry ∷ later → ¬ (IsRunVerdict w limit earlier verdict)
  pub goes_back : (earlier later : List Entry) (entry : Entry) (leaf i : ℕ) → history ≡ earlier ++ entry ∷ later → EndsKept w earlier leaf →
      IsOpenIndex w (state_of w earlier) i → length earlier < limit → entry.step ≡ Rewound i

module _ (w : Schema) (limit : ℕ) where
  -- it does not end with a kept failure after which it can go back
  abbrev pub IsSettled : List Entry → Type 0
  IsSettled history = (leaf i : ℕ) → EndsKept w history leaf → IsOpenIndex w (state_of w history) i → ¬ (length history < limit)

  pub so_far : (history : List Entry) → IsDriven w limit history → IsDrivenSoFar w limit history
  so_far history d = record {
    stops = d.stops;
    goes_back = λ earlier later entry leaf i e kept free room. (
        let (first, (rest, is, back)) = d.goes_back earlier (entry ∷ later) leaf i e kept free room in
        ap (λ (e : Entry). e.step) (cons_same entry first later rest is).0 ∙ back);
  }

  pub driven_settles : (history : List Entry) → IsDriven w limit history → IsSettled history
  driven_settles history d leaf i kept free room =
      let (first, (rest, is, back)) = d.goes_back history [] leaf i (sym (append-nil history)) kept free room in suc-ne-zero (length rest) (sym (ap length is))

  pub driven_of : (history : List Entry) → IsDrivenSoFar w limit history → IsSettled history → IsDriven w limit history
  driven_of history d settled = record {
    stops = d.stops;
    goes_back = back;
  }
    where
      back : (earlier later : List Entry) (leaf i : ℕ) → history ≡ earlier ++ later → EndsKept w earlier leaf → IsOpenIndex w (state_of w earlier) i →
          length earlier < limit → (entry : Entry) × ((rest : List Entry) × (later ≡ entry ∷ rest) × (entry.step ≡ Rewound i))
      back earlier [] leaf i e kept free room =
          let same : earlier ≡ history = sym (e ∙ append-nil earlier) in
          absurd (settled leaf i (subst (λ (h : List Entry). EndsKept w h leaf) same kept) (subst (λ (h : List Entry). IsOpenIndex w (state_of w h) i) same free)
          (subst (λ (h : List Entry). length h < limit) same room))
      back earlier (entry ∷ rest) leaf i e kept free room = (entry, (rest, refl, d.goes_back earlier rest entry leaf i e kept free room))

  -- one entry more, where no verdict stood
  pub one_driven_more : (history : List Entry) (last : Entry) → IsDrivenSoFar w limit history → ((verdict : Verdict) → ¬ (IsRunVerdict w limit history verdict)) →
      ((leaf i : ℕ) → EndsKept w history leaf → IsOpenIndex w (state_of w history) i → length history < limit → last.step ≡ Rewound i) →
      IsDrivenSoFar w limit (history ++ last ∷ [])
  one_driven_more history last d none back = record {
    stops = λ earlier later entry verdict e stands. elim (cut_last history last earlier entry later e) [
      | inl k ↦ none verdict (subst (λ (h : List Entry). IsRunVerdict w limit h verdict) k.1 stands)
      | inr k ↦ d.stops earlier k.0 entry verdict k.2 stands
    ];
    goes_back = λ earlier later entry leaf i e kept free room. elim (cut_last history last earlier entry later e) [
      | inl k ↦ ap (λ (e : Entry). e.step) k.2 ∙ back leaf i (subst (λ (h : List Entry). EndsKept w h leaf) k.1 kept)
          (subst (λ (h : List Entry). IsOpenIndex w (state_of w h) i) k.1 free) (subst (λ (h : List Entry). length h < limit) k.1 room)
      | inr k ↦ d.goes_back earlier k.0 entry leaf i k.2 kept free room
    ];
  }
