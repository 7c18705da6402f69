-- What steps back took from the journal, of a whole history.
use Rattle.std.specs.Prelude.{◌≡◌, ◌<◌, ◌≤◌, ◌+◌, ◌↔◌, ◌⊎◌, ℕ, List, [], ◌∷◌, Some, slice_get}
use Rattle.flow_model.specs.declared.history.Entry.{Entry}
use Rattle.flow_model.specs.declared.history.Step.TheVariants.{Done, Rewound}
use Rattle.flow_model.specs.Lists.{◌∈◌, Each}
use Rattle.flow_model.specs.Schema.{Schema}
use Rattle.flow_model.specs.Run.{leaf_of_claim, state_of}
use Rattle.flow_standing.specs.declared.undone.TakenBack.{TakenBack}
use Rattle.flow_standing.specs.Trail.{length_after, Stood}

-- the claim was done by its entry; its leaf stood on the journal until a step back, and that one cut it off
pub record IsTakenBack (w : Schema) (history : List Entry) (taken : TakenBack) : Type 0 where
  pub done : slice_get history taken.done ≡ Some (record { by = taken.by; step = Done taken.claim })
  pub leaf : taken.leaf ≡ leaf_of_claim (state_of w history) taken.claim
  pub rewound : (by index : ℕ) × (slice_get history taken.rewound ≡ Some (record { by = by; step = Rewound index }))
  pub later : taken.done < taken.rewound
  pub stood : Stood w history taken.done taken.rewound
  pub cut : length_after w history (taken.rewound + 1) ≤ length_after w history taken.done

-- the step back comes first; of one step back, what was done first
abbrev pub ComesBefore : TakenBack → TakenBack → Type 0
ComesBefore x y = (x.rewound < y.rewound) ⊎ ((x.rewound ≡ y.rewound) × (x.done < y.done))

-- each has R to all behind it
abbrev pub ArePairwise : {A : Type 0} → (A → A → Type 0) → List A → Type 0
ArePairwise R [] = Unit {0}
ArePairwise R (x ∷ xs) = Each (R x) xs × ArePairwise R xs

-- exactly what steps back took, in order
pub record AreTakenBack (w : Schema) (history : List Entry) (all : List TakenBack) : Type 0 where
  pub exact : (taken : TakenBack) → (taken ∈ all) ↔ IsTakenBack w history taken
  pub ordered : ArePairwise ComesBefore all
