-- Steps by names: a step on a leaf, and one that has none.
use Rattle.std.proofs.Common.{◌≡◌, ℕ, List, Some, slice_get, refl, sym, ap, ◌∙◌}
use Rattle.std.proofs.lemmas.Option.{same_Some}
use Rattle.flow_model.specs.declared.history.Step.{Step}
use Rattle.flow_model.specs.declared.history.Step.TheVariants.{Took, Done, Failed, Late, Did, Rewound, Committed}
use Rattle.flow_workflow.specs.Definition.{Definition}
use Rattle.flow_move.specs.declared.new_names.NewNames.{NewNames}
use Rattle.flow_move.specs.Labels.{labels_in}
use Rattle.flow_move.specs.Moves.{IsOn, IsStepAs, on_leaf, leaf_in}
use Rattle.flow_move.specs.Found.{HasLeaf}

-- the step that is on a leaf, on another leaf of its label
pub step_on : (names : NewNames) (w : Definition) (step : Step) (label : List ℕ) (leaf : ℕ) → HasLeaf step →
    slice_get names.labels.items (leaf_in step) ≡ Some label → slice_get (labels_in w) leaf ≡ Some label → IsStepAs names w step (on_leaf step leaf)
step_on names w (Took claim old) label leaf has named there = (leaf, (label, named, there), refl)
step_on names w (Did old) label leaf has named there = (leaf, (label, named, there), refl)
step_on names w (Done claim) label leaf has named there = elim has [ ]
step_on names w (Failed claim effect) label leaf has named there = elim has [ ]
step_on names w (Late claim) label leaf has named there = elim has [ ]
step_on names w (Rewound index) label leaf has named there = elim has [ ]
step_on names w Committed label leaf has named there = elim has [ ]

pub record IsOnSome (w : Definition) (step : Step) (label : List ℕ) (other : Step) : Type 0 where
  pub leaf : ℕ
  pub there : slice_get (labels_in w) leaf ≡ Some label
  pub is : other ≡ on_leaf step leaf

on_some : (names : NewNames) (w : Definition) (step : Step) (old : ℕ) (label : List ℕ) (leaf : ℕ) (other : Step) →
    slice_get names.labels.items old ≡ Some label → IsOn names w old leaf → other ≡ on_leaf step leaf → IsOnSome w step label other
on_some names w step old label leaf other named (label2, named2, there) is = record {
  leaf = leaf;
  there = there ∙ ap Some (same_Some label2 label (sym named2 ∙ named));
  is = is;
}

-- what is the step by names is on a leaf of its label
pub as_on : (names : NewNames) (w : Definition) (step : Step) (label : List ℕ) (other : Step) → HasLeaf step →
    slice_get names.labels.items (leaf_in step) ≡ Some label → IsStepAs names w step other → IsOnSome w step label other
as_on names w (Took claim old) label other has named (leaf, on, is) = on_some names w (Took claim old) old label leaf other named on is
as_on names w (Did old) label other has named (leaf, on, is) = on_some names w (Did old) old label leaf other named on is
as_on names w (Done claim) label other has named by_names = elim has [ ]
as_on names w (Failed claim effect) label other has named by_names = elim has [ ]
as_on names w (Late claim) label other has named by_names = elim has [ ]
as_on names w (Rewound index) label other has named by_names = elim has [ ]
as_on names w Committed label other has named by_names = elim has [ ]

-- a step that has no leaf is itself by names
pub plain_as : (names : NewNames) (w : Definition) (step other : Step) → ¬ (HasLeaf step) → IsStepAs names w step other → other ≡ step
plain_as names w (Took claim leaf) other plain by_names = absurd (plain tt)
plain_as names w (Did leaf) other plain by_names = absurd (plain tt)
plain_as names w (Done claim) other plain by_names = by_names
plain_as names w (Failed claim effect) other plain by_names = by_names
plain_as names w (Late claim) other plain by_names = by_names
plain_as names w (Rewound index) other plain by_names = by_names
plain_as names w Committed other plain by_names = by_names

pub as_plain : (names : NewNames) (w : Definition) (step : Step) → ¬ (HasLeaf step) → IsStepAs names w step step
as_plain names w (Took claim leaf) plain = absurd (plain tt)
as_plain names w (Did leaf) plain = absurd (plain tt)
as_plain names w (Done claim) plain = refl
as_plain names w (Failed claim effect) plain = refl
as_plain names w (Late claim) plain = refl
as_plain names w (Rewound index) plain = refl
as_plain names w Committed plain = refl
