-- Circles, and what they exclude.
use Rattle.std.proofs.Common.{ℕ, List, [], ◌∷◌, refl, inl, inr, append-nil, sym, arith, ◌≡◌, subst}
use Rattle.flow_model.specs.declared.history.Entry.{Entry}
use Rattle.flow_model.specs.Lists.{◌∈◌}
use Rattle.flow_model.specs.Trace.{both_end, from_left, from_right}
use Rattle.flow_model.specs.Schema.{IsGood}
use Rattle.flow_model.specs.Resolution.{OptionTrace, options}
use Rattle.flow_model.specs.Circle.{IsCircle}
use Rattle.flow_model.specs.Run.{IsLegal, state_of}
use Rattle.flow_laws.specs.WellFormed.{IsWellFormed, IsConsistent}
use Rattle.flow_laws.specs.Histories.{IsSound}
use Rattle.flow_laws.proofs.OptionsLemmas.{option_is_ordered, option_trace_is_good, option_of_good}
use Rattle.flow_laws.proofs.CircleOrTrace.{circles_exclude_traces}
use Rattle.flow_laws.proofs.NeverAtALoss.{sound_state}
use Rattle.test_laws.specs.Workflows.{knot, tied, loose, broken_into, only_option}
use Rattle.test_laws.proofs.WellFormed.{well_formed}

-- The knot: its circle, its trace, and what the laws make of them

pub knot_is_well_formed : IsWellFormed knot
knot_is_well_formed = well_formed knot refl refl

-- 0 before 1 in the sequence, 1 before 4 by a pair, 4 before 5 in the sequence, 5 before 0 by a pair
pub tied_has_a_circle : IsCircle tied.resolution tied.order (0 ∷ 1 ∷ 4 ∷ 5 ∷ [])
tied_has_a_circle = record {
  part = tied.resolution;
  is_part = inl refl;
  ring = (0 ∷ []) ∷ (1 ∷ []) ∷ (4 ∷ []) ∷ (5 ∷ []) ∷ [];
  items = (inl refl, (inr (inl refl), (inr (inr (inl refl)), (inr (inr (inr (inl refl))), tt))));
  distinct = (λ h. grind (arith, h), (λ h. grind (arith, h), (λ h. grind (arith, h), (λ h. h, tt))));
  two = omega arith;
  closed = (
    (0, 1, inl refl, inl refl, inl (inl (inl (inl (inl refl, inl refl))))),
    (
      (1, 4, inl refl, inl refl, inr (inl refl)),
      ((4, 5, inl refl, inl refl, inl (inr (inl (inl (inl refl, inl refl))))), (5, 0, inl refl, inl refl, inr (inr (inl refl)))),
    ),
  );
  written = refl;
  from_least = (omega arith, (omega arith, (omega arith, tt)));
}

pub tied_has_no_trace : (t : List ℕ) → ¬ (OptionTrace tied t)
tied_has_no_trace t h =
    circles_exclude_traces tied.resolution tied.order (option_is_ordered knot knot_is_well_formed tied (inl refl)) (0 ∷ 1 ∷ 4 ∷ 5 ∷ []) tied_has_a_circle t h.0 h.1

-- 2 and 3 on the left, 6 and 7 on the right, in turn
pub loose_has_a_trace : (loose ∈ options knot) × OptionTrace loose (2 ∷ 6 ∷ 3 ∷ 7 ∷ [])
loose_has_a_trace = (
  inr (inr (inr (inl refl))),
  (
    (
      (2 ∷ []) ∷ (6 ∷ []) ∷ (3 ∷ []) ∷ (7 ∷ []) ∷ [],
      (_, _, (_, _, refl, refl, refl), (_, _, refl, refl, refl), from_left (from_right (from_left (from_right both_end)))),
      refl,
    ),
    (inl (refl, inr (inr (inl refl))), (inr (inl (refl, inl refl)), tt)),
  ),
)

pub trace_is_good : IsGood knot (2 ∷ 6 ∷ 3 ∷ 7 ∷ [])
trace_is_good = option_trace_is_good knot knot_is_well_formed (2 ∷ 6 ∷ 3 ∷ 7 ∷ []) loose loose_has_a_trace.0 loose_has_a_trace.1

pub knot_is_consistent : IsConsistent knot
knot_is_consistent = (2 ∷ 6 ∷ 3 ∷ 7 ∷ [], trace_is_good)

pub legal_knot_states_are_sound : (limit : ℕ) (history : List Entry) → IsLegal knot limit history → IsSound knot (state_of knot history)
legal_knot_states_are_sound limit history legal =
    sound_state knot knot_is_well_formed knot_is_consistent limit history legal history ([], sym (append-nil history))

-- The isolated part and the task between: a circle of two items

pub broken_into_is_well_formed : IsWellFormed broken_into
broken_into_is_well_formed = well_formed broken_into refl refl

-- a leaf of the part before 2, and 2 before a leaf of the part, each by a pair
pub only_option_has_a_circle : IsCircle only_option.resolution only_option.order (0 ∷ 2 ∷ [])
only_option_has_a_circle = record {
  part = only_option.resolution;
  is_part = inl refl;
  ring = (0 ∷ 1 ∷ []) ∷ (2 ∷ []) ∷ [];
  items = (inl refl, (inr (inl refl), tt));
  distinct = (λ h. grind (arith, h), (λ h. h, tt));
  two = omega arith;
  closed = ((0, 2, inl refl, inl refl, inr (inl refl)), (2, 1, inl refl, inr (inl refl), inr (inr (inl refl))));
  written = refl;
  from_least = (omega arith, tt);
}

-- a good trace would be one of the only option
pub no_trace_breaks_in : (t : List ℕ) → ¬ (IsGood broken_into t)
no_trace_breaks_in t good =
    let (o, m, trace) = option_of_good broken_into broken_into_is_well_formed t good in
    let only : o ≡ only_option = elim m [ inl e ↦ e | inr none ↦ absurd none ] in
    let of_only : OptionTrace only_option t = subst (λ o. OptionTrace o t) only trace in
    circles_exclude_traces only_option.resolution only_option.order
    (option_is_ordered broken_into broken_into_is_well_formed only_option (inl refl)) (0 ∷ 2 ∷ []) only_option_has_a_circle t of_only.0 of_only.1
