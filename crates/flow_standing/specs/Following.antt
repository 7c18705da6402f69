-- A history that is followed an entry at a time.
use Rattle.std.specs.Prelude.{◌≡◌, ℕ, zero, suc, nat_le, Bool, true, false, List, [], ◌∷◌, ◌++◌, length, map, take, get_or, Option, Some, None, option_map, slice_get, slice_set}
use Rattle.std.specs.List.{filter}
use Rattle.flow_model.specs.declared.history.Entry.{Entry}
use Rattle.flow_model.specs.declared.history.Step.{Step}
use Rattle.flow_model.specs.declared.history.Step.TheVariants.{Took, Done, Failed, Did, Rewound}
use Rattle.flow_model.specs.declared.history.FailEffect.TheVariants.{Switched}
use Rattle.flow_model.specs.Schema.{Schema}
use Rattle.flow_model.specs.Takers.{Taking, takings_of}
use Rattle.flow_model.specs.Run.{RunState, state_of, IsCurrent}
use Rattle.flow_model.specs.Verdict.{call_of}
use Rattle.flow_standing.specs.declared.claims.Out.{Out}
use Rattle.flow_standing.specs.declared.trail.Doing.{Doing}
use Rattle.flow_standing.specs.declared.undone.TakenBack.{TakenBack}
use Rattle.flow_standing.specs.Trail.{StandsAt}

-- the state of a front
abbrev pub state_at : Schema → List Entry → ℕ → RunState
state_at w history k = state_of w (take k history)

-- the leaves of the claims, in the order in which they were given
abbrev pub leaves_given : List Entry → List ℕ
leaves_given history = map (λ (t : Taking). t.leaf) (takings_of history).given

-- the leaf of the claim that a step gives
abbrev pub leaf_taken : Step → Option ℕ
leaf_taken (Took claim leaf) = Some leaf
leaf_taken other = None

-- the leaf of the claim of a number, in the list of all of them
abbrev pub leaf_numbered : List ℕ → ℕ → ℕ
leaf_numbered leaves zero = 0
leaf_numbered leaves (suc i) = get_or leaves i 0

abbrev pub leaf_done : Doing → ℕ
leaf_done doing = doing.leaf

-- what stands on the journal after the first entries
pub record IsTrail (w : Schema) (history : List Entry) (k : ℕ) (trail : List Doing) : Type 0 where
  pub leaves : map leaf_done trail ≡ (state_at w history k).journal
  pub each : (index : ℕ) (doing : Doing) → slice_get trail index ≡ Some doing → StandsAt w history k index doing

-- the same after a caller's step
abbrev pub next_trail : (ℕ → ℕ) → List Doing → ℕ → ℕ → Step → List Doing
next_trail leaf_of trail place by (Done claim) = trail ++ record { leaf = leaf_of claim; claim = Some claim; by = by; place = place } ∷ []
next_trail leaf_of trail place by (Did leaf) = trail ++ record { leaf = leaf; claim = None; by = by; place = place } ∷ []
next_trail leaf_of trail place by (Rewound index) = take index trail
next_trail leaf_of trail place by other = trail

-- what was done, as a step back takes it
abbrev pub taken_by : ℕ → Doing → Option TakenBack
taken_by rewound doing =
    option_map (λ (claim : ℕ). record { leaf = doing.leaf; claim = claim; by = doing.by; done = doing.place; rewound = rewound }) doing.claim

-- what an entry tells of a claim that is out
abbrev pub FindsOut : Schema → List Entry → ℕ → Entry → Option Out → Type 0
FindsOut w history place entry None = (claim leaf : ℕ) → entry.step ≡ Took claim leaf → ¬ (IsCurrent (state_of w history) claim)
FindsOut w history place entry (Some out) =
    (claim leaf : ℕ) × (entry.step ≡ Took claim leaf) × IsCurrent (state_of w history) claim
    × (out ≡ record { call = call_of w (state_of w history) claim; holder = entry.by; place = place })

-- to what length a step back cuts the journal
abbrev pub index_cut : Step → Option ℕ
index_cut (Rewound index) = Some index
index_cut other = None

-- the leaf at an index of the journal
abbrev pub leaf_at : List Doing → ℕ → ℕ
leaf_at trail index = get_or (map leaf_done trail) index 0

-- the bans after a step, where that stands on the journal before it
abbrev pub next_bans : (ℕ → ℕ) → List Doing → List (ℕ × ℕ) → Step → List (ℕ × ℕ)
next_bans leaf_of trail bans (Failed claim Switched) = bans ++ (length trail, leaf_of claim) ∷ []
next_bans leaf_of trail bans (Rewound index) = filter (λ ban. nat_le ban.0 index) bans ++ (index, leaf_at trail index) ∷ []
next_bans leaf_of trail bans other = bans

-- of each leaf whether the last claim on it failed, after a step
abbrev pub next_flags : (ℕ → ℕ) → List Bool → Step → List Bool
next_flags leaf_of flags (Took claim leaf) = slice_set flags leaf false
next_flags leaf_of flags (Failed claim effect) = slice_set flags (leaf_of claim) true
next_flags leaf_of flags other = flags
