-- Who took what, in a history.
use Rattle.std.specs.Prelude.{◌≡◌, ℕ, ◌==◌, IsTrue, List, [], ◌∷◌, ◌++◌, Option, Some, None, option_map, ◌⊎◌}
use Rattle.std.specs.List.{find}
use Rattle.flow_model.specs.declared.history.Entry.{Entry}
use Rattle.flow_model.specs.declared.history.Step.{Step}
use Rattle.flow_model.specs.declared.history.Step.TheVariants.{Took, Done}
use Rattle.flow_model.specs.Lists.{◌∈◌}
use Rattle.flow_model.specs.Run.{Claim, RunState, is_current}

-- a claim that was given: on which leaf, and to whom
pub record Taking : Type 0 where
  pub claim : ℕ
  pub leaf : ℕ
  pub taker : ℕ

pub record Takings : Type 0 where
  -- all claims, in the order in which they were given
  pub given : List Taking
  -- those that were done, the last of them first
  pub done : List Taking

abbrev pub no_takings : Takings
no_takings = record { given = []; done = [] }

-- the taking of a claim, and the first of a list on a leaf
abbrev pub taking_of : List Taking → ℕ → Option Taking
taking_of takings claim = find (λ (t : Taking). t.claim == claim) takings

abbrev pub taking_on : List Taking → ℕ → Option Taking
taking_on takings leaf = find (λ (t : Taking). t.leaf == leaf) takings

-- what was done goes to the front of what was done before
abbrev pub onto : Option Taking → List Taking → List Taking
onto None done = done
onto (Some t) done = t ∷ done

-- the takings after a caller's step
abbrev pub next_takings : Takings → ℕ → Step → Takings
next_takings t by (Took claim leaf) = record t { given = t.given ++ record { claim = claim; leaf = leaf; taker = by } ∷ [] }
next_takings t by (Done claim) = record t { done = onto (taking_of t.given claim) t.done }
next_takings t by other = t

abbrev pub takings_after : Takings → List Entry → Takings
takings_after t [] = t
takings_after t (entry ∷ entries) = takings_after (next_takings t entry.by entry.step) entries

-- the takings of a history
abbrev pub takings_of : List Entry → Takings
takings_of history = takings_after no_takings history

-- a current claim has that number, and is on the leaf
pub record IsOut (s : RunState) (number leaf : ℕ) : Type 0 where
  pub claim : Claim
  pub given : claim ∈ s.claims
  pub current : IsTrue (is_current s claim)
  pub number_is : claim.number ≡ number
  pub leaf_is : claim.leaf ≡ leaf

-- The leaf is that of a current claim, whose taker this is; or it is on the journal, and this is the taker of the last claim on it
-- that was done.
abbrev pub IsTakenBy : RunState → Takings → ℕ → ℕ → Type 0
IsTakenBy s t leaf by =
    ((claim : ℕ) × IsOut s claim leaf × (record { claim = claim; leaf = leaf; taker = by } ∈ t.given))
    ⊎ ((leaf ∈ s.journal) × ((claim : ℕ) × (taking_on t.done leaf ≡ Some (record { claim = claim; leaf = leaf; taker = by }))))

-- who took the claim of that number, current or not
abbrev pub taker_of : List Entry → ℕ → Option ℕ
taker_of history claim = option_map (λ (t : Taking). t.taker) (taking_of (takings_of history).given claim)
