-- The value and the invariant of claims, over the fields.
use Rattle.std.specs.Prelude.{◌≡◌, ◌≤◌, ◌<◌, ◌-◌, ◌⊎◌, ℕ, List, [], ◌∷◌, ◌++◌, length, map, drop, Some, slice_get, slice_index}
use Rattle.std.specs.Vec.{vec_capacity}
use Rattle.flow_model.specs.declared.limits.TheConstants.{MOST_ENTRIES}
use Rattle.flow_model.specs.Lists.{◌∈◌, Each}
use Rattle.flow_residual.specs.declared.given.Given.{Given}
use Rattle.flow_residual.specs.declared.claims.Claims.TheInside.{Inside}
use Rattle.flow_residual.specs.Given.{claims_from, out_places, out_leaves}
use Rattle.flow_residual.specs.Claimed.{Claimed, count_of}

abbrev pub events_of : List Given → List ℕ
events_of given = map (λ (g : Given). g.event) given

abbrev pub takers_of : List Given → List ℕ
takers_of given = map (λ (g : Given). g.by) given

abbrev pub claimed : List Given → ℕ → ℕ → ℕ → Claimed
claimed given epoch room kinds =
    record { claims = claims_from 1 given; events = events_of given; takers = takers_of given; epoch = epoch; room = room; kinds = kinds }

abbrev pub claimed_by : Inside → Claimed
claimed_by c = claimed c.given.items c.epoch (vec_capacity c.given) (length c.last.items)

-- the attempt of each is how many were given on its event up to it, where those on the events were given before
abbrev pub AreCounted : List ℕ → List Given → Type 0
AreCounted before [] = Unit {0}
AreCounted before (given ∷ more) =
    (given.attempt ≡ count_of given.event (before ++ given.event ∷ [])) × AreCounted (before ++ given.event ∷ []) more

-- the number of the last claim on the event; 0 where there is none
pub record IsLastOf (events : List ℕ) (event number : ℕ) : Type 0 where
  pub on_it : (number ≡ 0) ⊎ (slice_get events (number - 1) ≡ Some event)
  pub none_later : ¬ (event ∈ drop number events)

-- the current ones, the attempts and the last claims by event are those of the claims given
pub record IsKept (given : List Given) (current leaves last : List ℕ) (epoch : ℕ) : Type 0 where
  pub epochs : Each (λ (g : Given). g.epoch ≤ epoch) given
  pub current_are : current ≡ out_places epoch 0 given
  pub leaves_are : leaves ≡ out_leaves epoch 0 given
  pub counted : AreCounted [] given
  pub known : Each (λ event. event < length last) (events_of given)
  pub lasts : (event : ℕ) → event < length last → IsLastOf (events_of given) event (slice_index last event)

-- besides, there is room
pub record AreInStep (c : Inside) : Type 0 where
  pub kept : IsKept c.given.items c.current.items c.leaves.items c.last.items c.epoch
  pub few : length c.given.items ≤ vec_capacity c.given
  pub room : vec_capacity c.given ≤ MOST_ENTRIES
  pub current_room : vec_capacity c.given ≤ vec_capacity c.current
  pub leaves_room : vec_capacity c.given ≤ vec_capacity c.leaves
