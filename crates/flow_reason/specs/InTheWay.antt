-- Claims in the way of a leaf, and what was given up.
use Rattle.std.specs.Prelude.{◌≡◌, ℕ, Bool, true, false, is_some, List, [], ◌∷◌, ◌++◌, map}
use Rattle.flow_model.specs.Facts.{event_at}
use Rattle.flow_model.specs.Lists.{◌∈◌}
use Rattle.flow_model.specs.Schema.{Schema}
use Rattle.flow_model.specs.Run.{RunState, IsCurrent, MayAllFollow, MayFollowFirst}
use Rattle.flow_core.specs.Run.{Run, schema, now}
use Rattle.flow_standing.specs.declared.claims.Out.{Out}
use Rattle.flow_standing.specs.Out.{IsGiven, AreClaimsOut}

-- the state as it would be if nothing had been given up: no leaf is banned
abbrev pub unbanned : RunState → RunState
unbanned s = record s { bans = [] }

-- an event's leaf may be taken with these leaves out; another may be done, whatever facts hold
abbrev pub MayCome : Bool → Schema → RunState → ℕ → List ℕ → Type 0
MayCome true w s leaf out = MayAllFollow w s (out ++ leaf ∷ [])
MayCome false w s leaf out = MayFollowFirst w s leaf out

-- the leaves of the claims
abbrev pub leaves_of : List Out → List ℕ
leaves_of outs = map (λ (out : Out). out.call.leaf) outs

-- if nothing had been given up, the leaf could be taken, or done whatever facts hold, with just these claims out
abbrev pub CouldWith : Run → ℕ → List Out → Type 0
CouldWith r leaf outs = MayCome (is_some (event_at (schema r).labels leaf)) (schema r) (unbanned (now r)) leaf (leaves_of outs)

-- the claim is out, as it was given
abbrev pub IsOutNow : Run → Out → Type 0
IsOutNow r out = IsCurrent (now r) out.call.claim × IsGiven (schema r) r.history out

-- the claims are out; with just these out it could not, even if nothing had been given up; with all but one of them it could
pub record AreInTheWay (r : Run) (leaf : ℕ) (outs : List Out) : Type 0 where
  pub are_out : (out : Out) → out ∈ outs → IsOutNow r out
  pub blocked : ¬ (CouldWith r leaf outs)
  pub least : (front back : List Out) (out : Out) → outs ≡ front ++ out ∷ back → CouldWith r leaf (front ++ back)

-- with all the claims that are out it could, if nothing had been given up
abbrev pub IsBarred : Run → ℕ → Type 0
IsBarred r leaf = (outs : List Out) × AreClaimsOut (schema r) r.history outs × CouldWith r leaf outs
