-- Lists begun at their least member.
use Rattle.std.specs.Prelude.{◌≡◌, ℕ, List, ◌++◌, take, drop}
use Rattle.flow_model.specs.Circle.{BeginsWithLeast}

-- the second list is the first begun at its least member
pub record IsTurned (old new : List ℕ) : Type 0 where
  pub place : ℕ
  pub turned : new ≡ drop place old ++ take place old
  pub from_least : BeginsWithLeast new
