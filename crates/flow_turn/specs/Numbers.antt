-- The numbers of passes.
use Rattle.std.specs.Prelude.{ℕ, ◌+◌, List, [], ◌++◌, ◌∷◌}
use Rattle.atomic_table.specs.Seated.{TableId}
use Rattle.flow_model.specs.Lists.{AreDistinct}
use Rattle.flow_turn.specs.Passes.{Knowledge, root_pass, split_pass, joined_root}

-- What is done with the root pass of a lock.
pub data RootDeed (E F : Type 0) : Type 0 where
  -- a pass is split from it
  Split : RootDeed E F
  -- its caller has a turn, after which it has seen the first list, and adds the second
  Turn : List E → List E → RootDeed E F
  -- the pass is joined into it, after which it has seen the list
  Join : Knowledge E F → List E → RootDeed E F

module _ {E F : Type 0} where
  -- what the root knows afterwards
  abbrev pub root_after : Knowledge E F → RootDeed E F → Knowledge E F
  root_after root Split = record root { given = root.given + 1; outs = root.outs + 1 }
  root_after root (Turn seen added) = record root { seen = seen; mine = root.mine ++ added }
  root_after root (Join pass seen) = joined_root root pass seen

  -- the numbers of the passes that are split from it on the way, in order
  abbrev pub split_numbers : Knowledge E F → List (RootDeed E F) → List ℕ
  split_numbers root [] = []
  split_numbers root (Split ∷ deeds) = (split_pass root).number ∷ split_numbers (root_after root Split) deeds
  split_numbers root (Turn seen added ∷ deeds) = split_numbers (root_after root (Turn seen added)) deeds
  split_numbers root (Join pass seen ∷ deeds) = split_numbers (root_after root (Join pass seen)) deeds

-- A pass that is split from the root of a lock has a number that neither the root has nor a pass that was split before it, whatever
-- was joined in between.
abbrev pub NumbersAreNew : Type 0 → Type 0 → Type 0
NumbersAreNew E F = (lock : TableId) (part : F) (deeds : List (RootDeed E F)) →
    AreDistinct ((root_pass {E = E} lock part).number ∷ split_numbers (root_pass lock part) deeds)
