-- Passes have numbers of their own.
use Rattle.std.proofs.Common.{◌<◌, ◌+◌, ℕ, List, [], ◌∷◌, arith}
use Rattle.atomic_table.specs.Seated.{TableId}
use Rattle.flow_model.specs.Lists.{◌∈◌, Each, AreDistinct}
use Rattle.flow_model.proofs.Lists.{each_member, each_to}
use Rattle.flow_turn.specs.Passes.{Knowledge, root_pass}
use Rattle.flow_turn.specs.Numbers.{RootDeed, Split, Turn, Join, root_after, split_numbers}

-- a lesser number is none of those that are greater
none_less : (n : ℕ) (numbers : List ℕ) → Each (λ m. n < m) numbers → ¬ (n ∈ numbers)
none_less n numbers above there = let less : n < n = each_member (λ m. n < m) numbers above n there in omega arith

module _ {E F : Type 0} where
  -- each is greater than the count so far
  numbers_above : (root : Knowledge E F) (deeds : List (RootDeed E F)) → Each (λ n. root.given < n) (split_numbers root deeds)
  numbers_above root [] = tt
  numbers_above root (Split ∷ deeds) = (
    omega arith,
    each_to (λ n. root.given + 1 < n) (λ n. root.given < n) (split_numbers (root_after root Split) deeds) (λ n above. omega (arith, above))
        (numbers_above (root_after root Split) deeds),
  )
  numbers_above root (Turn seen added ∷ deeds) = numbers_above (root_after root (Turn seen added)) deeds
  numbers_above root (Join pass seen ∷ deeds) = numbers_above (root_after root (Join pass seen)) deeds

  numbers_differ : (root : Knowledge E F) (deeds : List (RootDeed E F)) → AreDistinct (split_numbers root deeds)
  numbers_differ root [] = tt
  numbers_differ root (Split ∷ deeds) = (
    none_less (root.given + 1) (split_numbers (root_after root Split) deeds) (numbers_above (root_after root Split) deeds),
    numbers_differ (root_after root Split) deeds,
  )
  numbers_differ root (Turn seen added ∷ deeds) = numbers_differ (root_after root (Turn seen added)) deeds
  numbers_differ root (Join pass seen ∷ deeds) = numbers_differ (root_after root (Join pass seen)) deeds

  pub numbers_are_new : (lock : TableId) (part : F) (deeds : List (RootDeed E F)) →
      AreDistinct ((root_pass {E = E} lock part).number ∷ split_numbers (root_pass lock part) deeds)
  numbers_are_new lock part deeds =
      (none_less 0 (split_numbers (root_pass lock part) deeds) (numbers_above (root_pass lock part) deeds), numbers_differ (root_pass lock part) deeds)
