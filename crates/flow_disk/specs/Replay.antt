-- One step of going through the changes of a file again.
use Rattle.std.specs.Prelude.{◌≡◌, ◌≤◌, ℕ, ◌+◌, List, length, take, drop, replicate}
use Rattle.flow_disk.specs.declared.change.Change.{Change}
use Rattle.flow_disk.specs.declared.change.Change.TheVariants.{Wrote, Tore, Synced}
use Rattle.flow_disk.specs.declared.replay.Replay.{Replay}
use Rattle.flow_disk.specs.Change.{written}

-- the change begins within the file, and its bytes are in the pool
abbrev pub CanStep : List ℕ → Replay → Change → Type 0
CanStep pool replay (Wrote at count) =
    (at ≤ length replay.seen.items) × (at ≤ length replay.left.items) × (replay.taken + count ≤ length pool)
CanStep pool replay (Tore at count) = at ≤ length replay.left.items
CanStep pool replay Synced = Unit {0}

-- the file after the change: what is seen, what is left, how many bytes are taken
pub record StepsTo (seen left : List ℕ) (taken : ℕ) (replay : Replay) : Type 0 where
  pub seen_is : replay.seen.items ≡ seen
  pub left_is : replay.left.items ≡ left
  pub taken_is : replay.taken ≡ taken

abbrev pub Steps : List ℕ → ℕ → Replay → Change → Replay → Type 0
Steps pool fill old (Wrote at count) = StepsTo (written old.seen.items at (take count (drop old.taken pool))) (written old.left.items at (replicate count fill)) (old.taken + count)
Steps pool fill old (Tore at count) = StepsTo old.seen.items (written old.left.items at (replicate count fill)) old.taken
Steps pool fill old Synced = StepsTo old.seen.items old.seen.items old.taken
