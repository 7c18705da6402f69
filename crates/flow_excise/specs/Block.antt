-- Resolutions side by side: one a lane, and 64 of them a block.
use Rattle.std.specs.Prelude.{◌≡◌, ◌<◌, ◌≤◌, ℕ, ◌+◌, ◌-◌, ◌*◌, min, List, Some, length, map, slice_get}
use Rattle.flow_model.specs.Process.{Process, leaves}
use Rattle.flow_model.specs.Folding.{fixed_leaves}
use Rattle.flow_model.specs.Resolution.{ChoiceOption}
use Rattle.flow_model.specs.Ways.{Normal, leaf_of_event}
use Rattle.flow_rules.specs.declared.lanes.Lanes.{Lanes}
use Rattle.flow_rules.specs.Lanes.{Shows}
use Rattle.flow_rules.specs.Narrowed.{ways_in}
use Rattle.flow_excise.specs.declared.block.Block.{Block}
use Rattle.flow_excise.specs.Options.{FoldedTree, count_in, option_by, resolutions_in, ways_by}

-- each lane below a bound shows the leaves of its resolution outside choices, the first lane those of the resolution of that number
abbrev pub AreShown : FoldedTree → ℕ → ℕ → Lanes → Type 0
AreShown t first size lanes = (lane : ℕ) (q : Process) → lane < size → slice_get (resolutions_in t) (first + lane) ≡ Some q →
    Shows lanes lane (leaf_of_event t.tree.labels (fixed_leaves q))

-- there is a resolution of that number, and it has so many leaves
abbrev pub HasLeafCount : FoldedTree → ℕ → ℕ → Type 0
HasLeafCount t number count = (q : Process) × (slice_get (resolutions_in t) number ≡ Some q) × (count ≡ length (leaves q))

-- of each it is told how many leaves its resolution has, of the first one the resolution of that number
abbrev pub AreLeafCounts : FoldedTree → ℕ → List ℕ → Type 0
AreLeafCounts t first counts = (lane count : ℕ) → slice_get counts lane ≡ Some count → HasLeafCount t (first + lane) count

-- its rules have in each lane the ways of its resolution
abbrev pub HasWays : FoldedTree → Normal → Block → Type 0
HasWays t n block = (lane : ℕ) (q : Process) → lane < block.size → slice_get (resolutions_in t) (block.first + lane) ≡ Some q →
    ways_in block.narrowed lane (leaf_of_event t.tree.labels (fixed_leaves q)) ≡ ways_by t n q

-- it is the block of that number
pub record IsBlock (t : FoldedTree) (n : Normal) (number : ℕ) (block : Block) : Type 0 where
  pub first : block.first ≡ 64 * number
  pub size : block.size ≡ min 64 (count_in t - 64 * number)
  pub few : block.size ≤ 64
  pub within : block.first + block.size ≤ count_in t
  pub leaves : AreLeafCounts t block.first block.leaves.items
  pub listed : length block.leaves.items ≡ block.size
  pub ways : HasWays t n block

-- it is a block, which its first resolution numbers
abbrev pub IsSomeBlock : FoldedTree → Normal → Block → Type 0
IsSomeBlock t n block = (number : ℕ) → block.first ≡ 64 * number → IsBlock t n number block

-- the options of a resolution in a lane, by the rules of the block
abbrev pub options_in : FoldedTree → Block → ℕ → Process → List ChoiceOption
options_in t block lane q = map (option_by q) (ways_in block.narrowed lane (leaf_of_event t.tree.labels (fixed_leaves q)))
