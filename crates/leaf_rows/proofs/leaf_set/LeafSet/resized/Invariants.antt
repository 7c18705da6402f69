use Rattle.std.proofs.Common.{◌≡◌, ℕ, ◌<◌, ◌≤◌, get_or, length}
use Rattle.leaf_rows.proofs.leaf_set.LeafSet.resized.Given as goal

-- the words below i are those of self, and the others are empty
abbrev pub invariant-loop-i : goal.invariant-loop-i
invariant-loop-i g l = record {
  long : length l.words ≡ g.row.V;
  copied : (k : ℕ) → k < l.i → get_or l.words k 0 ≡ get_or l.self.words k 0;
  empty : (k : ℕ) → l.i ≤ k → get_or l.words k 0 ≡ 0;
}
