use Rattle.std.proofs.Common.{◌≡◌, ℕ, ◌<◌, ◌≤◌, get_or, bit_or}
use Rattle.leaf_rows.proofs.leaf_set.LeafSet.union_narrow.Given as goal

-- the words below i are joined, and the others are as they were
abbrev pub invariant-loop-i : goal.invariant-loop-i
invariant-loop-i g l = record {
  joined : (k : ℕ) → k < l.i → get_or l.self.words k 0 ≡ bit_or (get_or l.initial.self.words k 0) (get_or l.other.words k 0);
  kept : (k : ℕ) → l.i ≤ k → get_or l.self.words k 0 ≡ get_or l.initial.self.words k 0;
}
