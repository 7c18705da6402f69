use Rattle.std.proofs.Common.{◌≡◌, ℕ, ◌<◌, ◌≤◌, ◌^◌, get_or, bit_and, w64}
use Rattle.std.specs.Int.{bit_not}
use Rattle.leaf_rows.proofs.leaf_set.LeafSet.remove_between.Given as goal

-- the words from the first up to i are cleared, and the others are as they were
abbrev pub invariant-loop-i : goal.invariant-loop-i
invariant-loop-i g l = record {
  cleared : (k : ℕ) → l.from ≤ k → k < l.i → get_or l.self.words k 0 ≡ bit_and (get_or l.initial.self.words k 0) (bit_not w64 (get_or l.other.words k 0));
  fits : (k : ℕ) → l.from ≤ k → k < l.i → get_or l.other.words k 0 < 2 ^ 64;
  before : (k : ℕ) → k < l.from → get_or l.self.words k 0 ≡ get_or l.initial.self.words k 0;
  kept : (k : ℕ) → l.i ≤ k → get_or l.self.words k 0 ≡ get_or l.initial.self.words k 0;
}
