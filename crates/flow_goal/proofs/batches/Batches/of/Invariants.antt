use Rattle.std.proofs.Common.{◌≡◌, ◌<◌, ℕ, length, slice_index}
use Rattle.flow_model.specs.Facts.{event_at}
use Rattle.flow_goal.specs.Batches.{bit_of, place_of, seen_in}
use Rattle.flow_goal.proofs.batches.Batches.of.Given as goal

abbrev pub invariant-loop-batch : goal.invariant-loop-batch
invariant-loop-batch l = record {
  many : length l.again.items ≡ l.batch;
  words : (batch : ℕ) → batch < length l.again.items →
      slice_index l.again.items batch ≡ (seen_in (λ n. bit_of (place_of l.places.items (event_at l.tree.labels n)) batch) l.tree.process).again;
}
