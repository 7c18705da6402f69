use Rattle.std.proofs.Common.{ℕ, take}
use Rattle.flow_case_book.specs.Due.{IsGivenOn}
use Rattle.flow_case_book.proofs.dues.leaf_of_claim.Given as goal

abbrev pub invariant-loop-entry : goal.invariant-loop-entry
invariant-loop-entry l = (leaf : ℕ) → ¬ (IsGivenOn (take l.entry-index l.history) l.claim leaf)
