-- The lines of a text.
use Rattle.std.proofs.Common.{◌≤◌, ◌+◌, ℕ, ◌==◌, List, [], ◌∷◌, length, inl, inr, arith}
use Rattle.std.proofs.lemmas.Bool.{cases_Bool}
use Rattle.flow_record.specs.Lines.{pieces_of, onto_first}

length-onto_first : (b : ℕ) (pieces : List (List ℕ)) → length (onto_first b pieces) ≤ length pieces + 1
length-onto_first b [] = omega arith
length-onto_first b (piece ∷ pieces) = omega arith

-- a text has at most one piece more than bytes
pub length-pieces_of : (byte : ℕ) (text : List ℕ) → length (pieces_of byte text) ≤ length text + 1
length-pieces_of byte [] = omega arith
length-pieces_of byte (b ∷ bs) = elim (cases_Bool (b == byte)) [
  | inl is ↦ rw is (let l = length-pieces_of byte bs in omega arith)
  | inr differs ↦ rw differs (let l = length-pieces_of byte bs in let m = length-onto_first b (pieces_of byte bs) in omega arith)
]
