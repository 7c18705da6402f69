-- What is told of many cases, in order.
use Rattle.std.specs.Prelude.{◌≡◌, ℕ, List, length, Ok, Some, Result, slice_get}
use Rattle.std.proofs.Common.{Vec, Global}
use Rattle.std.specs.declared.alloc.AllocError.{AllocError}
use Rattle.flow_model.specs.Lists.{joined}

-- the text is that of the first so many cases, one after another
pub record AreLines (Tells : ℕ → List ℕ → Type 0) (count : ℕ) (text : List ℕ) : Type 0 where
  pub lines : List (List ℕ)
  pub as_many : length lines ≡ count
  pub each : (place : ℕ) (line : List ℕ) → slice_get lines place ≡ Some line → Tells place line
  pub text_is : text ≡ joined lines

-- there are so many places, and what stands at one of them is told of the case at that place
pub record AreToldAt (Tells : ℕ → List ℕ → Type 0) (count : ℕ) (slots : List (Result (Vec ℕ Global) AllocError)) : Type 0 where
  pub places : length slots ≡ count
  pub each : (place : ℕ) (line : Vec ℕ Global) → slice_get slots place ≡ Some (Ok line) → Tells place line.items
