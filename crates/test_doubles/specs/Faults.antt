-- Sources and sinks in memory that fail, or give little, on purpose.
use Rattle.std.specs.Prelude.{ℕ, List}

-- a source cut in pieces: the bytes left, and how many a call gives at most
pub record Cut : Type 0 where
  pub bytes : List ℕ
  pub size : ℕ

-- a source that fails on purpose: the bytes left, the numbers of the calls that fail, how many
-- calls there were, and how many of them failed
pub record Faulty : Type 0 where
  pub bytes : List ℕ
  pub fail_at : List ℕ
  pub calls : ℕ
  pub faults : ℕ

-- a sink of a fixed room: the bytes held, the room for all of them, and how many writes have failed
pub record Store : Type 0 where
  pub bytes : List ℕ
  pub room : ℕ
  pub faults : ℕ

-- a sink that fails on purpose: the store, the numbers of the calls that fail, and how many calls
-- there were
pub record FaultyStore : Type 0 where
  pub store : Store
  pub fail_at : List ℕ
  pub calls : ℕ
