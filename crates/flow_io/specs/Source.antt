-- What reads do to the bytes that a source has left, where the source tells them.
use Rattle.std.specs.Prelude.{◌≡◌, ℕ, ◌≤◌, ◌<◌, List, [], length, take, drop, Option, None, Some}
use Rattle.std.specs.Io.KnownBytes.{Consumes, IsAtEnd}

-- a read of n bytes: the next ones, at the front of the buffer, whose rest stays, and none only at
-- the end or with no room
pub record GivesNext (left left' : Option (List ℕ)) (buffer buffer' : List ℕ) (n : ℕ) : Type 0 where
  pub fits : n ≤ length buffer'
  pub next : Consumes left left' (take n buffer')
  pub rest : drop n buffer' ≡ drop n buffer
  pub end : n ≡ 0 → 0 < length buffer → IsAtEnd left'

-- where the source tells its bytes, exactly n of them are gone
abbrev pub LosesCount : Option (List ℕ) → Option (List ℕ) → ℕ → Type 0
LosesCount None left' n = Unit {0}
LosesCount (Some bytes) left' n = (n ≤ length bytes) × (left' ≡ Some (drop n bytes))

-- where the source tells its bytes, at most n of them are gone
abbrev pub LosesAtMost : Option (List ℕ) → Option (List ℕ) → ℕ → Type 0
LosesAtMost left left' n = (k : ℕ) × (k ≤ n) × LosesCount left left' k

-- where the source tells its bytes, these are all of them, and none is left
abbrev pub IsAllOf : Option (List ℕ) → Option (List ℕ) → List ℕ → Type 0
IsAllOf None left' read = Unit {0}
IsAllOf (Some bytes) left' read = (read ≡ bytes) × (left' ≡ Some [])
