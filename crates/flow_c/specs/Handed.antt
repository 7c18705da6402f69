-- What whoever calls finds afterwards: in the room that he gave, in the length, and as the status.
use Rattle.std.specs.Prelude.{◌≡◌, ◌<◌, ◌≤◌, ◌⊎◌, ℕ, List, ◌++◌, length, drop}

-- the room has the output at its front, and is else as it was
pub record IsWhole (output : List ℕ) (status : ℕ) (room room' : List ℕ) (length' result : ℕ) : Type 0 where
  pub fits : length output ≤ length room
  pub room_is : room' ≡ output ++ drop (length output) room
  pub length_is : length' ≡ length output
  pub status_is : result ≡ status

-- the output does not fit, and how long it is is told
pub record IsTooLong (output : List ℕ) (room room' : List ℕ) (length' result : ℕ) : Type 0 where
  pub fits_not : length room < length output
  pub room_is : room' ≡ room
  pub length_is : length' ≡ length output
  pub status_is : result ≡ 9

abbrev pub IsHandedOver : List ℕ → ℕ → List ℕ → List ℕ → ℕ → ℕ → Type 0
IsHandedOver output status room room' length' result =
    IsWhole output status room room' length' result ⊎ IsTooLong output room room' length' result

-- there is no output
pub record IsNothing (status : ℕ) (room room' : List ℕ) (length' result : ℕ) : Type 0 where
  pub room_is : room' ≡ room
  pub length_is : length' ≡ 0
  pub status_is : result ≡ status
