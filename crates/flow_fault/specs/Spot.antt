-- A place in a text as a person finds it.
use Rattle.std.specs.Prelude.{◌≡◌, ℕ, ◌+◌, ◌≤◌, List, length, take, drop}
use Rattle.flow_fault.specs.Lines.{first_line, feeds, EndsLine}
use Rattle.flow_fault.specs.declared.spot.Spot.{Spot}

-- The line begins where the text begins or a line feed stands before it, and goes on up to the next one. The place is in it, or where it ends.
-- Lines are counted by the line feeds before them, columns from where the line begins, both from 1.
pub record IsSpot (text : List ℕ) (place : ℕ) (spot : Spot) : Type 0 where
  pub start : ℕ
  pub begins : EndsLine (take start text)
  pub line_is : spot.text.now ≡ first_line (drop start text)
  pub behind : start ≤ place
  pub within : place ≤ start + length spot.text.now
  pub line : spot.line ≡ feeds (take start text) + 1
  pub column : spot.column + start ≡ place + 1
