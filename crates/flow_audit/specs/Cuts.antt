-- Where a text is cut into journals.
use Rattle.std.specs.Prelude.{◌≡◌, ◌≤◌, ℕ, ◌+◌, ◌-◌, min, if◌then◌else◌, List, [], ◌∷◌, length, take, drop, Some, slice_get}
use Rattle.flow_record.specs.Lines.{lines_of}
use Rattle.flow_record.specs.Cut.{is_divider}

-- what stands of the text between the two places
abbrev pub piece : List ℕ → ℕ × ℕ → List ℕ
piece text cut = take (cut.1 - cut.0) (drop cut.0 text)

-- each lies in the text
abbrev pub AreCuts : List ℕ → List (ℕ × ℕ) → Type 0
AreCuts text cuts = (i : ℕ) (cut : ℕ × ℕ) → slice_get cuts i ≡ Some cut → (cut.0 ≤ cut.1) × (cut.1 ≤ length text)

-- the journals from the one that begins at the start on, where the lines from the place on are still to be looked at:
-- one ends where a divider begins, and the next begins after its line feed
abbrev pub cuts_from : ℕ → ℕ → ℕ → List (List ℕ) → List (ℕ × ℕ)
cuts_from whole start place [] = (start, whole) ∷ []
cuts_from whole start place (line ∷ lines) =
    if is_divider line then (start, place) ∷ cuts_from whole (min (place + length line + 1) whole) (min (place + length line + 1) whole) lines
    else cuts_from whole start (place + length line + 1) lines

-- where each journal of a text begins, and where it ends: one more than there are dividers
abbrev pub cuts_of : List ℕ → List (ℕ × ℕ)
cuts_of text = cuts_from (length text) 0 0 (lines_of text)
