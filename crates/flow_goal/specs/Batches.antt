-- Events in batches of 64, one a bit.
use Rattle.std.specs.Prelude.{◌≡◌, ◌<◌, ℕ, ◌/◌, ◌%◌, ◌^◌, ◌==◌, if◌then◌else◌, List, Option, Some, None, length, slice_get, slice_index, bit_and, bit_or}
use Rattle.flow_model.specs.Facts.{event_at}
use Rattle.flow_model.specs.Process.{Process, Empty, Task, Sequence, Parallel, Choice, Isolated}
use Rattle.flow_goal.specs.Labelled.{Labelled}
use Rattle.flow_goal.specs.declared.batches.Seen.{Seen}
use Rattle.flow_goal.specs.declared.batches.Batches.{Batches}

abbrev pub in_both : Seen → Seen → Seen
in_both l r = record { some = bit_or l.some r.some; again = bit_or (bit_or l.again r.again) (bit_and l.some r.some) }

abbrev pub in_choice : Seen → Seen → Seen
in_choice l r = record { some = bit_or l.some r.some; again = bit_or l.again r.again }

-- the place of an event
abbrev pub place_of : List ℕ → Option ℕ → Option ℕ
place_of places None = None
place_of places (Some event) = slice_get places event

-- the bit of a place in a batch
abbrev pub bit_of : Option ℕ → ℕ → ℕ
bit_of None batch = 0
bit_of (Some place) batch = if place / 64 == batch then 2 ^ (place % 64) else 0

-- what a goal has of the events, by the bit of each leaf
abbrev pub seen_in : (ℕ → ℕ) → Process → Seen
seen_in bit Empty = record { some = 0; again = 0 }
seen_in bit (Task n) = record { some = bit n; again = 0 }
seen_in bit (Sequence a b) = in_both (seen_in bit a) (seen_in bit b)
seen_in bit (Parallel a b) = in_both (seen_in bit a) (seen_in bit b)
seen_in bit (Choice a b) = in_choice (seen_in bit a) (seen_in bit b)
seen_in bit (Isolated a) = seen_in bit a

-- each word is what the goal of the tree has of its batch
abbrev pub AreBatchesOf : Labelled → Batches → Type 0
AreBatchesOf t b = (batch : ℕ) → batch < length b.again.items →
    slice_index b.again.items batch ≡ (seen_in (λ n. bit_of (place_of b.places.items (event_at t.labels n)) batch) t.process).again
