-- A file in memory: what it was at first, the bytes of all writes one behind another, and what its calls changed.
use Rattle.std.specs.Prelude.{◌≡◌, ℕ, ◌≤◌, zero, suc, ◌+◌, List, [], ◌∷◌, ◌++◌, length, take, drop, Bool, true, ◌&&◌, nat_le, Some, slice_get, replicate}
use Rattle.flow_disk.specs.declared.change.Change.{Change}
use Rattle.flow_disk.specs.declared.change.Change.TheVariants.{Wrote, Tore, Synced}
use Rattle.flow_disk.specs.Disk.{Torn}

pub record FileState : Type 0 where
  -- what was on the disk at the last sync
  pub durable : List ℕ
  -- where was written since, the last first
  pub ranges : List (ℕ × ℕ)
  pub seen : List ℕ
  -- the bytes of later writes
  pub rest : List ℕ

abbrev pub written : List ℕ → ℕ → List ℕ → List ℕ
written old at bytes = take at old ++ bytes ++ drop (at + length bytes) old

abbrev pub changed : FileState → Change → FileState
changed s (Wrote at count) = record { durable = s.durable; ranges = (at, count) ∷ s.ranges; seen = written s.seen at (take count s.rest); rest = drop count s.rest }
changed s (Tore at count) = record s { ranges = (at, count) ∷ s.ranges }
changed s Synced = record s { durable = s.seen; ranges = [] }

abbrev pub changed_all : FileState → List Change → FileState
changed_all s [] = s
changed_all s (change ∷ changes) = changed_all (changed s change) changes

-- the state after so many changes
abbrev pub state_at : List ℕ → List ℕ → List Change → ℕ → FileState
state_at first pool changes t = changed_all (record { durable = first; ranges = []; seen = first; rest = pool }) (take t changes)

-- what a crash may leave: what was durable, with any bytes in the ranges
abbrev pub IsImage : List ℕ → List (ℕ × ℕ) → List ℕ → Type 0
IsImage durable [] c = c ≡ durable
IsImage durable (range ∷ ranges) c = (d : List ℕ) × IsImage durable ranges d × Torn range.0 range.1 d c

abbrev pub IsImageOf : FileState → List ℕ → Type 0
IsImageOf s c = IsImage s.durable s.ranges c

-- the change before that moment was a sync
abbrev pub IsSyncAt : List Change → ℕ → Type 0
IsSyncAt changes zero = ⊥
IsSyncAt changes (suc t) = slice_get changes t ≡ Some Synced

-- how many bytes of the pool the changes take
abbrev pub taken : List Change → ℕ
taken [] = 0
taken (Wrote at count ∷ changes) = count + taken changes
taken (Tore at count ∷ changes) = taken changes
taken (Synced ∷ changes) = taken changes

-- each write begins in the file or at its end
abbrev pub all_within : FileState → List Change → Bool
all_within s [] = true
all_within s (Wrote at count ∷ changes) = nat_le at (length s.seen) && all_within (changed s (Wrote at count)) changes
all_within s (Tore at count ∷ changes) = nat_le at (length s.seen) && all_within (changed s (Tore at count)) changes
all_within s (Synced ∷ changes) = all_within (changed s Synced) changes

abbrev pub begins_within : List ℕ → List ℕ → List Change → Bool
begins_within first pool changes = all_within (record { durable = first; ranges = []; seen = first; rest = pool }) changes

-- the changes, replayed from the first bytes, give what is shown; they take just the pool, and each write begins within the file
pub record Replays (first pool : List ℕ) (changes : List Change) (shown : List ℕ) : Type 0 where
  pub shows : (state_at first pool changes (length changes)).seen ≡ shown
  pub pooled : taken changes ≡ length pool
  pub within : begins_within first pool changes ≡ true
  pub fits : length shown ≤ length first + length pool

-- the image with the same byte all over the ranges
abbrev pub filled : ℕ → List ℕ → List (ℕ × ℕ) → List ℕ
filled fill durable [] = durable
filled fill durable (range ∷ ranges) = written (filled fill durable ranges) range.0 (replicate range.1 fill)

abbrev pub filled_state : ℕ → FileState → List ℕ
filled_state fill s = filled fill s.durable s.ranges
