-- What can be said of a file in memory: what every disk tells, how its calls are counted, and what it has room for.
use Rattle.std.specs.Prelude.{◌≡◌, ℕ, ◌+◌, ◌<◌, ◌≤◌, List, length, Bool, true, false, Option, Some, None}
use Rattle.flow_disk.specs.ChangeLog as Log
use Rattle.flow_disk.specs.declared.mem_disk.MemDisk.{MemDisk}

abbrev pub seen_of : MemDisk → List ℕ
seen_of disk = Log.shown_of disk.log

abbrev pub moment_of : MemDisk → ℕ
moment_of disk = Log.moment_of disk.log

abbrev pub image_of : MemDisk → ℕ → List ℕ → Type 0
image_of disk = Log.images_of disk.log

abbrev pub synced_of : MemDisk → ℕ → Type 0
synced_of disk = Log.syncs_of disk.log

abbrev pub faults_of : MemDisk → ℕ
faults_of disk = disk.calls.faults

-- the number of the only file there is
abbrev pub the_file : ℕ
the_file = 0

-- the only file, where it is chosen
abbrev pub if_chosen : Bool → Option ℕ
if_chosen true = Some the_file
if_chosen false = None

abbrev pub chosen_of : MemDisk → Option ℕ
chosen_of disk = if_chosen disk.chosen

-- the image now with the same byte wherever was written since the last sync
abbrev pub filled_of : MemDisk → ℕ → List ℕ
filled_of disk fill = Log.filled_of disk.log fill

-- how many calls there were, so also the number of the next one
abbrev pub calls_made : MemDisk → ℕ
calls_made disk = disk.calls.succeeded + disk.calls.faults

-- the number of the first call that fails because it comes too late
abbrev pub stop_of : MemDisk → ℕ
stop_of disk = disk.calls.stop_at

-- the bytes given at first, with those of all writes that succeeded; and how many these may be
abbrev pub bytes_taken : MemDisk → ℕ
bytes_taken disk = length disk.log.first.items + length disk.log.pool.items

abbrev pub room_of : MemDisk → ℕ
room_of disk = disk.log.room

-- one call more, which took so many bytes
pub record Counts (old new : MemDisk) (more : ℕ) : Type 0 where
  pub calls : calls_made new ≡ calls_made old + 1
  pub taken : bytes_taken new ≡ bytes_taken old + more
  pub stop : stop_of new ≡ stop_of old
  pub room : room_of new ≡ room_of old

-- the next call comes too late
abbrev pub IsLate : MemDisk → Type 0
IsLate disk = stop_of disk ≤ calls_made disk

-- so many bytes more are too many
abbrev pub IsFull : MemDisk → ℕ → Type 0
IsFull disk more = room_of disk < bytes_taken disk + more
