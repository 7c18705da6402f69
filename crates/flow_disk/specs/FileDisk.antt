-- Which file is open, and when every call but `open` fails.
use Rattle.std.specs.Prelude.{◌≡◌, ◌⊎◌, ℕ, true, Option, Some, None}
use Rattle.flow_disk.specs.declared.file_disk.FileDisk.{FileDisk}

-- the number of any file that is open: nothing is told of which it is
abbrev pub the_file : ℕ
the_file = 0

abbrev pub chosen_of : {F : Type 0} → Option F → Option ℕ
chosen_of None = None
chosen_of (Some file) = Some the_file

-- no file is open, or a sync of it failed
abbrev pub IsShut : {R : Type 0} {g : _} → FileDisk R g → Type 0
IsShut disk = (disk.file ≡ None) ⊎ (disk.lost ≡ true)
