-- What a file in memory shows, and what a crash may leave of it.
use Rattle.std.specs.Prelude.{ℕ, List, length}
use Rattle.flow_disk.specs.Change.{FileState, state_at, IsImageOf, IsSyncAt, filled_state}
use Rattle.flow_disk.specs.declared.change_log.ChangeLog.{ChangeLog}

abbrev pub shown_of : ChangeLog → List ℕ
shown_of log = log.shown.items

abbrev pub moment_of : ChangeLog → ℕ
moment_of log = length log.changes.items

-- its state at a moment
abbrev pub past_of : ChangeLog → ℕ → FileState
past_of log t = state_at log.first.items log.pool.items log.changes.items t

abbrev pub images_of : ChangeLog → ℕ → List ℕ → Type 0
images_of log t c = IsImageOf (past_of log t) c

abbrev pub syncs_of : ChangeLog → ℕ → Type 0
syncs_of log t = IsSyncAt log.changes.items t

-- the image now with the same byte wherever was written since the last sync
abbrev pub filled_of : ChangeLog → ℕ → List ℕ
filled_of log fill = filled_state fill (past_of log (moment_of log))
