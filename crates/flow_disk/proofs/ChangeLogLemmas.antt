-- What a read gives of a file in memory is an image of it.
use Rattle.flow_disk.specs.declared.change_log.ChangeLog.{ChangeLog}
use Rattle.flow_disk.specs.ChangeLog.{images_of, moment_of, shown_of}
use Rattle.flow_disk.proofs.ChangeLemmas.{own_image}

pub shown_image : (log : ChangeLog) → images_of log (moment_of log) (shown_of log)
shown_image log = own_image log.first.items log.pool.items log.shown.items log.changes.items log.replays
