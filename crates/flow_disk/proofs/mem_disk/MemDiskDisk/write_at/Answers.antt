use Rattle.std.proofs.Common.{◌<◌, vec_len, vec_capacity, arith}
use Rattle.flow_disk.proofs.mem_disk.MemDiskDisk.write_at.Goals as goal

pub returns-then-not-has_room-clause-torn : goal.returns-then-not-has_room-clause-torn
returns-then-not-has_room-clause-torn c = λ few.
    let old = c.args.self.now in
    let places = old.places in
    let place : vec_len old.log.changes < vec_capacity old.log.changes = omega (arith, places, few) in
    c.tear-then-not-has_room.ensures.torn place
