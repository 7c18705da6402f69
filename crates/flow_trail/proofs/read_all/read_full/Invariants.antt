use Rattle.std.proofs.Common.{◌≡◌, ◌-◌, ◌≤◌, length, take, drop}
use Rattle.flow_disk.specs.Disk.{Rests}
use Rattle.flow_trail.proofs.read_all.read_full.Given as goal

abbrev pub invariant-loop-count : goal.invariant-loop-count
invariant-loop-count g l = record {
  same : g.D.Disk.faults l.disk ≡ g.D.Disk.faults l.fn.disk;
  file : g.D.Disk.chosen l.disk ≡ g.D.Disk.chosen l.fn.disk;
  size : length l.buf ≡ length l.fn.buf;
  within : l.count ≤ length l.buf;
  rests : g.D.Disk.tells → Rests (g.D.Disk.moment l.fn.disk) (g.D.Disk.moment l.disk) (g.D.Disk.seen l.fn.disk) (g.D.Disk.seen l.disk)
      (g.D.Disk.image l.fn.disk) (g.D.Disk.image l.disk) (g.D.Disk.synced l.fn.disk) (g.D.Disk.synced l.disk);
  bytes : g.D.Disk.tells → take l.count l.buf ≡ take l.count (drop l.at (g.D.Disk.seen l.fn.disk));
  there : g.D.Disk.tells → l.count ≤ length (drop l.at (g.D.Disk.seen l.fn.disk));
}

abbrev pub decreases-loop-count : goal.decreases-loop-count
decreases-loop-count g l = length l.initial.buf - l.count
