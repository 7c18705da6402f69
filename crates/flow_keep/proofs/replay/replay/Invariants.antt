use Rattle.std.proofs.Common.{◌≡◌, ◌*◌, ◌++◌, length, map, drop}
use Rattle.flow_model.specs.Lists.{Each}
use Rattle.flow_record.specs.History.{IsSmall}
use Rattle.flow_disk.specs.Disk.{Rests}
use Rattle.flow_keep.specs.Records.{records, body_of}
use Rattle.flow_keep.proofs.replay.replay.Given as goal

abbrev pub invariant-loop-index : goal.invariant-loop-index
invariant-loop-index g l = record {
  same : g.D.Disk.faults l.disk ≡ g.D.Disk.faults l.fn.disk;
  file : g.D.Disk.chosen l.disk ≡ g.D.Disk.chosen l.fn.disk;
  definition : l.core.definition ≡ l.fn.core.definition;
  limit : l.core.limit ≡ l.fn.core.limit;
  small : Each IsSmall l.core.history;
  counted : length l.core.history ≡ l.index;
  rests : g.D.Disk.tells → Rests (g.D.Disk.moment l.fn.disk) (g.D.Disk.moment l.disk) (g.D.Disk.seen l.fn.disk) (g.D.Disk.seen l.disk)
      (g.D.Disk.image l.fn.disk) (g.D.Disk.image l.disk) (g.D.Disk.synced l.fn.disk) (g.D.Disk.synced l.disk);
  so_far : g.D.Disk.tells → records (g.D.Disk.seen l.fn.disk) ≡ map body_of l.core.history ++ records (drop (16 * l.index) (g.D.Disk.seen l.fn.disk));
}
