use Rattle.std.proofs.Common.{◌≡◌, ℕ, List, false, take}
use Rattle.std.specs.Io.KnownBytes.{Appends}
use Rattle.flow_reply.specs.Replies.{Drives}
use Rattle.flow_keep.specs.Holding.{run_of, disk_of, is_broken}
use Rattle.flow_keep_cli.specs.Session.{driver}
use Rattle.flow_keep_cli.proofs.replies.reply_to_all.Given as goal

abbrev pub invariant-loop-command : goal.invariant-loop-command
invariant-loop-command g l = record {
  disk : g.D.Disk.faults (disk_of l.keep) ≡ g.D.Disk.faults (disk_of l.fn.keep);
  file : g.D.Disk.chosen (disk_of l.keep) ≡ g.D.Disk.chosen (disk_of l.fn.keep);
  sink : g.K.Sink.faults l.sink ≡ g.K.Sink.faults l.fn.sink;
  whole : is_broken l.keep ≡ false;
  so_far : (text : List ℕ) × Drives (run_of l.fn.keep) driver (take l.command-index l.commands) text (run_of l.keep) × Appends (g.K.Sink.held l.fn.sink) (g.K.Sink.held l.sink) text;
}
