-- A file of the system tells nothing of its bytes.
use Rattle.std.proofs.Common.{ap}
use Rattle.flow_disk.specs.FileDisk.{chosen_of}
use Rattle.flow_disk.proofs.file_disk.FileDiskDisk.TheImpl.Goals as goal

pub open-tells : goal.open-tells
open-tells g c = record {
  cause = c.ensures.cause;
  chooses = c.ensures.chooses;
  rests = λ told. absurd told;
  own = λ told. told;
}

pub len-tells : goal.len-tells
len-tells g c = record {
  cause = c.ensures.cause;
  same_file = ap chosen_of c.ensures.same_file;
  rests = λ told. absurd told;
  own = λ told. told;
  len = λ told. absurd told;
}

pub read_at-tells : goal.read_at-tells
read_at-tells g c = record {
  cause = c.ensures.cause;
  same_file = ap chosen_of c.ensures.same_file;
  rests = λ told. absurd told;
  own = λ told. told;
  fits = c.ensures.fits;
  gives = λ told. absurd told;
}

pub write_at-tells : goal.write_at-tells
write_at-tells g c = record {
  cause = c.ensures.cause;
  same_file = ap chosen_of c.ensures.same_file;
  written = λ told. absurd told;
  crash = λ told. absurd told;
  syncs = λ told. absurd told;
  own = λ told. told;
}

pub sync-tells : goal.sync-tells
sync-tells g c = record {
  cause = c.ensures.cause;
  same_file = ap chosen_of c.ensures.same_file;
  seen = λ told. absurd told;
  crash = λ told. absurd told;
  syncs = λ told. absurd told;
  own = λ told. told;
}
