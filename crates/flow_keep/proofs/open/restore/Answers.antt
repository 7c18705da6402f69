use Rattle.std.proofs.Common.{◌<◌, ◌≤◌, ◌+◌, ◌^◌, List, length, ap, arith}
use Rattle.flow_model.specs.declared.history.Entry.{Entry}
use Rattle.flow_model.specs.Run.{first_state}
use Rattle.flow_core.specs.Run.{schema}
use Rattle.flow_laws.proofs.SoundStates.{legal_length}
use Rattle.flow_keep.proofs.open.restore.Goals as goal

pub close_end-requires-clause-near : goal.close_end-requires-clause-near
close_end-requires-clause-near g c =
    let r = c.replay.new.core in
    let within : 0 + length r.history ≤ r.limit = legal_length (schema r) r.limit first_state 0 r.history (c.history.ensures.lawful).legal (omega arith) in
    let few : c.limit-limit.result < 2 ^ 32 = c.limit-limit.type_inv in
    let is = c.limit-limit.ensures in
    let count = ap (λ (l : List Entry). length l) c.history.ensures.entries in
    omega arith
