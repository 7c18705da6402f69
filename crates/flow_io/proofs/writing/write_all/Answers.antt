use Rattle.std.proofs.Common.{◌≡◌, ◌-◌, length, take, drop, arith, ap}
use Rattle.std.proofs.lemmas.List.{take_rest}
use Rattle.flow_io.proofs.SinkLemmas.{appends_more}
use Rattle.flow_io.proofs.writing.write_all.Goals as goal

pub loop-done-preserved : goal.loop-done-preserved
loop-done-preserved g c =
    let taken = c.in_ok-done.ensures.taken in
    let rest : take (length c.args.bytes.now - c.loop-done.done) (drop c.loop-done.done c.args.bytes.now) ≡ drop c.loop-done.done c.args.bytes.now
    = take_rest c.args.bytes.now c.loop-done.done in
    (appends_more _ _ _ _ _ _ c.loop-done.invariant.0 (rw rest at taken.gained), grind (arith, c.in_ok-done.ensures.failed, c.in_ok-done.ensures.later), omega (arith, taken.fits, ap length rest))
