use Rattle.std.proofs.Common.{◌+◌, take, sym, subst, arith}
use Rattle.flow_desk.specs.Place.{IsColumn}
use Rattle.flow_desk.proofs.Columns.{column_feed, column_other}
use Rattle.flow_desk.proofs.place.column_behind.Goals as goal
use Rattle.flow_desk.proofs.place.column_behind.Goals.{then-byte-eq10, else-byte-eq10}

pub loop-byte-preserved : goal.loop-byte-preserved
loop-byte-preserved c =
    let t = c.args.text.now in
    let k = c.loop-byte.byte-index in
    elim c.if-byte-eq10.branch [
      | then-byte-eq10 w ↦ record {
        column = subst (IsColumn (take (k + 1) t)) (sym w.column-is) (column_feed t k 0 c.loop-byte-test.true w.if-byte-eq10.true);
        small = omega (arith, w.column-is);
      }
      | else-byte-eq10 w ↦ record {
        column = subst (IsColumn (take (k + 1) t)) (sym w.column-is) (column_other t k 0 c.loop-byte-test.true c.loop-byte.column c.loop-byte.invariant.column w.if-byte-eq10.false);
        small = omega (arith, w.column-is, c.loop-byte.invariant.small);
      }
    ]
