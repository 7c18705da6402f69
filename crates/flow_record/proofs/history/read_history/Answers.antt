use Rattle.std.proofs.Common.{◌≡◌, ◌<◌, ◌∙◌, ap, sym, length, rules, arith}
use Rattle.flow_record.specs.History.{bad_line}
use Rattle.flow_record.proofs.HistoryLemmas.{read_no_end, read_no_entry, read_one, read_all, lines_left}
use Rattle.flow_record.proofs.history.read_history.Goals as goal

pub returns-in_default-clause-bad : goal.returns-in_default-clause-bad
returns-in_default-clause-bad c = λ line e.
    let some : 0 < length c.loop-rest.rest.now = search rules in
    let same : c.loop-rest.number ≡ line = cc in
    read_no_end _ _ _ _ c.loop-rest.invariant.read some c.in_default.ensures ∙ ap bad_line same

pub returns-in-None-clause-bad : goal.returns-in-None-clause-bad
returns-in-None-clause-bad c = λ line e.
    let same : c.loop-rest.number ≡ line = cc in
    read_no_entry _ _ _ _ c.loop-rest.invariant.read c.in-Some.line.now c.in-Some.more.now c.in-Some.ensures (sym c.in-None.ensures) ∙ ap bad_line same

pub overflow_add-number : goal.overflow_add-number
overflow_add-number c =
    let left = lines_left c.loop-rest.rest.now c.in-Some.line.now c.in-Some.more.now c.in-Some.ensures in
    record { fits = omega (arith, left.0, left.1, c.loop-rest.invariant.counted, c.requires) }

pub loop-rest-smaller : goal.loop-rest-smaller
loop-rest-smaller c = (lines_left c.loop-rest.rest.now c.in-Some.line.now c.in-Some.more.now c.in-Some.ensures).2

pub loop-rest-preserved : goal.loop-rest-preserved
loop-rest-preserved c = record {
  counted = omega (arith, (lines_left c.loop-rest.rest.now c.in-Some.line.now c.in-Some.more.now c.in-Some.ensures).0, c.loop-rest.invariant.counted);
  read = rw c.in_ok-push-in-Some-read_entry.ensures.items
      (read_one _ _ _ _ c.loop-rest.invariant.read c.in-Some.line.now c.in-Some.more.now c.in-Some-read_entry.entry c.in-Some.ensures (sym c.in-Some-read_entry.ensures));
}

pub returns-clause-ok : goal.returns-clause-ok
returns-clause-ok c = (read_all _ _ _ _ c.loop-rest.invariant.read (search rules)).0

pub returns-clause-printed : goal.returns-clause-printed
returns-clause-printed c = (read_all _ _ _ _ c.loop-rest.invariant.read (search rules)).1
