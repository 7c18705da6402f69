use Rattle.std.proofs.Common.{◌≡◌, ◌<◌, ◌≤◌, length, ◌∙◌, ap, rules, arith}
use Rattle.flow_model.specs.declared.limits.TheConstants.{MOST_LINES}
use Rattle.flow_record.specs.Journal.{bad_line}
use Rattle.flow_record.proofs.JournalLemmas.{too_many, read_on}
use Rattle.flow_record.proofs.journal.read_journal.Goals as goal

pub returns-then-number-ge-MOST_LINES-clause-bad : goal.returns-then-number-ge-MOST_LINES-clause-bad
returns-then-number-ge-MOST_LINES-clause-bad c = λ line e.
    let some : 0 < length c.loop-rest.rest.now = search rules in
    let many : MOST_LINES ≤ c.loop-rest.number = omega arith in
    let same : c.loop-rest.number ≡ line = cc in
    too_many c.args.workflow.now c.args.text.now c.loop-rest.reading.leaves.items c.loop-rest.reading.wrong c.loop-rest.number c.loop-rest.rest.now c.loop-rest.invariant.read some many
    ∙ ap bad_line same

pub loop-rest-preserved : goal.loop-rest-preserved
loop-rest-preserved c = record {
  small = omega arith;
  read = read_on c.args.workflow.now c.args.text.now c.loop-rest.reading.leaves.items c.loop-rest.reading.wrong c.loop-rest.number c.loop-rest.rest.now c.split_line.result.0.now
      c.split_line.result.1.now c.take_line.new.self.leaves.items c.take_line.new.self.wrong c.loop-rest.invariant.read (omega arith) c.split_line.ensures.lines c.in_ok-take_line.ensures.ok;
}
