use Rattle.std.proofs.Common.{◌≡◌, ◌+◌, ap, subst, map, length, arith}
use Rattle.std.proofs.lemmas.List.{map-append, length-map}
use Rattle.flow_trail.specs.Lines.{said_of}
use Rattle.flow_trail.specs.Read.{IsRead}
use Rattle.flow_trail.proofs.ReadLemmas.{next_read, is_bad}
use Rattle.flow_trail.proofs.read.read_trail.Goals as goal

pub loop-text-preserved : goal.loop-text-preserved
loop-text-preserved c = rw (c.in_ok-push-in-Some-2.ensures.items, map-append)
    (next_read c.args.start c.loop-text.end c.in-Some-2.next c.args.bytes.now c.loop-text.rest.now c.in-Some.text.now c.in-Some.more.now (map said_of c.loop-text.lines.items) c.in-Some-2.line
    c.loop-text.invariant c.in-Some.ensures.1 (subst (IsRead c.loop-text.end c.in-Some.text.now) c.in-Some-2.is c.in_ok-line.ensures))

pub returns-in-None-clause-bad : goal.returns-in-None-clause-bad
returns-in-None-clause-bad c = λ line e.
    let same : length c.as_slice.result.now + 1 ≡ line = cc in
    let count = ap length c.as_slice.ensures.value in
    is_bad c.args.start c.loop-text.end c.args.bytes.now c.loop-text.rest.now c.in-Some.text.now c.in-Some.more.now (map said_of c.loop-text.lines.items) line
    c.loop-text.invariant c.in-Some.ensures.1 c.in-Some.ensures.0 c.in-Some.ensures.2
    (omega (arith, same, count, length-map c.loop-text.lines.items said_of)) (subst (IsRead c.loop-text.end c.in-Some.text.now) c.in-None.is c.in_ok-line.ensures)
