use Rattle.flow_event_log.specs.Spelling.{spelled_byte}
use Rattle.flow_event_log.proofs.SpellingLemmas.{spelled_more, spelled_all}
use Rattle.flow_event_log.proofs.spelling.spelled.Goals as goal

pub loop-byte-preserved : goal.loop-byte-preserved
loop-byte-preserved c =
    spelled_more c.args.name.now c.loop-byte.byte-index 0 c.loop-byte.text.items c.push_spelled.new.text.items
    c.loop-byte-test.true c.loop-byte.invariant c.in_ok-push_spelled.ensures

pub returns : goal.returns
returns c = spelled_all c.args.name.now c.loop-byte.byte-index c.loop-byte.text.items c.loop-byte-test.false c.loop-byte.invariant
