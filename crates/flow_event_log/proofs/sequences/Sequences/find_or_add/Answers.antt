use Rattle.std.proofs.Common.{refl}
use Rattle.flow_event_log.proofs.ReachedLemmas.{kept_more, reached_last}
use Rattle.flow_event_log.proofs.sequences.Sequences.find_or_add.Goals as goal

pub returns-clause-reached : goal.returns-clause-reached
returns-clause-reached c =
    reached_last c.args.self.now.steps.items c.add.new.self.steps.items _ c.in_ok-number.number c.args.before c.args.event c.in_ok-number.ensures.steps
    c.in_ok-number.ensures.number refl refl

pub returns-clause-kept : goal.returns-clause-kept
returns-clause-kept c = kept_more c.args.self.now.steps.items c.add.new.self.steps.items _ c.in_ok-number.ensures.steps
