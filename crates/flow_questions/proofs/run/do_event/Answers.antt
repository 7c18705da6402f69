use Rattle.std.proofs.Common.{refl, true≢false, sym}
use Rattle.flow_questions.proofs.MakeLemmas.{can_take_it, event_made}
use Rattle.flow_questions.proofs.run.do_event.Goals as goal

pub returns-then-not-make-clause-made : goal.returns-then-not-make-clause-made
returns-then-not-make-clause-made c = λ leaves to event next is so.
    absurd (true≢false (sym (c.if-not-make.ensures.allowed.1
    (can_take_it c.args.run.now c.recall.ensures.well_formed c.recall.ensures.legal leaves to c.args.leaf c.args.claim next event is c.args.by so))))

pub returns-clause-made : goal.returns-clause-made
returns-clause-made c = λ leaves to event next is so.
    event_made c.args.run.now c.recall.ensures.well_formed c.recall.ensures.legal leaves to c.args.leaf c.args.claim next event is c.args.by so
    c.make.new.self c.make-2.new.self c.make-2.result (c.if-not-make.ensures.made refl) c.make-2.ensures.allowed c.make-2.ensures.made
