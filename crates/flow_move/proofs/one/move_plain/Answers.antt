use Rattle.std.proofs.Common.{sym, true≢false, ◌∙◌}
use Rattle.flow_move.proofs.MoveLemmas.{unmoved_plain_at}
use Rattle.flow_move.proofs.one.move_plain.Goals as goal

pub returns-else-make-clause-unmoved : goal.returns-else-make-clause-unmoved
returns-else-make-clause-unmoved c =
    let no = c.if-make.false in
    unmoved_plain_at c.args.names.now c.args.run.now c.make.new.self c.core.result.now c.args.old c.args.by c.cause_of.result c.requires.caller
    c.requires.plain (c.make.ensures.kept no) c.core.ensures.run (λ can. true≢false (sym (c.make.ensures.allowed.1 can) ∙ no)) c.cause_of.ensures
