use Rattle.std.proofs.lemmas.Result.{IfOk-weaker}
use Rattle.std.proofs.Common.{subst}
use Rattle.flow_expand.specs.Lay.{IsFront}
use Rattle.flow_expand.proofs.LayLemmas.{next_first, next_more}
use Rattle.flow_expand.proofs.lay.lay_next.Goals as goal

pub returns-in-Some-clause-ok : goal.returns-in-Some-clause-ok
returns-in-Some-clause-ok c = IfOk-weaker c.put_both.result _ _
    (λ whole put decls ss s h g. next_more decls c.args.layout.now.items c.put_both.new.layout.items c.args.how ss s c.in-Some.left c.args.next whole
    (subst (IsFront decls c.args.layout.now.items c.args.how ss) c.in-Some.is h) g put)
    c.put_both.ensures.ok

pub returns-in-None-clause-ok : goal.returns-in-None-clause-ok
returns-in-None-clause-ok c = λ decls ss s h g.
    next_first decls c.args.layout.now.items c.args.how ss s c.args.next (subst (IsFront decls c.args.layout.now.items c.args.how ss) c.in-None.is h) g
