use Rattle.std.proofs.lemmas.Result.{IfOk-weaker}
use Rattle.std.proofs.Common.{subst, refl}
use Rattle.flow_form.specs.Names.{event_names}
use Rattle.flow_expand.specs.Expansion.{nothing}
use Rattle.flow_expand.specs.Lay.{IsFront}
use Rattle.flow_expand.proofs.LayLemmas.{end_some, end_none}
use Rattle.flow_expand.proofs.lay.lay_end.Goals as goal

pub returns-in-Some-clause-ok : goal.returns-in-Some-clause-ok
returns-in-Some-clause-ok c = λ decls ss h.
    end_some decls c.args.layout.now.items c.args.how ss c.in-Some.whole (subst (IsFront decls c.args.layout.now.items c.args.how ss) c.in-Some.is h)

pub returns-in-None-clause-ok : goal.returns-in-None-clause-ok
returns-in-None-clause-ok c = IfOk-weaker c.put_end.result _ _
    (λ whole put decls ss h. end_none decls c.put_end.new.layout.items c.args.how ss whole (subst (IsFront decls c.args.layout.now.items c.args.how ss) c.in-None.is h) (put (event_names decls) nothing refl))
    c.put_end.ensures.ok
