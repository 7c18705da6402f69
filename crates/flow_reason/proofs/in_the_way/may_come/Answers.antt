use Rattle.std.proofs.Common.{◌↔◌, Bool, IsTrue, sym, subst}
use Rattle.flow_reason.specs.InTheWay.{MayCome}
use Rattle.flow_reason.proofs.in_the_way.may_come.Goals as goal

pub returns-then-is_event : goal.returns-then-is_event
returns-then-is_event c = λ w s f.
    subst (λ (e : Bool). IsTrue c.legal_take.result ↔ MayCome e w s c.args.leaf c.args.out.now) (sym c.if-is_event.true) (c.legal_take.ensures.follow w s f)

pub returns-else-is_event : goal.returns-else-is_event
returns-else-is_event c = λ w s f.
    subst (λ (e : Bool). IsTrue c.legal_do.result ↔ MayCome e w s c.args.leaf c.args.out.now) (sym c.if-is_event.false) (c.legal_do.ensures.first w s f)
