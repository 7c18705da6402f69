use Rattle.std.proofs.Common.{subst, sym}
use Rattle.std.proofs.lemmas.Result.{IfOk-weaker}
use Rattle.flow_model.specs.Verdict.{AreJust}
use Rattle.flow_core.specs.Next.{IsWaiting}
use Rattle.flow_core.proofs.ListLemmas.{left_wait}
use Rattle.flow_core.proofs.RisingLists.{none_has}
use Rattle.flow_core.proofs.NextLemmas.{not_waiting}
use Rattle.flow_core.proofs.run.Core.waiting.Goals as goal

pub returns-in-Stuck : goal.returns-in-Stuck
returns-in-Stuck c = IfOk-weaker c.list.result _ _ (λ leaves. left_wait c.args.self.now c.in-Stuck.ensures.next.0.0 leaves.items) c.list.ensures

pub returns-in_default : goal.returns-in_default
returns-in_default c =
    subst (AreJust (IsWaiting c.args.self.now)) (sym c.new.ensures.items)
    (none_has (IsWaiting c.args.self.now) (not_waiting c.args.self.now c.next.result c.next.ensures.next c.in_default.not-Stuck))
