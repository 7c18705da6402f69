use Rattle.std.proofs.Common.{List, ap, subst}
use Rattle.std.specs.String.{string_bytes}
use Rattle.flow_model.specs.declared.history.Call.{Call}
use Rattle.flow_model.specs.declared.history.Entry.{Entry}
use Rattle.flow_list.specs.Out.{IsToldTaking}
use Rattle.flow_list.proofs.taken.task_out.Goals as goal

pub returns-in-Ok-clause-since : goal.returns-in-Ok-clause-since
returns-in-Ok-clause-since c = record {
  leaf = ap (λ (call : Call). call.leaf) c.requires.call;
  taken =
      subst (λ (history : List Entry). IsToldTaking history c.args.tellers.now c.args.task.now.call.claim (string_bytes c.in-Ok.user) (string_bytes c.in-Ok.since))
      c.history.ensures.entries c.in-Ok.ensures;
}
