use Rattle.std.proofs.Common.{◌≡◌, sym, ap, ◌∙◌, subst, Some, slice_get}
use Rattle.flow_model.proofs.Lists.{mem-slice_get}
use Rattle.flow_policy.proofs.FirstLemmas.{number_at}
use Rattle.flow_policy.proofs.draft.number_in.Goals as goal

pub returns-in-Some-clause-ok : goal.returns-in-Some-clause-ok
returns-in-Some-clause-ok c =
    let at = c.in-Some.ensures.found ∙ ap Some c.in_ok-name.ensures in
    (mem-slice_get c.args.table.now c.in-Some.number _ at, sym (number_at c.args.table.now _ c.in-Some.number c.as_slice-names.ensures.distinct at))

pub returns-then-stands_at-clause-ok : goal.returns-then-stands_at-clause-ok
returns-then-stands_at-clause-ok c =
    let at = subst (λ l. slice_get l c.args.guess ≡ Some c.args.mention.name.now) c.as_slice-names.ensures.keys (c.stands_at.ensures.0 c.if-stands_at.true) in
    (mem-slice_get c.args.table.now c.args.guess _ at, sym (number_at c.args.table.now _ c.args.guess c.as_slice-names.ensures.distinct at))
