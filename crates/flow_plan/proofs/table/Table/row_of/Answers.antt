use Rattle.std.proofs.Common.{◌≡◌, ◌*◌, ◌<◌, ℕ, List, Some, slice_get, subst, sym, arith}
use Rattle.flow_model.proofs.Lists.{each_member, mem-slice_get}
use Rattle.flow_plan.proofs.Readiness.{Before}
use Rattle.flow_plan.proofs.RowLemmas.{rows_get}
use Rattle.flow_plan.proofs.table.Table.row_of.Goals as goal

pub index-requires : goal.index-requires
index-requires g c = omega (arith, c.in-Some.ensures.within, c.requires.one_each)

pub returns-in-Some-clause-leaf : goal.returns-in-Some-clause-leaf
returns-in-Some-clause-leaf g c = mem-slice_get c.args.leaves.now c.in-Some.place c.args.leaf c.in-Some.ensures.found

pub returns-in-Some-clause-small : goal.returns-in-Some-clause-small
returns-in-Some-clause-small g c =
    each_member (λ n. n < 64 * g.row.W) c.args.leaves.now c.requires.within c.args.leaf (mem-slice_get c.args.leaves.now c.in-Some.place c.args.leaf c.in-Some.ensures.found)

pub returns-in-Some-clause-row : goal.returns-in-Some-clause-row
returns-in-Some-clause-row g c = λ p table same.
    rows_get (Before p) p.leaves c.args.self.now.before.items c.in-Some.place c.args.leaf c.index.result.now c.index.result.now
    (subst (λ (ns : List ℕ). slice_get ns c.in-Some.place ≡ Some c.args.leaf) (sym same) c.in-Some.ensures.found) c.index.ensures table.fields.rows
