use Rattle.std.proofs.Common.{◌<◌, ℕ, get_or, sym, ◌∙◌}
use Rattle.std.proofs.lemmas.Bool.{true≢false}
use Rattle.flow_model.specs.declared.limits.TheConstants.{MOST_LEAVES}
use Rattle.flow_model.proofs.Lists.{each_member}
use Rattle.flow_plan.proofs.PlaceLemmas.{may_ask, read_member}
use Rattle.flow_plan.proofs.PartLemmas.{leaf_more}
use Rattle.flow_plan.proofs.Together.{distinct_more, twice_there}
use Rattle.flow_plan.proofs.claims.distinct.Goals as goal

pub loop-leaf-preserved : goal.loop-leaf-preserved
loop-leaf-preserved c = record {
  distinct = distinct_more c.args.list.now c.loop-leaf.leaf-index c.loop-leaf-test.true
      (λ member. true≢false (sym (c.has.ensures ∙ (c.loop-leaf.invariant.set _).1 member) ∙ c.if-has.false)) c.loop-leaf.invariant.distinct;
  set = leaf_more c.args.list.now c.loop-leaf.leaf-index c.loop-leaf.set c.insert.new.self c.loop-leaf-test.true c.loop-leaf.invariant.set c.insert.ensures;
}

pub insert-requires : goal.insert-requires
insert-requires c =
    let leaf : ℕ = get_or c.args.list.now c.loop-leaf.leaf-index 0 in
    may_ask leaf (each_member (λ n. n < MOST_LEAVES) c.args.list.now c.requires leaf (read_member c.args.list.now c.loop-leaf.leaf-index c.loop-leaf-test.true))

pub returns-then-has-clause-none : goal.returns-then-has-clause-none
returns-then-has-clause-none c =
    twice_there c.args.list.now c.loop-leaf.leaf-index c.loop-leaf-test.true
    ((c.loop-leaf.invariant.set (get_or c.args.list.now c.loop-leaf.leaf-index 0)).0 (sym c.has.ensures ∙ c.if-has.true))

pub has-requires : goal.has-requires
has-requires c =
    let leaf : ℕ = get_or c.args.list.now c.loop-leaf.leaf-index 0 in
    may_ask leaf (each_member (λ n. n < MOST_LEAVES) c.args.list.now c.requires leaf (read_member c.args.list.now c.loop-leaf.leaf-index c.loop-leaf-test.true))
