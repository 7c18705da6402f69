use Rattle.std.proofs.Common.{rules, ◌<◌, ◌+◌, ℕ, subst, sym, ◌∙◌, ap, arith, true≢false}
use Rattle.flow_model.specs.Lists.{◌∈◌}
use Rattle.flow_sample.specs.Rows.{has_inside, runs}
use Rattle.flow_sample.specs.Arranged.{IsArranged}
use Rattle.flow_sample.proofs.OrderLemmas.{begun, left_out, not_left, whole_order, each_within, passed_more, row_at}
use Rattle.flow_sample.proofs.order.run_of.Goals as goal
use Rattle.flow_sample.proofs.order.run_of.Goals.{then-meets+in_ok-put_in_order, else-meets}

pub loop-start-init : goal.loop-start-init
loop-start-init g c = record {
  arranged = subst (IsArranged c.args.items.now c.all_inside-left.result) (sym c.in_ok-order.ensures.items) (begun c.args.items.now c.requires.apart c.all_inside-left.result c.all_inside-left.ensures);
  passed = λ n l. absurd (omega arith);
}

pub put_in_order-requires : goal.put_in_order-requires
put_in_order-requires g c =
    let m = c.meets.ensures.0 c.if-meets.true in
    let wide = c.requires.wide in (
      search rules,
      (
        search rules,
        (
          wide,
          (
            c.requires.apart,
            (
              c.loop-start-test.true,
              (
                left_out c.args.items.now c.requires.apart c.loop-start.left c.loop-start.order.items c.loop-start.start m.0 c.loop-start.invariant.arranged
                    (row_at has_inside c.args.items.now c.loop-start.start c.index-items-start.result c.loop-start-test.true m.0 ∙ m.1) m.2,
                c.loop-start.invariant.arranged,
              ),
            ),
          ),
        ),
      ),
    )

pub joined_runs-requires : goal.joined_runs-requires
joined_runs-requires g c =
    let wide = c.requires.wide in
    (search rules, each_within c.args.items.now c.loop-start.order.items c.deref.result.now c.deref.ensures.value c.loop-start.invariant.arranged.within)

pub loop-start-preserved : goal.loop-start-preserved
loop-start-preserved g c =
    let i = c.loop-start.invariant in
    elim c.if-meets.branch [
      | then-meets+in_ok-put_in_order w ↦
          let r = w.in_ok-put_in_order.ensures in
          record {
            arranged = subst (λ z. IsArranged c.args.items.now z c.if-meets.order.items) (sym w.left-is)
                (subst (λ z. IsArranged c.args.items.now w.put_in_order.new.left z.items) (sym w.order-is) r.0);
            passed = subst (λ z. (n : ℕ) → n < c.loop-start.start + 1 → n ∈ z.items) (sym w.order-is)
                (passed_more c.loop-start.order.items w.put_in_order.new.order.items c.loop-start.start i.passed r.1);
          }
      | else-meets w ↦
          let here = not_left c.args.items.now c.requires.apart c.loop-start.left c.loop-start.order.items c.loop-start.start i.arranged c.loop-start-test.true
          (λ x m h. true≢false
          (sym (c.meets.ensures.1 (x, sym (row_at has_inside c.args.items.now c.loop-start.start c.index-items-start.result c.loop-start-test.true x) ∙ m, h)) ∙ w.if-meets.false)) in
          record {
            arranged = subst (λ z. IsArranged c.args.items.now z c.if-meets.order.items) (sym w.left-is)
                (subst (λ z. IsArranged c.args.items.now c.loop-start.left z.items) (sym w.order-is) i.arranged);
            passed = subst (λ z. (n : ℕ) → n < c.loop-start.start + 1 → n ∈ z.items) (sym w.order-is)
                (passed_more c.loop-start.order.items c.loop-start.order.items c.loop-start.start i.passed (record { here = here; kept = λ m k. k }));
          }
    ]

pub returns-clause-ok : goal.returns-clause-ok
returns-clause-ok g c =
    let i = c.loop-start.invariant in (
      c.loop-start.order.items,
      whole_order c.args.items.now c.requires.apart c.loop-start.left c.loop-start.order.items i.arranged (λ n l. i.passed n (omega (arith, c.loop-start-test.false))),
      c.in_ok-joined_runs.ensures ∙ ap (runs c.args.items.now) c.deref.ensures.value,
    )
