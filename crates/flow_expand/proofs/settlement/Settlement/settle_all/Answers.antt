use Rattle.std.proofs.Common.{◌≡◌, ◌+◌, ◌<◌, ℕ, true, false, length, subst, sym, ⊎_elim, ◌∙◌, below_more}
use Rattle.flow_expand.specs.declared.settlement.Settlement.{Settlement}
use Rattle.flow_expand.specs.Lay.{IsLaidAt}
use Rattle.flow_expand.specs.Calls.{IsSettlement}
use Rattle.flow_expand.specs.Settlement.{IsIdle}
use Rattle.flow_expand.proofs.SettlementLemmas.{settled, stays_at}
use Rattle.flow_expand.proofs.settlement.Settlement.settle_all.Goals as goal
use Rattle.flow_expand.proofs.settlement.Settlement.settle_all.Goals.{then-not-is_laid+in_ok-settle, else-not-is_laid}

pub loop-flow-preserved : goal.loop-flow-preserved
loop-flow-preserved c =
    let upto : Settlement → Type 0 = λ s. (k : ℕ) → k < c.loop-flow.flow + 1 → IsLaidAt s.laid.items k in
    let before = c.loop-flow.invariant in
    elim c.if-not-is_laid.branch [
      | then-not-is_laid+in_ok-settle w ↦ record {
        settlement = subst (IsSettlement c.args.directory.now) (sym w.self-is) w.in_ok-settle.ensures.settlement;
        idle = subst (λ (s : Settlement). IsIdle s.laid.items) (sym w.self-is) w.in_ok-settle.ensures.idle;
        all = subst upto (sym w.self-is)
            (below_more (IsLaidAt w.settle.new.self.laid.items) _ (λ k lt. stays_at c.loop-flow.self.laid.items w.settle.new.self.laid.items k w.in_ok-settle.ensures.stays (before.all k lt)) w.in_ok-settle.ensures.start);
      }
      | else-not-is_laid w ↦ record {
        settlement = subst (IsSettlement c.args.directory.now) (sym w.self-is) before.settlement;
        idle = subst (λ (s : Settlement). IsIdle s.laid.items) (sym w.self-is) before.idle;
        all = subst upto (sym w.self-is)
            (below_more (IsLaidAt c.loop-flow.self.laid.items) _ before.all (subst (λ l. IsLaidAt l c.loop-flow.flow) c.deref.ensures.value (c.is_laid.ensures.0 w.if-not-is_laid.false)));
      }
    ]

pub settle-requires-clause-unlaid : goal.settle-requires-clause-unlaid
settle-requires-clause-unlaid c =
    let s = c.loop-flow.self in
    let lt : c.loop-flow.flow < length s.laid.items =
    subst (λ n. c.loop-flow.flow < n) (c.len-flow-end.ensures ∙ sym c.loop-flow.invariant.settlement.many ∙ s.laid.ok.0) c.loop-flow-test.true in
    ⊎_elim (λ unlaid. unlaid)
    (λ laid.
    let f : true ≡ false = sym (c.is_laid.ensures.1 (subst (λ l. IsLaidAt l c.loop-flow.flow) (sym c.deref.ensures.value) laid)) ∙ c.if-not-is_laid.true in
    absurd (cc))
    (settled s.laid.items c.loop-flow.flow c.loop-flow.invariant.idle lt)
