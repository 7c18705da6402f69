use Rattle.std.proofs.Common.{◌≢◌, ◌∙◌, ℕ, length, MatchOption, sym, ap, subst}
use Rattle.flow_model.specs.Verdict.{EndsKept}
use Rattle.flow_core.specs.Next.{IsNext}
use Rattle.flow_core.specs.Run.{schema, IsUncommitted}
use Rattle.flow_core.proofs.NextLemmas.{not_stuck}
use Rattle.flow_crew.proofs.Endings.{none_kept, kept_end, waiting_end, no_end, claim_out}
use Rattle.flow_crew.proofs.standing.stand.Goals as goal

pub returns-in-Some-clause-end : goal.returns-in-Some-clause-end
returns-in-Some-clause-end c =
    let r = c.args.core.now in
    let going : IsUncommitted r = sym c.committed.ensures ∙ c.if-committed.false in
    let other : length r.history ≢ r.limit = λ e. c.if-length-limit.false (ap length c.history-length.ensures.entries ∙ e ∙ sym c.limit.ensures) in
    let kept : EndsKept (schema r) r.history c.in-Some.leaf =
    subst (λ o. MatchOption o ((leaf : ℕ) → ¬ (EndsKept (schema r) r.history leaf)) (EndsKept (schema r) r.history)) c.in-Some.is c.requires in
    kept_end r going other c.in-Some.leaf kept c.unless_open.result c.unless_open.ensures

pub returns-then-is_some-clause-end : goal.returns-then-is_some-clause-end
returns-then-is_some-clause-end c =
    let r = c.args.core.now in
    let going : IsUncommitted r = sym c.committed.ensures ∙ c.if-committed.false in
    let other : length r.history ≢ r.limit = λ e. c.if-length-limit.false (ap length c.history-length.ensures.entries ∙ e ∙ sym c.limit.ensures) in
    no_end r going other (none_kept r c.args.failed c.requires (λ leaf e. c.in_default.not-Some leaf e))
    (claim_out r c.least_claim.result c.least_claim.ensures (sym c.is_some.ensures ∙ c.if-is_some.true))

pub returns-in-Stuck-clause-end : goal.returns-in-Stuck-clause-end
returns-in-Stuck-clause-end c =
    let r = c.args.core.now in
    let going : IsUncommitted r = sym c.committed.ensures ∙ c.if-committed.false in
    let other : length r.history ≢ r.limit = λ e. c.if-length-limit.false (ap length c.history-length.ensures.entries ∙ e ∙ sym c.limit.ensures) in
    waiting_end r going other (none_kept r c.args.failed c.requires (λ leaf e. c.in_default.not-Some leaf e))
    (subst (IsNext r) c.in-Stuck.is c.next-next.ensures.next).0.0 c.unless_open-in-Stuck.result c.unless_open-in-Stuck.ensures

pub returns-in_default-next : goal.returns-in_default-next
returns-in_default-next c =
    let r = c.args.core.now in
    let going : IsUncommitted r = sym c.committed.ensures ∙ c.if-committed.false in
    let other : length r.history ≢ r.limit = λ e. c.if-length-limit.false (ap length c.history-length.ensures.entries ∙ e ∙ sym c.limit.ensures) in
    record {
      next = c.next-next.ensures.next;
      end = no_end r going other (none_kept r c.args.failed c.requires (λ leaf e. c.in_default.not-Some leaf e))
          (not_stuck r c.next-next.result c.next-next.ensures.next (λ leaf e. c.in_default-next.not-Stuck leaf e));
      legal = c.history-length.ensures.lawful.legal;
    }
