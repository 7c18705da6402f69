use Rattle.std.proofs.Common.{◌≡◌, ℕ, List, [], sym, subst, ◌∙◌, true≢false}
use Rattle.flow_why.specs.Constraints.{IsMet}
use Rattle.flow_core.specs.Run.{schema}
use Rattle.flow_reason.specs.Waiting.{with_next}
use Rattle.flow_reason.proofs.Members.{some_member}
use Rattle.flow_reason.proofs.leaf.why_conflict.Goals as goal

pub why_waits-requires-clause-waits : goal.why_waits-requires-clause-waits
why_waits-requires-clause-waits c =
    let r = c.args.core.now in
    let leaf : ℕ = c.args.leaf in
    let nil : c.args.conflict.members.items ≡ [] = sym c.deref.ensures.value ∙ c.is_none.ensures.0 c.if-is_none.true in record {
      not_next = λ met. subst (λ (ms : List ℕ). ¬ (IsMet (schema r) (with_next r leaf) ms)) nil c.requires.conflict.conflict.unmet (met.0, met.1, met.2, tt);
      before = c.requires.before;
    }

pub returns-else-is_none : goal.returns-else-is_none
returns-else-is_none c = (
  c.requires.kept,
  record {
    some = some_member c.args.conflict.members.items (λ nil. true≢false (sym (c.is_none.ensures.1 (c.deref.ensures.value ∙ nil)) ∙ c.if-is_none.false));
    not_next = c.requires.conflict;
  },
)
