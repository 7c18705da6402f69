use Rattle.std.proofs.Common.{◌∙◌, sym, true≢false}
use Rattle.flow_reason.proofs.Members.{some_member}
use Rattle.flow_reason.proofs.leaf.why_waits.Goals as goal

pub returns-then-is_none-2 : goal.returns-then-is_none-2
returns-then-is_none-2 c = (
  c.requires.kept,
  record {
    not_next = c.requires.waits.not_next;
    some = some_member c.args.unfinished.items (λ nil. true≢false (sym (c.is_none.ensures.1 (c.deref.ensures.value ∙ nil)) ∙ c.if-is_none.false));
    left = c.requires.unfinished;
  },
)
