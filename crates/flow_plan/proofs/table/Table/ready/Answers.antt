use Rattle.std.proofs.Common.{ℕ, IsTrue, List, subst, sym, ◌∙◌}
use Rattle.std.proofs.lemmas.Bool.{true≢false}
use Rattle.flow_plan.specs.Known.{AreLaidOut}
use Rattle.flow_plan.proofs.Readiness.{free_of_ready, ready_of_free, parts_of_ready}
use Rattle.flow_plan.proofs.table.Table.ready.Goals as goal

pub returns-then-is_unblocked : goal.returns-then-is_unblocked
returns-then-is_unblocked g c = λ p table same done tell.
    let D : ℕ → Type 0 = λ x. IsTrue (done x) in
    let free = (c.is_unblocked.ensures.free p table same done tell).0 c.if-is_unblocked.true in (
      λ yes. ready_of_free table.fields D c.args.sides.now tell c.args.leaf free (c.parts_allow.ensures.yes yes
          (subst (λ (ns : List ℕ). AreLaidOut ns c.args.self.now.spans.items c.args.self.now.parts.items) (sym table.fields.listed ∙ same) (table.fields.parts_are.placed, table.spans_are))),
      λ ready. c.parts_allow.ensures.no (parts_of_ready table.fields D c.args.sides.now tell c.args.leaf ready),
    )

pub returns-else-is_unblocked : goal.returns-else-is_unblocked
returns-else-is_unblocked g c = λ p table same done tell. (
  λ wrong. absurd (true≢false (sym wrong ∙ c.if-is_unblocked.false)),
  λ ready. absurd (true≢false (sym ((c.is_unblocked.ensures.free p table same done tell).1 (free_of_ready table.fields (λ x. IsTrue (done x)) c.args.sides.now tell c.args.leaf ready)) ∙ c.if-is_unblocked.false)),
)
