use Rattle.std.proofs.Common.{ℕ, IsTrue, List, subst, sym, ◌∙◌}
use Rattle.std.proofs.lemmas.Bool.{false≢true}
use Rattle.flow_model.specs.Lists.{◌∈◌}
use Rattle.flow_plan.proofs.Readiness.{free_of_unblocked, unblocked_of_free}
use Rattle.flow_plan.proofs.table.Table.is_unblocked.Goals as goal

pub returns-in-Some-clause-free : goal.returns-in-Some-clause-free
returns-in-Some-clause-free g c = λ p table same done tell.
    let D : ℕ → Type 0 = λ x. IsTrue (done x) in
    let row_is = c.in-Some.ensures.row p table same in (
      λ yes. let told = c.frees.ensures.0 yes in
          unblocked_of_free table.fields D c.args.sides.now tell c.args.leaf (subst (λ (ns : List ℕ). c.args.leaf ∈ ns) (sym same ∙ table.fields.listed) c.in-Some.ensures.leaf)
          (record { not_done = told.not_done; not_closed = told.not_closed; before = λ x direct. told.before x ((row_is x).1 direct) }),
      λ unblocked. let free = free_of_unblocked table.fields D c.args.sides.now tell c.args.leaf unblocked in
          c.frees.ensures.1 (record { not_done = free.not_done; not_closed = free.not_closed; before = λ x has. free.before x ((row_is x).0 has) }),
    )

pub returns-in-None-clause-free : goal.returns-in-None-clause-free
returns-in-None-clause-free g c = λ p table same done tell. (
  λ wrong. absurd (false≢true wrong),
  λ free. absurd (c.in-None.ensures.missing (subst (λ (ns : List ℕ). c.args.leaf ∈ ns) (sym table.fields.listed ∙ same) free.leaf)),
)
