use Rattle.std.proofs.Common.{◌↔◌, ℕ, List, IsTrue, inl, ⊎_elim, subst, sym, ◌∙◌}
use Rattle.std.proofs.lemmas.Bool.{false≢true}
use Rattle.leaf_rows.specs.Leaves.{has_leaf}
use Rattle.flow_model.specs.Lists.{Each}
use Rattle.flow_plan.specs.declared.part_row.PartRow.{PartRow}
use Rattle.flow_plan.specs.Parts.{KeepsAfter}
use Rattle.flow_plan.proofs.StepRows.{IsAsked, adds_first, first_or_found, first_unmet}
use Rattle.flow_plan.proofs.table.Table.before_all.Goals as goal
use Rattle.flow_plan.proofs.table.Table.before_all.Goals.{then-is_empty-via-then-is_empty, then-is_empty-via-else-is_empty+then-meets}

pub returns-then-is_empty : goal.returns-then-is_empty
returns-then-is_empty g c = λ p table done list next_is claims_are distinct apart_is n.
    let asked : IsAsked p done list c.args.next.now c.args.claims.now c.args.apart.now c.args.found.now c.rest_of-rest.result = record {
      rest_is = c.rest_of-rest.ensures;
      ordered = table.fields.ordered;
      next_is = next_is;
      claims_are = claims_are;
      distinct = distinct;
      apart_is = apart_is;
    } in (
      λ found. inl found,
      λ either. ⊎_elim (λ found. found)
          (λ both. elim c.then-is_empty.branch [
            | then-is_empty-via-then-is_empty w ↦ ⊎_elim (λ rest. absurd (c.is_empty.ensures.0 w.if-is_empty.true n rest)) (λ found. found) (first_or_found asked n both.0 both.1)
            | then-is_empty-via-else-is_empty+then-meets w ↦ absurd (first_unmet asked n both.1 (w.meets.ensures.0 w.if-meets.true))
          ])
          either,
    )

pub returns : goal.returns
returns g c = λ p table done list next_is claims_are distinct apart_is.
    let asked : IsAsked p done list c.args.next.now c.args.claims.now c.args.apart.now c.args.found.now c.rest_of-rest.result = record {
      rest_is = c.rest_of-rest.ensures;
      ordered = table.fields.ordered;
      next_is = next_is;
      claims_are = claims_are;
      distinct = distinct;
      apart_is = apart_is;
    } in
    let keep_is = subst (λ (parts : List (PartRow g.row.W)). (n : ℕ) → IsTrue (has_leaf c.keep_for.result n) ↔ (IsTrue (has_leaf c.rest_of-rest.result n)
    × Each (λ row. KeepsAfter row (λ x. IsTrue (has_leaf c.args.claims.now x)) n) parts)) c.deref.ensures.value c.keep_for.ensures in
    adds_first asked table.fields c.requires (λ met. false≢true (sym c.if-meets.false ∙ c.meets.ensures.1 met))
    c.keep_for.result c.both.result c.both.ensures keep_is
