use Rattle.std.proofs.Common.{◌↔◌, ◌<◌, ◌*◌, ℕ, get_or, List, IsTrue, ap, arith, length, subst, sym, ◌∙◌}
use Rattle.std.proofs.lemmas.Option.{slice_get-get_or}
use Rattle.flow_model.proofs.Lists.{each_member, mem-slice_get}
use Rattle.leaf_rows.specs.Leaves.{has_leaf}
use Rattle.leaf_rows.specs.declared.leaf_set.LeafSet.{LeafSet}
use Rattle.flow_model.specs.Lists.{◌∈◌, Each}
use Rattle.flow_plan.specs.declared.part_row.PartRow.{PartRow}
use Rattle.flow_plan.specs.declared.span.Span.{Span}
use Rattle.flow_plan.specs.CutSides.{IsFree}
use Rattle.flow_plan.specs.Known.{AreLaidOut, AreSpansOf}
use Rattle.flow_plan.specs.Parts.{IsPlaced, PartAllows}
use Rattle.flow_plan.specs.Planned.{pairs_of}
use Rattle.flow_plan.specs.Rows.{AreRowsOf, IsRowOf}
use Rattle.flow_plan.proofs.Readiness.{Before}
use Rattle.flow_plan.proofs.StepRows.{next_by_rows}
use Rattle.flow_plan.proofs.table.Table.next_row.Goals as goal

pub returns : goal.returns
returns g c = λ p table same done tell.
    let sides = c.args.sides.now in
    let rows = subst (λ (ns : List ℕ). AreRowsOf (Before p) ns c.args.self.now.before.items) same table.fields.rows in
    let seen = subst (λ (l : List (LeafSet g.row.W)). AreRowsOf (Before p) c.args.leaves.now l) (sym c.deref.ensures.value) rows in
    next_by_rows table.fields (λ x. IsTrue (done x)) sides tell c.free_row-free.result c.keep_allowed.result
    (subst (λ (ns : List ℕ). IsRowOf (λ n. (n ∈ ns) × IsFree (Before p) sides n) c.free_row-free.result) (sym same) (c.free_row-free.ensures p.process (pairs_of p.tokens) seen))
    (subst (λ (parts : List (PartRow g.row.W)). AreLaidOut c.args.leaves.now c.deref-2.result.now parts → (n : ℕ) → IsTrue (has_leaf c.keep_allowed.result n) ↔ (IsTrue (has_leaf c.free_row-free.result n) × Each (λ row. PartAllows row sides n) parts))
    c.deref-3.ensures.value c.keep_allowed.ensures (
      subst (λ (ns : List ℕ). Each (IsPlaced ns) c.args.self.now.parts.items) (sym table.fields.listed ∙ same) table.fields.parts_are.placed,
      subst (λ (spans : List Span). AreSpansOf spans c.args.self.now.parts.items) (sym c.deref-2.ensures.value) table.spans_are,
    ))

pub free_row-free-requires : goal.free_row-free-requires
free_row-free-requires g c =
    let wide = c.args.self.now.all.sized in (omega (arith, wide), (omega (arith, wide), (ap length c.deref.ensures.value ∙ c.requires.one_each, (wide, c.requires.within))))

pub keep_allowed-requires : goal.keep_allowed-requires
keep_allowed-requires g c =
    let wide = c.args.self.now.all.sized in
    let ns = c.args.leaves.now in (
      omega (arith, wide),
      (
        omega (arith, wide),
        (
          omega (arith, wide),
          λ k d within. each_member (λ n. n < 64 * g.row.W) ns c.requires.within (get_or ns k d) (mem-slice_get ns k (get_or ns k d) (slice_get-get_or ns k d within)),
        ),
      ),
    )
