use Rattle.std.proofs.Common.{◌≡◌, ◌∙◌, ◌+◌, Option, None, List, [], length, slice_get, take, IsTrue, ap, sym, subst, inl}
use Rattle.std.proofs.lemmas.Bool.{eqb-true, false≢true}
use Rattle.std.proofs.lemmas.List.{nil_from_length}
use Rattle.leaf_rows.specs.Leaves.{has_leaf}
use Rattle.flow_model.specs.Lists.{◌∈◌}
use Rattle.flow_plan.specs.declared.course.Turn.{Turn}
use Rattle.flow_plan.specs.declared.fold_row.FoldRow.{FoldRow}
use Rattle.flow_plan.specs.Courses.{IsTurn}
use Rattle.flow_plan.specs.FoldRows.{AreFoldRows}
use Rattle.flow_plan.proofs.CourseLemmas.{no_turn, tell_same}
use Rattle.flow_plan.proofs.RowLemmas.{mem_more}
use Rattle.flow_plan.proofs.course.Course.new.Goals.{then-is_empty, else-is_empty+in_ok-turns}
use Rattle.flow_plan.proofs.course.Course.new.Goals as goal

pub returns : goal.returns
returns c = λ p served.
    let list = c.args.leaves.now in
    record {
      small = served.small;
      start = tell_same p (λ n. IsTrue (has_leaf c.new.result n)) (λ n. n ∈ []) c.told-start.result
          (λ n. (λ h. absurd (false≢true (sym (c.new.ensures n) ∙ h)), λ none. absurd none)) (c.told-start.ensures p served);
      turns = λ i within small. elim c.if-is_empty.branch [
        | then-is_empty w ↦
            let no_rows : c.args.folds.now ≡ [] = nil_from_length c.args.folds.now (eqb-true (length c.args.folds.now) 0 (sym c.is_empty.ensures ∙ w.if-is_empty.true)) in
            let no_choices = subst (λ (rows : List FoldRow). AreFoldRows p.process rows) no_rows served.rows in
            let absent : slice_get c.if-is_empty.turns.items i ≡ None = ap (λ (l : List Turn). slice_get l i) (ap (λ t. t.items) w.turns-is ∙ w.new-turns.ensures.items) in
            subst (λ (t : Option Turn). IsTurn p (λ n. n ∈ take i list) (λ n. n ∈ take (i + 1) list) t) (sym absent)
            (no_turn p (take i list) (take (i + 1) list) no_choices served.distinct (λ x m. (mem_more list i within x).1 (inl m)))
        | else-is_empty+in_ok-turns w ↦
            subst (λ (l : List Turn). IsTurn p (λ n. n ∈ take i list) (λ n. n ∈ take (i + 1) list) (slice_get l i)) (ap (λ t. t.items) (sym w.turns-is))
            (w.in_ok-turns.ensures p served i within small)
      ];
    }
