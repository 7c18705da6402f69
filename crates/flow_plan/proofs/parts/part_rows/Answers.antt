use Rattle.std.proofs.Common.{◌<◌, ◌*◌, ◌∙◌, ap, length, sym, get_or, refl, arith, subst, [], ℕ, List}
use Rattle.std.proofs.lemmas.Option.{slice_get-get_or}
use Rattle.flow_model.specs.Lists.{◌∈◌}
use Rattle.flow_model.proofs.Lists.{mem-slice_get, each_member}
use Rattle.flow_plan.specs.declared.span.Span.{Span}
use Rattle.flow_plan.specs.Parts.{ArePartsFor}
use Rattle.flow_plan.proofs.PartLemmas.{parts_of_spans, spans_fit, spans_long}
use Rattle.flow_plan.proofs.parts.part_rows.Goals as goal

pub returns : goal.returns
returns g c = λ pairs rows.
    parts_of_spans c.args.goal.now.process pairs c.args.goal.now.leaves c.args.before.now [] c.in_ok-spans.spans.items c.in_ok-parts.parts.items
    refl c.leaves-leaves.ensures.listed c.leaves-leaves.ensures.rising rows c.in_ok-spans.ensures
    (subst (λ (ns : List ℕ). ArePartsFor ns c.args.before.now c.in_ok-spans.spans.items c.in_ok-parts.parts.items) c.leaves-leaves.ensures.leaves
    (subst (λ (spans : List Span). ArePartsFor c.leaves-leaves.result.now c.args.before.now spans c.in_ok-parts.parts.items) c.deref.ensures.value c.in_ok-parts.ensures))

pub rows_of_spans-requires : goal.rows_of_spans-requires
rows_of_spans-requires g c =
    let leaves = c.leaves-leaves.result.now in
    let long = spans_long c.args.goal.now.process c.args.goal.now.leaves [] c.in_ok-spans.spans.items refl c.leaves-leaves.ensures.listed c.in_ok-spans.ensures in (
      omega (arith, c.requires.wide),
      (
        omega (arith, c.requires.wide),
        (
          c.requires.wide,
          (
            λ k d within. each_member (λ n. n < 64 * g.row.W) c.args.goal.now.leaves c.requires.small (get_or leaves k d)
                (subst (λ (l : List ℕ). get_or leaves k d ∈ l) c.leaves-leaves.ensures.leaves (mem-slice_get leaves k (get_or leaves k d) (slice_get-get_or leaves k d within))),
            (
              c.requires.one_each ∙ sym (ap length c.leaves-leaves.ensures.leaves),
              rw (c.deref.ensures.value, c.leaves-leaves.ensures.leaves) (spans_fit c.args.goal.now.leaves c.in_ok-spans.spans.items long),
            ),
          ),
        ),
      ),
    )
