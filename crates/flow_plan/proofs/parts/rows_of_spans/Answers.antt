use Rattle.std.proofs.Common.{◌≡◌, ℕ, arith, List, ◌∷◌, [], ◌++◌, take, get_or, sym, subst}
use Rattle.std.proofs.lemmas.List.{take_all, take_more}
use Rattle.flow_plan.specs.declared.part_row.PartRow.{PartRow}
use Rattle.flow_plan.specs.declared.span.Span.{Span}
use Rattle.flow_plan.specs.Parts.{ArePartsFor, IsPartFor}
use Rattle.flow_plan.proofs.PartLemmas.{parts_more}
use Rattle.flow_plan.proofs.parts.rows_of_spans.Goals as goal

pub loop-span-init : goal.loop-span-init
loop-span-init g c = (
  subst (λ (rows : List (PartRow g.row.W)). ArePartsFor c.args.leaves.now c.args.before.now [] rows) (sym c.in_ok-parts.ensures.items) tt,
  c.at-reach.ensures.reaches c.args.leaves.now c.args.before.now,
  omega (arith, c.at-reach.ensures.span.0, c.at-reach.ensures.span.1),
)

pub loop-span-preserved : goal.loop-span-preserved
loop-span-preserved g c =
    let ns : List ℕ = c.args.leaves.now in
    let none : Span = record { first = 0; end = 0 } in
    let s : Span = get_or c.args.spans.now c.loop-span.span-index none in
    let more = take_more c.args.spans.now c.loop-span.span-index none c.loop-span-test.true in
    let same : c.of-reach.result.span ≡ s = c.of-reach.ensures.span.0 in
    let row = subst (λ (span : Span). IsPartFor ns c.args.before.now span c.row.result) same (c.row.ensures ns c.args.before.now c.of-reach.ensures.reaches) in (
      subst (λ (ss : List Span). ArePartsFor ns c.args.before.now ss c.push.new.self.items) (sym more)
          (subst (λ (rows : List (PartRow g.row.W)). ArePartsFor ns c.args.before.now (take c.loop-span.span-index c.args.spans.now ++ s ∷ []) rows) (sym c.in_ok-push.ensures.items)
          (parts_more ns c.args.before.now (take c.loop-span.span-index c.args.spans.now) c.loop-span.parts.items s c.row.result c.loop-span.invariant.0 row)),
      c.of-reach.ensures.reaches,
      c.of-reach.ensures.span.1,
    )

pub returns : goal.returns
returns g c =
    subst (λ (ss : List Span). ArePartsFor c.args.leaves.now c.args.before.now ss c.loop-span.parts.items)
    (take_all c.loop-span.span-index c.args.spans.now c.loop-span-test.false) c.loop-span.invariant.0

pub of-reach-requires : goal.of-reach-requires
of-reach-requires g c = (
  omega (arith, c.requires.wide),
  (omega (arith, c.requires.wide), (c.requires.small, (c.requires.one_each, (c.requires.within c.loop-span.span-index (record { first = 0; end = 0 }) c.loop-span-test.true, (c.loop-span.invariant.2, c.loop-span.invariant.1))))),
)
