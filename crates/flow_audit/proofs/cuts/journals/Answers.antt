use Rattle.std.proofs.Common.{◌+◌, ℕ, List, sym, ap, subst, ◌∙◌, arith}
use Rattle.flow_record.specs.Cut.{cut_of}
use Rattle.flow_audit.specs.Cuts.{AreCuts}
use Rattle.flow_audit.proofs.CutLemmas.{AreCutTo, last_within, last_cut, next_cut, the_rest}
use Rattle.flow_audit.proofs.cuts.journals.Goals as goal

pub returns-then-is_last-clause-parts : goal.returns-then-is_last-clause-parts
returns-then-is_last-clause-parts c =
    c.in_ok-push.ensures.items
    ∙ last_cut c.args.text.now c.loop-cuts.cuts.items c.loop-cuts.start c.loop-cuts.invariant c.cut-size.result (c.cut-size.ensures.parts ∙ ap cut_of (the_rest c.args.text.now c.loop-cuts.start)) c.if-is_last.true

pub returns-then-is_last-clause-within : goal.returns-then-is_last-clause-within
returns-then-is_last-clause-within c =
    subst (AreCuts c.args.text.now) (sym c.in_ok-push.ensures.items)
    (last_within c.args.text.now c.loop-cuts.cuts.items c.loop-cuts.start c.loop-cuts.invariant c.cut-size.result (c.cut-size.ensures.parts ∙ ap cut_of (the_rest c.args.text.now c.loop-cuts.start)) c.if-is_last.true)

pub loop-cuts-smaller : goal.loop-cuts-smaller
loop-cuts-smaller c =
    let next = next_cut c.args.text.now c.loop-cuts.cuts.items c.loop-cuts.start c.loop-cuts.invariant c.cut-size.result (c.cut-size.ensures.parts ∙ ap cut_of (the_rest c.args.text.now c.loop-cuts.start)) c.if-is_last.false in
    omega (arith, next.0.placed, next.1)

pub loop-cuts-preserved : goal.loop-cuts-preserved
loop-cuts-preserved c =
    let next = next_cut c.args.text.now c.loop-cuts.cuts.items c.loop-cuts.start c.loop-cuts.invariant c.cut-size.result (c.cut-size.ensures.parts ∙ ap cut_of (the_rest c.args.text.now c.loop-cuts.start)) c.if-is_last.false in
    subst (λ (cuts : List (ℕ × ℕ)). AreCutTo c.args.text.now cuts (c.loop-cuts.start + c.cut-size.result.1)) (sym c.in_ok-push.ensures.items) next.0
