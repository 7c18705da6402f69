use Rattle.std.proofs.Common.{◌∙◌, subst, sym}
use Rattle.flow_model.proofs.MadeLists.{some_same}
use Rattle.flow_residual.proofs.OptionLemmas.{some_at}
use Rattle.flow_trace.specs.Fronts.{Finishes}
use Rattle.flow_log.specs.Case.{fitted_of}
use Rattle.flow_log.specs.Search.{IsEnd, IsNoEnd}
use Rattle.flow_log.specs.declared.point.Point.{Point}
use Rattle.flow_log.proofs.PointLemmas.{read_at}
use Rattle.flow_log.proofs.points.Points.is_end.Goals as goal

pub returns-then-point-case-clause-yes : goal.returns-then-point-case-clause-yes
returns-then-point-case-clause-yes g c ended p there =
    let f = fitted_of c.args.case.now in
    let here = read_at c.args.self.now.points.items c.args.place c.index.result.now c.requires.place c.index.ensures in
    subst (λ (q : Point g.row.W). IsEnd f q) (some_same c.index.result.now p (sym here ∙ there))
    (c.if-point-case.true, λ list leads. let (j, finishes) = c.has_end.ensures.yes ended list leads.after.done leads.follows in some_at (Finishes list) f.options j finishes)

pub returns-then-point-case-clause-no : goal.returns-then-point-case-clause-no
returns-then-point-case-clause-no g c not p there =
    let f = fitted_of c.args.case.now in
    let here = read_at c.args.self.now.points.items c.args.place c.index.result.now c.requires.place c.index.ensures in
    subst (λ (q : Point g.row.W). IsNoEnd f q) (some_same c.index.result.now p (sym here ∙ there))
    (λ j list option after count (o, at, finishes). c.has_end.ensures.no not j list option after.done (o, at, finishes.0) (o, at, finishes))

pub returns-else-point-case-clause-no : goal.returns-else-point-case-clause-no
returns-else-point-case-clause-no g c not p there =
    let f = fitted_of c.args.case.now in
    let here = read_at c.args.self.now.points.items c.args.place c.index.result.now c.requires.place c.index.ensures in
    subst (λ (q : Point g.row.W). IsNoEnd f q) (some_same c.index.result.now p (sym here ∙ there))
    (λ j list option after count finishes. c.if-point-case.false count)
