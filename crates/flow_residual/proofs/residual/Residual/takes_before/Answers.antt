use Rattle.std.proofs.Common.{[], ◌∷◌, refl, inl, refl, sym, true≢false}
use Rattle.flow_residual.specs.declared.question.Stand.TheVariants.{First}
use Rattle.flow_residual.proofs.QuestionLemmas.{not_barred, wanted_first}
use Rattle.flow_residual.specs.Question.{TakesFirst}
use Rattle.flow_residual.proofs.OptionLemmas.{is_found}
use Rattle.flow_residual.proofs.SetLemmas.{none_in, set_push}
use Rattle.flow_residual.proofs.residual.Residual.takes_before.Goals as goal

pub returns-in_default : goal.returns-in_default
returns-in_default c = (λ wrong. absurd (true≢false (sym wrong)), λ (o, m, takes). absurd (c.in_default.ensures.none o First c.args.leaf takes))

pub returns-then-not-may_begin : goal.returns-then-not-may_begin
returns-then-not-may_begin c = (
  λ wrong. absurd (true≢false (sym wrong)),
  λ (o, m, takes). absurd (not_barred c.args.self.now c.args.claims.now First c.args.leaf c.args.leaf o (inl refl) takes (c.may_begin.ensures.barred c.if-not-may_begin.true)),
)

pub first_that_wants-requires-clause-wanted : goal.first_that_wants-requires-clause-wanted
first_that_wants-requires-clause-wanted c =
    let leaf = c.args.leaf in
    wanted_first c.args.self.now c.args.claims.now leaf c.sides_after-after.result c.apart-apart.result c.insert.new.self
    (set_push c.new-next.result c.insert.new.self [] (leaf ∷ []) leaf c.insert.ensures refl (none_in c.new-next.result c.new-next.ensures))

pub returns : goal.returns
returns c =
    let r = c.args.self.now in
    is_found (TakesFirst r c.args.leaf c.args.claims.now) r.options c.first_that_wants.result c.is_some.result c.is_some.ensures c.first_that_wants.ensures.some c.first_that_wants.ensures.none
