use Rattle.std.proofs.Common.{◌++◌, ◌∷◌, [], inl, refl}
use Rattle.flow_residual.specs.declared.question.Stand.TheVariants.{Among}
use Rattle.flow_residual.proofs.QuestionLemmas.{not_barred, wanted_among}
use Rattle.flow_residual.proofs.SetLemmas.{set_first, set_push}
use Rattle.flow_residual.proofs.residual.Residual.taker.Goals as goal

pub returns-in_default-clause-none : goal.returns-in_default-clause-none
returns-in_default-clause-none c = λ (o, m, takes). c.in_default.ensures.none o Among c.args.leaf takes

pub returns-then-not-may_begin-clause-none : goal.returns-then-not-may_begin-clause-none
returns-then-not-may_begin-clause-none c = λ (o, m, takes).
    not_barred c.args.self.now c.args.claims.now Among c.args.leaf c.args.leaf o (inl refl) takes (c.may_begin.ensures.barred c.if-not-may_begin.true)

pub first_that_wants-requires-clause-asked : goal.first_that_wants-requires-clause-asked
first_that_wants-requires-clause-asked c =
    let claims = c.args.claims.now in
    let leaf = c.args.leaf in
    let some = c.in-Some.ensures.some in (
      (c.may_begin.ensures.begins c.if-not-may_begin.false, some.2),
      c.apart-apart.ensures (leaf ∷ claims) (set_first claims leaf c.insert.new.self (set_push c.in-Some.set c.insert.new.self claims (claims ++ leaf ∷ []) leaf c.insert.ensures refl some.1)),
    )

pub first_that_wants-requires-clause-wanted : goal.first_that_wants-requires-clause-wanted
first_that_wants-requires-clause-wanted c =
    let claims = c.args.claims.now in
    let leaf = c.args.leaf in
    wanted_among c.args.self.now claims leaf c.apart-apart.result c.insert.new.self
    (set_push c.in-Some.set c.insert.new.self claims (claims ++ leaf ∷ []) leaf c.insert.ensures refl c.in-Some.ensures.some.1)
