use Rattle.std.proofs.Common.{◌++◌, subst}
use Rattle.flow_model.proofs.Lists.{mem-slice_get}
use Rattle.flow_residual.specs.Question.{IsAsked}
use Rattle.flow_residual.specs.Remaining.{banned}
use Rattle.flow_residual.proofs.residual.Residual.has.Goals as goal

pub returns-in-Without : goal.returns-in-Without
returns-in-Without c o at =
    let r = c.args.self.now in
    let asked = subst (IsAsked r c.args.claims.now) c.in-Without.is c.requires.asked in
    let says = c.goes_on.ensures o (banned r.bans ++ c.args.claims.now) at asked in
    rw c.in-Without.is (
      λ yes. let both = says.0 yes in record { among = mem-slice_get r.options c.args.place o at; avoids = both.1; journal_ready = both.0 },
      λ out. says.1 (out.journal_ready, out.avoids),
    )
