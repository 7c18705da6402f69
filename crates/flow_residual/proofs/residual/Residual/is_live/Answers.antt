use Rattle.flow_model.proofs.Lists.{mem-slice_get}
use Rattle.flow_residual.specs.Remaining.{banned}
use Rattle.flow_residual.proofs.residual.Residual.is_live.Goals as goal

pub returns : goal.returns
returns c o at =
    let r = c.args.self.now in
    let says = c.goes_on.ensures o (banned r.bans) at c.sides.ensures.tell in (
      λ yes. let both = says.0 yes in record { among = mem-slice_get r.options c.args.place o at; avoids = both.1; journal_ready = both.0 },
      λ live. says.1 (live.journal_ready, live.avoids),
    )
