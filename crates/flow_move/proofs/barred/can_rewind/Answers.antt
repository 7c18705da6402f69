use Rattle.std.proofs.Common.{sym, true≢false}
use Rattle.std.proofs.lemmas.Bool.{eqb-true, eq-eqb}
use Rattle.flow_move.proofs.RunLemmas.{last_open, back_there, no_way_back}
use Rattle.flow_move.proofs.barred.can_rewind.Goals as goal

pub returns-in-Some : goal.returns-in-Some
returns-in-Some c =
    let r = c.args.core.now in
    let going = c.goes_on.ensures.0 c.if-not-goes_on.false in (
      λ same. back_there r c.in-Some.last c.args.index going.0 going.1 c.in-Some.ensures (eqb-true c.in-Some.last c.args.index same),
      λ can. eq-eqb c.in-Some.last c.args.index (last_open r c.in-Some.last c.args.index c.in-Some.ensures can),
    )

pub returns-in-None : goal.returns-in-None
returns-in-None c = (λ no. absurd (true≢false (sym no)), λ can. absurd (no_way_back c.args.core.now c.args.index c.in-None.ensures can))
