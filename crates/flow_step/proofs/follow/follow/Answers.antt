use Rattle.std.proofs.Common.{◌<◌, length, sym, subst, rules}
use Rattle.flow_step.proofs.GoneLemmas.{gone_first, gone_more, gone_wrong}
use Rattle.flow_step.proofs.follow.follow.Goals as goal

pub loop-rest-init : goal.loop-rest-init
loop-rest-init g c = record { gone = gone_first g.R.Remade.may_make g.R.Remade.grown c.args.run.now c.args.history.now; lasts = λ yes. yes }

pub loop-rest-preserved : goal.loop-rest-preserved
loop-rest-preserved g c =
    let made = c.make.ensures.made c.if-not-make.false in
    record {
      gone = gone_more g.R.Remade.may_make g.R.Remade.grown c.args.run.now c.loop-rest.run c.make.new.self c.args.history.now c.loop-rest.rest.now c.in-Some.more.now
          c.in-Some.entry c.loop-rest.invariant.gone c.in-Some.ensures.1 c.in-Some.ensures.0 (c.make.ensures.allowed.0 c.if-not-make.false) made;
      lasts = λ yes. subst g.R.Asked.can_be_asked (sym made) (g.met.R.Remade.still_asked c.loop-rest.run c.in-Some.entry (c.loop-rest.invariant.lasts yes));
    }

pub returns-in_default-clause-illegal : goal.returns-in_default-clause-illegal
returns-in_default-clause-illegal g c =
    let some : 0 < length c.loop-rest.rest.now = search rules in
    gone_wrong g.R.Remade.may_make g.R.Remade.grown c.args.run.now c.loop-rest.run c.args.history.now c.loop-rest.rest.now _ c.loop-rest.invariant.gone c.number_of.ensures some
    (λ entry more small is can. c.in_default.ensures entry more small is)
