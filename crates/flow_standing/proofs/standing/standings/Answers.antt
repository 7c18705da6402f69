use Rattle.std.proofs.Common.{◌+◌, length, sym, subst, ap, ◌∙◌}
use Rattle.std.proofs.lemmas.List.{length_push}
use Rattle.flow_standing.specs.Standing.{IsStanding}
use Rattle.flow_standing.proofs.FlagLemmas.{standing_more}
use Rattle.flow_standing.proofs.standing.standings.Goals as goal

pub loop-leaf-preserved : goal.loop-leaf-preserved
loop-leaf-preserved c =
    let i = c.loop-leaf.invariant in
    let r = c.args.core.now in
    let standings = c.loop-leaf.standings.items in
    record {
      count = ap length c.in_ok-push.ensures.items ∙ length_push standings c.standing.result ∙ ap (λ n. n + 1) i.count;
      each = standing_more r standings c.push.new.self.items c.standing.result c.in_ok-push.ensures.items
          (subst (λ n. IsStanding r n c.standing.result) (sym i.count) c.standing.ensures) i.each;
    }
