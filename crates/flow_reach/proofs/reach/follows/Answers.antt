use Rattle.std.proofs.Common.{length}
use Rattle.std.proofs.lemmas.Bool.{eqb-true, eq-eqb}
use Rattle.flow_reach.proofs.FollowLemmas.{follows_all}
use Rattle.flow_reach.proofs.reach.follows.Goals as goal

pub follow-followed-requires : goal.follow-followed-requires
follow-followed-requires c = c.requires c.tokens-tokens.ensures.ordered

pub returns : goal.returns
returns c =
    let journal = c.args.journal.now in
    let k = c.follow-followed.result.0 in
    let all = follows_all c.args.plan.now journal k c.follow-followed.ensures.followed in
    (λ yes. all.0 (eqb-true k (length journal) yes), λ run. eq-eqb k (length journal) (all.1 run))
