use Rattle.std.proofs.Common.{◌≡◌, take, fold}
use Rattle.serde_json.specs.Data.{no_members, put}
use Rattle.serde_json.specs.View.{members_view}
use Rattle.flow_reply.specs.Summary.{count}
use Rattle.flow_reply.proofs.summary.counted_members.Given as goal

abbrev pub invariant-loop-key : goal.invariant-loop-key
invariant-loop-key l =
    members_view l.members.entries ≡ fold (λ others pair. put pair.0.now (count pair.1) others) no_members (take l.key-index l.counts)
