use Rattle.std.proofs.Common.{length, map}
use Rattle.flow_policy.specs.Mentions.{said_in}
use Rattle.flow_policy.proofs.MentionLemmas.{Stands}
use Rattle.flow_policy.proofs.mention.mentions_of.Given as goal

abbrev pub invariant-loop-token : goal.invariant-loop-token
invariant-loop-token l = Stands l.text l.tokens l.stage (map said_in l.mentions.items) l.rest

abbrev pub decreases-loop-token : goal.decreases-loop-token
decreases-loop-token l = length l.rest
