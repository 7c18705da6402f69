use Rattle.std.proofs.lemmas.Result.{err_from_is_err_and}
use Rattle.flow_policy.specs.Mentions.{said_in}
use Rattle.flow_policy.proofs.DraftLemmas.{stops_at}
use Rattle.flow_policy.proofs.draft.Draft.of.Goals as goal

pub returns-in_err-note-clause-refused : goal.returns-in_err-note-clause-refused
returns-in_err-note-clause-refused c = λ names h.
    let p = err_from_is_err_and c.from_residual.result c.from_residual.ensures.1 in
    rw (p.1, p.2) (stops_at said_in names c.args.mentions.now c.loop-mention.mention-index _ c.loop-mention-test.true (c.loop-mention.invariant names h).0 _ (c.in_err-note.ensures.refused names h))
