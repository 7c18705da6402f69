use Rattle.std.proofs.Common.{List, length, get_or, ap, ◌∙◌, arith}
use Rattle.flow_model.specs.declared.history.Entry.{Entry}
use Rattle.flow_reason.proofs.JournalLengths.{none}
use Rattle.flow_reason.proofs.ClaimsGiven.{none_out}
use Rattle.flow_reason.proofs.claimed.claim_out_on.Goals as goal

pub returns : goal.returns
returns c =
    let entries = c.history-history.ensures.entries in
    let same = ap (λ (h : List Entry). length h) entries in
    let past = c.loop-entry-test.false in
    none_out c.args.core.now c.args.leaf c.history-history.ensures.lawful
    (λ k below claim step out. c.loop-entry.invariant k (omega arith) claim (ap (λ (h : List Entry). (get_or h k none).step) entries ∙ step) out)
