use Rattle.std.proofs.Common.{◌∙◌, ◌∷◌, [], ap, fold, get_or, take, sym}
use Rattle.std.proofs.lemmas.List.{take_all, take_more}
use Rattle.std.proofs.lemmas.List.Sums.{fold-append}
use Rattle.serde_json.specs.Data.{no_members, put}
use Rattle.flow_reply.specs.Summary.{count}
use Rattle.flow_reply.proofs.summary.counted_members.Goals as goal

pub loop-key-preserved : goal.loop-key-preserved
loop-key-preserved c =
    let key = c.loop-key.key-index in
    let pair = get_or c.args.counts.now key (record { ref_ptr = (0, 0); now = [] }, 0) in
    c.in_ok-put.ensures.ok ∙ (λ i. put pair.0.now (c.from.ensures i) (c.loop-key.invariant i))
    ∙ sym (ap (fold (λ others pair. put pair.0.now (count pair.1) others) no_members) (take_more c.args.counts.now key (record { ref_ptr = (0, 0); now = [] }, 0) c.loop-key-test.true)
    ∙ fold-append (λ others pair. put pair.0.now (count pair.1) others) no_members (take key c.args.counts.now) (pair ∷ []))

pub returns : goal.returns
returns c = c.loop-key.invariant ∙ ap (fold (λ others pair. put pair.0.now (count pair.1) others) no_members) (take_all c.loop-key.key-index c.args.counts.now c.loop-key-test.false)
