use Rattle.std.proofs.Common.{◌∙◌, ap, codes}
use Rattle.serde_json.specs.Data.{object, put}
use Rattle.serde_json.proofs.Views.{view-Object}
use Rattle.flow_reply.proofs.summary.summary_value.Goals as goal

pub returns : goal.returns
returns c =
    view-Object c.put.new.map
    ∙ ap object (c.in_ok-put.ensures.ok ∙ (λ i. put (codes "verdict") (c.in_ok-try_from_str.ensures i) (c.in_ok-members.ensures i)))
