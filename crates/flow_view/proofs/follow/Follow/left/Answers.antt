use Rattle.std.proofs.Common.{◌-◌, length, take, sym, ap, ◌∙◌}
use Rattle.std.proofs.lemmas.List.{length-map}
use Rattle.std.specs.List.{take-map}
use Rattle.flow_form.specs.Form.{shape_of}
use Rattle.flow_view.specs.Drawn.{joined, members_of}
use Rattle.flow_view.specs.Follow.{written_of}
use Rattle.flow_view.proofs.follow.Follow.left.Goals as goal

pub returns : goal.returns
returns c =
    let op = c.args.operator in
    let m = c.members-members.result.now in
    let n = c.saturating_sub.result in
    let all = members_of op (written_of c.args.self) in
    c.joined.ensures ∙ ap (joined op) (sym (take-map shape_of n m) ∙ ap (take n) c.members-members.ensures)
    ∙ ap (λ j. joined op (take j all)) (c.saturating_sub.ensures ∙ ap (λ j. j - 1) (sym (length-map m shape_of) ∙ ap length c.members-members.ensures))
