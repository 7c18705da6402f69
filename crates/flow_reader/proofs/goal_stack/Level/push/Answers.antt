use Rattle.std.proofs.Common.{map, ap, ◌∙◌}
use Rattle.std.proofs.lemmas.List.{map-append}
use Rattle.flow_form.specs.Form.{shape_of}
use Rattle.flow_grammar.specs.Machine as machine
use Rattle.flow_reader.proofs.goal_stack.Level.push.Goals as goal

pub returns : goal.returns
returns c =
    ap (machine.level (map shape_of c.args.self.now.eithers.items) (map shape_of c.args.self.now.besides.items))
    (ap (map shape_of) c.in_ok-push.ensures.items ∙ map-append shape_of _ _)
