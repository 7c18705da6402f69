use Rattle.std.proofs.Common.{ℕ, List, [], ◌∷◌, ◌++◌, ap, ◌∙◌}
use Rattle.flow_grammar.specs.Machine as machine
use Rattle.flow_reader.specs.RuleLevels.{rule_frames_of, rule_level_of}
use Rattle.flow_reader.proofs.rules.more_names.Goals as goal

pub returns-in_ok-push-in-Name : goal.returns-in_ok-push-in-Name
returns-in_ok-push-in-Name c =
    rw c.in-Name.is
    (ap (λ ns. machine.reading (machine.after_names ns (rule_frames_of c.args.stack.now.frames.items) (rule_level_of c.args.stack.now.level) c.args.nots))
    (c.in_ok-push-in-Name.ensures.items ∙ ap (λ (n : List ℕ). c.args.names.items ++ n ∷ []) c.in_ok-new-in-Name.ensures))
