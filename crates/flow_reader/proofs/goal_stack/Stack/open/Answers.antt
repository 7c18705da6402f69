use Rattle.std.proofs.Common.{◌∷◌, ap, ◌∙◌}
use Rattle.flow_reader.specs.Goals.{frame, frame_of, frames_of, level_of}
use Rattle.flow_reader.proofs.Heights.{last_first}
use Rattle.flow_reader.proofs.goal_stack.Stack.open.Goals as goal

pub returns-clause-frames : goal.returns-clause-frames
returns-clause-frames c =
    last_first frame_of c.args.self.now.frames.items c.push.new.self.items _ c.in_ok-push.ensures.items
    ∙ ap (λ level. frame c.args.isolates (level_of level) ∷ frames_of c.args.self.now.frames.items) c.replace-level.ensures.value

pub returns-clause-level : goal.returns-clause-level
returns-clause-level c = ap level_of c.replace-level.ensures.after ∙ c.new.ensures
