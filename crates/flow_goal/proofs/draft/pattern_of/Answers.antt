use Rattle.std.proofs.Common.{false, [], ◌∙◌, sym, append-nil}
use Rattle.std.proofs.lemmas.Result.{IfOk-weaker}
use Rattle.flow_goal.specs.Folds.{flags_in}
use Rattle.flow_goal.specs.Goal.{process_of}
use Rattle.flow_goal.specs.Pattern.{lines_in}
use Rattle.flow_goal.proofs.PatternLemmas.{laid_first}
use Rattle.flow_goal.proofs.draft.pattern_of.Goals as goal

pub returns-in-Ok-clause-lines : goal.returns-in-Ok-clause-lines
returns-in-Ok-clause-lines c =
    let g = process_of c.args.goal.now in
    IfOk-weaker c.finish.result _ _
    (λ new e apart flags. e ∙ laid_first c.new-draft.result c.lay.new.draft (lines_in apart g) c.new-draft.ensures.before c.new-draft.ensures.last
    (c.in-Ok.ensures.laid apart [] (flags ∙ sym (append-nil (flags_in apart false g)))).1)
    c.finish.ensures.lines
