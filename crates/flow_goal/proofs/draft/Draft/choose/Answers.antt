use Rattle.std.proofs.Common.{◌∙◌, ap}
use Rattle.flow_model.specs.Lists.{each_with_each}
use Rattle.flow_goal.specs.declared.draft.Draft.{Draft}
use Rattle.flow_goal.specs.Pattern.{drafted, line_of, lines_of, then}
use Rattle.flow_goal.proofs.PatternLemmas.{chosen}
use Rattle.flow_goal.proofs.draft.Draft.choose.Goals as goal

pub returns : goal.returns
returns c =
    let front = c.in-Ok.ensures.lines ∙ ap drafted c.replace.ensures.value in
    chosen c.args.self.now (record { before = c.in_ok-self.field-0; last = c.replace.new.dest.last }) _ c.in_ok-self.ensures.counted
    (c.in_ok-self.ensures.lines ∙ ap (λ ls. each_with_each then ls (lines_of c.args.sides)) front)
    (ap (λ (d : Draft). line_of d.last) c.replace.ensures.after ∙ c.new.ensures.last)
