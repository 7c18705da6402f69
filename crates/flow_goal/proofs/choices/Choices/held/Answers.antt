use Rattle.std.proofs.Common.{◌<◌, ◌-◌, ◌^◌, sym, subst}
use Rattle.flow_goal.proofs.PatternLemmas.{lines_count}
use Rattle.flow_goal.proofs.choices.Choices.held.Goals as goal

pub written-requires-clause-numbered : goal.written-requires-clause-numbered
written-requires-clause-numbered c =
    let (apart, choices, numbered) = c.requires.numbered in
    subst (λ n. c.args.number < n) (sym (lines_count apart c.args.tree.now.process _ choices.listed)) numbered.below

pub written-requires-clause-exact : goal.written-requires-clause-exact
written-requires-clause-exact c =
    let (apart, choices, numbered) = c.requires.numbered in
    subst (λ n. n < 2 ^ 64 - 1) (sym (lines_count apart c.args.tree.now.process _ choices.listed)) numbered.exact
