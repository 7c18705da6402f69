use Rattle.std.proofs.Common.{◌<◌, ◌-◌, ◌^◌, sym, subst}
use Rattle.std.specs.List.Sorted.{IsStrictlyIncreasing}
use Rattle.flow_goal.proofs.KeptLemmas.{text_of_line}
use Rattle.flow_goal.proofs.PatternLemmas.{lines_count}
use Rattle.flow_goal.proofs.Rising.{folded_at, increasing_at}
use Rattle.flow_goal.proofs.choices.Choices.resolve.Goals as goal

pub written-requires-clause-numbered : goal.written-requires-clause-numbered
written-requires-clause-numbered c =
    let (apart, choices, numbered) = c.requires.numbered in
    subst (λ n. c.args.number < n) (sym (lines_count apart c.args.tree.now.process _ choices.listed)) numbered.below

pub written-requires-clause-exact : goal.written-requires-clause-exact
written-requires-clause-exact c =
    let (apart, choices, numbered) = c.requires.numbered in
    subst (λ n. n < 2 ^ 64 - 1) (sym (lines_count apart c.args.tree.now.process _ choices.listed)) numbered.exact

pub new-requires-clause-written : goal.new-requires-clause-written
new-requires-clause-written c =
    let (apart, choices, numbered) = c.requires.numbered in
    let (q, at, line) = c.in_ok-out.ensures apart c.args.tree.now.process choices.listed in
    let is = text_of_line q c.in_ok-out.out line in
    (q, folded_at apart c.args.tree.now.process q c.args.number at, is.nodes, is.leaves_are, is.fixed)

pub new-requires-clause-rising : goal.new-requires-clause-rising
new-requires-clause-rising c =
    let (apart, choices, numbered) = c.requires.numbered in
    let (q, at, line) = c.in_ok-out.ensures apart c.args.tree.now.process choices.listed in
    let is = text_of_line q c.in_ok-out.out line in
    subst IsStrictlyIncreasing (sym is.leaves_are)
    (increasing_at apart c.args.tree.now.process q c.args.number c.leaves-room.result c.leaves-room.ensures.numbered at)
