use Rattle.std.proofs.Common.{length, sym, ap, subst, ◌∙◌}
use Rattle.flow_model.specs.Lists.{each_with_each}
use Rattle.flow_goal.specs.declared.pattern.Pattern.{Pattern}
use Rattle.flow_goal.specs.Capped.{capped}
use Rattle.flow_goal.specs.Pattern.{IsCounted, lines_of, then}
use Rattle.flow_goal.proofs.PatternLemmas.{both_counted, nothing_first, nothing_last}
use Rattle.flow_goal.proofs.draft.both.Goals as goal

pub returns-clause-counted : goal.returns-clause-counted
returns-clause-counted c =
    let first = sym c.in-Ok.ensures.ok in
    let second = sym c.in_ok-second.ensures.ok in (
      c.saturating_mul-count.ensures
          ∙ both_counted c.in-Ok.first.value c.in_ok-second.second.value c.count.result c.count-2.result
          (c.count.ensures ∙ ap (λ (p : Pattern). capped (length (lines_of p))) first) (c.count-2.ensures ∙ ap (λ (p : Pattern). capped (length (lines_of p))) second),
      subst IsCounted first c.requires.first,
      subst IsCounted second c.requires.second,
    )

pub returns-clause-lines : goal.returns-clause-lines
returns-clause-lines c = λ k. each_with_each then (lines_of (c.in-Ok.ensures.ok k)) (lines_of (c.in_ok-second.ensures.ok k))

pub returns-then-is_nothing-clause-lines : goal.returns-then-is_nothing-clause-lines
returns-then-is_nothing-clause-lines c =
    sym (ap (λ ls. each_with_each then ls (lines_of c.args.second)) (c.is_nothing.ensures c.if-is_nothing.true) ∙ nothing_first (lines_of c.args.second))

pub returns-then-is_nothing-2-clause-lines : goal.returns-then-is_nothing-2-clause-lines
returns-then-is_nothing-2-clause-lines c =
    sym (ap (λ ls. each_with_each then (lines_of c.args.first) ls) (c.is_nothing-2.ensures c.if-is_nothing-2.true) ∙ nothing_last (lines_of c.args.first))
