use Rattle.std.proofs.Common.{sym, subst}
use Rattle.flow_stages.specs.declared.question.Question.TheVariants.{Both}
use Rattle.flow_questions.specs.Questions.{IsFoundBy, LooksIn}
use Rattle.flow_questions.proofs.AllLemmas.{IsAsked, shown_both}
use Rattle.flow_questions.proofs.both.alone.Goals as goal

pub returns-clause-made : goal.returns-clause-made
returns-clause-made c = λ fresh unmade.
    let run = c.args.run.now in
    let new = c.do_all.new.run in
    let question = Both c.args.one c.args.two in
    let leaves = c.deref.result.now in
    let takers = c.deref-in-Shown.result.now in
    let event = c.in-Shown.event in
    let shown : IsFoundBy run question c.in-Shown.leaves.items c.in-Shown.takers.items event =
    subst (λ v. LooksIn run question c.look_for.new.left v) c.in-Shown.is c.in_ok-look_for.ensures in
    let found : IsFoundBy run question leaves takers event =
    subst (λ l. IsFoundBy run question l takers event) (sym c.deref.ensures.value)
    (subst (λ t. IsFoundBy run question c.in-Shown.leaves.items t event) (sym c.deref-in-Shown.ensures.value) shown) in
    let asked : IsAsked run new leaves takers c.do_all.result = record {
      well_formed = c.recall.ensures.well_formed;
      legal = c.recall.ensures.legal;
      same = c.do_all.ensures.same;
      done = c.do_all.ensures.made;
    } in
    let (user, below, both) = shown_both run new leaves takers c.do_all.result event c.args.one c.args.two c.args.users asked c.requires.roles found fresh in
    c.who_has_both.ensures.none c.in-None.is user below both
