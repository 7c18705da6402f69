use Rattle.std.proofs.Common.{sym, subst}
use Rattle.flow_stages.specs.declared.question.Question.TheVariants.{Unmanned}
use Rattle.flow_questions.specs.Questions.{IsFoundBy, LooksIn}
use Rattle.flow_questions.proofs.AllLemmas.{IsAsked, shown_unmanned}
use Rattle.flow_questions.proofs.StaffLemmas.{still_hold}
use Rattle.flow_questions.proofs.manned.staffed.Goals as goal

pub unmanned-requires : goal.unmanned-requires
unmanned-requires c = still_hold _ _ c.args.users c.do_all.ensures.same.1 c.requires.roles

pub returns-clause-made : goal.returns-clause-made
returns-clause-made c = λ fresh unmade.
    let run = c.args.run.now in
    let new = c.do_all.new.run in
    let leaves = c.deref.result.now in
    let takers = c.deref-in-Shown.result.now in
    let event = c.in-Shown.event in
    let shown : IsFoundBy run Unmanned c.in-Shown.leaves.items c.in-Shown.takers.items event =
    subst (λ v. LooksIn run Unmanned c.look_for.new.left v) c.in-Shown.is c.in_ok-look_for.ensures in
    let found : IsFoundBy run Unmanned leaves takers event =
    subst (λ l. IsFoundBy run Unmanned l takers event) (sym c.deref.ensures.value)
    (subst (λ t. IsFoundBy run Unmanned c.in-Shown.leaves.items t event) (sym c.deref-in-Shown.ensures.value) shown) in
    let asked : IsAsked run new leaves takers c.do_all.result = record {
      well_formed = c.recall.ensures.well_formed;
      legal = c.recall.ensures.legal;
      same = c.do_all.ensures.same;
      done = c.do_all.ensures.made;
    } in
    let (leaf, can, nobody) = shown_unmanned run new leaves takers c.do_all.result event asked found fresh in
    c.unmanned.ensures.none c.in-None.is nobody leaf can
