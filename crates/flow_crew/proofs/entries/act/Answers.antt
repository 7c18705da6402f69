use Rattle.std.proofs.Common.{◌∙◌, refl, sym, ap, inl, inr}
use Rattle.flow_model.specs.declared.history.Step.TheVariants.{Took, Did}
use Rattle.flow_model.specs.Schema.{Schema}
use Rattle.flow_model.specs.Verdict.{call_of}
use Rattle.flow_core.specs.declared.next.Next.TheVariants as next
use Rattle.flow_core.specs.Answers.{next_claim}
use Rattle.flow_core.specs.Run.{schema, now}
use Rattle.flow_crew.specs.declared.moves.Move.TheVariants.{Perform}
use Rattle.flow_crew.proofs.Acting.{done_instead}
use Rattle.flow_crew.proofs.entries.act.Goals as goal

pub unwrap-requires : goal.unwrap-requires
unwrap-requires c =
    (done_instead c.args.core.now c.requires.unfinished c.requires.steps c.args.leaf c.requires.next c.args.by c.in-Err.field-0 c.take.new.self c.perform.result c.perform.new.self
    c.in-Err.ensures c.perform.ensures).0

pub returns-in-Ok : goal.returns-in-Ok
returns-in-Ok c =
    let r = c.args.core.now in
    let h = c.in-Ok.ensures in (
      Took (next_claim r) c.args.leaf,
      (next.Act c.args.leaf, c.requires.next, inl (h.2.0, refl), h.3),
      ap Perform (h.4 ∙ ap (λ (w : Schema). call_of w (now c.take.new.self) (next_claim r)) (sym (ap schema h.3))),
    )

pub returns-in-Err : goal.returns-in-Err
returns-in-Err c =
    let h = (done_instead c.args.core.now c.requires.unfinished c.requires.steps c.args.leaf c.requires.next c.args.by c.in-Err.field-0 c.take.new.self c.perform.result c.perform.new.self
    c.in-Err.ensures c.perform.ensures).1 in
    (Did c.args.leaf, (next.Act c.args.leaf, c.requires.next, inr (h.0, refl), h.1), refl)
