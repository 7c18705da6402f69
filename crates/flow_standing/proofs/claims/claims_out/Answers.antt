use Rattle.std.proofs.Common.{◌≡◌, ◌+◌, length, sym, ap, subst, ◌∙◌, arith}
use Rattle.flow_model.specs.declared.history.Entry.{Entry}
use Rattle.flow_model.specs.declared.history.Step.TheVariants.{Took}
use Rattle.flow_core.specs.Run.{schema}
use Rattle.flow_standing.proofs.Fronts.{element}
use Rattle.flow_standing.proofs.Outs.{AreOutUpTo, none_out, one_out, not_out, outs_all}
use Rattle.flow_standing.proofs.claims.claims_out.Goals as goal
use Rattle.flow_standing.proofs.claims.claims_out.Goals.{in-Some+in_ok-push, in_default}

pub loop-place-init : goal.loop-place-init
loop-place-init c =
    let r = c.args.core.now in
    let lawful = c.history-entry-items.ensures.lawful in
    subst (AreOutUpTo (schema r) r.history 0) (sym c.new-outs.ensures.items) (none_out (schema r) r.limit r.history lawful.legal lawful.sound)

pub loop-place-preserved : goal.loop-place-preserved
loop-place-preserved c =
    let r = c.args.core.now in
    let lawful = c.history-entry-items.ensures.lawful in
    let k = c.loop-place.place in
    let first : Entry = record { by = 0; step = Took 0 0 } in
    let at = element r.history c.history-entry-items.result.now k first c.history-entry-items.ensures.entries c.loop-place-test.true in
    elim c.match-out_at.branch [
      | in-Some+in_ok-push w ↦ subst (AreOutUpTo (schema r) r.history (k + 1)) (sym (ap (λ v. v.items) w.outs-is ∙ w.in_ok-push.ensures.items))
          (one_out (schema r) r.limit r.history lawful.legal lawful.sound k _ at c.loop-place.outs.items c.loop-place.invariant w.in-Some.out w.in-Some.ensures)
      | in_default w ↦ subst (AreOutUpTo (schema r) r.history (k + 1)) (sym (ap (λ v. v.items) w.outs-is))
          (not_out (schema r) r.limit r.history lawful.legal lawful.sound k _ at c.loop-place.outs.items c.loop-place.invariant w.in_default.ensures)
    ]

pub returns : goal.returns
returns c =
    let r = c.args.core.now in
    let lawful = c.history-entry-items.ensures.lawful in
    let all : c.loop-place.place ≡ length r.history = omega (arith, ap length c.history-entry-items.ensures.entries) in
    outs_all (schema r) r.limit r.history lawful.legal lawful.sound c.loop-place.place c.loop-place.outs.items all c.loop-place.invariant
