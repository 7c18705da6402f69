use Rattle.std.proofs.Common.{◌∷◌, ◌++◌, [], take, refl, sym, ap, ◌∙◌, append-nil}
use Rattle.flow_model.specs.declared.history.Entry.{Entry}
use Rattle.flow_model.specs.declared.history.Step.TheVariants.{Took}
use Rattle.flow_standing.specs.Following.{leaves_given}
use Rattle.flow_standing.proofs.Places.{listed}
use Rattle.flow_standing.proofs.Fronts.{element, leaves_next}
use Rattle.flow_export.proofs.events.claim_leaves.Goals as goal
use Rattle.flow_export.proofs.events.claim_leaves.Goals.{in-Some+in_ok-push, in_default}

pub loop-entry-preserved : goal.loop-entry-preserved
loop-entry-preserved c =
    let h = c.args.history.now in
    let k = c.loop-entry.entry-index in
    let first : Entry = record { by = 0; step = Took 0 0 } in
    let more = sym (leaves_next h k _ (element h h k first refl c.loop-entry-test.true)) in
    elim c.match-leaf_taken.branch [
      | in-Some+in_ok-push w ↦
          ap (λ v. v.items) w.leaves-is ∙ w.in_ok-push.ensures.items ∙ ap (λ l. l ++ w.in-Some.leaf ∷ []) c.loop-entry.invariant
          ∙ ap (λ o. leaves_given (take k h) ++ listed o) w.in-Some.ensures ∙ more
      | in_default w ↦
          ap (λ v. v.items) w.leaves-is ∙ c.loop-entry.invariant ∙ sym (append-nil (leaves_given (take k h)))
          ∙ ap (λ o. leaves_given (take k h) ++ listed o) w.in_default.ensures ∙ more
    ]
