use Rattle.std.proofs.Common.{ap, sym, subst, ◌∙◌, map}
use Rattle.std.proofs.lemmas.List.{take_all}
use Rattle.flow_workflow.specs.Numbered.{IsAdded}
use Rattle.flow_form.specs.Script.{declared}
use Rattle.flow_form.specs.Names.{event_name, event_names}
use Rattle.flow_expand.specs.Numbers.{event_note, notes_of}
use Rattle.flow_expand.proofs.Declarations.{part_put, part_passed, part_added, not_event}
use Rattle.flow_expand.proofs.events.Events.new.Goals as goal
use Rattle.flow_expand.proofs.events.Events.new.Goals.{in-Event+in_ok-add+in_ok-push, in_default}

pub loop-decl-preserved : goal.loop-decl-preserved
loop-decl-preserved c =
    let decls = c.args.decls.now in
    let i = c.loop-decl.decl-index in
    let item = c.decl-item.result in
    let lt = c.loop-decl-test.true in
    elim c.match-decl.branch [
      | in-Event+in_ok-add+in_ok-push w ↦ record {
        names = part_added event_name decls i item lt c.decl-item.is w.in-Event.name c.loop-decl.names c.match-decl.names c.requires
            (ap (λ d. event_name (declared d)) w.in-Event.is) c.loop-decl.invariant.names (subst (λ new. IsAdded c.loop-decl.names w.in-Event.name new) (sym w.names-is) w.in_ok-add.ensures.keys);
        notes = part_put event_note decls i item lt c.decl-item.is w.in-Event.note c.loop-decl.notes.items c.match-decl.notes.items (ap (λ d. event_note (declared d)) w.in-Event.is) c.loop-decl.invariant.notes
            (ap (λ v. v.items) w.notes-is ∙ w.in_ok-push.ensures.items);
      }
      | in_default w ↦ record {
        names = w.names-is ∙ part_passed event_name decls i item lt c.decl-item.is c.loop-decl.names (not_event item w.in_default.not-Event).0 c.loop-decl.invariant.names;
        notes = ap (λ v. v.items) w.notes-is ∙ part_passed event_note decls i item lt c.decl-item.is c.loop-decl.notes.items (not_event item w.in_default.not-Event).1 c.loop-decl.invariant.notes;
      }
    ]

pub returns-clause-names : goal.returns-clause-names
returns-clause-names c = c.loop-decl.invariant.names ∙ ap (λ ds. event_names (map declared ds)) (take_all c.loop-decl.decl-index c.args.decls.now c.loop-decl-test.false)

pub returns-clause-notes : goal.returns-clause-notes
returns-clause-notes c = c.loop-decl.invariant.notes ∙ ap (λ ds. notes_of (map declared ds)) (take_all c.loop-decl.decl-index c.args.decls.now c.loop-decl-test.false)
