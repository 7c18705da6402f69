use Rattle.std.proofs.Common.{◌++◌, codes, ap, refl, ◌∙◌, append_assoc}
use Rattle.flow_form.specs.Form.{shape_of}
use Rattle.flow_form.specs.Script.{declared}
use Rattle.flow_text.specs.Printed.{declaration_line, goal_text, note_text}
use Rattle.flow_text.proofs.Pushed.{put_around, put_behind}
use Rattle.flow_text.proofs.print_scripts.push_declaration.Goals as goal

pub returns-in_ok-push_note-in-Event : goal.returns-in_ok-push_note-in-Event
returns-in_ok-push_note-in-Event c =
    put_around c.extend_from_slice-in-Event.result _ _ _ _ (codes "event " ++ c.in-Event.name) (note_text c.in-Event.note) (codes ";\n") _
    (ap (λ d. declaration_line (declared d)) c.in-Event.is ∙ append_assoc (codes "event " ++ c.in-Event.name) (note_text c.in-Event.note) (codes ";\n"))
    c.in_ok-push_with_name-in-Event.ensures c.in_ok-push_note-in-Event.ensures c.extend_from_slice-in-Event.ensures.items

pub returns-in_ok-push_goal-in-Flow : goal.returns-in_ok-push_goal-in-Flow
returns-in_ok-push_goal-in-Flow c =
    let front = codes "flow " ++ c.in-Flow.name in
    let text = goal_text (shape_of c.in-Flow.goal) in
    put_behind c.extend_from_slice-in-Flow-2.result _ _ _ front (codes " = " ++ text ++ codes ";\n") _
    (ap (λ d. declaration_line (declared d)) c.in-Flow.is ∙ ap (λ l. l ++ codes ";\n") (append_assoc front (codes " = ") text) ∙ append_assoc front (codes " = " ++ text) (codes ";\n"))
    c.in_ok-push_with_name-in-Flow.ensures
    (put_around c.extend_from_slice-in-Flow-2.result _ _ _ _ (codes " = ") text (codes ";\n") _ refl
    c.in_ok-extend_from_slice-in-Flow.ensures.items c.in_ok-push_goal-in-Flow.ensures c.extend_from_slice-in-Flow-2.ensures.items)
