use Rattle.flow_form.specs.RuleForm.{rule_shape_of}
use Rattle.flow_form.specs.Script.{said}
use Rattle.flow_view.specs.Sketch.{sketch_of}
use Rattle.flow_view.specs.Texts.{box_texts}
use Rattle.flow_draw.specs.Notes.{note_of}
use Rattle.flow_desk.specs.Noted.{noted_texts}
use Rattle.flow_desk.proofs.Depictions.{map-map, depicted}
use Rattle.flow_desk.proofs.depict.depict.Goals as goal

pub returns-in_ok-print_all-in-Ok-clause-text : goal.returns-in_ok-print_all-in-Ok-clause-text
returns-in_ok-print_all-in-Ok-clause-text c =
    depicted (said c.args.script) c.args.workflow.now (noted_texts c.args.notes.now (box_texts c.args.workflow.now)) c.in-Ok.view.labels c.in-Ok.ensures.labels c.args.sheet.now c.args.marks.now
    c.in_ok-print_all-in-Ok.field-0.items (sketch_of c.in-Ok.view.scene) _ c.in-Ok.ensures.sketch
    (map-map note_of rule_shape_of c.args.script.rules.items) c.in_ok-print_all-in-Ok.ensures
