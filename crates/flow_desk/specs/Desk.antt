-- What the desk draws of a text, and of the file of a run.
use Rattle.std.specs.Prelude.{◌≡◌, ◌<◌, ◌+◌, ◌⊎◌, ℕ, List, [], length, map, Option, None, Some}
use Rattle.flow_model.specs.declared.history.Entry.{Entry}
use Rattle.flow_form.specs.Names.{event_names}
use Rattle.flow_form.specs.Script.{Said}
use Rattle.flow_text.specs.Saying.{Says}
use Rattle.flow_workflow.specs.Definition.{Definition, schema_of}
use Rattle.flow_expand.specs.Workflows.{IsExpanded}
use Rattle.flow_front.specs.Refusal.{workflow_part, the_source, the_script, IsCause}
use Rattle.flow_front.specs.Prepared.{IsNotPrepared}
use Rattle.flow_core.specs.Run.{Run}
use Rattle.flow_view.specs.declared.labels.Labels.{Labels}
use Rattle.flow_view.specs.declared.mark.Mark.{Mark}
use Rattle.flow_view.specs.declared.picture.Picture.{Picture}
use Rattle.flow_view.specs.declared.size.TheConstants.{MOST_ARROWS}
use Rattle.flow_view.specs.Arrows.{arrows_of}
use Rattle.flow_view.specs.Drawn.{drawing}
use Rattle.flow_view.specs.Shapes.{shapes_of}
use Rattle.flow_view.specs.Sizes.{canvas_width, canvas_height, IsTooLarge}
use Rattle.flow_view.specs.Sketch.{Sketch}
use Rattle.flow_view.specs.Texts.{box_texts, captions}
use Rattle.flow_draw.specs.declared.format.Format.{Format}
use Rattle.flow_draw.specs.declared.sheet.Sheet.{Sheet}
use Rattle.flow_draw.specs.declared.format.Format.TheVariants.{Svg, Mermaid, Dot}
use Rattle.flow_draw.specs.Notes.{note_of}
use Rattle.flow_svg.specs.Svg.{IsSvg}
use Rattle.flow_chart.specs.Chart.{chart_text}
use Rattle.std.specs.Prelude.{nat_lt, take}
use Rattle.flow_desk.specs.declared.run_file.TheConstants.{GREATEST_RUN}
use Rattle.flow_desk.specs.declared.stop.DeskStop.{DeskStop}
use Rattle.flow_desk.specs.declared.stop.DeskStop.TheVariants.{RunTooLong, Line, Label, Illegal, TooLarge, NoMemory}
use Rattle.flow_desk.specs.declared.report.Untold.TheVariants as untold
use Rattle.flow_desk.specs.Noted.{noted_texts}
use Rattle.flow_desk.specs.Replay.{steps_for, IsFirstIllegal, IsReplayed}
use Rattle.flow_desk.specs.Stopped.{IsStoppedFor}
use Rattle.flow_desk.specs.Told.{Tells}
use Rattle.flow_desk.specs.Untold.{IsUntold}

-- the picture of a workflow that a script says, placed
pub record IsPicture (w : Definition) (sketch : Sketch) (picture : Picture) : Type 0 where
  pub width : picture.width ≡ canvas_width sketch
  pub height : picture.height ≡ canvas_height sketch
  pub shapes : picture.shapes.items ≡ shapes_of sketch
  pub arrows : picture.arrows.items ≡ take MOST_ARROWS (arrows_of w)
  pub left_out : picture.left_out ≡ nat_lt MOST_ARROWS (length (arrows_of w))

-- what is shown of the workflow that a script says: its boxes have these texts
pub record AreLabels (s : Said) (texts : List (List ℕ)) (labels : Labels) : Type 0 where
  pub boxes : labels.boxes.items ≡ texts
  pub captions_are : labels.captions.items ≡ captions s.decls

-- the text is that of a picture in the form, under the title, and in rows that may be so wide
abbrev pub IsTextIn : Format → List ℕ → Option ℕ → Sketch → Picture → Labels → List Mark → List (List ℕ) → List ℕ → Type 0
IsTextIn Svg title fold sketch picture labels marks rules text = IsSvg picture labels marks rules title fold text
IsTextIn Mermaid title fold sketch picture labels marks rules text = text ≡ chart_text Mermaid title sketch picture.arrows.items labels marks rules
IsTextIn Dot title fold sketch picture labels marks rules text = text ≡ chart_text Dot title sketch picture.arrows.items labels marks rules

-- the text is that of a picture that consists of these parts
abbrev pub IsPrinted : Sheet → Sketch → Labels → Definition → List Mark → List (List ℕ) → List ℕ → Type 0
IsPrinted sheet sketch labels w marks rules text =
    (picture : Picture) × IsPicture w sketch picture × IsTextIn sheet.form sheet.title sheet.fold sketch picture labels marks rules text

-- The text is that of the picture of the workflow, with these texts in its boxes and with these marks, and with the constraints as the script has them.
pub record IsDepicted (sheet : Sheet) (s : Said) (w : Definition) (texts : List (List ℕ)) (marks : List Mark) (text : List ℕ) : Type 0 where
  pub labels : Labels
  pub labels_are : AreLabels s texts labels
  pub printed : IsPrinted sheet (drawing s labels w.tree.process) labels w marks (map note_of s.rules) text

-- why a workflow that shows these labels has no picture: it would be too large
abbrev pub IsNotPlaced : Said → Labels → Definition → DeskStop → Type 0
IsNotPlaced s labels w TooLarge = IsTooLarge (drawing s labels w.tree.process)
IsNotPlaced s labels w NoMemory = Unit {0}
IsNotPlaced s labels w other = ⊥

-- the entry of that number stands on the line, where the file is a report whose entries begin on the first; of a journal's line nothing is said
abbrev pub IsIllegalOn : Option ℕ → ℕ → DeskStop → Type 0
IsIllegalOn (Some first) index (Illegal line) = line ≡ first + index
IsIllegalOn None index (Illegal line) = Unit {0}
IsIllegalOn first index NoMemory = Unit {0}
IsIllegalOn first index other = ⊥

-- the first entry that the file tells and that may not be made
abbrev pub HasIllegal : Definition → List ℕ → DeskStop → Type 0
HasIllegal w text stop = (first : Option ℕ) × (entries : List Entry) × Tells w text first entries ×
    ((index : ℕ) × IsFirstIllegal (schema_of w) (steps_for (length entries)) entries index × IsIllegalOn first index stop)

-- why the file of a run tells no run of the workflow
abbrev pub IsNoRun : Definition → List ℕ → DeskStop → Type 0
IsNoRun w text RunTooLong = GREATEST_RUN < length text
IsNoRun w text (Line line) = IsUntold w text (untold.Line line)
IsNoRun w text (Label line) = IsUntold w text (untold.Label line)
IsNoRun w text (Illegal line) = HasIllegal w text (Illegal line)
IsNoRun w text NoMemory = Unit {0}
IsNoRun w text other = ⊥

-- the file tells a history of the workflow, each entry of it legal, and these are the marks of its run
abbrev pub HasReplay : Definition → List ℕ → Run → List Mark → Type 0
HasReplay w text run marks = (first : Option ℕ) × (entries : List Entry) × Tells w text first entries × IsReplayed w entries run marks

-- why a workflow is not drawn with these texts in its boxes
abbrev pub IsNotDepicted : Said → Definition → List (List ℕ) → DeskStop → Type 0
IsNotDepicted s w texts TooLarge = (labels : Labels) × AreLabels s texts labels × IsTooLarge (drawing s labels w.tree.process)
IsNotDepicted s w texts NoMemory = Unit {0}
IsNotDepicted s w texts other = ⊥

-- the marks of a run that the file tells; without a file there are none
abbrev pub AreMarksFor : Definition → Option (List ℕ) → List Mark → Type 0
AreMarksFor w None marks = marks ≡ []
AreMarksFor w (Some text) marks = (run : Run) × HasReplay w text run marks

-- what is drawn of what is said: the picture of its workflow, with these marks, and with the notes behind the texts of boxes
abbrev pub IsDrawnOf : Sheet → Said → Option (List ℕ) → List (List ℕ) → List ℕ → Type 0
IsDrawnOf sheet s file notes text =
    (w : Definition) × IsExpanded s w × ((marks : List Mark) × AreMarksFor w file marks × IsDepicted sheet s w (noted_texts notes (box_texts w)) marks text)

-- the workflow that is said and compiled: the file of its run tells none, or its picture is too large
abbrev pub IsRunNotDrawn : Said → List ℕ → List (List ℕ) → DeskStop → Type 0
IsRunNotDrawn s text notes stop = (w : Definition) × IsExpanded s w × (IsNoRun w text stop ⊎ IsNotDepicted s w (noted_texts notes (box_texts w)) stop)

-- why nothing is drawn of what is said: it is refused by flow, or the file of the run is, or the picture is too large
abbrev pub IsNotDrawnOf : Said → Option (List ℕ) → List (List ℕ) → DeskStop → Type 0
IsNotDrawnOf s None notes stop =
    IsStoppedFor (event_names s.decls) (IsCause (the_script s)) stop ⊎ ((w : Definition) × IsExpanded s w × IsNotDepicted s w (noted_texts notes (box_texts w)) stop)
IsNotDrawnOf s (Some text) notes stop = IsStoppedFor (event_names s.decls) (IsNotPrepared s) stop ⊎ IsRunNotDrawn s text notes stop

-- what the desk writes
abbrev pub IsDrawn : List ℕ → Option (List ℕ) → List (List ℕ) → Sheet → List ℕ → Type 0
IsDrawn text file notes sheet drawn = (s : Said) × Says (workflow_part text) s × IsDrawnOf sheet s file notes drawn

-- why it writes nothing: the text is refused, or what it says is
abbrev pub IsNotDrawn : List ℕ → Option (List ℕ) → List (List ℕ) → DeskStop → Type 0
IsNotDrawn text file notes stop =
    IsStoppedFor [] (IsCause (the_source (Some text))) stop ⊎ ((s : Said) × Says (workflow_part text) s × IsNotDrawnOf s file notes stop)
