use Rattle.std.proofs.Common.{◌+◌, ◌∷◌, map, drop, ap, sym, ◌∙◌}
use Rattle.std.specs.String.{string_bytes}
use Rattle.std.proofs.lemmas.List.{take_rest}
use Rattle.flow_trail.specs.declared.line.TrailLine.TheVariants.{Told}
use Rattle.flow_trail.specs.Lines.{said_of}
use Rattle.flow_trail.specs.Due.{entered_of}
use Rattle.flow_trail.proofs.DueLemmas.{line_there, drop-map, same_tale, void_tale, remark_tale}
use Rattle.flow_trail.proofs.compare.tale.Goals as goal

pub returns-in-Told : goal.returns-in-Told
returns-in-Told c =
    let line = line_there said_of c.args.lines.now c.args.index c.index-lines-index.result c.requires.place c.index-lines-index.is in
    let told = line ∙ ap (λ x. said_of x ∷ map said_of (drop (c.args.index + 1) c.args.lines.now)) c.in-Told.is
    ∙ ap (λ ls. said_of (Told c.in-Told.telling) ∷ map said_of ls) (sym (take_rest c.args.lines.now (c.args.index + 1))) in
    let due = drop-map entered_of c.args.due.now c.args.count ∙ ap (map entered_of) (sym (take_rest c.args.due.now c.args.count)) in
    same_tale _ _ _ _ c.told_tale.result told due c.told_tale.ensures

pub returns-in-Void : goal.returns-in-Void
returns-in-Void c =
    let line = line_there said_of c.args.lines.now c.args.index c.index-lines-index.result c.requires.place c.index-lines-index.is in
    void_tale _ (map said_of (drop (c.args.index + 1) c.args.lines.now)) (string_bytes c.in-Void.at) (line ∙ ap (λ x. said_of x ∷ map said_of (drop (c.args.index + 1) c.args.lines.now)) c.in-Void.is)

pub returns-in-Remark : goal.returns-in-Remark
returns-in-Remark c =
    let line = line_there said_of c.args.lines.now c.args.index c.index-lines-index.result c.requires.place c.index-lines-index.is in
    let u = c.in-Remark._remark in
    remark_tale _ (map said_of (drop (c.args.index + 1) c.args.lines.now)) u.about (string_bytes u.text) u.entry (string_bytes u.by) (string_bytes u.at)
    (line ∙ ap (λ x. said_of x ∷ map said_of (drop (c.args.index + 1) c.args.lines.now)) c.in-Remark.is)
