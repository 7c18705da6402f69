use Rattle.std.proofs.Common.{false, List, [], ◌∷◌, ap, ◌∙◌}
use Rattle.std.specs.List.{flat_map}
use Rattle.std.proofs.lemmas.Result.{on_ok_weaker}
use Rattle.flow_lint.specs.declared.finding.Finding.{Finding}
use Rattle.flow_lint.specs.declared.kind.Kind.TheVariants.{IdleNop, LoneIso}
use Rattle.flow_lint.specs.Goals.{idle_nops, isos_of, lone_isos, nops_of}
use Rattle.flow_lint.proofs.FindingLists.{added_marked, added_more, own_marks}
use Rattle.flow_lint.proofs.findings.add_of_goals.Goals as goal

pub returns : goal.returns
returns c = λ s same.
    let w = c.args.workflow.now in
    let old : List Finding = c.args.found.now.items in
    let mid : List Finding = c.add.new.found.items in
    let new : List Finding = c.add-2.new.found.items in
    on_ok_weaker c.add-2.result
    (λ adds. added_more s w (IdleNop ∷ []) (LoneIso ∷ []) old mid new
    (added_marked s w IdleNop c.deref.result.now (nops_of s) old mid (c.deref.ensures.value ∙ c.in_ok-nops.ensures ∙ ap (flat_map (idle_nops false)) same)
    (own_marks (nops_of s)) c.in_ok-add.ensures)
    (added_marked s w LoneIso c.deref-2.result.now (isos_of w.events s) mid new (c.deref-2.ensures.value ∙ c.in_ok-isos.ensures ∙ ap (flat_map (lone_isos w.events)) same)
    (own_marks (isos_of w.events s)) adds))
    c.add-2.ensures
