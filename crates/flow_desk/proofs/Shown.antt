-- The marks of the leaves of a run, from where it stands at them.
use Rattle.std.proofs.Common.{◌≡◌, ℕ, List, length, map, Option, Some, None, slice_get, option_map, refl, sym, subst, ap, ◌∙◌}
use Rattle.std.proofs.lemmas.List.{length-map}
use Rattle.std.proofs.lemmas.Option.{slice_get-map}
use Rattle.flow_model.proofs.MadeLists.{some_same}
use Rattle.flow_core.specs.Run.{Run}
use Rattle.flow_standing.specs.declared.standing.Standing.{Standing}
use Rattle.flow_standing.specs.declared.standing.Standing.TheVariants.{Plain, Done, Next, Claimed, Failed, Banned}
use Rattle.flow_standing.specs.Standing.{IsStanding, AreStandings}
use Rattle.flow_view.specs.declared.mark.Mark.{Mark}
use Rattle.flow_desk.specs.Mark.{mark_of, IsMark, AreMarks}

shown : (r : Run) (leaf : ℕ) (s : Standing) → IsStanding r leaf s → IsMark r leaf (mark_of s)
shown r leaf Done is = is
shown r leaf Claimed is = is
shown r leaf Next is = is
shown r leaf Banned is = is
shown r leaf Failed is = is
shown r leaf Plain is = is

pub marks_shown : (r : Run) (standings : List Standing) (marks : List Mark) → AreStandings r standings → marks ≡ map mark_of standings → AreMarks r marks
marks_shown r standings marks are is = record {
  count = ap length is ∙ length-map standings mark_of ∙ are.count;
  each = λ leaf mark told. go leaf mark (slice_get standings leaf) (λ s e. are.each leaf s e) (sym (slice_get-map mark_of standings leaf) ∙ ap (λ l. slice_get l leaf) (sym is) ∙ told);
}
  where
    go : (leaf : ℕ) (mark : Mark) (o : Option Standing) → ((s : Standing) → o ≡ Some s → IsStanding r leaf s) → option_map mark_of o ≡ Some mark → IsMark r leaf mark
    go leaf mark None each e = cc
    go leaf mark (Some s) each e = subst (IsMark r leaf) (some_same (mark_of s) mark e) (shown r leaf s (each s refl))
