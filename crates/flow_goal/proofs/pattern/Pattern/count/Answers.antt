use Rattle.std.proofs.Common.{◌≡◌, ◌∙◌, sym, ap, subst, length, inl, inr}
use Rattle.std.proofs.lemmas.List.{length-append}
use Rattle.flow_model.proofs.MadeLists.{length-each_with_each}
use Rattle.flow_goal.specs.declared.pattern.Pattern.{Pattern}
use Rattle.flow_goal.specs.Pattern.{IsCounted, lines_of, then}
use Rattle.flow_goal.specs.Capped.{capped}
use Rattle.flow_goal.proofs.pattern.Pattern.count.Goals as goal

pub returns-in-Both : goal.returns-in-Both
returns-in-Both c =
    let counts = λ (p : Pattern). IsCounted p → c.in-Both.count ≡ capped (length (lines_of p)) in
    elim c.in-Both.is [
      | inl (x, y, is) ↦ subst counts (sym is) (λ h. h.0 ∙ ap capped (sym (length-each_with_each then _ _))) c.requires
      | inr (x, y, is) ↦ subst counts (sym is) (λ h. h.0 ∙ ap capped (sym (length-append _ _))) c.requires
    ]
