use Rattle.std.proofs.Common.{◌≡◌, Some, None, refl, sym, ap, ◌∙◌, true≢false}
use Rattle.flow_expand.specs.declared.layout.Root.{Root}
use Rattle.flow_expand.specs.declared.lay.Stage.TheVariants as stage
use Rattle.flow_expand.proofs.settlement.is_laid.Goals as goal

unlike : (root : Root) → None ≡ Some (stage.Laid root) → ⊥
unlike root e = cc

pub returns-in_default-2 : goal.returns-in_default-2
returns-in_default-2 c = (
  λ e. absurd (true≢false (sym e)),
  λ laid. absurd (unlike laid.0 (sym c.in_default.is ∙ c.stage_of.ensures ∙ laid.1)),
)

pub returns-in-Some-Laid : goal.returns-in-Some-Laid
returns-in-Some-Laid c = (
  λ e. (c.in-Some-Laid.field-0-0, sym c.stage_of.ensures ∙ c.in-Some-Laid.is ∙ ap Some c.in-Some-Laid.field-0-is),
  λ laid. refl,
)
