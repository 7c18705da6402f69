use Rattle.std.proofs.Common.{ap, sym, subst, ◌∙◌, ◌++◌, ◌∷◌, [], map, take}
use Rattle.std.proofs.lemmas.List.{map_more}
use Rattle.flow_form.specs.Script.{declared}
use Rattle.flow_text.specs.KnownNames.{KnowsThose}
use Rattle.flow_text.proofs.known.Known.of.Goals as goal

pub loop-decl-preserved : goal.loop-decl-preserved
loop-decl-preserved c =
    subst (λ ds. KnowsThose ds c.add.new.self)
    (ap (λ d. map declared (take c.loop-decl.decl-index c.args.decls.now) ++ declared d ∷ []) c.decl-item.is
    ∙ sym (map_more declared c.args.decls.now c.loop-decl.decl-index c.decl-item.result c.loop-decl-test.true))
    (c.in_ok-add.ensures _ c.loop-decl.invariant)
