use Rattle.std.proofs.Common.{◌≡◌, ◌++◌, ◌∙◌, ℕ, List, codes, inl, ap, sym, subst, rules}
use Rattle.std.specs.Fmt.{decimal}
use Rattle.flow_keep.specs.declared.refusal.KeepRefusal.TheVariants.{Foreign}
use Rattle.flow_keep_cli.specs.declared.begin.Hindrance.{Hindrance}
use Rattle.flow_keep_cli.specs.declared.begin.Hindrance.TheVariants.{Later}
use Rattle.flow_front.specs.declared.status.Status.TheVariants.{Input}
use Rattle.flow_keep_cli.specs.declared.status.KeepStatus.TheVariants.{Of}
use Rattle.flow_keep_cli.specs.Course.{IsTold, IsSaid}
use Rattle.flow_keep_cli.proofs.say.tell.Goals as goal

pub returns-in-Ok-clause-told : goal.returns-in-Ok-clause-told
returns-in-Ok-clause-told g c =
    let held = g.K.Sink.held c.args.sink.now in
    let held' = g.K.Sink.held c.say-in-Ok.new.sink in
    let line = c.deref.ensures.value ∙ c.in-Ok.ensures ∙ ap (λ n. codes "refused: foreign " ++ decimal n ++ codes "\n") c.from.ensures in
    let is : c.args.why ≡ Later (Foreign c.in-Later-Foreign.index) = search rules in
    subst (λ (why : Hindrance). IsTold why held held' c.say-in-Ok.result) (sym is)
    (inl (subst (λ (text : List ℕ). IsSaid (Of Input) text held held' c.say-in-Ok.result) line c.say-in-Ok.ensures.said))
