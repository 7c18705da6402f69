use Rattle.std.proofs.Common.{subst}
use Rattle.std.proofs.lemmas.Bool.{eqb-true, eq-eqb}
use Rattle.flow_model.specs.Run.{IsOpen}
use Rattle.flow_core.specs.Run.{schema, now}
use Rattle.flow_names.proofs.TidyLemmas.{at_end}
use Rattle.flow_names.proofs.tidy.is_open_at_end.Goals as goal

pub returns-in-Some : goal.returns-in-Some
returns-in-Some c =
    let r = c.args.core.now in (
      λ is. subst (IsOpen (schema r) (now r)) (eqb-true c.in-Some.index c.args.place is) c.in-Some.ensures.0,
      λ free. eq-eqb c.in-Some.index c.args.place (at_end (schema r) (now r) c.args.place c.in-Some.index c.in-Some.ensures c.requires free),
    )
