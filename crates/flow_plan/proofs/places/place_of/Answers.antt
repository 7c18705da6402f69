use Rattle.std.proofs.Common.{Err, Some, ap, get_or, ◌∙◌}
use Rattle.std.specs.FinMap.{nat_cmp-IsAntisymmetric}
use Rattle.std.proofs.lemmas.Option.{slice_get-get_or}
use Rattle.std.proofs.lemmas.List.Sorted.{searched}
use Rattle.flow_plan.proofs.PlaceLemmas.{not_found, rising_never_falls}
use Rattle.flow_plan.proofs.places.place_of.Goals as goal

pub returns-in-Err-clause-missing : goal.returns-in-Err-clause-missing
returns-in-Err-clause-missing c =
    let found = searched c.args.leaves.now c.args.leaf (Err c.in-Err.field-0) c.in-Err.ensures.position (rising_never_falls c.args.leaves.now c.requires) in
    not_found c.args.leaves.now c.args.leaf c.in-Err.field-0 found.1 found.2

pub returns-in-Ok-clause-found : goal.returns-in-Ok-clause-found
returns-in-Ok-clause-found c = slice_get-get_or c.args.leaves.now c.in-Ok.place 0 c.in-Ok.ensures.bound ∙ ap Some (nat_cmp-IsAntisymmetric (get_or c.args.leaves.now c.in-Ok.place 0) c.args.leaf (c.in-Ok.ensures.ok 0))
