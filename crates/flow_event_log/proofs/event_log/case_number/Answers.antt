use Rattle.std.proofs.Common.{◌≡◌, Some, slice_get, refl, inl, rules, arith}
use Rattle.std.proofs.lemmas.Grind.{common_steps}
use Rattle.std.proofs.lemmas.Option.{slice_get_within, get_or_from_slice_get}
use Rattle.flow_event_log.proofs.event_log.case_number.Goals as goal

pub returns-then-eq-clause-names : goal.returns-then-eq-clause-names
returns-then-eq-clause-names c =
    let found : slice_get c.args.names.now c.in-Some.last.now.case ≡ Some c.args.name.now = first_of (search rules, grind (arith, common_steps)) in
    inl (
      (
        c.in-Some.last.now.case,
        slice_get_within c.args.names.now c.in-Some.last.now.case c.args.name.now found,
        get_or_from_slice_get c.args.names.now c.in-Some.last.now.case c.args.name.now c.args.name.now found,
      ),
      refl,
    )
