use Rattle.std.proofs.Common.{refl, ap, ◌∙◌, slice_get}
use Rattle.std.specs.Str.{bytes_eq}
use Rattle.std.proofs.lemmas.Option.{slice_get_read, slice_get_past}
use Rattle.flow_policy.proofs.FirstLemmas.{stands_there, nothing_there}
use Rattle.flow_policy.proofs.draft.stands_at.Goals as goal

pub returns-in-Some : goal.returns-in-Some
returns-in-Some c =
    let (_, same, _, (within, _), _) = c.in-Some.ensures.lookup in
    stands_there (slice_get c.args.names.now c.args.place) c.in-Some.found.now c.args.name.now c.eq.result
    (slice_get_read c.args.names.now _ c.args.place c.in-Some.found.now refl within same) (c.eq.ensures ∙ ap (λ b. bytes_eq b c.args.name.now) c.bytes.ensures)

pub returns-in-None : goal.returns-in-None
returns-in-None c =
    let (_, _, _, past, _) = c.in-None.ensures.lookup in
    nothing_there (slice_get c.args.names.now c.args.place) c.args.name.now (slice_get_past c.args.names.now c.args.place past)
