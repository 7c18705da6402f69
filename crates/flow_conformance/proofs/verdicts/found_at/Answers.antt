use Rattle.std.proofs.Common.{List, Option, Some, slice_get, refl, sym, ap, ◌∙◌}
use Rattle.std.proofs.lemmas.Option.{slice_get_read}
use Rattle.flow_conformance.specs.declared.cause.Finding.{Finding}
use Rattle.flow_conformance.proofs.verdicts.found_at.Goals as goal

pub returns-in-Some-Some : goal.returns-in-Some-Some
returns-in-Some-Some c =
    let lookup = c.in-Some-Some.ensures.lookup in record {
      worker = c.loop-share.share-index;
      share = c.in-Ok.share;
      of_worker = slice_get_read c.args.shares.now _ _ _ refl c.loop-share-test.true c.share-item.is ∙ ap Some c.in-Ok.is;
      found =
          ap (λ (l : List (Option Finding)). slice_get l c.args.place) (sym c.deref.ensures.value)
          ∙ slice_get_read c.deref.result.now _ c.args.place c.in-Some-Some.field-0.now refl lookup.3.0 lookup.1 ∙ ap Some c.in-Some-Some.field-0-is;
    }
