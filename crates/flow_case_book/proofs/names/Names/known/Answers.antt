use Rattle.std.proofs.Common.{◌≡◌, ◌+◌, ◌-◌, Some, true≢false, refl, sym, ap, subst, arith, ◌∙◌, map, take}
use Rattle.std.specs.Prelude.{slice_get}
use Rattle.std.specs.String.{string_bytes}
use Rattle.flow_model.specs.Lists.{◌∈◌}
use Rattle.flow_case_book.proofs.PeopleLemmas.{not_among, stands_at}
use Rattle.flow_case_book.proofs.names.Names.known.Goals as goal

pub returns-then-is_name : goal.returns-then-is_name
returns-then-is_name c =
    let k = c.loop-place.place in
    let name = c.args.name.now in
    let here = stands_at string_bytes c.deref-known-items.result.now k _ name c.loop-place-test.true (ap string_bytes (sym c.known-item.is) ∙ c.is_name.ensures.0 c.if-is_name.true) in
    let same : k ≡ k + 1 - 1 = omega arith in (
      omega arith,
      subst (λ n. slice_get (map string_bytes c.args.self.now.names.items) n ≡ Some name) same
          (subst (λ l. slice_get (map string_bytes l) k ≡ Some name) c.deref-known-items.ensures.value here),
    )

pub loop-place-preserved : goal.loop-place-preserved
loop-place-preserved c =
    let k = c.loop-place.place in
    let name = c.args.name.now in
    let same = c.deref-known-items.ensures.value in
    subst (λ l. ¬ (name ∈ map string_bytes (take (k + 1) l))) same
    (not_among string_bytes c.deref-known-items.result.now k _ name c.loop-place-test.true
    (subst (λ l. ¬ (name ∈ map string_bytes (take k l))) (sym same) c.loop-place.invariant) (λ is. true≢false (sym (c.is_name.ensures.1 (ap string_bytes c.known-item.is ∙ is)) ∙ c.if-is_name.false)))
