use Rattle.std.proofs.Common.{◌≡◌, ◌+◌, ◌-◌, ◌<◌, ◌∙◌, ℕ, List, Some, map, length, slice_get, slice_index, true≢false, sym, ap, subst, rules, arith}
use Rattle.std.proofs.lemmas.Grind.{get_or_default_zero}
use Rattle.std.proofs.lemmas.List.{length-map}
use Rattle.std.proofs.lemmas.Slice.Eq.{bytes_eq-Decides}
use Rattle.flow_event_log.specs.Buckets.{text_of, older_of, bucket_of, name_at}
use Rattle.flow_event_log.proofs.BucketLemmas.{IsPast, IsInside, first_past, first_inside, next_past, next_inside}
use Rattle.flow_event_log.proofs.EntryLemmas.{older_at, text_at, found_at, older_below}
use Rattle.flow_event_log.proofs.names.Names.search.Goals as goal

pub loop-link-init : goal.loop-link-init
loop-link-init c =
    let key = c.self.inside.key in
    let newest = c.self.inside.newest.items in
    let olders = map older_of c.self.inside.entries.items in
    let names = map text_of c.self.inside.entries.items in
    let text = c.args.text.now in
    let buckets : c.len.result ≡ length newest = search rules in
    let at : c.bucket.result ≡ bucket_of key (length newest) text = c.bucket.ensures.value ∙ ap (λ (n : ℕ). bucket_of key n text) buckets in
    let below : c.bucket.result < length newest = (let bound = c.bucket.ensures.bound in omega (arith, bound, buckets)) in
    let is : c.index-link.result.now ≡ slice_index newest (bucket_of key (length newest) text) =
    c.index-link.ensures ∙ get_or_default_zero newest c.bucket.result c.index-link.result.now below ∙ ap (slice_index newest) at in (
      subst (λ (link : ℕ). IsPast names text link) (sym is) (first_past (bucket_of key) (length newest) newest olders names text c.self.invariant),
      subst (λ (link : ℕ). IsInside (bucket_of key) (length newest) names text link) (sym is) (first_inside (bucket_of key) (length newest) newest olders names text c.self.invariant),
    )

pub index-entry-requires : goal.index-entry-requires
index-entry-requires c =
    let within = c.loop-link.invariant.1.within (c.loop-link.link - 1) (omega arith) in
    omega (arith, within.0, length-map c.self.inside.entries.items text_of)

pub returns-then-eq-clause-found : goal.returns-then-eq-clause-found
returns-then-eq-clause-found c =
    let entries = c.self.inside.entries.items in
    let number = c.loop-link.link - 1 in
    let within = c.loop-link.invariant.1.within number (omega arith) in
    let below : number < length entries = omega (arith, within.0, length-map entries text_of) in
    let same : text_of c.index-entry.result.now ≡ c.args.text.now =
    sym c.as_slice.ensures.value ∙ (bytes_eq-Decides c.as_slice.result.now c.args.text.now).0 (sym c.eq.ensures ∙ c.if-eq.true) in
    ap (λ (names : List (List ℕ)). slice_get names number) (sym c.self.view_is) ∙ found_at entries number c.index-entry.result.now below c.index-entry.ensures ∙ ap Some same

pub loop-link-smaller : goal.loop-link-smaller
loop-link-smaller c =
    let entries = c.self.inside.entries.items in
    let number = c.loop-link.link - 1 in
    let within = c.loop-link.invariant.1.within number (omega arith) in
    let below : number < length entries = omega (arith, within.0, length-map entries text_of) in
    let small = older_below (bucket_of c.self.inside.key) (length c.self.inside.newest.items) c.self.inside.newest.items (map older_of entries) (map text_of entries) c.self.invariant
    number c.index-entry.result.now.older within.0 (older_at entries number c.index-entry.result.now below c.index-entry.ensures) in
    omega (arith, small)

pub loop-link-preserved : goal.loop-link-preserved
loop-link-preserved c =
    let key = c.self.inside.key in
    let newest = c.self.inside.newest.items in
    let entries = c.self.inside.entries.items in
    let olders = map older_of entries in
    let names = map text_of entries in
    let text = c.args.text.now in
    let number = c.loop-link.link - 1 in
    let one_more : c.loop-link.link ≡ number + 1 = omega arith in
    let within = c.loop-link.invariant.1.within number one_more in
    let below : number < length entries = omega (arith, within.0, length-map entries text_of) in
    let older = older_at entries number c.index-entry.result.now below c.index-entry.ensures in
    let past = subst (λ (link : ℕ). IsPast names text link) one_more c.loop-link.invariant.0 in
    let differs : name_at names number ≡ text → ⊥ = λ same.
    (let is : c.as_slice.result.now ≡ text = c.as_slice.ensures.value ∙ sym (text_at entries number c.index-entry.result.now below c.index-entry.ensures) ∙ same in
    absurd (true≢false (sym ((bytes_eq-Decides c.as_slice.result.now text).1 is) ∙ sym c.eq.ensures ∙ c.if-eq.false))) in (
      subst (λ (link : ℕ). IsPast names text link) older (next_past (bucket_of key) (length newest) newest olders names text c.self.invariant number within.0 within.1 differs past),
      subst (λ (link : ℕ). IsInside (bucket_of key) (length newest) names text link) older (next_inside (bucket_of key) (length newest) newest olders names text c.self.invariant number within.0 within.1),
    )
