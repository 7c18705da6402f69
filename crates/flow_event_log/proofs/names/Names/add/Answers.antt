use Rattle.std.proofs.Common.{◌≡◌, ◌+◌, ◌<◌, ◌∙◌, ◌++◌, ◌∷◌, [], ℕ, List, map, length, slice_index, ap, rules, arith}
use Rattle.std.proofs.Math.ListN.{set}
use Rattle.std.proofs.lemmas.Grind.{get_or_default_zero}
use Rattle.std.proofs.lemmas.List.{length-map, map-append}
use Rattle.flow_event_log.specs.Buckets.{text_of, older_of, bucket_of}
use Rattle.flow_event_log.proofs.BucketLemmas.{linked_after}
use Rattle.flow_event_log.proofs.names.Names.add.Goals as goal

pub invariant_of-self-2 : goal.invariant_of-self-2
invariant_of-self-2 c =
    let key = c.self.inside.key in
    let newest = c.self.inside.newest.items in
    let entries = c.self.inside.entries.items in
    let olders = map older_of entries in
    let names = map text_of entries in
    let text = c.args.text.now in
    let buckets : c.len-2.result ≡ length newest = search rules in
    let place : c.bucket-place.result ≡ bucket_of key (length newest) text = c.bucket-place.ensures.value ∙ ap (λ (n : ℕ). bucket_of key n text) buckets in
    let below : c.bucket-place.result < length newest = (let bound = c.bucket-place.ensures.bound in omega (arith, bound, buckets)) in
    let within : bucket_of key (length newest) text < length newest = omega (arith, below, place) in
    let count : c.len.result ≡ length entries = search rules in
    let number : c.in-Ok.number ≡ c.len.result = search rules in
    let link : c.in-Some.link ≡ length names + 1 = (let next = c.in-Some.ensures in omega (arith, next, count, number, length-map entries text_of)) in
    let older : c.index.result.now ≡ slice_index newest (bucket_of key (length newest) text) =
    c.index.ensures ∙ get_or_default_zero newest c.bucket-place.result c.index.result.now below ∙ ap (slice_index newest) place in
    linked_after (bucket_of key) (length newest) newest olders names text c.self.invariant within _ _ _
    (ap (λ (i : ℕ). set newest i c.in-Some.link) place ∙ ap (λ (v : ℕ). set newest (bucket_of key (length newest) text) v) link)
    (ap (map older_of) c.in_ok-push.ensures.items ∙ map-append older_of entries _ ∙ ap (λ (o : ℕ). olders ++ o ∷ []) older)
    (ap (map text_of) c.in_ok-push.ensures.items ∙ map-append text_of entries _ ∙ ap (λ (t : List ℕ). names ++ t ∷ []) c.in_ok-from_slice.ensures.items)
