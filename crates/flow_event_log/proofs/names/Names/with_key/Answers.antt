use Rattle.std.proofs.Common.{◌≡◌, ap, map, rules}
use Rattle.std.proofs.Math.ListN.{replicate}
use Rattle.flow_event_log.specs.Buckets.{text_of, older_of, bucket_of}
use Rattle.flow_event_log.proofs.BucketLemmas.{none_linked}
use Rattle.flow_event_log.proofs.names.Names.with_key.Goals as goal

pub invariant_of-result : goal.invariant_of-result
invariant_of-result c =
    let newest = c.in_ok-from_elem.field-0.items in
    let empty : newest ≡ replicate c.args.buckets 0 = search rules in
    none_linked (bucket_of c.args.key) c.args.buckets newest (map older_of c.new.result.items) (map text_of c.new.result.items) c.requires empty
    (ap (map older_of) c.new.ensures.items) (ap (map text_of) c.new.ensures.items)
