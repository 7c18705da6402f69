use Rattle.std.proofs.Common.{map, length}
use Rattle.flow_event_log.specs.Buckets.{bucket_of, text_of}
use Rattle.flow_event_log.proofs.BucketLemmas.{IsPast, IsInside}
use Rattle.flow_event_log.proofs.names.Names.search.Given as goal

abbrev pub invariant-loop-link : goal.invariant-loop-link
invariant-loop-link l = IsPast (map text_of l.self-inside.entries.items) l.text l.link
    × IsInside (bucket_of l.self-inside.key) (length l.self-inside.newest.items) (map text_of l.self-inside.entries.items) l.text l.link

abbrev pub decreases-loop-link : goal.decreases-loop-link
decreases-loop-link l = l.link
