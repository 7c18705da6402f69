-- What one write after others does to the bytes that a sink holds.
use Rattle.std.proofs.Common.{ℕ, ◌+◌, List, ◌++◌, take, drop, Option, None, Some, sym, ap, ◌∙◌, append_assoc}
use Rattle.std.proofs.Math.Seq.{take-add}
use Rattle.std.specs.Io.KnownBytes.{Appends}

-- the first bytes, and then the first of the rest
pub appends_more : (held held' held'' : Option (List ℕ)) (bytes : List ℕ) (done count : ℕ)
    → Appends held held' (take done bytes) → Appends held' held'' (take count (drop done bytes))
    → Appends held held'' (take (done + count) bytes)
appends_more None held' held'' bytes done count before after = tt
appends_more (Some old) None held'' bytes done count before after = absurd before
appends_more (Some old) (Some mid) None bytes done count before after = absurd after
appends_more (Some old) (Some mid) (Some new) bytes done count before after =
    after ∙ ap (λ m. m ++ take count (drop done bytes)) before
    ∙ append_assoc old (take done bytes) (take count (drop done bytes))
    ∙ ap (λ t. old ++ t) (sym (take-add done count bytes))
