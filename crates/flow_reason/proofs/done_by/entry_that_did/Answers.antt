use Rattle.std.proofs.Common.{◌≡◌, ◌<◌, ◌≤◌, ℕ, List, length, get_or, subst}
use Rattle.std.specs.Prelude.{MatchOption}
use Rattle.flow_model.specs.declared.history.Entry.{Entry}
use Rattle.flow_model.specs.Run.{state_of}
use Rattle.flow_core.specs.Run.{schema}
use Rattle.flow_reason.specs.DoneBy.{HasGrown}
use Rattle.flow_reason.proofs.JournalLengths.{entry_told}
use Rattle.flow_reason.proofs.done_by.entry_that_did.Goals as goal

pub returns : goal.returns
returns c =
    let r = c.args.core.now in
    let place : ℕ = c.in_ok-place.place in
    let grown = subst
    (λ (h : List Entry). MatchOption c.grown_past.result (length (state_of (schema r) h).journal ≤ place) (HasGrown (schema r) h place (length h)))
    c.history.ensures.entries (c.grown_past.ensures (schema r)) in
    let at = subst (λ (j : List ℕ). (place < length j) × (c.args.leaf ≡ get_or j place 0)) c.journal.ensures c.in_ok-place.ensures in
    entry_told (schema r) r.history place c.args.leaf c.grown_past.result grown at.0 at.1
