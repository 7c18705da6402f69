use Rattle.std.proofs.Common.{◌≡◌, ℕ, List, Some, slice_get, refl, ap, subst, ◌∙◌}
use Rattle.std.proofs.lemmas.Option.{slice_get_read}
use Rattle.flow_event_log.specs.Spelling.{spelling}
use Rattle.flow_log_cli.specs.Noted.{IsNoted}
use Rattle.flow_log_cli.proofs.NotedLemmas.{spelled_more}
use Rattle.flow_log_cli.proofs.vocabulary.note_spellings.Goals as goal

pub loop-place-preserved : goal.loop-place-preserved
loop-place-preserved c =
    let events = c.args.events.now in
    let place = c.loop-place.place in
    let name = c.index-events-place.result in
    let names = c.loop-place.table.names in
    let numbers = c.loop-place.table.numbers.items in
    let more = c.note.new.self in
    let there : slice_get events place ≡ Some name = slice_get_read events _ place name refl c.loop-place-test.true c.index-events-place.is in
    let text : c.as_slice.result.now ≡ spelling name = c.as_slice.ensures.value ∙ c.in_ok-spelling.ensures ∙ ap spelling c.bytes.ensures in
    spelled_more events place name names more.names numbers more.numbers.items there
    (subst (λ (t : List ℕ). IsNoted names numbers t place more.names more.numbers.items) text c.in_ok-note.ensures) c.loop-place.invariant
