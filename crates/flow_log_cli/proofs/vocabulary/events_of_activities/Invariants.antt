use Rattle.std.proofs.Common.{◌≡◌, ℕ, List, length}
use Rattle.flow_log_cli.specs.Noted.{AreMapped}
use Rattle.flow_log_cli.proofs.StandLemmas.{StandFirst}
use Rattle.flow_log_cli.proofs.vocabulary.events_of_activities.Given as goal

abbrev pub invariant-loop-place : goal.invariant-loop-place
invariant-loop-place l = (length l.events.items ≡ l.place)
    × ((rows : List (List (List ℕ))) → AreMapped l.vocabulary.events.now rows l.renaming.table.names l.renaming.table.numbers.items → StandFirst l.vocabulary.events.now rows l.activities l.place l.events.items)
