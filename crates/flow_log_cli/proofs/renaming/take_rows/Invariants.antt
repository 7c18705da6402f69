use Rattle.std.proofs.Common.{◌≡◌, ℕ, List, Some, length}
use Rattle.flow_event_log.proofs.FollowLemmas.{Gave}
use Rattle.flow_log_cli.specs.Maps.{AreGoodRows}
use Rattle.flow_log_cli.specs.Noted.{AreMapped}
use Rattle.flow_log_cli.proofs.renaming.take_rows.Given as goal

abbrev pub invariant-loop-row : goal.invariant-loop-row
invariant-loop-row l = (rows : List (List (List ℕ))) × (length rows ≡ l.row) × AreGoodRows l.vocabulary.events.now rows
    × AreMapped l.vocabulary.events.now rows l.renaming.table.names l.renaming.table.numbers.items × Gave (λ s. Some s.now) l.initial.reader l.reader rows
