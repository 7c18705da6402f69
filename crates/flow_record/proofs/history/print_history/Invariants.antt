use Rattle.std.proofs.Common.{◌≡◌, ◌<◌, ℕ, get_or, take}
use Rattle.std.specs.String.{string_bytes}
use Rattle.flow_model.specs.declared.history.Entry.{Entry}
use Rattle.flow_record.specs.History.{IsSmall, history_text}
use Rattle.flow_record.proofs.history.print_history.Given as goal

abbrev pub invariant-loop-entry : goal.invariant-loop-entry
invariant-loop-entry l = record {
  text : string_bytes l.text ≡ history_text (take l.entry-index l.entries);
  small : (k : ℕ) → k < l.entry-index → (d : Entry) → IsSmall (get_or l.entries k d);
}
