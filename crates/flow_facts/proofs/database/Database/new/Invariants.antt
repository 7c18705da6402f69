use Rattle.std.proofs.Common.{◌≡◌, ℕ, ◌==◌, length, take}
use Rattle.std.specs.List.{list_any}
use Rattle.flow_facts.specs.Held.{is_held}
use Rattle.flow_facts.proofs.database.Database.new.Given as goal

abbrev pub invariant-loop-fact : goal.invariant-loop-fact
invariant-loop-fact l = record {
  count : length l.facts ≡ l.count;
  held : (n : ℕ) → is_held l.facts n ≡ list_any (λ h. h == n) (take l.fact-index l.held);
}
