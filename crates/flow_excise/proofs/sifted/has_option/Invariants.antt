use Rattle.std.proofs.Common.{◌≡◌, ◌*◌, ◌<◌, ◌≤◌, ℕ, false, get_or}
use Rattle.flow_excise.proofs.sifted.has_option.Given as goal

abbrev pub invariant-loop-k : goal.invariant-loop-k
invariant-loop-k l = (k : ℕ) → 64 * l.number ≤ k → k < l.k → get_or l.met k false ≡ false
