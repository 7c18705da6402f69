-- What an ask is about.
use Rattle.std.specs.Prelude.{ℕ}
use Rattle.flow_ask.specs.declared.ask.Ask.{Ask}
use Rattle.flow_ask.specs.declared.ask.Ask.TheVariants.{Take, Do, Done, Fail, Rewind, Commit}

-- the leaf or the claim; 0 where it is about none
abbrev pub number_of : Ask → ℕ
number_of (Take leaf) = leaf
number_of (Do leaf) = leaf
number_of (Done claim) = claim
number_of (Fail claim) = claim
number_of Rewind = 0
number_of Commit = 0
