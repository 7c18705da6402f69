-- The number of a refusal.
use Rattle.std.specs.Prelude.{ℕ}
use Rattle.flow_ask.specs.declared.refusal.Refusal.{Refusal}
use Rattle.flow_ask.specs.declared.refusal.Refusal.TheVariants.{Closed, NoLeaf, WrongKind, NotEnabled, TestFalse, NoClaim, Answered, Late, NoChoice, Unfinished, ClaimsOut, Spent, Role, Separate, Bind, Holder, Broken, Disk, Final, Back, Close}

-- the number of a refusal
abbrev pub number_of : Refusal → ℕ
number_of Closed = 1
number_of NoLeaf = 2
number_of WrongKind = 3
number_of NotEnabled = 4
number_of TestFalse = 5
number_of NoClaim = 6
number_of Answered = 7
number_of (Late of now) = 8
number_of NoChoice = 9
number_of Unfinished = 10
number_of (ClaimsOut claim) = 11
number_of (Spent limit) = 12
number_of Role = 13
number_of (Separate index) = 14
number_of (Bind index) = 15
number_of Holder = 16
number_of Broken = 17
number_of Disk = 18
number_of (Final leaf) = 19
number_of Back = 20
number_of Close = 21
