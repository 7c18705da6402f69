-- What a call that may fail leaves.
use Rattle.std.proofs.Common.{Result, Ok, Err, OnOk}

pub ok_taken : {A E : Type 0} (r : Result A E) (P Q : Type 0) → OnOk r P → (P → Q) → OnOk r Q
ok_taken (Ok q) P Q p f = f p
ok_taken (Err e) P Q p f = p
