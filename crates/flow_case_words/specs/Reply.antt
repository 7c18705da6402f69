-- An answer in plain words: who asked, the task or step that it was about, and what came of it.
use Rattle.std.specs.Prelude.{ℕ, List, [], ◌∷◌, Result, Ok, Err, codes}
use Rattle.std.specs.Fmt.{decimal}
use Rattle.flow_model.specs.declared.history.FailEffect.TheVariants.{Switched, Kept}
use Rattle.flow_model.specs.Lists.{joined}
use Rattle.flow_ask.specs.declared.made.Made.{Made}
use Rattle.flow_ask.specs.declared.made.Made.TheVariants as made
use Rattle.flow_ask.specs.declared.refusal.Refusal.{Refusal}
use Rattle.flow_ask.specs.declared.refusal.Refusal.TheVariants.{Closed, NoLeaf, WrongKind, NotEnabled, TestFalse, NoClaim, Answered, Late, NoChoice, Unfinished, ClaimsOut, Spent, Role, Separate, Bind, Holder, Broken, Disk, Final, Back, Close}

-- what was made, in pieces
abbrev pub made_pieces : List ℕ → List ℕ → Made → List (List ℕ)
made_pieces user task (made.Claim call) = user ∷ codes " has " ∷ task ∷ []
made_pieces user task made.Did = codes "did " ∷ task ∷ []
made_pieces user task made.Done = task ∷ codes " is done" ∷ []
made_pieces user task (made.Failed Switched) = task ∷ codes " failed: it is given up, and there is another way" ∷ []
made_pieces user task (made.Failed Kept) = task ∷ codes " failed: it is needed, and may be taken again" ∷ []
made_pieces user task (made.Rewound index) = codes "stepped back: leaves that are still done are " ∷ decimal index ∷ []
made_pieces user task made.Committed = codes "committed" ∷ []

-- a result that came too late, in pieces
abbrev pub late_pieces : List ℕ → ℕ → ℕ → List (List ℕ)
late_pieces task of now =
    joined (task ∷ codes " came too late: its claim is of epoch " ∷ decimal of ∷ [])
    ∷ joined (codes ", and it is epoch " ∷ decimal now ∷ codes " now" ∷ []) ∷ []

-- why nothing was made, in pieces
abbrev pub refused_pieces : List ℕ → List ℕ → Refusal → List (List ℕ)
refused_pieces user task Closed = codes "the run is over" ∷ []
refused_pieces user task NoLeaf = codes "there is no leaf " ∷ task ∷ []
refused_pieces user task WrongKind = task ∷ codes " is not of the kind that is asked for" ∷ []
refused_pieces user task NotEnabled = task ∷ codes " cannot be taken or done now" ∷ []
refused_pieces user task TestFalse = task ∷ codes " does not hold now" ∷ []
refused_pieces user task NoClaim = codes "no claim " ∷ task ∷ codes " was given" ∷ []
refused_pieces user task Answered = codes "the claim on " ∷ task ∷ codes " is answered" ∷ []
refused_pieces user task (Late of now) = late_pieces task of now
refused_pieces user task NoChoice = codes "no other choice is free" ∷ []
refused_pieces user task Unfinished = codes "the run is not finished" ∷ []
refused_pieces user task (ClaimsOut claim) = task ∷ codes " is out: claim " ∷ decimal claim ∷ []
refused_pieces user task (Spent limit) = codes "all " ∷ decimal limit ∷ codes " entries are spent" ∷ []
refused_pieces user task Role = user ∷ codes " may not take " ∷ task ∷ codes ": no role of theirs may" ∷ []
refused_pieces user task (Separate index) = user ∷ codes " may not take " ∷ task ∷ codes ": it is for another user, by separate " ∷ decimal index ∷ []
refused_pieces user task (Bind index) = user ∷ codes " may not take " ∷ task ∷ codes ": it is for the user of the other task, by bind " ∷ decimal index ∷ []
refused_pieces user task Holder = task ∷ codes " is out to another user" ∷ []
refused_pieces user task Broken = codes "an earlier step could not be kept" ∷ []
refused_pieces user task Disk = codes "the step could not be kept" ∷ []
refused_pieces user task (Final leaf) = codes "the step back would go over " ∷ task ∷ codes ", which is done for good" ∷ []
refused_pieces user task Back = user ∷ codes " may not step back" ∷ []
refused_pieces user task Close = user ∷ codes " may not end the run" ∷ []

-- the words of a refusal
abbrev pub refused_text : List ℕ → List ℕ → Refusal → List ℕ
refused_text user task refusal = joined (codes "refused: " ∷ joined (refused_pieces user task refusal) ∷ [])

-- the words of an answer to the user's ask about the task
abbrev pub reply_text : List ℕ → List ℕ → Result Made Refusal → List ℕ
reply_text user task (Ok made) = joined (made_pieces user task made)
reply_text user task (Err refusal) = refused_text user task refusal

-- the one word of a refusal
abbrev pub word_of : Refusal → List ℕ
word_of Closed = codes "closed"
word_of NoLeaf = codes "leaf"
word_of WrongKind = codes "kind"
word_of NotEnabled = codes "not-enabled"
word_of TestFalse = codes "false"
word_of NoClaim = codes "claim"
word_of Answered = codes "answered"
word_of (Late of now) = codes "late"
word_of NoChoice = codes "no-choice"
word_of Unfinished = codes "unfinished"
word_of (ClaimsOut claim) = codes "claims-out"
word_of (Spent limit) = codes "spent"
word_of Role = codes "role"
word_of (Separate index) = codes "separate"
word_of (Bind index) = codes "bind"
word_of Holder = codes "holder"
word_of Broken = codes "broken"
word_of Disk = codes "disk"
word_of (Final leaf) = codes "final"
word_of Back = codes "back"
word_of Close = codes "close"
