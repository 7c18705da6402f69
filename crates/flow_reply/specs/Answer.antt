-- An answer in words. The run is as the ask left it.
use Rattle.std.specs.Prelude.{ℕ, List, [], ◌++◌, Result, Ok, Err, codes}
use Rattle.std.specs.Fmt.{decimal}
use Rattle.flow_model.specs.declared.history.Call.{Call}
use Rattle.flow_model.specs.declared.history.FailEffect.{FailEffect}
use Rattle.flow_model.specs.declared.history.FailEffect.TheVariants.{Switched, Kept}
use Rattle.flow_ask.specs.declared.ask.Ask.{Ask}
use Rattle.flow_ask.specs.declared.made.Made.{Made}
use Rattle.flow_ask.specs.declared.made.Made.TheVariants as made
use Rattle.flow_ask.specs.declared.refusal.Refusal.{Refusal}
use Rattle.flow_ask.specs.declared.refusal.Refusal.TheVariants.{Closed, NoLeaf, WrongKind, NotEnabled, TestFalse, NoClaim, Answered, Late, NoChoice, Unfinished, ClaimsOut, Spent, Role, Separate, Bind, Holder, Broken, Disk, Final, Back, Close}
use Rattle.flow_ask.specs.Ask.{number_of}
use Rattle.flow_core.specs.Run.{Run, now}
use Rattle.flow_workflow.specs.Label.{event_name}

-- a call that was given in the epoch, before its event's name
abbrev pub given_text : ℕ → Call → List ℕ
given_text epoch call =
    codes "claim " ++ decimal call.claim ++ codes " epoch " ++ decimal epoch
    ++ codes " attempt " ++ decimal call.attempt ++ codes " "

abbrev pub call_text : Run → Call → List ℕ
call_text r call = given_text (now r).epoch call ++ event_name r.definition call.event

-- a task that failed
abbrev pub failed_text : ℕ → FailEffect → List ℕ
failed_text claim Switched = codes "failed " ++ decimal claim ++ codes " switched"
failed_text claim Kept = codes "failed " ++ decimal claim ++ codes " kept"

-- a result that came too late
abbrev pub late_text : ℕ → ℕ → ℕ → List ℕ
late_text claim of current = codes "late " ++ decimal claim ++ codes " " ++ decimal of ++ codes " " ++ decimal current

-- what was made of an ask about that leaf or claim, but a claim
abbrev pub made_text : ℕ → Made → List ℕ
made_text number (made.Claim call) = []
made_text number made.Did = codes "did " ++ decimal number
made_text number made.Done = codes "done " ++ decimal number
made_text number (made.Failed effect) = failed_text number effect
made_text number (made.Rewound index) = codes "rewound " ++ decimal index
made_text number made.Committed = codes "committed"

-- why nothing was made of an ask about that leaf or claim
abbrev pub refusal_text : ℕ → Refusal → List ℕ
refusal_text number Closed = codes "refused closed"
refusal_text number NoLeaf = codes "refused leaf " ++ decimal number
refusal_text number WrongKind = codes "refused kind " ++ decimal number
refusal_text number NotEnabled = codes "refused not-enabled " ++ decimal number
refusal_text number TestFalse = codes "refused false " ++ decimal number
refusal_text number NoClaim = codes "refused claim " ++ decimal number
refusal_text number Answered = codes "refused answered " ++ decimal number
refusal_text number (Late of current) = late_text number of current
refusal_text number NoChoice = codes "refused no-choice"
refusal_text number Unfinished = codes "refused unfinished"
refusal_text number (ClaimsOut claim) = codes "refused claims-out " ++ decimal claim
refusal_text number (Spent limit) = codes "refused spent " ++ decimal limit
refusal_text number Role = codes "refused role " ++ decimal number
refusal_text number (Separate index) = codes "refused separate " ++ decimal index
refusal_text number (Bind index) = codes "refused bind " ++ decimal index
refusal_text number Holder = codes "refused holder " ++ decimal number
refusal_text number Broken = codes "refused broken"
refusal_text number Disk = codes "refused: disk"
refusal_text number (Final leaf) = codes "refused final " ++ decimal leaf
refusal_text number Back = codes "refused back"
refusal_text number Close = codes "refused close"

-- the answer to an ask
abbrev pub answer_text : Run → Ask → Result Made Refusal → List ℕ
answer_text r ask (Ok (made.Claim call)) = call_text r call
answer_text r ask (Ok other) = made_text (number_of ask) other
answer_text r ask (Err refusal) = refusal_text (number_of ask) refusal
