-- What comes of a step, as an object of JSON on one line.
use Rattle.std.specs.Prelude.{ℕ, ◌==◌, ◌||◌, ◌&&◌, ◌-◌, nat_lt, if◌then◌else◌, List, [], ◌∷◌, ◌++◌, length, slice_index, take, Option, None, Some, codes}
use Rattle.std.specs.List.{flat_map}
use Rattle.std.specs.Fmt.{decimal}
use Rattle.hex.specs.Hex.{encode_lower}
use Rattle.flow_model.specs.declared.history.Entry.{Entry}
use Rattle.flow_ask.specs.declared.refusal.Refusal.{Refusal}
use Rattle.flow_ask.specs.declared.refusal.Refusal.TheVariants.{Closed, NoLeaf, WrongKind, NotEnabled, TestFalse, NoClaim, Answered, Late, NoChoice, Unfinished, ClaimsOut, Spent, Role, Separate, Bind, Holder, Broken, Disk, Final, Back, Close}
use Rattle.flow_step.specs.Records.{record_of}
use Rattle.flow_step.specs.declared.stepped.Stepped.{Stepped}
use Rattle.flow_step.specs.declared.stepped.Stepped.TheVariants.{Made, Refused, Unread, Illegal}

-- a byte in a text of JSON: a mark, a line feed, a letter as it is, any other byte by its number
abbrev pub quoted_byte : ℕ → List ℕ
quoted_byte byte =
    if byte == 34 then codes "\\\""
    else if byte == 92 then codes "\\\\"
    else if byte == 10 then codes "\\n"
    else if nat_lt byte 32 || nat_lt 126 byte then codes "\\u00" ++ encode_lower (byte ∷ [])
    else byte ∷ []

abbrev pub quoted : List ℕ → List ℕ
quoted text = codes "\"" ++ flat_map quoted_byte text ++ codes "\""

-- numbers between commas
abbrev pub listed : List ℕ → List ℕ
listed [] = []
listed (number ∷ numbers) = decimal number ++ flat_map (λ other. codes "," ++ decimal other) numbers

-- the record of an entry: 32 digits
abbrev pub record_text : Entry → List ℕ
record_text entry = codes "\"" ++ encode_lower (record_of entry) ++ codes "\""

-- it, where there is one
abbrev pub entry_text : Option Entry → List ℕ
entry_text None = []
entry_text (Some entry) = record_text entry

-- why the run or a duty refuses a line, in a word: that of `flow`'s reply
abbrev pub refusal_word : Refusal → List ℕ
refusal_word Closed = codes "closed"
refusal_word NoLeaf = codes "leaf"
refusal_word WrongKind = codes "kind"
refusal_word NotEnabled = codes "not-enabled"
refusal_word TestFalse = codes "false"
refusal_word NoClaim = codes "claim"
refusal_word Answered = codes "answered"
refusal_word (Late of current) = codes "late"
refusal_word NoChoice = codes "no-choice"
refusal_word Unfinished = codes "unfinished"
refusal_word (ClaimsOut claim) = codes "claims-out"
refusal_word (Spent limit) = codes "spent"
refusal_word Role = codes "role"
refusal_word (Separate index) = codes "separate"
refusal_word (Bind index) = codes "bind"
refusal_word Holder = codes "holder"
refusal_word Broken = codes "broken"
refusal_word Disk = codes "disk"
refusal_word (Final leaf) = codes "final"
refusal_word Back = codes "back"
refusal_word Close = codes "close"

-- a text without the line feed at its end
abbrev pub without_end : List ℕ → List ℕ
without_end text = if nat_lt 0 (length text) && (slice_index text (length text - 1) == 10) then take (length text - 1) text else text

-- pieces one after another
abbrev pub joined : List (List ℕ) → List ℕ
joined [] = []
joined (piece ∷ pieces) = piece ++ joined pieces

abbrev pub made_object : Option Entry → List ℕ → List ℕ → List ℕ
made_object entry reply next = joined (
    codes "{\"ok\":true,\"entries\":[" ∷ entry_text entry ∷ codes "],\"reply\":" ∷ quoted reply ∷ codes ",\"next\":[" ∷ listed next ∷ codes "]}" ∷ [])

abbrev pub refused_object : Refusal → Option Entry → List ℕ → List ℕ
refused_object refusal entry reply = joined (
    codes "{\"ok\":false,\"refused\":\"" ∷ refusal_word refusal ∷ codes "\",\"reply\":" ∷ quoted reply ∷ codes ",\"entries\":[" ∷ entry_text entry
    ∷ codes "]}" ∷ [])

abbrev pub unread_object : List ℕ → List ℕ
unread_object text = joined (codes "{\"ok\":false,\"refused\":\"input\",\"reply\":" ∷ quoted (without_end text) ∷ codes ",\"entries\":[]}" ∷ [])

abbrev pub illegal_object : ℕ → List ℕ
illegal_object number = joined (
    codes "{\"ok\":false,\"refused\":\"history\",\"reply\":\"refused: foreign " ∷ decimal number ∷ codes "\",\"record\":" ∷ decimal number
    ∷ codes ",\"entries\":[]}" ∷ [])

abbrev pub step_text : Stepped → List ℕ
step_text (Made entry reply next) = made_object entry reply.items next.items
step_text (Refused refusal entry reply) = refused_object refusal entry reply.items
step_text (Unread text) = unread_object text.items
step_text (Illegal number) = illegal_object number

-- the status of the call that writes it
abbrev pub step_code : Stepped → ℕ
step_code (Made entry reply next) = 0
step_code (Refused refusal entry reply) = 1
step_code (Unread text) = 3
step_code (Illegal number) = 10
