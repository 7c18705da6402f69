-- Why nothing is drawn.
use Rattle.std.specs.Prelude.{◌≡◌, ℕ, List, Option, None, Some}
use Rattle.flow_form.specs.declared.refusal.TextRefusal.{TextRefusal}
use Rattle.flow_form.specs.declared.refusal.TextRefusal.TheVariants as text
use Rattle.flow_findings.specs.declared.refused.Refused.{Refused}
use Rattle.flow_findings.specs.declared.refused.Refused.TheVariants as refused
use Rattle.flow_front.specs.Status.{Tells}
use Rattle.flow_desk.specs.declared.stop.Telling.{Telling}

-- the byte at which a text is refused
abbrev pub text_place : TextRefusal → Option ℕ
text_place (text.NotAscii place) = Some place
text_place (text.BadToken place) = Some place
text_place (text.Expected place kind) = Some place
text_place (text.Unknown place name) = Some place
text_place (text.Repeated place name) = Some place
text_place (text.TooDeep place) = Some place
text_place text.NoMemory = None

-- the byte of the workflow's text at which a refusal points: only those of the text itself have one
abbrev pub place_of : Refused → Option ℕ
place_of (refused.Text refusal) = text_place refusal
place_of other = None

-- the refusal, with its place, its status and its text, events by these names
pub record TellsRefusal (events : List (List ℕ)) (why : Refused) (telling : Telling) : Type 0 where
  pub place : telling.place ≡ place_of why
  pub told : Tells events why telling.status telling.text.items
