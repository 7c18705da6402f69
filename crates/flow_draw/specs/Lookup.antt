-- What is shown at leaves and frames.
use Rattle.std.specs.Prelude.{ℕ, List, [], slice_get, codes}
use Rattle.std.specs.Option.{unwrap_or}
use Rattle.flow_view.specs.declared.labels.Labels.{Labels}
use Rattle.flow_view.specs.declared.mark.Mark.{Mark}
use Rattle.flow_view.specs.declared.mark.Mark.TheVariants.{Plain, Done, Next, Claimed, Failed, Banned}
use Rattle.flow_view.specs.declared.scene.Frame.{Frame}
use Rattle.flow_view.specs.declared.scene.Frame.TheVariants.{Iso, Called}

-- the text of that number, and none where there is none
abbrev pub text_at : List (List ℕ) → ℕ → List ℕ
text_at texts number = unwrap_or (slice_get texts number) []

-- `iso`, or the name of the sub-workflow
abbrev pub frame_caption : Labels → Frame → List ℕ
frame_caption labels Iso = codes "iso"
frame_caption labels (Called flow letters) = text_at labels.captions.items flow

-- the mark of a leaf; one that has none is plain
abbrev pub mark_at : List Mark → ℕ → Mark
mark_at marks leaf = unwrap_or (slice_get marks leaf) Plain

-- the word of a mark
abbrev pub mark_word : Mark → List ℕ
mark_word Plain = []
mark_word Done = codes "done"
mark_word Next = codes "next"
mark_word Claimed = codes "claimed"
mark_word Failed = codes "failed"
mark_word Banned = codes "banned"
