-- What a run came to, in words.
use Rattle.std.specs.Prelude.{◌≡◌, ℕ, List, ◌++◌, codes}
use Rattle.std.specs.Fmt.{decimal}
use Rattle.flow_model.specs.Verdict as model
use Rattle.flow_core.specs.Run.{Run}
use Rattle.flow_core.specs.Next.{IsWaiting}
use Rattle.flow_core.specs.declared.end.End.TheVariants as end
use Rattle.flow_reply.specs.declared.conclusion.Conclusion.{Conclusion}
use Rattle.flow_reply.specs.declared.conclusion.Conclusion.TheVariants as conclusion
use Rattle.flow_reply.specs.declared.verdict.Verdict.{Verdict}
use Rattle.flow_reply.specs.declared.verdict.Verdict.TheVariants.{Ended, Unfinished}
use Rattle.flow_reply.specs.Words.{numbers_text}

-- a verdict of the code, as one of the definitions; where the run is stuck, with the leaves that wait
abbrev pub Means : Run → Verdict → model.Verdict → Type 0
Means r (Ended end.Committed) meant = meant ≡ model.committed
Means r (Ended end.Spent) meant = meant ≡ model.spent
Means r (Ended (end.NoOther leaf)) meant = meant ≡ model.no_other leaf
Means r (Ended end.Stuck) meant = (leaves : List ℕ) × model.AreJust (IsWaiting r) leaves × (meant ≡ model.stuck leaves)
Means r Unfinished meant = meant ≡ model.unfinished

-- a conclusion as a verdict of the definitions
abbrev pub meaning_of : Conclusion → model.Verdict
meaning_of conclusion.Committed = model.committed
meaning_of conclusion.Spent = model.spent
meaning_of (conclusion.NoOther leaf) = model.no_other leaf
meaning_of (conclusion.Stuck waiting) = model.stuck waiting.items
meaning_of conclusion.Unfinished = model.unfinished

-- a verdict in words
abbrev pub verdict_text : model.Verdict → List ℕ
verdict_text model.committed = codes "committed"
verdict_text model.spent = codes "spent"
verdict_text (model.no_other leaf) = codes "no-other " ++ decimal leaf
verdict_text (model.stuck waiting) = numbers_text (codes "stuck") waiting
verdict_text model.unfinished = codes "unfinished"

-- a verdict of the code in words
abbrev pub IsVerdictText : Run → Verdict → List ℕ → Type 0
IsVerdictText r verdict text = (meant : model.Verdict) × Means r verdict meant × (text ≡ verdict_text meant)
