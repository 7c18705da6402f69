-- What a look shows of a run.
use Rattle.std.specs.Prelude.{◌≡◌, ℕ, List, ◌++◌, codes}
use Rattle.std.specs.Fmt.{decimal}
use Rattle.flow_model.specs.Verdict.{AreJust}
use Rattle.flow_ask.specs.declared.ask.Look.{Look}
use Rattle.flow_ask.specs.declared.ask.Look.TheVariants as look
use Rattle.flow_core.specs.declared.next.Next.{Next}
use Rattle.flow_core.specs.declared.next.Next.TheVariants.{Act, Wait, Finished, Stuck, Ended}
use Rattle.flow_core.specs.Run.{Run, now}
use Rattle.flow_core.specs.Lists.{HoldsNow}
use Rattle.flow_core.specs.Next.{CanAct, IsWaiting, IsNext}
use Rattle.flow_reply.specs.Facts.{spaced_facts}
use Rattle.flow_reply.specs.Words.{numbers_text}

-- what can be done next, in words; where the run is stuck, with just the leaves that wait
abbrev pub IsNextText : Run → Next → List ℕ → Type 0
IsNextText r (Act leaf) text = text ≡ codes "act " ++ decimal leaf
IsNextText r (Wait claim) text = text ≡ codes "wait " ++ decimal claim
IsNextText r Finished text = text ≡ codes "finished"
IsNextText r (Stuck least) text = (leaves : List ℕ) × AreJust (IsWaiting r) leaves × (text ≡ numbers_text (codes "stuck") leaves)
IsNextText r Ended text = text ≡ codes "ended"

-- what can be done next, just the leaves that can act, the journal as it is, just the facts that hold
abbrev pub IsShown : Run → Look → List ℕ → Type 0
IsShown r look.Next text = (next : Next) × IsNext r next × IsNextText r next text
IsShown r look.Enabled text = (leaves : List ℕ) × AreJust (CanAct r) leaves × (text ≡ numbers_text (codes "enabled") leaves)
IsShown r look.Journal text = text ≡ numbers_text (codes "journal") (now r).journal
IsShown r look.Facts text = (facts : List ℕ) × AreJust (HoldsNow r) facts × (text ≡ codes "facts" ++ spaced_facts r.definition facts)
