-- What is written of a run is settled by the run.
use Rattle.std.proofs.Common.{◌≡◌, ◌∙◌, ℕ, List, [], ◌∷◌, ◌++◌, Result, sym, ap, subst}
use Rattle.std.specs.Prelude.{codes}
use Rattle.flow_model.specs.Verdict as verdict
use Rattle.flow_ask.specs.declared.ask.Look.{Look}
use Rattle.flow_ask.specs.declared.ask.Look.TheVariants as look
use Rattle.flow_core.specs.declared.next.Next.{Next}
use Rattle.flow_core.specs.declared.next.Next.TheVariants.{Act, Wait, Finished, Stuck, Ended}
use Rattle.flow_core.specs.Run.{Run, now}
use Rattle.flow_core.specs.Lists.{HoldsNow}
use Rattle.flow_core.specs.Next.{CanAct, IsWaiting}
use Rattle.flow_core.proofs.RisingLists.{one_list}
use Rattle.flow_core.proofs.SingleLemmas.{nexts_once, answers_once}
use Rattle.flow_record.specs.declared.command.Command.{Command}
use Rattle.flow_record.specs.declared.command.Command.TheVariants as command
use Rattle.flow_reply.specs.declared.verdict.Verdict.{Verdict}
use Rattle.flow_reply.specs.declared.verdict.Verdict.TheVariants as came
use Rattle.flow_core.specs.declared.end.End.TheVariants as end
use Rattle.flow_reply.specs.Answer.{answer_text}
use Rattle.flow_reply.specs.Conclusion.{Means, IsVerdictText, verdict_text}
use Rattle.flow_reply.specs.Facts.{spaced_facts}
use Rattle.flow_reply.specs.Look.{IsNextText, IsShown}
use Rattle.flow_reply.specs.Replies.{Goes, RepliesTo, Drives}
use Rattle.flow_reply.specs.Report.{report_text}
use Rattle.flow_reply.specs.Single.{LooksAreSingle, ReportsAreSingle}
use Rattle.flow_reply.specs.Words.{numbers_text}

-- ---- looks

one_next_text : (r : Run) (a b : Next) → a ≡ b → (x y : List ℕ) → IsNextText r a x → IsNextText r b y → x ≡ y
one_next_text r (Stuck n) b e x y (ls, j, p) q =
    let told : IsNextText r (Stuck n) y = subst (λ c. IsNextText r c y) (sym e) q in
    p ∙ ap (numbers_text (codes "stuck")) (one_list (IsWaiting r) ls told.0 j told.1) ∙ sym told.2
one_next_text r a b e x y p q = let told : IsNextText r a y = subst (λ c. IsNextText r c y) (sym e) q in p ∙ sym told

pub one_shown : LooksAreSingle
one_shown r look.Next x y (a, ia, p) (b, ib, q) = one_next_text r a b (nexts_once r a b ia ib) x y p q
one_shown r look.Enabled x y (xs, ja, p) (ys, jb, q) = p ∙ ap (numbers_text (codes "enabled")) (one_list (CanAct r) xs ys ja jb) ∙ sym q
one_shown r look.Journal x y p q = p ∙ sym q
one_shown r look.Facts x y (xs, ja, p) (ys, jb, q) = p ∙ ap (λ facts. codes "facts" ++ spaced_facts r.definition facts) (one_list (HoldsNow r) xs ys ja jb) ∙ sym q

-- ---- sessions

-- where each command leaves one line and one state, a session leaves one text and one state
pub goes_once : {S C : Type 0} (Reply : S → C → List ℕ → S → Type 0) →
    ((s a b : S) (command : C) (line text : List ℕ) → Reply s command line a → Reply s command text b → (line ≡ text) × (a ≡ b)) →
    (s a b : S) (session : List C) (one two : List ℕ) → Goes Reply s session one a → Goes Reply s session two b → (one ≡ two) × (a ≡ b)
goes_once Reply once s a b [] one two p q = (p.0 ∙ sym q.0, p.1 ∙ sym q.1)
goes_once {S} Reply once s a b (c ∷ session) one two (m, (line, (rest, reply, later, is))) (n, (line', (rest', reply', later', is'))) =
    let first = once s m n c line line' reply reply' in
    let others = goes_once Reply once n a b session rest rest' (subst (λ (s : S). Goes Reply s session rest a) first.1 later) later' in
    (is ∙ ap (λ (t : List ℕ). t ++ rest) first.0 ∙ ap (λ (t : List ℕ). line' ++ t) others.0 ∙ sym is', others.1)

pub replies_once : (by : ℕ) (r a b : Run) (command : Command) (line text : List ℕ) → RepliesTo r by command line a → RepliesTo r by command text b → (line ≡ text) × (a ≡ b)
replies_once by r a b (command.Ask ask) line text (x, answers, told) (y, others, tells) =
    let e = answers_once r ask by x y a b answers others in
    (told ∙ (λ i. answer_text (e.1 i) ask (e.0 i) ++ codes "\n") ∙ sym tells, e.1)
replies_once by r a b (command.Look look) line text (same, (x, shown, is)) (stays, (y, shows, are)) =
    let e : a ≡ b = same ∙ sym stays in
    (is ∙ ap (λ (t : List ℕ). t ++ codes "\n") (one_shown b look x y (subst (λ (s : Run). IsShown s look x) e shown) shows) ∙ sym are, e)

-- a run driven by a session gives one text, and ends as one run
pub drives_once : (by : ℕ) (r a b : Run) (session : List Command) (one two : List ℕ) → Drives r by session one a → Drives r by session two b → (one ≡ two) × (a ≡ b)
drives_once by r a b session one two p q = goes_once _ (λ s m n. replies_once by s m n) r a b session one two p q

-- ---- reports

one_meaning : (r : Run) (v : Verdict) (a b : verdict.Verdict) → Means r v a → Means r v b → a ≡ b
one_meaning r (came.Ended end.Stuck) a b (xs, ja, p) (ys, jb, q) = p ∙ ap verdict.stuck (one_list (IsWaiting r) xs ys ja jb) ∙ sym q
one_meaning r v a b p q = p ∙ sym q

pub one_words : (r : Run) (v : Verdict) (a b : List ℕ) → IsVerdictText r v a → IsVerdictText r v b → a ≡ b
one_words r v x y (a, ma, p) (b, mb, q) = p ∙ ap verdict_text (one_meaning r v a b ma mb) ∙ sym q

pub one_report : ReportsAreSingle
one_report r v x y (a, va, p) (b, vb, q) = p ∙ ap (report_text r.definition r.history (now r).journal) (one_words r v a b va vb) ∙ sym q
