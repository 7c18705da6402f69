-- What comes of a line at a desk, and of a session of users, is settled.
use Rattle.std.proofs.Common.{◌≡◌, ℕ, List, [], ◌∷◌, ◌++◌, sym, ap, ◌∙◌, subst, inl, inr}
use Rattle.std.specs.Prelude.{codes}
use Rattle.flow_model.specs.Lists.{◌∈◌, AreDistinct}
use Rattle.flow_model.proofs.Lists.{mem-slice_get}
use Rattle.flow_model.specs.Verdict as model
use Rattle.flow_core.specs.Run.{Run, schema}
use Rattle.flow_record.specs.declared.command.Command.{Command as RunCommand}
use Rattle.flow_record.specs.declared.command.Command.TheVariants as command
use Rattle.flow_policy.specs.Assigned.{Assigned}
use Rattle.flow_policy.specs.declared.duty.Duty.{Duty}
use Rattle.flow_policy.specs.declared.duty.Duty.TheVariants.{As, Command}
use Rattle.flow_reply.specs.Answer.{answer_text}
use Rattle.flow_reply.specs.Look.{IsShown}
use Rattle.flow_reply.specs.Replies.{Goes}
use Rattle.flow_reply.specs.Session.{Driven}
use Rattle.flow_reply.proofs.OneReply.{one_shown}
use Rattle.flow_roles.specs.Desked.{Desked}
use Rattle.flow_roles.specs.Single.{DeskAnswersAreSingle}
use Rattle.flow_duty.specs.Replies.{CallsAs, RepliesToCommand, RepliesToLine, Replied, DrivesDesk}
use Rattle.flow_duty.specs.Session.{IsUserSession}
use Rattle.flow_duty.specs.Single.{UserSessionsAreSingle}
use Rattle.flow_duty.proofs.DeskLemmas.{SameDesk, line_same}
use Rattle.flow_duty.proofs.Users.{one_user}

-- a name that is called has one reply, and one calls then
calls_once : (a : Assigned) (by : ℕ) (name line text : List ℕ) (caller user : ℕ) → AreDistinct a.users → CallsAs a by name line caller → CallsAs a by name text user →
    (line ≡ text) × (caller ≡ user)
calls_once a by name line text caller user distinct (inl (is, told)) (inl (are, tells)) = (told ∙ sym tells, one_user a name caller user distinct is are)
calls_once a by name line text caller user distinct (inl (is, told)) (inr (none, same, tells)) = absurd (none (mem-slice_get a.users _ name is.0))
calls_once a by name line text caller user distinct (inr (none, same, told)) (inl (are, tells)) = absurd (none (mem-slice_get a.users _ name are.0))
calls_once a by name line text caller user distinct (inr (none, same, told)) (inr (not, stays, tells)) = (told ∙ sym tells, same ∙ sym stays)

module _ (answers_once : DeskAnswersAreSingle) where
  command_once : (d after other : Desked) (by : ℕ) (c : RunCommand) (line text : List ℕ) → RepliesToCommand d by c line after → RepliesToCommand d by c text other →
      (line ≡ text) × (after ≡ other)
  command_once d after other by (command.Ask ask) line text (a, answers, told) (b, others, tells) =
      let e = answers_once d ask by a b after other answers others in
      (told ∙ (λ i. answer_text (e.1 i).run ask (e.0 i) ++ codes "\n") ∙ sym tells, e.1)
  command_once d after other by (command.Look look) line text (same, (x, shown, is)) (stays, (y, shows, are)) =
      let e : after ≡ other = same ∙ sym stays in
      (is ∙ ap (λ (t : List ℕ). t ++ codes "\n") (one_shown other.run look x y (subst (λ (s : Desked). IsShown s.run look x) e shown) shows) ∙ sym are, e)

  line_once : (d after other : Desked) (by : ℕ) (line : Duty) (reply text : List ℕ) (caller user : ℕ) → AreDistinct d.assigned.users →
      RepliesToLine d by line reply after caller → RepliesToLine d by line text other user → (reply ≡ text) × (after ≡ other) × (caller ≡ user)
  line_once d after other by (As name) reply text caller user distinct (p, is) (q, are) =
      let e = calls_once d.assigned by name reply text caller user distinct p q in (e.0, is ∙ sym are, e.1)
  line_once d after other by (Command c) reply text caller user distinct (p, is) (q, are) =
      let e = command_once d after other by c reply text p q in (e.0, e.1, is ∙ sym are)

  -- the lines of a session have one text, leave one desk, and one calls then
  lines_once : (s t u : Desked × ℕ) (session : List Duty) (one two : List ℕ) → AreDistinct s.0.assigned.users →
      Goes Replied s session one t → Goes Replied s session two u → (one ≡ two) × (t ≡ u)
  lines_once s t u [] one two distinct p q = (p.0 ∙ sym q.0, p.1 ∙ sym q.1)
  lines_once s t u (line ∷ session) one two distinct (m, (reply, (rest, replied, later, is))) (n, (text, (more, replies, others, are))) =
      let first = line_once s.0 m.0 n.0 s.1 line reply text m.1 n.1 distinct replied replies in
      let same : SameDesk s.0 n.0 = line_same s.0 n.0 s.1 n.1 line text replies in
      let moved : m ≡ n = λ i. (first.1 i, first.2 i) in
      let then = lines_once n t u session rest more (subst (λ (a : Assigned). AreDistinct a.users) (sym same.1) distinct)
      (subst (λ (x : Desked × ℕ). Goes Replied x session rest t) moved later) others in
      (is ∙ ap (λ (t : List ℕ). t ++ rest) first.0 ∙ ap (λ (t : List ℕ). text ++ t) then.0 ∙ sym are, then.1)

  -- what comes of a session is one
  pub sessions_once : UserSessionsAreSingle
  sessions_once first by session distinct d e last other caller user p q =
      let same = lines_once (first, by) (last, caller) (other, user) session d.replies e.replies distinct p.driven q.driven in
      let desks : last ≡ other = ap (λ (t : Desked × ℕ). t.0) same.1 in
      let lasts : d.last ≡ e.last = p.last_is ∙ ap (λ (s : Desked). s.run) desks ∙ sym q.last_is in (
        (λ i. record {
          replies = same.0 i;
          last = lasts i;
          verdict = (p.verdict_is ∙ ap (λ (r : Run). model.drive_verdict (schema first.run) first.run.limit r.history) lasts ∙ sym q.verdict_is) i;
        }),
        desks,
        ap (λ (t : Desked × ℕ). t.1) same.1,
      )
