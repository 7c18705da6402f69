-- Whatever a desk is asked, its run stays or has one entry more, and the policy stays.
use Rattle.std.proofs.Common.{◌≡◌, ℕ, Result, Ok, Err, inl, refl, ap}
use Rattle.flow_model.specs.declared.history.Call.{Call}
use Rattle.flow_model.specs.declared.history.FailEffect.{FailEffect}
use Rattle.flow_model.specs.declared.history.Step.TheVariants.{Late}
use Rattle.flow_ask.specs.declared.ask.Ask.{Ask}
use Rattle.flow_ask.specs.declared.ask.Ask.TheVariants as ask
use Rattle.flow_ask.specs.declared.made.Made.{Made}
use Rattle.flow_ask.specs.declared.made.Made.TheVariants as made
use Rattle.flow_ask.specs.declared.refusal.Refusal.{Refusal}
use Rattle.flow_core.specs.declared.refusal.TakeRefusal.{TakeRefusal}
use Rattle.flow_core.specs.declared.refusal.PostRefusal.{PostRefusal}
use Rattle.flow_core.specs.declared.refusal.PostRefusal.TheVariants as post
use Rattle.flow_core.specs.Ask.{AnswersBy, ComesOf, GrowsAtMost, of_take, of_do, of_post, of_rewind, of_commit}
use Rattle.flow_core.proofs.Growth.{takes_grow, performs_grow, refused_grow, done_grow, failed_grow, rewinds_grow, commits_grow}
use Rattle.flow_roles.specs.declared.refusal.Denied.TheVariants as denied
use Rattle.flow_roles.specs.declared.refusal.DutyRefusal.{DutyRefusal}
use Rattle.flow_roles.specs.declared.refusal.DutyRefusal.TheVariants as duty
use Rattle.flow_roles.specs.Desked.{Desked}
use Rattle.flow_roles.specs.Answers.{DeskTakes, DeskPostIsRefused, DeskPostsDone, DeskPostsFailed, DeskPerforms, DeskRewinds, DeskCommits}
use Rattle.flow_roles.specs.Ask.{DeskAnswers, of_duty}

module _ (d after : Desked) where
  abbrev Grows : Ask → ℕ → Type 0
  Grows what by = GrowsAtMost d.run what by after.run × (after.assigned ≡ d.assigned)

  stays : (what : Ask) (by : ℕ) → after ≡ d → Grows what by
  stays what by e = (inl (ap (λ (a : Desked). a.run) e), ap (λ (a : Desked). a.assigned) e)

  takes : (leaf by : ℕ) (a : Result Call (DutyRefusal TakeRefusal)) → DeskTakes d leaf by a after → Grows (ask.Take leaf) by
  takes leaf by (Err (duty.Core why)) h = stays (ask.Take leaf) by h.1
  takes leaf by (Err (duty.Denied why)) h = stays (ask.Take leaf) by h.2
  takes leaf by (Ok call) h = (takes_grow d.run after.run leaf by (Ok call) h.1.0, h.1.1)

  refused : (what : Ask) (claim by : ℕ) (why : DutyRefusal PostRefusal) → ComesOf what (Late claim) → DeskPostIsRefused d claim by why after → Grows what by
  refused what claim by (duty.Core post.Closed) comes h = (refused_grow d.run after.run what claim by post.Closed comes h.0, h.1)
  refused what claim by (duty.Core post.NoClaim) comes h = (refused_grow d.run after.run what claim by post.NoClaim comes h.0, h.1)
  refused what claim by (duty.Core post.Answered) comes h = (refused_grow d.run after.run what claim by post.Answered comes h.0, h.1)
  refused what claim by (duty.Core (post.Spent limit)) comes h = (refused_grow d.run after.run what claim by (post.Spent limit) comes h.0, h.1)
  refused what claim by (duty.Core (post.Late of at)) comes h = (refused_grow d.run after.run what claim by (post.Late of at) comes h.1.0, h.1.1)
  refused what claim by (duty.Denied (denied.Holder number)) comes h = stays what by h.3
  refused what claim by (duty.Denied denied.Role) comes h = absurd h
  refused what claim by (duty.Denied (denied.Separate i)) comes h = absurd h
  refused what claim by (duty.Denied (denied.Bind i)) comes h = absurd h

  posts_done : (claim by : ℕ) (a : Result (Unit {0}) (DutyRefusal PostRefusal)) → DeskPostsDone d claim by a after → Grows (ask.Done claim) by
  posts_done claim by (Err why) h = refused (ask.Done claim) claim by why refl h
  posts_done claim by (Ok x) h = (done_grow d.run after.run claim by (Ok x) h.1.0, h.1.1)

  posts_failed : (claim by : ℕ) (a : Result FailEffect (DutyRefusal PostRefusal)) → DeskPostsFailed d claim by a after → Grows (ask.Fail claim) by
  posts_failed claim by (Err why) h = refused (ask.Fail claim) claim by why refl h
  posts_failed claim by (Ok effect) h = (failed_grow d.run after.run claim by (Ok effect) h.1.0, h.1.1)

  by_grows : {A R : Type 0} (what : Ask) (by : ℕ) (Table : Result A R → Desked → Type 0) (made_of : A → Made) (refusal_of : R → Refusal) (a : Result Made Refusal) →
      ((came : Result A R) → Table came after → Grows what by) → AnswersBy Table made_of refusal_of a after → Grows what by
  by_grows what by Table made_of refusal_of (Ok made) grows (came, h, is) = grows (Ok came) h
  by_grows what by Table made_of refusal_of (Err refusal) grows (why, h, is) = grows (Err why) h

  desk_goes : (what : Ask) (by : ℕ) (a : Result Made Refusal) → DeskAnswers d what by a after → Grows what by
  desk_goes (ask.Take leaf) by a h = by_grows (ask.Take leaf) by (DeskTakes d leaf by) made.Claim (of_duty of_take) a (takes leaf by) h
  desk_goes (ask.Do leaf) by a h = by_grows (ask.Do leaf) by (DeskPerforms d leaf by) (λ _. made.Did) of_do a (λ came k. (performs_grow d.run after.run leaf by came k.0, k.1)) h
  desk_goes (ask.Done claim) by a h = by_grows (ask.Done claim) by (DeskPostsDone d claim by) (λ _. made.Done) (of_duty of_post) a (posts_done claim by) h
  desk_goes (ask.Fail claim) by a h = by_grows (ask.Fail claim) by (DeskPostsFailed d claim by) made.Failed (of_duty of_post) a (posts_failed claim by) h
  desk_goes ask.Rewind by a h = by_grows ask.Rewind by (DeskRewinds d by) made.Rewound of_rewind a (λ came k. (rewinds_grow d.run after.run by came k.0, k.1)) h
  desk_goes ask.Commit by a h = by_grows ask.Commit by (DeskCommits d by) (λ _. made.Committed) of_commit a (λ came k. (commits_grow d.run after.run by came k.0, k.1)) h

  pub desk_grows : (what : Ask) (by : ℕ) (a : Result Made Refusal) → DeskAnswers d what by a after → GrowsAtMost d.run what by after.run
  desk_grows what by a h = (desk_goes what by a h).0

  pub policy_stays : (what : Ask) (by : ℕ) (a : Result Made Refusal) → DeskAnswers d what by a after → after.assigned ≡ d.assigned
  policy_stays what by a h = (desk_goes what by a h).1
