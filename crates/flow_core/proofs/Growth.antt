-- Whatever a run is asked, it stays or has one entry more. So its workflow and its limit stay.
use Rattle.std.proofs.Common.{◌≡◌, ℕ, Result, Ok, Err, inl, inr, refl, ap}
use Rattle.flow_model.specs.declared.history.Call.{Call}
use Rattle.flow_model.specs.declared.history.FailEffect.{FailEffect}
use Rattle.flow_model.specs.declared.history.Step.TheVariants.{Took, Done, Failed, Late, Did, Rewound, Committed}
use Rattle.flow_ask.specs.declared.ask.Ask.{Ask}
use Rattle.flow_ask.specs.declared.ask.Ask.TheVariants as ask
use Rattle.flow_ask.specs.declared.made.Made.{Made}
use Rattle.flow_ask.specs.declared.refusal.Refusal.{Refusal}
use Rattle.flow_core.specs.declared.refusal.TakeRefusal.{TakeRefusal}
use Rattle.flow_core.specs.declared.refusal.DoRefusal.{DoRefusal}
use Rattle.flow_core.specs.declared.refusal.DoRefusal.TheVariants as perform
use Rattle.flow_core.specs.declared.refusal.PostRefusal.{PostRefusal}
use Rattle.flow_core.specs.declared.refusal.PostRefusal.TheVariants as post
use Rattle.flow_core.specs.declared.refusal.RewindRefusal.{RewindRefusal}
use Rattle.flow_core.specs.declared.refusal.RewindRefusal.TheVariants as rewind
use Rattle.flow_core.specs.declared.refusal.CommitRefusal.{CommitRefusal}
use Rattle.flow_core.specs.declared.refusal.CommitRefusal.TheVariants as commit
use Rattle.flow_core.specs.Run.{Run}
use Rattle.flow_core.specs.Answers.{Takes, Performs, PostIsRefused, PostsDone, PostsFailed, Rewinds, Commits, next_claim}
use Rattle.flow_core.specs.Ask.{AnswersBy, Answers, ComesOf, GrowsAtMost}

module _ (r after : Run) where
  pub takes_grow : (leaf by : ℕ) (a : Result Call TakeRefusal) → Takes r leaf by a after → GrowsAtMost r (ask.Take leaf) by after
  takes_grow leaf by (Ok call) h = inr (Took (next_claim r) leaf, refl, h.3)
  takes_grow leaf by (Err refusal) h = inl h.1

  pub performs_grow : (leaf by : ℕ) (a : Result (Unit {0}) DoRefusal) → Performs r leaf by a after → GrowsAtMost r (ask.Do leaf) by after
  performs_grow leaf by (Ok _) h = inr (Did leaf, refl, h.4)
  performs_grow leaf by (Err perform.Closed) h = inl h.1
  performs_grow leaf by (Err perform.NoLeaf) h = inl h.2
  performs_grow leaf by (Err perform.WrongKind) h = inl h.2
  performs_grow leaf by (Err (perform.Spent limit)) h = inl h.3
  performs_grow leaf by (Err perform.NotEnabled) h = inl h.4
  performs_grow leaf by (Err perform.TestFalse) h = inl h.4

  pub refused_grow : (what : Ask) (claim by : ℕ) (refusal : PostRefusal) → ComesOf what (Late claim) → PostIsRefused r claim by refusal after → GrowsAtMost r what by after
  refused_grow what claim by post.Closed comes h = inl h.1
  refused_grow what claim by post.NoClaim comes h = inl h.2
  refused_grow what claim by post.Answered comes h = inl h.2
  refused_grow what claim by (post.Spent limit) comes h = inl h.3
  refused_grow what claim by (post.Late of now) comes h = inr (Late claim, comes, h.4)

  pub done_grow : (claim by : ℕ) (a : Result (Unit {0}) PostRefusal) → PostsDone r claim by a after → GrowsAtMost r (ask.Done claim) by after
  done_grow claim by (Ok _) h = inr (Done claim, refl, h.3)
  done_grow claim by (Err refusal) h = refused_grow (ask.Done claim) claim by refusal refl h

  pub failed_grow : (claim by : ℕ) (a : Result FailEffect PostRefusal) → PostsFailed r claim by a after → GrowsAtMost r (ask.Fail claim) by after
  failed_grow claim by (Ok effect) h = inr (Failed claim effect, refl, h.4)
  failed_grow claim by (Err refusal) h = refused_grow (ask.Fail claim) claim by refusal refl h

  pub rewinds_grow : (by : ℕ) (a : Result ℕ RewindRefusal) → Rewinds r by a after → GrowsAtMost r ask.Rewind by after
  rewinds_grow by (Ok index) h = inr (Rewound index, tt, h.3)
  rewinds_grow by (Err rewind.Closed) h = inl h.1
  rewinds_grow by (Err (rewind.Spent limit)) h = inl h.2
  rewinds_grow by (Err rewind.NoChoice) h = inl h.3

  pub commits_grow : (by : ℕ) (a : Result (Unit {0}) CommitRefusal) → Commits r by a after → GrowsAtMost r ask.Commit by after
  commits_grow by (Ok _) h = inr (Committed, tt, h.4)
  commits_grow by (Err commit.Closed) h = inl h.1
  commits_grow by (Err (commit.Spent limit)) h = inl h.2
  commits_grow by (Err (commit.ClaimsOut claim)) h = inl h.3
  commits_grow by (Err commit.Unfinished) h = inl h.4

  by_grows : {A R : Type 0} (what : Ask) (by : ℕ) (Table : Result A R → Run → Type 0) (made_of : A → Made) (refusal_of : R → Refusal) (a : Result Made Refusal) →
      ((came : Result A R) → Table came after → GrowsAtMost r what by after) → AnswersBy Table made_of refusal_of a after → GrowsAtMost r what by after
  by_grows what by Table made_of refusal_of (Ok made) grows (came, h, is) = grows (Ok came) h
  by_grows what by Table made_of refusal_of (Err refusal) grows (why, h, is) = grows (Err why) h

  pub answers_grow : (what : Ask) (by : ℕ) (a : Result Made Refusal) → Answers r what by a after → GrowsAtMost r what by after
  answers_grow (ask.Take leaf) by a h = by_grows (ask.Take leaf) by (Takes r leaf by) _ _ a (takes_grow leaf by) h
  answers_grow (ask.Do leaf) by a h = by_grows (ask.Do leaf) by (Performs r leaf by) _ _ a (performs_grow leaf by) h
  answers_grow (ask.Done claim) by a h = by_grows (ask.Done claim) by (PostsDone r claim by) _ _ a (done_grow claim by) h
  answers_grow (ask.Fail claim) by a h = by_grows (ask.Fail claim) by (PostsFailed r claim by) _ _ a (failed_grow claim by) h
  answers_grow ask.Rewind by a h = by_grows ask.Rewind by (Rewinds r by) _ _ a (rewinds_grow by) h
  answers_grow ask.Commit by a h = by_grows ask.Commit by (Commits r by) _ _ a (commits_grow by) h

-- the workflow and the limit are the same
abbrev pub SameRun : Run → Run → Type 0
SameRun r after = (after.definition ≡ r.definition) × (after.limit ≡ r.limit)

pub grown_same : (r after : Run) (what : Ask) (by : ℕ) → GrowsAtMost r what by after → SameRun r after
grown_same r after what by (inl e) = (ap (λ (a : Run). a.definition) e, ap (λ (a : Run). a.limit) e)
grown_same r after what by (inr (step, comes, e)) = (ap (λ (a : Run). a.definition) e, ap (λ (a : Run). a.limit) e)

pub answers_same : (r after : Run) (what : Ask) (by : ℕ) (a : Result Made Refusal) → Answers r what by a after → SameRun r after
answers_same r after what by a h = grown_same r after what by (answers_grow r after what by a h)
