-- An entry is made where it may be, and by an ask: what the run answers tells which.
use Rattle.std.proofs.Common.{◌≡◌, ◌∙◌, ℕ, Bool, true, false, Result, Ok, Err, Option, None, Some, MatchOption, not, nat_eq, IsTrue, ◌↔◌, le_antisymm, refl, sym, ap, subst, true≢false}
use Rattle.std.specs.Option.{option_eq}
use Rattle.std.specs.Result.{is_ok}
use Rattle.std.proofs.lemmas.Bool.{eqb-true, eq-eqb}
use Rattle.flow_model.specs.declared.history.Call.{Call}
use Rattle.flow_model.specs.declared.history.FailEffect.{FailEffect}
use Rattle.flow_model.specs.declared.history.FailEffect.TheVariants.{Switched, Kept}
use Rattle.flow_model.specs.declared.history.Step.TheVariants.{Took, Done, Failed, Did, Rewound, Committed}
use Rattle.flow_model.specs.Run.{IsAllowed, IsCurrent, IsOpen, IsOpenIndex}
use Rattle.flow_model.specs.Lists.{◌∈◌}
use Rattle.flow_model.specs.Verdict.{call_of}
use Rattle.flow_laws.proofs.ClaimLemmas.{leaf_of_claim_is}
use Rattle.flow_residual.specs.declared.given.Given.{Given}
use Rattle.flow_residual.specs.Remaining.{IsAvoidable}
use Rattle.flow_core.specs.declared.refusal.TakeRefusal.{TakeRefusal}
use Rattle.flow_core.specs.declared.refusal.DoRefusal.{DoRefusal}
use Rattle.flow_core.specs.declared.refusal.DoRefusal.TheVariants as perform
use Rattle.flow_core.specs.declared.refusal.PostRefusal.{PostRefusal}
use Rattle.flow_core.specs.declared.refusal.PostRefusal.TheVariants as post
use Rattle.flow_core.specs.declared.refusal.RewindRefusal.{RewindRefusal}
use Rattle.flow_core.specs.declared.refusal.RewindRefusal.TheVariants as rewind
use Rattle.flow_core.specs.declared.refusal.CommitRefusal.{CommitRefusal}
use Rattle.flow_core.specs.declared.refusal.CommitRefusal.TheVariants as commit
use Rattle.flow_core.specs.Run.{Run, schema, now, with_entry}
use Rattle.flow_core.specs.Answers.{next_claim, Takes, Performs, PostIsRefused, HasEffect, PostsDone, PostsFailed, Rewinds, Commits}
use Rattle.flow_core.specs.Claim.{IsGiven}
use Rattle.flow_core.specs.Make.{Makes}
use Rattle.flow_core.proofs.GivenClaims.{claim_needed}
use Rattle.flow_core.proofs.SingleLemmas.{late_current, takes_once, performs_once, posts_done_once, posts_failed_once, rewinds_once, commits_once}

-- what is refused is not made as well
not_both : {A R : Type 0} (why : R) (came : A) {P : Type 0} → ◌≡◌ {A = Result A R} (Err why) (Ok came) × P → ⊥
not_both {A} {R} why came same = true≢false (sym (ap (λ (a : Result A R). is_ok a) same.0))

module _ (r after : Run) (by : ℕ) where
  pub taken : (claim leaf : ℕ) (a : Result Call TakeRefusal) → claim ≡ next_claim r → Takes r leaf by a after → Makes r by (Took claim leaf) (is_ok a) after
  taken claim leaf (Ok call) is (going, room, can, grown, called) =
      (record { going = going; room = room; allowed = (is, can) }, grown ∙ ap (λ n. with_entry r by (Took n leaf)) (sym is))
  taken claim leaf (Err why) is refused =
      let given : Run = with_entry r by (Took (next_claim r) leaf) in
      let call : Call = call_of (schema r) (now given) (next_claim r) in
      (λ can. not_both why call (takes_once r leaf by (Err why) (Ok call) after given refused (can.going, can.room, can.allowed.1, refl, refl)), refused.1)

  performs_stay : (leaf : ℕ) (why : DoRefusal) → Performs r leaf by (Err why) after → after ≡ r
  performs_stay leaf perform.Closed h = h.1
  performs_stay leaf perform.NoLeaf h = h.2
  performs_stay leaf perform.WrongKind h = h.2
  performs_stay leaf (perform.Spent limit) h = h.3
  performs_stay leaf perform.NotEnabled h = h.4
  performs_stay leaf perform.TestFalse h = h.4

  pub performed : (leaf : ℕ) (a : Result (Unit {0}) DoRefusal) → Performs r leaf by a after → Makes r by (Did leaf) (is_ok a) after
  performed leaf (Ok x) (going, room, can, holds, grown) = (record { going = going; room = room; allowed = (can, holds) }, grown)
  performed leaf (Err why) refused = (
    (λ can. not_both why tt (performs_once r leaf by (Err why) (Ok tt) after (with_entry r by (Did leaf)) refused (can.going, can.room, can.allowed.0, can.allowed.1, refl))),
    performs_stay leaf why refused,
  )

  posts_stay : (claim : ℕ) (why : PostRefusal) → IsCurrent (now r) claim → PostIsRefused r claim by why after → after ≡ r
  posts_stay claim post.Closed current h = h.1
  posts_stay claim post.NoClaim current h = h.2
  posts_stay claim post.Answered current h = h.2
  posts_stay claim (post.Spent limit) current h = h.3
  posts_stay claim (post.Late of at) current h = absurd (late_current (now r) claim of h.2 current)

  pub posted_done : (claim : ℕ) (a : Result (Unit {0}) PostRefusal) → IsCurrent (now r) claim → PostsDone r claim by a after → Makes r by (Done claim) (is_ok a) after
  posted_done claim (Ok x) current (going, room, is, grown) = (record { going = going; room = room; allowed = current }, grown)
  posted_done claim (Err why) current refused = (
    (λ can. not_both why tt (posts_done_once r claim by (Err why) (Ok tt) after (with_entry r by (Done claim)) refused (can.going, can.room, current, refl))),
    posts_stay claim why current refused,
  )

  allowed_failure : (claim : ℕ) (effect : FailEffect) → IsCurrent (now r) claim → HasEffect r claim effect → IsAllowed (schema r) (now r) (Failed claim effect)
  allowed_failure claim Switched current has = (current, has)
  allowed_failure claim Kept current has = (current, has)

  pub posted_failed : (claim : ℕ) (effect : FailEffect) (a : Result FailEffect PostRefusal) → IsCurrent (now r) claim → HasEffect r claim effect →
      PostsFailed r claim by a after → Makes r by (Failed claim effect) (is_ok a) after
  posted_failed claim effect (Ok told) current has failed =
      let same = posts_failed_once r claim by (Ok told) (Ok effect) after (with_entry r by (Failed claim effect)) failed (failed.0, failed.1, current, has, refl) in
      (record { going = failed.0; room = failed.1; allowed = allowed_failure claim effect current has }, same.1)
  posted_failed claim effect (Err why) current has refused = (
    (λ can. not_both why effect (posts_failed_once r claim by (Err why) (Ok effect) after (with_entry r by (Failed claim effect)) refused (can.going, can.room, current, has, refl))),
    posts_stay claim why current refused,
  )

  rewinds_stay : (why : RewindRefusal) → Rewinds r by (Err why) after → after ≡ r
  rewinds_stay rewind.Closed h = h.1
  rewinds_stay (rewind.Spent limit) h = h.2
  rewinds_stay rewind.NoChoice h = h.3

  pub rewound : (index : ℕ) (a : Result ℕ RewindRefusal) → IsOpenIndex (schema r) (now r) index → Rewinds r by a after → Makes r by (Rewound index) (is_ok a) after
  rewound index (Ok told) last back =
      let same = rewinds_once r by (Ok told) (Ok index) after (with_entry r by (Rewound index)) back (back.0, back.1, last, refl) in
      (record { going = back.0; room = back.1; allowed = last }, same.1)
  rewound index (Err why) last refused = (
    (λ can. not_both why index (rewinds_once r by (Err why) (Ok index) after (with_entry r by (Rewound index)) refused (can.going, can.room, last, refl))),
    rewinds_stay why refused,
  )

  commits_stay : (why : CommitRefusal) → Commits r by (Err why) after → after ≡ r
  commits_stay commit.Closed h = h.1
  commits_stay (commit.Spent limit) h = h.2
  commits_stay (commit.ClaimsOut claim) h = h.3
  commits_stay commit.Unfinished h = h.4

  pub ended : (a : Result (Unit {0}) CommitRefusal) → Commits r by a after → Makes r by Committed (is_ok a) after
  ended (Ok x) (going, room, none, good, grown) = (record { going = going; room = room; allowed = (none, good) }, grown)
  ended (Err why) refused = (
    (λ can. not_both why tt (commits_once r by (Err why) (Ok tt) after (with_entry r by Committed) refused (can.going, can.room, can.allowed.0, can.allowed.1, refl))),
    commits_stay why refused,
  )

-- whether a place is the last open one, as a comparison tells it
pub is_last : (r : Run) (index : ℕ) (last : Option ℕ) (same : Bool) → MatchOption last ((i : ℕ) → ¬ (IsOpen (schema r) (now r) i)) (IsOpenIndex (schema r) (now r)) →
    same ≡ option_eq nat_eq last (Some index) → IsTrue same ↔ IsOpenIndex (schema r) (now r) index
is_last r index None same none told = (λ yes. absurd (true≢false (sym yes ∙ told)), λ here. absurd (none index here.0))
is_last r index (Some last) same is told = (
  (λ yes. subst (IsOpenIndex (schema r) (now r)) (eqb-true last index (sym told ∙ yes)) is),
  (λ here. told ∙ eq-eqb last index (le_antisymm (here.1 last is.0) (is.1 index here.0))),
)

-- a current claim's failure is kept exactly where no execution avoids its leaf
pub kept_where : (r : Run) (claim : ℕ) (given : Given) (avoids : Bool) → IsCurrent (now r) claim × IsGiven r claim given →
    IsTrue avoids ↔ IsAvoidable (schema r) (now r) given.leaf → IsTrue (not avoids) ↔ (IsCurrent (now r) claim × HasEffect r claim Kept)
kept_where r claim given false (current, is) says =
    (λ yes. (current, claim_needed (schema r) (now r) claim given.leaf false (leaf_of_claim_is (now r) claim _ is.claim) says refl), λ has. refl)
kept_where r claim given true (current, is) says = (
  (λ no. absurd (true≢false (sym no))),
  (λ has.
      let (t, free, lacks) = says.0 refl in
      absurd (lacks (subst (λ (n : ℕ). n ∈ t) (leaf_of_claim_is (now r) claim _ is.claim) (has.1 t free)))),
)
