-- Each ask at a desk has one answer, and leaves one run under the same policy.
use Rattle.std.proofs.Common.{◌≡◌, ◌∙◌, ℕ, false, Result, Ok, Err, ◌⊎◌, inl, inr, IsSomeAnd, le_antisymm, refl, sym, ap, subst}
use Rattle.flow_model.specs.declared.history.Call.{Call}
use Rattle.flow_model.specs.declared.history.FailEffect.{FailEffect}
use Rattle.flow_model.specs.declared.history.Step.TheVariants.{Took}
use Rattle.flow_model.specs.Run.{Claim}
use Rattle.flow_model.specs.Verdict.{call_of}
use Rattle.flow_model.proofs.MadeLists.{some_same}
use Rattle.flow_core.specs.declared.refusal.TakeRefusal.{TakeRefusal}
use Rattle.flow_core.specs.declared.refusal.PostRefusal.{PostRefusal}
use Rattle.flow_core.specs.declared.refusal.PostRefusal.TheVariants as post
use Rattle.flow_core.specs.Run.{Run, schema, now, with_entry}
use Rattle.flow_core.specs.Answers.{next_claim, TakeIsRefused, Performs, PostIsRefused, PostsDone, PostsFailed, Rewinds, Commits}
use Rattle.flow_core.specs.Holding.{IsTakeable, MayPost}
use Rattle.flow_core.proofs.SingleLemmas.{not_over, not_both, takes_once, performs_once, posts_done_once, posts_failed_once, rewinds_once, commits_once, by_once}
use Rattle.flow_roles.specs.declared.refusal.Denied.{Denied}
use Rattle.flow_roles.specs.declared.refusal.Denied.TheVariants.{Role, Separate, Bind, Holder}
use Rattle.flow_roles.specs.declared.refusal.DutyRefusal.{DutyRefusal}
use Rattle.flow_roles.specs.declared.refusal.DutyRefusal.TheVariants as duty
use Rattle.flow_roles.specs.Desked.{Desked}
use Rattle.flow_roles.specs.Answers.{IsLeftTo, IsDenied, WithPolicy, IsHolder, DeskPostIsRefused, DeskPostsDone, DeskPostsFailed}
use Rattle.flow_roles.specs.Single.{IsSingleAtDesk, DeskTakesAreSingle, DeskPostsAreSingle, DeskOthersAreSingle, DeskAnswersAreSingle}
use Rattle.flow_roles.specs.Ask.{of_duty}
use Rattle.flow_ask.specs.declared.ask.Ask.TheVariants as ask
use Rattle.flow_ask.specs.declared.made.Made.TheVariants as made
use Rattle.flow_core.specs.Ask.{of_take, of_do, of_post, of_rewind, of_commit}

-- What the run answers, under the policy that stays

-- a run and a policy make one desk
pub same_desk : (after other : Desked) → after.run ≡ other.run → after.assigned ≡ other.assigned → after ≡ other
same_desk after other runs policies = λ i. record { run = runs i; assigned = policies i }

pub with_policy_once : {A : Type 0} (Answers : A → Run → Type 0) → ((a b : A) (r s : Run) → Answers a r → Answers b s → (a ≡ b) × (r ≡ s)) → (d : Desked) →
    IsSingleAtDesk (λ a after. WithPolicy (Answers a) d after)
with_policy_once Answers once d a b after other h k =
    let both = once a b after.run other.run h.0 k.0 in
    (both.0, same_desk after other both.1 (h.1 ∙ sym k.1))

-- one answer tells one thing

same_value : {A E : Type 0} (a b : A) (told : Result A E) → told ≡ Ok a → told ≡ Ok b → a ≡ b
same_value a b told h k = cc

same_error : {A E : Type 0} (a b : E) (told : Result A E) → told ≡ Err a → told ≡ Err b → a ≡ b
same_error a b told h k = cc

not_both_told : {A E : Type 0} (a : A) (b : E) (told : Result A E) → told ≡ Ok a → told ≡ Err b → ⊥
not_both_told a b told h k = cc

-- Takes

not_refused : (r : Run) (leaf : ℕ) (refusal : TakeRefusal) → TakeIsRefused r leaf refusal → IsTakeable r leaf → ⊥
not_refused r leaf refusal h t =
    let after = with_entry r 0 (Took (next_claim r) leaf) in
    let call = call_of (schema r) (now after) (next_claim r) in
    let both = takes_once r leaf 0 (Err refusal) (Ok call) r after (h, refl) (t.0, t.1, t.2, refl, refl) in
    not_both_told call refusal (Ok call) refl (sym both.0)

denied_once : (d : Desked) (by event : ℕ) (a b : Denied) → IsDenied d by event a → IsDenied d by event b → a ≡ b
denied_once d by event Role Role h k = refl
denied_once d by event Role (Separate j) h k = absurd (h k.0)
denied_once d by event Role (Bind j) h k = absurd (h k.0)
denied_once d by event Role (Holder c) h k = absurd k
denied_once d by event (Separate i) Role h k = absurd (k h.0)
denied_once d by event (Separate i) (Separate j) h k = ap Separate (le_antisymm (h.1.1 j k.1.0) (k.1.1 i h.1.0))
denied_once d by event (Separate i) (Bind j) h k = absurd (k.1 i h.1.0)
denied_once d by event (Separate i) (Holder c) h k = absurd k
denied_once d by event (Bind i) Role h k = absurd (k h.0)
denied_once d by event (Bind i) (Separate j) h k = absurd (h.1 j k.1.0)
denied_once d by event (Bind i) (Bind j) h k = ap Bind (le_antisymm (h.2.1 j k.2.0) (k.2.1 i h.2.0))
denied_once d by event (Bind i) (Holder c) h k = absurd k
denied_once d by event (Holder c) b h k = absurd h

pub denied_or_left : (d : Desked) (by event : ℕ) (a : Denied) → IsDenied d by event a → IsLeftTo d by event → ⊥
denied_or_left d by event Role h left = h left.role
denied_or_left d by event (Separate i) h left = left.apart i h.1.0
denied_or_left d by event (Bind i) h left = left.together i h.2.0
denied_or_left d by event (Holder c) h left = h

pub takes_at_desk : DeskTakesAreSingle
takes_at_desk d leaf by (Err (duty.Core a)) (Err (duty.Core b)) after other h k =
    let both = takes_once d.run leaf by (Err a) (Err b) d.run d.run (h.0, refl) (k.0, refl) in
    (ap (λ (x : TakeRefusal). Err (duty.Core x)) (same_error a b (Err a) refl both.0), h.1 ∙ sym k.1)
takes_at_desk d leaf by (Err (duty.Core a)) (Err (duty.Denied b)) after other h k = absurd (not_refused d.run leaf a h.0 k.0)
takes_at_desk d leaf by (Err (duty.Core a)) (Ok b) after other h k = absurd (not_refused d.run leaf a h.0 (k.1.0.0, k.1.0.1, k.1.0.2))
takes_at_desk d leaf by (Err (duty.Denied a)) (Err (duty.Core b)) after other h k = absurd (not_refused d.run leaf b k.0 h.0)
takes_at_desk d leaf by (Err (duty.Denied a)) (Err (duty.Denied b)) after other h k =
    let (event, at, x) = h.1 in
    let (event', at', y) = k.1 in
    let one : event' ≡ event = some_same event' event (sym at' ∙ at) in
    (ap (λ (z : Denied). Err (duty.Denied z)) (denied_once d by event a b x (subst (λ (e : ℕ). IsDenied d by e b) one y)), h.2 ∙ sym k.2)
takes_at_desk d leaf by (Err (duty.Denied a)) (Ok b) after other h k =
    let (event, at, x) = h.1 in
    let (event', at', y) = k.0 in
    let one : event' ≡ event = some_same event' event (sym at' ∙ at) in
    absurd (denied_or_left d by event a x (subst (λ (e : ℕ). IsLeftTo d by e) one y))
takes_at_desk d leaf by (Ok a) (Err (duty.Core b)) after other h k = absurd (not_refused d.run leaf b k.0 (h.1.0.0, h.1.0.1, h.1.0.2))
takes_at_desk d leaf by (Ok a) (Err (duty.Denied b)) after other h k =
    let (event, at, x) = k.1 in
    let (event', at', y) = h.0 in
    let one : event' ≡ event = some_same event' event (sym at' ∙ at) in
    absurd (denied_or_left d by event b x (subst (λ (e : ℕ). IsLeftTo d by e) one y))
takes_at_desk d leaf by (Ok a) (Ok b) after other h k =
    let both = takes_once d.run leaf by (Ok a) (Ok b) after.run other.run h.1.0 k.1.0 in
    (ap (λ (x : Call). Ok x) (same_value a b (Ok a) refl both.0), same_desk after other both.1 (h.1.1 ∙ sym k.1.1))

-- Results

-- an answer of the run as one of the desk
abbrev pub at_desk : {A : Type 0} → Result A PostRefusal → Result A (DutyRefusal PostRefusal)
at_desk (Ok x) = Ok x
at_desk (Err refusal) = Err (duty.Core refusal)

-- the run answers, and where a result may be posted at all the user took the claim
pub record IsOfRun {A : Type 0} (Posts : Result A PostRefusal → Run → Type 0) (d : Desked) (claim by : ℕ) (a : Result A (DutyRefusal PostRefusal)) (after : Desked) : Type 0 where
  pub told : Result A PostRefusal
  pub answer_is : a ≡ at_desk told
  pub posted : WithPolicy (Posts told) d after
  pub holder : MayPost d.run claim → IsHolder d claim by

-- another took the claim
pub record IsHeld {A : Type 0} (d : Desked) (claim by : ℕ) (a : Result A (DutyRefusal PostRefusal)) (after : Desked) : Type 0 where
  pub answer_is : a ≡ Err (duty.Denied (Holder claim))
  pub may : MayPost d.run claim
  pub another : ¬ (IsHolder d claim by)
  pub stays : after ≡ d

abbrev pub IsPosted : {A : Type 0} → (Result A PostRefusal → Run → Type 0) → Desked → ℕ → ℕ → Result A (DutyRefusal PostRefusal) → Desked → Type 0
IsPosted Posts d claim by a after = IsOfRun Posts d claim by a after ⊎ IsHeld d claim by a after

posted_once : {A : Type 0} (Posts : Result A PostRefusal → Run → Type 0) → ((a b : Result A PostRefusal) (r s : Run) → Posts a r → Posts b s → (a ≡ b) × (r ≡ s)) →
    (d : Desked) (claim by : ℕ) → IsSingleAtDesk (IsPosted Posts d claim by)
posted_once Posts once d claim by a b after other (inl h) (inl k) =
    let both = once h.told k.told after.run other.run h.posted.0 k.posted.0 in
    (h.answer_is ∙ ap at_desk both.0 ∙ sym k.answer_is, same_desk after other both.1 (h.posted.1 ∙ sym k.posted.1))
posted_once Posts once d claim by a b after other (inl h) (inr k) = absurd (k.another (h.holder k.may))
posted_once Posts once d claim by a b after other (inr h) (inl k) = absurd (h.another (k.holder h.may))
posted_once Posts once d claim by a b after other (inr h) (inr k) = (h.answer_is ∙ sym k.answer_is, h.stays ∙ sym k.stays)

module _ {A : Type 0} (Posts : Result A PostRefusal → Run → Type 0) (d : Desked) (claim by : ℕ)
    (of_run : (refusal : PostRefusal) (after : Run) → PostIsRefused d.run claim by refusal after → Posts (Err refusal) after) where
  told_by_run : (refusal : PostRefusal) (after : Desked) → WithPolicy (PostIsRefused d.run claim by refusal) d after → (MayPost d.run claim → IsHolder d claim by) →
      IsPosted Posts d claim by (Err (duty.Core refusal)) after
  told_by_run refusal after h holder = inl (record { told = Err refusal; answer_is = refl; posted = (of_run refusal after.run h.0, h.1); holder = holder })

  refused_posted : (refusal : DutyRefusal PostRefusal) (after : Desked) → DeskPostIsRefused d claim by refusal after → IsPosted Posts d claim by (Err refusal) after
  refused_posted (duty.Core post.Closed) after h = told_by_run post.Closed after h (λ may. absurd (not_over d.run h.0.0 may.0))
  refused_posted (duty.Core post.NoClaim) after h =
      told_by_run post.NoClaim after h (λ may. absurd (subst (λ o. IsSomeAnd o (λ (c : Claim). c.answered ≡ false)) h.0.1 may.1))
  refused_posted (duty.Core post.Answered) after h = told_by_run post.Answered after h (λ may. absurd (not_both (now d.run) claim h.0.1 may.1))
  refused_posted (duty.Core (post.Spent limit)) after h = told_by_run (post.Spent limit) after h (λ may. absurd (h.0.2.0 may.2))
  refused_posted (duty.Core (post.Late of at)) after h = told_by_run (post.Late of at) after h.1 (λ may. h.0)
  refused_posted (duty.Denied (Holder number)) after h =
      inr (record { answer_is = ap (λ (n : ℕ). Err (duty.Denied (Holder n))) h.0; may = h.1; another = h.2; stays = h.3 })
  refused_posted (duty.Denied Role) after h = absurd h
  refused_posted (duty.Denied (Separate i)) after h = absurd h
  refused_posted (duty.Denied (Bind i)) after h = absurd h

done_at_desk : (d : Desked) (claim by : ℕ) (a : Result (Unit {0}) (DutyRefusal PostRefusal)) (after : Desked) → DeskPostsDone d claim by a after →
    IsPosted (PostsDone d.run claim by) d claim by a after
done_at_desk d claim by (Err refusal) after h = refused_posted (PostsDone d.run claim by) d claim by (λ x r p. p) refusal after h
done_at_desk d claim by (Ok x) after h = inl (record { told = Ok x; answer_is = refl; posted = h.1; holder = λ may. h.0 })

failed_at_desk : (d : Desked) (claim by : ℕ) (a : Result FailEffect (DutyRefusal PostRefusal)) (after : Desked) → DeskPostsFailed d claim by a after →
    IsPosted (PostsFailed d.run claim by) d claim by a after
failed_at_desk d claim by (Err refusal) after h = refused_posted (PostsFailed d.run claim by) d claim by (λ x r p. p) refusal after h
failed_at_desk d claim by (Ok effect) after h = inl (record { told = Ok effect; answer_is = refl; posted = h.1; holder = λ may. h.0 })

pub posts_at_desk : DeskPostsAreSingle
posts_at_desk d claim by = (
  (λ a b after other h k. posted_once (PostsDone d.run claim by) (posts_done_once d.run claim by) d claim by a b after other (done_at_desk d claim by a after h) (done_at_desk d claim by b other k)),
  (λ a b after other h k. posted_once (PostsFailed d.run claim by) (posts_failed_once d.run claim by) d claim by a b after other (failed_at_desk d claim by a after h) (failed_at_desk d claim by b other k)),
)

pub others_at_desk : DeskOthersAreSingle
others_at_desk d leaf by = (
  with_policy_once (Performs d.run leaf by) (performs_once d.run leaf by) d,
  with_policy_once (Rewinds d.run by) (rewinds_once d.run by) d,
  with_policy_once (Commits d.run by) (commits_once d.run by) d,
)

pub answers_at_desk : DeskAnswersAreSingle
answers_at_desk d (ask.Take leaf) by = by_once _ made.Claim (of_duty of_take) (takes_at_desk d leaf by)
answers_at_desk d (ask.Do leaf) by = by_once _ (λ _. made.Did) of_do (others_at_desk d leaf by).0
answers_at_desk d (ask.Done claim) by = by_once _ (λ _. made.Done) (of_duty of_post) (posts_at_desk d claim by).0
answers_at_desk d (ask.Fail claim) by = by_once _ made.Failed (of_duty of_post) (posts_at_desk d claim by).1
answers_at_desk d ask.Rewind by = by_once _ made.Rewound of_rewind (others_at_desk d 0 by).1
answers_at_desk d ask.Commit by = by_once _ (λ _. made.Committed) of_commit (others_at_desk d 0 by).2
