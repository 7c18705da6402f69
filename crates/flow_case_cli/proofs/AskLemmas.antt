-- A case that is asked: what its trail and its kept run answer and leave.
use Rattle.std.proofs.Common.{◌≡◌, ◌⊎◌, inl, inr, ℕ, ◌+◌, Bool, true, false, List, [], ◌∷◌, ◌++◌, length, get_or, refl, sym, ◌∙◌, ap, subst, length-append, Option, Some, Result, Ok, Err, arith}
use Rattle.std.specs.Prelude.{slice_get}
use Rattle.flow_model.specs.declared.history.Entry.{Entry}
use Rattle.flow_ask.specs.declared.ask.Ask.{Ask}
use Rattle.flow_ask.specs.declared.made.Made.{Made}
use Rattle.flow_ask.specs.declared.refusal.Refusal.{Refusal}
use Rattle.flow_core.specs.Run.{Run, with_entry}
use Rattle.flow_core.specs.Ask.{Answers, AnswersBy, ComesOf, HasOneMore, GrowsAtMost, of_take, of_do, of_post, of_rewind, of_commit}
use Rattle.flow_case.specs.declared.case_run.CaseRun.{CaseRun}
use Rattle.flow_case.specs.declared.case_run.CaseRun.TheVariants.{Free, UnderPolicy}
use Rattle.flow_case.specs.CaseRun.{run_of, case_with, CaseAnswers}
use Rattle.flow_case.specs.Ruled.{Ruled}
use Rattle.flow_core.proofs.SingleLemmas.{answers_once}
use Rattle.flow_model.specs.declared.history.Call.{Call}
use Rattle.flow_model.specs.declared.history.FailEffect.{FailEffect}
use Rattle.flow_ask.specs.declared.ask.Ask.TheVariants as ask
use Rattle.flow_ask.specs.declared.made.Made.TheVariants as made
use Rattle.flow_core.specs.declared.refusal.TakeRefusal.{TakeRefusal}
use Rattle.flow_core.specs.declared.refusal.PostRefusal.{PostRefusal}
use Rattle.flow_core.specs.declared.refusal.PostRefusal.TheVariants as post
use Rattle.flow_core.specs.Answers.{Takes, Performs, PostIsRefused, PostsDone, PostsFailed, Rewinds, Commits}
use Rattle.flow_roles.specs.declared.refusal.Denied.TheVariants as denied
use Rattle.flow_roles.specs.declared.refusal.DutyRefusal.{DutyRefusal}
use Rattle.flow_roles.specs.declared.refusal.DutyRefusal.TheVariants as duty
use Rattle.flow_roles.specs.Desked.{Desked}
use Rattle.flow_roles.specs.Answers.{DeskTakes, DeskPostIsRefused, DeskPostsDone, DeskPostsFailed, DeskPerforms, DeskRewinds, DeskCommits}
use Rattle.flow_roles.specs.Ask.{DeskAnswers, of_duty}
use Rattle.flow_keep.specs.Records.{Keeps}
use Rattle.flow_keep.specs.Kept.{IsKept, KeepsEither}
use Rattle.flow_keep.specs.Answered.{KeepAnswers, LeavesKept}
use Rattle.flow_keep.proofs.MomentLemmas.{started}
use Rattle.flow_trail.specs.declared.line.TrailEnd.{TrailEnd}
use Rattle.flow_trail.specs.declared.line.About.{About}
use Rattle.flow_trail.specs.Lines.{Said, remark, AreInOrder, end_of, end_behind}
use Rattle.flow_trail.proofs.ReadLemmas.{end_append}
use Rattle.std.proofs.lemmas.Option.{get_or_from_slice_get}
use Rattle.flow_model.specs.declared.history.Step.{Step}
use Rattle.flow_workflow.specs.Definition.{Definition}
use Rattle.flow_case_cli.specs.declared.asker.Asker.{Asker}
use Rattle.flow_case_cli.specs.Line.{IsLeafOf, IsLineOf, TellsEntry}
use Rattle.flow_trail.specs.Kept.{HoldsLines}
use Rattle.flow_trail.proofs.TellLemmas.{nothing}
use Rattle.flow_case_cli.specs.Asked.{TellsLine}

-- a trail that is told nothing
pub untold : {T : Type 0} (tells : Type 0) (moment : T → ℕ) (image : T → ℕ → List ℕ → Type 0) (seen : T → List ℕ) (start : TrailEnd) (before : List Said) (said : Said) (place : ℕ) (disk : T) → AreInOrder start before →
    (tells → HoldsLines start before place (seen disk) (image disk (moment disk))) → TellsLine tells moment image start before said disk disk before true
untold tells moment image seen start before said place disk order held = record {
  any_moment = λ told. nothing moment image seen start before said place order disk (held told);
  told = λ whole. let never : true ≡ false = whole in cc;
  durable = λ told whole. let never : true ≡ false = whole in cc;
}

-- a kept run that is left alone
pub untouched : {D : Type 0} (tells : Type 0) (moment : D → ℕ) (image : D → ℕ → List ℕ → Type 0) (seen : D → List ℕ) (chosen : D → Option ℕ) (before after : Run) (disk : D) →
    (tells → IsKept before.history (seen disk) (image disk (moment disk))) → LeavesKept tells moment image seen chosen before after disk disk false true
untouched tells moment image seen chosen before after disk kept =
    let keeps = λ (told : tells) (c : List ℕ) (i : image disk (moment disk) c). subst (Keeps before.history) (sym ((kept told).settled.durable c i)) (kept told).keeps in
    record {
      same_file = refl;
      same_disk = λ same. refl;
      gains = λ told whole. let never : true ≡ false = whole in cc;
      any_moment = λ told whole. started moment image disk (KeepsEither before.history after.history) (λ c i. inl (keeps told c i));
      acknowledged = λ told whole. let never : true ≡ false = whole in cc;
      after_fault = λ told whole c i. inl (keeps told c i);
    }

-- ---- the kept run answers the same

-- a run with an entry more is another
pub grown : (r after : Run) (what : Ask) (by : ℕ) → HasOneMore r what by after → after ≡ r → ⊥
grown r after what by (step, comes, is) same =
    let entry : Entry = record { by = by; step = step } in
    let size : length r.history ≡ length r.history + 1 = ap (λ (x : Run). length x.history) (sym same ∙ is) ∙ length-append r.history (entry ∷ []) in
    absurd (omega (arith, size))

-- what a table of a run makes is an answer of it
made_of_table : {A R : Type 0} (Table : Result A R → Run → Type 0) (made_of : A → Made) (refusal_of : R → Refusal) (came : Result A R) (after : Run) → Table came after →
    (answer : Result Made Refusal) × AnswersBy Table made_of refusal_of answer after
made_of_table Table made_of refusal_of (Ok x) after h = (Ok (made_of x), (x, h, refl))
made_of_table Table made_of refusal_of (Err why) after h = (Err (refusal_of why), (why, h, refl))

-- from the table of a desk to that of its run
by_table : {A R S : Type 0} (Table : Result A R → Desked → Type 0) (Core : Result A S → Run → Type 0) (made_of : A → Made) (refusal_of : R → Refusal) (core_refusal_of : S → Refusal) (a : Result Made Refusal) (after : Desked) →
    ((came : Result A R) → Table came after → (core : Result A S) × Core core after.run) → AnswersBy Table made_of refusal_of a after →
    (answer : Result Made Refusal) × AnswersBy Core made_of core_refusal_of answer after.run
by_table Table Core made_of refusal_of core_refusal_of (Ok made) after turn (came, h, is) =
    let (core, k) = turn (Ok came) h in made_of_table Core made_of core_refusal_of core after.run k
by_table Table Core made_of refusal_of core_refusal_of (Err refusal) after turn (why, h, is) =
    let (core, k) = turn (Err why) h in made_of_table Core made_of core_refusal_of core after.run k

module _ (d after : Desked) where
  none : (what : Ask) (by : ℕ) → HasOneMore d.run what by after.run → after ≡ d → ⊥
  none what by more same = grown d.run after.run what by more (ap (λ (a : Desked). a.run) same)

  takes : (leaf by : ℕ) → HasOneMore d.run (ask.Take leaf) by after.run → (a : Result Call (DutyRefusal TakeRefusal)) → DeskTakes d leaf by a after → (core : Result Call TakeRefusal) × Takes d.run leaf by core after.run
  takes leaf by more (Err (duty.Core why)) h = absurd (none (ask.Take leaf) by more h.1)
  takes leaf by more (Err (duty.Denied why)) h = absurd (none (ask.Take leaf) by more h.2)
  takes leaf by more (Ok call) h = (Ok call, h.1.0)

  refused : (what : Ask) (claim by : ℕ) → HasOneMore d.run what by after.run → (why : DutyRefusal PostRefusal) → DeskPostIsRefused d claim by why after → (core : PostRefusal) × PostIsRefused d.run claim by core after.run
  refused what claim by more (duty.Core post.Closed) h = (post.Closed, h.0)
  refused what claim by more (duty.Core post.NoClaim) h = (post.NoClaim, h.0)
  refused what claim by more (duty.Core post.Answered) h = (post.Answered, h.0)
  refused what claim by more (duty.Core (post.Spent limit)) h = (post.Spent limit, h.0)
  refused what claim by more (duty.Core (post.Late of at)) h = (post.Late of at, h.1.0)
  refused what claim by more (duty.Denied (denied.Holder number)) h = absurd (none what by more h.3)
  refused what claim by more (duty.Denied denied.Role) h = absurd h
  refused what claim by more (duty.Denied (denied.Separate i)) h = absurd h
  refused what claim by more (duty.Denied (denied.Bind i)) h = absurd h

  posts_done : (claim by : ℕ) → HasOneMore d.run (ask.Done claim) by after.run → (a : Result (Unit {0}) (DutyRefusal PostRefusal)) → DeskPostsDone d claim by a after → (core : Result (Unit {0}) PostRefusal) × PostsDone d.run claim by core after.run
  posts_done claim by more (Err why) h = let (core, k) = refused (ask.Done claim) claim by more why h in (Err core, k)
  posts_done claim by more (Ok x) h = (Ok x, h.1.0)

  posts_failed : (claim by : ℕ) → HasOneMore d.run (ask.Fail claim) by after.run → (a : Result FailEffect (DutyRefusal PostRefusal)) → DeskPostsFailed d claim by a after → (core : Result FailEffect PostRefusal) × PostsFailed d.run claim by core after.run
  posts_failed claim by more (Err why) h = let (core, k) = refused (ask.Fail claim) claim by more why h in (Err core, k)
  posts_failed claim by more (Ok effect) h = (Ok effect, h.1.0)

  pub desk_core : (what : Ask) (by : ℕ) (a : Result Made Refusal) → DeskAnswers d what by a after → HasOneMore d.run what by after.run → (answer : Result Made Refusal) × Answers d.run what by answer after.run
  desk_core (ask.Take leaf) by a h more = by_table (DeskTakes d leaf by) (Takes d.run leaf by) made.Claim (of_duty of_take) of_take a after (takes leaf by more) h
  desk_core (ask.Do leaf) by a h more = by_table (DeskPerforms d leaf by) (Performs d.run leaf by) (λ _. made.Did) of_do of_do a after (λ came k. (came, k.0)) h
  desk_core (ask.Done claim) by a h more = by_table (DeskPostsDone d claim by) (PostsDone d.run claim by) (λ _. made.Done) (of_duty of_post) of_post a after (posts_done claim by more) h
  desk_core (ask.Fail claim) by a h more = by_table (DeskPostsFailed d claim by) (PostsFailed d.run claim by) made.Failed (of_duty of_post) of_post a after (posts_failed claim by more) h
  desk_core ask.Rewind by a h more = by_table (DeskRewinds d by) (Rewinds d.run by) made.Rewound of_rewind of_rewind a after (λ came k. (came, k.0)) h
  desk_core ask.Commit by a h more = by_table (DeskCommits d by) (Commits d.run by) (λ _. made.Committed) of_commit of_commit a after (λ came k. (came, k.0)) h

pub case_core : (c after : CaseRun) (what : Ask) (by : ℕ) (a : Result Made Refusal) → CaseAnswers c what by a after → HasOneMore (run_of c) what by (run_of after) → (answer : Result Made Refusal) × Answers (run_of c) what by answer (run_of after)
case_core (Free r) (Free after) what by a h more = (a, h)
case_core (Free r) (UnderPolicy after) what by a h more = absurd h
case_core (UnderPolicy c) (Free after) what by a h more = absurd h
case_core (UnderPolicy c) (UnderPolicy after) what by a (inl (rule, barred, is, same)) more = absurd (grown c.desk.run after.desk.run what by more (ap (λ (x : Ruled). x.desk.run) same))
case_core (UnderPolicy c) (UnderPolicy after) what by a (inr (free, h, rules)) more = desk_core c.desk after.desk what by a h more

-- what came of an ask of a case may come of an ask of its run
pub comes : (k : Run) (c after : CaseRun) (what : Ask) (by : ℕ) (a : Result Made Refusal) → k ≡ run_of c → CaseAnswers c what by a after → GrowsAtMost (run_of c) what by (run_of after) →
    (run_of after ≡ k) ⊎ (((answer : Result Made Refusal) × Answers k what by answer (run_of after)) × HasOneMore k what by (run_of after))
comes k c after what by a same answers (inl idle) = inl (idle ∙ sym same)
comes k c after what by a same answers (inr more) =
    subst (λ (r : Run). (run_of after ≡ r) ⊎ (((answer : Result Made Refusal) × Answers r what by answer (run_of after)) × HasOneMore r what by (run_of after))) (sym same) (inr (case_core c after what by a answers more, more))

-- the kept run is then what the run of the case is
pub kept_same : (r after k : Run) (what : Ask) (by : ℕ) (kept : Result Made Refusal) (broken' : Bool) → ((answer : Result Made Refusal) × Answers r what by answer after) →
    KeepAnswers (λ (x : Run). x) Answers false r what by kept broken' k → k ≡ after
kept_same r after k what by kept broken' (answer, first) (inl h) = let never : false ≡ true = h.0 in cc
kept_same r after k what by kept broken' (answer, first) (inr (inl h)) = (answers_once r what by kept answer k after h.2 first).1
kept_same r after k what by kept broken' (answer, first) (inr (inr (b, b', is, (told, holds, more)))) = (answers_once r what by told answer k after holds first).1

-- a run that has an entry more
pub last_entry : (history : List Entry) (entry : Entry) → slice_get (history ++ entry ∷ []) (length history) ≡ Some entry
last_entry [] entry = refl
last_entry (x ∷ xs) entry = last_entry xs entry

-- the line is that of the step at the place
pub line_at : (w w' : Definition) (leaf : Option ℕ) (list history : List Entry) (count : ℕ) (d entry : Entry) (asker : Asker) (said : Said) → w ≡ w' → list ≡ history →
    slice_get history count ≡ Some entry → IsLineOf w leaf (get_or list count d).step asker said → IsLineOf w' leaf entry.step asker said
line_at w w' leaf list history count d entry asker said same all there line =
    let at : get_or list count d ≡ entry = ap (λ (l : List Entry). get_or l count d) all ∙ get_or_from_slice_get history count entry d there in
    subst (λ x. IsLineOf x leaf entry.step asker said) same (subst (λ (e : Entry). IsLineOf w leaf e.step asker said) at line)

-- the entry that came is told
pub entry_told : (r after core : Run) (what : Ask) (by : ℕ) (step : Step) (leaf : Option ℕ) (asker : Asker) (said : Said) (count : ℕ) → core ≡ after → after ≡ with_entry r by step → count ≡ length r.history →
    ComesOf what step → IsLeafOf r what leaf → ((entry : Entry) → slice_get core.history count ≡ Some entry → IsLineOf core.definition leaf entry.step asker said) → TellsEntry r what by after asker said
entry_told r after core what by step leaf asker said count same is counted comes leaf_is lines =
    let entry : Entry = record { by = by; step = step } in
    let all : core ≡ with_entry r by step = same ∙ is in
    let there : slice_get core.history count ≡ Some entry =
    ap (λ (x : Run). slice_get x.history count) all ∙ ap (slice_get (r.history ++ entry ∷ [])) counted ∙ last_entry r.history entry in
    (step, leaf, comes, is, leaf_is, subst (λ (x : Run). IsLineOf x.definition leaf step asker said) all (lines entry there))

-- the trail tells as many entries as there are
pub counted_more : (start : TrailEnd) (before after : List Said) (said : Said) (r later : Run) (what : Ask) (by : ℕ) (asker : Asker) → (end_of start before).count ≡ length r.history → after ≡ before ++ said ∷ [] →
    TellsEntry r what by later asker said → (end_of start after).count ≡ length later.history
counted_more start before after said r later what by asker counted more (step, leaf, comes, is, leaf_is, (task, task_is, tells)) =
    let entry : Entry = record { by = by; step = step } in
    let size : length later.history ≡ length r.history + 1 = ap (λ (x : Run). length x.history) is ∙ length-append r.history (entry ∷ []) in
    ap (λ (l : List Said). (end_of start l).count) more ∙ ap (λ (e : TrailEnd). e.count) (end_append said start before)
    ∙ ap (λ (x : Said). (end_behind (end_of start before) x).count) tells ∙ ap (λ n. n + 1) counted ∙ sym size

-- a remark tells no entry
pub counted_same : (start start' : TrailEnd) (before after : List Said) (said : Said) (about : About) (text by at : List ℕ) (entry : ℕ) → start' ≡ start → after ≡ before ++ said ∷ [] →
    said ≡ remark about text entry by at → (end_of start' after).count ≡ (end_of start before).count
counted_same start start' before after said about text by at entry same more is =
    ap (λ (e : TrailEnd). (end_of e after).count) same ∙ ap (λ (l : List Said). (end_of start l).count) more
    ∙ ap (λ (e : TrailEnd). e.count) (end_append said start before) ∙ ap (λ (x : Said). (end_behind (end_of start before) x).count) is

pub longer : (r after : Run) (by : ℕ) (step : Step) → after ≡ with_entry r by step → length after.history ≡ length r.history + 1
longer r after by step is =
    let entry : Entry = record { by = by; step = step } in
    ap (λ (x : Run). length x.history) is ∙ length-append r.history (entry ∷ [])

-- a case that begins as the kept run did, with the kept entries
pub entries_of : (c : CaseRun) (k : Run) → run_of c ≡ record k { history = [] } → run_of (case_with c k.history) ≡ k
entries_of (Free r) k begins = ap (λ (x : Run). record x { history = x.history ++ k.history }) begins
entries_of (UnderPolicy c) k begins = ap (λ (x : Run). record x { history = x.history ++ k.history }) begins

-- where the lengths differ, an entry came
pub first_of : (r after : Run) (what : Ask) (by : ℕ) → (after ≡ r) ⊎ (((answer : Result Made Refusal) × Answers r what by answer after) × HasOneMore r what by after) →
    ¬ (length r.history ≡ length after.history) → (answer : Result Made Refusal) × Answers r what by answer after
first_of r after what by (inl same) other = absurd (other (ap (λ (x : Run). length x.history) (sym same)))
first_of r after what by (inr more) other = more.0
