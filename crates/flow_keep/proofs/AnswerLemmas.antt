-- Whatever a run is asked, it stays or has one entry more; so the file keeps the one history or the other.
use Rattle.std.proofs.Common.{◌≡◌, inl, inr, ℕ, ◌+◌, ◌≤◌, ◌<◌, Bool, true, false, List, [], ◌∷◌, length, take, Option, Result, Ok, Err, refl, sym, ap, subst, ◌∙◌, arith, length-append, true≢false}
use Rattle.std.proofs.lemmas.List.{take_at, take_all, length-take-le}
use Rattle.flow_model.specs.declared.history.Call.{Call}
use Rattle.flow_model.specs.declared.history.FailEffect.{FailEffect}
use Rattle.flow_ask.specs.declared.ask.Ask.{Ask}
use Rattle.flow_ask.specs.declared.ask.Ask.TheVariants as ask
use Rattle.flow_core.specs.declared.refusal.TakeRefusal.{TakeRefusal}
use Rattle.flow_core.specs.declared.refusal.DoRefusal.{DoRefusal}
use Rattle.flow_core.specs.declared.refusal.PostRefusal.{PostRefusal}
use Rattle.flow_core.specs.declared.refusal.RewindRefusal.{RewindRefusal}
use Rattle.flow_core.specs.declared.refusal.CommitRefusal.{CommitRefusal}
use Rattle.flow_core.specs.Run.{Run}
use Rattle.flow_core.specs.Answers.{Takes, Performs, PostsDone, PostsFailed, Rewinds, Commits}
use Rattle.flow_core.specs.Ask.{HasOneMore, GrowsAtMost}
use Rattle.flow_core.proofs.Growth as growth
use Rattle.flow_keep.specs.declared.refusal.KeptRefusal.{KeptRefusal}
use Rattle.flow_disk.specs.Disk.{Leaves}
use Rattle.flow_keep.specs.Records.{Keeps}
use Rattle.flow_keep.specs.Kept.{IsKept, KeepsEither, GainsRecord}
use Rattle.flow_keep.specs.Answered.{IsKeptAnswer, IsTold, CountsDisk, LeavesKept, front}

pub takes_grow : (r : Run) (leaf by : ℕ) (a : Result Call TakeRefusal) (after : Run) → Takes r leaf by a after → GrowsAtMost r (ask.Take leaf) by after
takes_grow r leaf by a after h = growth.takes_grow r after leaf by a h

pub performs_grow : (r : Run) (leaf by : ℕ) (a : Result (Unit {0}) DoRefusal) (after : Run) → Performs r leaf by a after → GrowsAtMost r (ask.Do leaf) by after
performs_grow r leaf by a after h = growth.performs_grow r after leaf by a h

pub done_grow : (r : Run) (claim by : ℕ) (a : Result (Unit {0}) PostRefusal) (after : Run) → PostsDone r claim by a after → GrowsAtMost r (ask.Done claim) by after
done_grow r claim by a after h = growth.done_grow r after claim by a h

pub failed_grow : (r : Run) (claim by : ℕ) (a : Result FailEffect PostRefusal) (after : Run) → PostsFailed r claim by a after → GrowsAtMost r (ask.Fail claim) by after
failed_grow r claim by a after h = growth.failed_grow r after claim by a h

pub rewinds_grow : (r : Run) (by : ℕ) (a : Result ℕ RewindRefusal) (after : Run) → Rewinds r by a after → GrowsAtMost r ask.Rewind by after
rewinds_grow r by a after h = growth.rewinds_grow r after by a h

pub commits_grow : (r : Run) (by : ℕ) (a : Result (Unit {0}) CommitRefusal) (after : Run) → Commits r by a after → GrowsAtMost r ask.Commit by after
commits_grow r by a after h = growth.commits_grow r after by a h

-- what is in front of the new entry is the history before it
pub front_is : (r : Run) (what : Ask) (by : ℕ) (after : Run) → GrowsAtMost r what by after → take (length r.history) after.history ≡ r.history
front_is r what by after (inl same) = ap (λ (a : Run). take (length r.history) a.history) same ∙ take_all (length r.history) r.history (omega arith)
front_is r what by after (inr more) =
    ap (λ (a : Run). take (length r.history) a.history) more.2 ∙ take_at r.history (record { by = by; step = more.0 } ∷ []) (length r.history) refl

pub not_shorter : (r : Run) (what : Ask) (by : ℕ) (after : Run) → GrowsAtMost r what by after → length r.history ≤ length after.history
not_shorter r what by after (inl same) = let e = ap (λ (a : Run). length a.history) same in omega arith
not_shorter r what by after (inr more) =
    let e = ap (λ (a : Run). length a.history) more.2 in let l = length-append r.history (record { by = by; step = more.0 } ∷ []) in omega arith

pub one_at_most : (r : Run) (what : Ask) (by : ℕ) (after : Run) → GrowsAtMost r what by after → length after.history ≤ length r.history + 1
one_at_most r what by after (inl same) = let e = ap (λ (a : Run). length a.history) same in omega arith
one_at_most r what by after (inr more) =
    let e = ap (λ (a : Run). length a.history) more.2 in let l = length-append r.history (record { by = by; step = more.0 } ∷ []) in omega arith

-- it has one entry more where its history is longer
pub has_more : (r : Run) (what : Ask) (by : ℕ) (after : Run) → GrowsAtMost r what by after → length after.history ≡ length r.history + 1 → HasOneMore r what by after
has_more r what by after (inl same) longer = let e = ap (λ (a : Run). length a.history) same in absurd (omega arith)
has_more r what by after (inr more) longer = more

-- and else it stays
pub stays : (r : Run) (what : Ask) (by : ℕ) (after : Run) → GrowsAtMost r what by after → length after.history ≡ length r.history → after ≡ r
stays r what by after (inl same) even = same
stays r what by after (inr more) even =
    let e = ap (λ (a : Run). length a.history) more.2 in let l = length-append r.history (record { by = by; step = more.0 } ∷ []) in absurd (omega arith)

-- the run with the entries before is the run before
pub front_run : (r : Run) (what : Ask) (by : ℕ) (after : Run) → GrowsAtMost r what by after → front (length r.history) after ≡ r
front_run r what by after (inl same) = ap (λ (a : Run). front (length r.history) a) same ∙ ap (λ (h : List _). record r { history = h }) (front_is r what by r (inl refl))
front_run r what by after (inr more) =
    ap (λ (a : Run). front (length r.history) a) more.2 ∙ ap (λ (h : List _). record r { history = h }) (take_at r.history (record { by = by; step = more.0 } ∷ []) (length r.history) refl)

module _ {D : Type 0} (tells : Type 0) (moment : D → ℕ) (image : D → ℕ → List ℕ → Type 0) (seen : D → List ℕ) (chosen : D → Option ℕ) where
  -- so what is left of the disk since then is what the call leaves
  pub leaves_since : (r : Run) (what : Ask) (by count : ℕ) (after : Run) (old new : D) (broken broken' : Bool) → GrowsAtMost r what by after → count ≡ length r.history →
      LeavesKept tells moment image seen chosen (front count after) after old new broken broken' → LeavesKept tells moment image seen chosen r after old new broken broken'
  leaves_since r what by count after old new broken broken' grows counted leaves =
      subst (λ (before : Run). LeavesKept tells moment image seen chosen before after old new broken broken') (ap (λ n. front n after) counted ∙ front_run r what by after grows) leaves

  -- a broken keep leaves all as it is
  pub leaves_all : (r : Run) (d : D) (broken : Bool) → broken ≡ true → LeavesKept tells moment image seen chosen r r d d broken broken
  leaves_all r d broken is = record {
    same_file = refl;
    same_disk = λ e. refl;
    gains = λ told whole. absurd (true≢false (sym is ∙ whole));
    any_moment = λ told whole. absurd (true≢false (sym is ∙ whole));
    acknowledged = λ told whole. absurd (true≢false (sym is ∙ whole));
    after_fault = λ told whole. absurd (true≢false (sym is ∙ whole));
  }

  -- what is left once the last entry was to be kept
  pub leaves_of : (r : Run) (count : ℕ) (old new : D) (broken' : Bool) → count ≤ length r.history → chosen new ≡ chosen old → (length r.history ≡ count → new ≡ old) →
      (tells → broken' ≡ false → GainsRecord (take count r.history) r.history (seen old) (seen new)) →
      (tells → Leaves moment image old new (KeepsEither (take count r.history) r.history)) →
      (broken' ≡ false → tells → IsKept r.history (seen new) (image new (moment new))) → LeavesKept tells moment image seen chosen (front count r) r old new false broken'
  leaves_of r count old new broken' counted file idle gains any kept = record {
    same_file = file;
    same_disk = λ same.
        let all : length r.history ≡ length (take count r.history) = ap (λ (a : Run). length a.history) same in
        idle (omega (arith, all ∙ length-take-le count r.history counted));
    gains = gains;
    any_moment = λ told whole. any told;
    acknowledged = λ told whole c image. subst (Keeps r.history) (sym ((kept whole told).settled.durable c image)) (kept whole told).keeps;
    after_fault = λ told whole c image. let all = any told in all.each (moment new) c all.later (omega arith) image;
  }

-- a count that did not rise while nothing broke
pub counts_nothing : (broken : Bool) (n : ℕ) → CountsDisk broken broken n n
counts_nothing true n = refl
counts_nothing false n = refl

pub still_counts : (broken' : Bool) (n m most : ℕ) → CountsDisk false broken' n m → n < most → broken' ≡ false → m < most
still_counts false n m most same below whole = omega (arith, same, below)
still_counts true n m most same below whole = absurd (true≢false whole)

-- what is told of an answer is what the keep answers
pub told_answer : {A R : Type 0} (Answers : Result A R → Run → Type 0) (what : Ask) (by : ℕ) (r after : Run) (answer : Result A R) (broken : Bool) (told : Result A (KeptRefusal R)) → Answers answer after → GrowsAtMost r what by after →
    (broken ≡ true → length after.history ≡ length r.history + 1) → IsTold answer broken told → IsKeptAnswer Answers (HasOneMore r what by) false r told broken after
told_answer Answers what by r after (Ok value) false told holds grows made is = subst (λ t. IsKeptAnswer Answers (HasOneMore r what by) false r t false after) (sym is) (refl, refl, holds)
told_answer Answers what by r after (Err refusal) false told holds grows made is = subst (λ t. IsKeptAnswer Answers (HasOneMore r what by) false r t false after) (sym is) (refl, refl, holds)
told_answer Answers what by r after (Ok value) true told holds grows made is = subst (λ t. IsKeptAnswer Answers (HasOneMore r what by) false r t true after) (sym is) (refl, refl, (Ok value, holds, has_more r what by after grows (made refl)))
told_answer Answers what by r after (Err refusal) true told holds grows made is = subst (λ t. IsKeptAnswer Answers (HasOneMore r what by) false r t true after) (sym is) (refl, refl, (Err refusal, holds, has_more r what by after grows (made refl)))
