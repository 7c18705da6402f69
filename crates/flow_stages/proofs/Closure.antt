-- Where each stage that comes next is covered, each run that users fit is among the stages.
use Rattle.std.proofs.Common.{◌≡◌, ℕ, zero, suc, ◌<◌, List, [], ◌∷◌, ◌++◌, length, slice_get, Some, Result, Ok, Err, IfOk, inl, inr, ⊎_elim, refl, sym, ap, subst, ◌∙◌, append_assoc, append-nil, arith}
use Rattle.flow_model.specs.declared.labels.Label.{Label}
use Rattle.flow_model.specs.Duties.{Duties}
use Rattle.flow_model.specs.Facts.{State, HoldsAt, after_leaf, replay, Runs}
use Rattle.flow_model.specs.FoldedReady.{IsFoldedRun}
use Rattle.flow_model.specs.Lists.{◌∈◌, Begins}
use Rattle.flow_model.specs.Ready.{DoneOr}
use Rattle.flow_model.specs.Schema.{Schema, start_of}
use Rattle.flow_model.proofs.Lists.{mem_append_left, each_member}
use Rattle.flow_laws.proofs.RunsByStep.{run-append}
use Rattle.flow_fold_laws.proofs.FoldedOrdersByTwo.{folded_by_step}
use Rattle.flow_plan.specs.Orders.{MayComeNext}
use Rattle.flow_plan.specs.Planned.{Planned, pairs_of}
use Rattle.flow_stages.specs.declared.nodes.Node.{Node}
use Rattle.flow_stages.specs.declared.question.Question.{Question}
use Rattle.flow_stages.specs.declared.search.Look.{Look}
use Rattle.flow_stages.specs.declared.search.Look.TheVariants as look
use Rattle.flow_stages.specs.declared.wanted.Wanted.{Wanted}
use Rattle.flow_stages.specs.Asked.{wanted_by, IsToHave, FitsAfter, IsHopeless, IsRunOf, IsNeverSo}
use Rattle.flow_stages.specs.Fitting.{Fits}
use Rattle.flow_stages.specs.Listed.{IsListed, IsCovered, IsQuiet, AreQuiet, MayFollow, IsFollowed, IsOpen, IsTold, IsToldOn}
use Rattle.flow_stages.proofs.StageLemmas.{next_as}

-- ---- runs

-- each leaf may come next after those before it
pub next_at : (p : Planned) (front rest : List ℕ) (n : ℕ) → IsFoldedRun p.process (pairs_of p.tokens) (front ++ n ∷ rest) → MayComeNext p (λ x. x ∈ front) n
next_at p front rest n run =
    let more = ((run-append (folded_by_step p.process (pairs_of p.tokens)) (λ x. ⊥) front (n ∷ rest)).0 run).1 in
    next_as p (DoneOr (λ x. ⊥) front) (λ x. x ∈ front) n (λ x. (λ d. ⊎_elim (λ none. absurd none) (λ m. m) d, λ m. inr m)) more.0

pub front_run : (p : Planned) (front rest : List ℕ) → IsFoldedRun p.process (pairs_of p.tokens) (front ++ rest) → IsFoldedRun p.process (pairs_of p.tokens) front
front_run p front rest run = ((run-append (folded_by_step p.process (pairs_of p.tokens)) (λ x. ⊥) front rest).0 run).0

-- each label holds when its turn comes
holds_at : (labels : List Label) (s : State) (front rest : List ℕ) (n : ℕ) → Runs labels s (front ++ n ∷ rest) → HoldsAt labels (replay labels s front) n
holds_at labels s [] rest n run = run.0
holds_at labels s (k ∷ front) rest n run = holds_at labels (after_leaf labels s k) front rest n run.1

-- ---- users

pub fits_as : (d : Duties) (wanted : Wanted) (P Q : ℕ → Type 0) (to : ℕ → ℕ) → ((e : ℕ) → P e → Q e) → Fits d wanted Q to → Fits d wanted P to
fits_as d wanted P Q to less fits = record { role = λ e m. fits.role e (less e m); beside = λ e f m k. fits.beside e f (less e m) (less f k) }

-- users that fit a list fit its front
fits_front : (w : Schema) (d : Duties) (question : Question) (front rest : List ℕ) (to : ℕ → ℕ) → FitsAfter w d question (front ++ rest) to → FitsAfter w d question front to
fits_front w d question front rest to fits =
    fits_as d (wanted_by question) (IsToHave w question front) (IsToHave w question (front ++ rest)) to
    (λ e. ⊎_elim (λ named. inl named) (λ (n, m, is). inr (n, mem_append_left n front rest m, is))) fits

-- ---- nodes

pub listed_more : (w : Schema) (old new : List Node) (list : List ℕ) → Begins new old → IsListed w old list → IsListed w new list
listed_more w old new list (rest, e) (node, m, after) = (node, subst (λ (l : List Node). node ∈ l) (sym e) (mem_append_left node old rest m), after)

pub covered_more : (w : Schema) (d : Duties) (question : Question) (old new : List Node) (list : List ℕ) → Begins new old → IsCovered w d question old list → IsCovered w d question new list
covered_more w d question old new list more = ⊎_elim (λ listed. inl (listed_more w old new list more listed)) (λ hopeless. inr hopeless)

pub followed_more : (w : Schema) (d : Duties) (p : Planned) (question : Question) (old new : List Node) (node : Node) → Begins new old → IsFollowed w d p question old node.stage →
    IsFollowed w d p question new node.stage
followed_more w d p question old new node more followed list n after may = covered_more w d question old new (list ++ n ∷ []) more (followed list n after may)

pub begins_more : {A : Type 0} (old mid new : List A) → Begins mid old → Begins new mid → Begins new old
begins_more old mid new (a, e) (b, f) = (a ++ b, f ∙ ap (λ l. l ++ b) e ∙ append_assoc old a b)

pub begins_same : {A : Type 0} (list : List A) → Begins list list
begins_same list = ([], sym (append-nil list))

pub same_back : {A : Type 0} (old new : List A) (k : ℕ) (x : A) → Begins new old → k < length old → slice_get new k ≡ Some x → slice_get old k ≡ Some x
same_back {A} old new k x (rest, e) within at = there old k within (ap (λ l. slice_get l k) (sym e) ∙ at)
  where
    there : (list : List A) (k : ℕ) → k < length list → slice_get (list ++ rest) k ≡ Some x → slice_get list k ≡ Some x
    there [] k within at = absurd (omega arith)
    there (y ∷ list) zero within at = at
    there (y ∷ list) (suc k) within at = there list k (omega arith) at

pub same_place : {A : Type 0} (old new : List A) (k : ℕ) (x : A) → Begins new old → slice_get old k ≡ Some x → slice_get new k ≡ Some x
same_place {A} old new k x (rest, e) at = ap (λ l. slice_get l k) e ∙ there old k at
  where
    there : (list : List A) (k : ℕ) → slice_get list k ≡ Some x → slice_get (list ++ rest) k ≡ Some x
    there [] k at = cc
    there (y ∷ list) zero at = at
    there (y ∷ list) (suc k) at = there list k at

pub place_of : {A : Type 0} (list : List A) (x : A) → x ∈ list → (k : ℕ) × (k < length list) × (slice_get list k ≡ Some x)
place_of [] x m = absurd m
place_of (y ∷ list) x (inl is) = (0, omega arith, ap Some (sym is))
place_of (y ∷ list) x (inr m) = let (k, within, at) = place_of list x m in (suc k, omega arith, at)

pub not_open : (l : Look) → (l ≡ look.Open → ⊥) → IsOpen l → ⊥
not_open look.Open other going = other refl
not_open look.Hopeless other going = going
not_open (look.Shown leaves takers event) other going = going
not_open look.Spent other going = going

pub told_on : (w : Schema) (d : Duties) (p : Planned) (question : Question) (left : ℕ) (l : Look) → IsTold w d p question left l → (l ≡ look.Hopeless → ⊥) → IsToldOn w d p question left l
told_on w d p question left look.Open told other = told
told_on w d p question left look.Hopeless told other = other refl
told_on w d p question left (look.Shown leaves takers event) told other = told
told_on w d p question left look.Spent told other = told

-- what is so of an answer, where there is one
pub ok_given : {A E : Type 0} (Q : A → Type 0) (r : Result A E) → ((a : A) → r ≡ Ok a → Q a) → IfOk r Q
ok_given Q (Ok a) f = f a refl
ok_given Q (Err e) f = tt

pub ok_at : {A E : Type 0} (P : A → Type 0) (r : Result A E) (a : A) → r ≡ Ok a → IfOk r P → P a
ok_at P r a is h = subst (λ q. IfOk q P) is h

-- what is so of an answer follows from what is so of it
pub ok_to : {A E : Type 0} (P Q : A → Type 0) (r : Result A E) → ((a : A) → P a → Q a) → IfOk r P → IfOk r Q
ok_to P Q (Ok a) to h = to a h
ok_to P Q (Err e) to h = h

module _ (w : Schema) (d : Duties) (p : Planned) (question : Question) (nodes : List Node) (followed : (node : Node) → node ∈ nodes → IsFollowed w d p question nodes node.stage) where
  goes_on : (to : ℕ → ℕ) (rest front : List ℕ) → IsRunOf w p (front ++ rest) → FitsAfter w d question (front ++ rest) to → IsListed w nodes front → IsListed w nodes (front ++ rest)
  goes_on to [] front run fits listed = subst (IsListed w nodes) (sym (append-nil front)) listed
  goes_on to (n ∷ rest) front run fits (node, m, after) =
      let split : (front ++ n ∷ []) ++ rest ≡ front ++ n ∷ rest = append_assoc front (n ∷ []) rest in
      let fits' = subst (λ l. FitsAfter w d question l to) (sym split) fits in
      let may : MayFollow w p front n = (next_at p front rest n run.ready, holds_at w.labels (start_of w) front rest n run.runs) in
      ⊎_elim
      (λ listed. subst (IsListed w nodes) split (goes_on to rest (front ++ n ∷ []) (subst (IsRunOf w p) (sym split) run) fits' listed))
      (λ hopeless. absurd (hopeless to (fits_front w d question (front ++ n ∷ []) rest to fits')))
      (followed node m front n after may)

  -- nothing is found where the first stage is among them and all are quiet
  pub never_so : IsListed w nodes [] → AreQuiet w d p question nodes → IsNeverSo w d p question
  never_so first quiet list to run fits =
      let (node, m, after) = goes_on to list [] run fits first in
      each_member (λ (node : Node). IsQuiet w d p question node.stage) nodes quiet node m list to after fits

-- where nobody may have the events of no leaf, nothing is found
pub never_hopeless : (w : Schema) (d : Duties) (p : Planned) (question : Question) → IsHopeless w d question [] → IsNeverSo w d p question
never_hopeless w d p question hopeless list to run fits = absurd (hopeless to (fits_front w d question [] list to fits))
