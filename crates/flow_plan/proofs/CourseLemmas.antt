-- What choices tell along a list of leaves that are done in turn.
use Rattle.std.proofs.Common.{◌≡◌, ◌<◌, ◌≤◌, ◌+◌, ◌*◌, ◌↔◌, ◌⊎◌, ◌==◌, ◌||◌, ◌&&◌, not, ℕ, zero, suc, Bool, true, false, IsTrue, List, [], ◌∷◌, ◌++◌, Option, Some, None, if◌then◌else◌, length, length-append, take, get_or, slice_get, refl, sym, ap, ◌∙◌, subst, inl, inr, ⊎_elim, below_more, arith}
use Rattle.std.proofs.lemmas.Bool.{cases_Bool, cases_eq, eq-eqb, eqb-true, false≢true, false_from_ne_true}
use Rattle.std.proofs.Math.Seq.{get_or-append_seam}
use Rattle.std.proofs.lemmas.List.{length_push, get_or_append_left, get_or-take, length-take-le, take_all}
use Rattle.std.proofs.lemmas.Option.{slice_get-get_or}
use Rattle.leaf_rows.specs.Leaves.{has_leaf, members, passing_below}
use Rattle.leaf_rows.specs.declared.leaf_set.LeafSet.{LeafSet}
use Rattle.leaf_rows.specs.declared.TheConstants.{LEAF_WORDS}
use Rattle.flow_model.specs.declared.limits.TheConstants.{MOST_LEAVES}
use Rattle.flow_model.specs.Lists.{◌∈◌, AreDistinct, Each}
use Rattle.flow_model.specs.Process.{leaves}
use Rattle.flow_model.specs.Folding.{choices_of}
use Rattle.flow_model.specs.FoldedReady.{IsClosedOff, IsFinished}
use Rattle.flow_model.proofs.Lists.{each_member, each_from_members, mem-append, mem_append_left, mem_append_right, only_one}
use Rattle.flow_fold_laws.specs.FoldedRows.{IsSettled, Settling}
use Rattle.flow_fold_laws.proofs.AvoidedTogether.{closed_more}
use Rattle.flow_fold_laws.proofs.BegunNext.{member_test}
use Rattle.flow_fold_laws.proofs.ClosedChoices.{IsClosedIn, closed_by_choices}
use Rattle.flow_fold_laws.proofs.FoldedAvoid.{is_in}
use Rattle.flow_fold_laws.proofs.FoldedSettled.{finished_more}
use Rattle.flow_fold_laws.proofs.FoldedOrdersByTwo.{same_folded_ready}
use Rattle.flow_fold_laws.proofs.FoldedPass.{settled_in_one_pass}
use Rattle.flow_plan.specs.declared.course.Course.{Course}
use Rattle.flow_plan.specs.declared.course.Turn.{Turn}
use Rattle.flow_plan.specs.declared.cut_sides.CutSides.{CutSides}
use Rattle.flow_plan.specs.declared.fold_row.FoldRow.{FoldRow}
use Rattle.flow_plan.specs.declared.sides.Sides.{Sides}
use Rattle.flow_plan.specs.Courses.{IsTurn, IsCourse, IsTurnBetween, IsServed, IsAdvanced, ToldBy, AreFollowed}
use Rattle.flow_plan.specs.CutSides.{AreCut, IsCut, TellIn}
use Rattle.flow_plan.specs.Orders.{MayComeNext}
use Rattle.flow_plan.specs.Rows.{IsRowOf}
use Rattle.flow_plan.specs.Fields.{IsTableOf}
use Rattle.flow_plan.specs.declared.table.Table.{Table}
use Rattle.flow_plan.specs.Planned.{Planned, pairs_of}
use Rattle.flow_plan.specs.Sided.{AreSidesOf}
use Rattle.flow_plan.proofs.ClosedLemmas.{settled_more}
use Rattle.flow_plan.proofs.Cuts.{cut_same}
use Rattle.flow_plan.proofs.RowLemmas.{mem_more, one_more}
use Rattle.flow_plan.proofs.PlaceLemmas.{read_member}

-- ---- it does not matter how the done leaves are told

pub tell_same : {w : ℕ} (p : Planned) (D E : ℕ → Type 0) (cut : CutSides w) → ((n : ℕ) → D n ↔ E n) → TellIn p D cut → TellIn p E cut
tell_same p D E cut same tell = record {
  done = λ n m. (λ h. (same n).0 ((tell.done n m).0 h), λ e. (tell.done n m).1 ((same n).1 e));
  settled = λ n m. (λ h. settled_more p.process D E n (λ x. (same x).0) ((tell.settled n m).0 h), λ s. (tell.settled n m).1 (settled_more p.process E D n (λ x. (same x).1) s));
  closed = λ n m. (λ h. closed_more p.process D E n (λ x. (same x).0) ((tell.closed n m).0 h), λ s. (tell.closed n m).1 (closed_more p.process E D n (λ x. (same x).1) s));
}

-- as far as there is room
pub tell_narrow : {v w : ℕ} (p : Planned) (D : ℕ → Type 0) (one : CutSides v) (other : CutSides w) → Each (λ n. n < 64 * w) (leaves p.process) →
    IsCut one.done other.done → IsCut one.settled other.settled → IsCut one.closed other.closed → TellIn p D one → TellIn p D other
tell_narrow {v} {w} p D one other small done settled closed tell = record {
  done = λ n m. says one.done other.done n done m (tell.done n m);
  settled = λ n m. says one.settled other.settled n settled m (tell.settled n m);
  closed = λ n m. says one.closed other.closed n closed m (tell.closed n m);
}
  where
    says : {P : Type 0} (set : LeafSet v) (cut : LeafSet w) (n : ℕ) → IsCut set cut → n ∈ leaves p.process → IsTrue (has_leaf set n) ↔ P → IsTrue (has_leaf cut n) ↔ P
    says set cut n is m h = let same = cut_same set cut is n (each_member (λ n. n < 64 * w) (leaves p.process) small n m) in (λ has. h.0 (sym same ∙ has), λ holds. same ∙ h.1 holds)

-- what all sides tell
pub tell_of_sides : (p : Planned) (D B : ℕ → Type 0) (sides : Sides) (cut : CutSides LEAF_WORDS) → Each (λ n. n < MOST_LEAVES) (leaves p.process) → AreSidesOf p.process D B sides →
    AreCut sides cut → TellIn p D cut
tell_of_sides p D B sides cut small are is = record {
  done = λ n m. says sides.done cut.done n is.done m (are.done n);
  settled = λ n m. says sides.settled cut.settled n is.settled m (are.settled n m);
  closed = λ n m. says sides.closed cut.closed n is.closed m (are.closed n m);
}
  where
    says : {P : Type 0} (set cut : LeafSet LEAF_WORDS) (n : ℕ) → IsCut set cut → n ∈ leaves p.process → IsTrue (has_leaf set n) ↔ P → IsTrue (has_leaf cut n) ↔ P
    says set cut n is m h = let same = cut_same set cut is n (each_member (λ n. n < MOST_LEAVES) (leaves p.process) small n m) in (λ has. h.0 (sym same ∙ has), λ holds. same ∙ h.1 holds)

-- ---- one turn

besides_said : (P Q : Type 0) (before after : Bool) (there : Type 0) → (IsTrue before ↔ P) → (IsTrue after ↔ Q) → (P → Q) → (there ↔ (IsTrue after × ¬ IsTrue before)) → Q ↔ (P ⊎ there)
besides_said P Q before after there old new more is = (
  λ q. ⊎_elim (λ had. inl (old.0 had)) (λ lacked. inr (is.1 (new.1 q, λ had. let wrong = sym had ∙ lacked in cc))) (cases_Bool before),
  λ h. ⊎_elim more (λ t. new.0 (is.0 t).0) h,
)

pub turn_between : (p : Planned) (D E : ℕ → Type 0) (before after : CutSides LEAF_WORDS) (turn : Turn) → ((x : ℕ) → D x → E x) → TellIn p D before → TellIn p E after →
    IsTurnBetween before after turn → IsTurn p D E (Some turn)
turn_between p D E before after turn to old new is = record {
  settled = λ n m.
      let says = besides_said (IsSettled p.process D n) (IsSettled p.process E n) (has_leaf before.settled n) (has_leaf after.settled n) (n ∈ turn.settled.items)
      (old.settled n m) (new.settled n m) (settled_more p.process D E n to) (is.settled n) in (
        λ s. ⊎_elim (λ h. inl (inl h)) inr (says.0 s),
        λ h. ⊎_elim (⊎_elim (λ k. says.1 (inl k)) inl) (λ k. says.1 (inr k)) h,
      );
  closed = λ n m. besides_said (IsClosedOff p.process D n) (IsClosedOff p.process E n) (has_leaf before.closed n) (has_leaf after.closed n) (n ∈ turn.closed.items)
      (old.closed n m) (new.closed n m) (closed_more p.process D E n to) (is.closed n);
}

-- where no choice stays there is none
pub no_turn : (p : Planned) (front list : List ℕ) → choices_of p.process ≡ [] → AreDistinct (leaves p.process) → ((x : ℕ) → x ∈ front → x ∈ list) →
    IsTurn p (λ n. n ∈ front) (λ n. n ∈ list) None
no_turn p front list none distinct to = record {
  settled = λ n m. (λ s. inl (inr (only list n s)), λ h. ⊎_elim (⊎_elim (λ s. inl (to n (only front n s))) inl) absurd h);
  closed = λ n m. (λ c. absurd (none_closed (λ x. x ∈ list) n c), λ h. ⊎_elim (λ c. absurd (none_closed (λ x. x ∈ front) n c)) absurd h);
}
  where
    only : (done : List ℕ) (n : ℕ) → IsSettled p.process (λ x. x ∈ done) n → n ∈ done
    only done n s =
        let told = settled_more p.process (λ x. x ∈ done) (λ x. IsTrue (is_in done x)) n (λ x. (member_test done x).1) s in
        (member_test done n).0 (subst (λ cs. Settling cs (λ x. IsTrue (is_in done x)) n) none ((settled_in_one_pass p.process (is_in done) distinct n).1 told))

    none_closed : (E : ℕ → Type 0) (n : ℕ) → ¬ (IsClosedOff p.process E n)
    none_closed E n c = subst (λ cs. IsClosedIn cs E n) none ((closed_by_choices p.process E n).0 c)

-- ---- a turn is taken in

pub advanced : {w : ℕ} (p : Planned) (D E : ℕ → Type 0) (turn : Option Turn) (leaf : ℕ) (old new : CutSides w) → Each (λ n. n < 64 * w) (leaves p.process) →
    ((n : ℕ) → E n ↔ (D n ⊎ (n ≡ leaf))) → IsTurn p D E turn → IsAdvanced turn leaf old new → TellIn p D old → TellIn p E new
advanced {w} p D E turn leaf old new small more is moved tell = record {
  done = λ n m. (
    λ h. (more n).1 (⊎_elim inr (λ k. inl ((tell.done n m).0 k)) ((moved.done n).0 h)),
    λ e. (moved.done n).1 (⊎_elim (λ d. inr ((tell.done n m).1 d)) inl ((more n).0 e)),
  );
  settled = λ n m. let at = moved.settled n (room n m) in (
    λ h. (is.settled n m).1 (⊎_elim (⊎_elim (λ same. inl (inr ((more n).1 (inr same)))) (λ k. inl (inl ((tell.settled n m).0 k)))) inr (at.0 h)),
    λ s. at.1 (⊎_elim
        (⊎_elim (λ d. inl (inr ((tell.settled n m).1 d))) (λ e. ⊎_elim (λ d. inl (inr ((tell.settled n m).1 (inl d)))) (λ same. inl (inl same)) ((more n).0 e)))
        inr ((is.settled n m).0 s)),
  );
  closed = λ n m. let at = moved.closed n (room n m) in (
    λ h. (is.closed n m).1 (⊎_elim (λ k. inl ((tell.closed n m).0 k)) inr (at.0 h)),
    λ s. at.1 (⊎_elim (λ k. inl ((tell.closed n m).1 k)) inr ((is.closed n m).0 s)),
  );
}
  where
    room : (n : ℕ) → n ∈ leaves p.process → n < 64 * w
    room n m = each_member (λ n. n < 64 * w) (leaves p.process) small n m

-- ---- what is left of a set that loses a member

length_passing : (t : ℕ → Bool) (b : ℕ) → length (passing_below t (suc b)) ≡ length (passing_below t b) + (if t b then 1 else 0)
unfolding passing_below
length_passing t b = length-append (passing_below t b) (if t b then b ∷ [] else []) ∙ ap (λ k. length (passing_below t b) + k) (one (t b))
  where
    one : (c : Bool) → length (if c then b ∷ [] else []) ≡ (if c then 1 else 0)
    one true = refl
    one false = refl

fewer_below : (t u : ℕ → Bool) (n : ℕ) → t n ≡ true → u n ≡ false → ((k : ℕ) → u k ≡ true → t k ≡ true) → (b : ℕ) →
    (length (passing_below u b) ≤ length (passing_below t b)) × (n < b → length (passing_below u b) < length (passing_below t b))
unfolding passing_below
fewer_below t u n there gone sub zero = (omega arith, λ below. absurd (omega (arith, below)))
fewer_below t u n there gone sub (suc b) =
    let (most, less) = fewer_below t u n there gone sub b in
    let mine = length_passing t b in
    let its = length_passing u b in
    ⊎_elim
    (λ ub. let both = sub b ub in (grind (arith, most, mine, its, ub, both), λ below. grind (arith, cases_eq n b, less, mine, its, ub, both, gone, below)))
    (λ ub. ⊎_elim
    (λ tb. (grind (arith, most, mine, its, ub, tb), λ below. grind (arith, most, mine, its, ub, tb)))
    (λ tb. (grind (arith, most, mine, its, ub, tb), λ below. grind (arith, cases_eq n b, less, mine, its, ub, tb, there, below)))
    (cases_Bool (t b)))
    (cases_Bool (u b))

-- of two tests that both pass, the second does
second : (a b : Bool) → (a && b) ≡ true → b ≡ true
second true b e = e
second false b e = absurd (false≢true e)

gone_after : {w : ℕ} (old new : LeafSet w) (n : ℕ) → ((k : ℕ) → has_leaf new k ≡ (not (k == n) && has_leaf old k)) → has_leaf new n ≡ false
gone_after old new n taken = taken n ∙ ap (λ b. not b && has_leaf old n) (eq-eqb n n refl)

stays_after : {w : ℕ} (old new : LeafSet w) (n k : ℕ) → ((k : ℕ) → has_leaf new k ≡ (not (k == n) && has_leaf old k)) → ¬ (k ≡ n) → has_leaf old k ≡ true → has_leaf new k ≡ true
stays_after old new n k taken other has = taken k ∙ ap (λ b. not b && has_leaf old k) (false_from_ne_true (k == n) (λ e. other (eqb-true k n e))) ∙ has

pub fewer_members : {w : ℕ} (old new : LeafSet w) (n : ℕ) → IsTrue (has_leaf old n) → n < 64 * w → ((k : ℕ) → has_leaf new k ≡ (not (k == n) && has_leaf old k)) →
    length (members new) < length (members old)
unfolding members
fewer_members {w} old new n has below taken =
    (fewer_below (has_leaf old) (has_leaf new) n has (gone_after old new n taken) (λ k is. second (not (k == n)) (has_leaf old k) (sym (taken k) ∙ is)) (64 * w)).1 below

-- the listed ones are those that the set had and has no more
pub record AreListed {w : ℕ} (first rest : LeafSet w) (list : List ℕ) : Type 0 where
  pub listed : (n : ℕ) → (n ∈ list) ↔ (IsTrue (has_leaf first n) × ¬ IsTrue (has_leaf rest n))
  pub left : (n : ℕ) → IsTrue (has_leaf rest n) → IsTrue (has_leaf first n)

pub one_listed : {w : ℕ} (first rest new : LeafSet w) (list more : List ℕ) (leaf : ℕ) → IsTrue (has_leaf rest leaf) → ((k : ℕ) → has_leaf new k ≡ (not (k == leaf) && has_leaf rest k)) →
    more ≡ list ++ leaf ∷ [] → AreListed first rest list → AreListed first new more
one_listed first rest new list more leaf has taken is are = record {
  listed = λ n. (
    λ m. ⊎_elim
        (λ l. let (had, lacks) = (are.listed n).0 l in (had, λ k. lacks (still n k)))
        (λ last. let same = only_one n leaf last in (
          subst (λ k. IsTrue (has_leaf first k)) (sym same) (are.left leaf has),
          λ k. false≢true (sym (gone_after rest new leaf taken) ∙ subst (λ x. IsTrue (has_leaf new x)) same k),
        ))
        (mem-append n list (leaf ∷ []) (subst (λ l. n ∈ l) is m)),
    λ (had, lacks). subst (λ l. n ∈ l) (sym is) (⊎_elim
        (λ there. ⊎_elim
        (λ same. mem_append_right n list (leaf ∷ []) (inl same))
        (λ other. absurd (lacks (stays_after rest new leaf n taken other there)))
        (cases_eq n leaf))
        (λ gone. mem_append_left n list (leaf ∷ []) ((are.listed n).1 (had, λ k. false≢true (sym gone ∙ k))))
        (cases_Bool (has_leaf rest n))),
  );
  left = λ n k. are.left n (still n k);
}
  where
    still : (n : ℕ) → IsTrue (has_leaf new n) → IsTrue (has_leaf rest n)
    still n k = second (not (n == leaf)) (has_leaf rest n) (sym (taken n) ∙ k)

-- ---- leaves that are put in where there is room

abbrev pub HoldsBoth : {w : ℕ} → LeafSet w → List ℕ → LeafSet w → Type 0
HoldsBoth {w} first list set = (n : ℕ) → n < 64 * w → IsTrue (has_leaf set n) ↔ (IsTrue (has_leaf first n) ⊎ (n ∈ list))

pub one_put : {w : ℕ} (leaves : List ℕ) (i : ℕ) (first now new : LeafSet w) → i < length leaves → ((k : ℕ) → has_leaf new k ≡ (k == get_or leaves i 0 || has_leaf now k)) →
    HoldsBoth first (take i leaves) now → HoldsBoth first (take (i + 1) leaves) new
one_put leaves i first now new within put holds n room =
    let more = mem_more leaves i within n in
    let one = one_more n (get_or leaves i 0) (has_leaf now n) in (
      λ h. ⊎_elim
          (λ had. ⊎_elim inl (λ m. inr (more.1 (inl m))) ((holds n room).0 had))
          (λ last. inr (more.1 (inr (only_one n _ last))))
          (one.0 (sym (put n) ∙ h)),
      λ e. put n ∙ one.1 (⊎_elim
          (λ had. inl ((holds n room).1 (inl had)))
          (λ m. ⊎_elim (λ k. inl ((holds n room).1 (inr k))) (λ same. inr (inl same)) (more.0 m)) e),
    )

pub none_put : {w : ℕ} (leaves : List ℕ) (i : ℕ) (first now : LeafSet w) → i < length leaves → 64 * w ≤ get_or leaves i 0 →
    HoldsBoth first (take i leaves) now → HoldsBoth first (take (i + 1) leaves) now
none_put leaves i first now within large holds n room =
    let more = mem_more leaves i within n in (
      λ h. ⊎_elim inl (λ m. inr (more.1 (inl m))) ((holds n room).0 h),
      λ e. (holds n room).1 (⊎_elim inl (λ m. ⊎_elim inr (λ same. absurd (omega (arith, room, large, same))) (more.0 m)) e),
    )

-- ---- turns, one by one

abbrev pub AreTurnsTo : Planned → List ℕ → ℕ → List Turn → Type 0
AreTurnsTo p list k turns = (i : ℕ) → i < k → IsTurn p (λ n. n ∈ take i list) (λ n. n ∈ take (i + 1) list) (slice_get turns i)

pub one_turn : (p : Planned) (list : List ℕ) (k : ℕ) (turns new : List Turn) (turn : Turn) → length turns ≡ k → new ≡ turns ++ turn ∷ [] →
    IsTurn p (λ n. n ∈ take k list) (λ n. n ∈ take (k + 1) list) (Some turn) → AreTurnsTo p list k turns → AreTurnsTo p list (k + 1) new
one_turn p list k turns new turn long is this before = below_more (λ i. IsTurn p (λ n. n ∈ take i list) (λ n. n ∈ take (i + 1) list) (slice_get new i)) k
    (λ i less. subst (IsTurn p (λ n. n ∈ take i list) (λ n. n ∈ take (i + 1) list)) (sym (earlier i less)) (before i less))
    (subst (IsTurn p (λ n. n ∈ take k list) (λ n. n ∈ take (k + 1) list)) (sym last) this)
  where
    earlier : (i : ℕ) → i < k → slice_get new i ≡ slice_get turns i
    earlier i less =
        ap (λ (l : List Turn). slice_get l i) is ∙ slice_get-get_or (turns ++ turn ∷ []) i turn (omega (arith, less, long, length_push turns turn))
        ∙ ap (λ (t : Turn). Some t) (get_or_append_left turns (turn ∷ []) turn i (omega (arith, less, long)))
        ∙ sym (slice_get-get_or turns i turn (omega (arith, less, long)))

    last : slice_get new k ≡ Some turn
    last =
        ap (λ (l : List Turn). slice_get l k) is ∙ slice_get-get_or (turns ++ turn ∷ []) k turn (omega (arith, long, length_push turns turn))
        ∙ ap (λ (t : Turn). Some t) (ap (λ n. get_or (turns ++ turn ∷ []) n turn) (sym long) ∙ get_or-append_seam turns turn [] turn)

-- what was told of the leaves before and with one more makes a turn
pub turn_told : (folds : List FoldRow) (p : Planned) (list : List ℕ) (k : ℕ) (done next : LeafSet LEAF_WORDS) (before after : CutSides LEAF_WORDS) (turn : Turn) → k < length list →
    IsRowOf (λ x. x ∈ take k list) done → IsRowOf (λ x. x ∈ take (k + 1) list) next → ToldBy folds done before → ToldBy folds next after → IsServed folds p →
    IsTurnBetween before after turn → IsTurn p (λ n. n ∈ take k list) (λ n. n ∈ take (k + 1) list) (Some turn)
turn_told folds p list k done next before after turn within done_are next_are old new served is =
    turn_between p (λ n. n ∈ take k list) (λ n. n ∈ take (k + 1) list) before after turn (λ x m. (mem_more list k within x).1 (inl m))
    (tell_same p (λ n. IsTrue (has_leaf done n)) (λ n. n ∈ take k list) before done_are (old p served))
    (tell_same p (λ n. IsTrue (has_leaf next n)) (λ n. n ∈ take (k + 1) list) after next_are (new p served)) is

-- a front that goes past a place has its leaf
pub front_has : (list : List ℕ) (k i : ℕ) → k ≤ i → i < length list → Each (λ n. n < MOST_LEAVES) (take (i + 1) list) → get_or list k 0 < MOST_LEAVES
front_has list k i past within small =
    let there = read_member (take (i + 1) list) k (omega (arith, past, within, length-take-le (i + 1) list (omega (arith, within)))) in
    subst (λ n. n < MOST_LEAVES) (get_or-take (i + 1) list k 0 (omega (arith, past))) (each_member (λ n. n < MOST_LEAVES) (take (i + 1) list) small (get_or (take (i + 1) list) k 0) there)

-- ---- leaf by leaf along a list

pub record IsFollowing {w : ℕ} (p : Planned) (list : List ℕ) (k : ℕ) (sides : CutSides w) : Type 0 where
  pub each : (i : ℕ) → i < k → MayComeNext p (λ n. n ∈ take i list) (get_or list i 0)
  pub own : (n : ℕ) → n ∈ take k list → n ∈ leaves p.process
  pub tell : TellIn p (λ n. n ∈ take k list) sides

pub table_small : {w : ℕ} (p : Planned) (t : Table w) → IsTableOf p t → Each (λ n. n < 64 * w) (leaves p.process)
table_small {w} p t table = subst (λ (l : List ℕ). Each (λ n. n < 64 * w) l) table.fields.listed table.within

module _ {w : ℕ} (p : Planned) (list : List ℕ) (k : ℕ) (sides : CutSides w) (following : IsFollowing p list k sides) where
  pub may_next : (leaf : ℕ) (answer : Bool) →
      ((done : ℕ → Bool) → TellIn p (λ x. IsTrue (done x)) sides → IsTrue answer ↔ MayComeNext p (λ x. IsTrue (done x)) leaf) → IsTrue answer ↔ MayComeNext p (λ n. n ∈ take k list) leaf
  may_next leaf answer says =
      let test = is_in (take k list) in
      let told = says test (tell_same p (λ n. n ∈ take k list) (λ n. IsTrue (test n)) sides (λ n. ((member_test (take k list) n).1, (member_test (take k list) n).0)) following.tell) in (
        λ h. same_folded_ready p.process (pairs_of p.tokens) (λ n. IsTrue (test n)) (λ n. n ∈ take k list) leaf (λ n. (member_test (take k list) n).0) (λ n. (member_test (take k list) n).1) (told.0 h),
        λ may. told.1 (same_folded_ready p.process (pairs_of p.tokens) (λ n. n ∈ take k list) (λ n. IsTrue (test n)) leaf (λ n. (member_test (take k list) n).1) (λ n. (member_test (take k list) n).0) may),
      )

  pub is_done : (answer : Bool) → length list ≤ k →
      ((done : ℕ → Bool) → TellIn p (λ x. IsTrue (done x)) sides → IsTrue answer ↔ IsFinished p.process (λ x. IsTrue (done x))) → IsTrue answer ↔ IsFinished p.process (λ n. n ∈ list)
  is_done answer past says =
      let test = is_in list in
      let tell = subst (λ (l : List ℕ). TellIn p (λ n. n ∈ l) sides) (take_all k list past) following.tell in
      let told = says test (tell_same p (λ n. n ∈ list) (λ n. IsTrue (test n)) sides (λ n. ((member_test list n).1, (member_test list n).0)) tell) in (
        λ h. finished_more p.process (λ n. IsTrue (test n)) (λ n. n ∈ list) (λ n m. (member_test list n).0) (told.0 h),
        λ f. told.1 (finished_more p.process (λ n. n ∈ list) (λ n. IsTrue (test n)) (λ n m. (member_test list n).1) f),
      )

  pub following_more : (course : Course) (new : CutSides w) → k < length list → Each (λ n. n < 64 * w) (leaves p.process) → IsCourse p list course →
      MayComeNext p (λ n. n ∈ take k list) (get_or list k 0) → IsAdvanced (slice_get course.turns.items k) (get_or list k 0) sides new → IsFollowing p list (k + 1) new
  following_more course new within small is may moved = record {
    each = below_more (λ i. MayComeNext p (λ n. n ∈ take i list) (get_or list i 0)) k following.each may;
    own = own_more;
    tell = advanced p (λ n. n ∈ take k list) (λ n. n ∈ take (k + 1) list) (slice_get course.turns.items k) (get_or list k 0) sides new small (mem_more list k within)
        (is.turns k within (each_from_members (λ n. n < MOST_LEAVES) (take (k + 1) list) (λ n m. each_member (λ n. n < MOST_LEAVES) (leaves p.process) is.small n (own_more n m)))) moved following.tell;
  }
    where
      own_more : (n : ℕ) → n ∈ take (k + 1) list → n ∈ leaves p.process
      own_more n m = ⊎_elim (following.own n) (λ same. subst (λ x. x ∈ leaves p.process) (sym same) may.leaf) ((mem_more list k within n).0 m)

  -- all of it
  pub followed_all : length list ≤ k → AreFollowed p list (length list)
  followed_all past = record { within = omega arith; each = λ i less. following.each i (omega (arith, less, past)); no_longer = λ less. absurd (omega (arith, less)) }

  -- up to a leaf that may not come next
  pub followed_to : k < length list → ¬ (MayComeNext p (λ n. n ∈ take k list) (get_or list k 0)) → AreFollowed p list k
  followed_to within stops = record { within = omega (arith, within); each = following.each; no_longer = λ less. stops }

pub following_none : {w : ℕ} (p : Planned) (list : List ℕ) (course : Course) (sides : CutSides w) → Each (λ n. n < 64 * w) (leaves p.process) → IsCourse p list course →
    IsCut course.start.done sides.done → IsCut course.start.settled sides.settled → IsCut course.start.closed sides.closed → IsFollowing p list 0 sides
following_none p list course sides small is done settled closed = record {
  each = λ i less. absurd (omega (arith, less));
  own = λ n m. absurd m;
  tell = tell_narrow p (λ n. n ∈ []) course.start sides small done settled closed is.start;
}
