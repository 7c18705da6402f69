-- Leaves that are numbered onwards from a number.
use Rattle.std.proofs.Common.{◌≡◌, ◌≤◌, ℕ, zero, suc, ◌+◌, List, [], ◌∷◌, ◌++◌, Option, Some, None, Bool, true, false, cond, nat_lt, nat_eq, refl, sym, ap, ◌∙◌, arith, ◌↔◌, IsTrue}
use Rattle.std.proofs.lemmas.Bool.{eqb-true, eq-eqb, lt-ltb}
use Rattle.std.specs.Option.{option_and_then}
use Rattle.flow_model.specs.Lists.{numbers_from}
use Rattle.flow_model.specs.Process.{IsNumbered, Process, Empty, Task, Sequence, Parallel, Choice, Isolated, leaves}
use Rattle.flow_goal.specs.Numbering.{number_after}
use Rattle.std.proofs.lemmas.Option.{same_Some}

-- numbers in a row, and then the next ones
pub numbers_from-+ : (first m n : ℕ) → numbers_from first (m + n) ≡ numbers_from first m ++ numbers_from (first + m) n
numbers_from-+ first zero n = ap (λ k. numbers_from first k) (omega arith) ∙ ap (λ a. numbers_from a n) (omega arith)
numbers_from-+ first (suc m) n =
    let e : suc m + n ≡ suc (m + n) = omega arith in
    let f : first + 1 + m ≡ first + suc m = omega arith in
    ap (λ k. numbers_from first k) e ∙ ap (λ xs. first ∷ xs) (numbers_from-+ (first + 1) m n ∙ ap (λ a. numbers_from (first + 1) m ++ numbers_from a n) f)

-- both parts of a row of numbers are rows
pub record AreRows (front back : List ℕ) (first count : ℕ) : Type 0 where
  pub left : ℕ
  pub right : ℕ
  pub together : left + right ≡ count
  pub front_is : front ≡ numbers_from first left
  pub back_is : back ≡ numbers_from (first + left) right

pub rows : (front back : List ℕ) (first count : ℕ) → front ++ back ≡ numbers_from first count → AreRows front back first count
rows [] back first count e = record { left = 0; right = count; together = omega arith; front_is = refl; back_is = e ∙ ap (λ a. numbers_from a count) (omega arith) }
rows (x ∷ front) back first zero e = cc
rows (x ∷ front) back first (suc count) e =
    let heads : x ≡ first = cc in
    let tails : front ++ back ≡ numbers_from (first + 1) count = cc in
    let r : AreRows front back (first + 1) count = rows front back (first + 1) count tails in
    record {
      left = suc r.left;
      right = r.right;
      together = let t : r.left + r.right ≡ count = r.together in omega arith;
      front_is = let f : front ≡ numbers_from (first + 1) r.left = r.front_is in cc;
      back_is = r.back_is ∙ ap (λ a. numbers_from a r.right) (omega arith);
    }

-- what the count says of the leaves
pub record IsNumberedBetween (g : Process) (next stop : ℕ) : Type 0 where
  pub count : ℕ
  pub stops : stop ≡ next + count
  pub row : leaves g ≡ numbers_from next count

both_rows : (g a b : Process) (next middle stop : ℕ) → leaves g ≡ leaves a ++ leaves b → IsNumberedBetween a next middle → IsNumberedBetween b middle stop → IsNumberedBetween g next stop
both_rows g a b next middle stop is p q = record {
  count = p.count + q.count;
  stops = let e : middle ≡ next + p.count = p.stops in let f : stop ≡ middle + q.count = q.stops in omega arith;
  row = is ∙ ap (λ xs. xs ++ leaves b) p.row ∙ ap (λ ys. numbers_from next p.count ++ ys) (q.row ∙ ap (λ k. numbers_from k q.count) p.stops)
      ∙ sym (numbers_from-+ next p.count q.count);
}

-- what a step that may fail gave
pub bound : {A B : Type 0} (o : Option A) (f : A → Option B) (y : B) → option_and_then f o ≡ Some y → (x : A) × (o ≡ Some x) × (f x ≡ Some y)
bound None f y e = cc
bound (Some x) f y e = (x, refl, e)

task_row : (n next last stop : ℕ) (b c : Bool) → nat_eq n next ≡ b → nat_lt next last ≡ c →
    cond b (cond c (Some (next + 1)) None) None ≡ Some stop → IsNumberedBetween (Task n) next stop
task_row n next last stop true true e f h = record { count = 1; stops = sym (same_Some (next + 1) stop h); row = ap (λ x. x ∷ []) (eqb-true n next e) }
task_row n next last stop true false e f h = cc
task_row n next last stop false c e f h = cc

two_rows : (g a b : Process) (next last stop : ℕ) → leaves g ≡ leaves a ++ leaves b → ((middle : ℕ) → number_after a next last ≡ Some middle → IsNumberedBetween a next middle) →
    ((middle : ℕ) → number_after b middle last ≡ Some stop → IsNumberedBetween b middle stop) →
    option_and_then (λ middle. number_after b middle last) (number_after a next last) ≡ Some stop → IsNumberedBetween g next stop
two_rows g a b next last stop is p q h =
    let (m, e, f) = bound (number_after a next last) (λ middle. number_after b middle last) stop h in
    both_rows g a b next m stop is (p m e) (q m f)

-- where the count ends, the leaves are a row up to there
pub is_row : (g : Process) (next last stop : ℕ) → number_after g next last ≡ Some stop → IsNumberedBetween g next stop
is_row Empty next last stop h = record { count = 0; stops = sym (same_Some next stop h) ∙ omega arith; row = refl }
is_row (Task n) next last stop h = task_row n next last stop (nat_eq n next) (nat_lt next last) refl refl h
is_row (Sequence a b) next last stop h = two_rows (Sequence a b) a b next last stop refl (λ m. is_row a next last m) (λ m. is_row b m last stop) h
is_row (Parallel a b) next last stop h = two_rows (Parallel a b) a b next last stop refl (λ m. is_row a next last m) (λ m. is_row b m last stop) h
is_row (Choice a b) next last stop h = two_rows (Choice a b) a b next last stop refl (λ m. is_row a next last m) (λ m. is_row b m last stop) h
is_row (Isolated a) next last stop h =
    let r = is_row a next last stop h in
    record { count = r.count; stops = r.stops; row = r.row }

-- the count reaches the end of a row
abbrev Reaches : Process → Type 0
Reaches g = (next count last : ℕ) → leaves g ≡ numbers_from next count → next + count ≤ last → number_after g next last ≡ Some (next + count)

pub one_leaf : (n next count : ℕ) → n ∷ [] ≡ numbers_from next count → (n ≡ next) × (count ≡ 1)
one_leaf n next zero e = cc
one_leaf n next (suc zero) e = (cc, omega arith)
one_leaf n next (suc (suc count)) e = cc

no_leaf : (next count : ℕ) → [] ≡ numbers_from next count → count ≡ 0
no_leaf next zero e = refl
no_leaf next (suc count) e = cc

two_reach : (a b : Process) → Reaches a → Reaches b → (next count last : ℕ) → leaves a ++ leaves b ≡ numbers_from next count → next + count ≤ last →
    option_and_then (λ middle. number_after b middle last) (number_after a next last) ≡ Some (next + count)
two_reach a b ra rb next count last e le =
    let r : AreRows (leaves a) (leaves b) next count = rows (leaves a) (leaves b) next count e in
    let t : r.left + r.right ≡ count = r.together in
    let le-a : next + r.left ≤ last = omega arith in
    let le-b : next + r.left + r.right ≤ last = omega arith in
    let same : next + r.left + r.right ≡ next + count = omega arith in
    ap (option_and_then (λ middle. number_after b middle last)) (ra next r.left last r.front_is le-a)
    ∙ rb (next + r.left) r.right last r.back_is le-b ∙ ap (λ k. Some k) same

pub reaches : (g : Process) → Reaches g
reaches Empty next count last e le = let z : count ≡ 0 = no_leaf next count e in ap (λ k. Some k) (omega arith)
reaches (Task n) next count last e le =
    let o : (n ≡ next) × (count ≡ 1) = one_leaf n next count e in
    let same : nat_eq n next ≡ true = eq-eqb n next o.0 in
    let below : nat_lt next last ≡ true = lt-ltb next last (let c : count ≡ 1 = o.1 in omega arith) in
    let stop : next + 1 ≡ next + count = let c : count ≡ 1 = o.1 in omega arith in
    ap (λ b. cond b (cond (nat_lt next last) (Some (next + 1)) None) None) same ∙ ap (λ b. cond b (Some (next + 1)) None) below ∙ ap (λ k. Some k) stop
reaches (Sequence a b) next count last e le = two_reach a b (reaches a) (reaches b) next count last e le
reaches (Parallel a b) next count last e le = two_reach a b (reaches a) (reaches b) next count last e le
reaches (Choice a b) next count last e le = two_reach a b (reaches a) (reaches b) next count last e le
reaches (Isolated a) next count last e le = reaches a next count last e le

-- a goal is numbered with so many leaves exactly where the count from 0 ends there
pub numbered_iff : (g : Process) (count : ℕ) → (number_after g 0 count ≡ Some count) ↔ (leaves g ≡ numbers_from 0 count)
numbered_iff g count = (
  (λ h. let r : IsNumberedBetween g 0 count = is_row g 0 count count h in
      r.row ∙ ap (λ k. numbers_from 0 k) (let s : count ≡ 0 + r.count = r.stops in omega arith)),
  (λ e. reaches g 0 count count e (omega arith) ∙ ap (λ k. Some k) (omega arith)),
)

-- where the count stopped, it stopped at the end exactly for a goal with so many leaves
pub stopped : (g : Process) (count stop : ℕ) → Some stop ≡ number_after g 0 count → IsTrue (nat_eq stop count) ↔ IsNumbered g count
stopped g count stop h = (
  (λ t. (numbered_iff g count).0 (sym h ∙ ap (λ k. Some k) (eqb-true stop count t))),
  (λ e. eq-eqb stop count (same_Some stop count (h ∙ (numbered_iff g count).1 e))),
)

-- where it failed, the goal has not so many leaves
pub failed : (g : Process) (count : ℕ) → None ≡ number_after g 0 count → IsTrue false ↔ IsNumbered g count
failed g count h = ((λ t. let e : false ≡ true = t in cc), (λ e. let f : None ≡ Some count = h ∙ (numbered_iff g count).1 e in cc))
