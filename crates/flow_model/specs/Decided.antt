-- Whether leaves may follow a journal in every order, as a test. A reader needs `Decided`, `told` and, at the end,
-- `can_all_follow`: nothing is known of the answer but what its type says. Between them stands why it can be told: a workflow
-- has few options, a goal few executions and a list few orders, and all of them are gone through.
use Rattle.std.specs.Prelude.{◌≡◌, ℕ, zero, suc, Bool, true, false, List, [], ◌∷◌, ◌++◌, length, ◌⊎◌}
use Rattle.std.proofs.Common.{refl, sym, ap, ◌∙◌, subst, inl, inr, ⊎_elim}
use Rattle.std.proofs.lemmas.Bool.{cases_eq}
use mathlib.Core.List.{List-discrete}
use native.Mathlib.Decide.{ℕ_discrete}
use Rattle.flow_model.specs.Lists.{◌∈◌, Each, Begins, StandsBefore, AreInOrder, IsOrderOf, joined}
use Rattle.flow_model.specs.Process.{Process, Empty, Task, Sequence, Parallel, Choice, Isolated}
use Rattle.flow_model.specs.Trace.{Shuffle, both_end, from_left, from_right, as_one, Blocks, Trace}
use Rattle.flow_model.specs.Facts.{events_of}
use Rattle.flow_model.specs.Constraint.{Constraint, Always, Impossible, Must, Never, Order, Not, And, Or, HappenInOrder, Meets}
use Rattle.flow_model.specs.Schema.{Schema, IsGood}
use Rattle.flow_model.specs.Resolution.{ChoiceOption, options}
use Rattle.flow_model.specs.RunState.{RunState, first_state, IsFree, MayFollow, MayAllFollow}

-- it holds or it does not, and which is known
abbrev pub Decided : Type 0 → Type 0
Decided P = P ⊎ ¬ P

-- whether it holds
abbrev pub told : {P : Type 0} → Decided P → Bool
told (inl p) = true
told (inr n) = false

decide_as : {P Q : Type 0} → Decided P → (P → Q) → (Q → P) → Decided Q
decide_as (inl p) to from = inl (to p)
decide_as (inr n) to from = inr (λ q. n (from q))

pub decide_not : {P : Type 0} → Decided P → Decided (¬ P)
decide_not (inl p) = inr (λ n. n p)
decide_not (inr n) = inl n

pub decide_both : {P Q : Type 0} → Decided P → Decided Q → Decided (P × Q)
decide_both (inl p) (inl q) = inl (p, q)
decide_both (inl p) (inr n) = inr (λ h. n h.1)
decide_both (inr n) q = inr (λ h. n h.0)

pub decide_either : {P Q : Type 0} → Decided P → Decided Q → Decided (P ⊎ Q)
decide_either (inl p) q = inl (inl p)
decide_either (inr n) (inl q) = inl (inr q)
decide_either (inr n) (inr k) = inr (⊎_elim n k)

-- Numbers and lists

pub decide_eq : (x y : ℕ) → Decided (x ≡ y)
decide_eq x y = cases_eq x y

pub decide_list_eq : (x y : List ℕ) → Decided (x ≡ y)
decide_list_eq x y = elim (List-discrete ℕ_discrete x y) [ yes e ↦ inl e | no n ↦ inr n ]

pub decide_mem : {A : Type 0} → ((x y : A) → Decided (x ≡ y)) → (x : A) (list : List A) → Decided (x ∈ list)
decide_mem d x [] = inr (λ h. h)
decide_mem d x (y ∷ list) = decide_either (d x y) (decide_mem d x list)

pub decide_in : (x : ℕ) (list : List ℕ) → Decided (x ∈ list)
decide_in x list = decide_mem decide_eq x list

pub decide_before : (x y : ℕ) (list : List ℕ) → Decided (StandsBefore x y list)
decide_before x y [] = inr (λ h. h)
decide_before x y (z ∷ list) = decide_either (decide_both (decide_eq x z) (decide_in y list)) (decide_before x y list)

decide_each : {A : Type 0} (P : A → Type 0) → ((x : A) → Decided (P x)) → (list : List A) → Decided (Each P list)
decide_each P d [] = inl tt
decide_each P d (x ∷ list) = decide_both (d x) (decide_each P d list)

pub decide_some : {A : Type 0} (P : A → Type 0) → ((x : A) → Decided (P x)) → (list : List A) → Decided ((x : A) × (x ∈ list) × P x)
decide_some P d [] = inr (λ h. h.1)
decide_some P d (y ∷ list) = decide_as (decide_either (d y) (decide_some P d list))
    (⊎_elim (λ p. (y, inl refl, p)) (λ (x, m, p). (x, inr m, p)))
    (λ (x, m, p). ⊎_elim (λ e. inl (subst P e p)) (λ k. inr (x, k, p)) m)

abbrev IsEmpty : {A : Type 0} → List A → Type 0
IsEmpty [] = Unit {0}
IsEmpty (x ∷ list) = ⊥

abbrev first_or : {A : Type 0} → A → List A → A
first_or x [] = x
first_or x (y ∷ list) = y

abbrev but_first : {A : Type 0} → List A → List A
but_first [] = []
but_first (x ∷ list) = list

pub cons_same : {A : Type 0} (x y : A) (xs ys : List A) → x ∷ xs ≡ y ∷ ys → (x ≡ y) × (xs ≡ ys)
cons_same x y xs ys e = (ap (first_or x) e, ap but_first e)

pub not_empty : {A : Type 0} (front : List A) (x : A) (back : List A) → ¬ ([] ≡ front ++ x ∷ back)
not_empty [] x back e = subst IsEmpty e tt
not_empty (y ∷ front) x back e = subst IsEmpty e tt

decide_begins : (list front : List ℕ) → Decided (Begins list front)
decide_begins list [] = inl (list, refl)
decide_begins [] (x ∷ front) = inr (λ (rest, e). not_empty [] x (front ++ rest) e)
decide_begins (y ∷ list) (x ∷ front) = decide_as (decide_both (decide_eq y x) (decide_begins list front))
    (λ (e, (rest, h)). (rest, λ i. e i ∷ h i))
    (λ (rest, h). let (e, k) = cons_same y x list (front ++ rest) h in (e, (rest, k)))

-- Orders of a list

-- P holds wherever a member is taken out of the list
abbrev EachCut : {A : Type 0} → List A → (List A → List A → A → Type 0) → Type 0
EachCut {A} list P = (front back : List A) (x : A) → list ≡ front ++ x ∷ back → P front back x

decide_cuts : {A : Type 0} (members : List A) (P : List A → List A → A → Type 0) →
    EachCut members (λ front back x. Decided (P front back x)) → Decided (EachCut members P)
decide_cuts [] P d = inl (λ front back x e. absurd (not_empty front x back e))
decide_cuts {A} (m ∷ members) P d = decide_as
    (decide_both (d [] members m refl)
    (decide_cuts members (λ front back x. P (m ∷ front) back x) (λ front back x e. d (m ∷ front) back x (ap (λ l. m ∷ l) e))))
    to (λ f. (f [] members m refl, λ front back x e. f (m ∷ front) back x (ap (λ l. m ∷ l) e)))
  where
    to : P [] members m × EachCut members (λ front back x. P (m ∷ front) back x) → EachCut (m ∷ members) P
    to (h, k) [] back x e =
        let (same, rest) = cons_same m x members back e in subst (λ l. P [] l x) rest (subst (P [] members) same h)
    to (h, k) (y ∷ front) back x e =
        let (same, rest) = cons_same m y members (front ++ x ∷ back) e in
        subst (λ z. P (z ∷ front) back x) same (k front back x rest)

abbrev one_less : ℕ → ℕ
one_less zero = zero
one_less (suc n) = n

abbrev IsNone : ℕ → Type 0
IsNone zero = Unit {0}
IsNone (suc n) = ⊥

length-cut : {A : Type 0} (front back : List A) (x : A) → length (front ++ x ∷ back) ≡ suc (length (front ++ back))
length-cut [] back x = refl
length-cut (y ∷ front) back x = ap suc (length-cut front back x)

pub order_of_none : {A : Type 0} (order : List A) → IsOrderOf order [] → order ≡ []
order_of_none [] h = refl
order_of_none (x ∷ order) (front, back, e, h) = absurd (not_empty front x back e)

abbrev ByFirst : {A : Type 0} → (List A → Type 0) → List A → List A → A → Type 0
ByFirst {A} P front back x = (order : List A) → IsOrderOf order (front ++ back) → P (x ∷ order)

decide_orders : {A : Type 0} (count : ℕ) (members : List A) (P : List A → Type 0) → length members ≡ count →
    ((order : List A) → Decided (P order)) → Decided ((order : List A) → IsOrderOf order members → P order)
decide_orders zero [] P e d = decide_as (d []) (λ p order h. subst P (sym (order_of_none order h)) p) (λ f. f [] refl)
decide_orders zero (m ∷ members) P e d = absurd (subst IsNone (sym e) tt)
decide_orders (suc count) [] P e d = absurd (subst IsNone e tt)
decide_orders {A} (suc count) (m ∷ members) P e d = decide_as
    (decide_cuts (m ∷ members) (ByFirst P)
    (λ front back x cut. decide_orders count (front ++ back) (λ order. P (x ∷ order))
    (ap one_less (sym (length-cut front back x) ∙ (sym (ap length cut) ∙ e))) (λ order. d (x ∷ order))))
    to (λ f front back x cut order h. f (x ∷ order) (front, back, cut, h))
  where
    to : EachCut (m ∷ members) (ByFirst P) → (order : List A) → IsOrderOf order (m ∷ members) → P order
    to k [] h = absurd (not_empty [] m members (sym h))
    to k (x ∷ order) (front, back, cut, h) = k front back x cut order h

-- Executions

abbrev SomeShuffle : {A : Type 0} → List A → List A → (List A → Type 0) → Type 0
SomeShuffle {A} a b P = (c : List A) × Shuffle a b c × P c

pub shuffle_right : {A : Type 0} (b : List A) → Shuffle [] b b
shuffle_right [] = both_end
shuffle_right (y ∷ b) = from_right (shuffle_right b)

shuffled_with_none : {A : Type 0} (P : List A → Type 0) {b c : List A} → Shuffle [] b c → P c → P b
shuffled_with_none P both_end p = p
shuffled_with_none P (from_right {x} s) p = shuffled_with_none (λ c. P (x ∷ c)) s p

-- where one list still has a member before a and the other is b
decide_after : {A : Type 0} (x : A) (a : List A) →
    ((b : List A) (P : List A → Type 0) → ((c : List A) → Decided (P c)) → Decided (SomeShuffle a b P)) →
    (b : List A) (P : List A → Type 0) → ((c : List A) → Decided (P c)) → Decided (SomeShuffle (x ∷ a) b P)
decide_after {A} x a left [] P d = decide_as (left [] (λ c. P (x ∷ c)) (λ c. d (x ∷ c))) (λ (c, s, p). (x ∷ c, from_left s, p)) from
  where
    from : SomeShuffle (x ∷ a) [] P → SomeShuffle a [] (λ c. P (x ∷ c))
    from (all, from_left {c = c} s, p) = (c, s, p)
decide_after {A} x a left (y ∷ b) P d = decide_as
    (decide_either (left (y ∷ b) (λ c. P (x ∷ c)) (λ c. d (x ∷ c))) (decide_after x a left b (λ c. P (y ∷ c)) (λ c. d (y ∷ c))))
    (⊎_elim (λ (c, s, p). (x ∷ c, from_left s, p)) (λ (c, s, p). (y ∷ c, from_right s, p))) from
  where
    from : SomeShuffle (x ∷ a) (y ∷ b) P → SomeShuffle a (y ∷ b) (λ c. P (x ∷ c)) ⊎ SomeShuffle (x ∷ a) b (λ c. P (y ∷ c))
    from (all, from_left {c = c} s, p) = inl (c, s, p)
    from (all, from_right {c = c} s, p) = inr (c, s, p)

decide_shuffles : {A : Type 0} (a b : List A) (P : List A → Type 0) → ((c : List A) → Decided (P c)) → Decided (SomeShuffle a b P)
decide_shuffles [] b P d = decide_as (d b) (λ p. (b, shuffle_right b, p)) (λ (c, s, p). shuffled_with_none P s p)
decide_shuffles (x ∷ a) b P d = decide_after x a (decide_shuffles a) b P d

abbrev SomeBlocks : Process → (List (List ℕ) → Type 0) → Type 0
SomeBlocks g P = (blocks : List (List ℕ)) × Blocks g blocks × P blocks

decide_blocks : (g : Process) (P : List (List ℕ) → Type 0) → ((blocks : List (List ℕ)) → Decided (P blocks)) → Decided (SomeBlocks g P)
decide_blocks Empty P d = decide_as (d []) (λ p. ([], refl, p)) (λ (blocks, e, p). subst P e p)
decide_blocks (Task n) P d = decide_as (d ((n ∷ []) ∷ [])) (λ p. ((n ∷ []) ∷ [], refl, p)) (λ (blocks, e, p). subst P e p)
decide_blocks (Sequence a b) P d = decide_as
    (decide_blocks a (λ x. SomeBlocks b (λ y. P (x ++ y))) (λ x. decide_blocks b (λ y. P (x ++ y)) (λ y. d (x ++ y))))
    (λ (x, h, (y, k, p)). (x ++ y, (x, y, h, k, refl), p)) (λ (blocks, (x, y, h, k, e), p). (x, h, (y, k, subst P e p)))
decide_blocks (Parallel a b) P d = decide_as
    (decide_blocks a (λ x. SomeBlocks b (λ y. SomeShuffle x y P)) (λ x. decide_blocks b (λ y. SomeShuffle x y P) (λ y. decide_shuffles x y P d)))
    (λ (x, h, (y, k, (blocks, s, p))). (blocks, (x, y, h, k, s), p)) (λ (blocks, (x, y, h, k, s), p). (x, h, (y, k, (blocks, s, p))))
decide_blocks (Choice a b) P d = decide_as (decide_either (decide_blocks a P d) (decide_blocks b P d))
    (⊎_elim (λ (blocks, h, p). (blocks, inl h, p)) (λ (blocks, h, p). (blocks, inr h, p)))
    (λ (blocks, h, p). ⊎_elim (λ k. inl (blocks, k, p)) (λ k. inr (blocks, k, p)) h)
decide_blocks (Isolated a) P d = decide_as (decide_blocks a (λ x. P (as_one x)) (λ x. d (as_one x)))
    (λ (x, h, p). (as_one x, (x, h, refl), p)) (λ (blocks, (x, h, e), p). (x, h, subst P e p))

decide_trace : (g : Process) (t : List ℕ) → Decided (Trace g t)
decide_trace g t = decide_blocks g (λ blocks. t ≡ joined blocks) (λ blocks. decide_list_eq t (joined blocks))

-- Constraints

decide_in_order : (order events : List ℕ) → Decided (HappenInOrder order events)
decide_in_order [] events = inl tt
decide_in_order (a ∷ []) events = decide_in a events
decide_in_order (a ∷ b ∷ more) events = decide_both (decide_before a b events) (decide_in_order (b ∷ more) events)

pub decide_meets : (c : Constraint) (events : List ℕ) → Decided (Meets c events)
decide_meets Always events = inl tt
decide_meets Impossible events = inr (λ h. h)
decide_meets (Must e) events = decide_in e events
decide_meets (Never e) events = decide_not (decide_in e events)
decide_meets (Order es) events = decide_in_order es events
decide_meets (Not c) events = decide_not (decide_meets c events)
decide_meets (And c d) events = decide_both (decide_meets c events) (decide_meets d events)
decide_meets (Or c d) events = decide_either (decide_meets c events) (decide_meets d events)

decide_good : (w : Schema) (t : List ℕ) → Decided (IsGood w t)
decide_good w t = decide_both (decide_trace w.goal t) (decide_each (λ rule. Meets rule (events_of w.labels t)) (λ rule. decide_meets rule (events_of w.labels t)) w.rules)

-- What may follow

decide_free : (w : Schema) (s : RunState) (t : List ℕ) → Decided (IsFree w s t)
decide_free w s t = decide_as
    (decide_both (decide_good w t)
    (decide_both (decide_begins t s.journal) (decide_each (λ ban. ¬ (ban.1 ∈ t)) (λ ban. decide_not (decide_in ban.1 t)) s.bans)))
    (λ (good, (begins, none)). (good, begins, none)) (λ (good, begins, none). (good, (begins, none)))

-- what besides a trace of the option's resolution must be
abbrev ContinuesJournal : Schema → RunState → ChoiceOption → List ℕ → List ℕ → Type 0
ContinuesJournal w s o next t = AreInOrder o.order t × (IsFree w s t × Begins t (s.journal ++ next))

decide_follow : (w : Schema) (s : RunState) (o : ChoiceOption) (next : List ℕ) → Decided (MayFollow w s o next)
decide_follow w s o next = decide_as
    (decide_blocks o.resolution (λ blocks. ContinuesJournal w s o next (joined blocks)) (λ blocks. let t = joined blocks in
    decide_both (decide_each (λ pair. StandsBefore pair.0 pair.1 t) (λ pair. decide_before pair.0 pair.1 t) o.order)
    (decide_both (decide_free w s t) (decide_begins t (s.journal ++ next)))))
    (λ (blocks, h, (order, (free, begins))). (joined blocks, ((blocks, h, refl), order), free, begins))
    (λ (t, ((blocks, h, e), order), free, begins). (blocks, h, subst (ContinuesJournal w s o next) e (order, (free, begins))))

-- a state of that journal and those bans: nothing else counts
abbrev at : List ℕ → List (ℕ × ℕ) → RunState
at journal bans = record first_state { journal = journal; bans = bans }

pub decide_all_follow : (w : Schema) (journal : List ℕ) (bans : List (ℕ × ℕ)) (list : List ℕ) → Decided (MayAllFollow w (at journal bans) list)
decide_all_follow w journal bans list =
    decide_some (λ o. (order : List ℕ) → IsOrderOf order list → MayFollow w (at journal bans) o order)
    (λ o. decide_orders (length list) list (λ order. MayFollow w (at journal bans) o order) refl
    (λ order. decide_follow w (at journal bans) o order)) (options w)

-- in some one option the leaves may follow in every order, as a test
abbrev pub can_all_follow : Schema → RunState → List ℕ → Bool
can_all_follow w s list = told (decide_all_follow w s.journal s.bans list)
