-- Numbers that are marked, one after another.
use Rattle.std.proofs.Common.{◌≡◌, ◌-◌, ◌==◌, ◌||◌, ◌↔◌, ◌⊎◌, ℕ, Bool, false, IsTrue, List, [], ◌∷◌, ◌++◌, length, get_or, slice_get, Some, inl, inr, ⊎_elim, sym, ap, ◌∙◌, subst, arith, true≢false}
use Rattle.std.proofs.lemmas.Bool.{eqb-true, eq-eqb, or_cases, or_left, or_right}
use Rattle.std.proofs.lemmas.List.{nil_from_length}
use Rattle.flow_model.specs.Lists.{◌∈◌, AreDistinct}
use Rattle.flow_model.proofs.Lists.{mem-slice_get, mem-append, mem_append_left, mem_here, only_one}
use Rattle.flow_policy.proofs.FirstLemmas.{number_at}
use Rattle.flow_case.specs.declared.kind.Kind.TheVariants.{Final}
use Rattle.flow_case.specs.Reading.{Given, is_kind, names_given}
use Rattle.flow_case.specs.Rules.{IsMarked}
use Rattle.flow_case.specs.RulesOf.{IsFinalIn, IsUser, IsGivenTo, HasRight, AreFinals, HaveRight}
use Rattle.flow_case.proofs.NameSteps.{names_with, names_without}

-- the number is marked, and no other more
abbrev pub Marks : ℕ → List Bool → List Bool → Type 0
Marks number old new = (k : ℕ) → get_or new k false ≡ (number == k || get_or old k false)

marked_more : (number : ℕ) (old new : List Bool) (P : ℕ → Type 0) → Marks number old new → P number → ((k : ℕ) → P k → number ≡ k) → (k : ℕ) → IsMarked new k ↔ (P k ⊎ IsMarked old k)
marked_more number old new P marks there one k = (
  λ h. ⊎_elim (λ same. inl (subst P (eqb-true number k same) there)) (λ d. inr d) (or_cases (number == k) (get_or old k false) (sym (marks k) ∙ h)),
  λ either. marks k ∙ ⊎_elim (λ p. or_left (number == k) (get_or old k false) (eq-eqb number k (one k p))) (λ d. or_right (number == k) (get_or old k false) d) either,
)

none_more : (old : List Bool) (P : ℕ → Type 0) → ((k : ℕ) → ¬ (P k)) → (k : ℕ) → IsMarked old k ↔ (P k ⊎ IsMarked old k)
none_more old P none k = (λ h. inr h, λ either. ⊎_elim (λ p. absurd (none k p)) (λ d. d) either)

-- a name has one place
one_place : (names : List (List ℕ)) (n : List ℕ) (i k : ℕ) → AreDistinct names → slice_get names i ≡ Some n → slice_get names k ≡ Some n → i ≡ k
one_place names n i k d at other = sym (number_at names n i d at) ∙ number_at names n k d other

pub event_marked : (events : List (List ℕ)) (n : List ℕ) (number : ℕ) (old new : List Bool) → AreDistinct events → slice_get events number ≡ Some n → Marks number old new →
    (event : ℕ) → IsMarked new event ↔ ((slice_get events event ≡ Some n) ⊎ IsMarked old event)
event_marked events n number old new d at marks =
    marked_more number old new (λ k. slice_get events k ≡ Some n) marks at (λ k other. one_place events n number k d at other)

pub no_event : (events : List (List ℕ)) (n : List ℕ) (old : List Bool) → ¬ (n ∈ events) → (event : ℕ) → IsMarked old event ↔ ((slice_get events event ≡ Some n) ⊎ IsMarked old event)
no_event events n old none = none_more old (λ k. slice_get events k ≡ Some n) (λ k at. none (mem-slice_get events k n at))

pub user_marked : (users : List (List ℕ)) (n : List ℕ) (number : ℕ) (old new : List Bool) → AreDistinct users → IsUser users number n → Marks number old new →
    (user : ℕ) → IsMarked new user ↔ (IsUser users user n ⊎ IsMarked old user)
user_marked users n number old new d at marks = marked_more number old new (λ k. IsUser users k n) marks at one
  where
    one : (k : ℕ) → IsUser users k n → number ≡ k
    one k other =
        let same : number - 1 ≡ k - 1 = one_place users n (number - 1) (k - 1) d at.1 other.1 in
        omega (arith, same, at.0, other.0)

pub no_user : (users : List (List ℕ)) (n : List ℕ) (old : List Bool) → ¬ (n ∈ users) → (user : ℕ) → IsMarked old user ↔ (IsUser users user n ⊎ IsMarked old user)
no_user users n old none = none_more old (λ k. IsUser users k n) (λ k at. none (mem-slice_get users (k - 1) n at.1))

-- nothing is marked in an empty table
unmarked : (marks : List Bool) (k : ℕ) → marks ≡ [] → ¬ (IsMarked marks k)
unmarked marks k e h = true≢false (sym h ∙ ap (λ l. get_or l k false) e)

pub no_finals : (events : List (List ℕ)) (marks : List Bool) → marks ≡ [] → AreFinals events [] marks
no_finals events marks e = record { marked = λ event. (λ m. absurd (unmarked marks event e m), λ (n, m, at). absurd m) }

-- one name more
named_more : (events names : List (List ℕ)) (n : List ℕ) (event : ℕ) → IsFinalIn (names ++ n ∷ []) events event ↔ ((slice_get events event ≡ Some n) ⊎ IsFinalIn names events event)
named_more events names n event = (
  λ (x, m, at). ⊎_elim (λ k. inr (x, k, at)) (λ k. inl (at ∙ ap Some (only_one x n k))) (mem-append x names (n ∷ []) m),
  λ either. ⊎_elim (λ at. (n, mem_here n names [], at)) (λ (x, m, at). (x, mem_append_left x names (n ∷ []) m, at)) either,
)

-- what is marked is what is wanted, after one more
one_more : (Before One After : ℕ → Type 0) (old new : List Bool) → ((k : ℕ) → After k ↔ (One k ⊎ Before k)) → ((k : ℕ) → IsMarked new k ↔ (One k ⊎ IsMarked old k)) →
    ((k : ℕ) → IsMarked old k ↔ Before k) → (k : ℕ) → IsMarked new k ↔ After k
one_more Before One After old new parts marked so_far k = (
  λ m. (parts k).1 (⊎_elim inl (λ was. inr ((so_far k).0 was)) ((marked k).0 m)),
  λ h. (marked k).1 (⊎_elim inl (λ was. inr ((so_far k).1 was)) ((parts k).0 h)),
)

pub final_marked : (events : List (List ℕ)) (so_far : List Given) (g : Given) (old new : List Bool) → IsTrue (is_kind Final g.kind) →
    ((event : ℕ) → IsMarked new event ↔ ((slice_get events event ≡ Some g.name) ⊎ IsMarked old event)) → AreFinals events so_far old → AreFinals events (so_far ++ g ∷ []) new
final_marked events so_far g old new is marked before =
    let all = one_more (IsFinalIn (names_given Final so_far) events) (λ k. slice_get events k ≡ Some g.name) (IsFinalIn (names_given Final so_far ++ g.name ∷ []) events) old new
    (named_more events (names_given Final so_far) g.name) marked before.marked in
    record { marked = subst (λ names. (event : ℕ) → IsMarked new event ↔ IsFinalIn names events event) (sym (names_with Final so_far g is)) all }

pub final_passed : (events : List (List ℕ)) (so_far : List Given) (g : Given) (marks : List Bool) → is_kind Final g.kind ≡ false → AreFinals events so_far marks →
    AreFinals events (so_far ++ g ∷ []) marks
final_passed events so_far g marks is before =
    record { marked = subst (λ names. (event : ℕ) → IsMarked marks event ↔ IsFinalIn names events event) (sym (names_without Final so_far g is)) before.marked }

-- Rights

abbrev Pair : Type 0
Pair = List ℕ × List ℕ

pub no_rights : (named users : List (List ℕ)) (marks : List Bool) → marks ≡ [] → HaveRight named users [] marks
no_rights named users marks e user = (λ m. absurd (unmarked marks user e m), λ (name, role, m, is, has). absurd m)

-- one member more

rights_more : (named users : List (List ℕ)) (members : List Pair) (m : Pair) → IsGivenTo named m.1 → (user : ℕ) →
    HasRight named (members ++ m ∷ []) users user ↔ (IsUser users user m.0 ⊎ HasRight named members users user)
rights_more named users members m right user = (
  λ (name, role, h, is, has). ⊎_elim (λ k. inr (name, role, k, is, has)) (λ k. inl (subst (IsUser users user) (ap (λ (p : Pair). p.0) (only_one (name, role) m k)) is))
      (mem-append (name, role) members (m ∷ []) h),
  λ either. ⊎_elim (λ is. (m.0, m.1, mem_here m members [], is, right)) (λ (name, role, h, is, has). (name, role, mem_append_left (name, role) members (m ∷ []) h, is, has)) either,
)

rights_same : (named users : List (List ℕ)) (members : List Pair) (m : Pair) → ¬ (IsGivenTo named m.1) → (user : ℕ) →
    HasRight named (members ++ m ∷ []) users user ↔ HasRight named members users user
rights_same named users members m none user = (
  λ (name, role, h, is, has). ⊎_elim (λ k. (name, role, k, is, has)) (λ k. absurd (none (subst (IsGivenTo named) (ap (λ (p : Pair). p.1) (only_one (name, role) m k)) has)))
      (mem-append (name, role) members (m ∷ []) h),
  λ (name, role, h, is, has). (name, role, mem_append_left (name, role) members (m ∷ []) h, is, has),
)

pub right_marked : (named users : List (List ℕ)) (so_far : List Pair) (m : Pair) (old new : List Bool) → IsGivenTo named m.1 →
    ((user : ℕ) → IsMarked new user ↔ (IsUser users user m.0 ⊎ IsMarked old user)) → HaveRight named users so_far old → HaveRight named users (so_far ++ m ∷ []) new
right_marked named users so_far m old new right marked before =
    one_more (HasRight named so_far users) (λ k. IsUser users k m.0) (HasRight named (so_far ++ m ∷ []) users) old new (rights_more named users so_far m right) marked before

pub right_passed : (named users : List (List ℕ)) (so_far : List Pair) (m : Pair) (marks : List Bool) → ¬ (IsGivenTo named m.1) → HaveRight named users so_far marks →
    HaveRight named users (so_far ++ m ∷ []) marks
right_passed named users so_far m marks none before user =
    let same = rights_same named users so_far m none user in
    (λ h. same.1 ((before user).0 h), λ h. (before user).1 (same.0 h))

pub to_named : (named : List (List ℕ)) (k : ℕ) (role : List ℕ) → slice_get named k ≡ Some role → IsGivenTo named role
to_named named k role at = inr (mem-slice_get named k role at)

pub to_none : (named : List (List ℕ)) (count : ℕ) (role : List ℕ) → ¬ (count ≡ 0) → count ≡ length named → ¬ (role ∈ named) → ¬ (IsGivenTo named role)
to_none named count role some is out (inl none) = some (is ∙ ap length none)
to_none named count role some is out (inr m) = out m

-- a right that is given to no role by name is given to each
pub to_all : (named : List (List ℕ)) (count : ℕ) (role : List ℕ) → count ≡ 0 → count ≡ length named → IsGivenTo named role
to_all named count role none is = inl (nil_from_length named (sym is ∙ none))
