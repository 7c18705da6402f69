-- Current claims after an entry were current before, or are just given; what is known of who took them stays.
use Rattle.std.proofs.Common.{◌≡◌, ℕ, zero, suc, ◌+◌, ◌≤◌, not, ◌==◌, IsTrue, List, [], ◌∷◌, ◌++◌, length, map, slice_get, Some, find, refl, sym, ap, ◌∙◌, subst, inl, inr, ⊎_elim, ◌⊎◌, arith, true≢false}
use Rattle.std.proofs.lemmas.Bool.{cases_Bool, and_parts, eqb-true, eq-eqb, ne_eqb}
use Rattle.flow_model.specs.Lists.{◌∈◌, Each, numbers_from}
use Rattle.flow_model.specs.Schema.{Schema}
use Rattle.flow_model.specs.Run.{Claim, RunState, answer, is_current, spare}
use Rattle.flow_model.specs.Decided.{can_all_follow, cons_same}
use Rattle.flow_model.proofs.Lists.{mem-append}
use Rattle.flow_laws.proofs.ClaimLemmas.{number_of, is_of, answered, renewed, is_spared}
use Rattle.flow_model.proofs.MadeLists.{some_same}
use Rattle.flow_model.specs.Takers.{Taking, taking_of}

-- a claim of the list is unanswered, of that epoch, of that number and on that leaf
pub record IsAmong (epoch : ℕ) (claims : List Claim) (number leaf : ℕ) : Type 0 where
  pub claim : Claim
  pub given : claim ∈ claims
  pub current : IsTrue (is_of epoch claim)
  pub number_is : claim.number ≡ number
  pub leaf_is : claim.leaf ≡ leaf

first_is_among : (epoch : ℕ) (x : Claim) (xs : List Claim) (number leaf : ℕ) → IsTrue (is_of epoch x) → x.number ≡ number → x.leaf ≡ leaf → IsAmong epoch (x ∷ xs) number leaf
first_is_among epoch x xs number leaf c n l = record { claim = x; given = inl refl; current = c; number_is = n; leaf_is = l }

among_more : (epoch : ℕ) (x : Claim) (xs : List Claim) (number leaf : ℕ) → IsAmong epoch xs number leaf → IsAmong epoch (x ∷ xs) number leaf
among_more epoch x xs number leaf a = record { claim = a.claim; given = inr a.given; current = a.current; number_is = a.number_is; leaf_is = a.leaf_is }

-- the first of the list is it, or it is among the others
among_first : (epoch : ℕ) (x : Claim) (xs : List Claim) (number leaf : ℕ) → IsAmong epoch (x ∷ xs) number leaf →
    (IsTrue (is_of epoch x) × (x.number ≡ number) × (x.leaf ≡ leaf)) ⊎ IsAmong epoch xs number leaf
among_first epoch x xs number leaf a = ⊎_elim
    (λ e. inl (subst (λ (c : Claim). IsTrue (is_of epoch c) × (c.number ≡ number) × (c.leaf ≡ leaf)) e (a.current, a.number_is, a.leaf_is)))
    (λ m. inr (record { claim = a.claim; given = m; current = a.current; number_is = a.number_is; leaf_is = a.leaf_is })) a.given

pub among_answer : (epoch given : ℕ) (claims : List Claim) (number leaf : ℕ) → IsAmong epoch (answer given claims) number leaf → IsAmong epoch claims number leaf
among_answer epoch given [] number leaf a = absurd a.given
among_answer epoch given (x ∷ xs) number leaf a = elim (cases_Bool (x.number == given)) [
  | inl is ↦ ⊎_elim (λ h. absurd (true≢false (sym h.0)))
      (λ b. among_more epoch x xs number leaf (among_answer epoch given xs number leaf b))
      (among_first epoch (answered x) (answer given xs) number leaf (rw is at a))
  | inr other ↦ ⊎_elim (λ h. first_is_among epoch x xs number leaf h.0 h.1 h.2)
      (λ b. among_more epoch x xs number leaf (among_answer epoch given xs number leaf b))
      (among_first epoch x (answer given xs) number leaf (rw other at a))
]

pub among_append : (epoch : ℕ) (xs ys : List Claim) (number leaf : ℕ) → IsAmong epoch (xs ++ ys) number leaf → IsAmong epoch xs number leaf ⊎ IsAmong epoch ys number leaf
among_append epoch xs ys number leaf a = ⊎_elim
    (λ m. inl (record { claim = a.claim; given = m; current = a.current; number_is = a.number_is; leaf_is = a.leaf_is }))
    (λ m. inr (record { claim = a.claim; given = m; current = a.current; number_is = a.number_is; leaf_is = a.leaf_is }))
    (mem-append a.claim xs ys a.given)

-- of the epoch to come is only what was renewed
not_yet : (epoch : ℕ) (claim : Claim) → claim.epoch ≤ epoch → IsTrue (is_of (epoch + 1) claim) → ⊥
not_yet epoch claim old new =
    omega (arith, old, eqb-true claim.epoch (epoch + 1) (and_parts (not claim.answered) (claim.epoch == epoch + 1) new).1)

pub among_spared : (w : Schema) (s : RunState) (before : List ℕ) (claims : List Claim) (number leaf : ℕ) → Each (λ (claim : Claim). claim.epoch ≤ s.epoch) claims →
    IsAmong (s.epoch + 1) (spare w s before claims) number leaf → IsAmong s.epoch claims number leaf
among_spared w s before [] number leaf old a = absurd a.given
among_spared w s before (x ∷ xs) number leaf (o, old) a = elim (cases_Bool (is_spared w s before x)) [
  | inl is ↦ ⊎_elim
      (λ h. first_is_among s.epoch x xs number leaf (and_parts (is_current s x) (can_all_follow w s (before ++ x.leaf ∷ [])) is).0 h.1 h.2)
      (λ b. among_more s.epoch x xs number leaf (among_spared w s (before ++ x.leaf ∷ []) xs number leaf old b))
      (among_first (s.epoch + 1) (renewed s x) (spare w s (before ++ x.leaf ∷ []) xs) number leaf (rw is at a))
  | inr other ↦ ⊎_elim (λ h. absurd (not_yet s.epoch x o h.0))
      (λ b. among_more s.epoch x xs number leaf (among_spared w s before xs number leaf old b))
      (among_first (s.epoch + 1) x (spare w s before xs) number leaf (rw other at a))
]

-- What is known of who took claims

-- the claims are those of the takings: of the same numbers and leaves
abbrev pub AreThose : List Claim → List Taking → Type 0
AreThose [] [] = Unit {0}
AreThose [] (t ∷ ts) = ⊥
AreThose (c ∷ cs) [] = ⊥
AreThose (c ∷ cs) (t ∷ ts) = (c.number ≡ t.claim) × (c.leaf ≡ t.leaf) × AreThose cs ts

pub those_answer : (given : ℕ) (cs : List Claim) (ts : List Taking) → AreThose cs ts → AreThose (answer given cs) ts
those_answer given [] [] h = h
those_answer given [] (t ∷ ts) h = h
those_answer given (c ∷ cs) [] h = absurd h
those_answer given (c ∷ cs) (t ∷ ts) h = grind (arith, cases_Bool (c.number == given), h, those_answer given cs ts h.2)

pub those_spared : (w : Schema) (s : RunState) (before : List ℕ) (cs : List Claim) (ts : List Taking) → AreThose cs ts → AreThose (spare w s before cs) ts
those_spared w s before [] [] h = h
those_spared w s before [] (t ∷ ts) h = h
those_spared w s before (c ∷ cs) [] h = absurd h
those_spared w s before (c ∷ cs) (t ∷ ts) h =
    grind (arith, cases_Bool (is_spared w s before c), h, those_spared w s (before ++ c.leaf ∷ []) cs ts h.2, those_spared w s before cs ts h.2)

pub those_more : (cs : List Claim) (ts : List Taking) (c : Claim) (t : Taking) → AreThose cs ts → c.number ≡ t.claim → c.leaf ≡ t.leaf → AreThose (cs ++ c ∷ []) (ts ++ t ∷ [])
those_more [] [] c t h n l = (n, l, tt)
those_more [] (u ∷ ts) c t h n l = absurd h
those_more (d ∷ cs) [] c t h n l = absurd h
those_more (d ∷ cs) (u ∷ ts) c t h n l = (h.0, h.1, those_more cs ts c t h.2 n l)

-- the claim of a number is that of its taking
pub those_found : (cs : List Claim) (ts : List Taking) (number : ℕ) (c : Claim) → AreThose cs ts → find (λ (x : Claim). x.number == number) cs ≡ Some c →
    (t : Taking) × (taking_of ts number ≡ Some t) × (t.leaf ≡ c.leaf)
those_found [] ts number c h e = cc
those_found (d ∷ cs) [] number c h e = absurd h
those_found (d ∷ cs) (t ∷ ts) number c h e = elim (cases_Bool (d.number == number)) [
  | inl is ↦ (t, rw (← h.0, is) refl, sym h.1 ∙ ap (λ (x : Claim). x.leaf) (some_same d c (rw is at e)))
  | inr other ↦ (let (u, f, l) = those_found cs ts number c h.2 (rw other at e) in (u, rw (← h.0, other) f, l))
]

-- where claims are numbered in turn, the taking of a number stands at its place
pub those_at : (first : ℕ) (cs : List Claim) (ts : List Taking) (j n : ℕ) → AreThose cs ts → map number_of cs ≡ numbers_from first (length cs) → n ≡ first + j →
    taking_of ts n ≡ slice_get ts j
those_at first [] [] j n h numbered is = refl
those_at first [] (t ∷ ts) j n h numbered is = absurd h
those_at first (c ∷ cs) [] j n h numbered is = absurd h
those_at first (c ∷ cs) (t ∷ ts) zero n h numbered is =
    let both = cons_same c.number first (map number_of cs) (numbers_from (first + 1) (length cs)) numbered in
    let here : n ≡ first = omega arith in
    rw (eq-eqb t.claim n (sym h.0 ∙ both.0 ∙ sym here)) refl
those_at first (c ∷ cs) (t ∷ ts) (suc j) n h numbered is =
    let both = cons_same c.number first (map number_of cs) (numbers_from (first + 1) (length cs)) numbered in
    let here : t.claim ≡ first = sym h.0 ∙ both.0 in
    rw (ne_eqb t.claim n (omega arith)) (those_at (first + 1) cs ts j n h.2 both.1 (omega arith))

-- the taking at the place of a claim
pub those_there : (cs : List Claim) (ts : List Taking) (j : ℕ) (c : Claim) (by : ℕ) → AreThose cs ts → slice_get cs j ≡ Some c →
    slice_get (map (λ (t : Taking). t.taker) ts) j ≡ Some by → slice_get ts j ≡ Some (record { claim = c.number; leaf = c.leaf; taker = by })
those_there [] ts j c by h at taker = cc
those_there (x ∷ cs) [] j c by h at taker = absurd h
those_there (x ∷ cs) (t ∷ ts) zero c by h at taker =
    let same : x ≡ c = some_same x c at in
    let who : t.taker ≡ by = some_same t.taker by taker in
    λ i. Some (record { claim = (sym h.0 ∙ ap number_of same) i; leaf = (sym h.1 ∙ ap (λ (c : Claim). c.leaf) same) i; taker = who i })
those_there (x ∷ cs) (t ∷ ts) (suc j) c by h at taker = those_there cs ts j c by h.2 at taker

-- what is told of the leaves is the same of both
pub those_leaves : {A : Type 0} (f : ℕ → A) (cs : List Claim) (ts : List Taking) → AreThose cs ts → map (λ (t : Taking). f t.leaf) ts ≡ map (λ (c : Claim). f c.leaf) cs
those_leaves f [] [] h = refl
those_leaves f [] (t ∷ ts) h = absurd h
those_leaves f (c ∷ cs) [] h = absurd h
those_leaves f (c ∷ cs) (t ∷ ts) h = λ i. f (sym h.1 i) ∷ those_leaves f cs ts h.2 i
