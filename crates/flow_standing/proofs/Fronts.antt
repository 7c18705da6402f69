-- A history an entry at a time: the states of its fronts, and the leaves of its claims.
use Rattle.std.proofs.Common.{◌≡◌, ◌<◌, ◌+◌, ℕ, zero, suc, ◌==◌, List, [], ◌∷◌, ◌++◌, length, map, take, find, Option, Some, None, slice_get, refl, sym, ap, subst, ◌∙◌, arith, add-one, append-nil, get_or, filter_map}
use Rattle.std.proofs.lemmas.Bool.{ne_eqb, eq-eqb}
use Rattle.std.proofs.lemmas.List.{map-append}
use Rattle.std.proofs.lemmas.List.Elements.{filter_map-append}
use Rattle.std.proofs.lemmas.Option.{slice_get-get_or}
use Rattle.flow_standing.proofs.Places.{listed}
use Rattle.flow_model.specs.declared.history.Entry.{Entry}
use Rattle.flow_model.specs.declared.history.Step.{Step}
use Rattle.flow_model.specs.declared.history.Step.TheVariants.{Took, Done, Failed, Late, Did, Rewound, Committed}
use Rattle.flow_model.specs.Decided.{cons_same}
use Rattle.flow_model.specs.Lists.{numbers_from}
use Rattle.flow_model.specs.Schema.{Schema}
use Rattle.flow_model.specs.Takers.{Taking, Takings, takings_of, next_takings}
use Rattle.flow_model.specs.Run.{Claim, RunState, first_state, leaf_of_claim, claim_at, next_state, state_after, state_of, IsAllowed, IsLegal, IsLegalFrom}
use Rattle.flow_standing.specs.Following.{state_at, leaf_numbered, leaves_given, leaf_taken}
use Rattle.flow_laws.proofs.ClaimLemmas.{number_of}
use Rattle.flow_duty_laws.proofs.Kept.{takings_after-append}

-- one element more of a front
pub take_next : {A : Type 0} (list : List A) (k : ℕ) (x : A) → slice_get list k ≡ Some x → take (k + 1) list ≡ take k list ++ x ∷ []
take_next [] k x e = cc
take_next (y ∷ list) zero x e = let f : Some y ≡ Some x = e in let same : y ≡ x = cc in ap (λ z. z ∷ []) same
take_next (y ∷ list) (suc k) x e = rw add-one (ap (λ l. y ∷ l) (ap (λ n. take n list) (sym (add-one k)) ∙ take_next list k x e))

pub state_append : (w : Schema) (s : RunState) (history : List Entry) (entry : Entry) →
    state_after w s (history ++ entry ∷ []) ≡ next_state w (state_after w s history) entry.step
state_append w s [] entry = refl
state_append w s (e ∷ history) entry = state_append w (next_state w s e.step) history entry

module _ (w : Schema) (history : List Entry) (k : ℕ) (entry : Entry) (at : slice_get history k ≡ Some entry) where
  pub state_next : state_at w history (k + 1) ≡ next_state w (state_at w history k) entry.step
  state_next = ap (state_of w) (take_next history k entry at) ∙ state_append w first_state (take k history) entry

pub takings_next : (history : List Entry) (k : ℕ) (entry : Entry) → slice_get history k ≡ Some entry →
    takings_of (take (k + 1) history) ≡ next_takings (takings_of (take k history)) entry.by entry.step
takings_next history k entry at = ap takings_of (take_next history k entry at) ∙ takings_after-append _ (take k history) (entry ∷ [])

-- each entry is legal after those before it
allowed_from : (w : Schema) (limit : ℕ) (s : RunState) (made : ℕ) (history : List Entry) → IsLegalFrom w limit s made history →
    (k : ℕ) (entry : Entry) → slice_get history k ≡ Some entry → IsAllowed w (state_after w s (take k history)) entry.step
allowed_from w limit s made [] legal k entry at = cc
allowed_from w limit s made (e ∷ history) legal zero entry at =
    let f : Some e ≡ Some entry = at in let same : e ≡ entry = cc in subst (λ (x : Entry). IsAllowed w s x.step) same legal.2
allowed_from w limit s made (e ∷ history) legal (suc k) entry at = allowed_from w limit (next_state w s e.step) (made + 1) history legal.3 k entry at

pub allowed_at : (w : Schema) (limit : ℕ) (history : List Entry) → IsLegal w limit history → (k : ℕ) (entry : Entry) → slice_get history k ≡ Some entry →
    IsAllowed w (state_at w history k) entry.step
allowed_at w limit history legal k entry at = allowed_from w limit first_state 0 history legal k entry at

-- ---- the leaves of claims

-- the leaf of a claim, if there is one
abbrev leaf_in : Option Claim → ℕ
leaf_in None = 0
leaf_in (Some claim) = claim.leaf

abbrev pub leaf_of : Claim → ℕ
leaf_of claim = claim.leaf

leaf_found : (first : ℕ) (claims : List Claim) (i n : ℕ) → map number_of claims ≡ numbers_from first (length claims) → n ≡ first + i →
    leaf_in (find (λ (claim : Claim). claim.number == n) claims) ≡ get_or (map leaf_of claims) i 0
leaf_found first [] i n numbered is = refl
leaf_found first (c ∷ cs) zero n numbered is =
    let both = cons_same c.number first (map number_of cs) (numbers_from (first + 1) (length cs)) numbered in
    let here : c.number ≡ n = let f : c.number ≡ first = both.0 in omega arith in
    rw (eq-eqb c.number n here) refl
leaf_found first (c ∷ cs) (suc i) n numbered is =
    let both = cons_same c.number first (map number_of cs) (numbers_from (first + 1) (length cs)) numbered in
    let here : c.number ≡ first = both.0 in
    rw (ne_eqb c.number n (omega arith)) (leaf_found (first + 1) cs i n both.1 (omega arith))

none_numbered : (first : ℕ) (claims : List Claim) (n : ℕ) → map number_of claims ≡ numbers_from first (length claims) → n < first →
    leaf_in (find (λ (claim : Claim). claim.number == n) claims) ≡ 0
none_numbered first [] n numbered low = refl
none_numbered first (c ∷ cs) n numbered low =
    let both = cons_same c.number first (map number_of cs) (numbers_from (first + 1) (length cs)) numbered in
    let here : c.number ≡ first = both.0 in
    rw (ne_eqb c.number n (omega arith)) (none_numbered (first + 1) cs n both.1 (omega arith))

leaf_is : (s : RunState) (n : ℕ) → leaf_of_claim s n ≡ leaf_in (claim_at s n)
leaf_is s n = go (claim_at s n) refl
  where
    go : (o : Option Claim) → claim_at s n ≡ o → leaf_of_claim s n ≡ leaf_in o
    go None e = rw e refl
    go (Some claim) e = rw e refl

-- the leaf of a claim is found by its number
pub leaf_by_number : (s : RunState) (n : ℕ) → map number_of s.claims ≡ numbers_from 1 (length s.claims) → leaf_of_claim s n ≡ leaf_numbered (map leaf_of s.claims) n
leaf_by_number s zero numbered = leaf_is s 0 ∙ none_numbered 1 s.claims 0 numbered (omega arith)
leaf_by_number s (suc i) numbered = leaf_is s (suc i) ∙ leaf_found 1 s.claims i (suc i) numbered (omega arith)

-- ---- the elements of a loop

-- what a loop reads
pub element : {A : Type 0} (list items : List A) (k : ℕ) (x : A) → items ≡ list → k < length items → slice_get list k ≡ Some (get_or items k x)
element list items k x same within = ap (λ l. slice_get l k) (sym same) ∙ slice_get-get_or items k x within

-- one claim more
pub leaves_next : (history : List Entry) (k : ℕ) (entry : Entry) → slice_get history k ≡ Some entry →
    leaves_given (take (k + 1) history) ≡ leaves_given (take k history) ++ listed (leaf_taken entry.step)
leaves_next history k entry at = ap (λ (t : Takings). map (λ (g : Taking). g.leaf) t.given) (takings_next history k entry at) ∙ go entry.step
  where
    t : Takings
    t = takings_of (take k history)

    go : (step : Step) → map (λ (g : Taking). g.leaf) (next_takings t entry.by step).given ≡ map (λ (g : Taking). g.leaf) t.given ++ listed (leaf_taken step)
    go (Took claim leaf) = map-append (λ (g : Taking). g.leaf) t.given (record { claim = claim; leaf = leaf; taker = entry.by } ∷ [])
    go (Done claim) = sym (append-nil _)
    go (Failed claim effect) = sym (append-nil _)
    go (Late claim) = sym (append-nil _)
    go (Did leaf) = sym (append-nil _)
    go (Rewound index) = sym (append-nil _)
    go Committed = sym (append-nil _)

one_listed : {A B : Type 0} (f : A → Option B) (x : A) → filter_map f (x ∷ []) ≡ listed (f x)
one_listed {A} {B} f x = go (f x) refl
  where
    go : (o : Option B) → f x ≡ o → filter_map f (x ∷ []) ≡ listed (f x)
    go None e = rw e refl
    go (Some y) e = rw e refl

-- what a filter makes of one element more
pub filter_map_next : {A B : Type 0} (f : A → Option B) (list : List A) (k : ℕ) (x : A) → slice_get list k ≡ Some x →
    filter_map f (take (k + 1) list) ≡ filter_map f (take k list) ++ listed (f x)
filter_map_next f list k x at =
    ap (filter_map f) (take_next list k x at) ∙ filter_map-append f (take k list) (x ∷ []) ∙ ap (λ l. filter_map f (take k list) ++ l) (one_listed f x)
