-- The places and the leaves of the claims that are out.
use Rattle.std.proofs.Common.{◌≡◌, ◌≤◌, ◌<◌, ◌+◌, ℕ, zero, suc, Bool, true, cond, nat_eq, ◌==◌, List, [], ◌∷◌, ◌++◌, length, map, set, get_or, Bor, Option, Some, None, slice_get, inl, inr, ◌↔◌, IsTrue, MatchOption, refl, sym, ap, ◌∙◌, subst, arith}
use Rattle.std.specs.List.{filter, list_any, remove, position_from}
use Rattle.std.proofs.lemmas.Bool.{eqb-true, eq-eqb, cases_Bool}
use Rattle.std.proofs.lemmas.Option.{slice_get_within, slice_get_read, slice_get_past}
use Rattle.std.specs.Option.{IfSome, option_copied}
use Rattle.flow_model.specs.Lists.{◌∈◌, Each}
use Rattle.flow_model.proofs.Lists.{mem-slice_get, each_member}
use Rattle.flow_model.specs.Run.{Claim, RunState, is_current}
use Rattle.flow_residual.specs.declared.given.Given.{Given}
use Rattle.flow_residual.specs.Given.{claim_of, claims_from, is_out, out_by, out_places}
use Rattle.flow_residual.proofs.Numbering.{answered}

-- ---- how many, and which

pub length-out : {A B : Type 0} (f : ℕ → Given → A) (h : ℕ → Given → B) (e k : ℕ) (gs : List Given) → length (out_by f e k gs) ≡ length (out_by h e k gs)
length-out f h e k [] = refl
length-out f h e k (g ∷ gs) = grind (arith, cases_Bool (is_out e g), length-out f h e (k + 1) gs)

pub few_out : {A : Type 0} (f : ℕ → Given → A) (e k : ℕ) (gs : List Given) → length (out_by f e k gs) ≤ length gs
few_out f e k [] = omega arith
few_out f e k (g ∷ gs) = grind (arith, cases_Bool (is_out e g), few_out f e (k + 1) gs)

pub places_within : (e k count : ℕ) (gs : List Given) → k + length gs ≤ count → Each (λ place. place < count) (out_places e k gs)
places_within e k count [] h = tt
places_within e k count (g ∷ gs) h = let less : k + 1 + length gs ≤ count = omega arith in
    grind (arith, cases_Bool (is_out e g), less, places_within e (k + 1) count gs less)

-- a place is not before the first
pub no_place_before : (e k n : ℕ) (gs : List Given) → n < k → ¬ (n ∈ out_places e k gs)
no_place_before e k n [] less m = m
no_place_before e k n (g ∷ gs) less m = grind (arith, cases_Bool (is_out e g), m, less, no_place_before e (k + 1) n gs)

-- ---- in the words of the definitions

pub current_told : {A : Type 0} (h : Claim → A) (s : RunState) (k : ℕ) (gs : List Given) →
    map h (filter (is_current s) (claims_from (k + 1) gs)) ≡ out_by (λ place g. h (claim_of (place + 1) g)) s.epoch k gs
current_told h s k [] = refl
current_told h s k (g ∷ gs) = grind (arith, cases_Bool (is_out s.epoch g), current_told h s (k + 1) gs)

-- the number of the claim at a place
abbrev pub next : Option ℕ → Option ℕ
next None = None
next (Some place) = Some (place + 1)

first_next : (e k : ℕ) (gs : List Given) → slice_get (out_by (λ place g. place + 1) e k gs) 0 ≡ next (slice_get (out_places e k gs) 0)
first_next e k [] = refl
first_next e k (g ∷ gs) = grind (arith, cases_Bool (is_out e g), first_next e (k + 1) gs)

-- the first number is that of the first place
pub least_is : (s : RunState) (gs : List Given) (places : List ℕ) → places ≡ out_places s.epoch 0 gs →
    slice_get (map (λ (claim : Claim). claim.number) (filter (is_current s) (claims_from 1 gs))) 0 ≡ next (slice_get places 0)
least_is s gs places are =
    ap (λ l. slice_get l 0) (current_told (λ (claim : Claim). claim.number) s 0 gs) ∙ first_next s.epoch 0 gs ∙ ap (λ l. next (slice_get l 0)) (sym are)

pub among : (x : ℕ) (list : List ℕ) → (list_any (λ y. nat_eq y x) list ≡ true) ↔ (x ∈ list)
among x [] = (λ e. cc, λ m. absurd m)
among x (y ∷ list) = grind (arith, cases_Bool (nat_eq y x), eqb-true y x, eq-eqb y x, among x list)

pub is_among : (b : Bool) (x : ℕ) (list other : List ℕ) → b ≡ list_any (λ y. nat_eq y x) list → list ≡ other → IsTrue b ↔ (x ∈ other)
is_among b x list other e same = (
  λ h. subst (λ l. x ∈ l) same ((among x list).0 (sym e ∙ h)),
  λ m. e ∙ (among x list).1 (subst (λ l. x ∈ l) (sym same) m),
)

-- what was looked up at a place, copied
pub copied_at : {X : Type 0} (xs : List X) (i : ℕ) (found : Option (Bor X)) (P : Bor X → Type 0) → MatchOption found (length xs ≤ i) (λ x. (i < length xs) × P x) →
    IfSome found (λ x. x.now ≡ get_or xs i x.now) → option_copied found ≡ slice_get xs i
copied_at xs i None P past is = sym (slice_get_past xs i past)
copied_at xs i (Some x) P here is = sym (slice_get_read xs (length xs) i x.now refl here.0 is)

pub each_at : {A : Type 0} (P : A → Type 0) (xs : List A) (i : ℕ) (x : A) → Each P xs → slice_get xs i ≡ Some x → P x
each_at P xs i x h at = each_member P xs h x (mem-slice_get xs i x at)

-- ---- one more is given

pub out_given : {A : Type 0} (f : ℕ → Given → A) (e k : ℕ) (gs : List Given) (g : Given) → is_out e g ≡ true → out_by f e k (gs ++ g ∷ []) ≡ out_by f e k gs ++ f (k + length gs) g ∷ []
out_given f e k [] g h = ap (λ b. cond b (f k g ∷ []) []) h ∙ ap (λ n. f n g ∷ []) (omega arith)
out_given f e k (x ∷ gs) g h = let n : k + suc (length gs) ≡ k + 1 + length gs = omega arith in
    grind (arith, cases_Bool (is_out e x), n, out_given f e (k + 1) gs g h)

-- ---- one is answered

-- where a list has what is looked for
pub found : (p n : ℕ) (list : List ℕ) (i : ℕ) → position_from (λ other. other == p) n list ≡ Some i → (j : ℕ) × (i ≡ n + j) × (slice_get list j ≡ Some p)
found p n [] i h = cc
found p n (x ∷ list) i h = elim (cases_Bool (nat_eq x p)) [
  | inl e ↦ (let same : n ≡ i = grind (arith, e, h) in (0, omega arith, ap Some (eqb-true x p e)))
  | inr e ↦ (let (j, at, there) = found p (n + 1) list i (rw e at h) in (suc j, omega arith, there))
]

pub not_found : (p n : ℕ) (list : List ℕ) → position_from (λ other. other == p) n list ≡ None → ¬ (p ∈ list)
not_found p n [] h m = m
not_found p n (x ∷ list) h m = grind (arith, cases_Bool (nat_eq x p), eq-eqb x p, h, m, not_found p (n + 1) list)

pub found_within : (p : ℕ) (list : List ℕ) (i : ℕ) → position_from (λ other. other == p) 0 list ≡ Some i → i < length list
found_within p list i h =
    let (j, same, there) = found p 0 list i h in
    let within = slice_get_within list j p there in
    omega arith

-- the one at the place is taken out of those that are out where it stands among them
pub answer_out : {A : Type 0} (f : ℕ → Given → A) (e k n : ℕ) (gs : List Given) (place index : ℕ) (g : Given) → n ≡ k + place →
    slice_get (out_places e k gs) index ≡ Some n → out_by f e k (set gs place (answered g)) ≡ remove (out_by f e k gs) index
answer_out f e k n [] place index g same there = cc
answer_out f e k n (x ∷ gs) zero zero g same there =
    grind (arith, cases_Bool (is_out e x), there, no_place_before e (k + 1) n gs, mem-slice_get (out_places e (k + 1) gs) 0 n)
answer_out f e k n (x ∷ gs) zero (suc i) g same there =
    let places = out_places e (k + 1) gs in
    grind (arith, cases_Bool (is_out e x), there, no_place_before e (k + 1) n gs, mem-slice_get places i n, mem-slice_get places (suc i) n)
answer_out f e k n (x ∷ gs) (suc place) zero g same there = grind (arith, cases_Bool (is_out e x), there, answer_out f e (k + 1) n gs place 0 g)
answer_out f e k n (x ∷ gs) (suc place) (suc i) g same there =
    grind (arith, cases_Bool (is_out e x), there, answer_out f e (k + 1) n gs place i g, answer_out f e (k + 1) n gs place (suc i) g)

-- and leaves them where it does not
pub answer_other : {A : Type 0} (f : ℕ → Given → A) (e k n : ℕ) (gs : List Given) (place : ℕ) (g : Given) → n ≡ k + place →
    ¬ (n ∈ out_places e k gs) → out_by f e k (set gs place (answered g)) ≡ out_by f e k gs
answer_other f e k n [] place g same none = refl
answer_other f e k n (x ∷ gs) zero g same none = grind (arith, cases_Bool (is_out e x), none)
answer_other f e k n (x ∷ gs) (suc place) g same none = grind (arith, cases_Bool (is_out e x), none, answer_other f e (k + 1) n gs place g)
