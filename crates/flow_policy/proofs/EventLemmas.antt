-- The table of events, as declarations are gone through.
use Rattle.std.proofs.Common.{◌≡◌, ◌≢◌, ℕ, zero, suc, ◌+◌, ◌<◌, Bool, true, false, cond, List, [], ◌∷◌, ◌++◌, length, map, slice_get, Some, refl, sym, ap, ◌∙◌, subst, inl, inr, ◌⊎◌, arith}
use Rattle.std.specs.Prelude.{not, option_map}
use Rattle.std.specs.Str.{bytes_eq}
use Rattle.std.specs.Cmp.Lexicographic.{bytes_decides}
use Rattle.flow_model.specs.Lists.{◌∈◌, AreDistinct}
use Rattle.flow_model.proofs.Lists.{mem-slice_get}
use Rattle.flow_workflow.specs.Numbered.{IsAdded}
use Rattle.flow_workflow.specs.Numbers.{event_number}
use Rattle.flow_workflow.proofs.Places.{at_end}
use Rattle.flow_policy.specs.Policy.{firsts, with_name}
use Rattle.flow_policy.proofs.FirstLemmas.{there_or_not, with_name-there, with_name-missing, added_is_with_name, firsts_more, first_is_member, member_is_first, number_at}
use Rattle.std.proofs.lemmas.List.{map-append, length-map}
use Rattle.std.proofs.lemmas.Option.{slice_get_within, slice_get-map}

step : (n x : List ℕ) (xs : List (List ℕ)) (b : Bool) → bytes_eq n x ≡ b → event_number (x ∷ xs) n ≡ cond (not b) (1 + event_number xs n) 0
step n x xs b e = ap (λ v. cond (not v) (1 + event_number xs n) 0) e

keep_cons : (names : List (List ℕ)) (n x y : List ℕ) → x ∈ (y ∷ names) → (x ∈ names → event_number (names ++ n ∷ []) x ≡ event_number names x) →
    event_number (y ∷ names ++ n ∷ []) x ≡ event_number (y ∷ names) x
keep_cons names n x y m later = by (bytes_eq x y) refl
  where
    rest : bytes_eq x y ≡ false → (x ≡ y) ⊎ (x ∈ names) → event_number (names ++ n ∷ []) x ≡ event_number names x
    rest e (inl same) = absurd (let f : false ≡ true = sym e ∙ (bytes_decides x y).1 same in cc)
    rest e (inr k) = later k

    by : (b : Bool) → bytes_eq x y ≡ b → event_number (y ∷ names ++ n ∷ []) x ≡ event_number (y ∷ names) x
    by true e = step x y (names ++ n ∷ []) true e ∙ sym (step x y names true e)
    by false e = step x y (names ++ n ∷ []) false e ∙ ap (λ k. 1 + k) (rest e m) ∙ sym (step x y names false e)

-- a name that is there keeps its number, and one that is new has the next
pub number_keeps : (names : List (List ℕ)) (n x : List ℕ) → x ∈ names → event_number (names ++ n ∷ []) x ≡ event_number names x
number_keeps [] n x m = absurd m
number_keeps (y ∷ names) n x m = keep_cons names n x y m (number_keeps names n x)

new_cons : (names : List (List ℕ)) (n y : List ℕ) → ¬ (n ∈ (y ∷ names)) → event_number (names ++ n ∷ []) n ≡ length names →
    event_number (y ∷ names ++ n ∷ []) n ≡ length (y ∷ names)
new_cons names n y out h = by (bytes_eq n y) refl
  where
    by : (b : Bool) → bytes_eq n y ≡ b → event_number (y ∷ names ++ n ∷ []) n ≡ length (y ∷ names)
    by true e = absurd (out (inl ((bytes_decides n y).0 e)))
    by false e = step n y (names ++ n ∷ []) false e ∙ (let f : 1 + event_number (names ++ n ∷ []) n ≡ length (y ∷ names) = omega (arith, h) in f)

pub number_of_new : (names : List (List ℕ)) (n : List ℕ) → ¬ (n ∈ names) → event_number (names ++ n ∷ []) n ≡ length names
number_of_new [] n out = step n n [] true ((bytes_decides n n).1 refl)
number_of_new (y ∷ names) n out = new_cons names n y out (number_of_new names n (λ m. out (inr m)))

numbers_keep : (events : List (List ℕ)) (n : List ℕ) (names : List (List ℕ)) → ((x : List ℕ) → x ∈ names → x ∈ events) → map (event_number (events ++ n ∷ [])) names ≡ map (event_number events) names
numbers_keep events n [] h = refl
numbers_keep events n (x ∷ names) h = (λ i. number_keeps events n x (h x (inl refl)) i ∷ numbers_keep events n names (λ y m. h y (inr m)) i)

get_again : (xs : List (List ℕ)) (i j : ℕ) (x : List ℕ) → AreDistinct xs → slice_get xs i ≡ Some x → slice_get xs j ≡ Some x → i ≡ j
get_again xs i j x d a b = sym (number_at xs x i d a) ∙ number_at xs x j d b

-- the name stands in the table already: its places are as they were
pub table_same : (events old new : List (List ℕ)) (places : List ℕ) (n : List ℕ) (i : ℕ) → old ≡ firsts events → places ≡ map (event_number events) (firsts events) →
    IsAdded old n new → AreDistinct new → slice_get new i ≡ Some n → i ≢ length places → (new ≡ firsts (events ++ n ∷ [])) × (places ≡ map (event_number (events ++ n ∷ [])) (firsts (events ++ n ∷ [])))
table_same events old new places n i is numbers added distinct at other = by (there_or_not n old)
  where
    same : new ≡ firsts (events ++ n ∷ [])
    same = added_is_with_name old new n added ∙ ap (λ l. with_name l n) is ∙ sym (firsts_more events n)

    by : (n ∈ old) ⊎ ¬ (n ∈ old) → (new ≡ firsts (events ++ n ∷ [])) × (places ≡ map (event_number (events ++ n ∷ [])) (firsts (events ++ n ∷ [])))
    by (inl m) =
        let kept : firsts (events ++ n ∷ []) ≡ firsts events = firsts_more events n ∙ with_name-there (firsts events) n (subst (λ l. n ∈ l) is m) in
        (same, numbers ∙ sym (numbers_keep events n (firsts events) (first_is_member events)) ∙ ap (map (event_number (events ++ n ∷ []))) (sym kept))
    by (inr out) =
        let grown : new ≡ old ++ n ∷ [] = added.missing out in
        let last : i ≡ length old = get_again new i (length old) n distinct at (ap (λ l. slice_get l (length old)) grown ∙ at_end old n) in
        absurd (other (last ∙ ap length is ∙ sym (length-map (firsts events) (event_number events)) ∙ ap length (sym numbers)))

-- the name is new: it has the next number
pub table_more : (events old new : List (List ℕ)) (places : List ℕ) (n : List ℕ) (i : ℕ) → old ≡ firsts events → places ≡ map (event_number events) (firsts events) →
    IsAdded old n new → slice_get new i ≡ Some n → i ≡ length places →
    (new ≡ firsts (events ++ n ∷ [])) × (places ++ length events ∷ [] ≡ map (event_number (events ++ n ∷ [])) (firsts (events ++ n ∷ [])))
table_more events old new places n i is numbers added at last = by (there_or_not n old)
  where
    same : new ≡ firsts (events ++ n ∷ [])
    same = added_is_with_name old new n added ∙ ap (λ l. with_name l n) is ∙ sym (firsts_more events n)

    size : length places ≡ length old
    size = ap length numbers ∙ length-map (firsts events) (event_number events) ∙ ap length (sym is)

    by : (n ∈ old) ⊎ ¬ (n ∈ old) → (new ≡ firsts (events ++ n ∷ [])) × (places ++ length events ∷ [] ≡ map (event_number (events ++ n ∷ [])) (firsts (events ++ n ∷ [])))
    by (inl m) = absurd (omega (arith, slice_get_within new i n at, ap length (added.there m), last, size))
    by (inr out) =
        let out_of : ¬ (n ∈ events) = λ m. out (subst (λ l. n ∈ l) (sym is) (member_is_first events n m)) in
        let grown : firsts (events ++ n ∷ []) ≡ firsts events ++ n ∷ [] = firsts_more events n ∙ with_name-missing (firsts events) n (λ m. out (subst (λ l. n ∈ l) (sym is) m)) in (
          same,
          (λ i. numbers i ++ sym (number_of_new events n out_of) i ∷ [])
              ∙ ap (λ l. l ++ event_number (events ++ n ∷ []) n ∷ []) (sym (numbers_keep events n (firsts events) (first_is_member events)))
              ∙ sym (map-append (event_number (events ++ n ∷ [])) (firsts events) (n ∷ [])) ∙ ap (map (event_number (events ++ n ∷ []))) (sym grown),
        )

-- what is looked up
pub table_number : (events names : List (List ℕ)) (places : List ℕ) (n : List ℕ) (i : ℕ) → names ≡ firsts events → places ≡ map (event_number events) (firsts events) →
    slice_get names i ≡ Some n → (n ∈ events) × (slice_get places i ≡ Some (event_number events n))
table_number events names places n i is numbers at =
    let there = ap (λ l. slice_get l i) (sym is) ∙ at in
    (first_is_member events n (mem-slice_get (firsts events) i n there), ap (λ l. slice_get l i) numbers ∙ slice_get-map (event_number events) (firsts events) i ∙ ap (option_map (event_number events)) there)
