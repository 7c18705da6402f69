-- Names each once, and their numbers.
use Rattle.std.proofs.Common.{◌≡◌, ℕ, Bool, true, false, ◌||◌, List, [], ◌∷◌, ◌++◌, fold, slice_get, Option, Some, None, IsTrue, ◌↔◌, refl, sym, ap, ◌∙◌, subst, inl, inr, ◌⊎◌, append_assoc}
use Rattle.std.specs.Prelude.{if◌then◌else◌}
use Rattle.std.specs.List.{list_any, flat_map}
use Rattle.std.specs.Str.{bytes_eq}
use Rattle.std.specs.Cmp.Lexicographic.{bytes_decides}
use Rattle.flow_model.specs.Lists.{◌∈◌, AreDistinct}
use Rattle.flow_model.proofs.Lists.{mem_append_left, mem_append_right, mem-append, distinct-append, only_one}
use Rattle.flow_workflow.specs.Numbered.{IsAdded}
use Rattle.flow_workflow.specs.Numbers.{event_number}
use Rattle.flow_workflow.proofs.FirstPlaces.{place_in}
use Rattle.flow_policy.specs.Policy.{with_name, firsts}

-- a name is found exactly where it is a member
found : (n : List ℕ) (names : List (List ℕ)) → list_any (bytes_eq n) names ≡ true → n ∈ names
found n [] e = absurd (let f : false ≡ true = e in cc)
found n (m ∷ names) e = by (bytes_eq n m) refl (found n names)
  where
    by : (b : Bool) → bytes_eq n m ≡ b → (list_any (bytes_eq n) names ≡ true → n ∈ names) → n ∈ (m ∷ names)
    by true is later = inl ((bytes_decides n m).0 is)
    by false is later = inr (later (sym (ap (λ b. b || list_any (bytes_eq n) names) is) ∙ e))

or_true : (b : Bool) → b || true ≡ true
or_true true = refl
or_true false = refl

finds : (n : List ℕ) (names : List (List ℕ)) → n ∈ names → list_any (bytes_eq n) names ≡ true
finds n [] m = absurd m
finds n (x ∷ names) (inl e) = ap (λ b. b || list_any (bytes_eq n) names) ((bytes_decides n x).1 e)
finds n (x ∷ names) (inr m) = ap (λ b. bytes_eq n x || b) (finds n names m) ∙ or_true (bytes_eq n x)

-- a name is there, or it is added
pub with_name-there : (names : List (List ℕ)) (n : List ℕ) → n ∈ names → with_name names n ≡ names
with_name-there names n m = ap (λ b. if b then names else names ++ n ∷ []) (finds n names m)

pub with_name-missing : (names : List (List ℕ)) (n : List ℕ) → ¬ (n ∈ names) → with_name names n ≡ names ++ n ∷ []
with_name-missing names n out = by (list_any (bytes_eq n) names) refl
  where
    by : (b : Bool) → list_any (bytes_eq n) names ≡ b → with_name names n ≡ names ++ n ∷ []
    by true is = absurd (out (found n names is))
    by false is = ap (λ b. if b then names else names ++ n ∷ []) is

pub there_or_not : (n : List ℕ) (names : List (List ℕ)) → (n ∈ names) ⊎ ¬ (n ∈ names)
there_or_not n names = by (list_any (bytes_eq n) names) refl
  where
    by : (b : Bool) → list_any (bytes_eq n) names ≡ b → (n ∈ names) ⊎ ¬ (n ∈ names)
    by true is = inl (found n names is)
    by false is = inr (λ m. let f : false ≡ true = sym is ∙ finds n names m in absurd (cc))

pub added_is_with_name : (names new : List (List ℕ)) (n : List ℕ) → IsAdded names n new → new ≡ with_name names n
added_is_with_name names new n added = by (there_or_not n names)
  where
    by : (n ∈ names) ⊎ ¬ (n ∈ names) → new ≡ with_name names n
    by (inl m) = added.there m ∙ sym (with_name-there names n m)
    by (inr out) = added.missing out ∙ sym (with_name-missing names n out)

pub fold-append : {A B : Type 0} (f : B → A → B) (b : B) (xs ys : List A) → fold f b (xs ++ ys) ≡ fold f (fold f b xs) ys
fold-append f b [] ys = refl
fold-append f b (x ∷ xs) ys = fold-append f (f b x) xs ys

pub firsts_more : (names : List (List ℕ)) (n : List ℕ) → firsts (names ++ n ∷ []) ≡ with_name (firsts names) n
firsts_more names n = fold-append with_name [] names (n ∷ [])

-- what was there stays, and what is added is there
pub with_name-keeps : (names : List (List ℕ)) (n x : List ℕ) → x ∈ names → x ∈ with_name names n
with_name-keeps names n x m = by (there_or_not n names)
  where
    by : (n ∈ names) ⊎ ¬ (n ∈ names) → x ∈ with_name names n
    by (inl h) = subst (λ l. x ∈ l) (sym (with_name-there names n h)) m
    by (inr out) = subst (λ l. x ∈ l) (sym (with_name-missing names n out)) (mem_append_left x names (n ∷ []) m)

with_name-has : (names : List (List ℕ)) (n : List ℕ) → n ∈ with_name names n
with_name-has names n = by (there_or_not n names)
  where
    by : (n ∈ names) ⊎ ¬ (n ∈ names) → n ∈ with_name names n
    by (inl h) = subst (λ l. n ∈ l) (sym (with_name-there names n h)) h
    by (inr out) = subst (λ l. n ∈ l) (sym (with_name-missing names n out)) (mem_append_right n names (n ∷ []) (inl refl))

fold_keeps : (names more : List (List ℕ)) (x : List ℕ) → x ∈ names → x ∈ fold with_name names more
fold_keeps names [] x m = m
fold_keeps names (n ∷ more) x m = fold_keeps (with_name names n) more x (with_name-keeps names n x m)

fold_has : (names more : List (List ℕ)) (x : List ℕ) → x ∈ more → x ∈ fold with_name names more
fold_has names [] x m = absurd m
fold_has names (n ∷ more) x (inl e) = fold_keeps (with_name names n) more x (subst (λ y. y ∈ with_name names n) (sym e) (with_name-has names n))
fold_has names (n ∷ more) x (inr m) = fold_has (with_name names n) more x m

pub member_is_first : (names : List (List ℕ)) (x : List ℕ) → x ∈ names → x ∈ firsts names
member_is_first names x m = fold_has [] names x m

fold_from : (names more : List (List ℕ)) (x : List ℕ) → x ∈ fold with_name names more → (x ∈ names) ⊎ (x ∈ more)
fold_from names [] x m = inl m
fold_from names (n ∷ more) x m = by (fold_from (with_name names n) more x m) (there_or_not n names)
  where
    by : (x ∈ with_name names n) ⊎ (x ∈ more) → (n ∈ names) ⊎ ¬ (n ∈ names) → (x ∈ names) ⊎ (x ∈ (n ∷ more))
    by (inr k) _ = inr (inr k)
    by (inl k) (inl h) = inl (subst (λ l. x ∈ l) (with_name-there names n h) k)
    by (inl k) (inr out) = last (mem-append x names (n ∷ []) (subst (λ l. x ∈ l) (with_name-missing names n out) k))
      where
        last : (x ∈ names) ⊎ (x ∈ (n ∷ [])) → (x ∈ names) ⊎ (x ∈ (n ∷ more))
        last (inl a) = inl a
        last (inr b) = inr (inl (only_one x n b))

pub first_is_member : (names : List (List ℕ)) (x : List ℕ) → x ∈ firsts names → x ∈ names
first_is_member names x m = by (fold_from [] names x m)
  where
    by : (x ∈ []) ⊎ (x ∈ names) → x ∈ names
    by (inl h) = absurd h
    by (inr h) = h

with_name-distinct : (names : List (List ℕ)) (n : List ℕ) → AreDistinct names → AreDistinct (with_name names n)
with_name-distinct names n d = by (there_or_not n names)
  where
    by : (n ∈ names) ⊎ ¬ (n ∈ names) → AreDistinct (with_name names n)
    by (inl h) = subst AreDistinct (sym (with_name-there names n h)) d
    by (inr out) = subst AreDistinct (sym (with_name-missing names n out))
        (distinct-append names (n ∷ []) d ((λ m. absurd m), tt) (λ x m k. out (subst (λ y. y ∈ names) (only_one x n k) m)))

fold_distinct : (names more : List (List ℕ)) → AreDistinct names → AreDistinct (fold with_name names more)
fold_distinct names [] d = d
fold_distinct names (n ∷ more) d = fold_distinct (with_name names n) more (with_name-distinct names n d)

pub firsts_distinct : (names : List (List ℕ)) → AreDistinct (firsts names)
firsts_distinct names = fold_distinct [] names tt

-- the number of a name is its place
pub number_at : (names : List (List ℕ)) (n : List ℕ) (i : ℕ) → AreDistinct names → slice_get names i ≡ Some n → event_number names n ≡ i
number_at names n i d at = place_in bytes_eq bytes_decides names i n d at

-- what stands at a place is the name exactly where its bytes are those of the name
pub stands_there : (at : Option (List ℕ)) (found name : List ℕ) (r : Bool) → at ≡ Some found → r ≡ bytes_eq found name → IsTrue r ↔ (at ≡ Some name)
stands_there at found name r is e = (
  λ t. is ∙ ap Some ((bytes_decides found name).0 (sym e ∙ t)),
  λ there. e ∙ (bytes_decides found name).1 (let same : Some found ≡ Some name = sym is ∙ there in cc),
)

pub nothing_there : (at : Option (List ℕ)) (name : List ℕ) → at ≡ None → IsTrue false ↔ (at ≡ Some name)
nothing_there at name is = (λ t. absurd (let f : false ≡ true = t in cc), λ there. absurd (let none : None ≡ Some name = sym is ∙ there in cc))
