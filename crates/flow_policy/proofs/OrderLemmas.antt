-- What sorting gives of pairs, rows and ties.
use Rattle.std.proofs.Common.{◌≡◌, ◌≢◌, ℕ, ◌<◌, ◌≤◌, Bool, true, false, cond, ◌&&◌, List, get_or, refl, sym, ap, ◌∙◌, inl, inr, ◌⊎◌, arith, nat_lt, nat_eq}
use Rattle.std.specs.declared.cmp.Ordering.{Ordering}
use Rattle.std.specs.declared.cmp.Ordering.TheVariants.{Less, Equal, Greater}
use Rattle.std.specs.Ordering.{nat_cmp, ordering_then, is_lt, is_eq, eq_by_cmp}
use Rattle.std.specs.Bool.{Decides}
use Rattle.std.specs.Cmp.{IsTotalOrder, then_total, on_total, nat_cmp_total}
use Rattle.std.specs.List.{dedup}
use Rattle.std.specs.List.Sorted.{IsSorted, IsPermutation}
use Rattle.std.proofs.lemmas.Bool.{eqb-true, eq-eqb, and_parts}
use Rattle.std.proofs.lemmas.List.Kept.{Contains-dedup, Contains-from_dedup, IsStrictlySortedBy-dedup}
use Rattle.std.proofs.lemmas.List.Sorted.{Contains-permutation, IsPermutation-sym, sorted_far, ranks_by}
use borrow.Author.Tests.{ltb-true, ltb-false}
use Rattle.flow_model.specs.Lists.{◌∈◌}
use Rattle.flow_facts.specs.Same.{deciding_equiv}
use Rattle.flow_policy.specs.declared.tie.Tie.{Tie}
use Rattle.flow_policy.specs.Ties.{Rises}
use Rattle.flow_policy.specs.Policy.{AreRising, AreJust}
use Rattle.flow_policy.specs.Tables.{IsRowBelow, IsTieBelow}
use Rattle.flow_policy.proofs.RowLemmas.{rises_by_places}
use Rattle.flow_policy.proofs.TableLemmas.{contains, contained, rising_from_sorted}

abbrev pub pair_cmp : (ℕ × ℕ) → (ℕ × ℕ) → Ordering
pair_cmp x y = ordering_then (nat_cmp x.0 y.0) (nat_cmp x.1 y.1)

abbrev pub pair_eq : (ℕ × ℕ) → (ℕ × ℕ) → Bool
pair_eq x y = nat_eq x.0 y.0 && nat_eq x.1 y.1

pub pair_total : IsTotalOrder pair_cmp
pair_total = then_total (on_total (λ (p : ℕ × ℕ). p.0) nat_cmp_total) (on_total (λ (p : ℕ × ℕ). p.1) nat_cmp_total)

less_not_equal : (a b : ℕ) → nat_lt a b ≡ true → nat_eq a b ≡ true → ⊥
less_not_equal a b p q = omega (arith, ltb-true a b p, eqb-true a b q)

tied : (a b : ℕ) → nat_eq a b ≡ is_eq (nat_cmp a b)
tied a b = by (nat_lt a b) refl (nat_eq a b) refl
  where
    by : (x : Bool) → nat_lt a b ≡ x → (y : Bool) → nat_eq a b ≡ y → y ≡ is_eq (cond x Less (cond y Equal Greater))
    by true p true q = absurd (less_not_equal a b p q)
    by true p false q = refl
    by false p true q = refl
    by false p false q = refl

both_tied : (o p : Ordering) → (is_eq o && is_eq p) ≡ is_eq (ordering_then o p)
both_tied Less p = refl
both_tied Equal p = refl
both_tied Greater p = refl

pub pair_ties : (x y : ℕ × ℕ) → pair_eq x y ≡ eq_by_cmp pair_cmp x y
pair_ties x y = (λ i. tied x.0 y.0 i && tied x.1 y.1 i) ∙ both_tied (nat_cmp x.0 y.0) (nat_cmp x.1 y.1)

pub pair_decides : (x y : ℕ × ℕ) → Decides (pair_eq x y) (x ≡ y)
pair_decides x y = (same, test)
  where
    same : pair_eq x y ≡ true → x ≡ y
    same e =
        let (p, q) = and_parts (nat_eq x.0 y.0) (nat_eq x.1 y.1) e in
        let a = eqb-true x.0 y.0 p in
        let b = eqb-true x.1 y.1 q in
        λ i. (a i, b i)

    test : x ≡ y → pair_eq x y ≡ true
    test e = (λ i. eq-eqb x.0 y.0 (ap (λ (p : ℕ × ℕ). p.0) e) i && eq-eqb x.1 y.1 (ap (λ (p : ℕ × ℕ). p.1) e) i)

pub rows_rise : (xs : List (ℕ × ℕ)) → IsSorted pair_cmp xs → AreRising (dedup pair_eq xs)
rows_rise xs sorted = rising_from_sorted (dedup pair_eq xs) (IsStrictlySortedBy-dedup pair_total pair_ties xs sorted)

pub rows_stay : (xs sorted : List (ℕ × ℕ)) → IsPermutation xs sorted → AreJust (dedup pair_eq sorted) xs
rows_stay xs sorted moved = record {
  none_else = λ p m. contained xs p (Contains-permutation sorted xs p (IsPermutation-sym xs sorted moved) (Contains-from_dedup pair_eq sorted p (contains (dedup pair_eq sorted) p m)));
  all = λ p m. contained (dedup pair_eq sorted) p
      (Contains-dedup (deciding_equiv pair_eq pair_decides) (λ x y. (pair_decides x y).0) sorted p (Contains-permutation xs sorted p moved (contains xs p m)));
}

pub moved_on : {A : Type 0} (xs ys : List A) → IsPermutation xs ys → (x : A) → x ∈ xs → x ∈ ys
moved_on xs ys moved x m = contained ys x (Contains-permutation xs ys x moved (contains xs x m))

pub moved_back : {A : Type 0} (xs ys : List A) → IsPermutation xs ys → (x : A) → x ∈ ys → x ∈ xs
moved_back xs ys moved x m = contained xs x (Contains-permutation ys xs x (IsPermutation-sym xs ys moved) (contains ys x m))

-- rows of three

abbrev pub row_cmp : (ℕ × ℕ × ℕ) → (ℕ × ℕ × ℕ) → Ordering
row_cmp x y = ordering_then (ordering_then (nat_cmp x.0 y.0) (nat_cmp x.1 y.1)) (nat_cmp x.2 y.2)

pub row_total : IsTotalOrder row_cmp
row_total = then_total (then_total (on_total (λ (p : ℕ × ℕ × ℕ). p.0) nat_cmp_total) (on_total (λ (p : ℕ × ℕ × ℕ). p.1) nat_cmp_total)) (on_total (λ (p : ℕ × ℕ × ℕ). p.2) nat_cmp_total)

same_cmp : (a b : ℕ) → a ≡ b → nat_cmp a b ≡ Equal
same_cmp a b e = by (nat_lt a b) refl (nat_eq a b) refl
  where
    by : (x : Bool) → nat_lt a b ≡ x → (y : Bool) → nat_eq a b ≡ y → cond x Less (cond y Equal Greater) ≡ Equal
    by true p y q = absurd (omega (arith, ltb-true a b p, e))
    by false p true q = refl
    by false p false q = absurd (let f : true ≡ false = sym (eq-eqb a b e) ∙ q in cc)

not_less : (a b : ℕ) → is_lt (nat_cmp a b) ≡ false → b ≤ a
not_less a b h = by (nat_lt a b) refl h
  where
    by : (x : Bool) → nat_lt a b ≡ x → is_lt (cond x Less (cond (nat_eq a b) Equal Greater)) ≡ false → b ≤ a
    by true p f = absurd (let g : true ≡ false = f in cc)
    by false p f = ltb-false a b p

row_below : (x y : ℕ × ℕ × ℕ) → is_lt (row_cmp y x) ≡ false → IsRowBelow x y
row_below x y h = λ e f. not_less y.2 x.2
    (sym (λ i. is_lt (ordering_then (ordering_then (same_cmp y.0 x.0 (sym e) i) (same_cmp y.1 x.1 (sym f) i)) (nat_cmp y.2 x.2))) ∙ h)

pub rows_in_order : (xs : List (ℕ × ℕ × ℕ)) → IsSorted row_cmp xs → Rises IsRowBelow xs
rows_in_order xs sorted = rises_by_places IsRowBelow xs (λ i j d less lt.
    row_below (get_or xs i d) (get_or xs j d) (sorted_far (λ x y. is_lt (row_cmp x y)) (ranks_by row_total (λ x. x)) xs sorted i j d (omega arith) lt))

-- ties

abbrev pub tie_cmp : Tie → Tie → Ordering
tie_cmp x y = ordering_then (nat_cmp x.event y.event) (ordering_then (nat_cmp x.index y.index) (nat_cmp x.other y.other))

pub tie_total : IsTotalOrder tie_cmp
tie_total = then_total (on_total (λ (t : Tie). t.event) nat_cmp_total) (then_total (on_total (λ (t : Tie). t.index) nat_cmp_total) (on_total (λ (t : Tie). t.other) nat_cmp_total))

first_decides : (a b : ℕ) (o : Ordering) → is_lt (ordering_then (nat_cmp a b) o) ≡ false → (b < a) ⊎ ((b ≡ a) × (is_lt o ≡ false))
first_decides a b o h = by (nat_lt a b) refl (nat_eq a b) refl h
  where
    by : (x : Bool) → nat_lt a b ≡ x → (y : Bool) → nat_eq a b ≡ y → is_lt (ordering_then (cond x Less (cond y Equal Greater)) o) ≡ false → (b < a) ⊎ ((b ≡ a) × (is_lt o ≡ false))
    by true p y q f = absurd (let g : true ≡ false = f in cc)
    by false p true q f = inr (sym (eqb-true a b q), f)
    by false p false q f = inl (apart (ltb-false a b p) (λ e. let g : true ≡ false = sym (eq-eqb a b e) ∙ q in absurd (cc)))
      where
        apart : b ≤ a → a ≢ b → b < a
        apart le other = omega (arith, le, other)

tie_below : (x y : Tie) → is_lt (tie_cmp y x) ≡ false → IsTieBelow x y
tie_below x y h = by (first_decides y.event x.event (ordering_then (nat_cmp y.index x.index) (nat_cmp y.other x.other)) h)
  where
    index : is_lt (ordering_then (nat_cmp y.index x.index) (nat_cmp y.other x.other)) ≡ false → x.index ≤ y.index
    index g = at (first_decides y.index x.index _ g)
      where
        at : (x.index < y.index) ⊎ ((x.index ≡ y.index) × (is_lt (nat_cmp y.other x.other) ≡ false)) → x.index ≤ y.index
        at (inl lt) = omega arith
        at (inr (e, _)) = omega (arith, e)

    by : (x.event < y.event) ⊎ ((x.event ≡ y.event) × (is_lt (ordering_then (nat_cmp y.index x.index) (nat_cmp y.other x.other)) ≡ false)) → IsTieBelow x y
    by (inl lt) = inl lt
    by (inr (e, g)) = inr (e, index g)

pub ties_in_order : (xs : List Tie) → IsSorted tie_cmp xs → Rises IsTieBelow xs
ties_in_order xs sorted = rises_by_places IsTieBelow xs (λ i j d less lt.
    tie_below (get_or xs i d) (get_or xs j d) (sorted_far (λ x y. is_lt (tie_cmp x y)) (ranks_by tie_total (λ x. x)) xs sorted i j d (omega arith) lt))
