-- The tables of roles and of ties.
use Rattle.std.proofs.Common.{◌≡◌, ◌≢◌, ℕ, zero, suc, ◌+◌, ◌<◌, ◌≤◌, Bool, true, false, cond, List, [], ◌∷◌, ◌++◌, length, take, drop, get_or, slice_get, Some, map, refl, sym, ap, ◌∙◌, subst, inl, inr, ◌⊎◌, arith, ⊎_elim, nat_lt, nat_eq}
use Rattle.std.specs.declared.cmp.Ordering.TheVariants.{Less, Equal, Greater}
use Rattle.std.specs.Ordering.{nat_cmp, ordering_then}
use Rattle.std.specs.List.{Contains, AllByRecursion}
use Rattle.std.specs.List.Sorted.{IsStrictlySortedBy}
use Rattle.std.proofs.lemmas.Bool.{eqb-true}
use Rattle.std.proofs.lemmas.List.{take_more}
use borrow.Author.Tests.{ltb-true}
use Rattle.flow_model.specs.Lists.{◌∈◌, Each}
use Rattle.flow_model.specs.Duties.{IsConstraintOf}
use Rattle.flow_model.proofs.Lists.{mem-append, mem_append_left, mem_append_right, each_member, each-append, each_to, only_one, each_from_members}
use Rattle.flow_policy.specs.declared.tie.Tie.{Tie}
use Rattle.flow_policy.specs.Ties.{Rises, AreTies}
use Rattle.flow_policy.specs.Policy.{IsBelow, AreRising, turned}
use Rattle.flow_policy.specs.Tables.{IsPartOf, SecondsRise, ShareSecond, IsTieBelow, IsTied, AreTiesOf, AreBothWays, row_of, AreFirstWays, EndsWith, IsRowBelow}
use Rattle.flow_policy.proofs.RowLemmas.{rises_to, part_rises, in_part, from_part, around}
use Rattle.std.proofs.lemmas.Option.{slice_get_within}
use Rattle.flow_model.proofs.MadeLists.{some_same}

-- members by places

pub contains : {A : Type 0} (xs : List A) (x : A) → x ∈ xs → Contains xs x
contains [] x m = absurd m
contains (y ∷ xs) x (inl e) = (zero, (let lt : zero < length (y ∷ xs) = omega arith in lt), sym e)
contains (y ∷ xs) x (inr m) = let (k, lt, at) = contains xs x m in (suc k, (let more : suc k < length (y ∷ xs) = omega arith in more), at)

pub contained : {A : Type 0} (xs : List A) (x : A) → Contains xs x → x ∈ xs
contained [] x (k, lt, at) = absurd (omega arith)
contained (y ∷ xs) x (zero, lt, at) = inl (sym at)
contained (y ∷ xs) x (suc k, lt, at) = inr (contained xs x (k, (let less : k < length xs = omega arith in less), at))

-- pairs in order

pub pair_less : (a b c d : ℕ) → ordering_then (nat_cmp a c) (nat_cmp b d) ≡ Less → IsBelow (a, b) (c, d)
pair_less a b c d e = by (nat_lt a c) refl (nat_eq a c) refl (nat_lt b d) refl (nat_eq b d) e
  where
    by : (x : Bool) → nat_lt a c ≡ x → (y : Bool) → nat_eq a c ≡ y → (z : Bool) → nat_lt b d ≡ z → (w : Bool) →
        ordering_then (cond x Less (cond y Equal Greater)) (cond z Less (cond w Equal Greater)) ≡ Less → IsBelow (a, b) (c, d)
    by true p y q z r w f = inl (ltb-true a c p)
    by false p true q true r w f = inr (eqb-true a c q, ltb-true b d r)
    by false p true q false r true f = absurd (cc)
    by false p true q false r false f = absurd (cc)
    by false p false q z r w f = absurd (cc)

each_below : (x : ℕ × ℕ) (xs : List (ℕ × ℕ)) → AllByRecursion (λ y. ordering_then (nat_cmp x.0 y.0) (nat_cmp x.1 y.1) ≡ Less) xs → Each (IsBelow x) xs
each_below x [] h = tt
each_below x (y ∷ xs) h = (pair_less x.0 x.1 y.0 y.1 h.0, each_below x xs h.1)

pub rising_from_sorted : (xs : List (ℕ × ℕ)) → IsStrictlySortedBy (λ x y. ordering_then (nat_cmp x.0 y.0) (nat_cmp x.1 y.1)) xs → AreRising xs
unfolding IsStrictlySortedBy
rising_from_sorted [] h = tt
rising_from_sorted (x ∷ xs) h = (each_below x xs h.0, rising_from_sorted xs h.1)

abbrev pub firsts_rise : (xs : List (ℕ × ℕ)) → Type 0
firsts_rise xs = Rises (λ (p : ℕ × ℕ) (q : ℕ × ℕ). p.0 ≤ q.0) xs

below_first : (p q : ℕ × ℕ) → IsBelow p q → p.0 ≤ q.0
below_first p q (inl lt) = omega arith
below_first p q (inr (e, lt)) = omega arith

pub rising_firsts : (xs : List (ℕ × ℕ)) → AreRising xs → firsts_rise xs
rising_firsts xs h = rises_to IsBelow (λ p q. p.0 ≤ q.0) xs (λ p q m k. below_first p q) h

below_second : (key : ℕ) (p q : ℕ × ℕ) → p.0 ≡ key → q.0 ≡ key → IsBelow p q → p.1 < q.1
below_second key p q a b (inl lt) = absurd (omega arith)
below_second key p q a b (inr (e, lt)) = lt

-- of one user or event the roles rise
pub seconds_of_part : (key : ℕ) (rows part : List (ℕ × ℕ)) → AreRising rows → IsPartOf (λ (row : ℕ × ℕ). row.0) key rows part → SecondsRise part
seconds_of_part key rows part h p =
    rises_to IsBelow (λ a b. a.1 < b.1) part
    (λ a b m k. below_second key a b (from_part (λ (row : ℕ × ℕ). row.0) key rows part a p m).1 (from_part (λ (row : ℕ × ℕ). row.0) key rows part b p k).1)
    (part_rises IsBelow (λ (row : ℕ × ℕ). row.0) key rows part p h)

-- A role that two share

pub share_first_left : (a : ℕ × ℕ) (more theirs : List (ℕ × ℕ)) (b : ℕ × ℕ) (others : List (ℕ × ℕ)) → theirs ≡ b ∷ others → a.1 < b.1 → SecondsRise theirs →
    ShareSecond (a ∷ more) theirs → ShareSecond more theirs
share_first_left a more theirs b others cut less rise (p, q, inr m, k, e) = (p, q, m, k, e)
share_first_left a more theirs b others cut less rise (p, q, inl is, k, e) = absurd (by (subst (λ l. q ∈ l) cut k))
  where
    first : p.1 ≡ a.1
    first = ap (λ (x : ℕ × ℕ). x.1) is

    by : q ∈ (b ∷ others) → ⊥
    by (inl same) = let here : q.1 ≡ b.1 = ap (λ (x : ℕ × ℕ). x.1) same in omega (arith, first, here, e, less)
    by (inr h) = let above : b.1 < q.1 = each_member (λ x. b.1 < x.1) others (subst SecondsRise cut rise).0 q h in omega (arith, first, above, e, less)

pub share_first_right : (b : ℕ × ℕ) (mine others : List (ℕ × ℕ)) (a : ℕ × ℕ) (more : List (ℕ × ℕ)) → mine ≡ a ∷ more → b.1 ≤ a.1 → b.1 ≢ a.1 → SecondsRise mine →
    ShareSecond mine (b ∷ others) → ShareSecond mine others
share_first_right b mine others a more cut le other rise (p, q, m, inr k, e) = (p, q, m, k, e)
share_first_right b mine others a more cut le other rise (p, q, m, inl is, e) = absurd (by (subst (λ l. p ∈ l) cut m))
  where
    second : q.1 ≡ b.1
    second = ap (λ (x : ℕ × ℕ). x.1) is

    by : p ∈ (a ∷ more) → ⊥
    by (inl same) = let here : p.1 ≡ a.1 = ap (λ (x : ℕ × ℕ). x.1) same in other (sym second ∙ sym e ∙ here)
    by (inr h) = let above : a.1 < p.1 = each_member (λ x. a.1 < x.1) more (subst SecondsRise cut rise).0 p h in omega (arith, second, above, e, le)

pub more_left : (a : ℕ × ℕ) (more theirs : List (ℕ × ℕ)) → ShareSecond more theirs → ShareSecond (a ∷ more) theirs
more_left a more theirs (p, q, m, k, e) = (p, q, inr m, k, e)

pub more_right : (b : ℕ × ℕ) (mine others : List (ℕ × ℕ)) → ShareSecond mine others → ShareSecond mine (b ∷ others)
more_right b mine others (p, q, m, k, e) = (p, q, m, inr k, e)

-- where the comparison stands
pub record Sharing (mine theirs now others : List (ℕ × ℕ)) : Type 0 where
  pub rise : SecondsRise now
  pub others_rise : SecondsRise others
  pub on : ShareSecond mine theirs → ShareSecond now others
  pub back : ShareSecond now others → ShareSecond mine theirs

pub sharing_first : (mine theirs : List (ℕ × ℕ)) → SecondsRise mine → SecondsRise theirs → Sharing mine theirs mine theirs
sharing_first mine theirs h k = record { rise = h; others_rise = k; on = λ x. x; back = λ x. x }

pub sharing_left : (mine theirs now others : List (ℕ × ℕ)) (a : ℕ × ℕ) (more : List (ℕ × ℕ)) (b : ℕ × ℕ) (rest : List (ℕ × ℕ)) → now ≡ a ∷ more → others ≡ b ∷ rest → a.1 < b.1 →
    Sharing mine theirs now others → Sharing mine theirs more others
sharing_left mine theirs now others a more b rest cut other less h =
    let k = subst (λ l. Sharing mine theirs l others) cut h in
    record { rise = k.rise.1; others_rise = k.others_rise; on = λ x. share_first_left a more others b rest other less k.others_rise (k.on x); back = λ x. k.back (more_left a more others x) }

pub sharing_right : (mine theirs now others : List (ℕ × ℕ)) (a : ℕ × ℕ) (more : List (ℕ × ℕ)) (b : ℕ × ℕ) (rest : List (ℕ × ℕ)) → now ≡ a ∷ more → others ≡ b ∷ rest → b.1 ≤ a.1 → a.1 ≢ b.1 →
    Sharing mine theirs now others → Sharing mine theirs now rest
sharing_right mine theirs now others a more b rest cut other le apart h =
    let k = subst (λ l. Sharing mine theirs now l) other h in
    record { rise = k.rise; others_rise = k.others_rise.1; on = λ x. share_first_right b now rest a more cut le (λ e. apart (sym e)) k.rise (k.on x); back = λ x. k.back (more_right b now rest x) }

pub sharing_here : (mine theirs now others : List (ℕ × ℕ)) (a : ℕ × ℕ) (more : List (ℕ × ℕ)) (b : ℕ × ℕ) (rest : List (ℕ × ℕ)) → now ≡ a ∷ more → others ≡ b ∷ rest → a.1 ≡ b.1 →
    Sharing mine theirs now others → ShareSecond mine theirs
sharing_here mine theirs now others a more b rest cut other same h =
    h.back (a, b, subst (λ l. a ∈ l) (sym cut) (inl refl), subst (λ l. b ∈ l) (sym other) (inl refl), same)

pub nothing_shared_left : (theirs : List (ℕ × ℕ)) → ¬ ShareSecond [] theirs
nothing_shared_left theirs (p, q, m, k, e) = m

pub nothing_shared_right : (mine : List (ℕ × ℕ)) → ¬ ShareSecond mine []
nothing_shared_right mine (p, q, m, k, e) = k

-- the parts of a user and of an event share a role exactly where it stands in both tables
pub share_roles : (key other : ℕ) (rows table mine theirs : List (ℕ × ℕ)) → IsPartOf (λ (row : ℕ × ℕ). row.0) key rows mine → IsPartOf (λ (row : ℕ × ℕ). row.0) other table theirs →
    ShareSecond mine theirs → (role : ℕ) × ((key, role) ∈ rows) × ((other, role) ∈ table)
share_roles key other rows table mine theirs a b (p, q, m, k, e) =
    let (pm, pk) = from_part (λ (row : ℕ × ℕ). row.0) key rows mine p a m in
    let (qm, qk) = from_part (λ (row : ℕ × ℕ). row.0) other table theirs q b k in
    (p.1, subst (λ n. (n, p.1) ∈ rows) pk pm, subst (λ n. (other, n) ∈ table) (sym e) (subst (λ n. (n, q.1) ∈ table) qk qm))

pub roles_share : (key other : ℕ) (rows table mine theirs : List (ℕ × ℕ)) → IsPartOf (λ (row : ℕ × ℕ). row.0) key rows mine → IsPartOf (λ (row : ℕ × ℕ). row.0) other table theirs →
    (role : ℕ) × ((key, role) ∈ rows) × ((other, role) ∈ table) → ShareSecond mine theirs
roles_share key other rows table mine theirs a b (role, m, k) =
    ((key, role), (other, role), in_part (λ (row : ℕ × ℕ). row.0) key rows mine (key, role) a m refl, in_part (λ (row : ℕ × ℕ). row.0) other table theirs (other, role) b k refl, refl)

-- Ties

pub get_at : {A : Type 0} (xs : List A) (i : ℕ) (x d : A) → i < length xs → get_or xs i d ≡ x → slice_get xs i ≡ Some x
get_at [] i x d lt e = absurd (omega arith)
get_at (y ∷ xs) zero x d lt e = ap Some e
get_at (y ∷ xs) (suc i) x d lt e = get_at xs i x d (omega arith) e

-- one pair more, both ways
pub both_more : (pairs : List (ℕ × ℕ)) (i : ℕ) (p : ℕ × ℕ) (rows : List (ℕ × ℕ × ℕ)) → slice_get pairs i ≡ Some p → AreBothWays pairs i rows →
    AreBothWays pairs (i + 1) ((rows ++ (p.0, p.1, i) ∷ []) ++ (p.1, p.0, i) ∷ [])
both_more pairs i p rows at h = record { each = each; all = all }
  where
    each : Each (λ (row : ℕ × ℕ × ℕ). IsConstraintOf pairs row.2 row.0 row.1) ((rows ++ (p.0, p.1, i) ∷ []) ++ (p.1, p.0, i) ∷ [])
    each = each-append (λ (row : ℕ × ℕ × ℕ). IsConstraintOf pairs row.2 row.0 row.1) (rows ++ (p.0, p.1, i) ∷ []) ((p.1, p.0, i) ∷ [])
        (each-append (λ (row : ℕ × ℕ × ℕ). IsConstraintOf pairs row.2 row.0 row.1) rows ((p.0, p.1, i) ∷ []) h.each (inl at, tt)) (inr at, tt)

    here : (j e f : ℕ) → j ≡ i → IsConstraintOf pairs j e f → (e, f, j) ∈ ((rows ++ (p.0, p.1, i) ∷ []) ++ (p.1, p.0, i) ∷ [])
    here j e f same (inl c) =
        let q : (e, f) ≡ p = some_same (e, f) p (sym c ∙ ap (slice_get pairs) same ∙ at) in
        mem_append_left (e, f, j) (rows ++ (p.0, p.1, i) ∷ []) ((p.1, p.0, i) ∷ []) (mem_append_right (e, f, j) rows ((p.0, p.1, i) ∷ []) (inl (λ k. ((q k).0, (q k).1, same k))))
    here j e f same (inr c) =
        let q : (f, e) ≡ p = some_same (f, e) p (sym c ∙ ap (slice_get pairs) same ∙ at) in
        mem_append_right (e, f, j) (rows ++ (p.0, p.1, i) ∷ []) ((p.1, p.0, i) ∷ []) (inl (λ k. ((q k).1, (q k).0, same k)))

    earlier : (j : ℕ) → j < i + 1 → (j < i) ⊎ (j ≡ i)
    earlier j lt = grind arith

    all : (j e f : ℕ) → j < i + 1 → IsConstraintOf pairs j e f → (e, f, j) ∈ ((rows ++ (p.0, p.1, i) ∷ []) ++ (p.1, p.0, i) ∷ [])
    all j e f lt c = ⊎_elim
        (λ less. mem_append_left (e, f, j) (rows ++ (p.0, p.1, i) ∷ []) ((p.1, p.0, i) ∷ []) (mem_append_left (e, f, j) rows ((p.0, p.1, i) ∷ []) (h.all j e f less c)))
        (λ same. here j e f same c) (earlier j lt)

rises_before : {A : Type 0} (R : A → A → Type 0) (a : List A) (x : A) (b : List A) (y : A) → Rises R (a ++ x ∷ b) → y ∈ a → R y x
rises_before R [] x b y h m = absurd m
rises_before R (z ∷ a) x b y h (inl e) = subst (λ w. R w x) (sym e) (each_member (R z) (a ++ x ∷ b) h.0 x (mem_append_right x a (x ∷ b) (inl refl)))
rises_before R (z ∷ a) x b y h (inr m) = rises_before R a x b y h.1 m

-- one row more: its events end the ties already, or they make a new one
pub ways_same : (all_rows front back : List (ℕ × ℕ × ℕ)) (row : ℕ × ℕ × ℕ) (ties : List Tie) → all_rows ≡ front ++ row ∷ back → Rises IsRowBelow all_rows → AreFirstWays front ties →
    EndsWith ties row.0 row.1 → AreFirstWays (front ++ row ∷ []) ties
ways_same all_rows front back row ties cut rise h (before, tie, ends, e, f) = record {
  each = each_to (λ (t : Tie). row_of t ∈ front) (λ (t : Tie). row_of t ∈ (front ++ row ∷ [])) ties (λ t m. mem_append_left (row_of t) front (row ∷ []) m) h.each;
  all = λ r m. ⊎_elim (h.all r) (λ k. here r (only_one r row k)) (mem-append r front (row ∷ []) m);
}
  where
    there : tie ∈ ties
    there = subst (λ l. tie ∈ l) (sym ends) (mem_append_right tie before (tie ∷ []) (inl refl))

    least : tie.index ≤ row.2
    least = rises_before IsRowBelow front row back (row_of tie) (subst (Rises IsRowBelow) cut rise) (each_member (λ (t : Tie). row_of t ∈ front) ties h.each tie there) e f

    here : (r : ℕ × ℕ × ℕ) → r ≡ row → (t : Tie) × (t ∈ ties) × (t.event ≡ r.0) × (t.other ≡ r.1) × (t.index ≤ r.2)
    here r same = (tie, there, e ∙ sym (ap (λ (x : ℕ × ℕ × ℕ). x.0) same), f ∙ sym (ap (λ (x : ℕ × ℕ × ℕ). x.1) same), subst (λ n. tie.index ≤ n) (sym (ap (λ (x : ℕ × ℕ × ℕ). x.2) same)) least)

pub ways_more : (front : List (ℕ × ℕ × ℕ)) (row : ℕ × ℕ × ℕ) (ties : List Tie) (new : Tie) → row_of new ≡ row → AreFirstWays front ties → AreFirstWays (front ++ row ∷ []) (ties ++ new ∷ [])
ways_more front row ties new is h = record {
  each = each-append (λ (t : Tie). row_of t ∈ (front ++ row ∷ [])) ties (new ∷ [])
      (each_to (λ (t : Tie). row_of t ∈ front) (λ (t : Tie). row_of t ∈ (front ++ row ∷ [])) ties (λ t m. mem_append_left (row_of t) front (row ∷ []) m) h.each)
      (mem_append_right (row_of new) front (row ∷ []) (inl is), tt);
  all = λ r m. ⊎_elim (λ k. kept r (h.all r k)) (λ k. here r (only_one r row k)) (mem-append r front (row ∷ []) m);
}
  where
    kept : (r : ℕ × ℕ × ℕ) → (t : Tie) × (t ∈ ties) × (t.event ≡ r.0) × (t.other ≡ r.1) × (t.index ≤ r.2) →
        (t : Tie) × (t ∈ (ties ++ new ∷ [])) × (t.event ≡ r.0) × (t.other ≡ r.1) × (t.index ≤ r.2)
    kept r (t, m, e, f, le) = (t, mem_append_left t ties (new ∷ []) m, e, f, le)

    at_most : (n : ℕ) → n ≤ n
    at_most n = omega arith

    here : (r : ℕ × ℕ × ℕ) → r ≡ row → (t : Tie) × (t ∈ (ties ++ new ∷ [])) × (t.event ≡ r.0) × (t.other ≡ r.1) × (t.index ≤ r.2)
    here r same =
        let whole : row_of new ≡ r = is ∙ sym same in (
          new,
          mem_append_right new ties (new ∷ []) (inl refl),
          ap (λ (x : ℕ × ℕ × ℕ). x.0) whole,
          ap (λ (x : ℕ × ℕ × ℕ). x.1) whole,
          subst (λ n. new.index ≤ n) (ap (λ (x : ℕ × ℕ × ℕ). x.2) whole) (at_most new.index),
        )

pub next_same : (rows : List (ℕ × ℕ × ℕ)) (k : ℕ) (d : ℕ × ℕ × ℕ) (lent ties : List Tie) → k < length rows → Rises IsRowBelow rows → lent ≡ ties →
    EndsWith lent (get_or rows k d).0 (get_or rows k d).1 → AreFirstWays (take k rows) ties → AreFirstWays (take (k + 1) rows) ties
next_same rows k d lent ties lt rise same ended h =
    let ends = subst (λ l. EndsWith l (get_or rows k d).0 (get_or rows k d).1) same ended in
    subst (λ l. AreFirstWays l ties) (sym (take_more rows k d lt)) (ways_same rows (take k rows) (drop (k + 1) rows) (get_or rows k d) ties (around rows k d lt) rise h ends)

pub next_more : (rows : List (ℕ × ℕ × ℕ)) (k : ℕ) (d : ℕ × ℕ × ℕ) (ties : List Tie) (new : Tie) → k < length rows → row_of new ≡ get_or rows k d →
    AreFirstWays (take k rows) ties → AreFirstWays (take (k + 1) rows) (ties ++ new ∷ [])
next_more rows k d ties new lt is h =
    subst (λ l. AreFirstWays l (ties ++ new ∷ [])) (sym (take_more rows k d lt)) (ways_more (take k rows) (get_or rows k d) ties new is h)

constraint_below : (pairs : List (ℕ × ℕ)) (i e f : ℕ) → IsConstraintOf pairs i e f → i < length pairs
constraint_below pairs i e f (inl c) = slice_get_within pairs i (e, f) c
constraint_below pairs i e f (inr c) = slice_get_within pairs i (f, e) c

-- the first ways of all rows are the ties
pub ties_are : (pairs : List (ℕ × ℕ)) (rows sorted : List (ℕ × ℕ × ℕ)) (ties ordered : List Tie) → AreBothWays pairs (length pairs) rows →
    ((r : ℕ × ℕ × ℕ) → r ∈ rows → r ∈ sorted) → ((r : ℕ × ℕ × ℕ) → r ∈ sorted → r ∈ rows) → AreFirstWays sorted ties →
    ((t : Tie) → t ∈ ties → t ∈ ordered) → ((t : Tie) → t ∈ ordered → t ∈ ties) → Rises IsTieBelow ordered → AreTiesOf pairs ordered
ties_are pairs rows sorted ties ordered both to from ways there back rise = record {
  each = each_of ordered (λ t m. each_member (λ (row : ℕ × ℕ × ℕ). IsConstraintOf pairs row.2 row.0 row.1) rows both.each (row_of t)
      (from (row_of t) (each_member (λ (u : Tie). row_of u ∈ sorted) ties ways.each t (back t m))));
  all = λ i e f c. moved i e f (ways.all (e, f, i) (to (e, f, i) (both.all i e f (constraint_below pairs i e f c) c)));
  rise = rise;
}
  where
    each_of : (l : List Tie) → ((t : Tie) → t ∈ l → IsTied pairs t) → Each (IsTied pairs) l
    each_of = each_from_members (IsTied pairs)

    moved : (i e f : ℕ) → (t : Tie) × (t ∈ ties) × (t.event ≡ e) × (t.other ≡ f) × (t.index ≤ i) → (t : Tie) × (t ∈ ordered) × (t.event ≡ e) × (t.other ≡ f) × (t.index ≤ i)
    moved i e f (t, m, a, b, le) = (t, there t m, a, b, le)

below_event : (a b : Tie) → IsTieBelow a b → a.event ≤ b.event
below_event a b (inl lt) = omega arith
below_event a b (inr (e, le)) = omega arith

pub ties_by_event : (ties : List Tie) → Rises IsTieBelow ties → Rises (λ (a : Tie) (b : Tie). a.event ≤ b.event) ties
ties_by_event ties h = rises_to IsTieBelow (λ (a : Tie) (b : Tie). a.event ≤ b.event) ties (λ a b m k. below_event a b) h

below_index : (event : ℕ) (a b : Tie) → a.event ≡ event → b.event ≡ event → IsTieBelow a b → a.index ≤ b.index
below_index event a b p q (inl lt) = absurd (omega arith)
below_index event a b p q (inr (e, le)) = le

-- the part of an event has its ties
pub ties_of_event : (pairs : List (ℕ × ℕ)) (event : ℕ) (ties part : List Tie) → AreTiesOf pairs ties → IsPartOf (λ (t : Tie). t.event) event ties part → AreTies pairs event part
ties_of_event pairs event ties part h p = record {
  each = λ t m. let (there, is) = from_part (λ (u : Tie). u.event) event ties part t p m in subst (λ n. IsConstraintOf pairs t.index n t.other) is (each_member (IsTied pairs) ties h.each t there);
  all = λ i f c. moved i f (h.all i event f c);
  rise = rises_to IsTieBelow (λ (a : Tie) (b : Tie). a.index ≤ b.index) part
      (λ a b m k. below_index event a b (from_part (λ (u : Tie). u.event) event ties part a p m).1 (from_part (λ (u : Tie). u.event) event ties part b p k).1)
      (part_rises IsTieBelow (λ (u : Tie). u.event) event ties part p h.rise);
}
  where
    moved : (i f : ℕ) → (t : Tie) × (t ∈ ties) × (t.event ≡ event) × (t.other ≡ f) × (t.index ≤ i) → (t : Tie) × (t ∈ part) × (t.other ≡ f) × (t.index ≤ i)
    moved i f (t, m, a, b, le) = (t, in_part (λ (u : Tie). u.event) event ties part t p m a, b, le)

pub turned_twice : (xs : List (ℕ × ℕ)) → map turned (map turned xs) ≡ xs
turned_twice [] = refl
turned_twice (x ∷ xs) = ap (λ l. x ∷ l) (turned_twice xs)

mem-turned : (p : ℕ × ℕ) (xs : List (ℕ × ℕ)) → p ∈ xs → turned p ∈ map turned xs
mem-turned p [] m = absurd m
mem-turned p (x ∷ xs) (inl e) = inl (ap turned e)
mem-turned p (x ∷ xs) (inr m) = inr (mem-turned p xs m)

pub turned-mem : (p : ℕ × ℕ) (xs : List (ℕ × ℕ)) → p ∈ map turned xs → turned p ∈ xs
turned-mem p [] m = absurd m
turned-mem p (x ∷ xs) (inl e) = inl (ap turned e)
turned-mem p (x ∷ xs) (inr m) = inr (turned-mem p xs m)

-- a role of both tables, and one of the duties that they hold
pub to_duties : (user event : ℕ) (m a members allowed : List (ℕ × ℕ)) → m ≡ members → map turned a ≡ allowed →
    (role : ℕ) × ((user, role) ∈ m) × ((event, role) ∈ a) → (role : ℕ) × ((user, role) ∈ members) × ((role, event) ∈ allowed)
to_duties user event m a members allowed p q (role, h, k) =
    (role, subst (λ l. (user, role) ∈ l) p h, subst (λ l. (role, event) ∈ l) q (mem-turned (event, role) a k))

pub from_duties : (user event : ℕ) (m a members allowed : List (ℕ × ℕ)) → m ≡ members → map turned a ≡ allowed →
    (role : ℕ) × ((user, role) ∈ members) × ((role, event) ∈ allowed) → (role : ℕ) × ((user, role) ∈ m) × ((event, role) ∈ a)
from_duties user event m a members allowed p q (role, h, k) =
    (role, subst (λ l. (user, role) ∈ l) (sym p) h, turned-mem (role, event) a (subst (λ l. (role, event) ∈ l) (sym q) k))

-- the ties of the pairs that a table holds
pub ties_of_table : (pairs held : List (ℕ × ℕ)) (event : ℕ) (ties part : List Tie) → pairs ≡ held → AreTiesOf pairs ties → IsPartOf (λ (t : Tie). t.event) event ties part → AreTies held event part
ties_of_table pairs held event ties part same h p = subst (λ l. AreTies l event part) same (ties_of_event pairs event ties part h p)
