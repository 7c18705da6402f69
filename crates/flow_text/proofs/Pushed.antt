-- A list to which pieces are put one after another, and the loops that do so.
use Rattle.std.proofs.Common.{◌≡◌, ℕ, ◌+◌, ◌-◌, ◌<◌, ◌≤◌, List, [], ◌∷◌, ◌++◌, length, drop, take, get_or, Result, Ok, Err, OnOk, is_ok, cond, refl, sym, subst, ap, ◌∙◌, append_assoc, append-nil, arith}
use Rattle.std.proofs.lemmas.Result.{on_ok_weaker}
use denote.Param.Weighed.{most, at_most}
use Rattle.std.proofs.lemmas.List.{at_drop_more, at_drop_all, length-drop, take_all}
use Rattle.flow_facts.proofs.Pushed.{both_put}

-- a loop over a list puts a piece for each item; what it puts for all that are left is F of them
pub goes_on : {X A : Type 0} (F : List X → List A) (xs : List X) (i : ℕ) (x : X) (old new piece all : List A) → i < length xs → x ≡ get_or xs i x
    → ((ys : List X) → F (x ∷ ys) ≡ piece ++ F ys) → new ≡ old ++ piece → old ++ F (drop i xs) ≡ all → new ++ F (drop (i + 1) xs) ≡ all
goes_on F xs i x old new piece all inside is begins put left =
    ap (λ t. t ++ F (drop (i + 1) xs)) put ∙ append_assoc old piece (F (drop (i + 1) xs))
    ∙ ap (λ t. old ++ t) (sym (begins (drop (i + 1) xs)) ∙ ap (λ y. F (y ∷ drop (i + 1) xs)) is ∙ sym (at_drop_more F xs i x inside)) ∙ left

-- at the end of such a loop all is put
pub all_put : {X A : Type 0} (F : List X → List A) (xs : List X) (i : ℕ) (old new : List A) → F [] ≡ [] → length xs ≤ i → new ++ F (drop i xs) ≡ old ++ F xs → new ≡ old ++ F xs
all_put F xs i old new none done left = sym (append-nil new) ∙ ap (λ t. new ++ t) (sym (at_drop_all F xs i done ∙ none)) ∙ left

-- the same for members with a mark before each: G is a member's text
pub listed_more : {X : Type 0} (G : X → List ℕ) (F : List X → List ℕ) (m : List ℕ) (xs : List X) (i : ℕ) (x : X) (old mid new mark all : List ℕ) → i < length xs → x ≡ get_or xs i x
    → ((y : X) (ys : List X) → F (y ∷ ys) ≡ (m ++ G y) ++ F ys) → mark ≡ m → mid ≡ old ++ mark → new ≡ mid ++ G x → old ++ F (drop i xs) ≡ all → new ++ F (drop (i + 1) xs) ≡ all
listed_more G F m xs i x old mid new mark all inside is begins marked one two left =
    goes_on F xs i x old new (m ++ G x) all inside is (begins x)
    (both_put old mid new m (G x) (one ∙ ap (λ t. old ++ t) marked) two) left

-- the whole of such a loop: the first member stands before it, which has no mark; H is the text of those behind
pub listed : {X : Type 0} (G : X → List ℕ) (F H : List X → List ℕ) (xs : List X) (i : ℕ) (x : X) (old mid new : List ℕ) → 1 ≤ length xs → x ≡ get_or xs 0 x
    → ((y : X) (ys : List X) → F (y ∷ ys) ≡ G y ++ H ys) → H [] ≡ [] → mid ≡ old ++ G x → length (take (length xs - 1) (drop 1 xs)) ≤ i
    → new ++ H (drop i (take (length xs - 1) (drop 1 xs))) ≡ mid ++ H (take (length xs - 1) (drop 1 xs)) → new ≡ old ++ F xs
listed {X} G F H xs i x old mid new some is begins none put done left =
    let rest : List X = take (length xs - 1) (drop 1 xs) in
    let whole : rest ≡ drop 1 xs = take_all (length xs - 1) (drop 1 xs) (omega (arith, length-drop {A = X})) in
    sym (append-nil new) ∙ ap (λ t. new ++ t) (sym (at_drop_all H rest i done ∙ none)) ∙ left
    ∙ ap (λ t. t ++ H rest) put ∙ append_assoc old (G x) (H rest)
    ∙ ap (λ t. old ++ t) (ap (λ r. G x ++ H r) whole ∙ sym (begins x (drop 1 xs)) ∙ ap (λ y. F (y ∷ drop 1 xs)) is ∙ sym (at_drop_more F xs 0 x some))

-- each of those behind the first is one of the whole list, and no larger than the largest
pub largest_behind : {X : Type 0} (size : X → ℕ) (xs : List X) (i : ℕ) (x : X) → i < length (take (length xs - 1) (drop 1 xs)) →
    x ≡ get_or (take (length xs - 1) (drop 1 xs)) i x → size x ≤ most size xs
largest_behind {X} size xs i x inside is =
    let whole : take (length xs - 1) (drop 1 xs) ≡ drop 1 xs = take_all (length xs - 1) (drop 1 xs) (omega (arith, length-drop {A = X})) in
    behind xs (subst (λ r. i < length r) whole inside) (subst (λ r. x ≡ get_or r i x) whole is)
  where
    behind : (ys : List X) → i < length (drop 1 ys) → x ≡ get_or (drop 1 ys) i x → size x ≤ most size ys
    behind [] lt same = absurd (omega arith)
    behind (y ∷ ys) lt same = let h : size (get_or ys i x) ≤ most size ys = at_most size ys i x lt in omega (arith, ap size same)

-- What a function has put that returns what its last call gave

-- one piece before that call, which puts the rest
pub put_behind : {U E : Type 0} (r : Result U E) (old mid new p q whole : List ℕ) → whole ≡ p ++ q → mid ≡ old ++ p → OnOk r (new ≡ mid ++ q) → OnOk r (new ≡ old ++ whole)
put_behind r old mid new p q whole is one two = on_ok_weaker r (λ e. both_put old mid new p q one e ∙ ap (λ t. old ++ t) (sym is)) two

put_last : {U E : Type 0} (r : Result U E) (old new p : List ℕ) → new ≡ cond (is_ok r) (old ++ p) old → OnOk r (new ≡ old ++ p)
put_last (Ok u) old new p put = put
put_last (Err e) old new p put = tt

-- two before it, and it puts a third itself
pub put_around : {U E : Type 0} (r : Result U E) (old one two new p q s whole : List ℕ) → whole ≡ p ++ (q ++ s) → one ≡ old ++ p → two ≡ one ++ q →
    new ≡ cond (is_ok r) (two ++ s) two → OnOk r (new ≡ old ++ whole)
put_around r old one two new p q s whole is first second third =
    put_behind r old one new p (q ++ s) whole is first (put_behind r one two new q s (q ++ s) refl second (put_last r two new s third))
