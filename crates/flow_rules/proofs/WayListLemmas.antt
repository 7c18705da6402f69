-- Lists of ways put together.
use Rattle.std.proofs.Common.{◌≡◌, ℕ, zero, suc, ◌+◌, ◌<◌, Bool, true, false, not, ◌||◌, ◌&&◌, if◌then◌else◌, Option, List, [], ◌∷◌, ◌++◌, length, take, get_or, map, fold, refl, sym, ap, ◌∙◌, append_assoc, append-nil, true≢false}
use Rattle.std.proofs.lemmas.List.{map-id, take_more}
use Rattle.std.proofs.lemmas.List.Sums.{fold-append}
use Rattle.flow_model.specs.Ways.{free_way, is_free, ways}
pub use Rattle.flow_laws.proofs.WaysLemmas.{free_is}
use Rattle.flow_goal.proofs.EachLists.{each_assoc, each_front}
use Rattle.flow_model.specs.declared.operators.Connective.{Connective}
use Rattle.flow_model.specs.declared.operators.Connective.TheVariants.{And, Or}
use Rattle.flow_rules.specs.declared.normal.Nnf.{Nnf}
use Rattle.flow_rules.specs.Normal.{normal_of}
use Rattle.flow_rules.specs.WayLists.{both_ways, decided, decider, either_way, is_decided, is_none, joined_by, ways_of_parts}

-- a fold over one member more of a list
pub fold_more : {A B : Type 0} (f : B → A → B) (z : B) (xs : List A) (i : ℕ) (x : A) → i < length xs → x ≡ get_or xs i x →
    fold f z (take (i + 1) xs) ≡ f (fold f z (take i xs)) x
fold_more f z xs i x h e =
    ap (fold f z) (take_more xs i x h) ∙ fold-append f z (take i xs) (get_or xs i x ∷ []) ∙ ap (f (fold f z (take i xs))) (sym e)

-- each of the first ways with each of the others

pub both_free : (ws : List (List (ℕ × ℕ))) → both_ways free_way ws ≡ ws
both_free ws = append-nil (map (λ w. [] ++ w) ws) ∙ map-id ws

pub both_front : (u : List (ℕ × ℕ)) (vs ws : List (List (ℕ × ℕ))) → both_ways (map (λ v. u ++ v) vs) ws ≡ map (λ w. u ++ w) (both_ways vs ws)
both_front u vs ws = each_front (λ v w. v ++ w) append_assoc u vs ws

pub both_assoc : (us vs ws : List (List (ℕ × ℕ))) → both_ways (both_ways us vs) ws ≡ both_ways us (both_ways vs ws)
both_assoc us vs ws = each_assoc (λ v w. v ++ w) append_assoc us vs ws

-- a list with no way in it

pub both_none : (vs : List (List (ℕ × ℕ))) → both_ways vs [] ≡ []
both_none [] = refl
both_none (v ∷ vs) = both_none vs

pub none_is : (ws : List (List (ℕ × ℕ))) → is_none ws ≡ true → ws ≡ []
none_is [] h = refl
none_is (w ∷ ws) h = absurd (true≢false (sym h))

pub none_of_both : (vs ws : List (List (ℕ × ℕ))) → is_none (both_ways vs ws) ≡ (is_none vs || is_none ws)
none_of_both [] ws = refl
none_of_both (v ∷ vs) [] = ap is_none (both_none vs)
none_of_both (v ∷ vs) (w ∷ ws) = refl

-- the one way that asks for nothing

pub both_free_right : (ws : List (List (ℕ × ℕ))) → both_ways ws free_way ≡ ws
both_free_right [] = refl
both_free_right (w ∷ ws) = λ k. append-nil w k ∷ both_free_right ws k

two_open : (v w : List (ℕ × ℕ)) (ws : List (List (ℕ × ℕ))) → is_free (v ∷ w ∷ ws) ≡ false
two_open [] w ws = refl
two_open (p ∷ v) w ws = refl

free_of_both : (vs ws : List (List (ℕ × ℕ))) → is_free (both_ways vs ws) ≡ (is_free vs && is_free ws)
free_of_both [] ws = refl
free_of_both ([] ∷ []) ws = ap is_free (both_free ws)
free_of_both ((pair ∷ pairs) ∷ vs) [] = ap is_free (both_none vs)
free_of_both ((pair ∷ pairs) ∷ vs) (w ∷ ws) = refl
free_of_both ([] ∷ v ∷ vs) [] = ap is_free (both_none vs)
free_of_both ([] ∷ v ∷ vs) (w ∷ []) = two_open w (v ++ w) _
free_of_both ([] ∷ v ∷ vs) (w ∷ x ∷ ws) = two_open w x _

-- the ways of one or the other

pub not_free-append : (vs ws : List (List (ℕ × ℕ))) → is_free vs ≡ false → is_free ws ≡ false → is_free (vs ++ ws) ≡ false
not_free-append [] ws p q = q
not_free-append ((pair ∷ pairs) ∷ vs) ws p q = refl
not_free-append ([] ∷ []) ws p q = absurd (true≢false p)
not_free-append ([] ∷ v ∷ vs) ws p q = refl

pub free_of_either : (vs ws : List (List (ℕ × ℕ))) → is_free (either_way vs ws) ≡ (is_free vs || is_free ws)
free_of_either vs ws = at (is_free vs) refl (is_free ws) refl
  where
    at : (b : Bool) → is_free vs ≡ b → (c : Bool) → is_free ws ≡ c → is_free (if b || c then free_way else vs ++ ws) ≡ (b || c)
    at true p c q = refl
    at false p true q = refl
    at false p false q = not_free-append vs ws p q

pub either_nothing : (ws : List (List (ℕ × ℕ))) → either_way [] ws ≡ ws
either_nothing ws = at (is_free ws) refl
  where
    at : (b : Bool) → is_free ws ≡ b → (if b then free_way else ws) ≡ ws
    at true e = sym (free_is ws e)
    at false e = refl

pub either_assoc : (us vs ws : List (List (ℕ × ℕ))) → either_way (either_way us vs) ws ≡ either_way us (either_way vs ws)
either_assoc us vs ws =
    ap (λ b. if b || is_free ws then free_way else either_way us vs ++ ws) (free_of_either us vs)
    ∙ at (is_free us) (is_free vs) (is_free ws)
    ∙ sym (ap (λ b. if is_free us || b then free_way else us ++ either_way vs ws) (free_of_either vs ws))
  where
    at : (b c d : Bool) → (if (b || c) || d then free_way else (if b || c then free_way else us ++ vs) ++ ws)
        ≡ (if b || (c || d) then free_way else us ++ (if c || d then free_way else vs ++ ws))
    at true c d = refl
    at false true d = refl
    at false false true = refl
    at false false false = append_assoc us vs ws

either_none : (ws : List (List (ℕ × ℕ))) → either_way ws [] ≡ ws
either_none ws = at (is_free ws) refl
  where
    at : (b : Bool) → is_free ws ≡ b → (if b || false then free_way else ws ++ []) ≡ ws
    at true e = sym (free_is ws e)
    at false e = append-nil ws

none_of_either : (vs ws : List (List (ℕ × ℕ))) → is_none (either_way vs ws) ≡ (is_none vs && is_none ws)
none_of_either [] [] = refl
none_of_either [] (w ∷ ws) = ap is_none (either_nothing (w ∷ ws))
none_of_either (v ∷ vs) ws = at (is_free (v ∷ vs) || is_free ws)
  where
    at : (b : Bool) → is_none (if b then free_way else (v ∷ vs) ++ ws) ≡ false
    at true = refl
    at false = refl

-- parts that are joined

pub decided_is : (met : Bool) (ws : List (List (ℕ × ℕ))) → is_decided met ws ≡ true → ws ≡ decided met
decided_is true ws h = free_is ws h
decided_is false ws h = none_is ws h

pub joined_idle : (c : Connective) (ws : List (List (ℕ × ℕ))) → joined_by c ws (decided (not (decider c))) ≡ ws
joined_idle And ws = both_free_right ws
joined_idle Or ws = either_none ws

pub decided_by_one : (c : Connective) (vs ws : List (List (ℕ × ℕ))) →
    is_decided (decider c) (joined_by c vs ws) ≡ (is_decided (decider c) vs || is_decided (decider c) ws)
decided_by_one And vs ws = none_of_both vs ws
decided_by_one Or vs ws = free_of_either vs ws

pub decided_by_both : (c : Connective) (vs ws : List (List (ℕ × ℕ))) →
    is_decided (not (decider c)) (joined_by c vs ws) ≡ (is_decided (not (decider c)) vs && is_decided (not (decider c)) ws)
decided_by_both And vs ws = free_of_both vs ws
decided_by_both Or vs ws = none_of_either vs ws

pub parts_more : (c : Connective) (leaf : ℕ → Option ℕ) (parts : List Nnf) (i : ℕ) (part : Nnf) → i < length parts → part ≡ get_or parts i part →
    ways_of_parts c leaf (take (i + 1) parts) ≡ joined_by c (ways_of_parts c leaf (take i parts)) (ways (normal_of part) leaf)
parts_more c leaf parts i part h e = fold_more (λ vs p. joined_by c vs (ways (normal_of p) leaf)) (decided (not (decider c))) parts i part h e

-- where the first of them decide, so do all

module _ (c : Connective) (leaf : ℕ → Option ℕ) where
  abbrev joined_on : List (List (ℕ × ℕ)) → List Nnf → List (List (ℕ × ℕ))
  joined_on us parts = fold (λ vs part. joined_by c vs (ways (normal_of part) leaf)) us parts

  stays_decided : (parts : List Nnf) (us : List (List (ℕ × ℕ))) → is_decided (decider c) us ≡ true → joined_on us parts ≡ decided (decider c)
  stays_decided [] us h = decided_is (decider c) us h
  stays_decided (p ∷ parts) us h =
      stays_decided parts (joined_by c us (ways (normal_of p) leaf))
      (decided_by_one c us (ways (normal_of p) leaf) ∙ ap (λ b. b || is_decided (decider c) (ways (normal_of p) leaf)) h)

  ends_decided : (parts : List Nnf) (i : ℕ) (us : List (List (ℕ × ℕ))) → is_decided (decider c) (joined_on us (take i parts)) ≡ true →
      joined_on us parts ≡ decided (decider c)
  ends_decided parts zero us h = stays_decided parts us h
  ends_decided [] (suc i) us h = decided_is (decider c) us h
  ends_decided (p ∷ parts) (suc i) us h = ends_decided parts i (joined_by c us (ways (normal_of p) leaf)) h

  pub parts_decided : (parts : List Nnf) (i : ℕ) → is_decided (decider c) (ways_of_parts c leaf (take i parts)) ≡ true → ways_of_parts c leaf parts ≡ decided (decider c)
  parts_decided parts i h = ends_decided parts i (decided (not (decider c))) h

  pub part_decides : (parts : List Nnf) (i : ℕ) (part : Nnf) → i < length parts → part ≡ get_or parts i part → ways (normal_of part) leaf ≡ decided (decider c) →
      ways_of_parts c leaf parts ≡ decided (decider c)
  part_decides parts i part h e decides =
      parts_decided parts (i + 1)
      (ap (is_decided (decider c)) (parts_more c leaf parts i part h e) ∙ decided_by_one c (ways_of_parts c leaf (take i parts)) (ways (normal_of part) leaf)
      ∙ (λ k. is_decided (decider c) (ways_of_parts c leaf (take i parts)) || is_decided (decider c) (decides k)) ∙ one (decider c) _)
    where
      one : (d b : Bool) → (b || is_decided d (decided d)) ≡ true
      one true true = refl
      one true false = refl
      one false true = refl
      one false false = refl
