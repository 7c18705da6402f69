-- What the parts of a rule ask together.
use Rattle.std.proofs.Common.{◌≡◌, ℕ, true, false, not, ◌||◌, ◌&&◌, if◌then◌else◌, ◌+◌, ◌<◌, ◌≤◌, List, [], ◌∷◌, ◌++◌, length, take, get_or, map, refl, sym, ap, subst, ◌∙◌, append_assoc, append-nil, Vec, Global}
use Rattle.std.proofs.lemmas.List.{map-append, take_all, take_more}
use Rattle.std.proofs.lemmas.List.Sums.{fold-append}
use Rattle.flow_model.specs.Ways.{free_way}
use Rattle.flow_rules.specs.declared.asked.Asked.{Asked}
use Rattle.flow_rules.specs.declared.asked.Asked.TheOpen as open_asked
use Rattle.flow_rules.specs.declared.asked.Asked.TheVariants.{rolls-Pair, rolls-Parts}
use Rattle.flow_rules.specs.declared.asked.Asked.TheFolds.{fold-roll-Asked}
use Rattle.flow_rules.specs.declared.asked.Asked as asked
use Rattle.flow_rules.specs.declared.order_set.OrderSet.{OrderSet}
use Rattle.flow_model.specs.declared.operators.Connective.{Connective}
use Rattle.flow_model.specs.declared.operators.Connective.TheVariants.{And, Or}
use Rattle.flow_rules.specs.Asked.{AreOpen, HasKept, asked_step, is_nil, open_joined, open_ways_by, ways_asked, ways_asked_by}
use Rattle.flow_rules.specs.WayLists.{both_ways, decided, decider, is_decided, joined_by, ways_of_sets}
use Rattle.flow_goal.proofs.EachLists.{each_with_each-append}
use Rattle.flow_rules.proofs.WayListLemmas.{both_free, both_front, decided_by_both, decided_by_one, joined_idle}

pub asked_parts : (c : Connective) (parts : Vec Asked Global) → ways_asked (asked.Parts c parts) ≡ ways_asked_by c parts.items
asked_parts c parts = ap ways_asked (sym (rolls-Parts c parts)) ∙ fold-roll-Asked (List (List (ℕ × ℕ))) asked_step (open_asked.Parts c parts)

pub asked_at : (rule : Asked) (k c : Connective) (parts : Vec Asked Global) → rule ≡ asked.Parts k parts → k ≡ c → ways_asked_by c parts.items ≡ ways_asked rule
asked_at rule k c parts is joined = sym (ap ways_asked (is ∙ ap (λ (j : Connective). asked.Parts j parts) joined) ∙ asked_parts c parts)

-- one part more

pub kept_none : (c : Connective) → HasKept c [] (decided (not (decider c)))
kept_none And = record { same = refl; undecided = refl; none = refl }
kept_none Or = record { same = refl; undecided = refl; none = refl }

pub kept_idle : (c : Connective) (kept : List Asked) (ways more new : List (List (ℕ × ℕ))) → new ≡ joined_by c ways more → more ≡ decided (not (decider c)) →
    HasKept c kept ways → HasKept c kept new
kept_idle c kept ways more new n e h = subst (HasKept c kept) (sym (n ∙ ap (joined_by c ways) e ∙ joined_idle c ways)) h

nil_push : (kept : List Asked) (a : Asked) → (is_nil kept && false) ≡ is_nil (kept ++ a ∷ [])
nil_push [] a = refl
nil_push (k ∷ kept) a = refl

asked_more : (c : Connective) (kept : List Asked) (a : Asked) → ways_asked_by c (kept ++ a ∷ []) ≡ open_joined c (ways_asked_by c kept) (ways_asked a)
asked_more c kept a =
    ap (open_ways_by c) (map-append ways_asked kept (a ∷ [])) ∙ fold-append (open_joined c) (decided (not (decider c))) (map ways_asked kept) (ways_asked a ∷ [])

open_is : (c : Connective) (vs ws : List (List (ℕ × ℕ))) → is_decided (decider c) vs ≡ false → is_decided (decider c) ws ≡ false → open_joined c vs ws ≡ joined_by c vs ws
open_is And vs ws p q = refl
open_is Or vs ws p q = sym (λ k. if p k || q k then free_way else vs ++ ws)

pub kept_more : (c : Connective) (kept pushed : List Asked) (a : Asked) (ways more new : List (List (ℕ × ℕ))) → pushed ≡ kept ++ a ∷ [] → new ≡ joined_by c ways more →
    (ways_asked a ≡ more) × AreOpen more → HasKept c kept ways → HasKept c pushed new
kept_more c kept pushed a ways more new p n (e, o) h =
    subst (λ k. HasKept c k new) (sym p)
    (subst (HasKept c (kept ++ a ∷ [])) (sym n) record {
      same =
          asked_more c kept a
          ∙ open_is c (ways_asked_by c kept) (ways_asked a) (ap (is_decided (decider c)) h.same ∙ h.undecided) (ap (is_decided (decider c)) e ∙ o (decider c))
          ∙ (λ k. joined_by c (h.same k) (e k));
      undecided = decided_by_one c ways more ∙ (λ k. h.undecided k || o (decider c) k);
      none = decided_by_both c ways more ∙ (λ k. h.none k && o (not (decider c)) k) ∙ nil_push kept a;
    })

-- all parts

one_asked : (c : Connective) (a : Asked) → ways_asked_by c (a ∷ []) ≡ ways_asked a
one_asked And a = both_free (ways_asked a)
one_asked Or a = refl

open_by : (c : Connective) (ways : List (List (ℕ × ℕ))) → is_decided (decider c) ways ≡ false → is_decided (not (decider c)) ways ≡ false → AreOpen ways
open_by And ways p q true = q
open_by And ways p q false = p
open_by Or ways p q true = p
open_by Or ways p q false = q

module _ (c : Connective) (kept : List Asked) (ways : List (List (ℕ × ℕ))) (h : HasKept c kept ways) where
  pub none_kept : kept ≡ [] → ways ≡ decided (not (decider c))
  none_kept e = sym h.same ∙ ap (ways_asked_by c) e

  pub one_kept : (a : Asked) → kept ≡ a ∷ [] → (ways_asked a ≡ ways) × AreOpen ways
  one_kept a e = (sym (one_asked c a) ∙ sym (ap (ways_asked_by c) e) ∙ h.same, open_by c ways h.undecided (h.none ∙ ap is_nil e))

  pub more_kept : (parts : Vec Asked Global) → kept ≡ parts.items → ¬ (length parts.items ≡ 0) → (ways_asked (asked.Parts c parts) ≡ ways) × AreOpen ways
  more_kept parts e some = (
    asked_parts c parts ∙ ap (ways_asked_by c) (sym e) ∙ h.same,
    open_by c ways h.undecided (h.none ∙ ap is_nil e ∙ not_nil parts.items some),
  )
    where
      not_nil : (list : List Asked) → ¬ (length list ≡ 0) → is_nil list ≡ false
      not_nil [] n = absurd (n refl)
      not_nil (a ∷ list) n = refl

-- ways that are put behind others, one part more

pub way_more : (yielded : List OrderSet) (way : OrderSet) (xs old new : List (List (ℕ × ℕ))) → old ≡ both_ways (ways_of_sets yielded) xs →
    new ≡ old ++ map (λ w. way.pairs.items ++ w) xs → new ≡ both_ways (ways_of_sets (yielded ++ way ∷ [])) xs
way_more yielded way xs old new so_far added =
    added ∙ ap (λ t. t ++ map (λ w. way.pairs.items ++ w) xs) so_far
    ∙ sym (ap (λ t. both_ways t xs) (map-append (λ (s : OrderSet). s.pairs.items) yielded (way ∷ []))
    ∙ each_with_each-append (λ v w. v ++ w) (ways_of_sets yielded) (way.pairs.items ∷ []) xs
    ∙ ap (λ t. both_ways (ways_of_sets yielded) xs ++ t) (append-nil (map (λ w. way.pairs.items ++ w) xs)))

pub pair_more : (u : List (ℕ × ℕ)) (rule : Asked) (x y : ℕ) (all new : List OrderSet) (way : OrderSet) → rule ≡ asked.Pair x y →
    way.pairs.items ≡ u ++ (x, y) ∷ [] → new ≡ all ++ way ∷ [] → ways_of_sets new ≡ ways_of_sets all ++ map (λ w. u ++ w) (ways_asked rule)
pair_more u rule x y all new way is longer pushed =
    ap ways_of_sets pushed ∙ map-append (λ (s : OrderSet). s.pairs.items) all (way ∷ [])
    ∙ (λ k. ways_of_sets all ++ longer k ∷ [])
    ∙ ap (λ ways. ways_of_sets all ++ map (λ w. u ++ w) ways)
    (sym (ap ways_asked (is ∙ sym (rolls-Pair x y)) ∙ fold-roll-Asked (List (List (ℕ × ℕ))) asked_step (open_asked.Pair x y)))

pub added_all : (f : List (ℕ × ℕ) → List (ℕ × ℕ)) (parts : List Asked) (i : ℕ) (ways all new : List OrderSet) → length parts ≤ i →
    ways_of_sets ways ≡ map f (ways_asked_by And (take i parts)) → new ≡ all ++ ways → ways_of_sets new ≡ ways_of_sets all ++ map f (ways_asked_by And parts)
added_all f parts i ways all new done made added =
    ap ways_of_sets added ∙ map-append (λ (s : OrderSet). s.pairs.items) all ways
    ∙ ap (λ t. ways_of_sets all ++ t) (made ∙ ap (λ list. map f (ways_asked_by And list)) (take_all i parts done))

one_more : (c : Connective) (parts : List Asked) (i : ℕ) (part : Asked) → i < length parts → part ≡ get_or parts i part →
    ways_asked_by c (take (i + 1) parts) ≡ open_joined c (ways_asked_by c (take i parts)) (ways_asked part)
one_more c parts i part lt e =
    ap (ways_asked_by c) (take_more parts i part lt) ∙ asked_more c (take i parts) (get_or parts i part)
    ∙ ap (λ (a : Asked). open_joined c (ways_asked_by c (take i parts)) (ways_asked a)) (sym e)

pub product_more : (u : List (ℕ × ℕ)) (parts : List Asked) (i : ℕ) (part : Asked) (old new : List (List (ℕ × ℕ))) →
    i < length parts → part ≡ get_or parts i part → old ≡ map (λ w. u ++ w) (ways_asked_by And (take i parts)) →
    new ≡ both_ways old (ways_asked part) → new ≡ map (λ w. u ++ w) (ways_asked_by And (take (i + 1) parts))
product_more u parts i part old new lt e so_far added =
    added ∙ ap (λ t. both_ways t (ways_asked part)) so_far
    ∙ both_front u (ways_asked_by And (take i parts)) (ways_asked part)
    ∙ sym (ap (map (λ w. u ++ w)) (one_more And parts i part lt e))

pub sum_more : (u v : List (ℕ × ℕ)) (parts : List Asked) (i : ℕ) (part : Asked) (start old new : List (List (ℕ × ℕ))) →
    i < length parts → part ≡ get_or parts i part → v ≡ u → old ≡ start ++ map (λ w. u ++ w) (ways_asked_by Or (take i parts)) →
    new ≡ old ++ map (λ w. v ++ w) (ways_asked part) → new ≡ start ++ map (λ w. u ++ w) (ways_asked_by Or (take (i + 1) parts))
sum_more u v parts i part start old new lt e same so_far added =
    added ∙ (λ k. so_far k ++ map (λ w. same k ++ w) (ways_asked part))
    ∙ append_assoc start (map (λ w. u ++ w) (ways_asked_by Or (take i parts))) (map (λ w. u ++ w) (ways_asked part))
    ∙ ap (λ t. start ++ t)
    (sym (ap (map (λ w. u ++ w)) (one_more Or parts i part lt e)
    ∙ map-append (λ w. u ++ w) (ways_asked_by Or (take i parts)) (ways_asked part)))
