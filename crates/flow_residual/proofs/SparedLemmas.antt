-- Leaves that stay are moved to the front, one after another.
use Rattle.std.proofs.Common.{◌≡◌, ◌≤◌, ◌<◌, ◌+◌, ◌==◌, ◌&&◌, ◌⊎◌, not, ℕ, Bool, true, false, cond, List, [], ◌∷◌, ◌++◌, length, take, drop, get_or, set, IsTrue, ◌↔◌, refl, sym, ap, subst, inl, inr, ⊎_elim, ◌∙◌, true≢false, arith, append_assoc, append-nil, length-set}
use Rattle.std.proofs.lemmas.Bool.{cases_Bool, and_parts}
use Rattle.std.proofs.lemmas.Bool.Decides.{nat_tests}
use Rattle.std.proofs.lemmas.List.{take_more_set, drop_more, drop-set-lt, drop-drop, drop_all, length_push}
use Rattle.leaf_rows.specs.Leaves.{has_leaf}
use Rattle.leaf_rows.specs.declared.leaf_set.LeafSet.{LeafSet}
use Rattle.leaf_rows.specs.declared.TheConstants.{LEAF_WORDS}
use Rattle.flow_model.specs.Lists.{◌∈◌, AreDistinct}
use Rattle.flow_model.specs.FoldedReady.{IsFoldedRunAfter}
use Rattle.flow_model.specs.Resolution.{ChoiceOption}
use Rattle.flow_model.specs.Schema.{Schema}
use Rattle.flow_model.specs.Decided.{can_all_follow}
use Rattle.flow_model.specs.Run.{RunState, MayAllFollow}
use Rattle.flow_laws.proofs.ClaimLemmas.{answers_are_the_test}
use Rattle.flow_residual.specs.Options.{SomeOption}
use Rattle.flow_residual.specs.Question.{AllFollow, TakesAll}
use Rattle.flow_residual.specs.Remaining.{Remaining, IsOf, StillAvoids, banned}
use Rattle.flow_residual.specs.Spared.{AllStay, AreThinned, IsCandidate, staying, picked}
use Rattle.flow_residual.specs.Telling.{IsSetOf}
use Rattle.flow_model.proofs.Lists.{distinct-append, each_member, each_to, mem-append}
use Rattle.flow_model.proofs.MadeLists.{same_order}
use Rattle.flow_residual.proofs.Avoiding.{one_of, together}
use Rattle.flow_residual.proofs.FoldedSteps.{run_distinct}
use Rattle.flow_residual.proofs.QuestionLemmas.{some_follow}

-- of a list, those looked at whose bit is set stand in front, and those not looked at where they stood
pub record IsThinned (bits : List Bool) (index kept : ℕ) (was new : List ℕ) : Type 0 where
  pub same : length new ≡ length was
  pub front : take kept new ≡ picked bits was
  pub left : drop index new ≡ drop index was

-- so many were looked at, and so many of them were moved to the front
pub record AreMoved (r : Remaining) (places leaves : List ℕ) (index kept : ℕ) (new_places new_leaves : List ℕ) : Type 0 where
  pub few : kept ≤ index
  pub bits : List Bool
  pub one_each : length bits ≡ index
  pub places_are : IsThinned bits index kept places new_places
  pub leaves_are : IsThinned bits index kept leaves new_leaves
  pub spared : (w : Schema) (s : RunState) → IsOf w s r → staying w s [] leaves ≡ bits ++ staying w s (take kept new_leaves) (drop index leaves)

picked_none : (xs : List ℕ) → picked [] xs ≡ []
picked_none [] = refl
picked_none (x ∷ xs) = picked_none xs

-- one bit more picks one member more, or none
picked_more : (bits : List Bool) (bit : Bool) (xs rest : List ℕ) (x : ℕ) → drop (length bits) xs ≡ x ∷ rest →
    picked (bits ++ bit ∷ []) xs ≡ picked bits xs ++ cond bit (x ∷ []) []
picked_more [] bit [] rest x h = cc
picked_more [] bit (y ∷ xs) rest x h = grind (arith, cases_Bool bit, picked_none xs, h)
picked_more (b ∷ bits) bit [] rest x h = cc
picked_more (b ∷ bits) bit (y ∷ xs) rest x h = grind (arith, cases_Bool b, picked_more bits bit xs rest x h)

pub none_moved : (r : Remaining) (places leaves : List ℕ) → AreMoved r places leaves 0 0 places leaves
none_moved r places leaves = record {
  few = omega arith;
  bits = [];
  one_each = refl;
  places_are = record { same = refl; front = sym (picked_none places); left = refl };
  leaves_are = record { same = refl; front = sym (picked_none leaves); left = refl };
  spared = λ w s of. refl;
}

-- what is left after one more
left_after : (xs ys : List ℕ) (i : ℕ) → drop i xs ≡ drop i ys → drop (i + 1) xs ≡ drop (i + 1) ys
left_after xs ys i h = sym (drop-drop 1 i xs) ∙ ap (drop 1) h ∙ drop-drop 1 i ys

-- the next one is where it stood
next_is : (was new : List ℕ) (i x : ℕ) → drop i new ≡ drop i was → i < length new → x ≡ get_or new i x → drop i was ≡ x ∷ drop (i + 1) was
next_is was new i x left within is =
    sym left ∙ drop_more new i x within ∙ ap (λ y. y ∷ drop (i + 1) new) (sym is) ∙ ap (λ l. x ∷ l) (left_after new was i left)

thinned_more : (bits : List Bool) (i kept : ℕ) (was new : List ℕ) (x : ℕ) (bit : Bool) → IsThinned bits i kept was new → length bits ≡ i → kept ≤ i → i < length new → x ≡ get_or new i x →
    IsThinned (bits ++ bit ∷ []) (i + 1) (cond bit (kept + 1) kept) was (cond bit (set new kept x) new)
thinned_more bits i kept was new x bit t one_each few within is =
    let more = picked_more bits bit was (drop (i + 1) was) x (ap (λ n. drop n was) one_each ∙ next_is was new i x t.left within is) in
    let after = left_after new was i t.left in
    elim bit as (λ b. picked (bits ++ b ∷ []) was ≡ picked bits was ++ cond b (x ∷ []) [] → IsThinned (bits ++ b ∷ []) (i + 1) (cond b (kept + 1) kept) was (cond b (set new kept x) new)) [
      | true ↦ λ more. record {
        same = length-set new kept x ∙ t.same;
        front = take_more_set new kept x (omega arith) ∙ ap (λ l. l ++ x ∷ []) t.front ∙ sym more;
        left = drop-set-lt (i + 1) new kept x (omega arith) ∙ after;
      }
      | false ↦ λ more. record { same = t.same; front = t.front ∙ sym (append-nil (picked bits was)) ∙ sym more; left = after }
    ] more

-- one more is looked at, and moved where it stays
pub moved : (r : Remaining) (places leaves : List ℕ) (i kept : ℕ) (ps ls : List ℕ) (place leaf : ℕ) (test : Bool) → AreMoved r places leaves i kept ps ls →
    length places ≡ length leaves → i < length ls → place ≡ get_or ps i place → leaf ≡ get_or ls i leaf →
    ((w : Schema) (s : RunState) → IsOf w s r → IsTrue test ↔ MayAllFollow w s (take kept ls ++ leaf ∷ [])) →
    AreMoved r places leaves (i + 1) (cond test (kept + 1) kept) (cond test (set ps kept place) ps) (cond test (set ls kept leaf) ls)
moved r places leaves i kept ps ls place leaf test m same within at is says =
    let few = m.few in
    let inside : i < length ps = omega (arith, m.places_are.same, m.leaves_are.same) in
    record {
      few = grind (arith, cases_Bool test);
      bits = m.bits ++ test ∷ [];
      one_each = length_push m.bits test ∙ ap (λ n. n + 1) m.one_each;
      places_are = thinned_more m.bits i kept places ps place test m.places_are m.one_each few inside at;
      leaves_are = thinned_more m.bits i kept leaves ls leaf test m.leaves_are m.one_each few within is;
      spared = λ w s of.
          let before = take kept ls in
          let told : can_all_follow w s (before ++ leaf ∷ []) ≡ test = (answers_are_the_test w s (before ++ leaf ∷ []) test).0 (says w s of) in
          let more : take (kept + 1) (set ls kept leaf) ≡ before ++ leaf ∷ [] = take_more_set ls kept leaf (omega arith) in
          let one : staying w s [] leaves ≡ m.bits ++ staying w s before (leaf ∷ drop (i + 1) leaves) =
          m.spared w s of ∙ ap (λ l. m.bits ++ staying w s before l) (next_is leaves ls i leaf m.leaves_are.left within is) in
          grind (arith, one, told, more, cases_Bool test, append_assoc m.bits (test ∷ []));
    }

-- all were looked at
pub all_moved : (r : Remaining) (places leaves : List ℕ) (i kept : ℕ) (ps ls : List ℕ) → AreMoved r places leaves i kept ps ls → length leaves ≤ i →
    AreThinned r places leaves ps ls kept
all_moved r places leaves i kept ps ls m past = record {
  bits = m.bits;
  places_are = m.places_are.front;
  leaves_are = m.leaves_are.front;
  spared = λ w s of. sym (m.spared w s of ∙ ap (λ l. m.bits ++ staying w s (take kept ls) l) (drop_all i leaves past) ∙ append-nil m.bits);
}

-- ---- leaves that stay together

module _ (r : Remaining) (claims : List ℕ) where
  pub none_stay : (set : LeafSet LEAF_WORDS) → ((n : ℕ) → has_leaf set n ≡ false) → AllStay r claims set
  none_stay set none leaf more distinct each = absurd (true≢false (sym each.0 ∙ none leaf))

  pub one_stays : (set : LeafSet LEAF_WORDS) (leaf : ℕ) → AllStay r claims set → IsTrue (has_leaf set leaf) → SomeOption (TakesAll r (claims ++ leaf ∷ [])) r.options
  one_stays set leaf all has = all leaf [] ((λ none. none), tt) (has, tt)

  -- one of them is claimed
  pub others_stay : (old new : LeafSet LEAF_WORDS) (leaf : ℕ) → AllStay r claims old → ((k : ℕ) → has_leaf new k ≡ (not (k == leaf) && has_leaf old k)) → IsTrue (has_leaf old leaf) →
      AllStay r (claims ++ leaf ∷ []) new
  others_stay old new leaf all less has next more distinct each =
      let was : (k : ℕ) → IsTrue (has_leaf new k) → IsTrue (not (k == leaf)) × IsTrue (has_leaf old k) = λ k h. and_parts (not (k == leaf)) (has_leaf old k) (sym (less k) ∙ h) in
      let gone : ¬ (leaf ∈ (next ∷ more)) = λ m. not_itself leaf (was leaf (each_member (λ n. IsTrue (has_leaf new n)) (next ∷ more) each leaf m)).0 in
      subst (λ (l : List ℕ). SomeOption (TakesAll r l) r.options) (sym (append_assoc claims (leaf ∷ []) (next ∷ more)))
      (all leaf (next ∷ more) (gone, distinct) (has, each_to (λ n. IsTrue (has_leaf new n)) (λ n. IsTrue (has_leaf old n)) (next ∷ more) (λ k h. (was k h).1) each))
    where
      not_itself : (n : ℕ) → ¬ (IsTrue (not (n == n)))
      not_itself n h = grind (arith, nat_tests)

  -- an option takes the claimed ones, and all leaves of the set may follow with them
  pub all_stay : (o : ChoiceOption) (all : List ℕ) (taken set : LeafSet LEAF_WORDS) → o ∈ r.options → TakesAll r claims o → IsSetOf claims taken →
      ((n : ℕ) → IsTrue (has_leaf set n) → IsCandidate r taken o n) → ((n : ℕ) → (n ∈ claims) ⊎ IsTrue (has_leaf set n) → n ∈ all) → AllFollow r.journal all o → AllStay r claims set
  all_stay o all taken set there takes is each within follow leaf more distinct has = (o, there, (takes.0, follows, still))
    where
      list : List ℕ
      list = claims ++ leaf ∷ more

      either : (n : ℕ) → n ∈ list → (n ∈ claims) ⊎ IsTrue (has_leaf set n)
      either n m = ⊎_elim inl (λ new. inr (each_member (λ k. IsTrue (has_leaf set k)) (leaf ∷ more) has n new)) (mem-append n claims (leaf ∷ more) m)

      run_of : (some : List ℕ) → AllFollow r.journal some o → IsFoldedRunAfter o.resolution o.order (λ n. n ∈ r.journal) some
      run_of some runs = runs some (same_order some)

      apart : AreDistinct list
      apart = distinct-append claims (leaf ∷ more) (run_distinct o.resolution o.order (λ n. n ∈ r.journal) claims (run_of claims takes.1)).0 distinct
          (λ n old new. (each n (each_member (λ k. IsTrue (has_leaf set k)) (leaf ∷ more) has n new)).new ((is n).1 old))

      follows : AllFollow r.journal list o
      follows = some_follow o.resolution o.order (λ n. n ∈ r.journal) all list (λ n m. within n (either n m)) apart follow

      still : StillAvoids r list o
      still = together o.resolution o.order r.journal (banned r.bans) list (run_of list follows) takes.0.avoids
          (λ n m. ⊎_elim (λ old. one_of o.resolution (λ k. k ∈ r.journal) (λ k. k ∈ banned r.bans) claims n takes.2 old)
          (λ new. (each n new).begins o takes.0 (each n new).ready.leaf) (either n m))
