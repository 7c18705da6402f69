-- Leaves that are left of isolated parts.
use Rattle.std.proofs.Common.{◌≡◌, ◌<◌, ◌↔◌, ℕ, Bool, true, false, ◌&&◌, ◌||◌, not, nat_eq, is_some, Option, Some, None, List, [], ◌∷◌, ◌++◌, ◌⊎◌, inl, inr, ⊎_elim, length, get_or, refl, sym, ap, subst, ◌∙◌, true≢false, arith}
use Rattle.std.proofs.lemmas.Bool.{eq-eqb}
use Rattle.flow_model.specs.Lists.{◌∈◌}
use Rattle.flow_model.specs.Process.{Process, Empty, Task, Sequence, Parallel, Choice, Isolated, IsNumbered, leaves}
use Rattle.flow_model.proofs.Lists.{mem-append, mem_append_left, mem_append_right}
use Rattle.flow_model.proofs.MadeLists.{numbers_from_below}
use Rattle.flow_core.specs.Run.{Run, schema, now}
use Rattle.flow_reason.specs.Sides.{has, first, other_side}
use Rattle.flow_reason.specs.Waiting.{AreFlags}
use Rattle.flow_reason.specs.Isolated.{IsPart, IsLeftOfPart, is_left, is_left_here}
use Rattle.flow_reason.proofs.SideLemmas.{or_true, has_it, first_in}

or_false : (a b : Bool) → (a || b) ≡ false → (a ≡ false) × (b ≡ false)
or_false true b is = absurd (true≢false is)
or_false false b is = (refl, is)

and_true : (a b : Bool) → (a && b) ≡ true → (a ≡ true) × (b ≡ true)
and_true true b is = (refl, is)
and_true false b is = absurd (true≢false (sym is))

not_true : (a : Bool) → not a ≡ true → a ≡ false
not_true true is = absurd (true≢false (sym is))
not_true false is = refl

some_of : (o : Option ℕ) → is_some o ≡ true → (n : ℕ) × (o ≡ Some n)
some_of None is = absurd (true≢false (sym is))
some_of (Some n) is = (n, refl)

none_has_half : (test : ℕ → Bool) (a b : Process) → ((n : ℕ) → n ∈ leaves a → test n ≡ false) → ((n : ℕ) → n ∈ leaves b → test n ≡ false) →
    (n : ℕ) → n ∈ (leaves a ++ leaves b) → test n ≡ false
none_has_half test a b in_a in_b n member = ⊎_elim (in_a n) (in_b n) (mem-append n (leaves a) (leaves b) member)

-- where no leaf passes the test, none does
none_has : (test : ℕ → Bool) (g : Process) → has test g ≡ false → (n : ℕ) → n ∈ leaves g → test n ≡ false
none_has test Empty is n member = absurd member
none_has test (Task k) is n member = ⊎_elim (λ same. ap test same ∙ is) (λ m. absurd m) member
none_has test (Sequence a b) is n member =
    let both = or_false (has test a) (has test b) is in none_has_half test a b (none_has test a both.0) (none_has test b both.1) n member
none_has test (Parallel a b) is n member =
    let both = or_false (has test a) (has test b) is in none_has_half test a b (none_has test a both.0) (none_has test b both.1) n member
none_has test (Choice a b) is n member =
    let both = or_false (has test a) (has test b) is in none_has_half test a b (none_has test a both.0) (none_has test b both.1) n member
none_has test (Isolated a) is n member = none_has test a is n member

-- the leaves of a part are leaves of the goal
part_leaf : (part g : Process) → IsPart part g → (n : ℕ) → n ∈ leaves part → n ∈ leaves g
part_leaf part Empty is n member = absurd is
part_leaf part (Task k) is n member = absurd is
part_leaf part (Sequence a b) is n member =
    ⊎_elim (λ l. mem_append_left n (leaves a) (leaves b) (part_leaf part a l n member)) (λ r. mem_append_right n (leaves a) (leaves b) (part_leaf part b r n member)) is
part_leaf part (Parallel a b) is n member =
    ⊎_elim (λ l. mem_append_left n (leaves a) (leaves b) (part_leaf part a l n member)) (λ r. mem_append_right n (leaves a) (leaves b) (part_leaf part b r n member)) is
part_leaf part (Choice a b) is n member =
    ⊎_elim (λ l. mem_append_left n (leaves a) (leaves b) (part_leaf part a l n member)) (λ r. mem_append_right n (leaves a) (leaves b) (part_leaf part b r n member)) is
part_leaf part (Isolated a) is n member = ⊎_elim (λ same. subst (λ p. n ∈ leaves p) same member) (λ inner. part_leaf part a inner n member) is

module _ (done : ℕ → Bool) (leaf other : ℕ) where
  -- such a part of the goal
  pub record HasLeft (g : Process) : Type 0 where
    pub part : Process
    pub stands : IsPart part g
    pub first_one : ℕ
    pub first_in : first_one ∈ leaves part
    pub first_done : done first_one ≡ true
    pub outside : ¬ (leaf ∈ leaves part)
    pub inside : other ∈ leaves part
    pub undone : done other ≡ false

  here : (a : Process) → is_left_here done leaf other a ≡ true → HasLeft (Isolated a)
  here a is =
      let (lacks, rest) = and_true (not (has (λ n. nat_eq n leaf) a)) _ is in
      let (has_other, rest) = and_true (has (λ n. nat_eq n other) a) _ rest in
      let (begun, rest) = and_true (is_some (first done a)) _ rest in
      let (left, _) = and_true (not (done other)) _ rest in
      let (n, is_first) = some_of (first done a) begun in
      let (m, passes) = first_in done a n is_first in record {
        part = a;
        stands = inl refl;
        first_one = n;
        first_in = m;
        first_done = passes;
        outside = λ member. true≢false (sym (eq-eqb leaf leaf refl) ∙ none_has (λ n. nat_eq n leaf) a (not_true (has (λ n. nat_eq n leaf) a) lacks) leaf member);
        inside = has_it other a has_other;
        undone = not_true (done other) left;
      }

  within : (a g : Process) → ((part : Process) → IsPart part a → IsPart part g) → HasLeft a → HasLeft g
  within a g of h = record {
    part = h.part;
    stands = of h.part h.stands;
    first_one = h.first_one;
    first_in = h.first_in;
    first_done = h.first_done;
    outside = h.outside;
    inside = h.inside;
    undone = h.undone;
  }

  pub left_in : (g : Process) → is_left done leaf other g ≡ true → HasLeft g
  left_in Empty is = absurd (true≢false (sym is))
  left_in (Task k) is = absurd (true≢false (sym is))
  left_in (Sequence a b) is =
      ⊎_elim (λ l. within a (Sequence a b) (λ p m. inl m) (left_in a l)) (λ r. within b (Sequence a b) (λ p m. inr m) (left_in b r))
      (or_true (is_left done leaf other a) (is_left done leaf other b) is)
  left_in (Parallel a b) is =
      ⊎_elim (λ l. within a (Parallel a b) (λ p m. inl m) (left_in a l)) (λ r. within b (Parallel a b) (λ p m. inr m) (left_in b r))
      (or_true (is_left done leaf other a) (is_left done leaf other b) is)
  left_in (Choice a b) is =
      ⊎_elim (λ l. within a (Choice a b) (λ p m. inl m) (left_in a l)) (λ r. within b (Choice a b) (λ p m. inr m) (left_in b r))
      (or_true (is_left done leaf other a) (is_left done leaf other b) is)
  left_in (Isolated a) is =
      ⊎_elim (λ l. within a (Isolated a) (λ p m. inr m) (left_in a l)) (λ r. here a r) (or_true (is_left done leaf other a) (is_left_here done leaf other a) is)

-- so it is of a run
pub left_of_run : (r : Run) (leaf other : ℕ) (flags : List Bool) → AreFlags r flags → (count : ℕ) → count ≡ length (schema r).labels →
    IsNumbered (schema r).goal count → is_left (λ n. get_or flags n false) leaf other (schema r).goal ≡ true → IsLeftOfPart r leaf other
left_of_run r leaf other flags are count counted numbered is =
    let h = left_in (λ n. get_or flags n false) leaf other (schema r).goal is in
    let below : (n : ℕ) → n ∈ leaves h.part → n < length (schema r).labels =
    λ n member. (let l = numbers_from_below 0 count n (subst (λ w. n ∈ w) numbered (part_leaf h.part (schema r).goal h.stands n member)) in omega (arith, l, counted)) in
    record {
      part = h.part;
      stands = h.stands;
      begun = (h.first_one, h.first_in, (are h.first_one (below h.first_one h.first_in)).0 h.first_done);
      outside = h.outside;
      inside = h.inside;
      undone = λ is_done. true≢false (sym ((are other (below other h.inside)).1 is_done) ∙ h.undone);
    }
