-- The comparisons of constants and of facts answer for equality, so they meet the laws of `==`.
use Rattle.std.specs.Prelude.{◌≡◌, ℕ, Bool, true, false, nat_eq, ◌&&◌, List}
use Rattle.std.specs.Bool.{Decides}
use Rattle.std.specs.Cmp.{IsEquivalence, IsPartialEquivalence, partial_equiv_from_equiv}
use Rattle.std.specs.Cmp.Lexicographic.{pointwise}
use Rattle.std.proofs.Common.{refl, sym, ap, ◌∙◌}
use Rattle.std.proofs.lemmas.Bool.{and_parts, eqb-true, eq-eqb}
use Rattle.std.proofs.lemmas.Slice.Eq.{slice_eq-Decides}
use Rattle.flow_facts.specs.declared.constant.Const.{Const}
use Rattle.flow_facts.specs.declared.constant.Const.TheVariants.{Word, Number}
use Rattle.flow_facts.specs.Atom.{Atom, atom_eq, const_eq}

-- two tests of which each gives the other are one
same_tests : (a b : Bool) → (a ≡ true → b ≡ true) → (b ≡ true → a ≡ true) → a ≡ b
same_tests true b f g = sym (f refl)
same_tests false true f g = g refl
same_tests false false f g = refl

pub deciding_equiv : {K : Type 0} (E : K → K → Bool) → ((a b : K) → Decides (E a b) (a ≡ b)) → IsEquivalence E
deciding_equiv E d = record {
  refl = λ x. (d x x).1 refl;
  symm = λ x y. same_tests (E x y) (E y x) (λ e. (d y x).1 (sym ((d x y).0 e))) (λ e. (d x y).1 (sym ((d y x).0 e)));
  congr = λ x y z e. ap (λ w. E w z) ((d x y).0 e);
}

nat_eq-Decides : (m n : ℕ) → Decides (nat_eq m n) (m ≡ n)
nat_eq-Decides m n = (eqb-true m n, eq-eqb m n)

pub words_eq-Decides : (a b : List ℕ) → Decides (pointwise nat_eq a b) (a ≡ b)
words_eq-Decides a b = slice_eq-Decides nat_eq-Decides a b (pointwise nat_eq a b) refl

pub const_eq-Decides : (a b : Const) → Decides (const_eq a b) (a ≡ b)
const_eq-Decides (Word a) (Word b) = ((λ e. ap Word ((words_eq-Decides a b).0 e)), (λ e. (words_eq-Decides a b).1 (word_inj a b e)))
  where
    word_inj : (a b : List ℕ) → Word a ≡ Word b → a ≡ b
    word_inj a b e = cc
const_eq-Decides (Word a) (Number n) = ((λ e. cc), (λ e. cc))
const_eq-Decides (Number m) (Word b) = ((λ e. cc), (λ e. cc))
const_eq-Decides (Number m) (Number n) = ((λ e. ap Number (eqb-true m n e)), (λ e. eq-eqb m n (number_inj m n e)))
  where
    number_inj : (m n : ℕ) → Number m ≡ Number n → m ≡ n
    number_inj m n e = cc

pub atom_eq-Decides : (a b : Atom) → Decides (atom_eq a b) (a ≡ b)
atom_eq-Decides a b = (same, other)
  where
    args_eq-Decides : Decides (pointwise const_eq a.args b.args) (a.args ≡ b.args)
    args_eq-Decides = slice_eq-Decides const_eq-Decides a.args b.args (pointwise const_eq a.args b.args) refl

    same : atom_eq a b ≡ true → a ≡ b
    same e =
        let (r, s) = and_parts (pointwise nat_eq a.relation b.relation) (pointwise const_eq a.args b.args) e in
        let p = (words_eq-Decides a.relation b.relation).0 r in
        let q = args_eq-Decides.0 s in
        λ i. record { relation = p i; args = q i }

    other : a ≡ b → atom_eq a b ≡ true
    other e =
        ap (λ v. v && pointwise const_eq a.args b.args) ((words_eq-Decides a.relation b.relation).1 (ap (λ (x : Atom). x.relation) e))
        ∙ args_eq-Decides.1 (ap (λ (x : Atom). x.args) e)

pub const_equiv : IsEquivalence const_eq
const_equiv = deciding_equiv const_eq const_eq-Decides

pub const_partial_equiv : IsPartialEquivalence const_eq
const_partial_equiv = partial_equiv_from_equiv const_equiv

pub atom_equiv : IsEquivalence atom_eq
atom_equiv = deciding_equiv atom_eq atom_eq-Decides

pub atom_partial_equiv : IsPartialEquivalence atom_eq
atom_partial_equiv = partial_equiv_from_equiv atom_equiv

pub names_same : (x y : List ℕ) → pointwise nat_eq x y ≡ true → x ≡ y
names_same x y e = (words_eq-Decides x y).0 e

pub atoms_same : (x y : Atom) → atom_eq x y ≡ true → x ≡ y
atoms_same x y e = (atom_eq-Decides x y).0 e
