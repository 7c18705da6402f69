-- What a goal of two tells, by what its halves tell.
use Rattle.std.proofs.Common.{◌≡◌, ℕ, Bool, true, false, nat_eq, is_some, Option, Some, None, [], ◌++◌, refl}
use Rattle.flow_model.specs.Process.{Process, Sequence, Choice, Isolated}
use Rattle.flow_reason.specs.Sides.{has, first, certain, before, other_side}
use Rattle.flow_reason.specs.Isolated.{is_left, is_left_here}

module _ (done : ℕ → Bool) (a b : Process) where
  pub begun_one : is_some (first done a) ≡ true → certain done (Choice a b) ≡ certain done a
  begun_one is = rw is refl

  pub begun_other : is_some (first done a) ≡ false → is_some (first done b) ≡ true → certain done (Choice a b) ≡ certain done b
  begun_other is other = rw (is, other) refl

  pub begun_none : is_some (first done a) ≡ false → is_some (first done b) ≡ false → certain done (Choice a b) ≡ []
  begun_none is other = rw (is, other) refl

  module _ (leaf : ℕ) where
    pub before_second : has (λ n. nat_eq n leaf) b ≡ true → before done leaf (Sequence a b) ≡ certain done a ++ before done leaf b
    before_second is = rw is refl

    pub before_first : has (λ n. nat_eq n leaf) b ≡ false → before done leaf (Sequence a b) ≡ before done leaf a
    before_first is = rw is refl

    pub one_chose : (n : ℕ) → has (λ n. nat_eq n leaf) a ≡ true → first done b ≡ Some n → Some n ≡ other_side done leaf (Choice a b)
    one_chose n is chose = rw (is, chose) refl

    pub one_within : (o : Option ℕ) → has (λ n. nat_eq n leaf) a ≡ true → first done b ≡ None → other_side done leaf a ≡ o → o ≡ other_side done leaf (Choice a b)
    one_within o is none within = rw (is, none, within) refl

    pub other_chose : (n : ℕ) → has (λ n. nat_eq n leaf) a ≡ false → has (λ n. nat_eq n leaf) b ≡ true → first done a ≡ Some n → Some n ≡ other_side done leaf (Choice a b)
    other_chose n not_one is chose = rw (not_one, is, chose) refl

    pub other_within : (o : Option ℕ) → has (λ n. nat_eq n leaf) a ≡ false → has (λ n. nat_eq n leaf) b ≡ true → first done a ≡ None → other_side done leaf b ≡ o →
        o ≡ other_side done leaf (Choice a b)
    other_within o not_one is none within = rw (not_one, is, none, within) refl

    pub neither : has (λ n. nat_eq n leaf) a ≡ false → has (λ n. nat_eq n leaf) b ≡ false → None ≡ other_side done leaf (Choice a b)
    neither not_one not_other = rw (not_one, not_other) refl

-- nothing of it is left inside the part, but of the part itself
pub left_here : (done : ℕ → Bool) (a : Process) (leaf other : ℕ) → is_left done leaf other a ≡ false →
    is_left_here done leaf other a ≡ is_left done leaf other (Isolated a)
left_here done a leaf other none = rw none refl
