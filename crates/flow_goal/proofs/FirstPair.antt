-- What the leaves of a goal that pass a test come to.
use Rattle.std.proofs.Common.{◌≡◌, ◌≤◌, ◌<◌, ℕ, ◌+◌, Bool, true, false, cond, nat_eq, ◌⊎◌, Option, Some, None, refl, sym, ap, ◌∙◌, subst, inl, inr, arith}
use Rattle.std.proofs.lemmas.Bool.{eqb-true, eq-eqb, cases_lt}
use Rattle.flow_model.specs.Lists.{◌∈◌, numbers_from}
use Rattle.flow_model.specs.Process.{Process, Empty, Task, Sequence, Parallel, Choice, Isolated, leaves}
use Rattle.flow_laws.specs.Events.{AreTogether}
use Rattle.flow_laws.proofs.EventsLemmas.{blocks_with_both}
use Rattle.flow_laws.proofs.TraceLeaves.{leaf_of_blocks}
use Rattle.flow_model.proofs.MadeLists.{numbers_from_below, numbers_from_least}
use Rattle.flow_model.proofs.Lists.{mem_append_left, mem_append_right, mem-append}
use Rattle.flow_goal.specs.declared.occurrence.Occurrence.{Occurrence}
use Rattle.flow_goal.specs.declared.occurrence.Occurrence.TheVariants.{Never, Once, Again}
use Rattle.flow_goal.specs.Occurrences.{first, in_both, in_choice, joined, occurrence_in}
use Rattle.flow_goal.proofs.Numbers.{AreRows, rows}

-- the members of a row of numbers
pub in_row : (low count n : ℕ) → n ∈ numbers_from low count → (low ≤ n) × (n < low + count)
in_row low count n m = (numbers_from_least low count n m, numbers_from_below low count n m)

pub together_first : (g : Process) (x y : ℕ) → AreTogether g x y → x ∈ leaves g
together_first g x y h = let (blocks, b, mx, my) = blocks_with_both g x y h in leaf_of_blocks g blocks b x mx

together_second : (g : Process) (x y : ℕ) → AreTogether g x y → y ∈ leaves g
together_second g x y h = let (blocks, b, mx, my) = blocks_with_both g x y h in leaf_of_blocks g blocks b y my

-- Least members and pairs

abbrev pub IsLeast : (ℕ → Type 0) → ℕ → Type 0
IsLeast Has n = Has n × ((m : ℕ) → Has m → n ≤ m)

-- the pair does not come after the other one
abbrev pub IsSooner : ℕ → ℕ → ℕ → ℕ → Type 0
IsSooner x y v w = (x < v) ⊎ ((x ≡ v) × (y ≤ w))

abbrev pub IsLeastPair : (ℕ → ℕ → Type 0) → ℕ → ℕ → Type 0
IsLeastPair Pair x y = Pair x y × ((v w : ℕ) → Pair v w → IsSooner x y v w)

-- what some leaves come to, of which those are pairs
abbrev pub IsOccurrence : (ℕ → Type 0) → (ℕ → ℕ → Type 0) → Occurrence → Type 0
IsOccurrence Has Pair Never = (n : ℕ) → ¬ (Has n)
IsOccurrence Has Pair (Once n) = IsLeast Has n × ((x y : ℕ) → ¬ (Pair x y))
IsOccurrence Has Pair (Again n x y) = IsLeast Has n × IsLeastPair Pair x y

-- the same leaves and pairs come to the same
moved : (A B : ℕ → Type 0) (P Q : ℕ → ℕ → Type 0) → ((n : ℕ) → A n → B n) → ((n : ℕ) → B n → A n) → ((x y : ℕ) → P x y → Q x y) → ((x y : ℕ) → Q x y → P x y) →
    (o : Occurrence) → IsOccurrence A P o → IsOccurrence B Q o
moved A B P Q to back there home Never none = λ n b. none n (back n b)
moved A B P Q to back there home (Once n) ((a, least), none) = ((to n a, λ m b. least m (back m b)), λ x y q. none x y (home x y q))
moved A B P Q to back there home (Again n x y) ((a, least), (p, sooner)) =
    ((to n a, λ m b. least m (back m b)), (there x y p, λ v w q. sooner v w (home v w q)))

-- two parts, of which the leaves of the first come before those of the second
module _ (A B : ℕ → Type 0) (P Q : ℕ → ℕ → Type 0) (apart : (x y : ℕ) → A x → B y → x < y) (from : (x y : ℕ) → P x y → A x)
    (end_of : (x y : ℕ) → P x y → A y) (other : (x y : ℕ) → Q x y → B x) where
  abbrev Any : ℕ → Type 0
  Any n = A n ⊎ B n

  abbrev Both : ℕ → ℕ → Type 0
  Both x y = ((A x × B y) ⊎ P x y) ⊎ Q x y

  abbrev Side : ℕ → ℕ → Type 0
  Side x y = P x y ⊎ Q x y

  least_of_any : (n : ℕ) → IsLeast A n → IsLeast Any n
  least_of_any n (a, least) = (inl a, λ m h. le m h)
    where
      le : (m : ℕ) → Any m → n ≤ m
      le m (inl h) = least m h
      le m (inr h) = let lt : n < m = apart n m a h in omega arith

  only_first : ((n : ℕ) → ¬ (B n)) → (o : Occurrence) → IsOccurrence A P o → IsOccurrence Any Both o
  only_first none o h = moved A Any P Both (λ n a. inl a) back (λ x y p. inl (inr p)) home o h
    where
      back : (n : ℕ) → Any n → A n
      back n (inl a) = a
      back n (inr b) = absurd (none n b)

      home : (x y : ℕ) → Both x y → P x y
      home x y (inl (inl h)) = absurd (none y h.1)
      home x y (inl (inr p)) = p
      home x y (inr q) = absurd (none x (other x y q))

  only_second : ((n : ℕ) → ¬ (A n)) → (o : Occurrence) → IsOccurrence B Q o → IsOccurrence Any Both o
  only_second none o h = moved B Any Q Both (λ n b. inr b) back (λ x y q. inr q) home o h
    where
      back : (n : ℕ) → Any n → B n
      back n (inl a) = absurd (none n a)
      back n (inr b) = b

      home : (x y : ℕ) → Both x y → Q x y
      home x y (inl (inl h)) = absurd (none x h.0)
      home x y (inl (inr p)) = absurd (none x (from x y p))
      home x y (inr q) = q

  -- the first leaves of both are the least pair, where the first one begins no other
  first_leaves : (n m : ℕ) → IsLeast A n → IsLeast B m → ((v w : ℕ) → P v w → n < v) → IsOccurrence Any Both (Again n n m)
  first_leaves n m (a, least) (b, low) later = (least_of_any n (a, least), (inl (inl (a, b)), λ v w h. sooner v w h))
    where
      where_first : (v w : ℕ) → n ≤ v → m ≤ w → IsSooner n m v w
      where_first v w le more = elim (cases_lt n v) [ inl lt ↦ inl lt | inr ge ↦ inr (omega arith, more) ]

      sooner : (v w : ℕ) → Both v w → IsSooner n m v w
      sooner v w (inl (inl h)) = where_first v w (least v h.0) (low w h.1)
      sooner v w (inl (inr p)) = inl (later v w p)
      sooner v w (inr q) = inl (apart n v a (other v w q))

  -- the least pair of the first stays the least where it begins with the first leaf
  first_pair : (n x y : ℕ) → IsLeast A n → IsLeastPair P x y → x ≡ n → IsOccurrence Any Both (Again n x y)
  first_pair n x y (a, least) (p, low) e = (least_of_any n (a, least), (inl (inr p), λ v w h. sooner v w h))
    where
      where_first : (v w : ℕ) → n ≤ v → y < w → IsSooner x y v w
      where_first v w le lt = elim (cases_lt n v) [ inl after ↦ inl (omega arith) | inr ge ↦ inr (omega arith, omega arith) ]

      sooner : (v w : ℕ) → Both v w → IsSooner x y v w
      sooner v w (inl (inl h)) = where_first v w (least v h.0) (apart y w (end_of x y p) h.1)
      sooner v w (inl (inr h)) = low v w h
      sooner v w (inr q) = inl (apart x v (from x y p) (other v w q))

  begun : (n m x y : ℕ) → IsLeast A n → IsLeastPair P x y → IsLeast B m → (b : Bool) → nat_eq x n ≡ b →
      IsOccurrence Any Both (cond b (Again n x y) (Again n n m))
  begun n m x y a p low true e = first_pair n x y a p (eqb-true x n e)
  begun n m x y a p low false e = first_leaves n m a low later
    where
      later : (v w : ℕ) → P v w → n < v
      later v w q =
          let le : n ≤ x = a.1 x (from x y p.0) in
          let apart_from : (x ≡ n) → ⊥ = λ same. let f : true ≡ false = sym (eq-eqb x n same) ∙ e in cc in
          elim (cases_lt n x) [
            | inl lt ↦ elim (p.1 v w q) [ inl after ↦ omega arith | inr same ↦ omega (arith, same.0) ]
            | inr ge ↦ absurd (apart_from (omega arith))
          ]

  least_of : (o : Occurrence) (m : ℕ) → first o ≡ Some m → IsOccurrence B Q o → IsLeast B m
  least_of Never m e h = absurd (cc)
  least_of (Once n) m e h = let same : n ≡ m = cc in subst (IsLeast B) same h.0
  least_of (Again n x y) m e h = let same : n ≡ m = cc in subst (IsLeast B) same h.0

  none_of : (o : Occurrence) → first o ≡ None → IsOccurrence B Q o → (n : ℕ) → ¬ (B n)
  none_of Never e h = h
  none_of (Once n) e h = absurd (cc)
  none_of (Again n x y) e h = absurd (cc)

  joined_is : (one two : Occurrence) (o : Option ℕ) → first two ≡ o → IsOccurrence A P one → IsOccurrence B Q two → IsOccurrence Any Both (joined one two o)
  joined_is one two None e p q = only_first (none_of two e q) one p
  joined_is Never two (Some m) e p q = only_second p two q
  joined_is (Once n) two (Some m) e (a, none) q = first_leaves n m a (least_of two m e q) (λ v w h. absurd (none v w h))
  joined_is (Again n x y) two (Some m) e (a, p) q = begun n m x y a p (least_of two m e q) (nat_eq x n) refl

  pub both_is : (one two : Occurrence) → IsOccurrence A P one → IsOccurrence B Q two → IsOccurrence Any Both (in_both one two)
  both_is one two p q = joined_is one two (first two) refl p q

  pub choice_is : (one two : Occurrence) → IsOccurrence A P one → IsOccurrence B Q two → IsOccurrence Any Side (in_choice one two)
  choice_is Never two p q = moved B Any Q Side (λ n b. inr b) back (λ x y h. inr h) home two q
    where
      back : (n : ℕ) → Any n → B n
      back n (inl a) = absurd (p n a)
      back n (inr b) = b

      home : (x y : ℕ) → Side x y → Q x y
      home x y (inl h) = absurd (p x (from x y h))
      home x y (inr h) = h
  choice_is (Once n) Never (a, none) q = (least_of_any n a, λ x y h. no x y h)
    where
      no : (x y : ℕ) → ¬ (Side x y)
      no x y (inl h) = none x y h
      no x y (inr h) = q x (other x y h)
  choice_is (Once n) (Once m) (a, none) (b, no_pair) = (least_of_any n a, λ x y h. no x y h)
    where
      no : (x y : ℕ) → ¬ (Side x y)
      no x y (inl h) = none x y h
      no x y (inr h) = no_pair x y h
  choice_is (Once n) (Again m x y) (a, none) (b, (q, low)) = (least_of_any n a, (inr q, λ v w h. sooner v w h))
    where
      sooner : (v w : ℕ) → Side v w → IsSooner x y v w
      sooner v w (inl h) = absurd (none v w h)
      sooner v w (inr h) = low v w h
  choice_is (Again n x y) two (a, (p, low)) q = (least_of_any n a, (inl p, λ v w h. sooner v w h))
    where
      sooner : (v w : ℕ) → Side v w → IsSooner x y v w
      sooner v w (inl h) = low v w h
      sooner v w (inr h) = inl (apart x v (from x y p) (other v w h))

-- In a goal

-- the leaves that pass
abbrev pub Passing : (ℕ → Bool) → Process → ℕ → Type 0
Passing passes g n = (n ∈ leaves g) × (passes n ≡ true)

-- the pairs of them that some execution holds
abbrev pub Paired : (ℕ → Bool) → Process → ℕ → ℕ → Type 0
Paired passes g x y = AreTogether g x y × (passes x ≡ true) × (passes y ≡ true)

pub rows_apart : (a b : Process) (low count : ℕ) → AreRows (leaves a) (leaves b) low count → (m n : ℕ) → m ∈ leaves a → n ∈ leaves b → m < n
rows_apart a b low count r m n i j =
    let h = in_row low r.left m (subst (λ list. m ∈ list) r.front_is i) in
    let k = in_row (low + r.left) r.right n (subst (λ list. n ∈ list) r.back_is j) in
    omega (arith, h.1, k.0)

task_is : (passes : ℕ → Bool) (n : ℕ) (b : Bool) → passes n ≡ b → IsOccurrence (Passing passes (Task n)) (Paired passes (Task n)) (cond b (Once n) Never)
task_is passes n true e = (((inl refl, e), λ m h. least m h), λ x y h. h.0)
  where
    least : (m : ℕ) → Passing passes (Task n) m → n ≤ m
    least m (inl same, h) = omega arith
    least m (inr i, h) = absurd i
task_is passes n false e = λ m h. none m h
  where
    none : (m : ℕ) → ¬ (Passing passes (Task n) m)
    none m (inl same, h) = let f : true ≡ false = sym h ∙ ap passes same ∙ e in cc
    none m (inr i, h) = absurd i

module _ (passes : ℕ → Bool) (a b : Process) (before : (m n : ℕ) → m ∈ leaves a → n ∈ leaves b → m < n) where
  abbrev InFirst : ℕ → Type 0
  InFirst = Passing passes a

  abbrev InSecond : ℕ → Type 0
  InSecond = Passing passes b

  abbrev PairsOfFirst : ℕ → ℕ → Type 0
  PairsOfFirst = Paired passes a

  abbrev PairsOfSecond : ℕ → ℕ → Type 0
  PairsOfSecond = Paired passes b

  apart : (x y : ℕ) → InFirst x → InSecond y → x < y
  apart x y h k = before x y h.0 k.0

  begins : (g : Process) (x y : ℕ) → Paired passes g x y → Passing passes g x
  begins g x y h = (together_first g x y h.0, h.1)

  ends : (x y : ℕ) → PairsOfFirst x y → InFirst y
  ends x y h = (together_second a x y h.0, h.2)

  passing_either : (n : ℕ) → InFirst n ⊎ InSecond n → Passing passes (Sequence a b) n
  passing_either n (inl h) = (mem_append_left n (leaves a) (leaves b) h.0, h.1)
  passing_either n (inr h) = (mem_append_right n (leaves a) (leaves b) h.0, h.1)

  either_passing : (n : ℕ) → Passing passes (Sequence a b) n → InFirst n ⊎ InSecond n
  either_passing n (m, p) = elim (mem-append n (leaves a) (leaves b) m) [ inl i ↦ inl (i, p) | inr i ↦ inr (i, p) ]

  paired_both : (x y : ℕ) → ((InFirst x × InSecond y) ⊎ PairsOfFirst x y) ⊎ PairsOfSecond x y → Paired passes (Sequence a b) x y
  paired_both x y (inl (inl h)) = (inl (inl (h.0.0, h.1.0)), h.0.1, h.1.1)
  paired_both x y (inl (inr h)) = (inl (inr h.0), h.1, h.2)
  paired_both x y (inr h) = (inr h.0, h.1, h.2)

  both_paired : (x y : ℕ) → Paired passes (Sequence a b) x y → ((InFirst x × InSecond y) ⊎ PairsOfFirst x y) ⊎ PairsOfSecond x y
  both_paired x y (inl (inl h), p, q) = inl (inl ((h.0, p), (h.1, q)))
  both_paired x y (inl (inr h), p, q) = inl (inr (h, p, q))
  both_paired x y (inr h, p, q) = inr (h, p, q)

  paired_side : (x y : ℕ) → PairsOfFirst x y ⊎ PairsOfSecond x y → Paired passes (Choice a b) x y
  paired_side x y (inl h) = (inl h.0, h.1, h.2)
  paired_side x y (inr h) = (inr h.0, h.1, h.2)

  side_paired : (x y : ℕ) → Paired passes (Choice a b) x y → PairsOfFirst x y ⊎ PairsOfSecond x y
  side_paired x y (inl h, p, q) = inl (h, p, q)
  side_paired x y (inr h, p, q) = inr (h, p, q)

  in_sequence : (one two : Occurrence) → IsOccurrence InFirst PairsOfFirst one → IsOccurrence InSecond PairsOfSecond two →
      IsOccurrence (Passing passes (Sequence a b)) (Paired passes (Sequence a b)) (in_both one two)
  in_sequence one two p q =
      moved _ (Passing passes (Sequence a b)) _ (Paired passes (Sequence a b)) passing_either either_passing paired_both both_paired (in_both one two)
      (both_is InFirst InSecond PairsOfFirst PairsOfSecond apart (begins a) ends (begins b) one two p q)

  in_sides : (one two : Occurrence) → IsOccurrence InFirst PairsOfFirst one → IsOccurrence InSecond PairsOfSecond two →
      IsOccurrence (Passing passes (Choice a b)) (Paired passes (Choice a b)) (in_choice one two)
  in_sides one two p q =
      moved _ (Passing passes (Choice a b)) _ (Paired passes (Choice a b)) passing_either either_passing paired_side side_paired (in_choice one two)
      (choice_is InFirst InSecond PairsOfFirst PairsOfSecond apart (begins a) ends (begins b) one two p q)

-- what the leaves of a goal with numbered leaves come to
pub occurrence_is : (passes : ℕ → Bool) (g : Process) (low count : ℕ) → leaves g ≡ numbers_from low count →
    IsOccurrence (Passing passes g) (Paired passes g) (occurrence_in passes g)
occurrence_is passes Empty low count e = λ n h. absurd h.0
occurrence_is passes (Task n) low count e = task_is passes n (passes n) refl
occurrence_is passes (Sequence a b) low count e =
    let r : AreRows (leaves a) (leaves b) low count = rows (leaves a) (leaves b) low count e in
    in_sequence passes a b (rows_apart a b low count r) (occurrence_in passes a) (occurrence_in passes b)
    (occurrence_is passes a low r.left r.front_is) (occurrence_is passes b (low + r.left) r.right r.back_is)
occurrence_is passes (Parallel a b) low count e =
    let r : AreRows (leaves a) (leaves b) low count = rows (leaves a) (leaves b) low count e in
    in_sequence passes a b (rows_apart a b low count r) (occurrence_in passes a) (occurrence_in passes b)
    (occurrence_is passes a low r.left r.front_is) (occurrence_is passes b (low + r.left) r.right r.back_is)
occurrence_is passes (Choice a b) low count e =
    let r : AreRows (leaves a) (leaves b) low count = rows (leaves a) (leaves b) low count e in
    in_sides passes a b (rows_apart a b low count r) (occurrence_in passes a) (occurrence_in passes b)
    (occurrence_is passes a low r.left r.front_is) (occurrence_is passes b (low + r.left) r.right r.back_is)
occurrence_is passes (Isolated a) low count e = occurrence_is passes a low count e

-- of two leaves together the first is the lesser
pub together_rise : (g : Process) (x y low count : ℕ) → leaves g ≡ numbers_from low count → AreTogether g x y → x < y
together_rise Empty x y low count e h = absurd h
together_rise (Task n) x y low count e h = absurd h
together_rise (Sequence a b) x y low count e (inl (inl h)) = rows_apart a b low count (rows (leaves a) (leaves b) low count e) x y h.0 h.1
together_rise (Sequence a b) x y low count e (inl (inr h)) = let r = rows (leaves a) (leaves b) low count e in together_rise a x y low r.left r.front_is h
together_rise (Sequence a b) x y low count e (inr h) = let r = rows (leaves a) (leaves b) low count e in together_rise b x y (low + r.left) r.right r.back_is h
together_rise (Parallel a b) x y low count e (inl (inl h)) = rows_apart a b low count (rows (leaves a) (leaves b) low count e) x y h.0 h.1
together_rise (Parallel a b) x y low count e (inl (inr h)) = let r = rows (leaves a) (leaves b) low count e in together_rise a x y low r.left r.front_is h
together_rise (Parallel a b) x y low count e (inr h) = let r = rows (leaves a) (leaves b) low count e in together_rise b x y (low + r.left) r.right r.back_is h
together_rise (Choice a b) x y low count e (inl h) = let r = rows (leaves a) (leaves b) low count e in together_rise a x y low r.left r.front_is h
together_rise (Choice a b) x y low count e (inr h) = let r = rows (leaves a) (leaves b) low count e in together_rise b x y (low + r.left) r.right r.back_is h
together_rise (Isolated a) x y low count e h = together_rise a x y low count e h
