-- Lists that interleave: their members, and the order of these.
use Rattle.std.proofs.Common.{◌≡◌, List, [], ◌∷◌, ◌++◌, ◌⊎◌, refl, sym, ap, ◌∙◌, subst, inl, inr, ⊎_elim, arith}
use Rattle.flow_model.specs.Lists.{◌∈◌, AreDistinct, StandsBefore, joined}
use Rattle.flow_model.specs.Trace.{Shuffle, both_end, from_left, from_right}
use Rattle.flow_model.specs.Decided.{shuffle_right}
use Rattle.flow_model.proofs.Lists.{Apart, before_right, mem_append_right}

pub shuffle_swap : {A : Type 0} {a b c : List A} → Shuffle a b c → Shuffle b a c
shuffle_swap both_end = both_end
shuffle_swap (from_left s) = from_right (shuffle_swap s)
shuffle_swap (from_right s) = from_left (shuffle_swap s)

shuffle_front : {A : Type 0} (front : List A) {a b c : List A} → Shuffle a b c → Shuffle (front ++ a) b (front ++ c)
shuffle_front [] s = s
shuffle_front (x ∷ front) s = from_left (shuffle_front front s)

pub shuffle-append : {A : Type 0} (a b : List A) → Shuffle a b (a ++ b)
shuffle-append [] b = shuffle_right b
shuffle-append (x ∷ a) b = from_left (shuffle-append a b)

-- where blocks interleave, so do their members
pub shuffle-joined : {A : Type 0} {a b c : List (List A)} → Shuffle a b c → Shuffle (joined a) (joined b) (joined c)
shuffle-joined both_end = both_end
shuffle-joined (from_left {x = x} s) = shuffle_front x (shuffle-joined s)
shuffle-joined (from_right {x = x} s) = shuffle_swap (shuffle_front x (shuffle_swap (shuffle-joined s)))

pub of_shuffle : {A : Type 0} {a b c : List A} → Shuffle a b c → (x : A) → x ∈ c → (x ∈ a) ⊎ (x ∈ b)
of_shuffle both_end x h = inl h
of_shuffle (from_left s) x h = grind (arith, h, of_shuffle s x)
of_shuffle (from_right s) x h = grind (arith, h, of_shuffle s x)

pub mem_shuffle_left : {A : Type 0} {a b c : List A} → Shuffle a b c → (x : A) → x ∈ a → x ∈ c
mem_shuffle_left both_end x h = h
mem_shuffle_left (from_left s) x h = grind (arith, h, mem_shuffle_left s x)
mem_shuffle_left (from_right s) x h = inr (mem_shuffle_left s x h)

pub mem_shuffle_right : {A : Type 0} {a b c : List A} → Shuffle a b c → (x : A) → x ∈ b → x ∈ c
mem_shuffle_right s x m = mem_shuffle_left (shuffle_swap s) x m

pub mem_shuffle : {A P Q : Type 0} {a b c : List A} → Shuffle a b c → (x : A) → (P → x ∈ a) → (Q → x ∈ b) → P ⊎ Q → x ∈ c
mem_shuffle s x f g = ⊎_elim (λ p. mem_shuffle_left s x (f p)) (λ q. mem_shuffle_right s x (g q))

pub before_in_shuffle : {A : Type 0} {a b c : List A} → Shuffle a b c → (x y : A) → StandsBefore x y a → StandsBefore x y c
before_in_shuffle both_end x y h = h
before_in_shuffle (from_left s) x y h = grind (arith, h, before_in_shuffle s x y, mem_shuffle_left s y)
before_in_shuffle (from_right s) x y h = inr (before_in_shuffle s x y h)

pub distinct-shuffle : {A : Type 0} {a b c : List A} → Shuffle a b c → AreDistinct a → AreDistinct b → Apart a b → AreDistinct c
distinct-shuffle both_end d e apart = tt
distinct-shuffle (from_left {x = x} s) d e apart = grind (arith, d, e, of_shuffle s x, apart x, distinct-shuffle s d.1 e (λ y k. apart y (inr k)))
distinct-shuffle (from_right {x = x} s) d e apart = grind (arith, d, e, of_shuffle s x, apart x, distinct-shuffle s d e.1 (λ y k l. apart y k (inr l)))

pub distinct_in_shuffle : {A : Type 0} {a b c : List A} → Shuffle a b c → AreDistinct c → AreDistinct a
distinct_in_shuffle both_end d = tt
distinct_in_shuffle (from_left {x = x} s) (new, d) = (λ m. new (mem_shuffle_left s x m), distinct_in_shuffle s d)
distinct_in_shuffle (from_right s) (new, d) = distinct_in_shuffle s d

-- a list of members of two lists, by where they are from
pub shuffle_of : {A : Type 0} (a b list : List A) → ((x : A) → x ∈ list → (x ∈ a) ⊎ (x ∈ b)) →
    (u v : List A) × Shuffle u v list × ((x : A) → x ∈ u → x ∈ a) × ((x : A) → x ∈ v → x ∈ b)
shuffle_of a b [] f = ([], [], both_end, λ x h. absurd h, λ x h. absurd h)
shuffle_of {A} a b (y ∷ list) f =
    let (u, v, s, of_a, of_b) = shuffle_of a b list (λ x m. f x (inr m)) in
    elim (f y (inl refl)) [
      | inl k ↦ (y ∷ u, v, from_left s, λ x m. grind (arith, m, k, of_a x), of_b)
      | inr k ↦ (u, y ∷ v, from_right s, of_a, λ x m. grind (arith, m, k, of_b x))
    ]

-- where nothing of the other list stands before a member of the front, the front comes first
pub front_first : {A : Type 0} (front rest other list : List A) → Shuffle (front ++ rest) other list →
    ((x y : A) → x ∈ front → y ∈ other → ¬ (StandsBefore y x list)) → (more : List A) × (list ≡ front ++ more) × Shuffle rest other more
front_first [] rest other list s apart = (list, refl, s)
front_first (x ∷ front) rest other list (from_left {c = c} s) apart =
    let (more, e, r) = front_first front rest other c s (λ u v m k b. apart u v (inr m) k (inr b)) in (more, ap (λ l. x ∷ l) e, r)
front_first (x ∷ front) rest other list (from_right {x = y} s) apart =
    absurd (apart x y (inl refl) (inl refl) (inl (refl, mem_shuffle_left s x (inl refl))))

pub shuffle_nothing : {A : Type 0} {b c : List A} → Shuffle [] b c → c ≡ b
shuffle_nothing both_end = refl
shuffle_nothing (from_right {x = x} s) = ap (λ l. x ∷ l) (shuffle_nothing s)

-- no member of the other list stands between two members of a block
abbrev pub AreUnbroken : {A : Type 0} → List (List A) → List A → List A → Type 0
AreUnbroken {A} blocks other list =
    (block : List A) → block ∈ blocks → (x y z : A) → x ∈ block → y ∈ other → z ∈ block → StandsBefore x y list → ¬ (StandsBefore y z list)

-- the blocks interleave so that their members are the list
abbrev pub BlocksShuffle : {A : Type 0} → List (List A) → List (List A) → List A → Type 0
BlocksShuffle {A} a b list = (c : List (List A)) × Shuffle a b c × (list ≡ joined c)

shuffled_back : {A : Type 0} {a b : List (List A)} {list : List A} → BlocksShuffle a b list → BlocksShuffle b a list
shuffled_back (c, s, e) = (c, shuffle_swap s, e)

-- the first block is taken, and what is left of the list breaks no block either
take_block : {A : Type 0} (x : A) (block : List A) (a b : List (List A)) (rest : List A) → Shuffle (block ++ joined a) (joined b) rest →
    AreUnbroken ((x ∷ block) ∷ a) (joined b) (x ∷ rest) → AreUnbroken b (joined ((x ∷ block) ∷ a)) (x ∷ rest) →
    ((more : List A) → Shuffle (joined a) (joined b) more → AreUnbroken a (joined b) more → AreUnbroken b (joined a) more → BlocksShuffle a b more) →
    BlocksShuffle ((x ∷ block) ∷ a) b (x ∷ rest)
take_block {A} x block a b rest s h k left =
    let (more, e, r) = front_first block (joined a) (joined b) rest s
    (λ u v m l i. h (x ∷ block) (inl refl) x v u (inl refl) l (inr m) (inl (refl, mem_shuffle_right s v l)) (inr i)) in
    let back = λ (u v : A) (i : StandsBefore u v more). subst (StandsBefore u v) (sym e) (before_right u v block more i) in
    let (c, j, f) = left more r (λ part m u v w l n o i j. h part (inr m) u v w l n o (inr (back u v i)) (inr (back v w j)))
    (λ part m u v w l n o i j. k part m u v w l (mem_append_right v (x ∷ block) (joined a) n) o (inr (back u v i)) (inr (back v w j))) in
    ((x ∷ block) ∷ c, from_left j, ap (λ l. x ∷ l) (e ∙ ap (λ l. block ++ l) f))

-- where the members of blocks interleave and break no block, so do the blocks
pub shuffle_blocks : {A : Type 0} (a b : List (List A)) (list : List A) → Shuffle (joined a) (joined b) list →
    AreUnbroken a (joined b) list → AreUnbroken b (joined a) list → BlocksShuffle a b list
shuffle_blocks [] b list s h k = (b, shuffle_right b, shuffle_nothing s)
shuffle_blocks ([] ∷ a) b list s h k =
    let (c, r, e) = shuffle_blocks a b list s (λ block m. h block (inr m)) k in ([] ∷ c, from_left r, e)
shuffle_blocks (block ∷ a) [] list s h k = (block ∷ a, shuffle_swap (shuffle_right (block ∷ a)), shuffle_nothing (shuffle_swap s))
shuffle_blocks (block ∷ a) ([] ∷ b) list s h k =
    let (c, r, e) = shuffle_blocks (block ∷ a) b list s h (λ block m. k block (inr m)) in ([] ∷ c, from_right r, e)
shuffle_blocks ((x ∷ block) ∷ a) (other ∷ b) list (from_left {c = rest} s) h k =
    take_block x block a (other ∷ b) rest s h k (shuffle_blocks a (other ∷ b))
shuffle_blocks (block ∷ a) ((y ∷ other) ∷ b) list (from_right {c = rest} s) h k =
    shuffled_back (take_block y other b (block ∷ a) rest (shuffle_swap s) k h
    (λ more r i j. shuffled_back (shuffle_blocks (block ∷ a) b more (shuffle_swap r) j i)))
