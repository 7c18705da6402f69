-- Goals by cases: their leaves, their order, their isolated parts and the items of these.
use Rattle.std.proofs.Common.{◌≡◌, ℕ, suc, ◌+◌, ◌<◌, List, [], ◌∷◌, ◌++◌, ◌⊎◌, refl, sym, ap₂, ◌∙◌, subst, inl, inr, ⊎_elim, arith, append-nil}
use Rattle.flow_model.specs.Lists.{◌∈◌, AreDistinct, StandsBefore, joined}
use Rattle.flow_model.specs.Process.{Process, Empty, Task, Sequence, Parallel, Choice, Isolated, leaves}
use Rattle.flow_model.specs.Ready.{InSequence, isolated_parts}
use Rattle.flow_model.specs.Circle.{item_of, items_of}
use Rattle.flow_laws.specs.Events.{AreTogether}
use Rattle.flow_model.proofs.Lists.{only_one, distinct_parts, mem_append_left, mem_append_right, mem-append, before_members, before_across, before_left, before_right, not_before_itself}
use Rattle.flow_model.proofs.MadeLists.{mem_joined, list_having, joined_apart, joined-append}

-- Cases

-- how many goals a goal is made of
abbrev pub goal_size : Process → ℕ
goal_size (Sequence a b) = suc (goal_size a + goal_size b)
goal_size (Parallel a b) = suc (goal_size a + goal_size b)
goal_size (Choice a b) = suc (goal_size a + goal_size b)
goal_size (Isolated a) = suc (goal_size a)
goal_size leaf = 1

pub record IsJoined {A : Type 0} (whole a b : List A) : Type 0 where
  pub is : whole ≡ a ++ b

-- what the goal has, one of two goals has, whichever way it is made of these
pub record AreHalves (a b g : Process) : Type 0 where
  pub leaves_are : IsJoined (leaves g) (leaves a) (leaves b)
  pub parts_are : IsJoined (isolated_parts g) (isolated_parts a) (isolated_parts b)
  pub items_are : IsJoined (items_of g) (items_of a) (items_of b)
  pub size_is : goal_size g ≡ suc (goal_size a + goal_size b)
  pub together : (x y : ℕ) → AreTogether g x y → ((x ∈ leaves a) × (y ∈ leaves b)) ⊎ (AreTogether a x y ⊎ AreTogether b x y)

pub data Case : Process → Type 0 where
  empty : Case Empty
  task : {n : ℕ} → Case (Task n)
  halves : {a b g : Process} → AreHalves a b g → Case a → Case b → Case g
  isolated : {a : Process} → Case a → Case (Isolated a)

whole : {A : Type 0} {a b : List A} → IsJoined (a ++ b) a b
whole = record { is = refl }

pub case_of : (g : Process) → Case g
case_of Empty = empty
case_of (Task n) = task
case_of (Sequence a b) =
    halves (record { leaves_are = whole; parts_are = whole; items_are = whole; size_is = refl; together = λ x y. grind arith }) (case_of a) (case_of b)
case_of (Parallel a b) =
    halves (record { leaves_are = whole; parts_are = whole; items_are = whole; size_is = refl; together = λ x y. grind arith }) (case_of a) (case_of b)
case_of (Choice a b) =
    halves (record { leaves_are = whole; parts_are = whole; items_are = whole; size_is = refl; together = λ x y. inr }) (case_of a) (case_of b)
case_of (Isolated a) = isolated (case_of a)

-- a member of the whole is one of a half, and a member of a half one of the whole
of_halves : {A : Type 0} (x : A) {a b whole : List A} → IsJoined whole a b → x ∈ whole → (x ∈ a) ⊎ (x ∈ b)
of_halves x {a} {b} e m = mem-append x a b (subst (λ l. x ∈ l) e.is m)

in_left : {A : Type 0} (x : A) {a b whole : List A} → IsJoined whole a b → x ∈ a → x ∈ whole
in_left x {a} {b} e m = subst (λ l. x ∈ l) (sym e.is) (mem_append_left x a b m)

in_right : {A : Type 0} (x : A) {a b whole : List A} → IsJoined whole a b → x ∈ b → x ∈ whole
in_right x {a} {b} e m = subst (λ l. x ∈ l) (sym e.is) (mem_append_right x a b m)

-- Order

pub together_before : {g : Process} → Case g → (x y : ℕ) → AreTogether g x y → StandsBefore x y (leaves g)
together_before (halves {a = u} {b = v} r a b) x y h = subst (StandsBefore x y) (sym r.leaves_are.is)
    (⊎_elim (λ (m, k). before_across x y (leaves u) (leaves v) m k)
    (⊎_elim (λ k. before_left x y (leaves u) (leaves v) (together_before a x y k)) (λ k. before_right x y (leaves u) (leaves v) (together_before b x y k)))
    (r.together x y h))
together_before (isolated a) x y h = together_before a x y h
together_before none x y h = absurd h

sequence_together : (g : Process) (x y : ℕ) → InSequence g x y → AreTogether g x y
sequence_together (Sequence a b) x y h = grind (arith, h, sequence_together a x y, sequence_together b x y)
sequence_together (Parallel a b) x y h = grind (arith, h, sequence_together a x y, sequence_together b x y)
sequence_together (Choice a b) x y h = grind (arith, h, sequence_together a x y, sequence_together b x y)
sequence_together (Isolated a) x y h = sequence_together a x y h
sequence_together leaf x y h = absurd h

sequence_before : (g : Process) (x y : ℕ) → InSequence g x y → StandsBefore x y (leaves g)
sequence_before g x y h = together_before (case_of g) x y (sequence_together g x y h)

pub sequence_first : (g : Process) (x y : ℕ) → InSequence g x y → x ∈ leaves g
sequence_first g x y h = (before_members x y (leaves g) (sequence_before g x y h)).0

pub sequence_second : (g : Process) (x y : ℕ) → InSequence g x y → y ∈ leaves g
sequence_second g x y h = (before_members x y (leaves g) (sequence_before g x y h)).1

pub sequence_other : (g : Process) (x : ℕ) → AreDistinct (leaves g) → ¬ (InSequence g x x)
sequence_other g x d h = not_before_itself x (leaves g) d (sequence_before g x x h)

-- Parts

-- the whole goal, and the bodies of its isolated parts
abbrev pub regions : Process → List Process
regions q = q ∷ isolated_parts q

-- each leaf of the first is one of the second
abbrev pub IsWithin : Process → Process → Type 0
IsWithin a b = (x : ℕ) → x ∈ leaves a → x ∈ leaves b

-- what a region of a goal is
record IsRegion (g part : Process) : Type 0 where
  within : IsWithin part g
  parts : (inner : Process) → inner ∈ isolated_parts part → inner ∈ isolated_parts g
  distinct : AreDistinct (leaves g) → AreDistinct (leaves part)

is_region : {g : Process} → Case g → (part : Process) → part ∈ regions g → IsRegion g part
is_region {g} c part (inl e) = subst (IsRegion g) (sym e) (record { within = λ x m. m; parts = λ inner m. m; distinct = λ d. d })
is_region (halves {a = u} {b = v} {g = g} r a b) part (inr m) =
    of_half (⊎_elim (λ k. inl (is_region a part (inr k))) (λ k. inr (is_region b part (inr k))) (of_halves part r.parts_are m))
  where
    of_half : IsRegion u part ⊎ IsRegion v part → IsRegion g part
    of_half h = record {
      within = λ x l. ⊎_elim (λ k. in_left x r.leaves_are (k.within x l)) (λ k. in_right x r.leaves_are (k.within x l)) h;
      parts = λ inner l. ⊎_elim (λ k. in_left inner r.parts_are (k.parts inner l)) (λ k. in_right inner r.parts_are (k.parts inner l)) h;
      distinct = λ d. let (du, dv, _) = distinct_parts (leaves u) (leaves v) (subst AreDistinct r.leaves_are.is d) in ⊎_elim (λ k. k.distinct du) (λ k. k.distinct dv) h;
    }
is_region (isolated c) part (inr m) = let r = is_region c part m in record { within = r.within; parts = λ inner l. inr (r.parts inner l); distinct = r.distinct }
is_region none part (inr m) = absurd m

-- the leaves of a region are leaves of the goal
pub region_within : (q part : Process) → part ∈ regions q → IsWithin part q
region_within q part m = (is_region (case_of q) part m).within

pub part_within : (q part : Process) (x : ℕ) → part ∈ isolated_parts q → x ∈ leaves part → x ∈ leaves q
part_within q part x m = region_within q part (inr m) x

-- a part of a region is a part of the goal
pub part_of_region : (q part inner : Process) → part ∈ regions q → inner ∈ isolated_parts part → inner ∈ isolated_parts q
part_of_region q part inner m = (is_region (case_of q) part m).parts inner

pub region_distinct : (q part : Process) → AreDistinct (leaves q) → part ∈ regions q → AreDistinct (leaves part)
region_distinct q part d m = (is_region (case_of q) part m).distinct d

-- what stands in sequence before one leaf of an isolated part, and outside it, stands before each
pub before_whole_part : (g : Process) → AreDistinct (leaves g) → (part : Process) → part ∈ isolated_parts g → (x y n : ℕ) →
    ¬ (x ∈ leaves part) → y ∈ leaves part → n ∈ leaves part → InSequence g x y → InSequence g x n
before_whole_part (Sequence a b) d part m x y n out k l s =
    let (da, db, apart) = distinct_parts (leaves a) (leaves b) d in
    ⊎_elim
    (λ i. ⊎_elim
    (⊎_elim (λ h. absurd (apart y (part_within a part y i k) h.1)) (λ h. inl (inr (before_whole_part a da part i x y n out k l h))))
    (λ h. absurd (apart y (part_within a part y i k) (sequence_second b x y h))) s)
    (λ i. ⊎_elim
    (⊎_elim (λ h. inl (inl (h.0, part_within b part n i l))) (λ h. absurd (apart y (sequence_second a x y h) (part_within b part y i k))))
    (λ h. inr (before_whole_part b db part i x y n out k l h)) s)
    (mem-append part (isolated_parts a) (isolated_parts b) m)
before_whole_part (Parallel a b) d part m x y n out k l s =
    let (da, db, apart) = distinct_parts (leaves a) (leaves b) d in
    ⊎_elim
    (λ i. ⊎_elim (λ h. inl (before_whole_part a da part i x y n out k l h)) (λ h. absurd (apart y (part_within a part y i k) (sequence_second b x y h))) s)
    (λ i. ⊎_elim (λ h. absurd (apart y (sequence_second a x y h) (part_within b part y i k))) (λ h. inr (before_whole_part b db part i x y n out k l h)) s)
    (mem-append part (isolated_parts a) (isolated_parts b) m)
before_whole_part (Choice a b) d part m x y n out k l s =
    let (da, db, apart) = distinct_parts (leaves a) (leaves b) d in
    ⊎_elim
    (λ i. ⊎_elim (λ h. inl (before_whole_part a da part i x y n out k l h)) (λ h. absurd (apart y (part_within a part y i k) (sequence_second b x y h))) s)
    (λ i. ⊎_elim (λ h. absurd (apart y (sequence_second a x y h) (part_within b part y i k))) (λ h. inr (before_whole_part b db part i x y n out k l h)) s)
    (mem-append part (isolated_parts a) (isolated_parts b) m)
before_whole_part (Isolated a) d part (inl e) x y n out k l s = absurd (out (subst (λ p. x ∈ leaves p) (sym e) (sequence_first a x y s)))
before_whole_part (Isolated a) d part (inr m) x y n out k l s = before_whole_part a d part m x y n out k l s
before_whole_part leaf d part m x y n out k l s = absurd s

-- of two regions with a common leaf, one lies in the other
pub nested : {q : Process} → Case q → (one two : Process) (n : ℕ) → AreDistinct (leaves q) → one ∈ regions q → two ∈ regions q →
    n ∈ leaves one → n ∈ leaves two → (one ∈ regions two) ⊎ (two ∈ regions one)
nested c one two n d (inl e) l h k = inr (subst (λ p. two ∈ regions p) (sym e) l)
nested c one two n d m (inl f) h k = inl (subst (λ p. one ∈ regions p) (sym f) m)
nested (halves {a = x} {b = y} r a b) one two n d (inr m) (inr l) h k =
    let (dx, dy, off) = distinct_parts (leaves x) (leaves y) (subst AreDistinct r.leaves_are.is d) in
    let across = λ (p o : Process) (i : p ∈ isolated_parts x) (j : o ∈ isolated_parts y) (f : n ∈ leaves p) (g : n ∈ leaves o).
    off n (part_within x p n i f) (part_within y o n j g) in
    let fact = λ (i : one ∈ isolated_parts x) (j : two ∈ isolated_parts x). nested a one two n dx (inr i) (inr j) h k in
    let other_fact = λ (i : one ∈ isolated_parts y) (j : two ∈ isolated_parts y). nested b one two n dy (inr i) (inr j) h k in
    grind (arith, h, k, across one two, across two one, of_halves one r.parts_are m, of_halves two r.parts_are l)
nested (isolated a) one two n d (inr m) (inr l) h k = nested a one two n d m l h k
nested none one two n d (inr m) (inr l) h k = absurd m

pub part_smaller : {q : Process} → Case q → (part : Process) → part ∈ isolated_parts q → goal_size part < goal_size q
part_smaller (halves r a b) part m = grind (arith, of_halves part r.parts_are m, part_smaller a part, part_smaller b part, r.size_is)
part_smaller (isolated a) part m = grind (arith, m, part_smaller a part)
part_smaller none part m = absurd m

-- Items

item_of_is : (item list : List ℕ) → item ∈ item_of list → item ≡ list
item_of_is item [] h = absurd h
item_of_is item (n ∷ ns) h = only_one item (n ∷ ns) h

-- an item is one leaf, or the leaves of an isolated part
pub item_kind : {g : Process} → Case g → (item : List ℕ) → item ∈ items_of g →
    ((n : ℕ) × (item ≡ n ∷ [])) ⊎ ((part : Process) × (part ∈ isolated_parts g) × (item ≡ leaves part))
item_kind empty item m = absurd m
item_kind (task {n}) item m = inl (n, ⊎_elim (λ e. e) absurd m)
item_kind (halves r a b) item m = ⊎_elim
    (λ k. ⊎_elim inl (λ p. inr (p.0, in_left p.0 r.parts_are p.1, p.2)) (item_kind a item k))
    (λ k. ⊎_elim inl (λ p. inr (p.0, in_right p.0 r.parts_are p.1, p.2)) (item_kind b item k))
    (of_halves item r.items_are m)
item_kind (isolated {a} c) item m = inr (a, inl refl, item_of_is item (leaves a) m)

item_of_has : (item list : List ℕ) → item ∈ item_of list → (x : ℕ) × (x ∈ item)
item_of_has item [] h = absurd h
item_of_has item (n ∷ ns) h = (n, subst (λ l. n ∈ l) (sym (only_one item (n ∷ ns) h)) (inl refl))

-- each item has a leaf
pub item_has : (g : Process) (item : List ℕ) → item ∈ items_of g → (x : ℕ) × (x ∈ item)
item_has Empty item m = absurd m
item_has (Task n) item m = item_of_has item (n ∷ []) m
item_has (Sequence a b) item m = ⊎_elim (item_has a item) (item_has b item) (mem-append item (items_of a) (items_of b) m)
item_has (Parallel a b) item m = ⊎_elim (item_has a item) (item_has b item) (mem-append item (items_of a) (items_of b) m)
item_has (Choice a b) item m = ⊎_elim (item_has a item) (item_has b item) (mem-append item (items_of a) (items_of b) m)
item_has (Isolated a) item m = item_of_has item (leaves a) m

joined_item : (list : List ℕ) → joined (item_of list) ≡ list
joined_item [] = refl
joined_item (n ∷ ns) = append-nil (n ∷ ns)

pub joined_items : (g : Process) → joined (items_of g) ≡ leaves g
joined_items (Sequence a b) = joined-append (items_of a) (items_of b) ∙ ap₂ ◌++◌ (joined_items a) (joined_items b)
joined_items (Parallel a b) = joined-append (items_of a) (items_of b) ∙ ap₂ ◌++◌ (joined_items a) (joined_items b)
joined_items (Choice a b) = joined-append (items_of a) (items_of b) ∙ ap₂ ◌++◌ (joined_items a) (joined_items b)
joined_items (Isolated a) = joined_item (leaves a)
joined_items leaf = refl

pub item_within : (g : Process) (item : List ℕ) (x : ℕ) → item ∈ items_of g → x ∈ item → x ∈ leaves g
item_within g item x m h = subst (λ l. x ∈ l) (joined_items g) (mem_joined x (items_of g) item m h)

-- each leaf stands in an item
pub item_having : (g : Process) (x : ℕ) → x ∈ leaves g → (item : List ℕ) × (item ∈ items_of g) × (x ∈ item)
item_having g x h = list_having x (items_of g) (subst (λ l. x ∈ l) (sym (joined_items g)) h)

-- two items with a common leaf are one
pub items_apart : (g : Process) (one two : List ℕ) (x : ℕ) → AreDistinct (leaves g) → one ∈ items_of g → two ∈ items_of g → x ∈ one → x ∈ two → one ≡ two
items_apart g one two x d m l h k = joined_apart (items_of g) one two x (subst AreDistinct (sym (joined_items g)) d) m l h k

item_of_leaf : (n : ℕ) (list : List ℕ) → n ∈ list → list ∈ item_of list
item_of_leaf n [] m = absurd m
item_of_leaf n (i ∷ list) m = inl refl

-- a part with a leaf lies in an item
item_around : {g : Process} → Case g → (part : Process) (n : ℕ) → part ∈ isolated_parts g → n ∈ leaves part →
    (item : List ℕ) × (item ∈ items_of g) × ((y : ℕ) → y ∈ leaves part → y ∈ item)
item_around (halves r a b) part n m h = ⊎_elim
    (λ k. let (item, i, f) = item_around a part n k h in (item, in_left item r.items_are i, f))
    (λ k. let (item, i, f) = item_around b part n k h in (item, in_right item r.items_are i, f))
    (of_halves part r.parts_are m)
item_around (isolated {a} c) part n m h =
    let within = part_within (Isolated a) part in (leaves a, item_of_leaf n (leaves a) (within n m h), λ y. within y m)
item_around none part n m h = absurd m

-- and in each item of which it has a leaf
part_in_item : (g part : Process) (item : List ℕ) (n : ℕ) → AreDistinct (leaves g) → part ∈ isolated_parts g → n ∈ leaves part →
    item ∈ items_of g → n ∈ item → (y : ℕ) → y ∈ leaves part → y ∈ item
part_in_item g part item n d m h l k =
    let (other, i, f) = item_around (case_of g) part n m h in
    subst (λ z. (y : ℕ) → y ∈ leaves part → y ∈ z) (items_apart g other item n d i l (f n h) k) f

-- a part with a leaf of an item of a region lies in the item, or has all of the region
pub part_or_region : (q region part : Process) (item : List ℕ) (n : ℕ) → AreDistinct (leaves q) → region ∈ regions q → item ∈ items_of region → n ∈ item →
    part ∈ isolated_parts q → n ∈ leaves part → ((y : ℕ) → y ∈ leaves part → y ∈ item) ⊎ IsWithin region part
part_or_region q region part item n d (inl e) l k m h =
    inl (part_in_item region part item n (rw e d) (rw e m) h l k)
part_or_region q region part item n d (inr r) l k m h = ⊎_elim
    (⊎_elim (λ e. inr (λ y p. rw e p)) (λ i. inl (part_in_item region part item n (region_distinct q region d (inr r)) i h l k)))
    (λ i. inr (region_within part region i))
    (nested (case_of q) part region n d (inr m) (inr r) h (item_within region item n l k))
