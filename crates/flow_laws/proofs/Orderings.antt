-- The executions of a goal without choices, as orders of its leaves.
use Rattle.std.proofs.Common.{◌≡◌, ℕ, ◌↔◌, List, [], ◌∷◌, ◌++◌, ◌⊎◌, refl, sym, ap₂, ◌∙◌, subst, subst₂, inl, inr, ⊎_elim, append_assoc, append-nil, arith}
use Rattle.flow_model.specs.Lists.{◌∈◌, AreDistinct, StandsBefore, joined}
use Rattle.flow_model.specs.Process.{Process, Empty, Task, Sequence, Parallel, Choice, Isolated, leaves, IsChoiceFree}
use Rattle.flow_model.specs.Trace.{Shuffle, Blocks, Trace, as_one}
use Rattle.flow_model.specs.Ready.{InSequence, isolated_parts}
use Rattle.flow_model.proofs.Lists.{only_one, no_members, distinct_left, distinct_right, distinct_apart, before_members, before_across, before_right, before_or_after, not_before_itself, not_both_ways, mem_append_left, mem_append_right, mem-append}
use Rattle.flow_model.proofs.MadeLists.{joined-append}
use Rattle.flow_laws.proofs.Shuffles.{shuffle-append, shuffle-joined, shuffle_swap, of_shuffle, mem_shuffle_left, before_in_shuffle, distinct_in_shuffle, shuffle_of, front_first, shuffle_nothing, AreUnbroken, shuffle_blocks}
use Rattle.flow_laws.proofs.GoalParts.{sequence_first, sequence_second, part_within}
use Rattle.flow_laws.proofs.TraceLeaves.{joined-as_one, leaf_of_blocks, leaf_in_blocks, distinct_trace, leaf_of_trace, leaf_in_trace}

-- the list holds each leaf once, in the goal's sequence, and nothing stands between two leaves of an isolated part
pub record IsOrdering (g : Process) (t : List ℕ) : Type 0 where
  pub leaf : (x : ℕ) → x ∈ t → x ∈ leaves g
  pub all : (x : ℕ) → x ∈ leaves g → x ∈ t
  pub distinct : AreDistinct t
  pub before : (x y : ℕ) → InSequence g x y → StandsBefore x y t
  pub together : (part : Process) → part ∈ isolated_parts g → (x y z : ℕ) → x ∈ leaves part → ¬ (y ∈ leaves part) → z ∈ leaves part →
      StandsBefore x y t → StandsBefore y z t → ⊥

-- Executions are orderings

-- the list has that piece
abbrev HasPiece : List ℕ → List ℕ → Type 0
HasPiece piece list = (front back : List ℕ) × (list ≡ front ++ (piece ++ back))

piece_of_joined : (bs : List (List ℕ)) (block piece : List ℕ) → block ∈ bs → HasPiece piece block → HasPiece piece (joined bs)
piece_of_joined [] block piece m h = absurd m
piece_of_joined (b ∷ bs) block piece (inl e) (front, back, h) = (front, back ++ joined bs, rw (← e, h) (simp append_assoc))
piece_of_joined (b ∷ bs) block piece (inr m) h =
    let (front, back, k) = piece_of_joined bs block piece m h in (b ++ front, back, rw k (simp append_assoc))

-- some block has the leaves of the part as a piece
abbrev StandsIn : Process → List (List ℕ) → Type 0
StandsIn part bs = (block piece : List ℕ) × (block ∈ bs) × HasPiece piece block × ((x : ℕ) → (x ∈ piece) ↔ (x ∈ leaves part))

whole_block : (x : List (List ℕ)) (n : ℕ) → n ∈ joined x → joined x ∈ as_one x
whole_block [] n m = absurd m
whole_block (b ∷ x) n m = inl refl

as_one_is : (x : List (List ℕ)) (block : List ℕ) → block ∈ as_one x → block ≡ joined x
as_one_is [] block m = absurd m
as_one_is (b ∷ x) block (inl e) = e
as_one_is (b ∷ x) block (inr m) = absurd m

-- the one goal stands in the other
record IsHalf (a g : Process) : Type 0 where
  leaf : (x : ℕ) → x ∈ leaves a → x ∈ leaves g
  sequence : (x y : ℕ) → InSequence a x y → InSequence g x y
  part : (part : Process) → part ∈ isolated_parts a → part ∈ isolated_parts g

left_half : (a b : Process) → IsHalf a (Parallel a b)
left_half a b = record {
  leaf = λ x. mem_append_left x (leaves a) (leaves b);
  sequence = λ x y. inl;
  part = λ p. mem_append_left p (isolated_parts a) (isolated_parts b);
}

right_half : (a b : Process) → IsHalf b (Parallel a b)
right_half a b = record {
  leaf = λ x. mem_append_right x (leaves a) (leaves b);
  sequence = λ x y. inr;
  part = λ p. mem_append_right p (isolated_parts a) (isolated_parts b);
}

-- a block of an execution is one leaf, or has the leaves of an isolated part
abbrev IsBlockOf : Process → List ℕ → Type 0
IsBlockOf g block =
    ((n : ℕ) × (block ≡ n ∷ [])) ⊎ ((part : Process) × (part ∈ isolated_parts g) × ((x : ℕ) → (x ∈ block) ↔ (x ∈ leaves part)))

block_of_half : (a g : Process) (block : List ℕ) → IsHalf a g → IsBlockOf a block → IsBlockOf g block
block_of_half a g block half = ⊎_elim inl (λ (part, m, same). inr (part, half.part part m, same))

-- what stands in the goal's sequence stands so in its blocks, each isolated part that has a leaf stands in one of them, and
-- each is a leaf or a part
record IsLaid (g : Process) (bs : List (List ℕ)) : Type 0 where
  before : (x y : ℕ) → InSequence g x y → StandsBefore x y (joined bs)
  together : (part : Process) → part ∈ isolated_parts g → (n : ℕ) → n ∈ leaves part → StandsIn part bs
  kind : (block : List ℕ) → block ∈ bs → IsBlockOf g block

halves_laid : (a b : Process) (u v bs : List (List ℕ)) → IsLaid a u → IsLaid b v → Shuffle u v bs → IsLaid (Parallel a b) bs
halves_laid a b u v bs p q s = record {
  before = λ x y. ⊎_elim (λ k. before_in_shuffle (shuffle-joined s) x y (p.before x y k)) (λ k. before_in_shuffle (shuffle_swap (shuffle-joined s)) x y (q.before x y k));
  together = λ part m n k. ⊎_elim
      (λ l. let (block, piece, i, r, same) = p.together part l n k in (block, piece, mem_shuffle_left s block i, r, same))
      (λ l. let (block, piece, i, r, same) = q.together part l n k in (block, piece, mem_shuffle_left (shuffle_swap s) block i, r, same))
      (mem-append part (isolated_parts a) (isolated_parts b) m);
  kind = λ block m. ⊎_elim (λ k. block_of_half a (Parallel a b) block (left_half a b) (p.kind block k))
      (λ k. block_of_half b (Parallel a b) block (right_half a b) (q.kind block k)) (of_shuffle s block m);
}

laid : (g : Process) → IsChoiceFree g → (bs : List (List ℕ)) → Blocks g bs → IsLaid g bs
laid Empty f bs h = subst (IsLaid Empty) (sym h) (record { before = λ x y k. absurd k; together = λ part m. absurd m; kind = λ block m. absurd m })
laid (Task n) f bs h = subst (IsLaid (Task n)) (sym h)
    (record { before = λ x y k. absurd k; together = λ part m. absurd m; kind = λ block m. inl (n, only_one block (n ∷ []) m) })
laid (Sequence a b) (fa, fb) bs (u, v, ha, hb, e) =
    let halves = halves_laid a b u v bs (laid a fa u ha) (laid b fb v hb) (subst (Shuffle u v) (sym e) (shuffle-append u v)) in
    record {
      before = λ x y k.
          let fact = λ (i : x ∈ leaves a) (j : y ∈ leaves b). before_across x y (joined u) (joined v) (leaf_in_blocks a fa u ha x i) (leaf_in_blocks b fb v hb y j) in
          grind (arith, k, e, joined-append u v, halves.before x y);
      together = halves.together;
      kind = halves.kind;
    }
laid (Parallel a b) (fa, fb) bs (u, v, ha, hb, s) = halves_laid a b u v bs (laid a fa u ha) (laid b fb v hb) s
laid (Choice a b) f bs h = absurd f
laid (Isolated a) f bs (x, h, e) =
    let inner = laid a f x h in
    let all = leaf_in_blocks a f x h in
    subst (IsLaid (Isolated a)) (sym e) (record {
      before = λ y z k. subst (StandsBefore y z) (sym (joined-as_one x)) (inner.before y z k);
      together = λ part m n k. ⊎_elim
          (λ i. rw i (joined x, joined x, whole_block x n (all n (rw (← i) k)), ([], [], sym (append-nil (joined x))), λ y. (leaf_of_blocks a x h y, all y)))
          (λ i. let (block, piece, l, r, same) = inner.together part i n k in
          (joined x, piece, whole_block x n (all n (part_within a part n i k)), piece_of_joined x block piece l r, same)) m;
      kind = λ block m.
          let is : block ≡ joined x = as_one_is x block m in
          inr (a, inl refl, λ y. (λ k. leaf_of_blocks a x h y (subst (λ l. y ∈ l) is k), λ k. subst (λ l. y ∈ l) (sym is) (all y k)));
    })

-- nothing stands between two members of a piece
piece_unbroken : (list piece : List ℕ) → AreDistinct list → HasPiece piece list → (x y z : ℕ) → x ∈ piece → ¬ (y ∈ piece) → z ∈ piece →
    StandsBefore x y list → StandsBefore y z list → ⊥
piece_unbroken list piece d (front, back, e) x y z k l p b c =
    let from = λ (u v : ℕ) (h : StandsBefore u v (front ++ (piece ++ back))). subst (StandsBefore u v) (sym e) h in
    let fact = λ (m : y ∈ front). not_both_ways x y list d b (from y x (before_across y x front (piece ++ back) m (mem_append_left x piece back k))) in
    let other_fact = λ (m : y ∈ back). not_both_ways y z list d c (from z y (before_right z y front (piece ++ back) (before_across z y piece back p m))) in
    grind (arith, l, mem-append y piece back, mem-append y front (piece ++ back) (subst (λ w. y ∈ w) e (before_members x y list b).1))

pub ordering_of_trace : (t : List ℕ) (g : Process) → IsChoiceFree g → AreDistinct (leaves g) → Trace g t → IsOrdering g t
ordering_of_trace t g f d (bs, h, e) = record {
  leaf = leaf_of_trace g t (bs, h, e);
  all = leaf_in_trace g f t (bs, h, e);
  distinct = once;
  before = λ x y k. subst (StandsBefore x y) (sym e) (is.before x y k);
  together = λ part m x y z k l p b c.
      let (block, piece, i, r, same) = is.together part m x k in
      piece_unbroken t piece once (subst (HasPiece piece) (sym e) (piece_of_joined bs block piece i r))
      x y z ((same x).1 k) (λ q. l ((same y).0 q)) ((same z).1 p) b c;
}
  where
    once : AreDistinct t
    once = distinct_trace g d t (bs, h, e)

    is : IsLaid g bs
    is = laid g f bs h

-- Orderings are executions

-- the members of a half, in their order
half_ordering : (a g : Process) (u v t : List ℕ) → IsHalf a g → IsOrdering g t → Shuffle u v t → ((x : ℕ) → x ∈ u → x ∈ leaves a) →
    ((x : ℕ) → x ∈ v → ¬ (x ∈ leaves a)) → IsOrdering a u
half_ordering a g u v t half o s of_a others = record {
  leaf = of_a;
  all = there;
  distinct = distinct_in_shuffle s o.distinct;
  before = λ x y k.
      let b = o.before x y (half.sequence x y k) in
      let fact = before_or_after x y u (there x (sequence_first a x y k)) (there y (sequence_second a x y k)) in
      grind (arith, b, not_before_itself y t o.distinct, λ (h : StandsBefore y x u). not_both_ways x y t o.distinct b (before_in_shuffle s y x h));
  together = λ p m x y z k l q b c. o.together p (half.part p m) x y z k l q (before_in_shuffle s x y b) (before_in_shuffle s y z c);
}
  where
    there : (x : ℕ) → x ∈ leaves a → x ∈ u
    there x k = grind (arith, others x, k, of_shuffle s x (o.all x (half.leaf x k)))

-- no block of a half is broken by the other
half_unbroken : (a g : Process) (bs : List (List ℕ)) (other t : List ℕ) → IsChoiceFree a → Blocks a bs → IsHalf a g → IsOrdering g t →
    ((x : ℕ) → x ∈ other → ¬ (x ∈ leaves a)) → AreUnbroken bs other t
half_unbroken a g bs other t f h half o others block m x y z k l p b c = ⊎_elim
    (λ (n, e).
    let is = λ (u : ℕ) (i : u ∈ block). only_one u n (subst (λ w. u ∈ w) e i) in
    not_both_ways x y t o.distinct b (subst (λ u. StandsBefore y u t) (is z p ∙ sym (is x k)) c))
    (λ (part, i, same).
    o.together part (half.part part i) x y z ((same x).0 k) (λ j. others y l (part_within a part y i j)) ((same z).0 p) b c)
    ((laid a f bs h).kind block m)

-- an ordering of two halves, by these
halve : (a b : Process) (t : List ℕ) → AreDistinct (leaves (Parallel a b)) → IsOrdering (Parallel a b) t →
    (left right : List ℕ) × Shuffle left right t × IsOrdering a left × IsOrdering b right
halve a b t d o =
    let off = distinct_apart (leaves a) (leaves b) d in
    let (u, v, s, of_a, of_b) = shuffle_of (leaves a) (leaves b) t (λ x m. mem-append x (leaves a) (leaves b) (o.leaf x m)) in (
      u,
      v,
      s,
      half_ordering a (Parallel a b) u v t (left_half a b) o s of_a (λ x m k. off x k (of_b x m)),
      half_ordering b (Parallel a b) v u t (right_half a b) o (shuffle_swap s) of_b (λ x m k. off x (of_a x m) k),
    )

only_member : (n : ℕ) (t : List ℕ) → AreDistinct t → ((x : ℕ) → x ∈ t → x ∈ (n ∷ [])) → n ∈ t → t ≡ n ∷ []
only_member n [] d f m = absurd m
only_member n (y ∷ []) d f m = grind (arith, m)
only_member n (y ∷ z ∷ t) d f m = grind (arith, f y, f z, d)

pub trace_of_ordering : (t : List ℕ) (g : Process) → IsChoiceFree g → AreDistinct (leaves g) → IsOrdering g t → Trace g t
trace_of_ordering t Empty f d o = ([], refl, no_members t o.leaf)
trace_of_ordering t (Task n) f d o = ((n ∷ []) ∷ [], refl, only_member n t o.distinct o.leaf (o.all n (inl refl)))
trace_of_ordering t (Sequence a b) (fa, fb) d o =
    let beside_one_another : IsOrdering (Parallel a b) t = record {
      leaf = o.leaf;
      all = o.all;
      distinct = o.distinct;
      before = λ x y k. o.before x y (⊎_elim (λ l. inl (inr l)) inr k);
      together = o.together;
    } in
    let (u, v, s, in_a, in_b) = halve a b t d beside_one_another in
    let (x, hx, ex) = trace_of_ordering u a fa (distinct_left (leaves a) (leaves b) d) in_a in
    let (y, hy, ey) = trace_of_ordering v b fb (distinct_right (leaves a) (leaves b) d) in_b in
    let (more, e, r) = front_first u [] v t (subst (λ l. Shuffle l v t) (sym (append-nil u)) s)
    (λ m n i j k. not_both_ways m n t o.distinct (o.before m n (inl (inl (in_a.leaf m i, in_b.leaf n j)))) k) in
    (x ++ y, (x, y, hx, hy, refl), e ∙ (ap₂ ◌++◌ ex (shuffle_nothing r ∙ ey) ∙ sym (joined-append x y)))
trace_of_ordering t (Parallel a b) (fa, fb) d o =
    let (u, v, s, in_a, in_b) = halve a b t d o in
    let off = distinct_apart (leaves a) (leaves b) d in
    let (x, hx, ex) = trace_of_ordering u a fa (distinct_left (leaves a) (leaves b) d) in_a in
    let (y, hy, ey) = trace_of_ordering v b fb (distinct_right (leaves a) (leaves b) d) in_b in
    let (c, r, e) = shuffle_blocks x y t (subst₂ (λ u v. Shuffle u v t) ex ey s)
    (half_unbroken a (Parallel a b) x (joined y) t fa hx (left_half a b) o (λ n m k. off n k (leaf_of_blocks b y hy n m)))
    (half_unbroken b (Parallel a b) y (joined x) t fb hy (right_half a b) o (λ n m k. off n (leaf_of_blocks a x hx n m) k)) in
    (c, (x, y, hx, hy, r), e)
trace_of_ordering t (Choice a b) f d o = absurd f
trace_of_ordering t (Isolated a) f d o =
    let inner : IsOrdering a t = record {
      leaf = o.leaf;
      all = o.all;
      distinct = o.distinct;
      before = o.before;
      together = λ part m. o.together part (inr m);
    } in
    let (x, h, e) = trace_of_ordering t a f d inner in (as_one x, (x, h, refl), e ∙ sym (joined-as_one x))
