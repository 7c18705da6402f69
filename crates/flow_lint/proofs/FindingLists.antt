-- Findings of some kinds after those of others, and that just what is so is found.
use Rattle.std.proofs.Common.{◌≡◌, ◌<◌, ◌↔◌, ℕ, Bool, true, Some, length, slice_get, List, [], ◌∷◌, ◌++◌, map, refl, sym, ap, subst, ◌∙◌, inl, inr, append_assoc, append-nil, ⊎_elim}
use Rattle.flow_model.specs.Lists.{◌∈◌}
use Rattle.flow_model.proofs.Lists.{mem_append_left, mem_append_right, mem-append}
use Rattle.flow_model.proofs.MadeLists.{mem-map, of_map}
use Rattle.flow_form.specs.Script.{Said}
use Rattle.flow_workflow.specs.Definition.{Definition}
use Rattle.flow_core.proofs.RisingLists.{just_as}
use Rattle.flow_lint.specs.declared.kind.Kind.{Kind}
use Rattle.flow_lint.specs.declared.kind.Kind.TheVariants.{NeverAdded, NeverTested, UnusedEvent, UnusedFlow, DeadLeaf, Redundant, Unsettled, Idle, IdleNop, LoneIso}
use Rattle.flow_lint.specs.declared.finding.Finding.{Finding}
use Rattle.flow_lint.specs.Constraints.{AreMarks}
use Rattle.flow_lint.specs.Finding.{Adds, all_kinds, AreFindings, AreOf, count_of, finding, IsAdded, IsFinding, IsOneOf, IsSo}

-- marks say themselves which they are
pub own_marks : (marks : List Bool) → AreMarks (λ n. slice_get marks n ≡ Some true) (length marks) marks
own_marks marks = record { as_many = refl; exact = λ n below. (λ e. e, λ e. e) }

-- what is so of one is so of the same
pub both_ways : {A : Type 0} (P : A → Type 0) (x y : A) → x ≡ y → P x ↔ P y
both_ways P x y e = (subst P e, subst P (sym e))

pub both_of_two : {A B : Type 0} (P : A → B → Type 0) (x y : A) (a b : B) → x ≡ y → a ≡ b → P x a ↔ P y b
both_of_two P x y a b e f = (
  λ h. subst (λ u. P u b) e (subst (P x) f h),
  λ h. subst (λ u. P u a) (sym e) (subst (P y) (sym f) h),
)

module _ (s : Said) (w : Definition) where
  append_of : (ks ls : List Kind) (a b : List Finding) → AreOf s w ks a → AreOf s w ls b → AreOf s w (ks ++ ls) (a ++ b)
  append_of [] ls a b h g = subst (λ (l : List Finding). AreOf s w ls (l ++ b)) (sym h) g
  append_of (k ∷ ks) ls a b (numbers, others, is, just, rest) g = (
    numbers,
    others ++ b,
    ap (λ (l : List Finding). l ++ b) is ∙ append_assoc (map (finding k) numbers) others b,
    just,
    append_of ks ls others b rest g,
  )

  -- one kind after another
  pub added_more : (ks ls : List Kind) (old mid new : List Finding) → IsAdded s w ks old mid → IsAdded s w ls mid new → IsAdded s w (ks ++ ls) old new
  added_more ks ls old mid new (a, e, h) (b, g, k) =
      (a ++ b, g ∙ ap (λ (l : List Finding). l ++ b) e ∙ append_assoc old a b, append_of ks ls a b h k)

  -- what is asked is what is so of the kind
  pub added_one : (kind : Kind) (count : ℕ) (P : ℕ → Type 0) (old new : List Finding) → count ≡ count_of s w kind →
      ((n : ℕ) → n < count → P n ↔ IsSo s w kind n) → Adds kind count P old new → IsAdded s w (kind ∷ []) old new
  added_one kind count P old new counted same (numbers, e, just) = (
    map (finding kind) numbers,
    e,
    (
      numbers,
      [],
      sym (append-nil (map (finding kind) numbers)),
      just_as (IsOneOf count P) (IsOneOf (count_of s w kind) (IsSo s w kind)) numbers just
          (λ n h. (subst (λ m. n < m) counted h.0, (same n h.0).0 h.1))
          (λ n h. let below : n < count = subst (λ m. n < m) (sym counted) h.0 in (below, (same n below).1 h.1)),
      refl,
    ),
  )

  -- what is marked is what is so of the kind
  pub added_marked : (kind : Kind) (marks kept : List Bool) (old new : List Finding) → marks ≡ kept → AreMarks (IsSo s w kind) (count_of s w kind) kept →
      Adds kind (length marks) (λ n. slice_get marks n ≡ Some true) old new → IsAdded s w (kind ∷ []) old new
  added_marked kind marks kept old new same are adds =
      let counted : length marks ≡ count_of s w kind = ap (λ (l : List Bool). length l) same ∙ are.as_many in
      added_one kind (length marks) (λ n. slice_get marks n ≡ Some true) old new counted
      (λ n below. subst (λ (l : List Bool). (slice_get l n ≡ Some true) ↔ IsSo s w kind n) (sym same) (are.exact n (subst (λ m. n < m) counted below)))
      adds

  -- all that is added to nothing
  pub whole : (list : List Finding) → IsAdded s w all_kinds [] list → AreFindings s w list
  whole list (more, e, are) = subst (AreFindings s w) (sym e) are

  -- each finding of these kinds is so
  is_so : (ks : List Kind) (list : List Finding) → AreOf s w ks list → (one : Finding) → one ∈ list → IsFinding s w one
  is_so [] list h one m = absurd (subst (λ (l : List Finding). one ∈ l) h m)
  is_so (k ∷ ks) list (numbers, others, is, just, rest) one m = ⊎_elim
      (λ l. let (n, among, e) = of_map (finding k) one numbers l in subst (IsFinding s w) (sym e) ((just.exact n).0 among))
      (λ l. is_so ks others rest one l)
      (mem-append one (map (finding k) numbers) others (subst (λ (l : List Finding). one ∈ l) is m))

  -- and what is so is found
  is_found : (ks : List Kind) (list : List Finding) → AreOf s w ks list → (k : Kind) (n : ℕ) → k ∈ ks → IsFinding s w (finding k n) → finding k n ∈ list
  is_found [] list h k n m is = absurd m
  is_found (j ∷ ks) list (numbers, others, e, just, rest) k n (inl same) is =
      subst (λ (l : List Finding). finding k n ∈ l) (sym e)
      (mem_append_left (finding k n) (map (finding j) numbers) others
      (subst (λ i. finding i n ∈ map (finding j) numbers) (sym same)
      (mem-map (finding j) n numbers ((just.exact n).1 (subst (λ i. IsFinding s w (finding i n)) same is)))))
  is_found (j ∷ ks) list (numbers, others, e, just, rest) k n (inr m) is =
      subst (λ (l : List Finding). finding k n ∈ l) (sym e)
      (mem_append_right (finding k n) (map (finding j) numbers) others (is_found ks others rest k n m is))

  each_kind : (k : Kind) → k ∈ all_kinds
  each_kind NeverAdded = inl refl
  each_kind NeverTested = inr (inl refl)
  each_kind UnusedEvent = inr (inr (inl refl))
  each_kind UnusedFlow = inr (inr (inr (inl refl)))
  each_kind DeadLeaf = inr (inr (inr (inr (inl refl))))
  each_kind Redundant = inr (inr (inr (inr (inr (inl refl)))))
  each_kind Unsettled = inr (inr (inr (inr (inr (inr (inl refl))))))
  each_kind Idle = inr (inr (inr (inr (inr (inr (inr (inl refl)))))))
  each_kind IdleNop = inr (inr (inr (inr (inr (inr (inr (inr (inl refl))))))))
  each_kind LoneIso = inr (inr (inr (inr (inr (inr (inr (inr (inr (inl refl)))))))))

  pub found_exactly : (list : List Finding) → AreFindings s w list → (one : Finding) → (one ∈ list) ↔ IsFinding s w one
  found_exactly list are one = (
    is_so all_kinds list are one,
    λ is. is_found all_kinds list are one.kind one.number (each_kind one.kind) is,
  )
