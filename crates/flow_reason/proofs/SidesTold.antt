-- What a goal alone tells of a leaf of a run.
use Rattle.std.proofs.Common.{◌≡◌, ◌≢◌, ◌<◌, ◌+◌, ◌↔◌, ℕ, Bool, true, false, Option, Some, None, List, [], ◌∷◌, ◌++◌, ⊎_elim, inl, inr, length, take, set, get_or, sym, ap, subst, ◌∙◌, true≢false, arith}
use Rattle.std.specs.Prelude.{IfSome}
use Rattle.std.proofs.lemmas.List.{take_more, get_or-set_same, get_or-set_other}
use Rattle.flow_model.specs.Lists.{◌∈◌, AreDistinct, Begins, StandsBefore}
use Rattle.flow_model.specs.Decided.{decide_eq}
use Rattle.flow_model.specs.Process.{IsNumbered, leaves}
use Rattle.flow_model.specs.Trace.{Trace}
use Rattle.flow_model.proofs.Lists.{mem-append, mem_append_left, mem_append_right, only_one}
use Rattle.flow_model.proofs.MadeLists.{distinct-numbers_from, numbers_from_below}
use Rattle.flow_core.specs.Run.{Run, schema, now}
use Rattle.flow_reason.specs.Sides.{before, other_side}
use Rattle.flow_reason.specs.Waiting.{AreFlags, IsBefore, IsOtherSide}
use Rattle.flow_reason.proofs.SideLemmas.{before_in, before_leaf, other_excludes}

-- one flag more is set
pub flag_more : (flags : List Bool) (list : List ℕ) (i count : ℕ) → length flags ≡ count → i < length list →
    ((n : ℕ) → n < count → (get_or flags n false ≡ true) ↔ (n ∈ take i list)) →
    (n : ℕ) → n < count → (get_or (set flags (get_or list i 0) true) n false ≡ true) ↔ (n ∈ take (i + 1) list)
flag_more flags list i count long below told n within =
    let x : ℕ = get_or list i 0 in
    let more : take (i + 1) list ≡ take i list ++ x ∷ [] = take_more list i 0 below in
    elim (decide_eq n x) [
      | inl same ↦ (let at : get_or (set flags x true) n false ≡ true =
          ap (λ m. get_or (set flags x true) m false) same ∙ get_or-set_same flags x true false (omega (arith, long, within, same)) in (
            (λ e. subst (λ l. n ∈ l) (sym more) (mem_append_right n (take i list) (x ∷ []) (inl same))),
            (λ m. at),
          ))
      | inr other ↦ (let ne : n ≢ x = other in
          let at : get_or (set flags x true) n false ≡ get_or flags n false = get_or-set_other flags x n true false ne in (
            (λ e. subst (λ l. n ∈ l) (sym more) (mem_append_left n (take i list) (x ∷ []) ((told n within).0 (sym at ∙ e)))),
            (λ m. at ∙ (told n within).1 (⊎_elim (λ l. l) (λ r. absurd (ne (only_one n x r))) (mem-append n (take i list) (x ∷ []) (subst (λ l. n ∈ l) more m)))),
          ))
    ]

module _ (r : Run) (leaf : ℕ) (flags : List Bool) (are : AreFlags r flags) (count : ℕ) (counted : count ≡ length (schema r).labels)
    (numbered : IsNumbered (schema r).goal count) where
  abbrev done : ℕ → Bool
  done n = get_or flags n false

  within : (n : ℕ) → n ∈ leaves (schema r).goal → n < length (schema r).labels
  within n here = let l = numbers_from_below 0 count n (subst (λ w. n ∈ w) numbered here) in omega (arith, l, counted)

  distinct : AreDistinct (leaves (schema r).goal)
  distinct = subst AreDistinct (sym numbered) (distinct-numbers_from 0 count)

  -- the leaves that are done are in each trace that begins with the journal
  done_there : (t : List ℕ) → Begins t (now r).journal → (n : ℕ) → n ∈ leaves (schema r).goal → done n ≡ true → n ∈ t
  done_there t (rest, is) n here begun =
      subst (λ w. n ∈ w) (sym is) (mem_append_left n (now r).journal rest ((are n (within n here)).0 begun))

  stands : (m : ℕ) → m ∈ before done leaf (schema r).goal → (t : List ℕ) → Trace (schema r).goal t → Begins t (now r).journal → leaf ∈ t → StandsBefore m leaf t
  stands m member t (bs, h, e) begins there =
      subst (StandsBefore m leaf) (sym e)
      (before_in done leaf (schema r).goal distinct bs h (λ n here begun. subst (λ w. n ∈ w) e (done_there t begins n here begun)) (subst (λ w. leaf ∈ w) e there) m member)

  pub told_before : (m : ℕ) → m ∈ before done leaf (schema r).goal → IsBefore r leaf m
  told_before m member =
      let (l, here, undone) = before_leaf done leaf (schema r).goal m member in
      ((λ is_done. true≢false (sym ((are m (within m here)).1 is_done) ∙ undone)), stands m member)

  told_other : (m : ℕ) → other_side done leaf (schema r).goal ≡ Some m → IsOtherSide r leaf m
  told_other m is =
      let (l, here, begun, none) = other_excludes done leaf (schema r).goal distinct m is in record {
        is_done = (are m (within m here)).0 begun;
        apart = λ t (bs, h, e) there other. none bs h (subst (λ w. leaf ∈ w) e there) (subst (λ w. m ∈ w) e other);
      }

  pub some_other : (found : Option ℕ) → found ≡ other_side done leaf (schema r).goal → IfSome found (IsOtherSide r leaf)
  some_other None is = tt
  some_other (Some m) is = told_other m (sym is)
