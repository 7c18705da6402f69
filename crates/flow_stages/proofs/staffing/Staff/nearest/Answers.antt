use Rattle.std.proofs.Common.{◌≡◌, ◌++◌, ℕ, List, length, take, inl, inr, ap, sym, subst, ◌∙◌, ⊎_elim, arith}
use Rattle.flow_model.specs.Lists.{◌∈◌}
use Rattle.flow_model.proofs.Lists.{mem-append, mem_append_left, mem_append_right}
use Rattle.flow_stages.proofs.NearLemmas.{take_front}
use Rattle.flow_stages.proofs.staffing.Staff.nearest.Goals as goal

pub returns-clause-all : goal.returns-clause-all
returns-clause-all c = λ f.
    let near = c.sort_out.new.near.items in
    let far = c.sort_out.new.far.items in
    let items : c.extend_from_slice.new.self.items ≡ near ++ far = c.in_ok-extend_from_slice.ensures.items ∙ ap (λ (l : List ℕ). near ++ l) c.deref.ensures.value in (
      λ m. subst (λ (l : List ℕ). f ∈ l) (sym items) (⊎_elim (λ n. mem_append_left f near far n) (λ g. mem_append_right f near far g) ((c.in_ok-sort_out.ensures.all f).0 m)),
      λ m. (c.in_ok-sort_out.ensures.all f).1 (mem-append f near far (subst (λ (l : List ℕ). f ∈ l) items m)),
    )

pub returns-clause-far : goal.returns-clause-far
returns-clause-far c = λ f m.
    let near = c.sort_out.new.near.items in
    let far = c.sort_out.new.far.items in
    let items : c.extend_from_slice.new.self.items ≡ near ++ far = c.in_ok-extend_from_slice.ensures.items ∙ ap (λ (l : List ℕ). near ++ l) c.deref.ensures.value in
    let count : length near ≡ c.len-count.result = omega (arith, c.len-count.ensures, c.sort_out.new.near.ok) in
    let front : take c.len-count.result c.extend_from_slice.new.self.items ≡ near =
    ap (λ (l : List ℕ). take c.len-count.result l) items ∙ ap (λ n. take n (near ++ far)) (sym count) ∙ take_front near far in
    ⊎_elim (λ n. inl (subst (λ (l : List ℕ). f ∈ l) (sym front) n)) (λ g. inr (c.in_ok-sort_out.ensures.far f g))
    (mem-append f near far (subst (λ (l : List ℕ). f ∈ l) items m))
