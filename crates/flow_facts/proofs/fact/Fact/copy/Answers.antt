use Rattle.std.proofs.Common.{◌≡◌, ℕ, ◌+◌, ◌<◌, ◌≤◌, List, [], ◌∷◌, ◌++◌, length, take, get_or, sym, ap, subst, ◌∙◌}
use Rattle.std.proofs.lemmas.List.{take_more, take_all}
use Rattle.flow_facts.specs.Atom.{Atom, atom}
use Rattle.flow_facts.proofs.fact.Fact.copy.Goals as goal

copied_more : {X : Type 0} (xs ys : List X) (i : ℕ) (x y : X) (old new : List X) → xs ≡ ys → i < length xs → x ≡ get_or xs i x → y ≡ x → new ≡ old ++ y ∷ [] → old ≡ take i ys
    → new ≡ take (i + 1) ys
copied_more xs ys i x y old new same inside is copied put so_far =
    put ∙ (λ k. so_far k ++ copied k ∷ []) ∙ ap (λ z. take i ys ++ z ∷ []) (is ∙ ap (λ l. get_or l i x) same) ∙ sym (take_more ys i x (subst (λ l. i < length l) same inside))

pub loop-arg-preserved : goal.loop-arg-preserved
loop-arg-preserved c =
    copied_more c.deref-arg-items.result.now c.args.self.now.args c.loop-arg.arg-index c.arg-item.result c.in_ok-copy.field-0 c.loop-arg.args.items c.push.new.self.items
    (c.deref-arg-items.ensures.value ∙ ap (λ (a : Atom). a.args) c.self.view_is) c.loop-arg-test.true c.arg-item.is c.in_ok-copy.ensures c.in_ok-push.ensures.items c.loop-arg.invariant

pub returns : goal.returns
returns c =
    let same : c.deref-arg-items.result.now ≡ c.args.self.now.args = c.deref-arg-items.ensures.value ∙ ap (λ (a : Atom). a.args) c.self.view_is in
    let args : c.loop-arg.args.items ≡ c.args.self.now.args = c.loop-arg.invariant ∙ take_all c.loop-arg.arg-index c.args.self.now.args (subst (λ l. length l ≤ c.loop-arg.arg-index) same c.loop-arg-test.false) in
    λ k. atom ((c.in_ok-relation.ensures ∙ ap (λ (a : Atom). a.relation) c.self.view_is) k) (args k)
