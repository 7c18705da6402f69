use Rattle.std.proofs.Common.{◌≡◌, ◌∙◌, ◌++◌, ◌+◌, ◌<◌, ◌≤◌, ◌∷◌, [], ℕ, List, length, drop, get_or, map, ap, sym, append_assoc, append-nil}
use Rattle.std.proofs.lemmas.List.{drop_all, drop_more, map-append}
use Rattle.flow_rules.specs.declared.normal.Nnf.{Nnf, Order}
use Rattle.flow_rules.specs.Normal.{linked, normal_of, pair_form}
use Rattle.flow_rules.specs.NormalForm.{form_of, order_form}
use Rattle.flow_rules.proofs.NormalViews.{normal_of-Order}
use Rattle.flow_rules.proofs.RuleViews.{form_of-Order}
use Rattle.flow_rules.proofs.normal_form.pairs.Goals as goal

-- one pair more, in either form
linked_more : {A : Type 0} (of : Nnf → A) (f : ℕ → ℕ → A) (pairs new : List Nnf) (pair : Nnf) (rest : List ℕ) (i a : ℕ) (all : List A) → i < length rest →
    new ≡ pairs ++ pair ∷ [] → of pair ≡ f a (get_or rest i 0) → map of pairs ++ linked f a (drop i rest) ≡ all →
    map of new ++ linked f (get_or rest i 0) (drop (i + 1) rest) ≡ all
linked_more of f pairs new pair rest i a all inside pushed same so_far =
    let left = linked f (get_or rest i 0) (drop (i + 1) rest) in
    ap (λ list. map of list ++ left) pushed ∙ ap (λ list. list ++ left) (map-append of pairs (pair ∷ [])) ∙ append_assoc (map of pairs) (of pair ∷ []) left
    ∙ ap (λ one. map of pairs ++ one ∷ left) same ∙ sym (ap (λ more. map of pairs ++ linked f a more) (drop_more rest i 0 inside)) ∙ so_far

linked_all : {A : Type 0} (f : ℕ → ℕ → A) (made : List A) (rest : List ℕ) (i a : ℕ) (all : List A) → length rest ≤ i → made ++ linked f a (drop i rest) ≡ all → made ≡ all
linked_all f made rest i a all done so_far = sym (ap (λ more. made ++ linked f a more) (drop_all i rest done) ∙ append-nil made) ∙ so_far

pub loop-event-preserved : goal.loop-event-preserved
loop-event-preserved c =
    let wanted = c.args.wanted in
    let rest = c.args.rest.now in
    let i = c.loop-event.event-index in
    let pairs = c.loop-event.pairs.items in
    let earlier = c.loop-event.earlier in
    let next = get_or rest i 0 in (
      linked_more form_of (order_form wanted) pairs c.push.new.self.items (Order wanted earlier next) rest i earlier _ c.loop-event-test.true
          c.in_ok-push.ensures.items (form_of-Order wanted earlier next) c.loop-event.invariant.0,
      linked_more normal_of (pair_form wanted) pairs c.push.new.self.items (Order wanted earlier next) rest i earlier _ c.loop-event-test.true
          c.in_ok-push.ensures.items (normal_of-Order wanted earlier next) c.loop-event.invariant.1,
    )

pub returns : goal.returns
returns c =
    let wanted = c.args.wanted in
    let rest = c.args.rest.now in
    let i = c.loop-event.event-index in
    let pairs = c.loop-event.pairs.items in record {
      tree = linked_all (order_form wanted) (map form_of pairs) rest i c.loop-event.earlier _ c.loop-event-test.false c.loop-event.invariant.0;
      normal = linked_all (pair_form wanted) (map normal_of pairs) rest i c.loop-event.earlier _ c.loop-event-test.false c.loop-event.invariant.1;
    }
