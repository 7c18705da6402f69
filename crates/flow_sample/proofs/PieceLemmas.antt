-- The items of the sides of a goal, one side after the other.
use Rattle.std.proofs.Common.{◌≡◌, ℕ, IsTrue, List, [], ◌∷◌, ◌++◌, ◌↔◌, length, refl, sym, ap, ◌∙◌, subst, inl, inr, ⊎_elim, append_assoc, append-nil}
use Rattle.std.proofs.lemmas.List.{nil_from_length}
use Rattle.leaf_rows.specs.Leaves.{has_leaf}
use Rattle.flow_model.specs.Lists.{◌∈◌, joined}
use Rattle.flow_model.specs.Process.{Process, Isolated, leaves}
use Rattle.flow_model.specs.Ready.{DirectlyBefore, isolated_parts}
use Rattle.flow_model.specs.Circle.{items_of, item_of}
use Rattle.flow_laws.specs.WellFormed.{IsOrdered}
use Rattle.flow_model.proofs.Lists.{only_one}
use Rattle.flow_laws.proofs.ReadyRuns.{direct_other}
use Rattle.flow_laws.proofs.GoalParts.{joined_items}
use Rattle.flow_sample.specs.declared.item.Item.{Item}
use Rattle.flow_sample.specs.Rows.{AreApart}
use Rattle.flow_sample.specs.Items.{IsLinedUp, IsItemOf, AreItemsOf, AddsItems}
use Rattle.flow_sample.specs.ItemMarks.{CanClose}
use Rattle.flow_sample.proofs.ItemLemmas.{same_length, are_apart, tells_circle}
use Rattle.flow_sample.proofs.LaidLemmas.{part_item}
use Rattle.flow_sample.proofs.RisingLemmas.{Rises}

item_of_some : (l : List ℕ) (x : ℕ) → x ∈ l → item_of l ≡ l ∷ []
item_of_some [] x m = absurd m
item_of_some (n ∷ l) x m = refl

module _ (q : Process) (pairs : List (ℕ × ℕ)) where
  are_append : {words : ℕ} → (ls ks : List (List ℕ)) (xs ys : List (Item words)) → AreItemsOf q pairs ls xs → AreItemsOf q pairs ks ys → AreItemsOf q pairs (ls ++ ks) (xs ++ ys)
  are_append [] ks [] ys a b = b
  are_append [] ks (x ∷ xs) ys a b = absurd a
  are_append (l ∷ ls) ks [] ys a b = absurd a
  are_append (l ∷ ls) ks (x ∷ xs) ys a b = (a.0, are_append ls ks xs ys a.1 b)

  pub adds_both : {words : ℕ} → (whole a b : Process) (old mid new : List (Item words)) → items_of whole ≡ items_of a ++ items_of b → AddsItems q pairs a old mid → AddsItems q pairs b mid new →
      AddsItems q pairs whole old new
  adds_both whole a b old mid new e s t = record {
    added = s.added ++ t.added;
    is = t.is ∙ ap (λ z. z ++ t.added) s.is ∙ append_assoc old s.added t.added;
    items = subst (λ z. AreItemsOf q pairs z (s.added ++ t.added)) (sym e) (are_append (items_of a) (items_of b) s.added t.added s.items t.items);
  }

  pub adds_none : {words : ℕ} → (g : Process) (old : List (Item words)) → items_of g ≡ [] → AddsItems q pairs g old old
  adds_none {words} g old e = record {
    added = [];
    is = sym (append-nil old);
    items = subst (λ z. AreItemsOf {words = words} q pairs z []) (sym e) tt;
  }

  pub adds_one : {words : ℕ} → (g : Process) (list : List ℕ) (old new : List (Item words)) (item : Item words) → items_of g ≡ list ∷ [] → new ≡ old ++ item ∷ [] → IsItemOf q pairs list item →
      AddsItems q pairs g old new
  adds_one g list old new item e f i = record {
    added = item ∷ [];
    is = f;
    items = subst (λ z. AreItemsOf q pairs z (item ∷ [])) (sym e) (i, tt);
  }

  pub leaf_item : {words : ℕ} → IsOrdered q pairs → (leaf : ℕ) (item : Item words) → ((x : ℕ) → IsTrue (has_leaf item.inside x) ↔ (x ≡ leaf)) →
      ((x : ℕ) → IsTrue (has_leaf item.waits x) ↔ DirectlyBefore q pairs x leaf) → item.least ≡ leaf → item.run.items ≡ leaf ∷ [] → IsItemOf q pairs (leaf ∷ []) item
  leaf_item o leaf item inside waits least run = record {
    inside = λ x. (λ h. inl ((inside x).0 h), λ m. (inside x).1 (only_one x leaf m));
    waits = λ x. (
      λ h. let b = (waits x).0 h in ((leaf, inl refl, b), λ m. direct_other q pairs o x leaf b (only_one x leaf m)),
      λ h. (waits x).1 (subst (λ z. DirectlyBefore q pairs x z) (only_one h.0.0 leaf h.0.1) h.0.2),
    );
    least = least;
    run = subst (IsLinedUp q pairs (leaf ∷ [])) (sym run) (record {
      leaf = λ x m. m;
      all = λ x m. m;
      distinct = ((λ m. m), tt);
      before = λ x y m k b. absurd (direct_other q pairs o x y b (only_one x leaf m ∙ sym (only_one y leaf k)));
      together = λ part m x y z a b c h k. ⊎_elim (λ i. i.1) (λ i. i) h;
    });
  }

  -- an isolated part with no leaf
  pub no_item : {words : ℕ} → (body : Process) (old inner : List (Item words)) → AddsItems q pairs body [] inner → inner ≡ [] → AddsItems q pairs (Isolated body) old old
  no_item body old inner s e = adds_none (Isolated body) old (ap item_of none)
    where
      none : leaves body ≡ []
      none = sym (joined_items body)
          ∙ ap joined (nil_from_length (items_of body) (same_length q pairs (items_of body) s.added s.items ∙ ap length (sym s.is ∙ e)))

  -- and one with leaves

  module _ {words : ℕ} (o : IsOrdered q pairs) (rising : Rises (leaves q)) (body : Process) (inner : List (Item words)) (is_part : body ∈ isolated_parts q) (s : AddsItems q pairs body [] inner) where
    are : AreItemsOf q pairs (items_of body) inner
    are = subst (AreItemsOf q pairs (items_of body)) (sym s.is) s.items

    -- its items may become one
    pub can_close : (before : List (Item words)) (Then : List (Item words) → Type 0) →
        ((new : List (Item words)) → AddsItems q pairs (Isolated body) before new → Then new) → CanClose q pairs inner before Then
    can_close before Then then = record {
      apart = apart;
      some = λ l. let x = apart.some 0 l in (0, x.0, x.1);
      none = λ e. then before (no_item body before inner s e);
      one = λ new a.
          let i = part_item q pairs o body is_part inner are a.0 a.2 a.3 in
          then new (adds_one (Isolated body) (leaves body) before new a.0
          (item_of_some (leaves body) (a.0).least ((i.inside (a.0).least).0 (a.2).least)) a.1 i);
      ring = λ refusal r. tells_circle q pairs o body (inr is_part) inner are refusal r;
    }
      where
        apart : AreApart inner
        apart = are_apart q pairs o body (inr is_part) inner are rising
