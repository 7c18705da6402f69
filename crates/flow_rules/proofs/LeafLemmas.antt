-- The leaf of an event among one leaf more, in tables of leaves and in lanes.
use Rattle.std.proofs.Common.{◌≡◌, ℕ, ◌+◌, ◌<◌, ◌≤◌, ◌&&◌, ◌||◌, Bool, true, false, if◌then◌else◌, List, [], ◌∷◌, length, take, get_or, find, Option, Some, None, refl, sym, subst, ap, ◌∙◌, arith}
use Rattle.std.specs.Option.{option_or}
use Rattle.std.specs.Prelude.{IfSome, is_some}
use Rattle.std.proofs.lemmas.List.{take_more}
use Rattle.std.proofs.lemmas.List.Folds.{find-append}
use Rattle.flow_model.specs.declared.labels.Label.{Label}
use Rattle.flow_model.specs.Facts.{event_at, is_event}
use Rattle.flow_model.specs.Ways.{leaf_of_event}
use Rattle.flow_rules.specs.EventLeaves.{IsBlank, if_on, leaf_in, unless, without_leaf}
use Rattle.flow_rules.specs.Room.{HasRoom}
use Rattle.flow_rules.specs.declared.leaf_table.LeafEvents.{LeafEvents}

pub leaf_more : (labels : List Label) (ls : List ℕ) (i q : ℕ) → i < length ls →
    leaf_of_event labels (take (i + 1) ls) q
    ≡ option_or (leaf_of_event labels (take i ls) q) (if_on q (get_or ls i 0) (event_at labels (get_or ls i 0)))
leaf_more labels ls i q h =
    let on : ℕ → Bool = λ (n : ℕ). is_event q (event_at labels n) in
    ap (find on) (take_more ls i 0 h) ∙ find-append on (take i ls) (get_or ls i 0 ∷ [])

or_more : (o p r : Option ℕ) → option_or (option_or o p) r ≡ option_or o (option_or p r)
or_more None p r = refl
or_more (Some x) p r = refl

unless_more : (o p : Option ℕ) (b : Bool) (leaf : ℕ) → (if b then None else unless o p) ≡ unless (option_or o (if b then Some leaf else None)) p
unless_more None p true leaf = refl
unless_more (Some x) p true leaf = refl
unless_more o p b leaf = refl

shown_more : (o : Option ℕ) (leaf : ℕ) (lane here old : Bool) → (lane && here || (lane && is_some o || old)) ≡ (lane && is_some (option_or o (if here then Some leaf else None)) || old)
shown_more None leaf true true old = refl
shown_more (Some x) leaf true true old = refl
shown_more o leaf lane here old = refl

-- one leaf more

-- the event at a leaf is among those that there is room for
pub room_at : (labels : List Label) (ls : List ℕ) (i room : ℕ) (event : Option ℕ) → HasRoom labels ls room → i < length ls → event ≡ event_at labels (get_or ls i 0) → IfSome event (λ e. e < room)
room_at labels ls i room event all h there = subst (λ (o : Option ℕ). IfSome o (λ e. e < room)) (sym there) (all i h)

-- where there is room, there is with more places
pub room_kept : (labels : List Label) (ls : List ℕ) (room more : ℕ) → HasRoom labels ls room → room ≤ more → HasRoom labels ls more
room_kept labels ls room more all wider i within = below (event_at labels (get_or ls i 0)) (all i within)
  where
    below : (o : Option ℕ) → IfSome o (λ e. e < room) → IfSome o (λ e. e < more)
    below None h = tt
    below (Some e) h = omega arith

pub none_marked : (lane old : Bool) → old ≡ (lane && false || old)
none_marked true old = refl
none_marked false old = refl

module _ (labels : List Label) (ls : List ℕ) (i q : ℕ) (event : Option ℕ) (h : i < length ls) (there : event ≡ event_at labels (get_or ls i 0)) where
  more : option_or (leaf_of_event labels (take i ls) q) (if_on q (get_or ls i 0) event) ≡ leaf_of_event labels (take (i + 1) ls) q
  more = ap (λ o. option_or (leaf_of_event labels (take i ls) q) (if_on q (get_or ls i 0) o)) there ∙ sym (leaf_more labels ls i q h)

  pub noted_more : (old now new : Option ℕ) → now ≡ option_or old (leaf_of_event labels (take i ls) q) → new ≡ option_or now (if_on q (get_or ls i 0) event) →
      new ≡ option_or old (leaf_of_event labels (take (i + 1) ls) q)
  noted_more old now new so_far made =
      made ∙ ap (λ o. option_or o (if_on q (get_or ls i 0) event)) so_far
      ∙ or_more old (leaf_of_event labels (take i ls) q) (if_on q (get_or ls i 0) event) ∙ ap (option_or old) more

  pub forgotten_more : (old now new : Option ℕ) → now ≡ unless (leaf_of_event labels (take i ls) q) old → new ≡ without_leaf event now q →
      new ≡ unless (leaf_of_event labels (take (i + 1) ls) q) old
  forgotten_more old now new so_far made =
      made ∙ ap (λ o. without_leaf event o q) so_far
      ∙ unless_more (leaf_of_event labels (take i ls) q) old (is_event q event) (get_or ls i 0) ∙ ap (λ o. unless o old) more

  pub marked_more : (lane old now new : Bool) → now ≡ (lane && is_some (leaf_of_event labels (take i ls) q) || old) → new ≡ (lane && is_event q event || now) →
      new ≡ (lane && is_some (leaf_of_event labels (take (i + 1) ls) q) || old)
  marked_more lane old now new so_far made =
      made ∙ ap (λ b. lane && is_event q event || b) so_far
      ∙ shown_more (leaf_of_event labels (take i ls) q) (get_or ls i 0) lane (is_event q event) old ∙ ap (λ (o : Option ℕ). lane && is_some o || old) more

pub marked_all : (lane old now : Bool) (o : Option ℕ) → now ≡ (lane && is_some o || old) → lane ≡ true → old ≡ false → now ≡ is_some o
marked_all lane old now o made here blank = made ∙ (λ k. here k && is_some o || blank k) ∙ at (is_some o)
  where
    at : (b : Bool) → (b || false) ≡ b
    at true = refl
    at false = refl

-- the leaves of one resolution, and none of them left behind

unless_self : (o : Option ℕ) → unless o o ≡ None
unless_self None = refl
unless_self (Some x) = refl

module _ (labels : List Label) (ls : List ℕ) (old noted : LeafEvents) (blank : IsBlank old)
    (notes : (event : ℕ) → leaf_in noted event ≡ option_or (leaf_in old event) (leaf_of_event labels ls event)) where
  pub noted_leaves : (event : ℕ) → leaf_in noted event ≡ leaf_of_event labels ls event
  noted_leaves event = notes event ∙ ap (λ o. option_or o (leaf_of_event labels ls event)) (blank event)

  pub blank_again : (new : LeafEvents) → ((event : ℕ) → leaf_in new event ≡ unless (leaf_of_event labels ls event) (leaf_in noted event)) → IsBlank new
  blank_again new forgets event =
      forgets event ∙ ap (unless (leaf_of_event labels ls event)) (noted_leaves event) ∙ unless_self (leaf_of_event labels ls event)
