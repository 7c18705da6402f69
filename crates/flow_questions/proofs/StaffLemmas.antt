-- Whether an event is left to nobody.
use Rattle.std.proofs.Common.{◌≡◌, ◌∙◌, ◌<◌, ◌≤◌, ◌+◌, ◌==◌, ◌↔◌, ℕ, zero, suc, true, IsTrue, is_some, List, [], ◌∷◌, length, Option, Some, None, ⊎_elim, refl, sym, ap, subst, arith, true≢false}
use Rattle.std.proofs.lemmas.Bool.{cases_lt, eqb-true, eq-eqb}
use Rattle.flow_model.specs.declared.labels.Label.{Label}
use Rattle.flow_model.specs.Facts.{event_at}
use Rattle.flow_core.specs.Run.{Run, schema}
use Rattle.flow_policy.specs.Assigned.{Assigned}
use Rattle.flow_staff.specs.Desk.{desk_of}
use Rattle.flow_model.proofs.MadeLists.{some_same}
use Rattle.flow_core.specs.declared.refusal.TakeRefusal.{TakeRefusal}
use Rattle.flow_core.specs.declared.refusal.TakeRefusal.TheVariants as take
use Rattle.flow_core.specs.Answers.{TakeIsRefused}
use Rattle.flow_core.specs.Holding.{IsTakeable, IsTheTaker, NoneHas}
use Rattle.flow_roles.specs.Desked.{Desked}
use Rattle.flow_roles.specs.Having.{HasEvent}
use Rattle.flow_roles.specs.Answers.{IsLeftTo}
use Rattle.flow_case.specs.Ruled.{Ruled}
use Rattle.flow_questions.specs.Questions.{HasBoth, HoldsRoles, IsRunOfSame, IsUnmanned}

-- to no user below
abbrev pub IsLeftToNoneBelow : Desked → ℕ → ℕ → Type 0
IsLeftToNoneBelow d event users = (user : ℕ) → user < users → ¬ (IsLeftTo d user event)

pub none_left : (d : Desked) (event users : ℕ) → HoldsRoles d.assigned.duties users → IsLeftToNoneBelow d event users → (user : ℕ) → ¬ (IsLeftTo d user event)
none_left d event users roles none user left = none user (roles user event left.role) left

pub one_more : (d : Desked) (event users : ℕ) → IsLeftToNoneBelow d event users → ¬ (IsLeftTo d users event) → IsLeftToNoneBelow d event (users + 1)
one_more d event users none not user below left = ⊎_elim
    (λ less. none user less left)
    (λ past. let same : user ≡ users = omega (arith, below, past) in not (subst (λ u. IsLeftTo d u event) same left))
    (cases_lt user users)

pub unmanned_here : (d : Desked) (leaf event : ℕ) → IsTakeable d.run leaf → event_at (schema d.run).labels leaf ≡ Some event → ((user : ℕ) → ¬ (IsLeftTo d user event)) → IsUnmanned d leaf
unmanned_here d leaf event can of nobody = record { event = event; of_leaf = of; can_take = can.2; nobody = nobody }

-- who took the event has it
pub taker_has : (d : Desked) (r : Run) (event taker by : ℕ) → r ≡ d.run → IsTheTaker r event taker → taker ≡ by → HasEvent d event by
taker_has d r event taker by same is of = subst (λ user. HasEvent d event user) of (subst (λ (x : Run). IsTheTaker x event taker) same is).0

pub same_again : (old mid new : Ruled) → IsRunOfSame old mid → IsRunOfSame mid new → IsRunOfSame old new
same_again old mid new (d, a) (e, b) = (e ∙ d, b ∙ a)

-- the desk of its run and its policy
pub left_by : (d : Desked) (r : Run) (a : Assigned) (user event : ℕ) → r ≡ d.run → a ≡ d.assigned → IsLeftTo d user event → IsLeftTo (desk_of r a) user event
left_by d r a user event same also left =
    subst (λ (x : Run). IsLeftTo (desk_of x a) user event) (sym same) (subst (λ (y : Assigned). IsLeftTo (desk_of d.run y) user event) (sym also) left)

pub none_past : (d : Desked) (event at users : ℕ) → IsLeftToNoneBelow d event at → users ≤ at → IsLeftToNoneBelow d event users
none_past d event at users none past user below = none user (omega arith)

-- under the same policy the same users have roles
pub still_hold : (old new : Assigned) (users : ℕ) → new ≡ old → HoldsRoles old.duties users → HoldsRoles new.duties users
still_hold old new users same = subst (λ (a : Assigned). HoldsRoles a.duties users) (sym same)

pub left_from : (d : Desked) (r : Run) (a : Assigned) (user event : ℕ) → r ≡ d.run → a ≡ d.assigned → IsLeftTo (desk_of r a) user event → IsLeftTo d user event
left_from d r a user event same also left =
    subst (λ (y : Assigned). IsLeftTo (desk_of d.run y) user event) also (subst (λ (x : Run). IsLeftTo (desk_of x a) user event) same left)

-- just the taker has the event, and nobody where there is none
pub has_just : (d : Desked) (r : Run) (event taker by : ℕ) → r ≡ d.run → IsTheTaker r event taker → IsTrue (taker == by) ↔ HasEvent d event by
has_just d r event taker by same is = (
  λ of. taker_has d r event taker by same is (eqb-true taker by of),
  λ (n, ne, taken). eq-eqb taker by (sym ((subst (λ (x : Run). IsTheTaker x event taker) same is).1 n by ne taken)),
)

pub none_has : (d : Desked) (r : Run) (event by : ℕ) → r ≡ d.run → NoneHas r event → ¬ (HasEvent d event by)
none_has d r event by same none (n, ne, taken) = (subst (λ (x : Run). NoneHas x event) same none) n by ne taken

-- ---- leaves that may be taken

event_within : (labels : List Label) (n event : ℕ) → event_at labels n ≡ Some event → n < length labels
event_within [] n event is = cc
event_within (label ∷ labels) zero event is = omega arith
event_within (label ∷ labels) (suc n) event is = omega (arith, event_within labels n event is)

some_event : (o : Option ℕ) → is_some o ≡ true → (event : ℕ) × (o ≡ Some event)
some_event None is = cc
some_event (Some event) is = (event, refl)

-- what is refused may not be taken
pub not_takeable : (r : Run) (leaf : ℕ) (why : TakeRefusal) → TakeIsRefused r leaf why → ¬ (IsTakeable r leaf)
not_takeable r leaf take.Closed over (going, room, can) = true≢false (sym over ∙ going)
not_takeable r leaf take.NoLeaf (on, past) (going, room, can) =
    let (event, is) = some_event (event_at (schema r).labels leaf) can.0 in omega (arith, past, event_within (schema r).labels leaf event is)
not_takeable r leaf take.WrongKind (on, (within, none)) (going, room, can) = true≢false (sym can.0 ∙ ap is_some none)
not_takeable r leaf (take.Spent limit) (on, event, (spent, is)) (going, room, can) = spent room
not_takeable r leaf take.NotEnabled (on, event, left, cannot) (going, room, can) = cannot can

-- a leaf of the event may be taken
abbrev pub IsOpenTo : Run → ℕ → ℕ → Type 0
IsOpenTo r leaf event = IsTakeable r leaf × (event_at (schema r).labels leaf ≡ Some event)

pub open_just : (d : Desked) (r : Run) (leaf found event : ℕ) → r ≡ d.run → IsOpenTo r leaf found → IsTrue (found == event) ↔ IsOpenTo d.run leaf event
open_just d r leaf found event same is = (
  λ of. subst (λ (e : ℕ). IsOpenTo d.run leaf e) (eqb-true found event of) (subst (λ (x : Run). IsOpenTo x leaf found) same is),
  λ (can, of). let mine = subst (λ (x : Run). IsOpenTo x leaf found) same is in eq-eqb found event (some_same found event (sym mine.1 ∙ of)),
)

pub never_open : (d : Desked) (r : Run) (leaf event : ℕ) (why : TakeRefusal) → r ≡ d.run → TakeIsRefused r leaf why → ¬ (IsOpenTo d.run leaf event)
never_open d r leaf event why same refused (can, of) = not_takeable r leaf why refused (subst (λ (x : Run). IsTakeable x leaf) (sym same) can)

-- of the leaves below there is none
abbrev pub NoneOpenBelow : Run → ℕ → ℕ → Type 0
NoneOpenBelow r event past = (leaf : ℕ) → leaf < past → ¬ (IsOpenTo r leaf event)

pub one_more_closed : (r : Run) (event past : ℕ) → NoneOpenBelow r event past → ¬ (IsOpenTo r past event) → NoneOpenBelow r event (past + 1)
one_more_closed r event past none not leaf below can = ⊎_elim
    (λ less. none leaf less can)
    (λ at. let same : leaf ≡ past = omega (arith, below, at) in not (subst (λ n. IsOpenTo r n event) same can))
    (cases_lt leaf past)

pub none_open : (r : Run) (event past : ℕ) → NoneOpenBelow r event past → length (schema r).labels ≤ past → (leaf : ℕ) → ¬ (IsOpenTo r leaf event)
none_open r event past none all leaf can = none leaf (omega (arith, all, event_within (schema r).labels leaf event can.1)) can

-- ---- users who have both

abbrev pub NoneHasBothBelow : Desked → ℕ → ℕ → ℕ → Type 0
NoneHasBothBelow d one two past = (user : ℕ) → user < past → ¬ (HasBoth d one two user)

pub one_more_without : (d : Desked) (one two past : ℕ) → NoneHasBothBelow d one two past → ¬ (HasBoth d one two past) → NoneHasBothBelow d one two (past + 1)
one_more_without d one two past none not user below both = ⊎_elim
    (λ less. none user less both)
    (λ at. let same : user ≡ past = omega (arith, below, at) in not (subst (λ u. HasBoth d one two u) same both))
    (cases_lt user past)
