-- Roles that statements allow something.
use Rattle.std.proofs.Common.{◌≡◌, ◌↔◌, ◌<◌, ◌≤◌, ◌+◌, ℕ, zero, suc, Bool, IsTrue, List, [], ◌∷◌, ◌++◌, map, take, length, get_or, slice_get, Some, None, refl, sym, ap, subst, ◌∙◌, arith}
use Rattle.std.proofs.lemmas.List.{take_all, take_more}
use Rattle.std.proofs.lemmas.Option.{slice_get-get_or}
use Rattle.flow_model.specs.Lists.{◌∈◌, Each}
use Rattle.flow_model.proofs.Lists.{each_member, each-append, mem-slice_get}
use Rattle.flow_model.proofs.MadeLists.{mem-map, of_map}
use Rattle.flow_policy_lint.specs.declared.heads.Word.{Word}
use Rattle.flow_policy_lint.specs.declared.heads.Word.TheVariants.{Allow}
use Rattle.flow_policy_lint.specs.declared.heads.Head.{Head}
use Rattle.flow_policy_lint.specs.Heads.{said, IsIdle, IsIdleRole}

-- what the statement of that number begins with
at_said : (heads : List Head) (number : ℕ) (h : Head) → slice_get heads number ≡ Some h → slice_get (map said heads) number ≡ Some (said h)
at_said [] number h at = cc
at_said (x ∷ heads) zero h at = let same : Some x ≡ Some h = at in let is : x ≡ h = cc in ap (λ y. Some (said y)) is
at_said (x ∷ heads) (suc number) h at = at_said heads number h at

-- the statement of that number, and whether it is idle
pub idle_at : (heads : List Head) (number : ℕ) (h : Head) (told : Bool) → slice_get heads number ≡ Some h → IsTrue told ↔ IsIdle (map said heads) (said h) →
    IsTrue told ↔ IsIdleRole (map said heads) number
idle_at heads number h told at is = (
  λ yes. (said h, at_said heads number h at, is.0 yes),
  λ (head, also, idle). is.1 (subst (IsIdle (map said heads)) (let e : Some head ≡ Some (said h) = sym also ∙ at_said heads number h at in cc) idle),
)

pub none_at : (heads : List Head) (number : ℕ) → length heads ≤ number → slice_get heads number ≡ None
none_at [] number past = refl
none_at (x ∷ heads) zero past = absurd (omega (arith, past))
none_at (x ∷ heads) (suc number) past = none_at heads number (omega (arith, past))

none_said : (heads : List Head) (number : ℕ) → slice_get heads number ≡ None → slice_get (map said heads) number ≡ None
none_said [] number at = refl
none_said (x ∷ heads) zero at = let no : Some x ≡ None = at in cc
none_said (x ∷ heads) (suc number) at = none_said heads number at

-- there is no statement of that number
pub none_idle : (heads : List Head) (number : ℕ) → slice_get heads number ≡ None → ¬ (IsIdleRole (map said heads) number)
none_idle heads number at (head, also, idle) = let e : Some head ≡ None = sym also ∙ none_said heads number at in cc

-- none of the statements allows something to the role
abbrev pub NoneAllow : List ℕ → List Head → Type 0
NoneAllow role heads = Each (λ (h : Head). ¬ (said h ≡ (Allow, role))) heads

-- one statement more
pub none_more : (role : List ℕ) (heads : List Head) (k : ℕ) (or : Head) → k < length heads → NoneAllow role (take k heads) → ¬ (said (get_or heads k or) ≡ (Allow, role)) →
    NoneAllow role (take (k + 1) heads)
none_more role heads k or inside none not =
    subst (NoneAllow role) (sym (take_more heads k or inside)) (each-append (λ (h : Head). ¬ (said h ≡ (Allow, role))) (take k heads) (get_or heads k or ∷ []) none (not, tt))

-- all were looked at
pub none_at_all : (role : List ℕ) (heads : List Head) (k : ℕ) → length heads ≤ k → NoneAllow role (take k heads) → ¬ ((Allow, role) ∈ map said heads)
none_at_all role heads k past none among =
    let (h, at, same) = of_map said (Allow, role) heads among in
    each_member (λ (h : Head). ¬ (said h ≡ (Allow, role))) heads (subst (NoneAllow role) (take_all k heads past) none) h at (sym same)

-- one does
pub one_allows : (role : List ℕ) (heads : List Head) (k : ℕ) (or : Head) → k < length heads → said (get_or heads k or) ≡ (Allow, role) → (Allow, role) ∈ map said heads
one_allows role heads k or inside same =
    subst (λ (p : Word × List ℕ). p ∈ map said heads) same (mem-map said (get_or heads k or) heads (mem-slice_get heads k (get_or heads k or) (slice_get-get_or heads k or inside)))
