-- A shut gate that is written behind the lines of a trail.
use Rattle.std.specs.Prelude.{IsTrue, ◌↔◌}
use Rattle.std.proofs.Common.{◌≡◌, ◌≢◌, inl, inr, ℕ, ◌+◌, ◌<◌, ◌≤◌, Bool, true, false, List, [], ◌∷◌, ◌++◌, length, get_or, take, drop, refl, sym, ◌∙◌, ap, subst, append_assoc, length-append, length-take, take-append-drop, arith}
use Rattle.std.specs.Prelude.{◌==◌, ◌&&◌}
use Rattle.std.specs.List.{list_any}
use Rattle.std.proofs.lemmas.Bool.{cases_lt, cases_eq}
use Rattle.std.proofs.lemmas.List.{take_at, drop_at, drop_all, drop_more, get_or_at}
use Rattle.flow_disk.specs.Disk.{Holds, Torn, Passes, Leaves}
use Rattle.flow_trail.specs.Whole.{is_open, HasLines, IsSettled}
use Rattle.flow_trail.proofs.MomentLemmas.{started, goes_on}

-- no newline stands behind a place where no line begins, under whatever byte
abbrev pub IsClear : ℕ → List ℕ → Type 0
IsClear place file = list_any (λ x. x == 10) (drop (place + 1) file) ≡ false

never : (t : Bool) → (t && false) ≡ false
never true = refl
never false = refl

-- so no line begins there
pub clear_lines : (place : ℕ) (file : List ℕ) → IsClear place file → HasLines (take place file) file
clear_lines place file clear = (
  drop place file,
  sym (take-append-drop place file),
  elim (cases_lt place (length file)) [
    | inl there ↦ rw (drop_more file place 0 there, clear) (never (get_or file place 0 == 123))
    | inr past ↦ rw (drop_all place file past) refl
  ],
)

-- at the end, and under a brace behind which no line begins
pub clear_end : (place : ℕ) (file : List ℕ) → length file ≤ place → IsClear place file
clear_end place file end = rw (drop_all (place + 1) file (omega arith)) refl

pub clear_brace : (place : ℕ) (file : List ℕ) → place < length file → get_or file place 0 ≡ 123 → HasLines (take place file) file → IsClear place file
clear_brace place file there brace (behind, split, shut) =
    let long : length (take place file) ≡ place = omega (arith, length-take place file) in
    let is : behind ≡ 123 ∷ drop (place + 1) file =
    sym (drop_at (take place file) behind place long) ∙ ap (drop place) (sym split) ∙ drop_more file place 0 there ∙ ap (λ b. b ∷ drop (place + 1) file) brace in
    sym (ap is_open is) ∙ shut

module _ (place : ℕ) (seen : List ℕ) (within : place ≤ length seen) (clear : IsClear place seen) where
  long : length (take place seen) ≡ place
  long = omega (arith, length-take place seen)

  -- in each image of the write no line begins there
  pub torn_clear : (c : List ℕ) → Torn place 1 seen c → HasLines (take place seen) c
  torn_clear c torn = subst (λ (l : List ℕ). HasLines l c) torn.before (clear_lines place c (ap (list_any (λ x. x == 10)) torn.after ∙ clear))

  module _ (c : List ℕ) (holds : Holds seen place (10 ∷ []) c) where
    whole : c ≡ take place seen ++ 10 ∷ drop (place + 1) seen
    whole = holds ∙ append_assoc (take place seen) (10 ∷ []) (drop (place + 1) seen)

    pub front_stays : take place c ≡ take place seen
    front_stays = ap (take place) whole ∙ take_at (take place seen) (10 ∷ drop (place + 1) seen) place long

    pub closed : (image : List ℕ → Type 0) → ((d : List ℕ) → image d → d ≡ c) → IsSettled place c image
    closed image durable =
        let at : get_or c place 0 ≡ 10 = ap (λ (l : List ℕ). get_or l place 0) whole ∙ get_or_at (take place seen) 10 (drop (place + 1) seen) 0 place long in
        record {
          there = omega (arith, ap length whole, length-append (take place seen) (10 ∷ drop (place + 1) seen), long);
          shut = λ brace. absurd (omega (arith, at, brace));
          durable = durable;
        }

-- the calls
module _ {D : Type 0} (moment : D → ℕ) (image : D → ℕ → List ℕ → Type 0) (seen : D → List ℕ) (first : D) (place : ℕ) (bytes : List ℕ)
    (is : bytes ≡ seen first) (within : place ≤ length bytes) (lines : HasLines (take place bytes) bytes) (durable : (c : List ℕ) → image first (moment first) c → c ≡ seen first) where
  pub begun : Leaves moment image first first (HasLines (take place bytes))
  begun = started moment image first (HasLines (take place bytes)) (λ c i. subst (HasLines (take place bytes)) (is ∙ sym (durable c i)) lines)

  pub after_write : (d : D) → IsClear place bytes → Passes (moment first) (moment d) (image first) (image d) (Torn place 1) → Leaves moment image first d (HasLines (take place bytes))
  after_write d clear call = goes_on moment image first first d (HasLines (take place bytes)) (Torn place 1) begun call
      (λ x c was torn. torn_clear place bytes within clear c (subst (λ (l : List ℕ). Torn place 1 l c) (durable x was ∙ sym is) torn))

-- where no gate stands
pub clear_of : (place : ℕ) (bytes : List ℕ) (b : Bool) → (IsTrue b ↔ ((place < length bytes) × (get_or bytes place 0 ≢ 123))) → b ≡ false → HasLines (take place bytes) bytes → IsClear place bytes
clear_of place bytes b tells none lines = elim (cases_lt place (length bytes)) [
  | inl there ↦ elim (cases_eq (get_or bytes place 0) 123) [
    | inl brace ↦ clear_brace place bytes there brace lines
    | inr other ↦ let no : false ≡ true = sym none ∙ tells.1 (there, other) in cc
  ]
  | inr past ↦ clear_end place bytes past
]
