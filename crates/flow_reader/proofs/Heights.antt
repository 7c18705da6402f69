-- How many parentheses and nots are open, as the stack keeps it.
use Rattle.std.proofs.Common.{◌≡◌, ◌==◌, true, length, ℕ, zero, suc, ◌+◌, ◌-◌, ◌<◌, List, [], ◌∷◌, ◌++◌, map, reverse, refl, sym, ap, ◌∙◌, arith}
use Rattle.std.proofs.lemmas.Bool.{eqb-true}
use Rattle.std.proofs.lemmas.List.{nil_from_length, reverse-append, map-append}
use Rattle.flow_form.specs.RuleForm.{RuleShape, negated}
use Rattle.flow_grammar.specs.Machine.{nots_in, negate, rule_height}
use Rattle.flow_reader.specs.declared.rule_levels.RuleFrame.{RuleFrame}
use Rattle.flow_reader.specs.RuleLevels.{rule_frame_of, rule_frames_of}

pub nots_added : (k d : ℕ) → nots_in k d ≡ k + d
nots_added zero d = omega arith
nots_added (suc k) d = omega (arith, nots_added k d)

pub negate_more : (k : ℕ) (r : RuleShape) → 0 < k → negate k r ≡ negate (k - 1) (negated r)
negate_more zero r h = absurd (omega arith)
negate_more (suc k) r h =
    let same : k ≡ suc k - 1 = omega arith in
    ap (λ n. negate n (negated r)) same

-- the last frame of the code is the first of the machine
pub last_first : {A B : Type 0} (f : A → B) (outer frames : List A) (inner : A) → frames ≡ outer ++ inner ∷ [] → reverse (map f frames) ≡ f inner ∷ reverse (map f outer)
last_first f outer frames inner cut = ap (λ fs. reverse (map f fs)) cut ∙ ap reverse (map-append f outer (inner ∷ [])) ∙ reverse-append (map f outer) (f inner ∷ [])

pub frames_last : (outer : List RuleFrame) (inner : RuleFrame) → rule_frames_of (outer ++ inner ∷ []) ≡ rule_frame_of inner ∷ rule_frames_of outer
frames_last outer inner = last_first rule_frame_of outer _ inner refl

-- with one more, and so without it
pub height_more : (outer : List RuleFrame) (inner : RuleFrame) → rule_height (rule_frames_of (outer ++ inner ∷ [])) ≡ rule_height (rule_frames_of outer) + inner.nots + 1
height_more outer inner =
    let count = nots_added inner.nots (rule_height (rule_frames_of outer)) in
    let last = ap rule_height (frames_last outer inner) in
    omega (arith, count, last)

-- what is left of the height without the innermost
pub height_less : (frames outer : List RuleFrame) (inner : RuleFrame) (h : ℕ) → frames ≡ outer ++ inner ∷ [] → h ≡ rule_height (rule_frames_of frames) →
    h ≡ rule_height (rule_frames_of outer) + inner.nots + 1
height_less frames outer inner h cut known = known ∙ ap (λ fs. rule_height (rule_frames_of fs)) cut ∙ height_more outer inner

-- inside one more parenthesis
pub height_pushed : (outer frames : List RuleFrame) (inner : RuleFrame) (h : ℕ) → frames ≡ outer ++ inner ∷ [] → h ≡ rule_height (rule_frames_of outer) →
    h + (inner.nots + 1) ≡ rule_height (rule_frames_of frames)
height_pushed outer frames inner h cut known =
    let more = ap (λ fs. rule_height (rule_frames_of fs)) cut ∙ height_more outer inner in
    omega (arith, more, known)

-- outside the innermost again
pub height_popped : (frames outer : List RuleFrame) (inner : RuleFrame) (h : ℕ) → frames ≡ outer ++ inner ∷ [] → h ≡ rule_height (rule_frames_of frames) →
    h - inner.nots - 1 ≡ rule_height (rule_frames_of outer)
height_popped frames outer inner h cut known =
    let less = height_less frames outer inner h cut known in
    omega (arith, less)

pub none_open : {A : Type 0} (frames : List A) (n : ℕ) → n ≡ length frames → true ≡ (n == 0) → frames ≡ []
none_open frames n counted none = nil_from_length frames (sym counted ∙ eqb-true n 0 (sym none))
