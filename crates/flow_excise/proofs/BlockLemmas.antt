-- Blocks of 64 resolutions, and the lanes in them.
use Rattle.std.proofs.Common.{◌≡◌, ◌==◌, false, ℕ, ◌+◌, ◌*◌, ◌/◌, ◌<◌, ◌≤◌, min, List, [], ◌∷◌, ◌++◌, get_or, length, length-append, take, map, sym, ap, ◌∙◌, subst, inl, inr, arith, Some, slice_get}
use Rattle.std.proofs.lemmas.Bool.{cases_lt, ne_eqb}
use Rattle.std.proofs.lemmas.List.{take_all, take_min}
use Rattle.std.proofs.lemmas.Option.{slice_get-get_or, slice_get_within}
use Rattle.flow_model.specs.Process.{Process}
use Rattle.flow_model.specs.Folding.{fixed_leaves}
use Rattle.flow_model.specs.Ways.{Normal, leaf_of_event}
use Rattle.flow_model.proofs.Lists.{slice_get_append_left}
use Rattle.flow_model.proofs.MadeLists.{slice_get_append_right, some_same}
use Rattle.flow_laws.proofs.FoldingLemmas.{length-folded}
use Rattle.flow_rules.specs.declared.lanes.Lanes.{Lanes}
use Rattle.flow_rules.specs.Lanes.{Shows, has_event}
use Rattle.flow_excise.specs.declared.block.Block.{Block}
use Rattle.flow_excise.specs.Block.{AreLeafCounts, AreShown, HasLeafCount, HasWays, IsBlock, IsSomeBlock, options_in}
use Rattle.flow_excise.specs.Options.{FoldedTree, count_in, option_by, options_by, resolutions_in}

-- of one resolution more it is told how many leaves it has
pub counts_more : (t : FoldedTree) (first : ℕ) (old : List ℕ) (count : ℕ) → HasLeafCount t (first + length old) count →
    AreLeafCounts t first old → AreLeafCounts t first (old ++ count ∷ [])
counts_more t first old count this so_far lane other read = elim (cases_lt lane (length old)) [
  | inl h ↦
      let before = slice_get-get_or old lane count h in
      so_far lane other (before ∙ sym (slice_get_append_left old (count ∷ []) lane (get_or old lane count) before) ∙ read)
  | inr h ↦
      let within = slice_get_within (old ++ count ∷ []) lane other read in
      let last : length old + 0 ≡ lane = omega (arith, length-append old (count ∷ []), within, h) in
      let place : first + length old ≡ first + lane = omega (arith, last) in
      let same = some_same count other (sym (slice_get_append_right old (count ∷ []) 0) ∙ ap (slice_get (old ++ count ∷ [])) last ∙ read) in
      subst (λ (k : ℕ). HasLeafCount t k other) place (subst (HasLeafCount t (first + length old)) same this)
]

-- one lane more
pub shown_more : (t : FoldedTree) (first lane : ℕ) (p : Process) (ls : List ℕ) (old new : Lanes) → slice_get (resolutions_in t) (first + lane) ≡ Some p → ls ≡ fixed_leaves p →
    Shows new lane (leaf_of_event t.tree.labels ls) → ((other event : ℕ) → (other == lane) ≡ false → has_event new other event ≡ has_event old other event) →
    AreShown t first lane old → AreShown t first (lane + 1) new
shown_more t first lane p ls old new there listed this others so_far number q lt there_too = elim (cases_lt number lane) [
  | inl h ↦ λ event. others number event (ne_eqb number lane (λ e. omega (arith, e, h))) ∙ so_far number q h there_too event
  | inr h ↦
      let e : lane ≡ number = omega arith in
      let same : p ≡ q = some_same p q (sym there ∙ ap (λ n. slice_get (resolutions_in t) (first + n)) e ∙ there_too) in
      subst (λ (n : ℕ). Shows new n (leaf_of_event t.tree.labels (fixed_leaves q))) e
      (subst (λ (l : List ℕ). Shows new lane (leaf_of_event t.tree.labels l)) (listed ∙ ap fixed_leaves same) this)
]

-- and no lane beyond it is used
pub blank_more : (lane : ℕ) (old new : Lanes) → ((other event : ℕ) → (other == lane) ≡ false → has_event new other event ≡ has_event old other event) →
    ((other event : ℕ) → lane ≤ other → has_event old other event ≡ false) → (other event : ℕ) → lane + 1 ≤ other → has_event new other event ≡ false
blank_more lane old new others blank other event h =
    others other event (ne_eqb other lane (λ e. omega (arith, e, h))) ∙ blank other event (omega arith)

-- where a block ends

pub block_end : (t : FoldedTree) (n : Normal) (number : ℕ) (block : Block) → IsBlock t n number block → 64 * number < count_in t →
    take (block.first + block.size) (resolutions_in t) ≡ take (64 * (number + 1)) (resolutions_in t)
block_end t n number block b h =
    let long : length (resolutions_in t) ≡ count_in t = length-folded t.apart t.tree.process in
    let end : block.first + block.size ≡ min (64 * (number + 1)) (length (resolutions_in t)) = omega (arith, b.first, b.size, h, long) in
    ap (λ k. take k (resolutions_in t)) end ∙ take_min (64 * (number + 1)) (resolutions_in t)

pub more_blocks : (count number blocks : ℕ) → blocks ≡ (count + 63) / 64 → number < blocks → 64 * number < count
more_blocks count number blocks e h = omega arith

pub last_block : (t : FoldedTree) (number blocks : ℕ) → blocks ≡ (count_in t + 63) / 64 → number ≡ blocks →
    take (64 * number) (resolutions_in t) ≡ resolutions_in t
last_block t number blocks e h =
    let long : length (resolutions_in t) ≡ count_in t = length-folded t.apart t.tree.process in
    take_all (64 * number) (resolutions_in t) (omega (arith, e, h, long))

-- the options in a lane
pub options_found : (t : FoldedTree) (n : Normal) (block : Block) (lane : ℕ) (q : Process) → HasWays t n block → lane < block.size →
    slice_get (resolutions_in t) (block.first + lane) ≡ Some q → options_in t block lane q ≡ options_by t n q
options_found t n block lane q ways h there = ap (map (option_by q)) (ways lane q h there)

-- it has one number
pub some_block : (t : FoldedTree) (n : Normal) (number : ℕ) (block : Block) → IsBlock t n number block → IsSomeBlock t n block
some_block t n number block b other is =
    let same : number ≡ other = omega (arith, b.first, is) in
    subst (λ (k : ℕ). IsBlock t n k block) same b
