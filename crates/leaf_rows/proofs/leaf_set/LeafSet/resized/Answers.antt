use Rattle.std.proofs.Common.{◌≡◌, ℕ, ◌<◌, ◌≤◌, ◌+◌, ◌∙◌, List, length, get_or, set, get_or-set_same, get_or-set_other, below_more, refl, sym, ap, arith}
use Rattle.std.proofs.lemmas.List.{get_or_past}
use Rattle.std.proofs.Math.ListN.{length-set}
use Rattle.leaf_rows.proofs.leaf_set.LeafSet.resized.Goals as goal
use Rattle.leaf_rows.proofs.leaf_set.LeafSet.resized.Goals.{then-i, else-i}

-- the words below a place are those of the other, and the rest are empty
record AreCopied (i : ℕ) (words other : List ℕ) : Type 0 where
  copied : (k : ℕ) → k < i → get_or words k 0 ≡ get_or other k 0
  empty : (k : ℕ) → i ≤ k → get_or words k 0 ≡ 0

copied_more : (i v : ℕ) (words other new : List ℕ) → i < length words → v ≡ get_or other i 0 → new ≡ set words i v → AreCopied i words other → AreCopied (i + 1) new other
copied_more i v words other new within same is before = record {
  copied = below_more (λ k. get_or new k 0 ≡ get_or other k 0) i
      (λ k h. ap (λ l. get_or l k 0) is ∙ get_or-set_other words i k v 0 (omega (arith, h)) ∙ before.copied k h)
      (ap (λ l. get_or l i 0) is ∙ get_or-set_same words i v 0 within ∙ same);
  empty = λ k h. ap (λ l. get_or l k 0) is ∙ get_or-set_other words i k v 0 (omega (arith, h)) ∙ before.empty k (omega (arith, h));
}

past_more : (i : ℕ) (words other new : List ℕ) → length other ≤ i → new ≡ words → AreCopied i words other → AreCopied (i + 1) new other
past_more i words other new past is before = record {
  copied = below_more (λ k. get_or new k 0 ≡ get_or other k 0) i
      (λ k h. ap (λ l. get_or l k 0) is ∙ before.copied k h)
      (ap (λ l. get_or l i 0) is ∙ before.empty i (omega arith) ∙ sym (get_or_past other i 0 past));
  empty = λ k h. ap (λ l. get_or l k 0) is ∙ before.empty k (omega (arith, h));
}

pub loop-i-preserved : goal.loop-i-preserved
loop-i-preserved g c =
    let before : AreCopied c.loop-i.i c.loop-i.words c.args.self.now.words = record { copied = c.loop-i.invariant.copied; empty = c.loop-i.invariant.empty } in
    let after : AreCopied (c.loop-i.i + 1) c.if-i.words c.args.self.now.words = elim c.if-i.branch [
      | then-i w ↦ copied_more c.loop-i.i _ c.loop-i.words c.args.self.now.words c.if-i.words (omega (arith, c.loop-i.invariant.long)) refl w.words-is before
      | else-i w ↦ past_more c.loop-i.i c.loop-i.words c.args.self.now.words c.if-i.words (omega (arith, w.if-i.false)) w.words-is before
    ] in
    let long : length c.if-i.words ≡ g.row.V = elim c.if-i.branch [
      | then-i w ↦ ap length w.words-is ∙ length-set c.loop-i.words c.loop-i.i _ ∙ c.loop-i.invariant.long
      | else-i w ↦ ap length w.words-is ∙ c.loop-i.invariant.long
    ] in
    record { long = long; copied = after.copied; empty = after.empty }
