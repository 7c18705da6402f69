-- What the fields of a plan keep.
use Rattle.std.specs.Prelude.{◌≡◌, ◌<◌, ◌*◌, ℕ, List, length}
use Rattle.std.specs.List.Sorted.{IsStrictlyIncreasing}
use Rattle.leaf_rows.specs.declared.leaf_set.LeafSet.{LeafSet}
use Rattle.flow_model.specs.declared.limits.TheConstants.{MOST_LEAVES}
use Rattle.flow_model.specs.Lists.{◌∈◌, Each}
use Rattle.flow_model.specs.Process as process
use Rattle.flow_model.specs.Ready.{DirectlyBefore}
use Rattle.flow_fold_laws.specs.Unfolding.{IsFoldedOrdered}
use Rattle.flow_plan.specs.declared.part_row.PartRow.{PartRow}
use Rattle.flow_plan.specs.declared.table.Rows.{Rows}
use Rattle.flow_plan.specs.declared.table.Rows.TheVariants.{Narrow, Middle, Wide}
use Rattle.flow_plan.specs.declared.table.Table.{Table}
use Rattle.flow_plan.specs.Known.{AreSpansOf}
use Rattle.flow_plan.specs.Planned.{Planned, pairs_of}
use Rattle.flow_plan.specs.Rows.{IsRowOf, AreRowsOf}
use Rattle.flow_plan.specs.Parts.{ArePartsOf}

-- for each leaf what is directly before it, and the isolated parts
pub record AreFieldsOf {w : ℕ} (p : Planned) (before : List (LeafSet w)) (parts : List (PartRow w)) : Type 0 where
  pub ordered : IsFoldedOrdered p.process (pairs_of p.tokens)
  pub listed : p.leaves ≡ process.leaves p.process
  pub rows : AreRowsOf (DirectlyBefore p.process (pairs_of p.tokens)) p.leaves before
  pub parts_are : ArePartsOf p.process (pairs_of p.tokens) parts

-- there is a row for each of the leaves, and rows of that width have room for all of them
pub record Fills {w : ℕ} (ns : List ℕ) (before : List (LeafSet w)) : Type 0 where
  pub rising : IsStrictlyIncreasing ns
  pub within : Each (λ n. n < 64 * w) ns
  pub one_each : length before ≡ length ns

-- the table of a plan
pub record IsTableOf {w : ℕ} (p : Planned) (t : Table w) : Type 0 where
  pub fields : AreFieldsOf p t.before.items t.parts.items
  pub within : Each (λ n. n < 64 * w) p.leaves
  pub all_are : IsRowOf (λ x. x ∈ p.leaves) t.all
  pub spans_are : AreSpansOf t.spans.items t.parts.items

-- the rows of a plan, of whatever width
abbrev pub AreKept : Planned → Rows → Type 0
AreKept p (Narrow t) = IsTableOf p t
AreKept p (Middle t) = IsTableOf p t
AreKept p (Wide t) = IsTableOf p t

pub record IsPlanOf (p : Planned) (rows : Rows) : Type 0 where
  pub rising : IsStrictlyIncreasing p.leaves
  pub small : Each (λ n. n < MOST_LEAVES) p.leaves
  pub kept : AreKept p rows
