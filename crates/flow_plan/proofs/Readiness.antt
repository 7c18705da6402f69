-- Readiness, by rows of bits.
use Rattle.std.proofs.Common.{◌≡◌, ◌≢◌, ◌<◌, ℕ, List, length, inl, inr, ⊎_elim, subst, sym}
use Rattle.leaf_rows.specs.declared.leaf_set.LeafSet.{LeafSet}
use Rattle.flow_model.specs.declared.limits.TheConstants.{MOST_LEAVES}
use Rattle.flow_model.specs.Lists.{◌∈◌, Each, AreDistinct}
use Rattle.flow_model.specs.Process.{leaves}
use Rattle.flow_model.specs.Ready.{DirectlyBefore}
use Rattle.flow_model.specs.Folding.{fixed_leaves}
use Rattle.std.specs.List.Sorted.{IsStrictlyIncreasing}
use Rattle.flow_laws.proofs.GoalParts.{part_within, sequence_first, sequence_second}
use Rattle.flow_fold_laws.specs.Unfolding.{IsFoldedOrdered}
use Rattle.flow_fold_laws.proofs.FoldedByRows.{rows_of_ready, ready_of_rows}
use Rattle.flow_fold_laws.proofs.Unfoldings.{fixed_in_goal}
use Rattle.flow_model.proofs.Lists.{each_member, each_from_members, each_to}
use Rattle.flow_goal.specs.Resolved.{Resolved, IsResolved}
use Rattle.flow_plan.specs.declared.cut_sides.CutSides.{CutSides}
use Rattle.flow_plan.specs.declared.part_row.PartRow.{PartRow}
use Rattle.flow_plan.specs.declared.token.OrderToken.{OrderToken}
use Rattle.flow_plan.specs.CutSides.{IsFree, TellIn}
use Rattle.flow_plan.specs.Planned.{Planned, pairs_of}
use Rattle.flow_plan.specs.Parts.{PartAllows}
use Rattle.flow_plan.specs.Orders.{IsUnblocked, MayComeNext}
use Rattle.flow_plan.specs.declared.table.Rows.{Rows}
use Rattle.flow_plan.specs.declared.table.Rows.TheVariants.{Narrow, Middle, Wide}
use Rattle.flow_plan.specs.declared.table.Table.{Table}
use Rattle.flow_plan.specs.Fields.{AreFieldsOf, AreKept, Fills, IsPlanOf, IsTableOf}
use Rattle.flow_plan.proofs.PlaceLemmas.{distinct_of_rising}
use Rattle.flow_plan.proofs.RowLemmas.{rows_length}

-- ---- a new plan

pub new_is_ordered : (g : Resolved) (tokens : List OrderToken) → IsResolved g → Each (λ pair. (pair.0 ∈ g.fixed) × (pair.1 ∈ g.fixed)) (pairs_of tokens) →
    Each (λ pair. pair.0 ≢ pair.1) (pairs_of tokens) → IsFoldedOrdered g.process (pairs_of tokens)
new_is_ordered g tokens is of_fixed different = record {
  folded = is.folded;
  distinct = subst (λ (l : List ℕ). AreDistinct l) is.listed (distinct_of_rising g.leaves is.rising);
  of_fixed = subst (λ (l : List ℕ). Each (λ pair. (pair.0 ∈ l) × (pair.1 ∈ l)) (pairs_of tokens)) is.fixed_are of_fixed;
  different = different;
}

-- ---- what is directly before a leaf

abbrev pub Before : Planned → ℕ → ℕ → Type 0
Before p x y = DirectlyBefore p.process (pairs_of p.tokens) x y

pub direct_first : (p : Planned) → IsFoldedOrdered p.process (pairs_of p.tokens) → (x y : ℕ) → Before p x y → x ∈ leaves p.process
direct_first p ordered x y (inl h) = sequence_first p.process x y h
direct_first p ordered x y (inr m) =
    let (fixed, _) = each_member (λ pair. (pair.0 ∈ fixed_leaves p.process) × (pair.1 ∈ fixed_leaves p.process)) (pairs_of p.tokens) ordered.of_fixed (x, y) m in
    fixed_in_goal p.process x fixed

pub direct_second : (p : Planned) → IsFoldedOrdered p.process (pairs_of p.tokens) → (x y : ℕ) → Before p x y → y ∈ leaves p.process
direct_second p ordered x y (inl h) = sequence_second p.process x y h
direct_second p ordered x y (inr m) =
    let (_, fixed) = each_member (λ pair. (pair.0 ∈ fixed_leaves p.process) × (pair.1 ∈ fixed_leaves p.process)) (pairs_of p.tokens) ordered.of_fixed (x, y) m in
    fixed_in_goal p.process y fixed

pub before_small : (p : Planned) → IsFoldedOrdered p.process (pairs_of p.tokens) → p.leaves ≡ leaves p.process → (bound : ℕ) → Each (λ n. n < bound) p.leaves →
    (x y : ℕ) → Before p x y → x < bound
before_small p ordered listed bound small x y direct =
    each_member (λ n. n < bound) p.leaves small x (subst (λ (l : List ℕ). x ∈ l) (sym listed) (direct_first p ordered x y direct))

-- ---- what is kept

-- what is kept, of the plan as callers see it
pub kept_as : {p q : Planned} (rows : Rows) → AreKept p rows → p ≡ q → AreKept q rows
kept_as rows kept view = subst (λ (p : Planned). AreKept p rows) view kept

pub kept_ordered : {p q : Planned} (rows : Rows) → AreKept p rows → p ≡ q → IsFoldedOrdered q.process (pairs_of q.tokens)
kept_ordered (Narrow t) kept view = subst (λ (p : Planned). IsFoldedOrdered p.process (pairs_of p.tokens)) view kept.fields.ordered
kept_ordered (Middle t) kept view = subst (λ (p : Planned). IsFoldedOrdered p.process (pairs_of p.tokens)) view kept.fields.ordered
kept_ordered (Wide t) kept view = subst (λ (p : Planned). IsFoldedOrdered p.process (pairs_of p.tokens)) view kept.fields.ordered

pub kept_listed : {p q : Planned} (rows : Rows) → AreKept p rows → p ≡ q → q.leaves ≡ leaves q.process
kept_listed (Narrow t) kept view = subst (λ (p : Planned). p.leaves ≡ leaves p.process) view kept.fields.listed
kept_listed (Middle t) kept view = subst (λ (p : Planned). p.leaves ≡ leaves p.process) view kept.fields.listed
kept_listed (Wide t) kept view = subst (λ (p : Planned). p.leaves ≡ leaves p.process) view kept.fields.listed

-- each leaf has a place in what callers hand in
pub kept_small : {p q : Planned} (rows : Rows) → IsPlanOf p rows → p ≡ q → (n : ℕ) → n ∈ leaves q.process → n < MOST_LEAVES
kept_small {p} {q} rows plan view n member =
    each_member (λ n. n < MOST_LEAVES) q.leaves (subst (λ (p : Planned). Each (λ n. n < MOST_LEAVES) p.leaves) view plan.small) n
    (subst (λ (l : List ℕ). n ∈ l) (sym (kept_listed rows plan.kept view)) member)

pub row_within : {w : ℕ} → {p : Planned} {before : List (LeafSet w)} {parts : List (PartRow w)} → AreFieldsOf p before parts → length before ≡ length p.leaves
row_within {w} {p} {before} kept = rows_length (Before p) p.leaves before kept.rows

-- in the rows of a plan, the table is its table
pub kept_in : {p q : Planned} (rows is : Rows) → AreKept p rows → p ≡ q → rows ≡ is → AreKept q is
kept_in {p} {q} rows is kept view same = subst (λ (rows : Rows). AreKept q rows) same (kept_as rows kept view)

-- the leaves fill the table
pub table_filled : {w : ℕ} {p : Planned} (t : Table w) (ns : List ℕ) → IsTableOf p t → IsStrictlyIncreasing p.leaves → ns ≡ p.leaves → Fills ns t.before.items
table_filled {w} {p} t ns table rising is = rw is (record { rising = rising; within = table.within; one_each = row_within table.fields })

-- ---- readiness

module _ {w : ℕ} {p : Planned} {before : List (LeafSet w)} {parts : List (PartRow w)} (kept : AreFieldsOf p before parts) (D : ℕ → Type 0)
    (sides : CutSides w) (tell : TellIn p D sides) (n : ℕ) where
  pub unblocked_of_free : n ∈ leaves p.process → IsFree (Before p) sides n → IsUnblocked p D n
  unblocked_of_free member free = record {
    leaf = member;
    not_done = λ done. free.not_done ((tell.done n member).1 done);
    not_closed = λ closed. free.not_closed ((tell.closed n member).1 closed);
    before = λ x direct. (tell.settled x (direct_first p kept.ordered x n direct)).0 (free.before x direct);
  }

  pub free_of_unblocked : IsUnblocked p D n → IsFree (Before p) sides n
  free_of_unblocked free = record {
    not_done = λ done. free.not_done ((tell.done n free.leaf).0 done);
    not_closed = λ closed. free.not_closed ((tell.closed n free.leaf).0 closed);
    before = λ x direct. (tell.settled x (direct_first p kept.ordered x n direct)).1 (free.before x direct);
  }

  -- a free leaf that each part lets come next is ready
  pub ready_of_free : IsUnblocked p D n → Each (λ row. PartAllows row sides n) parts → MayComeNext p D n
  ready_of_free free allowed = ready_of_rows p.process (pairs_of p.tokens) kept.ordered D n (record {
    leaf = free.leaf;
    not_done = free.not_done;
    not_closed = free.not_closed;
    before = free.before;
    outside = λ part member other x y x_in x_done y_in. ⊎_elim
        (λ single. subst D (single x y x_in y_in) x_done)
        (λ found. let row = found.0 in
        let allows = each_member (λ row. PartAllows row sides n) parts allowed row found.1 in
        let within = part_within p.process part in
        (tell.done y (within y member y_in)).0
        (allows.passes (λ inside. other ((found.2.inside n).0 inside)) x y ((found.2.inside x).1 x_in) ((tell.done x (within x member x_in)).1 x_done) ((found.2.inside y).1 y_in)))
        (kept.parts_are.complete part member);
    begins = λ part member mine none x y x_out y_in direct. ⊎_elim
        (λ single. free.before x (subst (λ (m : ℕ). Before p x m) (single y n y_in mine) direct))
        (λ found. let row = found.0 in
        let allows = each_member (λ row. PartAllows row sides n) parts allowed row found.1 in
        (tell.settled x (direct_first p kept.ordered x y direct)).0
        (allows.begins ((found.2.inside n).1 mine)
        (λ z inside done. let z_in = (found.2.inside z).0 inside in none z z_in ((tell.done z (part_within p.process part z member z_in)).0 done))
        x ((found.2.outside x).1 (x_out, (y, y_in, direct)))))
        (kept.parts_are.complete part member);
  })

  pub free_of_ready : MayComeNext p D n → IsUnblocked p D n
  free_of_ready ready = let r = rows_of_ready p.process (pairs_of p.tokens) kept.ordered D n ready in
      record { leaf = r.leaf; not_done = r.not_done; not_closed = r.not_closed; before = r.before }

  pub parts_of_ready : MayComeNext p D n → Each (λ row. PartAllows row sides n) parts
  parts_of_ready next = each_from_members (λ row. PartAllows row sides n) parts (λ row member.
      let ready = rows_of_ready p.process (pairs_of p.tokens) kept.ordered D n next in
      let (part, part_in, is) = kept.parts_are.sound row member in
      let within = λ (x : ℕ) (x_in : x ∈ leaves part). part_within p.process part x part_in x_in in
      record {
        passes = λ other x y x_in x_done y_in.
            let x_mine = (is.inside x).0 x_in in
            let y_mine = (is.inside y).0 y_in in
            (tell.done y (within y y_mine)).1
            (ready.outside part part_in (λ mine. other ((is.inside n).1 mine)) x y x_mine ((tell.done x (within x x_mine)).0 x_done) y_mine);
        begins = λ mine none x out.
            let (x_out, (y, y_in, direct)) = (is.outside x).0 out in
            (tell.settled x (direct_first p kept.ordered x y direct)).1
            (ready.begins part part_in ((is.inside n).0 mine) (λ z z_in done. none z ((is.inside z).1 z_in) ((tell.done z (within z z_in)).1 done)) x y x_out y_in direct);
      })

-- leaves that may come next have a place in what callers hand in
pub all_small : {p q : Planned} (rows : Rows) (D : ℕ → Type 0) (list : List ℕ) → IsPlanOf p rows → p ≡ q → Each (MayComeNext q D) list → Each (λ n. n < MOST_LEAVES) list
all_small {p} {q} rows D list plan view all = each_to (MayComeNext q D) (λ n. n < MOST_LEAVES) list (λ n next. kept_small rows plan view n next.leaf) all
