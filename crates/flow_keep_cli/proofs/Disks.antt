-- A call on a disk that changed nothing, and what comes of an opening after it.
use Rattle.std.proofs.Common.{◌≡◌, ◌∙◌, inl, inr, ℕ, ◌<◌, ◌≤◌, List, Option, refl, sym, subst, ap, arith}
use Rattle.std.proofs.lemmas.Bool.{cases_lt}
use Rattle.std.specs.Prelude.{◌↔◌}
use Rattle.flow_workflow.specs.Definition.{Definition, schema_of}
use Rattle.flow_disk.specs.Disk.{Rests}
use Rattle.flow_keep.specs.declared.refusal.KeepRefusal.{KeepRefusal}
use Rattle.flow_keep.specs.declared.refusal.KeepRefusal.TheVariants.{DiskFault, Foreign, NoMemory}
use Rattle.flow_keep.specs.Records.{records}
use Rattle.flow_keep.specs.Opened.{KeepsRecords, KeepsSyncs, IsForeign}
use Rattle.flow_keep_cli.specs.declared.begin.Hindrance.TheVariants.{Later}
use Rattle.flow_keep_cli.specs.Course.{IsQuiet, IsAt, IsHindered}

module _ {D : Type 0} (moment : D → ℕ) (image : D → ℕ → List ℕ → Type 0) (synced : D → ℕ → Type 0) (seen : D → List ℕ) where
  -- no call at all
  pub safe_same : (disk : D) → KeepsRecords moment image synced seen disk disk
  safe_same disk = record {
    later = omega arith;
    keeps = λ t c le i. i;
    past = λ t c lt i. i;
    until = λ t c from to none i. subst (λ m. image disk m c) (let e : t ≡ moment disk = omega (arith, from, to) in e) i;
    from = λ s t c was after before to i. absurd (omega (arith, after, before, to));
  }

  module _ (disk chosen : D)
      (rests : Rests (moment disk) (moment chosen) (seen disk) (seen chosen) (image disk) (image chosen) (synced disk) (synced chosen)) where
    as_before : (t : ℕ) (c : List ℕ) → moment disk ≤ t → t ≤ moment chosen → image chosen t c → image disk (moment disk) c
    as_before t c from to i = let (d, was, is) = rests.passes.during t c from to i in subst (image disk (moment disk)) (sym is) was

    pub safe_then : (disk' : D) → KeepsRecords moment image synced seen chosen disk' → KeepsSyncs (moment chosen) (synced chosen) (synced disk') →
        KeepsRecords moment image synced seen disk disk'
    safe_then disk' k syncs =
        let early : moment disk ≤ moment chosen = rests.passes.later in
        let later : moment chosen ≤ moment disk' = k.later in
        record {
          later = omega (arith, early, later);
          keeps = λ t c le i. k.keeps t c (omega (arith, le, early)) (rests.passes.keeps t c le i);
          past = λ t c lt i. rests.passes.past t c lt (k.past t c (omega (arith, lt, early)) i);
          until = λ t c from to none i. elim (cases_lt t (moment chosen)) [
            | inl before ↦ as_before t c from (omega (arith, before)) (k.past t c before i)
            | inr after ↦ as_before (moment chosen) c early (omega arith) (k.until t c after to (λ s x y z. none s (omega (arith, x, early)) y z) i)
          ];
          from = λ s t c was after before to i. elim (cases_lt (moment chosen) s) [
            | inl late ↦ k.from s t c was late before to i ∙ ap records rests.seen_is
            | inr soon ↦ absurd (rests.no_sync.none s after soon (syncs.past s soon was))
          ];
        }

-- a keep that is not opened on a disk whose file was chosen
pub hindered_of : {D : Type 0} (tells : Type 0) (moment : D → ℕ) (image : D → ℕ → List ℕ → Type 0) (synced : D → ℕ → Type 0) (seen : D → List ℕ) (faults : D → ℕ) (chosen : D → Option ℕ) (file_at : List ℕ → ℕ)
    (path : List ℕ) (w : Definition) (steps : ℕ) (disk opened disk' : D) (why : KeepRefusal) → IsQuiet tells moment image synced seen faults chosen file_at disk opened → faults opened ≡ faults disk →
    IsAt tells moment image synced seen faults chosen file_at path opened → chosen disk' ≡ chosen opened → ((why ≡ DiskFault) ↔ (faults opened < faults disk')) →
    (tells → (index : ℕ) → why ≡ Foreign index → IsForeign (schema_of w) steps (records (seen opened)) index) →
    (tells → (index : ℕ) → why ≡ Foreign index → seen disk' ≡ seen opened) →
    IsHindered tells moment image synced seen faults chosen file_at path w steps disk (Later why) disk'
hindered_of tells moment image synced seen faults chosen file_at path w steps disk opened disk' DiskFault quiet fine at same_file fault foreign alone =
    ((opened, quiet, fine, fault.0 refl), same_file ∙ at)
hindered_of tells moment image synced seen faults chosen file_at path w steps disk opened disk' (Foreign index) quiet fine at same_file fault foreign alone = (
  (λ more. absurd (let never = fault.1 (omega (arith, more, fine)) in cc)),
  (λ told. subst (λ (f : List ℕ). IsForeign (schema_of w) steps (records f) index) (quiet told).seen_is (foreign told index refl)),
  (λ told. alone told index refl ∙ (quiet told).seen_is),
  same_file ∙ at,
)
hindered_of tells moment image synced seen faults chosen file_at path w steps disk opened disk' NoMemory quiet fine at same_file fault foreign alone =
    ((λ more. absurd (let never = fault.1 (omega (arith, more, fine)) in cc)), same_file ∙ at)
