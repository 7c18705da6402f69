-- What comes of a call, by how it ended.
use Rattle.std.proofs.Common.{◌≡◌, ◌∙◌, ◌⊎◌, inl, inr, ℕ, List, length, Option, sym, subst, ap, arith}
use Rattle.flow_model.specs.Verdict as model
use Rattle.flow_record.specs.declared.command.Command.{Command}
use Rattle.flow_workflow.specs.Definition.{Definition}
use Rattle.flow_reply.specs.Verdict.{ended}
use Rattle.flow_core.specs.Run.{Run}
use Rattle.flow_front.specs.declared.status.Status.TheVariants as front
use Rattle.flow_keep.specs.declared.refusal.KeepRefusal.TheVariants as keep
use Rattle.flow_keep_cli.specs.declared.begin.Hindrance.{Hindrance}
use Rattle.flow_keep_cli.specs.declared.begin.Hindrance.TheVariants as hindrance
use Rattle.flow_keep_cli.specs.declared.status.KeepStatus.{KeepStatus}
use Rattle.flow_keep_cli.specs.declared.status.KeepStatus.TheVariants as ending
use Rattle.flow_keep_cli.specs.Lines.{kept_line, open_line, disk_line, foreign_line}
use Rattle.flow_keep_cli.specs.Session.{IsCut, BehindStatus, IsWhole}
use Rattle.flow_keep_cli.specs.Asked.{Wanted, IsWanted}
use Rattle.flow_keep_cli.specs.Course.{run_from, IsAt, IsFound, IsSaid, IsTold, IsSilent, IsFirstLine, IsSafe, IsNotBegun, IsCutShort, IsGoneThrough, IsCourse, IsAnsweredAlone, IsBefore, IsCutOff, IsDriven, IsOver, IsRefusal, IsMishap}
use Rattle.flow_keep_cli.proofs.Disks.{safe_same}

over_verdict : (v : model.Verdict) → IsOver (ending.Of (ended v))
over_verdict model.committed = tt
over_verdict model.spent = tt
over_verdict other = tt

not_both : (s : KeepStatus) → IsOver s → IsMishap s ⊎ IsRefusal s → ⊥
not_both (ending.Of front.Fine) over (inl h) = h
not_both (ending.Of front.Fine) over (inr h) = h
not_both (ending.Of front.No) over (inl h) = h
not_both (ending.Of front.No) over (inr h) = h
not_both (ending.Of front.Spent) over (inl h) = h
not_both (ending.Of front.Spent) over (inr h) = h
not_both other over h = over

not_mishap : (s : KeepStatus) → IsRefusal s → IsMishap s → ⊥
not_mishap (ending.Of front.Words) refusal mishap = mishap
not_mishap (ending.Of front.Input) refusal mishap = mishap
not_mishap (ending.Of front.ReadFault) refusal mishap = mishap
not_mishap other refusal mishap = refusal

-- a session that is cut short ends with a mishap
behind_mishap : (commands : List Command) (s : KeepStatus) (r : Run) (done : ℕ) (more : List ℕ) → BehindStatus commands s r done more → IsMishap s
behind_mishap commands (ending.Of front.Memory) r done more h = tt
behind_mishap commands ending.Disk r done more h = tt
behind_mishap commands (ending.Of front.WriteFault) r done more h = tt
behind_mishap commands other r done more h = h

said_not_over : (status result : KeepStatus) (text : List ℕ) (held held' : Option (List ℕ)) → ¬ (IsOver status) → IsSaid status text held held' result → ¬ (IsOver result)
said_not_over status result text held held' not_over (inl (is, all)) over = not_over (subst IsOver is over)
said_not_over status result text held held' not_over (inr (is, part)) over = subst IsOver is over

silent_not_over : (held held' : Option (List ℕ)) (result : KeepStatus) → IsSilent held held' result → ¬ (IsOver result)
silent_not_over held held' result (is, nothing) over = subst IsOver is over

told_not_over : (why : Hindrance) (held held' : Option (List ℕ)) (result : KeepStatus) → IsTold why held held' result → ¬ (IsOver result)
told_not_over hindrance.Open held held' result told over = said_not_over ending.Disk result open_line held held' (λ o. o) told over
told_not_over (hindrance.Later keep.DiskFault) held held' result told over = said_not_over ending.Disk result disk_line held held' (λ o. o) told over
told_not_over (hindrance.Later (keep.Foreign index)) held held' result (inl told) over = said_not_over (ending.Of front.Input) result (foreign_line index) held held' (λ o. o) told over
told_not_over (hindrance.Later (keep.Foreign index)) held held' result (inr silent) over = silent_not_over held held' result silent over
told_not_over (hindrance.Later keep.NoMemory) held held' result silent over = silent_not_over held held' result silent over

module _ {D : Type 0} (tells : Type 0) (moment : D → ℕ) (image : D → ℕ → List ℕ → Type 0) (synced : D → ℕ → Type 0) (seen : D → List ℕ) (faults : D → ℕ) (chosen : D → Option ℕ) (file_at : List ℕ → ℕ)
    (words : List (List ℕ)) (source : Option (List ℕ)) (disk disk' : D) (held held' : Option (List ℕ)) (result : KeepStatus) where
  abbrev Before : Type 0
  Before = IsBefore tells moment image synced seen faults chosen file_at words source disk disk' held held' result

  abbrev Cut : Type 0
  Cut = IsCutOff tells moment image synced seen faults chosen file_at words source disk disk' held held' result

  abbrev Driven : Type 0
  Driven = IsDriven tells moment image synced seen faults chosen file_at words source disk disk' held held' result

  abbrev Turned : Type 0
  Turned = IsAnsweredAlone words source disk disk' held held' result

  untouched : disk' ≡ disk → IsSafe tells moment image synced seen faults chosen file_at disk disk'
  untouched is told = subst (λ (d : D). IsSafe tells moment image synced seen faults chosen file_at disk d) (sym is) (λ _. safe_same moment image synced seen disk) told

  -- ---- nothing wanted of the disk

  pub before_alone : Turned → Before
  before_alone turned = record { safe = untouched turned.0; came = inl turned }

  -- ---- a session

  module _ (wanted : Wanted) (is : IsWanted words source wanted) (course : IsCourse tells moment image synced seen faults chosen file_at wanted.path wanted.workflow wanted.steps wanted.commands disk disk' held held' result) where
    before_begun : (IsSafe tells moment image synced seen faults chosen file_at disk disk' × IsNotBegun tells moment image synced seen faults chosen file_at wanted.path wanted.workflow wanted.steps disk disk' held held' result) → Before
    before_begun (safe, not) = record { safe = safe; came = inr (inr (wanted, is, not)) }

    not_begun_not_over : IsNotBegun tells moment image synced seen faults chosen file_at wanted.path wanted.workflow wanted.steps disk disk' held held' result → ¬ (IsOver result)
    not_begun_not_over (inl (why, hindered, told)) over = told_not_over why held held' result told over
    not_begun_not_over (inr (fine, at, (history, found, inl silent))) over = silent_not_over held held' result silent over
    not_begun_not_over (inr (fine, at, (history, found, inr (fault, part)))) over = subst IsOver fault over

    cut_mishap : IsCutShort tells moment image synced seen faults chosen file_at wanted.path wanted.workflow wanted.steps wanted.commands disk disk' held held' result → IsMishap result
    cut_mishap c = behind_mishap wanted.commands result c.cut.middle c.cut.done c.cut.more c.cut.behind

    whole_over : IsGoneThrough tells moment image synced seen faults chosen file_at wanted.path wanted.workflow wanted.steps wanted.commands disk disk' held held' result → IsOver result
    whole_over w = subst IsOver (sym w.whole.status_is) (over_verdict w.whole.driven.verdict)

    pub driven_of : IsOver result → Turned ⊎ Driven
    driven_of over = elim course [
      | inl (safe, not) ↦ absurd (not_begun_not_over not over)
      | inr (inl c) ↦ absurd (not_both result over (inl (cut_mishap c)))
      | inr (inr w) ↦ inr (wanted, is, w)
    ]

    pub cut_of : IsMishap result → Cut ⊎ Before
    cut_of mishap = elim course [
      | inl not ↦ inr (before_begun not)
      | inr (inl c) ↦ inl (wanted, is, c)
      | inr (inr w) ↦ absurd (not_both result (whole_over w) (inl mishap))
    ]

    pub before_of : IsRefusal result → Before
    before_of refusal = elim course [
      | inl not ↦ before_begun not
      | inr (inl c) ↦ absurd (not_mishap result refusal (cut_mishap c))
      | inr (inr w) ↦ absurd (not_both result (whole_over w) (inr refusal))
    ]

-- ---- a session, from how it was begun

module _ {D : Type 0} (tells : Type 0) (moment : D → ℕ) (image : D → ℕ → List ℕ → Type 0) (synced : D → ℕ → Type 0) (seen : D → List ℕ) (faults : D → ℕ) (chosen : D → Option ℕ) (file_at : List ℕ → ℕ)
    (path : List ℕ) (w : Definition) (steps : ℕ) (commands : List Command) (disk disk' : D) (held held' : Option (List ℕ)) (result : KeepStatus) where
  abbrev Course : Type 0
  Course = IsCourse tells moment image synced seen faults chosen file_at path w steps commands disk disk' held held' result

  -- it was begun, and the disk is then what it left
  pub course_begun : (begun left : D) (first : Run) → first ≡ run_from w steps first.history → IsFound tells (seen disk) w steps first.history →
      IsSafe tells moment image synced seen faults chosen file_at disk begun → faults begun ≡ faults disk →
      IsAt tells moment image synced seen faults chosen file_at path begun → chosen left ≡ chosen begun → disk' ≡ left →
      ((left ≡ begun) × IsFirstLine first.history held held' result)
      ⊎ (IsCut first commands (BehindStatus commands result) (kept_line (length first.history)) held held' tells (image left (moment left))
      ⊎ IsWhole first commands (kept_line (length first.history)) result held held' tells (seen left) (image left (moment left))) → Course
  course_begun begun left first is found safe fine at same_file last (inl (same, line)) =
      let back : disk' ≡ begun = last ∙ same in
      inl (
        subst (λ (d : D). IsSafe tells moment image synced seen faults chosen file_at disk d) (sym back) safe,
        inr ((λ more. let e = ap faults back in omega (arith, e, fine, more)), ap chosen back ∙ at, (first.history, found, line)),
      )
  course_begun begun left first is found safe fine at same_file last (inr (inl cut)) = inr (inl (record {
    file = ap chosen last ∙ same_file ∙ at;
    history = first.history;
    found = found;
    cut = subst (λ (r : Run). IsCut r commands (BehindStatus commands result) (kept_line (length first.history)) held held' tells (image disk' (moment disk'))) is
        (subst (λ (d : D). IsCut first commands (BehindStatus commands result) (kept_line (length first.history)) held held' tells (image d (moment d))) (sym last) cut);
  }))
  course_begun begun left first is found safe fine at same_file last (inr (inr whole)) = inr (inr (record {
    file = ap chosen last ∙ same_file ∙ at;
    history = first.history;
    found = found;
    whole = subst (λ (r : Run). IsWhole r commands (kept_line (length first.history)) result held held' tells (seen disk') (image disk' (moment disk'))) is
        (subst (λ (d : D). IsWhole first commands (kept_line (length first.history)) result held held' tells (seen d) (image d (moment d))) (sym last) whole);
  }))
