use Rattle.std.proofs.lemmas.Result.{IfOk-weaker}
use denote.Param.Weighed.{at_most}
use Rattle.std.proofs.Common.{arith, refl, sym, ap, subst, ◌∙◌, map, take}
use Rattle.std.proofs.lemmas.List.{take_all}
use Rattle.flow_form.specs.declared.form.Form.{Form}
use Rattle.flow_form.specs.Form.{shape_of, iso}
use Rattle.flow_form.proofs.Shapes.{shape_of-Nop, shape_of-Test, shape_of-Absent, shape_of-Ins, shape_of-Del, shape_of-Iso, shape_of-Serial, shape_of-Beside, shape_of-Either}
use Rattle.flow_form.proofs.form.Form.TheLaws.{the_size}
use Rattle.std.specs.Result.{IfOk}
use Rattle.flow_expand.specs.Expansion.{becomes_nop, becomes_test, becomes_absent, becomes_ins, becomes_del}
use Rattle.flow_expand.specs.Directory.{decls_of}
use Rattle.flow_expand.specs.Lay.{IsFront, Goes}
use Rattle.flow_expand.proofs.LayLemmas.{goes_plain, goes_iso, laid_more, begins_twice, front_more, list_step}
use Rattle.flow_expand.proofs.lay.+laying.Goals as goal

pub lay-returns-in-Nop-clause-ok : goal.lay-returns-in-Nop-clause-ok
lay-returns-in-Nop-clause-ok t c =
    goes_plain c.put_end.result _ _ _ _ _ _ (shape_of-Nop _ c.in-Nop.is) becomes_nop (λ root put. put _ _ refl) c.put_end.ensures.ok

pub lay-returns-in-Test-clause-ok : goal.lay-returns-in-Test-clause-ok
lay-returns-in-Test-clause-ok t c =
    goes_plain c.put_end-in-Test.result _ _ _ _ _ _ (shape_of-Test _ _ c.in-Test.is) becomes_test (λ root put. put _ _ refl) c.put_end-in-Test.ensures.ok

pub lay-returns-in-Absent-clause-ok : goal.lay-returns-in-Absent-clause-ok
lay-returns-in-Absent-clause-ok t c =
    goes_plain c.put_end-in-Absent.result _ _ _ _ _ _ (shape_of-Absent _ _ c.in-Absent.is) becomes_absent (λ root put. put _ _ refl) c.put_end-in-Absent.ensures.ok

pub lay-returns-in-Ins-clause-ok : goal.lay-returns-in-Ins-clause-ok
lay-returns-in-Ins-clause-ok t c =
    goes_plain c.put_end-in-Ins.result _ _ _ _ _ _ (shape_of-Ins _ _ c.in-Ins.is) becomes_ins (λ root put. put _ _ refl) c.put_end-in-Ins.ensures.ok

pub lay-returns-in-Del-clause-ok : goal.lay-returns-in-Del-clause-ok
lay-returns-in-Del-clause-ok t c =
    goes_plain c.put_end-in-Del.result _ _ _ _ _ _ (shape_of-Del _ _ c.in-Del.is) becomes_del (λ root put. put _ _ refl) c.put_end-in-Del.ensures.ok

pub lay-returns-in_ok-root-in-Iso-clause-ok : goal.lay-returns-in_ok-root-in-Iso-clause-ok
lay-returns-in_ok-root-in-Iso-clause-ok t c =
    let same = shape_of-Iso c.args.form.now c.in-Iso.part c.in-Iso.is ∙ ap (λ (f : Form). iso (shape_of f)) (sym c.deref.ensures) in
    IfOk-weaker c.put_isolated.result _ _
    (λ whole put. goes_iso _ _ _ _ _ c.in_ok-root-in-Iso.root whole same c.in_ok-root-in-Iso.ensures.ok put)
    c.put_isolated.ensures.ok

pub lay_list-loop-place-preserved : goal.lay_list-loop-place-preserved
lay_list-loop-place-preserved t c =
    let decls = decls_of c.args.directory.now in
    let so_far = map shape_of (take c.loop-place.place c.args.forms.now) in
    let grown = begins_twice _ _ _ c.in_ok-next.ensures.grown c.in_ok-lay_next.ensures.grown in
    record {
      grown = begins_twice _ _ _ c.loop-place.invariant.grown grown;
      laid = laid_more c.args.directory.now c.args.laid.now c.loop-place.layout.items c.lay_next.new.layout.items grown c.loop-place.invariant.laid;
      front = list_step decls c.lay_next.new.layout.items c.args.how c.args.forms.now c.loop-place.place c.index-forms-place.result c.in_ok-lay_next.field-0 c.loop-place-test.true c.index-forms-place.is
          (c.in_ok-lay_next.ensures.ok decls so_far (shape_of c.index-forms-place.result)
          (front_more decls c.loop-place.layout.items c.lay.new.layout.items c.args.how so_far c.loop-place.before c.in_ok-next.ensures.grown c.loop-place.invariant.front)
          c.in_ok-next.ensures.ok);
    }

pub lay_list-returns-clause-ok : goal.lay_list-returns-clause-ok
lay_list-returns-clause-ok t c =
    let decls = decls_of c.args.directory.now in
    let front = subst (λ forms. IsFront decls c.loop-place.layout.items c.args.how (map shape_of forms) c.loop-place.before) (take_all c.loop-place.place c.args.forms.now c.loop-place-test.false) c.loop-place.invariant.front in
    IfOk-weaker c.lay_end.result _ _ (λ whole put. put decls (map shape_of c.args.forms.now) front) c.lay_end.ensures.ok

pub lay_list-returns-in_err-next-clause-grown : goal.lay_list-returns-in_err-next-clause-grown
lay_list-returns-in_err-next-clause-grown t c = begins_twice _ _ _ c.loop-place.invariant.grown c.in_err-next.ensures.grown

pub lay_list-returns-in_err-lay_next-clause-grown : goal.lay_list-returns-in_err-lay_next-clause-grown
lay_list-returns-in_err-lay_next-clause-grown t c =
    begins_twice _ _ _ c.loop-place.invariant.grown (begins_twice _ _ _ c.in_ok-next.ensures.grown c.in_err-lay_next.ensures.grown)

pub lay_list-returns-clause-grown : goal.lay_list-returns-clause-grown
lay_list-returns-clause-grown t c = begins_twice _ _ _ c.loop-place.invariant.grown c.lay_end.ensures.grown

pub lay-returns-in_ok-root-in-Iso-clause-grown : goal.lay-returns-in_ok-root-in-Iso-clause-grown
lay-returns-in_ok-root-in-Iso-clause-grown t c = begins_twice _ _ _ c.in_ok-root-in-Iso.ensures.grown c.put_isolated.ensures.grown

pub lay-returns-in-Serial-clause-ok : goal.lay-returns-in-Serial-clause-ok
lay-returns-in-Serial-clause-ok t c =
    let same = shape_of-Serial c.args.form.now c.in-Serial.forms c.deref-in-Serial.result.now c.in-Serial.is c.deref-in-Serial.ensures.value in
    subst (λ s. IfOk c.lay_list.result (Goes (decls_of c.args.directory.now) c.lay_list.new.layout.items s)) (sym same) c.lay_list.ensures.ok

pub lay-returns-in-Beside-clause-ok : goal.lay-returns-in-Beside-clause-ok
lay-returns-in-Beside-clause-ok t c =
    let same = shape_of-Beside c.args.form.now c.in-Beside.forms c.deref-in-Beside.result.now c.in-Beside.is c.deref-in-Beside.ensures.value in
    subst (λ s. IfOk c.lay_list-in-Beside.result (Goes (decls_of c.args.directory.now) c.lay_list-in-Beside.new.layout.items s)) (sym same) c.lay_list-in-Beside.ensures.ok

pub lay-returns-in-Either-clause-ok : goal.lay-returns-in-Either-clause-ok
lay-returns-in-Either-clause-ok t c =
    let same = shape_of-Either c.args.form.now c.in-Either.forms c.deref-in-Either.result.now c.in-Either.is c.deref-in-Either.ensures.value in
    subst (λ s. IfOk c.lay_list-in-Either.result (Goes (decls_of c.args.directory.now) c.lay_list-in-Either.new.layout.items s)) (sym same) c.lay_list-in-Either.ensures.ok

pub lay_list-lay-requires : goal.lay_list-lay-requires
lay_list-lay-requires t c = (
  omega (arith, c.decreases, at_most the_size c.args.forms.now c.loop-place.place c.index-forms-place.result c.loop-place-test.true, ap the_size c.index-forms-place.is),
  (c.member_ready.ensures, c.loop-place.invariant.laid),
)
