use Rattle.std.proofs.Common.{◌∷◌, ◌++◌, ◌∙◌, [], List, length, arith, ap, subst}
use Rattle.std.proofs.lemmas.Option.{slice_get_within}
use Rattle.flow_log.specs.Case.{fitted_of}
use Rattle.flow_log.specs.Search.{IsFound}
use Rattle.flow_log.specs.declared.point.Point.{Point}
use Rattle.flow_log.proofs.PointLemmas.{led_first}
use Rattle.flow_log.proofs.FitLemmas.{told_whole, told_spent}
use Rattle.flow_log.proofs.fitting.fit_by.Goals as goal

pub find-requires : goal.find-requires
find-requires g c =
    let is = c.in_ok-push.ensures ∙ ap (λ (l : List (Point g.row.W)). l ++ c.first_point.result ∷ []) c.in_ok-points.ensures in (
      omega arith,
      (
        c.requires.kept.case,
        (
          c.requires.wide,
          (
            c.requires.few,
            (
              c.requires.leaves,
              (
                led_first c.args.case.now c.push.new.self.points.items c.first_point.result is (c.first_point.ensures.leads c.requires.some) c.first_point.ensures.options,
                ap length is,
              ),
            ),
          ),
        ),
      ),
    )

pub list_of-requires : goal.list_of-requires
list_of-requires g c =
    let f = fitted_of c.args.case.now in
    let (p, at, end) = subst (IsFound f c.args.budget c.find.new.self.points.items) c.in-Whole.is c.in_ok-place.ensures.found in
    (omega arith, (slice_get_within c.find.new.self.points.items c.in-Whole.place p at, (f, c.in_ok-place.ensures.led)))

pub returns-in-Whole : goal.returns-in-Whole
returns-in-Whole g c =
    let f = fitted_of c.args.case.now in
    let points = c.find.new.self.points.items in
    let (p, at, end) = subst (IsFound f c.args.budget points) c.in-Whole.is c.in_ok-place.ensures.found in
    let (lists, led) = c.in_ok-place.ensures.led in
    let list = c.in_ok-list_of-in-Whole.field-0.items in
    told_whole c.args.case.now c.requires.kept points lists led list p (led.each c.in-Whole.place p list at (c.in_ok-list_of-in-Whole.ensures lists f led)) end

pub returns-in-Furthest : goal.returns-in-Furthest
returns-in-Furthest g c = c.told_of_furthest.ensures c.args.budget

pub returns : goal.returns
returns g c =
    let f = fitted_of c.args.case.now in
    let points = c.find.new.self.points.items in
    let (lists, led) = c.in_ok-place.ensures.led in
    told_spent c.args.case.now c.requires.kept points lists led c.args.budget (subst (IsFound f c.args.budget points) c.in-Spent.is c.in_ok-place.ensures.found)
