use Rattle.std.proofs.Common.{◌≡◌, ◌<◌, ◌++◌, [], ◌∷◌, slice_get, length, sym, ap, ◌∙◌, subst, rules, arith}
use Rattle.flow_model.specs.Lists.{each_with_each}
use Rattle.flow_goal.specs.Pattern.{IsCounted, Writes, line_of, lines_of, then}
use Rattle.flow_goal.specs.Capped.{capped}
use Rattle.flow_goal.proofs.PatternLemmas.{split, wrote_both, wrote_left, wrote_right}
use Rattle.flow_goal.proofs.Writing.{ok_taken}
use Rattle.flow_goal.proofs.pattern.+write.Goals as goal

pub nonzero_div-number : goal.nonzero_div-number
nonzero_div-number t c =
    (split _ c.in-Both.first.value c.deref.result.now c.args.number c.count-count.result
    (ap lines_of c.in-Both.is ∙ ap (λ p. each_with_each then (lines_of c.in-Both.first.value) (lines_of p)) (sym c.deref.ensures)) c.count-count.ensures c.requires.numbered c.requires.exact).some

pub write-requires : goal.write-requires
write-requires t c =
    let s = split _ c.deref-in-Both.result.now c.deref.result.now c.args.number c.count-count.result
    (ap lines_of c.in-Both.is ∙ (λ i. each_with_each then (lines_of (sym c.deref-in-Both.ensures i)) (lines_of (sym c.deref.ensures i))))
    c.count-count.ensures c.requires.numbered c.requires.exact in
    let k = subst IsCounted c.in-Both.is c.requires.counted in
    (search rules, (subst IsCounted (sym c.deref-in-Both.ensures) k.1, (s.first, s.first_exact)))

pub nonzero_rem-number : goal.nonzero_rem-number
nonzero_rem-number t c =
    (split _ c.in-Both.first.value c.deref.result.now c.args.number c.count-count.result
    (ap lines_of c.in-Both.is ∙ ap (λ p. each_with_each then (lines_of c.in-Both.first.value) (lines_of p)) (sym c.deref.ensures)) c.count-count.ensures c.requires.numbered c.requires.exact).some

pub write-requires-in-Both : goal.write-requires-in-Both
write-requires-in-Both t c =
    let same = c.deref.ensures ∙ sym c.deref-in-Both-2.ensures in
    let s = split _ c.in-Both.first.value c.deref-in-Both-2.result.now c.args.number c.count-count.result
    (ap lines_of c.in-Both.is ∙ ap (λ p. each_with_each then (lines_of c.in-Both.first.value) (lines_of p)) (sym c.deref-in-Both-2.ensures))
    (subst (λ p. c.count-count.result ≡ capped (length (lines_of p))) same c.count-count.ensures) c.requires.numbered c.requires.exact in
    let k = subst IsCounted c.in-Both.is c.requires.counted in
    (search rules, (subst IsCounted (sym c.deref-in-Both-2.ensures) k.2, (s.second, s.second_exact)))

pub returns-in-Fixed : goal.returns-in-Fixed
returns-in-Fixed t c =
    ok_taken c.put_all.result _ _ c.put_all.ensures
    (λ h. subst (λ p. Writes (lines_of p) c.args.number c.args.out.now c.put_all.new.self) (sym c.in-Fixed.is)
    (let below : c.args.number < 1 = subst (λ p. c.args.number < length (lines_of p)) c.in-Fixed.is c.requires.numbered in
    let none : c.args.number ≡ 0 = omega arith in (line_of c.in-Fixed.text, ap (slice_get (line_of c.in-Fixed.text ∷ [])) none, h)))

pub returns-in_ok-write-in-Both : goal.returns-in_ok-write-in-Both
returns-in_ok-write-in-Both t c =
    let same = c.deref.ensures ∙ sym c.deref-in-Both-2.ensures in
    let are = ap lines_of c.in-Both.is ∙ (λ i. each_with_each then (lines_of (sym c.deref-in-Both.ensures i)) (lines_of (sym c.deref-in-Both-2.ensures i))) in
    let s = split _ c.deref-in-Both.result.now c.deref-in-Both-2.result.now c.args.number c.count-count.result are
    (subst (λ p. c.count-count.result ≡ capped (length (lines_of p))) same c.count-count.ensures) c.requires.numbered c.requires.exact in
    ok_taken c.write-in-Both.result _ _ c.write-in-Both.ensures
    (wrote_both _ _ _ c.args.number c.count-count.result c.args.out.now c.write.new.out c.write-in-Both.new.out are s.count_is c.in_ok-write-in-Both.ensures)

pub returns-then-number-count : goal.returns-then-number-count
returns-then-number-count t c =
    ok_taken c.write-then-number-count.result _ _ c.write-then-number-count.ensures
    (wrote_left _ (lines_of c.deref-then-number-count.result.now) (lines_of c.in-Either.right.value) c.args.number c.args.out.now c.write-then-number-count.new.out
    (ap lines_of c.in-Either.is ∙ ap (λ p. lines_of p ++ lines_of c.in-Either.right.value) (sym c.deref-then-number-count.ensures)))

pub returns-else-number-count : goal.returns-else-number-count
returns-else-number-count t c =
    ok_taken c.write-else-number-count.result _ _ c.write-else-number-count.ensures
    (wrote_right _ (lines_of c.deref-in-Either.result.now) (lines_of c.deref-else-number-count.result.now) c.args.number c.count-count-in-Either.result c.args.out.now c.write-else-number-count.new.out
    (ap lines_of c.in-Either.is ∙ (λ i. lines_of (sym c.deref-in-Either.ensures i) ++ lines_of (sym c.deref-else-number-count.ensures i)))
    c.count-count-in-Either.ensures c.requires.exact c.if-number-count.false)
