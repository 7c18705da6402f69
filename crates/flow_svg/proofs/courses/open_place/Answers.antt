use Rattle.std.proofs.Common.{◌≡◌, ◌+◌, ◌-◌, ◌<◌, ◌≤◌, ◌%◌, ℕ, suc, true, false, List, length, refl, sym, ap, subst, ◌∙◌, arith}
use Rattle.flow_view.specs.declared.shape.Place.{Place}
use Rattle.flow_svg.specs.declared.courses.Course.{Course}
use Rattle.flow_svg.specs.declared.courses.End.{End}
use Rattle.flow_svg.specs.Courses.{place_at, is_open, open_from}
use Rattle.flow_svg.proofs.courses.open_place.Goals as goal

found_at : (e : End) (p : Place) (cs : List Course) (n more : ℕ) → is_open (place_at e p n) cs ≡ true → open_from e p cs n (suc more) ≡ place_at e p n
unfolding open_from
found_at e p cs n more h = rw h refl

passed_at : (e : End) (p : Place) (cs : List Course) (n more : ℕ) → is_open (place_at e p n) cs ≡ false → open_from e p cs n (suc more) ≡ open_from e p cs (n + 1) more
unfolding open_from
passed_at e p cs n more h = rw h refl

none_at : (e : End) (p : Place) (cs : List Course) (n : ℕ) → open_from e p cs n 0 ≡ place_at e p (length cs % 8)
unfolding open_from
none_at e p cs n = refl

found : (e : End) (p : Place) (cs : List Course) (n : ℕ) → n < 8 → is_open (place_at e p n) cs ≡ true → open_from e p cs n (8 - n) ≡ place_at e p n
found e p cs n l h =
    let m : suc (7 - n) ≡ 8 - n = omega arith in
    subst (λ k. open_from e p cs n k ≡ place_at e p n) m (found_at e p cs n (7 - n) h)

passed : (e : End) (p : Place) (cs : List Course) (n : ℕ) → n < 8 → is_open (place_at e p n) cs ≡ false →
    open_from e p cs n (8 - n) ≡ open_from e p cs (n + 1) (8 - (n + 1))
passed e p cs n l h =
    let m : 8 - n ≡ suc (7 - n) = omega arith in
    let k : 7 - n ≡ 8 - (n + 1) = omega arith in
    ap (open_from e p cs n) m ∙ passed_at e p cs n (7 - n) h ∙ ap (open_from e p cs (n + 1)) k

none : (e : End) (p : Place) (cs : List Course) (n : ℕ) → 8 ≤ n → open_from e p cs n (8 - n) ≡ place_at e p (length cs % 8)
none e p cs n l =
    let m : 8 - n ≡ 0 = omega arith in
    ap (open_from e p cs n) m ∙ none_at e p cs n

pub returns-then-is_open : goal.returns-then-is_open
returns-then-is_open c =
    let open_there : is_open (place_at c.args.end c.args.place.now c.loop-number.number) c.args.courses.now ≡ true =
    ap (λ x. is_open x c.args.courses.now) (sym c.place_at-x.ensures) ∙ sym c.is_open.ensures ∙ c.if-is_open.true in
    c.place_at-x.ensures
    ∙ sym (c.loop-number.invariant ∙ found c.args.end c.args.place.now c.args.courses.now c.loop-number.number c.loop-number-test.true open_there)

pub loop-number-preserved : goal.loop-number-preserved
loop-number-preserved c =
    let taken : is_open (place_at c.args.end c.args.place.now c.loop-number.number) c.args.courses.now ≡ false =
    ap (λ x. is_open x c.args.courses.now) (sym c.place_at-x.ensures) ∙ sym c.is_open.ensures ∙ c.if-is_open.false in
    c.loop-number.invariant ∙ passed c.args.end c.args.place.now c.args.courses.now c.loop-number.number c.loop-number-test.true taken

pub returns : goal.returns
returns c =
    c.place_at.ensures ∙ sym (c.loop-number.invariant ∙ none c.args.end c.args.place.now c.args.courses.now c.loop-number.number c.loop-number-test.false)
