use Rattle.std.proofs.lemmas.List.{reverse-append}
use Rattle.std.proofs.Common.{rules, ◌<◌, ◌+◌, ◌∙◌, ◌∷◌, ℕ, List, [], get_or, reverse, take, ap, subst, sym, inl, inr, refl, ⊎_elim, true≢false}
use Rattle.flow_model.specs.Lists.{◌∈◌}
use Rattle.flow_sample.specs.Rows.{has_inside}
use Rattle.flow_sample.proofs.RingLemmas.{ring_at}
use Rattle.flow_sample.proofs.OrderLemmas.{begun_path, no_top, top_of, rest_of, grown, path_on, path_back, fewer_on, fewer_back, start_on, holds_on, is_within, row_at, leaves_of_one, leaves_more, leaves_less, came_back, goes_on, AreLeavesOn, IsPath, steps}
use Rattle.flow_sample.proofs.order.put_in_order.Goals as goal

pub blocker-requires : goal.blocker-requires
blocker-requires g c =
    let t = top_of c.loop-top.path.items c.deref.result.now c.in-Some.top (_) c.copied.result c.deref.ensures.value c.last.ensures.value c.copied.ensures c.in-Some.is in
    let wide = c.requires.wide in (
      search rules,
      (
        search rules,
        (
          wide,
          (
            c.requires.apart,
            (
              c.loop-top.invariant.path.within c.in-Some.top (subst (λ (z : List ℕ). c.in-Some.top ∈ z) (sym t.1) (inl refl)),
              λ x left. let r = (c.loop-top.invariant.arranged.rest x).0 left in (r.0, r.1),
            ),
          ),
        ),
      ),
    )

pub take_out-requires : goal.take_out-requires
take_out-requires g c =
    let t = top_of c.loop-top.path.items c.deref.result.now c.in-Some.top (_) c.copied.result c.deref.ensures.value c.last.ensures.value c.copied.ensures c.in-Some.is in
    let wide = c.requires.wide in (search rules, (search rules, c.loop-top.invariant.path.within c.in-Some.top (subst (λ (z : List ℕ). c.in-Some.top ∈ z) (sym t.1) (inl refl))))

pub take_out-requires-in-None : goal.take_out-requires-in-None
take_out-requires-in-None g c =
    let t = top_of c.loop-top.path.items c.deref.result.now c.in-Some.top (_) c.copied.result c.deref.ensures.value c.last.ensures.value c.copied.ensures c.in-Some.is in
    let wide = c.requires.wide in (search rules, (search rules, c.loop-top.invariant.path.within c.in-Some.top (subst (λ (z : List ℕ). c.in-Some.top ∈ z) (sym t.1) (inl refl))))

pub loop-top-smaller-in-None : goal.loop-top-smaller-in-None
loop-top-smaller-in-None g c =
    let i = c.loop-top.invariant in
    let t = top_of c.loop-top.path.items c.deref.result.now c.in-Some.top (_) c.copied.result c.deref.ensures.value c.last.ensures.value c.copied.ensures c.in-Some.is in
    let here = subst (λ (z : List ℕ). c.in-Some.top ∈ z) (sym t.1) (inl refl) in
    let more = grown c.args.items.now c.requires.apart c.loop-top.left c.take_out.new.set c.loop-top.order.items c.push.new.self.items c.in-Some.top i.arranged
    (i.path.within c.in-Some.top here) (i.path.fresh c.in-Some.top here) c.in-None.ensures c.take_out.ensures c.in_ok-push-in-None.ensures.items in
    subst (λ (z : List ℕ). steps c.args.items.now c.push.new.self.items z < steps c.args.items.now c.loop-top.order.items (reverse c.loop-top.path.items))
    (sym (rest_of c.loop-top.path.items c.pop.new.self.items c.in-Some.top (_) t.0 t.1 c.loop-top.path.ok.0 c.pop.ensures.rest))
    (fewer_back c.args.items.now c.requires.apart c.take_out.new.set c.loop-top.order.items c.push.new.self.items (reverse c.loop-top.path.items) c.in-Some.top t.0 t.1 i.path
    c.in_ok-push-in-None.ensures.items more)

pub loop-top-preserved-in-None : goal.loop-top-preserved-in-None
loop-top-preserved-in-None g c =
    let i = c.loop-top.invariant in
    let t = top_of c.loop-top.path.items c.deref.result.now c.in-Some.top (_) c.copied.result c.deref.ensures.value c.last.ensures.value c.copied.ensures c.in-Some.is in
    let here = subst (λ (z : List ℕ). c.in-Some.top ∈ z) (sym t.1) (inl refl) in
    let rest = rest_of c.loop-top.path.items c.pop.new.self.items c.in-Some.top (_) t.0 t.1 c.loop-top.path.ok.0 c.pop.ensures.rest in
    record {
      arranged = grown c.args.items.now c.requires.apart c.loop-top.left c.take_out.new.set c.loop-top.order.items c.push.new.self.items c.in-Some.top i.arranged
          (i.path.within c.in-Some.top here) (i.path.fresh c.in-Some.top here) c.in-None.ensures c.take_out.ensures c.in_ok-push-in-None.ensures.items;
      path = subst (IsPath c.args.items.now c.push.new.self.items) (sym rest)
          (path_back c.args.items.now c.requires.apart c.loop-top.order.items c.push.new.self.items (reverse c.loop-top.path.items) c.in-Some.top t.0 t.1 i.path
          c.in_ok-push-in-None.ensures.items);
      leaves = subst (AreLeavesOn c.args.items.now c.take_out-in-None.new.set) (sym rest)
          (leaves_less c.args.items.now c.requires.apart c.loop-top.on_path (reverse c.loop-top.path.items) i.leaves c.take_out-in-None.new.set c.in-Some.top t.0 t.1 i.path.distinct c.take_out-in-None.ensures);
      start = ⊎_elim inl (λ m. inr (subst (λ (z : List ℕ). c.args.start ∈ z) (sym rest) m))
          (start_on c.args.start c.loop-top.order.items c.push.new.self.items (reverse c.loop-top.path.items) c.in-Some.top t.0 t.1 c.in_ok-push-in-None.ensures.items i.start);
      kept = holds_on c.args.order.now.items c.loop-top.order.items c.push.new.self.items c.in-Some.top c.in_ok-push-in-None.ensures.items i.kept;
    }

pub put_in-requires : goal.put_in-requires
put_in-requires g c = let wide = c.requires.wide in (search rules, (search rules, is_within c.args.items.now c.in-Some-blocker.next c.in-Some-blocker.ensures.0 c.in-Some-blocker.ensures.1))

pub place_in_path-place-requires : goal.place_in_path-place-requires
place_in_path-place-requires g c =
    let next = c.in-Some-blocker.next in
    let b = c.in-Some-blocker.ensures in
    let m = c.meets.ensures.0 c.if-meets.true in
    let row = row_at has_inside c.args.items.now next c.index-items-next.result (is_within c.args.items.now next b.0 b.1) m.0 in
    subst (λ (z : List ℕ). next ∈ z) (sym (c.deref-then-meets.ensures.value ∙ c.reverse.ensures.items))
    (came_back c.args.items.now c.requires.apart c.loop-top.on_path (reverse c.loop-top.path.items) c.loop-top.invariant.leaves next m.0 (row ∙ m.1) m.2)

pub refusal_of-requires : goal.refusal_of-requires
refusal_of-requires g c =
    let i = c.loop-top.invariant in
    let t = top_of c.loop-top.path.items c.deref.result.now c.in-Some.top (_) c.copied.result c.deref.ensures.value c.last.ensures.value c.copied.ensures c.in-Some.is in
    let b = c.in-Some-blocker.ensures in
    let place = c.place_in_path-place.result in
    let wide = c.requires.wide in (
      search rules,
      (
        wide,
        ring_at c.args.items.now (reverse c.loop-top.path.items) c.deref-then-meets.result.now (take (place + 1) c.deref-then-meets-2.result.now) c.in-Some.top t.0 place c.in-Some-blocker.next
            t.1 i.path.distinct i.path.trail (c.deref-then-meets.ensures.value ∙ c.reverse.ensures.items) c.place_in_path-place.ensures.within c.place_in_path-place.ensures.there
            (b.0, b.1, b.2) (ap (take (place + 1)) (c.deref-then-meets-2.ensures.value ∙ c.reverse.ensures.items)),
      ),
    )

pub loop-top-smaller : goal.loop-top-smaller
loop-top-smaller g c =
    let i = c.loop-top.invariant in
    let next = c.in-Some-blocker.next in
    let b = c.in-Some-blocker.ensures in
    let t = top_of c.loop-top.path.items c.deref.result.now c.in-Some.top (_) c.copied.result c.deref.ensures.value c.last.ensures.value c.copied.ensures c.in-Some.is in
    let within = is_within c.args.items.now next b.0 b.1 in
    let fresh = goes_on c.args.items.now c.requires.apart c.loop-top.on_path (reverse c.loop-top.path.items) i.leaves next within
    (λ x inside here. true≢false (sym (c.meets.ensures.1 (x, sym (row_at has_inside c.args.items.now next c.index-items-next.result within x) ∙ inside, here)) ∙ c.if-meets.false)) in
    let new = ap reverse c.in_ok-push-in-Some-blocker.ensures.items ∙ reverse-append c.loop-top.path.items (next ∷ []) in
    fewer_on c.args.items.now c.requires.apart c.loop-top.order.items (reverse c.loop-top.path.items) (reverse c.push-in-Some-blocker.new.self.items) next
    (path_on c.args.items.now c.requires.apart c.loop-top.left c.loop-top.order.items (reverse c.loop-top.path.items) (reverse c.push-in-Some-blocker.new.self.items) c.in-Some.top next t.0 t.1
    i.arranged i.path b fresh new)
    new

pub loop-top-preserved : goal.loop-top-preserved
loop-top-preserved g c =
    let i = c.loop-top.invariant in
    let next = c.in-Some-blocker.next in
    let b = c.in-Some-blocker.ensures in
    let t = top_of c.loop-top.path.items c.deref.result.now c.in-Some.top (_) c.copied.result c.deref.ensures.value c.last.ensures.value c.copied.ensures c.in-Some.is in
    let within = is_within c.args.items.now next b.0 b.1 in
    let fresh = goes_on c.args.items.now c.requires.apart c.loop-top.on_path (reverse c.loop-top.path.items) i.leaves next within
    (λ x inside here. true≢false (sym (c.meets.ensures.1 (x, sym (row_at has_inside c.args.items.now next c.index-items-next.result within x) ∙ inside, here)) ∙ c.if-meets.false)) in
    let new = ap reverse c.in_ok-push-in-Some-blocker.ensures.items ∙ reverse-append c.loop-top.path.items (next ∷ []) in
    record {
      arranged = i.arranged;
      path = path_on c.args.items.now c.requires.apart c.loop-top.left c.loop-top.order.items (reverse c.loop-top.path.items) (reverse c.push-in-Some-blocker.new.self.items) c.in-Some.top next t.0 t.1
          i.arranged i.path b fresh new;
      leaves = leaves_more c.args.items.now c.loop-top.on_path c.put_in.new.set next (reverse c.loop-top.path.items) (reverse c.push-in-Some-blocker.new.self.items) new c.put_in.ensures i.leaves;
      start = ⊎_elim inl (λ m. inr (subst (λ (z : List ℕ). c.args.start ∈ z) (sym {A = List ℕ} new) (inr m))) i.start;
      kept = i.kept;
    }

pub loop-top-init : goal.loop-top-init
loop-top-init g c =
    let path = ap reverse c.in_ok-path.ensures.items in
    record {
      arranged = c.requires.arranged;
      path = begun_path c.args.items.now c.args.order.now.items (reverse c.in_ok-path.path.items) c.args.start path c.requires.there c.requires.fresh;
      leaves = leaves_of_one c.args.items.now (get_or c.args.items.now c.args.start c.index-items-start.result).inside c.args.start (reverse c.in_ok-path.path.items) path
          (row_at has_inside c.args.items.now c.args.start c.index-items-start.result c.requires.there);
      start = inr (subst (λ (z : List ℕ). c.args.start ∈ z) (sym {A = List ℕ} path) (inl refl));
      kept = λ m member. member;
    }

pub returns : goal.returns
returns g c =
    let i = c.loop-top.invariant in
    let none = no_top c.loop-top.path.items c.deref.result.now (_) c.copied.result c.deref.ensures.value c.last.ensures.value c.copied.ensures c.in_default.is in (
      i.arranged,
      record { here = ⊎_elim (λ m. m) (λ m. absurd (subst (λ (z : List ℕ). c.args.start ∈ z) none m)) i.start; kept = i.kept },
    )
