use Rattle.std.proofs.Common.{◌≡◌, ◌+◌, ℕ, List, length, take, drop, arith, rules, sym, ap, ◌∙◌, length-drop}
use Rattle.std.proofs.lemmas.List.{drop-drop}
use Rattle.flow_trail.proofs.MomentLemmas.{rests_then}
use Rattle.flow_trail.proofs.FillLemmas.{filled}
use Rattle.flow_trail.proofs.read_all.read_full.Goals as goal

pub loop-count-preserved : goal.loop-count-preserved
loop-count-preserved g c =
    let old = c.args.disk.now in
    let mid = c.loop-count.disk in
    let new = c.read_at.new.self in
    let i = c.loop-count.invariant in
    record {
      same = c.in-Ok.ensures.cause ∙ i.same;
      file = c.in-Ok.ensures.same_file ∙ i.file;
      size = search rules;
      within = search rules;
      rests = λ told. rests_then _ _ _ _ _ _ _ _ _ _ _ _ (i.rests told) (c.in-Ok.ensures.rests told);
      bytes = λ told.
          let seen : g.D.Disk.seen mid ≡ g.D.Disk.seen old = (i.rests told).seen_is in
          let next = (c.in-Ok.ensures.gives told).bytes ∙ ap (λ (l : List ℕ). take c.in-Ok.got (drop (c.args.at + c.loop-count.count) l)) seen
          ∙ ap (λ (l : List ℕ). take c.in-Ok.got l) (sym (drop-drop c.loop-count.count c.args.at (g.D.Disk.seen old))) in
          filled c.loop-count.buf c.read_at.new.buf _ (drop c.args.at (g.D.Disk.seen old)) c.loop-count.count c.in-Ok.got i.within (i.bytes told) c.in-Ok.ensures.fits next;
      there = λ told.
          let seen = ap (λ (l : List ℕ). length l) (i.rests told).seen_is in
          let some = (c.in-Ok.ensures.gives told).there in
          let size = length-drop (c.args.at + c.loop-count.count) (g.D.Disk.seen mid) in
          let all = length-drop c.args.at (g.D.Disk.seen old) in
          let enough = i.there told in
          omega arith;
    }
