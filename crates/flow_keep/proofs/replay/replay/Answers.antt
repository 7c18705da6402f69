use Rattle.std.proofs.Common.{◌≡◌, ◌*◌, ◌+◌, ◌≤◌, ◌++◌, ◌∷◌, [], List, map, length, drop, sym, ap, subst, ◌∙◌, arith, true≢false}
use Rattle.std.proofs.lemmas.List.{length_push}
use Rattle.flow_model.specs.declared.history.Entry.{Entry}
use Rattle.flow_model.specs.Run.{first_state, IsLegal}
use Rattle.flow_model.specs.Lists.{Each}
use Rattle.flow_model.proofs.Lists.{each-append}
use Rattle.flow_record.specs.History.{IsSmall}
use Rattle.flow_core.specs.Run.{Run, schema}
use Rattle.flow_keep.specs.Records.{body_of, records}
use Rattle.flow_keep.specs.Slot.{HoldsSmall}
use Rattle.flow_laws.proofs.SoundStates.{legal_length}
use Rattle.flow_keep.proofs.EntryLemmas.{same_entry}
use Rattle.flow_keep.proofs.MomentLemmas.{rests_then}
use Rattle.flow_keep.proofs.SlotLemmas.{same_slot, kept_all, kept_more, foreign_at, none_left}
use Rattle.flow_keep.proofs.replay.replay.Goals as goal

pub unreachable-requires : goal.unreachable-requires
unreachable-requires g c =
    let r = c.loop-index.core in
    let within : 0 + length r.history ≤ r.limit = legal_length (schema r) r.limit first_state 0 r.history (c.history-2.ensures.lawful).legal (omega arith) in
    let past = c.loop-index-test.false in
    let counted = c.loop-index.invariant.counted in
    let same = c.loop-index.invariant.limit in
    let a = c.from-limit.ensures in
    let b = c.limit.ensures in
    omega arith

pub returns-in-Shut-clause-all : goal.returns-in-Shut-clause-all
returns-in-Shut-clause-all g c = λ told.
    let i = c.loop-index.invariant in
    let file = g.D.Disk.seen c.args.disk.now in
    let k = c.loop-index.index in
    let shut = same_slot (g.D.Disk.seen c.loop-index.disk) file (16 * k) _ _ (i.rests told).seen_is c.in-Shut.is (c.in-Ok.ensures.slot told) in
    none_left c.loop-index.core c.args.core.now file i.small (c.history.ensures.lawful).legal i.definition i.limit
    (kept_all file k c.loop-index.core.history (i.so_far told) shut)

pub returns-in-Unreadable-clause-foreign : goal.returns-in-Unreadable-clause-foreign
returns-in-Unreadable-clause-foreign g c = λ told.
    let i = c.loop-index.invariant in
    let file = g.D.Disk.seen c.args.disk.now in
    let k = c.loop-index.index in
    let here = same_slot (g.D.Disk.seen c.loop-index.disk) file (16 * k) _ _ (i.rests told).seen_is c.in-Unreadable.is (c.in-Ok.ensures.slot told) in
    foreign_at c.loop-index.core c.args.core.now file k i.small (c.history.ensures.lawful).legal i.definition i.limit i.counted (i.so_far told) here.0
    (λ entry small is legal. here.1 entry small is)

pub returns-then-not-make-clause-foreign : goal.returns-then-not-make-clause-foreign
returns-then-not-make-clause-foreign g c = λ told.
    let i = c.loop-index.invariant in
    let r = c.loop-index.core in
    let file = g.D.Disk.seen c.args.disk.now in
    let k = c.loop-index.index in
    let here = same_slot (g.D.Disk.seen c.loop-index.disk) file (16 * k) _ _ (i.rests told).seen_is c.in-Holds.is (c.in-Ok.ensures.slot told) in
    foreign_at r c.args.core.now file k i.small (c.history.ensures.lawful).legal i.definition i.limit i.counted (i.so_far told) here.0
    (λ entry small is legal.
    let one : entry ≡ c.in-Holds.entry = same_entry entry c.in-Holds.entry small here.1 (is ∙ sym here.2) in
    let yes = c.make.ensures.legal.1 (subst (λ (e : Entry). IsLegal (schema r) r.limit (r.history ++ e ∷ [])) one legal) in
    true≢false (sym yes ∙ c.if-not-make.true))

pub loop-index-preserved : goal.loop-index-preserved
loop-index-preserved g c =
    let i = c.loop-index.invariant in
    let made = c.make.ensures.made c.if-not-make.false in
    let longer = ap (λ (r : Run). r.history) made in
    let entry = c.in-Holds.entry in
    let small : IsSmall entry = subst HoldsSmall c.in-Holds.is c.in-Ok.ensures.small in
    record {
      same = c.in-Ok.ensures.cause ∙ i.same;
      file = c.in-Ok.ensures.same_file ∙ i.file;
      definition = ap (λ (r : Run). r.definition) made ∙ i.definition;
      limit = ap (λ (r : Run). r.limit) made ∙ i.limit;
      small = subst (Each IsSmall) (sym longer) (each-append IsSmall c.loop-index.core.history (entry ∷ []) i.small (small, tt));
      counted = ap (λ (l : List Entry). length l) longer ∙ length_push c.loop-index.core.history entry ∙ ap (λ n. n + 1) i.counted;
      rests = λ told. rests_then _ _ _ _ _ _ _ _ _ _ _ _ (i.rests told) (c.in-Ok.ensures.rests told);
      so_far = λ told.
          let file = g.D.Disk.seen c.args.disk.now in
          let k = c.loop-index.index in
          let here = same_slot (g.D.Disk.seen c.loop-index.disk) file (16 * k) _ _ (i.rests told).seen_is c.in-Holds.is (c.in-Ok.ensures.slot told) in
          kept_more file k c.loop-index.core.history entry (i.so_far told) i.counted here.0 here.2
          ∙ ap (λ (l : List Entry). map body_of l ++ records (drop (16 * (k + 1)) file)) (sym longer);
    }
