use Rattle.flow_keep.proofs.SlotLemmas.{head_open, head_body}
use Rattle.std.proofs.Common.{◌∙◌, sym}
use Rattle.flow_keep.proofs.slot.read_slot.Goals as goal

pub returns-in-Some-clause-slot : goal.returns-in-Some-clause-slot
returns-in-Some-clause-slot g c = λ told.
    let bytes = c.read_full.new.buf in
    let read = c.in-Ok.ensures.bytes told in
    let all = c.in-Ok.ensures.all told in (
      head_open bytes _ c.read_full.auto.buf c.in-Ok.count read all c.if-count-lt17.false c.if-bytes-ne1.false,
      c.in-Some.ensures.0,
      c.in-Some.ensures.1 ∙ head_body bytes _ c.read_full.auto.buf c.in-Ok.count read all c.if-count-lt17.false,
    )

pub returns-in-None-clause-slot : goal.returns-in-None-clause-slot
returns-in-None-clause-slot g c = λ told.
    let bytes = c.read_full.new.buf in
    let read = c.in-Ok.ensures.bytes told in
    let all = c.in-Ok.ensures.all told in (
      head_open bytes _ c.read_full.auto.buf c.in-Ok.count read all c.if-count-lt17.false c.if-bytes-ne1.false,
      λ entry small is. c.in-None.ensures entry small (is ∙ sym (head_body bytes _ c.read_full.auto.buf c.in-Ok.count read all c.if-count-lt17.false)),
    )
