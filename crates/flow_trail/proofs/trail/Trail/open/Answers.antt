use Rattle.std.proofs.Common.{◌≡◌, ◌-◌, Err, inr, List, map, refl, ap, sym, ◌∙◌, subst, arith}
use Rattle.std.specs.String.{string_bytes}
use Rattle.flow_trail.specs.Lines.{Said, said_of, void, end_of}
use Rattle.flow_trail.specs.Kept.{SaysEither}
use Rattle.flow_trail.specs.Opened.{SaysLike, Opens}
use Rattle.flow_trail.proofs.OpenLemmas.{opens_more}
use Rattle.flow_trail.specs.declared.line.TrailEnd.{TrailEnd}
use Rattle.flow_trail.proofs.ReadLemmas.{end_append}
use Rattle.flow_trail.proofs.TellLemmas.{held_says}
use Rattle.flow_trail.proofs.trail.Trail.open.Goals as goal

pub returns-in-Err-clause-other_count : goal.returns-in-Err-clause-other_count
returns-in-Err-clause-other_count g c = λ told number is. absurd (c.in-Err.ensures.no_count number (ap Err is))

pub returns-in-Err-clause-refused : goal.returns-in-Err-clause-refused
returns-in-Err-clause-refused g c = λ told. c.in-Err.ensures.opens told (string_bytes c.args.at)

pub returns-then-end-count-clause-durable : goal.returns-then-end-count-clause-durable
returns-then-end-count-clause-durable g c = λ told file i.
    held_says c.args.start (map said_of c.in-Ok.read.lines.items) c.in-Ok.read.place (g.D.Disk.seen c.take_up.new.disk) (g.D.Disk.image c.take_up.new.disk (g.D.Disk.moment c.take_up.new.disk))
    c.in-Ok.ensures.in_order (c.in-Ok.ensures.held told) file i

pub returns-then-end-count-clause-opens : goal.returns-then-end-count-clause-opens
returns-then-end-count-clause-opens g c = λ told. c.in-Ok.ensures.opens told (string_bytes c.args.at)

pub returns-in-Ok-tell-clause-opens : goal.returns-in-Ok-tell-clause-opens
returns-in-Ok-tell-clause-opens g c = λ told.
    let line = string_bytes c.args.at in
    let before : List Said = map said_of c.in-Ok.read.lines.items in
    opens_more g.D.Disk.moment g.D.Disk.image c.args.disk c.take_up.new.disk _ (SaysLike c.args.start (void line) (g.D.Disk.seen c.args.disk)) (SaysEither c.args.start before (void line))
    (c.in-Ok.ensures.opens told line) (c.in-Ok-tell.ensures.any_moment told refl) (λ x either. inr (before, c.in-Ok.ensures.says told, either))

pub returns-then-not-end-clause-refused : goal.returns-then-not-end-clause-refused
returns-then-not-end-clause-refused g c = λ told.
    let line = string_bytes c.args.at in
    subst (λ d. Opens g.D.Disk.moment g.D.Disk.image c.args.disk d (SaysLike c.args.start (void line) (g.D.Disk.seen c.args.disk))) (sym c.into_disk.ensures) (c.in-Ok.ensures.opens told line)

pub returns-in-Err-tell-clause-refused : goal.returns-in-Err-tell-clause-refused
returns-in-Err-tell-clause-refused g c = λ told.
    let line = string_bytes c.args.at in
    let before : List Said = map said_of c.in-Ok.read.lines.items in
    subst (λ d. Opens g.D.Disk.moment g.D.Disk.image c.args.disk d (SaysLike c.args.start (void line) (g.D.Disk.seen c.args.disk))) (sym c.into_disk-in-Err-tell.ensures)
    (opens_more g.D.Disk.moment g.D.Disk.image c.args.disk c.take_up.new.disk _ (SaysLike c.args.start (void line) (g.D.Disk.seen c.args.disk)) (SaysEither c.args.start before (void line))
    (c.in-Ok.ensures.opens told line) (c.in-Err-tell.ensures.any_moment told refl) (λ x either. inr (before, c.in-Ok.ensures.says told, either)))

pub returns-in-Ok-tell-clause-count : goal.returns-in-Ok-tell-clause-count
returns-in-Ok-tell-clause-count g c =
    let line = string_bytes c.args.at in
    let before : List Said = map said_of c.in-Ok.read.lines.items in
    let now : c.in-Ok.read.end.count ≡ (end_of c.args.start before).count = ap (λ (e : TrailEnd). e.count) c.in-Ok.ensures.end in
    let last : (end_of c.args.start before).count - 1 ≡ c.args.count = omega arith in
    ap (λ (l : List Said). (end_of c.args.start l).count) c.in-Ok-tell.ensures.told ∙ ap (λ (e : TrailEnd). e.count) (end_append (void line) c.args.start before) ∙ last
