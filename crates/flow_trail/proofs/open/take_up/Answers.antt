use Rattle.flow_trail.specs.declared.refusal.OpenRefusal.TheVariants as OpenRefusal
use Rattle.std.proofs.Common.{◌≡◌, Err, ap, List, ℕ, inl, map, take, sym, ◌∙◌, subst}
use Rattle.flow_disk.specs.Disk.{Same}
use Rattle.flow_trail.specs.Lines.{said_of, void, trail_text, Says}
use Rattle.flow_trail.specs.Whole.{HasLines}
use Rattle.flow_trail.specs.Opened.{SaysLike}
use Rattle.flow_trail.proofs.OpenLemmas.{opens_first, opens_then, opens_more, like, front_is}
use Rattle.flow_trail.proofs.open.take_up.Goals as goal

pub returns-in-Err-clause-bad : goal.returns-in-Err-clause-bad
returns-in-Err-clause-bad g c = λ told line e.
    let same : c.in-Err.why ≡ OpenRefusal.BadLine line = cc in
    absurd (c.in-Err.ensures.no_line line (ap Err same))

pub returns-in_default-close_end-clause-opens : goal.returns-in_default-close_end-clause-opens
returns-in_default-close_end-clause-opens g c = λ told line.
    let P = SaysLike c.args.start (void line) (g.D.Disk.seen c.args.disk.now) in
    let one = opens_first g.D.Disk.moment g.D.Disk.image c.args.disk.now c.sync.new.self P (c.in-Ok.ensures.crash told) in
    let two = opens_then g.D.Disk.moment g.D.Disk.image c.args.disk.now c.sync.new.self c.read_all.new.disk P (λ x. x ≡ g.D.Disk.seen c.args.disk.now) Same one (c.in-Ok-read_all.ensures.rests told).passes
    (λ x i. (c.in-Ok.ensures.syncs told).durable x i) (λ d x was same. inl (same ∙ was)) in
    let bytes = c.deref.ensures.value ∙ c.in-Ok-read_all.ensures.bytes told ∙ c.in-Ok.ensures.seen told in
    let says = subst (λ (l : List ℕ). Says c.args.start (map said_of c.in_ok-read.read.lines.items) l) bytes c.in_ok-read.ensures.says in
    let front = front_is c.args.start (map said_of c.in_ok-read.read.lines.items) c.deref.result.now c.in_ok-read.read.place c.in_ok-read.ensures.says c.in_ok-read.ensures.place in
    opens_more g.D.Disk.moment g.D.Disk.image c.args.disk.now c.read_all.new.disk c.close_end.new.disk P (HasLines (take c.in_ok-read.read.place c.deref-2.result.now)) two (c.in_default-close_end.ensures.any_moment told)
    (like c.args.start (void line) (g.D.Disk.seen c.args.disk.now) (map said_of c.in_ok-read.read.lines.items) (take c.in_ok-read.read.place c.deref-2.result.now) says
    (subst (λ (l : List ℕ). take c.in_ok-read.read.place l ≡ trail_text c.args.start (map said_of c.in_ok-read.read.lines.items)) (c.deref.ensures.value ∙ sym c.deref-2.ensures.value) front))

pub returns-clause-opens : goal.returns-clause-opens
returns-clause-opens g c = λ told line.
    let P = SaysLike c.args.start (void line) (g.D.Disk.seen c.args.disk.now) in
    let one = opens_first g.D.Disk.moment g.D.Disk.image c.args.disk.now c.sync.new.self P (c.in-Ok.ensures.crash told) in
    let two = opens_then g.D.Disk.moment g.D.Disk.image c.args.disk.now c.sync.new.self c.read_all.new.disk P (λ x. x ≡ g.D.Disk.seen c.args.disk.now) Same one (c.in-Ok-read_all.ensures.rests told).passes
    (λ x i. (c.in-Ok.ensures.syncs told).durable x i) (λ d x was same. inl (same ∙ was)) in
    let bytes = c.deref.ensures.value ∙ c.in-Ok-read_all.ensures.bytes told ∙ c.in-Ok.ensures.seen told in
    let says = subst (λ (l : List ℕ). Says c.args.start (map said_of c.in_ok-read.read.lines.items) l) bytes c.in_ok-read.ensures.says in
    let front = front_is c.args.start (map said_of c.in_ok-read.read.lines.items) c.deref.result.now c.in_ok-read.read.place c.in_ok-read.ensures.says c.in_ok-read.ensures.place in
    opens_more g.D.Disk.moment g.D.Disk.image c.args.disk.now c.read_all.new.disk c.close_end.new.disk P (HasLines (take c.in_ok-read.read.place c.deref-2.result.now)) two (c.in-Ok-close_end.ensures.any_moment told)
    (like c.args.start (void line) (g.D.Disk.seen c.args.disk.now) (map said_of c.in_ok-read.read.lines.items) (take c.in_ok-read.read.place c.deref-2.result.now) says
    (subst (λ (l : List ℕ). take c.in_ok-read.read.place l ≡ trail_text c.args.start (map said_of c.in_ok-read.read.lines.items)) (c.deref.ensures.value ∙ sym c.deref-2.ensures.value) front))
