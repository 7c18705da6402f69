-- A file whose changes are gone through again, and what a crash may leave of it.
use Rattle.std.proofs.Common.{◌≡◌, ℕ, ◌≤◌, true, nat_le, List, [], ◌∷◌, length, take, drop, replicate, sym, ap, subst, ◌∙◌, arith, length-drop}
use Rattle.std.proofs.lemmas.Bool.{and_parts}
use Rattle.std.proofs.lemmas.Bool.Decides.{nat_tests}
use Rattle.std.proofs.lemmas.List.{length-replicate, length-take-le, take_all, drop-drop}
use Rattle.flow_disk.specs.declared.change.Change.{Change}
use Rattle.flow_disk.specs.declared.change.Change.TheVariants.{Wrote, Tore, Synced}
use Rattle.flow_disk.specs.declared.replay.Replay.{Replay}
use Rattle.flow_disk.specs.Change.{FileState, written, changed, changed_all, state_at, IsImageOf, taken, all_within, filled_state, Replays}
use Rattle.flow_disk.specs.Disk.{Torn}
use Rattle.flow_disk.specs.Replay.{CanStep, Steps}
use Rattle.flow_disk.proofs.ChangeLemmas.{torn_written, length-written, first_state}

-- the replay stands at a state
pub record IsAt (pool : List ℕ) (fill : ℕ) (s : FileState) (replay : Replay) : Type 0 where
  pub seen_is : replay.seen.items ≡ s.seen
  pub left_is : replay.left.items ≡ filled_state fill s
  pub rest_is : drop replay.taken pool ≡ s.rest
  pub image : IsImageOf s replay.left.items
  pub longer : length replay.seen.items ≤ length replay.left.items
  pub fits : replay.taken ≤ length pool

-- the changes that are left lead from the state to the last one
pub record Remains (s : FileState) (changes : List Change) (last : FileState) : Type 0 where
  pub leads : changed_all s changes ≡ last
  pub within : all_within s changes ≡ true
  pub enough : taken changes ≤ length s.rest

-- some state at which the replay stands, with these changes left
abbrev pub Stands : List ℕ → ℕ → List Change → FileState → Replay → Type 0
Stands pool fill changes last replay = (s : FileState) × IsAt pool fill s replay × Remains s changes last

pub stands_first : (first pool shown : List ℕ) (log : List Change) (fill : ℕ) (replay : Replay) → Replays first pool log shown →
    replay.seen.items ≡ first → replay.left.items ≡ first → replay.taken ≡ 0 → Stands pool fill log (state_at first pool log (length log)) replay
stands_first first pool shown log fill replay replays seen left taken = (
  first_state first pool,
  record {
    seen_is = seen;
    left_is = left;
    rest_is = ap (λ n. drop n pool) taken;
    image = left;
    longer = omega (arith, ap length seen, ap length left);
    fits = omega (arith, taken);
  },
  record {
    leads = ap (λ (l : List Change). changed_all (first_state first pool) l) (sym (take_all (length log) log (omega arith)));
    within = replays.within;
    enough = omega (arith, replays.pooled);
  },
)

pub can_step : (pool : List ℕ) (fill : ℕ) (change : Change) (changes : List Change) (last : FileState) (replay : Replay) → Stands pool fill (change ∷ changes) last replay → CanStep pool replay change
can_step pool fill (Wrote at count) changes last replay (s, stands, remains) =
    let parts = and_parts (nat_le at (length s.seen)) (all_within (changed s (Wrote at count)) changes) remains.within in
    let there : at ≤ length s.seen = grind (arith, nat_tests, parts.0) in
    let seen : at ≤ length replay.seen.items = omega (arith, there, ap length stands.seen_is) in
    (seen, omega (arith, seen, stands.longer), omega (arith, remains.enough, ap length stands.rest_is, length-drop replay.taken pool, stands.fits))
can_step pool fill (Tore at count) changes last replay (s, stands, remains) =
    let parts = and_parts (nat_le at (length s.seen)) (all_within (changed s (Tore at count)) changes) remains.within in
    let there : at ≤ length s.seen = grind (arith, nat_tests, parts.0) in
    omega (arith, there, ap length stands.seen_is, stands.longer)
can_step pool fill Synced changes last replay stands = tt

pub steps : (pool : List ℕ) (fill : ℕ) (change : Change) (changes : List Change) (last : FileState) (old new : Replay) → Stands pool fill (change ∷ changes) last old → Steps pool fill old change new → Stands pool fill changes last new
steps pool fill (Wrote at count) changes last old new (s, stands, remains) to =
    let parts = and_parts (nat_le at (length s.seen)) (all_within (changed s (Wrote at count)) changes) remains.within in
    let there : at ≤ length s.seen = grind (arith, nat_tests, parts.0) in
    let within : at ≤ length old.left.items = omega (arith, there, ap length stands.seen_is, stands.longer) in
    let bytes = replicate count fill in
    let read : take count (drop old.taken pool) ≡ take count s.rest = ap (take count) stands.rest_is in
    let seen : new.seen.items ≡ written s.seen at (take count s.rest) = to.seen_is ∙ (λ i. written (stands.seen_is i) at (read i)) in
    let size : length (take count s.rest) ≡ count = length-take-le count s.rest (omega (arith, remains.enough)) in
    let long = length-written s.seen at (take count s.rest) there in
    let wide = length-written old.left.items at bytes within in (
      changed s (Wrote at count),
      record {
        seen_is = seen;
        left_is = to.left_is ∙ ap (λ l. written l at bytes) stands.left_is;
        rest_is = ap (λ n. drop n pool) to.taken_is ∙ sym (drop-drop count old.taken pool) ∙ ap (drop count) stands.rest_is;
        image = (old.left.items, stands.image, subst (Torn at count old.left.items) (sym to.left_is) (torn_written at count old.left.items bytes within (length-replicate count fill)));
        longer = omega (arith, ap length seen, ap length to.left_is, long, wide, size, length-replicate count fill, stands.longer, ap length stands.seen_is);
        fits = omega (arith, to.taken_is, remains.enough, ap length stands.rest_is, length-drop old.taken pool, stands.fits);
      },
      record {
        leads = remains.leads;
        within = parts.1;
        enough = omega (arith, remains.enough, length-drop count s.rest);
      },
    )
steps pool fill (Tore at count) changes last old new (s, stands, remains) to =
    let parts = and_parts (nat_le at (length s.seen)) (all_within (changed s (Tore at count)) changes) remains.within in
    let there : at ≤ length s.seen = grind (arith, nat_tests, parts.0) in
    let within : at ≤ length old.left.items = omega (arith, there, ap length stands.seen_is, stands.longer) in
    let bytes = replicate count fill in
    let wide = length-written old.left.items at bytes within in (
      changed s (Tore at count),
      record {
        seen_is = to.seen_is ∙ stands.seen_is;
        left_is = to.left_is ∙ ap (λ l. written l at bytes) stands.left_is;
        rest_is = ap (λ n. drop n pool) to.taken_is ∙ stands.rest_is;
        image = (old.left.items, stands.image, subst (Torn at count old.left.items) (sym to.left_is) (torn_written at count old.left.items bytes within (length-replicate count fill)));
        longer = omega (arith, ap length to.seen_is, ap length to.left_is, wide, stands.longer);
        fits = omega (arith, to.taken_is, stands.fits);
      },
      record { leads = remains.leads; within = parts.1; enough = remains.enough },
    )
steps pool fill Synced changes last old new (s, stands, remains) to = (
  changed s Synced,
  record {
    seen_is = to.seen_is ∙ stands.seen_is;
    left_is = to.left_is ∙ stands.seen_is;
    rest_is = ap (λ n. drop n pool) to.taken_is ∙ stands.rest_is;
    image = to.left_is ∙ stands.seen_is;
    longer = omega (arith, ap length to.seen_is, ap length to.left_is);
    fits = omega (arith, to.taken_is, stands.fits);
  },
  record { leads = remains.leads; within = remains.within; enough = remains.enough },
)

-- with no change left the replay stands at the last state
pub stands_last : (pool : List ℕ) (fill : ℕ) (last : FileState) (replay : Replay) → Stands pool fill [] last replay → (replay.left.items ≡ filled_state fill last) × IsImageOf last replay.left.items
stands_last pool fill last replay (s, stands, remains) = (
  stands.left_is ∙ ap (filled_state fill) remains.leads,
  subst (λ (u : FileState). IsImageOf u replay.left.items) remains.leads stands.image,
)
