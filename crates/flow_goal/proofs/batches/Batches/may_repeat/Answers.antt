use Rattle.std.proofs.Common.{◌≡◌, ◌<◌, ◌/◌, ◌%◌, ◌^◌, ℕ, List, ap, arith, bit_and, false, length, nat_eq, slice_get, subst, sym, ◌∙◌}
use Rattle.std.proofs.lemmas.List.{get_or_read}
use Rattle.flow_goal.proofs.BatchLemmas.{none_of_batch}
use Rattle.flow_goal.proofs.batches.Batches.may_repeat.Goals as goal

pub returns-else-batch-len : goal.returns-else-batch-len
returns-else-batch-len c = λ t whole are unset.
    let self = c.args.self.now in
    let within : c.in-Some.place / 64 < length self.again.items = omega (arith, c.if-batch-len.false, c.len.ensures, self.again.ok.0) in
    let read = get_or_read self.again.items (c.in-Some.place / 64) c.index.result.now within c.index.ensures 0 in
    none_of_batch t whole self are c.args.event c.in-Some.place
    (ap (λ (l : List ℕ). slice_get l c.args.event) (sym c.deref.ensures.value) ∙ sym c.place_of.ensures ∙ c.in-Some.is) within
    (subst (λ (w : ℕ). nat_eq (bit_and (w / 2 ^ (c.in-Some.place % 64)) 1) 1 ≡ false) read unset)
