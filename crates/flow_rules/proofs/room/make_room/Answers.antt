use Rattle.std.proofs.Common.{◌≡◌, ◌++◌, ◌<◌, ◌≤◌, ◌∙◌, ℕ, zero, suc, List, [], ◌∷◌, length, take, get_or, replicate, refl, ap, arith}
use Rattle.std.proofs.lemmas.List.{take_all}
use Rattle.flow_rules.proofs.room.make_room.Goals as goal

blanks : {A : Type 0} (k q : ℕ) (blank : A) → get_or (replicate k blank) q blank ≡ blank
blanks zero q blank = refl
blanks (suc k) zero blank = refl
blanks (suc k) (suc q) blank = blanks k q blank

-- blanks at the end are what stands past the end
blank_more : {A : Type 0} (old : List A) (k q : ℕ) (blank : A) → get_or (old ++ replicate k blank) q blank ≡ get_or old q blank
blank_more [] k q blank = blanks k q blank
blank_more (x ∷ old) k zero blank = refl
blank_more (x ∷ old) k (suc q) blank = blank_more old k q blank

resized : {A : Type 0} (old new : List A) (size room k : ℕ) (blank : A) → size ≡ length old → size < room → new ≡ take room old ++ replicate k blank →
    (q : ℕ) → get_or new q blank ≡ get_or old q blank
resized old new size room k blank is more made q =
    let fits : length old ≤ room = omega arith in
    ap (λ list. get_or list q blank) (made ∙ ap (λ list. list ++ replicate k blank) (take_all room old fits)) ∙ blank_more old k q blank

pub returns-in_ok-resize-clause-same : goal.returns-in_ok-resize-clause-same
returns-in_ok-resize-clause-same g c =
    resized c.args.table.now.items c.resize.new.self.items c.len.result c.args.room _ c.args.blank (c.len.ensures ∙ c.args.table.now.ok.0) c.if-len-room.true
    c.in_ok-resize.ensures.items
