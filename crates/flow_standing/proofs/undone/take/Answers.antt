use Rattle.std.proofs.Common.{◌≡◌, ◌∷◌, ◌++◌, [], ℕ, Option, Some, None, option_map, take, get_or, filter_map, refl, sym, ap, ◌∙◌, append-nil, append_assoc}
use Rattle.flow_standing.specs.declared.trail.Doing.{Doing}
use Rattle.flow_standing.specs.declared.undone.TakenBack.{TakenBack}
use Rattle.flow_standing.specs.Following.{taken_by}
use Rattle.flow_standing.proofs.Places.{listed}
use Rattle.flow_standing.proofs.Fronts.{element, filter_map_next}
use Rattle.flow_standing.proofs.undone.take.Goals as goal
use Rattle.flow_standing.proofs.undone.take.Goals.{in-Some+in_ok-push, in_default}

pub loop-doing-preserved : goal.loop-doing-preserved
loop-doing-preserved c =
    let k = c.loop-doing.doing-index in
    let cut = c.args.cut.now in
    let none : Doing = record { leaf = 0; claim = None; by = 0; place = 0 } in
    let x : Doing = get_or cut k none in
    let old = c.args.all.now.items in
    let so_far = filter_map (taken_by c.args.rewound) (take k cut) in
    let told : (o : Option ℕ) → x.claim ≡ o →
    taken_by c.args.rewound x ≡ option_map (λ (claim : ℕ). record { leaf = x.leaf; claim = claim; by = x.by; done = x.place; rewound = c.args.rewound }) o =
    λ o e. ap (λ p. option_map (λ (claim : ℕ). record { leaf = x.leaf; claim = claim; by = x.by; done = x.place; rewound = c.args.rewound }) p) e in
    let more = ap (λ l. old ++ l) (sym (filter_map_next (taken_by c.args.rewound) cut k x (element cut cut k none refl c.loop-doing-test.true))) in
    elim c.match-doing.branch [
      | in-Some+in_ok-push w ↦
          let new : TakenBack = record { leaf = x.leaf; claim = w.in-Some.claim; by = x.by; done = x.place; rewound = c.args.rewound } in
          ap (λ v. v.items) w.all-is ∙ w.in_ok-push.ensures.items ∙ ap (λ l. l ++ new ∷ []) c.loop-doing.invariant ∙ append_assoc old so_far (new ∷ [])
          ∙ ap (λ o. old ++ (so_far ++ listed o)) (sym (told (Some w.in-Some.claim) w.in-Some.is)) ∙ more
      | in_default w ↦
          ap (λ v. v.items) w.all-is ∙ c.loop-doing.invariant ∙ ap (λ l. old ++ l) (sym (append-nil so_far))
          ∙ ap (λ o. old ++ (so_far ++ listed o)) (sym (told None w.in_default.is)) ∙ more
    ]
