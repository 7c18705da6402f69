-- Names that are noted one after another: spellings of events, and activities of the rows of a map.
use Rattle.std.proofs.Common.{◌≡◌, ◌⊎◌, ◌<◌, ◌≤◌, ◌+◌, ◌++◌, ◌∷◌, [], ℕ, Bool, List, length, Option, Some, None, slice_get, inl, inr, refl, sym, ap, subst, ◌∙◌, length-append, arith, false}
use Rattle.std.specs.List.{Contains}
use Rattle.std.specs.Prelude.{IfSome, IfNone, ◌==◌}
use Rattle.flow_log_cli.specs.Maps.{AreGoodRows, IsGoodRow}
use Rattle.std.proofs.lemmas.Option.{slice_get_within}
use Rattle.std.proofs.lemmas.List.Elements.{Contains-append_left, Contains-push}
use Rattle.csv.specs.Records.{field_at}
use Rattle.flow_event_log.specs.Spelling.{spelling}
use Rattle.flow_event_log.proofs.ReachedLemmas.{get_before, get_last}
use Rattle.flow_log_cli.proofs.Places.{at_one_more, some_same}
use Rattle.flow_log_cli.specs.Activities.{IsFirstSpelled, IsMapped, Maps, Says, Spells}
use Rattle.flow_log_cli.specs.Noted.{AreMapped, AreSpelled, HasNumber, IsNoted}

-- a place of one more than a list is one of the list, or the last
below_or_last : (k n : ℕ) → k < n + 1 → (k < n) ⊎ (k ≡ n)
below_or_last k n below = grind arith

module _ (events : List (List ℕ)) where
  pub no_spellings : AreSpelled events 0 [] []
  no_spellings = record { one_each = refl; first = λ k number text there has. cc; all = λ event name below there. absurd (omega arith) }

  pub spelled_more : (count : ℕ) (name : List ℕ) (spellings more : List (List ℕ)) (numbers more_numbers : List ℕ) → slice_get events count ≡ Some name →
      IsNoted spellings numbers (spelling name) count more more_numbers → AreSpelled events count spellings numbers → AreSpelled events (count + 1) more more_numbers
  spelled_more count name spellings more numbers more_numbers there noted are = elim noted [
    | inl known ↦ subst (λ (ns : List ℕ). AreSpelled events (count + 1) more ns) (sym known.2) (subst (λ (ss : List (List ℕ)). AreSpelled events (count + 1) ss numbers) (sym known.1)
        (record {
          one_each = are.one_each;
          first = are.first;
          all = λ event other below at. elim (below_or_last event count below) [
            | inl before ↦ are.all event other before at
            | inr last ↦
                let same : name ≡ other = some_same name other (sym there ∙ ap (slice_get events) (sym last) ∙ at) in
                subst (λ (n : List ℕ). Contains spellings (spelling n)) same known.0
          ];
        }))
    | inr new ↦ subst (λ (ns : List ℕ). AreSpelled events (count + 1) more ns) (sym new.2)
        (subst (λ (ss : List (List ℕ)). AreSpelled events (count + 1) ss (numbers ++ count ∷ [])) (sym new.1) (with_new new.0))
  ]
    where
      long : length (numbers ++ count ∷ []) ≡ length (spellings ++ spelling name ∷ [])
      long = omega (arith, are.one_each, length-append numbers (count ∷ []), length-append spellings (spelling name ∷ []))

      is_first : ¬ Contains spellings (spelling name) → IsFirstSpelled events (spelling name) count
      is_first new = record {
        name = name;
        there = there;
        spelled = refl;
        first = λ other earlier before at alike. new (subst (Contains spellings) alike (are.all other earlier before at));
      }

      with_new : ¬ Contains spellings (spelling name) → AreSpelled events (count + 1) (spellings ++ spelling name ∷ []) (numbers ++ count ∷ [])
      with_new new = record {
        one_each = long;
        first = λ k number text at has. elim (at_one_more spellings (spelling name) text k at) [
          | inl before ↦ elim (at_one_more numbers count number k has) [
            | inl same ↦ are.first k number text before same
            | inr last ↦ absurd (let within = slice_get_within spellings k text before in omega (arith, within, last.0, are.one_each))
          ]
          | inr last ↦ elim (at_one_more numbers count number k has) [
            | inl same ↦ absurd (let within = slice_get_within numbers k number same in omega (arith, within, last.0, are.one_each))
            | inr other ↦ subst (λ (t : List ℕ). IsFirstSpelled events t number) (sym last.1) (subst (IsFirstSpelled events (spelling name)) (sym other.1) (is_first new))
          ]
        ];
        all = λ event other below at. elim (below_or_last event count below) [
          | inl before ↦ Contains-append_left spellings (spelling name ∷ []) (spelling other) (are.all event other before at)
          | inr last ↦
              let same : name ≡ other = some_same name other (sym there ∙ ap (slice_get events) (sym last) ∙ at) in
              subst (λ (n : List ℕ). Contains (spellings ++ spelling name ∷ []) (spelling n)) same (Contains-push spellings (spelling name))
        ];
      }

  -- what the table has of a spelling is the event that is spelled so
  pub spells_found : (spellings : List (List ℕ)) (numbers : List ℕ) (name : List ℕ) (event : ℕ) → AreSpelled events (length events) spellings numbers →
      HasNumber spellings numbers (spelling name) event → Spells events name (Some event)
  spells_found spellings numbers name event are has = are.first has.place event (spelling name) has.there has.has

  pub spells_none : (spellings : List (List ℕ)) (numbers : List ℕ) (name : List ℕ) → AreSpelled events (length events) spellings numbers →
      ¬ Contains spellings (spelling name) → Spells events name None
  spells_none spellings numbers name are absent event other at alike =
      absent (subst (Contains spellings) alike (are.all event other (slice_get_within events event other at) at))

  pub no_rows : AreMapped events [] [] []
  no_rows = record { one_each = refl; first = λ k number activity there has. cc; all = λ place event row activity there says. cc }

  mapped_more : (rows : List (List (List ℕ))) (row : List (List ℕ)) (activity : List ℕ) (event : ℕ) → IsMapped events rows activity event → IsMapped events (rows ++ row ∷ []) activity event
  mapped_more rows row activity event is = record {
    place = is.place;
    row = is.row;
    there = get_before rows (row ∷ []) is.place is.row is.there;
    says = is.says;
    first = λ earlier other old before at. elim (at_one_more rows row old earlier at) [
      | inl inside ↦ is.first earlier other old before inside
      | inr last ↦ absurd (let within = slice_get_within rows is.place is.row is.there in omega (arith, within, before, last.0))
    ];
  }

  -- a row that says nothing
  pub heading : (rows : List (List (List ℕ))) (row : List (List ℕ)) (activities : List (List ℕ)) (numbers : List ℕ) →
      ((activity : List ℕ) (event : ℕ) → ¬ (Says events row activity event)) → AreMapped events rows activities numbers → AreMapped events (rows ++ row ∷ []) activities numbers
  heading rows row activities numbers silent are = record {
    one_each = are.one_each;
    first = λ k number activity there has. mapped_more rows row activity number (are.first k number activity there has);
    all = λ place event other activity at says. elim (at_one_more rows row other place at) [
      | inl inside ↦ are.all place event other activity inside says
      | inr last ↦ absurd (silent activity event (subst (λ (r : List (List ℕ)). Says events r activity event) last.1 says))
    ];
  }

  pub silent_row : (row : List (List ℕ)) (name : List ℕ) → field_at row 1 ≡ Some name → Spells events name None → (activity : List ℕ) (event : ℕ) → ¬ (Says events row activity event)
  silent_row row name by_name none activity event says =
      let same : says.name ≡ name = some_same says.name name (sym says.by_name ∙ by_name) in
      let first : IsFirstSpelled events (spelling name) event = subst (λ (n : List ℕ). IsFirstSpelled events (spelling n) event) same says.spells in
      none event first.name first.there first.spelled

  module _ (rows : List (List (List ℕ))) (row : List (List ℕ)) (activity : List ℕ) (event : ℕ) (says : Says events row activity event)
      (activities : List (List ℕ)) (numbers : List ℕ) (are : AreMapped events rows activities numbers) where
    same_activity : (other : List ℕ) (said : ℕ) → Says events row other said → activity ≡ other
    same_activity other said also = some_same activity other (sym says.of_activity ∙ also.of_activity)

    known_row : Contains activities activity → AreMapped events (rows ++ row ∷ []) activities numbers
    known_row known = record {
      one_each = are.one_each;
      first = λ k number other there has. mapped_more rows row other number (are.first k number other there has);
      all = λ place said other_row other at also. elim (at_one_more rows row other_row place at) [
        | inl inside ↦ are.all place said other_row other inside also
        | inr last ↦ subst (Contains activities) (same_activity other said (subst (λ (r : List (List ℕ)). Says events r other said) last.1 also)) known
      ];
    }

    is_mapped : ¬ Contains activities activity → IsMapped events (rows ++ row ∷ []) activity event
    is_mapped new = record {
      place = length rows;
      row = row;
      there = get_last rows row;
      says = says;
      first = λ earlier other old before at also. elim (at_one_more rows row old earlier at) [
        | inl inside ↦ new (are.all earlier other old activity inside also)
        | inr last ↦ absurd (omega (arith, before, last.0))
      ];
    }

    new_row : ¬ Contains activities activity → AreMapped events (rows ++ row ∷ []) (activities ++ activity ∷ []) (numbers ++ event ∷ [])
    new_row new = record {
      one_each = omega (arith, are.one_each, length-append numbers (event ∷ []), length-append activities (activity ∷ []));
      first = λ k number other at has. elim (at_one_more activities activity other k at) [
        | inl before ↦ elim (at_one_more numbers event number k has) [
          | inl same ↦ mapped_more rows row other number (are.first k number other before same)
          | inr last ↦ absurd (let within = slice_get_within activities k other before in omega (arith, within, last.0, are.one_each))
        ]
        | inr last ↦ elim (at_one_more numbers event number k has) [
          | inl same ↦ absurd (let within = slice_get_within numbers k number same in omega (arith, within, last.0, are.one_each))
          | inr also ↦ subst (λ (a : List ℕ). IsMapped events (rows ++ row ∷ []) a number) (sym last.1) (subst (IsMapped events (rows ++ row ∷ []) activity) (sym also.1) (is_mapped new))
        ]
      ];
      all = λ place said other_row other at also. elim (at_one_more rows row other_row place at) [
        | inl inside ↦ Contains-append_left activities (activity ∷ []) other (are.all place said other_row other inside also)
        | inr last ↦ subst (Contains (activities ++ activity ∷ [])) (same_activity other said (subst (λ (r : List (List ℕ)). Says events r other said) last.1 also))
            (Contains-push activities activity)
      ];
    }

    pub mapped_row : (more : List (List ℕ)) (more_numbers : List ℕ) → IsNoted activities numbers activity event more more_numbers → AreMapped events (rows ++ row ∷ []) more more_numbers
    mapped_row more more_numbers noted = elim noted [
      | inl known ↦ subst (AreMapped events (rows ++ row ∷ []) more) (sym known.2) (subst (λ (acts : List (List ℕ)). AreMapped events (rows ++ row ∷ []) acts numbers) (sym known.1) (known_row known.0))
      | inr new ↦ subst (AreMapped events (rows ++ row ∷ []) more) (sym new.2)
          (subst (λ (acts : List (List ℕ)). AreMapped events (rows ++ row ∷ []) acts (numbers ++ event ∷ [])) (sym new.1) (new_row new.0))
    ]

  pub maps_found : (rows : List (List (List ℕ))) (activities : List (List ℕ)) (numbers : List ℕ) (activity : List ℕ) (event : ℕ) → AreMapped events rows activities numbers →
      HasNumber activities numbers activity event → Maps events rows activity (Some event)
  maps_found rows activities numbers activity event are has = are.first has.place event activity has.there has.has

  pub maps_none : (rows : List (List (List ℕ))) (activities : List (List ℕ)) (numbers : List ℕ) (activity : List ℕ) → AreMapped events rows activities numbers →
      ¬ Contains activities activity → Maps events rows activity None
  maps_none rows activities numbers activity are absent place event row at says = absent (are.all place event row activity at says)

  -- what the table gives
  pub maps_told : (rows : List (List (List ℕ))) (activities : List (List ℕ)) (numbers : List ℕ) (activity : List ℕ) (result : Option ℕ) →
      IfSome result (HasNumber activities numbers activity) → (length numbers ≡ length activities → IfNone result (¬ Contains activities activity)) →
      AreMapped events rows activities numbers → Maps events rows activity result
  maps_told rows activities numbers activity None found absent are = maps_none rows activities numbers activity are (absent are.one_each)
  maps_told rows activities numbers activity (Some event) found absent are = maps_found rows activities numbers activity event are found

  spells_by : (spellings : List (List ℕ)) (numbers : List ℕ) (name : List ℕ) (result : Option ℕ) → IfSome result (HasNumber spellings numbers (spelling name)) →
      (length numbers ≡ length spellings → IfNone result (¬ Contains spellings (spelling name))) → AreSpelled events (length events) spellings numbers → Spells events name result
  spells_by spellings numbers name None found absent are = spells_none spellings numbers name are (absent are.one_each)
  spells_by spellings numbers name (Some event) found absent are = spells_found spellings numbers name event are found

  pub spells_told : (spellings : List (List ℕ)) (numbers : List ℕ) (name text : List ℕ) (result : Option ℕ) → text ≡ spelling name → IfSome result (HasNumber spellings numbers text) →
      (length numbers ≡ length spellings → IfNone result (¬ Contains spellings text)) → AreSpelled events (length events) spellings numbers → Spells events name result
  spells_told spellings numbers name text result same found absent are =
      spells_by spellings numbers name result (subst (λ (t : List ℕ). IfSome result (HasNumber spellings numbers t)) same found)
      (subst (λ (t : List ℕ). length numbers ≡ length spellings → IfNone result (¬ Contains spellings t)) same absent) are

  pub good_more : (rows : List (List (List ℕ))) (row : List (List ℕ)) (place : ℕ) → length rows ≡ place → AreGoodRows events rows → IsGoodRow events (place == 0) row → AreGoodRows events (rows ++ row ∷ [])
  good_more rows row place many good is k other there = elim (at_one_more rows row other k there) [
    | inl before ↦ good k other before
    | inr last ↦
        let at : place ≡ k = sym many ∙ sym last.0 in
        subst (λ (r : List (List ℕ)). IsGoodRow events (k == 0) r) (sym last.1) (subst (λ (n : ℕ). IsGoodRow events (n == 0) row) at is)
  ]
