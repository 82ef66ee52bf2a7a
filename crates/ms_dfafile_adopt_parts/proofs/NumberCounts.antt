-- The pairs of an import name as many numbers as there are among the variables of its file, or more.
use Rattle.std.proofs.Common.{◌≡◌, ◌≢◌, ℕ, ◌+◌, ◌<◌, ◌≤◌, ⊎_elim, AllPairs, Contains, List, length, map, slice_get, Some, refl, sym, ap, subst, ◌∙◌, arith}
use Rattle.std.specs.Option.{option_map}
use Rattle.std.proofs.lemmas.Bool.{cases_lt}
use Rattle.std.proofs.lemmas.List.{length-map}
use Rattle.std.proofs.lemmas.Option.{get_or_from_slice_get, same_Some, slice_get-get_or, slice_get-map, slice_get_within}
use Rattle.ms_arena.proofs.Lists.{slice_get-held}
use Rattle.ms_build.proofs.PlaceLemmas.{own-among}
use Rattle.ms_build_parts.proofs.Labels.{below_bound}
use Rattle.ms_dfa.specs.declared.plain.FileVar.{FileVar}
use Rattle.ms_dfa.specs.declared.plain.Plain.{Plain}
use Rattle.ms_dfa_explore.proofs.AmongLemmas.{among_at, names_rise}
use Rattle.ms_dfafile.specs.File.{IsFile, names_of}
use Rattle.ms_dfafile_adopt.specs.Import.{HasVariables, Named, variables_named, variables_of_file}
use Rattle.ms_dfafile_adopt.specs.Readings.{own_variables}
use Rattle.ms_dfafile_adopt.proofs.VariableLemmas.{at-by_place}
use Rattle.ms_logic.specs.Assignment.{Variable}
use Rattle.ms_logic.specs.Lists.{AreRising, IsAmong}
use Rattle.ms_logic.specs.declared.checked.MapPair.{MapPair}
use Rattle.ms_logic.specs.declared.mode.Order.{Order}
use Rattle.ms_logic.specs.declared.mode.Order.TheVariants.{One}
use Rattle.ms_logic_starts.specs.AtLeast.{IsLabelling}
use Rattle.ms_logic_starts.specs.inner.Ranks.{rank}
use Rattle.ms_logic_starts.proofs.AtLeastLemmas.{at_most_labels}
use Rattle.ms_logic_starts.proofs.RankLemmas.{rank_below_all, rank_less}
use Rattle.ms_logic_words.specs.Content.{count_of}
use Rattle.ms_dfafile_adopt_parts.specs.Files.{variables_of_pairs}
use Rattle.ms_dfafile_adopt_parts.proofs.FirstNumbers.{is_number}

pub contained_at : {X : Type 0} (xs : List X) (x : X) → Contains xs x → (i : ℕ) × (slice_get xs i ≡ Some x)
contained_at xs x has = (has.0, slice_get-get_or xs has.0 x has.1 ∙ ap Some has.2)

-- what is different in pairs stands at one place
pub one_standing : {X : Type 0} (xs : List X) → AllPairs (λ one other. one ≢ other) xs → (i j : ℕ) (x : X) → slice_get xs i ≡ Some x → slice_get xs j ≡ Some x → i ≡ j
one_standing xs different i j x first second = ⊎_elim
    (λ less. absurd (different i j x less (slice_get_within xs j x second) (get_or_from_slice_get xs i x x first ∙ sym (get_or_from_slice_get xs j x x second))))
    (λ least. ⊎_elim
    (λ more. absurd (different j i x more (slice_get_within xs i x first) (get_or_from_slice_get xs j x x second ∙ sym (get_or_from_slice_get xs i x x first))))
    (λ most. omega (arith, least, most))
    (cases_lt j i))
    (cases_lt i j)

module _ (plain : Plain) (pairs : List MapPair) (file : IsFile plain) (named : HasVariables plain pairs) where
  abbrev own : List Variable
  own = own_variables plain

  abbrev wide : List Variable
  wide = variables_of_pairs pairs

  -- a variable of the file, and a pair with its name and order
  pub record IsPaired (v : Variable) : Type 0 where
    pub found : FileVar
    pub held : slice_get plain.variables v.name ≡ Some found
    pub order : found.order ≡ v.order
    pub place : ℕ
    pub pair : slice_get (variables_named pairs) place ≡ Some (record { name = found.name; order = found.order })

  pair_of : (v : Variable) → IsAmong own v → IsPaired v
  pair_of v there =
      let orders = map (λ (variable : FileVar). variable.order) plain.variables in
      let is = own-among orders v there in
      let long = length-map plain.variables (λ (variable : FileVar). variable.order) in
      let within = slice_get_within orders v.name v.order is in
      let here = slice_get-held plain.variables v.name (omega (arith, long, within)) in
      let own_name : Named = record { name = here.0.name; order = here.0.order } in
      let stands = slice_get-map (λ (variable : FileVar). record { name = variable.name; order = variable.order }) plain.variables v.name ∙ ap (option_map (λ (variable : FileVar). record { name = variable.name; order = variable.order })) here.1 in
      let at = contained_at (variables_named pairs) own_name
      (subst (Contains (variables_named pairs)) (get_or_from_slice_get (variables_of_file plain) v.name own_name own_name stands)
      (named.each v.name own_name (slice_get_within (variables_of_file plain) v.name own_name stands))) in
      record {
        found = here.0;
        held = here.1;
        order = same_Some here.0.order v.order (sym (slice_get-map (λ (variable : FileVar). variable.order) plain.variables v.name ∙ ap (option_map (λ (variable : FileVar). variable.order)) here.1) ∙ is);
        place = at.0;
        pair = at.1;
      }

  -- a pair stands for a variable of its order
  wide_at : (place : ℕ) (name : List ℕ) (order : Order) → slice_get (variables_named pairs) place ≡ Some (record { name = name; order = order }) → slice_get wide place ≡ Some (record { name = place; order = order })
  wide_at place name order held =
      let within = slice_get_within (variables_named pairs) place (record { name = name; order = order }) held in
      let long = length-map {B = Named} pairs (λ (pair : MapPair). record { name = pair.name; order = pair.order }) in
      let here = slice_get-held pairs place (omega (arith, within, long)) in
      let same = same_Some (record { name = here.0.name; order = here.0.order }) (record { name = name; order = order })
      (sym (slice_get-map (λ (pair : MapPair). record { name = pair.name; order = pair.order }) pairs place ∙ ap (option_map (λ (pair : MapPair). record { name = pair.name; order = pair.order })) here.1) ∙ held) in
      at-by_place 0 (map (λ (pair : MapPair). pair.order) pairs) place order
      (slice_get-map (λ (pair : MapPair). pair.order) pairs place ∙ ap (option_map (λ (pair : MapPair). pair.order)) here.1 ∙ ap (λ (named : Named). Some named.order) same)
      ∙ ap (λ (n : ℕ). Some (record { name = n; order = order })) (let name : 0 + place ≡ place = omega arith in name)

  module _ (vs : List Variable) (rising : AreRising vs) (among : (v : Variable) → IsAmong vs v → IsAmong own v) (only : (v : Variable) → IsAmong vs v → v.order ≡ One) where
    -- a number of the file has as its label how many numbers stand before its pair
    pub record HasRank (i left right : ℕ) : Type 0 where
      pub v : Variable
      pub there : slice_get vs i ≡ Some v
      pub paired : IsPaired v
      pub number : v.order ≡ One
      pub rank_is : rank is_number paired.place wide ≡ left

    at_wide : (v : Variable) → v.order ≡ One → (paired : IsPaired v) → slice_get wide paired.place ≡ Some (record { name = paired.place; order = One })
    at_wide v number paired =
        wide_at paired.place paired.found.name paired.found.order paired.pair
        ∙ ap (λ (o : Order). Some (record { name = paired.place; order = o })) (paired.order ∙ number)

    -- numbers of one rank are of one pair
    one_pair : (place other : ℕ) → slice_get wide place ≡ Some (record { name = place; order = One }) → slice_get wide other ≡ Some (record { name = other; order = One })
        → rank is_number place wide ≡ rank is_number other wide → place ≡ other
    one_pair place other first second same = ⊎_elim
        (λ less. let up = rank_less is_number place other wide (record { name = place; order = One }) less first refl in absurd (omega (arith, up, same)))
        (λ least. ⊎_elim
        (λ more. let up = rank_less is_number other place wide (record { name = other; order = One }) more second refl in absurd (omega (arith, up, same)))
        (λ most. omega (arith, least, most))
        (cases_lt other place))
        (cases_lt place other)

    one_name : (i j left right : ℕ) (first : HasRank i left right) (second : HasRank j left right) → first.v.name ≡ second.v.name
    one_name i j left right first second =
        let place = one_pair first.paired.place second.paired.place (at_wide first.v first.number first.paired) (at_wide second.v second.number second.paired) (first.rank_is ∙ sym second.rank_is) in
        let name = ap (λ (named : Named). named.name) (same_Some (record { name = first.paired.found.name; order = first.paired.found.order }) (record { name = second.paired.found.name; order = second.paired.found.order })
        (sym first.paired.pair ∙ ap (slice_get (variables_named pairs)) place ∙ second.paired.pair)) in
        let at = λ (v : Variable) (paired : IsPaired v). slice_get-map (λ (variable : FileVar). variable.name) plain.variables v.name ∙ ap (option_map (λ (variable : FileVar). variable.name)) paired.held in
        one_standing (names_of plain) file.different first.v.name second.v.name second.paired.found.name
        (at first.v first.paired ∙ ap Some name) (at second.v second.paired)

    ranks : IsLabelling (λ (one other : ℕ). one ≡ other) (λ i. i < length vs) HasRank (count_of is_number wide) 1
    ranks = record {
      labelled = λ i within.
          let here = slice_get-held vs i within in
          let is_there = among_at vs i here.0 here.1 in
          let number = only here.0 is_there in
          let paired = pair_of here.0 (among here.0 is_there) in (
            rank is_number paired.place wide,
            0,
            rank_below_all is_number paired.place wide (record { name = paired.place; order = One }) (at_wide here.0 number paired) refl,
            omega arith,
            record { v = here.0; there = here.1; paired = paired; number = number; rank_is = refl },
          );
      alike = λ i j is_i is_j left right first second.
          let name = one_name i j left right first second in
          ⊎_elim
          (λ less. let up = names_rise vs rising i j first.v second.v first.there second.there less in absurd (omega (arith, up, name)))
          (λ least. ⊎_elim
          (λ more. let up = names_rise vs rising j i second.v first.v second.there first.there more in absurd (omega (arith, up, name)))
          (λ most. omega (arith, least, most))
          (cases_lt j i))
          (cases_lt i j);
    }

    pub few_numbers : length vs ≤ count_of is_number wide
    few_numbers =
        let few = at_most_labels (λ (one other : ℕ). one ≡ other) (λ i. i < length vs) HasRank (count_of is_number wide) 1 (length vs) ranks (below_bound (length vs)) in
        omega (arith, few)
