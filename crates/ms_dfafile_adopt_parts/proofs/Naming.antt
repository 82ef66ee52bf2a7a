-- The variables of a file by the places of the pairs that name them, and the variables of the pairs in their own order.
use Rattle.std.proofs.Common.{◌≡◌, ◌≢◌, ℕ, zero, suc, ◌+◌, ◌<◌, AllPairs, ⊎_elim, true, if◌then◌else◌, List, [], ◌∷◌, length, map, slice_get, slice_index, Some, refl, sym, ap, subst, ◌∙◌, arith}
use Rattle.std.specs.Option.{option_map}
use Rattle.std.specs.Str.{bytes_eq}
use Rattle.std.proofs.lemmas.Bool.{cases_Bool}
use Rattle.std.proofs.lemmas.Slice.Eq.{bytes_eq-Decides}
use Rattle.std.proofs.lemmas.List.{length-map}
use Rattle.std.proofs.lemmas.Option.{get_or_from_slice_get, none-some, same_Some, slice_get-map, slice_get_within}
use Rattle.ms_arena.proofs.Lists.{slice_get-held}
use Rattle.ms_build.proofs.WholeLemmas.{rising-by_place}
use Rattle.ms_build_steps.proofs.Imports.{orders_from}
use Rattle.ms_dfa.proofs.OrdersLemmas.{orders_of}
use Rattle.ms_dfa.specs.declared.plain.FileVar.{FileVar}
use Rattle.ms_dfa.specs.declared.plain.Plain.{Plain}
use Rattle.ms_dfa_explore.specs.Tracks.{distinct, place_of}
use Rattle.ms_dfa_explore.proofs.AmongLemmas.{among_at}
use Rattle.ms_dfa_explore.proofs.TracksLemmas.{distinct-rising}
use Rattle.ms_dfafile.specs.File.{IsFile, names_of}
use Rattle.ms_dfafile_adopt.specs.Naming.{IsNaming}
use Rattle.ms_dfafile_adopt.specs.Readings.{own_variables}
use Rattle.ms_dfafile_adopt.proofs.VariableLemmas.{at-by_place, by_place-at}
use Rattle.ms_logic.specs.Assignment.{Variable}
use Rattle.ms_logic.specs.Lists.{AreRising}
use Rattle.ms_logic.specs.declared.checked.MapPair.{MapPair}
use Rattle.ms_logic.specs.declared.mode.Order.{Order}
use Rattle.ms_logic_starts.specs.ContentStarts.{HaveDistinctNumbers}
use Rattle.ms_logic_starts.proofs.RisingLemmas.{rising_distinct}
use Rattle.ms_rename.specs.Renamed.{renamed, renamed_places}
use Rattle.ms_rename.proofs.RenamedLemmas.{renamed-at}
use Rattle.ms_rename_parts.proofs.Arranged.{IsArranged}
use Rattle.ms_rename_parts.proofs.Names.{HasName, distinct_name, place_rises}
use Rattle.ms_dfafile_adopt_parts.specs.Files.{paired, place_named, variables_of_pairs}
use Rattle.ms_dfafile_adopt_parts.proofs.NumberCounts.{one_standing}

-- a pair of different names is the first with its name
pub place_of_pair : (pairs : List MapPair) → AllPairs (λ one other. one ≢ other) (map (λ (pair : MapPair). pair.name) pairs) → (j : ℕ) (pair : MapPair) → slice_get pairs j ≡ Some pair
    → place_named pairs pair.name ≡ j
place_of_pair [] different j pair held = absurd (none-some pair held)
place_of_pair (first ∷ pairs) different zero pair held =
    let same = same_Some first pair held in
    let equal : bytes_eq first.name pair.name ≡ true = subst (λ (p : MapPair). bytes_eq first.name p.name ≡ true) same ((bytes_eq-Decides first.name first.name).1 refl) in
    ap (λ test. if test then 0 else suc (place_named pairs pair.name)) equal
place_of_pair (first ∷ pairs) different (suc j) pair held =
    let there = slice_get-map (λ (p : MapPair). p.name) pairs j ∙ ap (option_map (λ (p : MapPair). p.name)) held in
    let within = slice_get_within (map (λ (p : MapPair). p.name) pairs) j pair.name there in
    let apart : first.name ≢ pair.name = λ same. different 0 (suc j) first.name (omega arith) (omega (arith, within)) (same ∙ sym (get_or_from_slice_get (map (λ (p : MapPair). p.name) pairs) j pair.name first.name there)) in
    ap (λ test. if test then 0 else suc (place_named pairs pair.name)) (⊎_elim (λ same. absurd (apart ((bytes_eq-Decides first.name pair.name).0 same))) (λ differs. differs) (cases_Bool (bytes_eq first.name pair.name)))
    ∙ ap suc (place_of_pair pairs (λ one other d before less. different (suc one) (suc other) d (omega (arith, before)) (omega (arith, less))) j pair held)

orders_alike : (pairs : List MapPair) (variables : List FileVar) → orders_of (map (paired pairs) variables) ≡ map (λ (variable : FileVar). variable.order) variables
orders_alike pairs [] = refl
orders_alike pairs (variable ∷ variables) = ap (λ (os : List Order). variable.order ∷ os) (orders_alike pairs variables)

-- by the places of the pairs the variables of a file have the orders that they have by their own
pub same_orders : (plain : Plain) (pairs : List MapPair) → orders_of (map (paired pairs) plain.variables) ≡ orders_of (own_variables plain)
same_orders plain pairs = orders_alike pairs plain.variables ∙ sym (orders_from 0 (map (λ (variable : FileVar). variable.order) plain.variables))

module _ (plain : Plain) (pairs : List MapPair) (file : IsFile plain) (apart : AllPairs (λ one other. one ≢ other) (map (λ (pair : MapPair). pair.name) pairs))
    (places : List ℕ) (naming : IsNaming plain pairs places) where
  -- the variables of the file, by the places of their pairs
  abbrev pub vs : List Variable
  vs = map (paired pairs) plain.variables

  -- the variables of the pairs, in their order
  abbrev pub order : List Variable
  order = variables_of_pairs pairs

  abbrev pub orders : List Order
  orders = map (λ (pair : MapPair). pair.order) pairs

  pub order_rising : AreRising order
  order_rising = rising-by_place 0 orders

  pub order_distinct : HaveDistinctNumbers order
  order_distinct = rising_distinct order order_rising

  pub vs_long : length vs ≡ length plain.variables
  vs_long = length-map plain.variables (paired pairs)

  -- a variable, and the pair that names it
  pub record IsNamed (i : ℕ) (v : Variable) : Type 0 where
    pub variable : FileVar
    pub held : slice_get plain.variables i ≡ Some variable
    pub is : v ≡ paired pairs variable
    pub pair : MapPair
    pub there : slice_get pairs (slice_index places i) ≡ Some pair
    pub name : pair.name ≡ variable.name
    pub same_order : pair.order ≡ variable.order
    pub place : v.name ≡ slice_index places i

  named_by : (i : ℕ) (v : Variable) (variable : FileVar) → slice_get plain.variables i ≡ Some variable → paired pairs variable ≡ v → IsNamed i v
  named_by i v variable held is =
      let pair = naming.each i variable held in
      record {
        variable = variable;
        held = held;
        is = sym is;
        pair = pair.0;
        there = pair.1;
        name = pair.2;
        same_order = pair.3;
        place = ap (λ (w : Variable). w.name) (sym is) ∙ ap (place_named pairs) (sym pair.2) ∙ place_of_pair pairs apart (slice_index places i) pair.0 pair.1;
      }

  pub named_at : (i : ℕ) (v : Variable) → slice_get vs i ≡ Some v → IsNamed i v
  named_at i v there =
      let within = slice_get_within vs i v there in
      let long = vs_long in
      let held = slice_get-held plain.variables i (omega (arith, within, long)) in
      named_by i v held.0 held.1 (same_Some (paired pairs held.0) v (sym (slice_get-map (paired pairs) plain.variables i ∙ ap (option_map (paired pairs)) held.1) ∙ there))

  -- it stands in the order of the pairs at the place of its pair
  pub stands : (i : ℕ) (v : Variable) → slice_get vs i ≡ Some v → slice_get order v.name ≡ Some v
  stands i v there =
      let is = named_at i v there in
      let held = slice_get-map (λ (pair : MapPair). pair.order) pairs (slice_index places i) ∙ ap (option_map (λ (pair : MapPair). pair.order)) is.there in
      ap (slice_get order) is.place
      ∙ at-by_place 0 orders (slice_index places i) is.pair.order held
      ∙ (let name : 0 + slice_index places i ≡ v.name = (let place = is.place in omega (arith, place)) in
      let kind : is.pair.order ≡ v.order = is.same_order ∙ sym (ap (λ (w : Variable). w.order) is.is) in
      ap (λ (n : ℕ). Some (record { name = n; order = is.pair.order })) name ∙ ap (λ (o : Order). Some (record { name = v.name; order = o })) kind)

  pub vs_distinct : HaveDistinctNumbers vs
  vs_distinct one two v w first second same =
      let here = named_at one v first in
      let there = named_at two w second in
      let pair = same_Some here.pair there.pair (sym here.there ∙ ap (slice_get pairs) (sym here.place ∙ same ∙ there.place) ∙ there.there) in
      let name : here.variable.name ≡ there.variable.name = sym here.name ∙ ap (λ (p : MapPair). p.name) pair ∙ there.name in
      one_standing (names_of plain) file.different one two there.variable.name
      (slice_get-map (λ (variable : FileVar). variable.name) plain.variables one ∙ ap (option_map (λ (variable : FileVar). variable.name)) here.held ∙ ap Some name)
      (slice_get-map (λ (variable : FileVar). variable.name) plain.variables two ∙ ap (option_map (λ (variable : FileVar). variable.name)) there.held)

  -- each variable of the pairs is one of the file
  pub is_there : (j : ℕ) (w : Variable) → slice_get order j ≡ Some w → (i : ℕ) × (slice_get vs i ≡ Some w) × (slice_index places i ≡ j)
  is_there j w held =
      let at = by_place-at 0 orders j w held in
      let within = slice_get_within orders j w.order at.1 in
      let long = length-map pairs (λ (pair : MapPair). pair.order) in
      let pair = slice_get-held pairs j (omega (arith, within, long)) in
      let found = naming.only j pair.0 pair.1 in
      let v = paired pairs found.1 in
      let there : slice_get vs found.0 ≡ Some v = slice_get-map (paired pairs) plain.variables found.0 ∙ ap (option_map (paired pairs)) found.2 in
      let place : v.name ≡ j = ap (place_named pairs) found.3 ∙ place_of_pair pairs apart j pair.0 pair.1 in
      let named = named_at found.0 v there in (
        found.0,
        there ∙ ap Some (same_Some v w (sym (stands found.0 v there) ∙ ap (slice_get order) place ∙ held)),
        sym named.place ∙ place,
      )

  -- so they are read in the order of the pairs, whatever the places of the automaton's own variables are
  module _ (us : List Variable) (us_long : length us ≡ length vs) (long : length places ≡ length us) where
    abbrev wide : List Variable
    wide = distinct (renamed places us)

    beside : (i : ℕ) → i < length vs → (u : Variable) × (slice_get us i ≡ Some u)
    beside i within = slice_get-held us i (omega (arith, within, us_long))

    has_name : (j : ℕ) → j < length order → HasName wide j
    has_name j within =
        let held = slice_get-held order j within in
        let found = is_there j held.0 held.1 in
        let u = beside found.0 (slice_get_within vs found.0 held.0 found.1) in
        let target : Variable = record { name = slice_index places found.0; order = u.0.order } in
        subst (HasName wide) found.2 (distinct_name (renamed places us) target (among_at (renamed places us) found.0 target (renamed-at places us found.0 u.0 long u.1)))

    pub in_pair_order : IsArranged vs order (renamed_places places us)
    in_pair_order = record {
      own = order_distinct;
      read_at = λ at. place_of at wide;
      stands = λ i v there.
          let u = beside i (slice_get_within vs i v there) in
          let is = named_at i v there in (
            v.name,
            stands i v there,
            get_or_from_slice_get (renamed_places places us) i (place_of v.name wide) 0
                (slice_get-map (λ (w : Variable). place_of w.name wide) (renamed places us) i
                ∙ ap (option_map (λ (w : Variable). place_of w.name wide)) (renamed-at places us i u.0 long u.1)
                ∙ ap (λ n. Some (place_of n wide)) (sym is.place)),
          );
      rises = λ one two less within.
          place_rises wide (distinct-rising (renamed places us)) one two (omega (arith, less)) (has_name one (omega (arith, less, within)));
    }
