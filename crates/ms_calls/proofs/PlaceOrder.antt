-- The variables by place of others, in the order of the numbers of these, are read at the places of these among the distinct ones.
use Rattle.std.proofs.Common.{◌≡◌, ℕ, zero, suc, ◌+◌, List, [], ◌∷◌, length, map, slice_get, slice_index, Some, refl, sym, ap, ◌∙◌, arith}
use Rattle.std.specs.List.{zip}
use Rattle.std.specs.Option.{option_map}
use Rattle.std.proofs.lemmas.List.{length-map}
use Rattle.std.proofs.lemmas.Option.{get_or_from_slice_get, none-some, same_Some, slice_get-map, slice_get_within}
use Rattle.ms_arena.proofs.Lists.{slice_get-held}
use Rattle.ms_basic.specs.Operands.{HaveOneOrder}
use Rattle.ms_basic.proofs.DistinctLemmas.{among-distinct, distinct-among, place_of-at}
use Rattle.ms_dfa.specs.Narrow.{ReadsThrough}
use Rattle.ms_dfa_explore.specs.Tracks.{distinct, place_of}
use Rattle.ms_dfa_explore.proofs.AmongLemmas.{among_at, held_among}
use Rattle.ms_dfa_explore.proofs.TracksLemmas.{distinct-rising, place_of-among}
use Rattle.ms_logic.specs.Assignment.{Env, Variable, value_at}
use Rattle.ms_logic.specs.Lists.{Each, IsAmong}
use Rattle.ms_logic.specs.OrderLaws.{GiveSameValues}
use Rattle.ms_logic.specs.declared.mode.Order.{Order}
use Rattle.ms_logic.specs.declared.mode.Order.TheVariants.{Zero, One, Two}
use Rattle.ms_logic_measures.specs.CallMeasures.{in_order_of, sorted}
use Rattle.ms_logic_starts.specs.ContentStarts.{HaveDistinctNumbers}
use Rattle.ms_logic_words.specs.Content.{variables_by_place, variables_from}
use Rattle.ms_rename_parts.proofs.Names.{place_rises}
use Rattle.ms_rename_parts.proofs.Sorted.{HaveTwoNames, IsNotAbove, Numbered, distinct_row, each_at, each_sorted, each_zip, orderly_at, orderly_sorted, rising_sorted, there_sorted, two_names, zip_at}
use Rattle.ms_calls.proofs.Expanded.{AreReadAt}

abbrev orders_of : List Variable → List Order
orders_of vs = map (λ (v : Variable). v.order) vs

abbrev names_of : List Variable → List ℕ
names_of vs = map (λ (v : Variable). v.name) vs

-- a variable by place, and the one that stands there
stands_there : (base : ℕ) (vs : List Variable) (i : ℕ) (w : Variable) → slice_get (variables_from base (orders_of vs)) i ≡ Some w
    → (w.name ≡ base + i) × (slice_get vs i ≡ Some (record { name = slice_index (names_of vs) i; order = w.order }))
stands_there base [] i w held = absurd (none-some w held)
stands_there base (v ∷ vs) zero w held =
    let same : record { name = base; order = v.order } ≡ w = same_Some (record { name = base; order = v.order }) w held in
    let here : base ≡ base + 0 = omega arith in
    (ap (λ (u : Variable). u.name) (sym same) ∙ here, ap (λ (u : Variable). Some (record { name = v.name; order = u.order })) same)
stands_there base (v ∷ vs) (suc i) w held =
    let later = stands_there (base + 1) vs i w held in
    let place : base + 1 + i ≡ base + suc i = omega arith in
    (later.0 ∙ place, later.1)

has_place : (base : ℕ) (vs : List Variable) (i : ℕ) (v : Variable) → slice_get vs i ≡ Some v
    → slice_get (variables_from base (orders_of vs)) i ≡ Some (record { name = base + i; order = v.order })
has_place base [] i v held = absurd (none-some v held)
has_place base (u ∷ vs) zero v held =
    let here : base ≡ base + 0 = omega arith in
    let same : u ≡ v = same_Some u v held in
    λ k. Some (record { name = here k; order = (same k).order })
has_place base (u ∷ vs) (suc i) v held =
    let place : base + 1 + i ≡ base + suc i = omega arith in
    has_place (base + 1) vs i v held ∙ ap (λ n. Some (record { name = n; order = v.order })) place

length-by_place : (base : ℕ) (vs : List Variable) → length (names_of vs) ≡ length (variables_from base (orders_of vs))
length-by_place base [] = refl
length-by_place base (v ∷ vs) = ap suc (length-by_place (base + 1) vs)

-- both give a variable of the list the same value
same_at : (vs : List Variable) (e f : Env) (place : ℕ) (v : Variable) → slice_get vs place ≡ Some v → GiveSameValues vs e f → value_at v.order v.name e ≡ value_at v.order v.name f
same_at [] e f place v held same = absurd (none-some v held)
same_at (u ∷ vs) e f zero v held same =
    let is : u ≡ v = same_Some u v held in
    ap (λ (w : Variable). value_at w.order w.name e) (sym is) ∙ same.0 ∙ ap (λ (w : Variable). value_at w.order w.name f) is
same_at (u ∷ vs) e f (suc place) v held same = same_at vs e f place v held same.1

module _ (vs : List Variable) where
  abbrev by_place : List Variable
  by_place = variables_by_place (orders_of vs)

  abbrev row : List Numbered
  row = sorted (zip (names_of vs) by_place)

  abbrev pub in_order : List Variable
  in_order = in_order_of (names_of vs) by_place

  abbrev pub places : List ℕ
  places = map (λ (item : Numbered). place_of item.0 (distinct vs)) row

  -- what the variables have, by place
  abbrev pub values_by_place : Env → Env
  values_by_place e = record {
    universe = e.universe;
    truth = λ x. e.truth (slice_index (names_of vs) x);
    number = λ x. e.number (slice_index (names_of vs) x);
    set = λ x. e.set (slice_index (names_of vs) x);
  }

  value_there : (o : Order) (x : ℕ) (e : Env) → value_at o x (values_by_place e) ≡ value_at o (slice_index (names_of vs) x) e
  value_there Zero x e = refl
  value_there One x e = refl
  value_there Two x e = refl

  name_at : (i : ℕ) (v : Variable) → slice_get vs i ≡ Some v → slice_index (names_of vs) i ≡ v.name
  name_at i v held =
      get_or_from_slice_get (names_of vs) i v.name 0 (slice_get-map (λ (u : Variable). u.name) vs i ∙ ap (option_map (λ (u : Variable). u.name)) held)

  -- the variable that stands at the place of a numbered one
  abbrev target : Numbered → Variable
  target item = record { name = item.0; order = item.1.order }

  abbrev IsNumbered : Numbered → Type 0
  IsNumbered item = slice_get vs item.1.name ≡ Some (target item)

  numbered : Each IsNumbered row
  numbered = each_sorted IsNumbered (zip (names_of vs) by_place)
      (each_zip (λ number w. slice_get vs w.name ≡ Some (record { name = number; order = w.order })) (names_of vs) by_place (λ i w held.
      let there = stands_there 0 vs i w held in
      let place : 0 + i ≡ i = omega arith in
      ap (slice_get vs) (there.0 ∙ place) ∙ there.1))

  variable_at : (at : ℕ) (item : Numbered) → slice_get row at ≡ Some item → slice_get in_order at ≡ Some item.1
  variable_at at item held = slice_get-map (λ (i : Numbered). i.1) row at ∙ ap (option_map (λ (i : Numbered). i.1)) held

  distinct_by_place : HaveDistinctNumbers by_place
  distinct_by_place one two v w first second same =
      let here = (stands_there 0 vs one v first).0 in
      let there = (stands_there 0 vs two w second).0 in
      omega (arith, here, there, same)

  item_at : (at : ℕ) (v : Variable) → slice_get in_order at ≡ Some v → (item : Numbered) × (slice_get row at ≡ Some item) × (item.1 ≡ v) × IsNumbered item
  item_at at v held =
      let within = slice_get_within in_order at v held in
      let long = length-map row (λ (item : Numbered). item.1) in
      let found = slice_get-held row at (omega (arith, within, long)) in
      (found.0, found.1, same_Some found.0.1 v (sym (variable_at at found.0 found.1) ∙ held), each_at IsNumbered row at found.0 numbered found.1)

  -- where a variable stands in the order
  found_at : (i : ℕ) (v : Variable) → slice_get vs i ≡ Some v → (at : ℕ) × (slice_get row at ≡ Some (v.name, record { name = i; order = v.order }))
  found_at i v held =
      let w : Variable = record { name = i; order = v.order } in
      let place : 0 + i ≡ i = omega arith in
      let found = there_sorted (zip (names_of vs) by_place) i (slice_index (names_of vs) i, w)
      (zip_at (names_of vs) by_place i w (length-by_place 0 vs) (has_place 0 vs i v held ∙ ap (λ n. Some (record { name = n; order = v.order })) place)) in
      (found.0, found.1 ∙ ap (λ (n : ℕ). Some (n, w)) (name_at i v held))

  read_at : (at : ℕ) (item : Numbered) → slice_get row at ≡ Some item → slice_index places at ≡ place_of item.0 (distinct vs)
  read_at at item held =
      get_or_from_slice_get places at (place_of item.0 (distinct vs)) 0
      (slice_get-map (λ (i : Numbered). place_of i.0 (distinct vs)) row at ∙ ap (option_map (λ (i : Numbered). place_of i.0 (distinct vs))) held)

  -- values that are the same as those by place
  pub given_by_place : (e f : Env) → GiveSameValues in_order f (values_by_place e) → (i : ℕ) (v : Variable) → slice_get vs i ≡ Some v
      → value_at v.order i f ≡ value_at v.order v.name e
  given_by_place e f same i v held =
      let found = found_at i v held in
      same_at in_order f (values_by_place e) found.0 (record { name = i; order = v.order }) (variable_at found.0 (v.name, record { name = i; order = v.order }) found.1) same
      ∙ value_there v.order i e
      ∙ ap (λ x. value_at v.order x e) (name_at i v held)

  module _ (orders : HaveOneOrder vs) where
    abbrev wide : List Variable
    wide = distinct vs

    among_wide : (item : Numbered) → IsNumbered item → IsAmong wide (target item)
    among_wide item is = among-distinct vs (target item) orders (among_at vs item.1.name (target item) is)

    stands_wide : (at : ℕ) (item : Numbered) → slice_get row at ≡ Some item → IsNumbered item → slice_get wide (slice_index places at) ≡ Some (target item)
    stands_wide at item held is = ap (slice_get wide) (read_at at item held) ∙ place_of-among wide (target item) (distinct-rising vs) (among_wide item is)

    pub place_variables_read : AreReadAt in_order wide places
    place_variables_read = record {
      own = distinct_row row
          (orderly_sorted HaveTwoNames (λ one other apart same. apart (sym same)) (zip (names_of vs) by_place) (two_names (names_of vs) by_place distinct_by_place));
      rising = distinct-rising vs;
      stands = λ at v held.
          let item = item_at at v held in
          (target item.0, stands_wide at item.0 item.1 item.3, ap (λ (u : Variable). u.order) item.2);
      rises = λ one two less within.
          let long = length-map row (λ (item : Numbered). item.1) in
          let here = slice_get-held row one (omega (arith, less, within, long)) in
          let there = slice_get-held row two (omega (arith, within, long)) in
          let up = orderly_at IsNotAbove row one two here.0 there.0 (rising_sorted (zip (names_of vs) by_place)) less here.1 there.1 in
          let more = place_rises wide (distinct-rising vs) here.0.0 there.0.0 up (target here.0, among_wide here.0 (each_at IsNumbered row one here.0 numbered here.1), refl) in
          let first = read_at one here.0 here.1 in
          let second = read_at two there.0 there.1 in
          omega (arith, more, first, second);
      all = λ place w held.
          let at = held_among vs w (distinct-among vs w (among_at wide place w held)) in
          let found = found_at at.0 w at.1 in
          let v : Variable = record { name = at.0; order = w.order } in
          (found.0, v, variable_at found.0 (w.name, v) found.1, read_at found.0 (w.name, v) found.1 ∙ place_of-at wide place w (distinct-rising vs) held);
    }

    pub values_read : (e : Env) → ReadsThrough places in_order wide (values_by_place e) e
    values_read e = record {
      universe = refl;
      values = λ at v held.
          let item = item_at at v held in
          let order : item.0.1.order ≡ v.order = ap (λ (u : Variable). u.order) item.2 in (
            target item.0,
            stands_wide at item.0 item.1 item.3,
            order,
            ap (λ (u : Variable). value_at u.order u.name (values_by_place e)) (sym item.2)
                ∙ value_there item.0.1.order item.0.1.name e
                ∙ ap (λ x. value_at item.0.1.order x e) (name_at item.0.1.name (target item.0) item.3),
          );
    }
