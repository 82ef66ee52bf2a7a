-- The order of a map has each variable, and the places at which the variables are read do not fall in it.
use Rattle.std.proofs.Common.{◌≡◌, ℕ, ◌<◌, ◌≤◌, List, length, slice_get, slice_index, Option, Some, None, sym, ap, ◌∙◌, arith}
use Rattle.std.specs.List.{zip}
use Rattle.std.specs.Option.{option_map}
use Rattle.std.proofs.lemmas.List.{length-map}
use Rattle.std.proofs.lemmas.Option.{get_or_from_slice_get, slice_get-map, slice_get_within}
use Rattle.ms_arena.proofs.Lists.{slice_get-held}
use Rattle.ms_dfa_explore.specs.Tracks.{distinct, place_of}
use Rattle.ms_dfa_explore.proofs.AmongLemmas.{among_at}
use Rattle.ms_dfa_explore.proofs.TracksLemmas.{distinct-rising}
use Rattle.ms_logic.specs.Assignment.{Variable}
use Rattle.ms_logic.specs.Lists.{Each}
use Rattle.ms_logic_measures.specs.CallMeasures.{in_order_of, sorted}
use Rattle.ms_logic_starts.specs.ContentStarts.{HaveDistinctNumbers}
use Rattle.ms_rename.specs.Renamed.{renamed, renamed_places}
use Rattle.ms_rename.proofs.RenamedLemmas.{renamed-at}
use Rattle.ms_rename_parts.proofs.Arranged.{IsArranged}
use Rattle.ms_rename_parts.proofs.Names.{HasName, distinct_name, place_rises}
use Rattle.ms_rename_parts.proofs.Sorted.{HaveTwoNames, IsNotAbove, Numbered, distinct_row, each_at, each_sorted, each_zip, orderly_at, orderly_sorted, rising_sorted, there_sorted, two_names, zip_at}

module _ (numbers : List ℕ) (vs ws : List Variable) (long : length numbers ≡ length vs) (also : length ws ≡ length vs) (own : HaveDistinctNumbers ws) where
  abbrev wide : List Variable
  wide = distinct (renamed numbers vs)

  abbrev places : List ℕ
  places = renamed_places numbers vs

  abbrev pairs : List Numbered
  pairs = zip numbers ws

  abbrev row : List Numbered
  row = sorted pairs

  abbrev place_for : Option Numbered → ℕ
  place_for None = 0
  place_for (Some item) = place_of item.0 wide

  -- the variable of the automaton at the same place
  beside : (i : ℕ) (w : Variable) → slice_get ws i ≡ Some w → (v : Variable) × (slice_get vs i ≡ Some v)
  beside i w held = let within = slice_get_within ws i w held in slice_get-held vs i (omega (arith, within, also))

  read_there : (i : ℕ) (w : Variable) → slice_get ws i ≡ Some w → slice_index places i ≡ place_of (slice_index numbers i) wide
  read_there i w held =
      let v = beside i w held in
      get_or_from_slice_get places i (place_of (slice_index numbers i) wide) 0
      (slice_get-map (λ (u : Variable). place_of u.name wide) (renamed numbers vs) i
      ∙ ap (option_map (λ (u : Variable). place_of u.name wide)) (renamed-at numbers vs i v.0 long v.1))

  named : Each (λ (item : Numbered). HasName wide item.0) row
  named = each_sorted (λ item. HasName wide item.0) pairs (each_zip (λ number _. HasName wide number) numbers ws (λ i w held.
      let v = beside i w held in
      let target : Variable = record { name = slice_index numbers i; order = v.0.order } in
      distinct_name (renamed numbers vs) target (among_at (renamed numbers vs) i target (renamed-at numbers vs i v.0 long v.1))))

  rises : (one two : ℕ) → one < two → two < length row → place_for (slice_get row one) ≤ place_for (slice_get row two)
  rises one two less within =
      let here = slice_get-held row one (omega (arith, less, within)) in
      let there = slice_get-held row two within in
      let up = orderly_at IsNotAbove row one two here.0 there.0 (rising_sorted pairs) less here.1 there.1 in
      let more = place_rises wide (distinct-rising (renamed numbers vs)) here.0.0 there.0.0 up (each_at (λ item. HasName wide item.0) row one here.0 named here.1) in
      let first : place_for (slice_get row one) ≡ place_of here.0.0 wide = ap place_for here.1 in
      let second : place_for (slice_get row two) ≡ place_of there.0.0 wide = ap place_for there.1 in
      omega (arith, more, first, second)

  pub arranged : IsArranged ws (in_order_of numbers ws) places
  arranged = record {
    own = distinct_row row (orderly_sorted HaveTwoNames (λ one other apart same. apart (sym same)) pairs (two_names numbers ws own));
    read_at = λ at. place_for (slice_get row at);
    stands = λ i w held.
        let found = there_sorted pairs i (slice_index numbers i, w) (zip_at numbers ws i w (long ∙ sym also) held) in (
          found.0,
          slice_get-map (λ (item : Numbered). item.1) row found.0 ∙ ap (option_map (λ (item : Numbered). item.1)) found.1,
          read_there i w held ∙ sym (ap place_for found.1),
        );
    rises = λ one two less within. (let as_long = length-map row (λ (item : Numbered). item.1) in rises one two less (omega (arith, within, as_long)));
  }
