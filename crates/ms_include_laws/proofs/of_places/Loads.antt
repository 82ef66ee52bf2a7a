-- The places of a source of several files are in these files.
use Rattle.std.proofs.Common.{inl, inr, ℕ, zero, suc, ◌+◌, ◌<◌, ◌≤◌, List, [], ◌∷◌, ◌++◌, length, Option, Some, None, sym, ap, subst, arith}
use Rattle.std.proofs.lemmas.List.{length-append}
use Rattle.ms_list.specs.declared.at.At.{At}
use Rattle.ms_edge.specs.declared.refusal.Refusal.{Refusal}
use Rattle.ms_edge.specs.declared.refusal.Refusal.TheVariants as refusals
use Rattle.ms_edge.specs.Files.{Seen}
use Rattle.ms_logic.specs.declared.mode.Mode.{Mode}
use Rattle.ms_logic.specs.declared.source.Decl.{Decl}
use Rattle.ms_logic.specs.declared.source.Decl.TheVariants.{Include}
use Rattle.ms_logic.specs.declared.source.Item.{Item}
use Rattle.ms_logic.specs.declared.source.Loaded.{Loaded}
use Rattle.ms_include.specs.declared.begun.Begun.{Begun}
use Rattle.ms_include.specs.File.{IsUnread}
use Rattle.ms_include.specs.Include.{AllBecome, Becomes, Files, IsHeaderFault, IsRefused, Loading, Loads, OneStops, Stopping, Stops, and_next, greatest_depth, include_of}
use Rattle.ms_include.specs.Load.{IsLoaded, IsRefusedLoad, IsRefusedText, files_of, first_include, place_or}
use Rattle.ms_logic.specs.Lists.{Each}
use Rattle.ms_names_rules.proofs.Fitting.{If, each-append}
use Rattle.ms_parse_grammar.specs.View.{declaration_of}
use Rattle.ms_include_laws.specs.inner.places.Laws.{LoadedSourcesHavePlaces, LoadedTextsHavePlaces, RefusedLoadsAreTold, RefusedTextsAreTold}
use Rattle.ms_include_laws.specs.inner.places.Places.{EachPlaceInDeclaration, EachPlaceInItem, IsAmongFiles}
use Rattle.ms_include_laws.proofs.of_places.Files.{header-placed, none-told, source-placed}
use Rattle.ms_include_laws.proofs.of_places.Reading.{HeaderAt}
use Rattle.ms_include_laws.proofs.of_places.Refused.{IsToldAt, told-over}

longer : (read : List (List ℕ)) (name : List ℕ) (after : List (List ℕ)) → length (read ++ name ∷ []) ≤ length after → length read < length after
longer read name after h = omega (arith, length-append read (name ∷ []), h)

-- The files that were read grow.

abbrev Grows : Loading → Type 0
Grows Loads = (chain : List Begun) (read : List (List ℕ)) (name : List ℕ) (after : List (List ℕ)) (items : List Item) → Loads chain read name after items → length read ≤ length after

becoming-grows : (Loads : Loading) → Grows Loads → (chain : List Begun) (read : List (List ℕ)) (item : Item) (include : Option (At × List ℕ)) (after : List (List ℕ)) (items : List Item) →
    Becomes Loads chain read item include after items → length read ≤ length after
becoming-grows Loads grow chain read item None after items h = omega (arith, ap length h.0)
becoming-grows Loads grow chain read item (Some (at, name)) after items (inl ended) = omega (arith, ap length ended.1)
becoming-grows Loads grow chain read item (Some (at, name)) after items (inr new) = grow chain read name after items new.1

all-grow : (Loads : Loading) → Grows Loads → (chain : List Begun) (read : List (List ℕ)) (source : List Item) (after : List (List ℕ)) (items : List Item) →
    AllBecome Loads chain read source after items → length read ≤ length after
all-grow Loads grow chain read [] after items h = omega (arith, ap length h.0)
all-grow Loads grow chain read (first ∷ more) after items (between, one, rest, becomes, all, is) =
    omega (arith, becoming-grows Loads grow chain read first (include_of first.decl) between one becomes, all-grow Loads grow chain between more after rest all)

loading-grows : (files : Files) (deeper : ℕ) → Grows (Loads files deeper)
loading-grows files zero chain read name after items h = absurd h
loading-grows files (suc deeper) chain read name after items (source, few, is, no_header, all) =
    let inside = all-grow (Loads files deeper) (loading-grows files deeper) (and_next files chain read name) (read ++ name ∷ []) source.items after items all in
    omega (arith, longer read name after inside)

-- the place of the name in an include is one of its places
include-at : (P : At → Type 0) (d : Decl) → EachPlaceInDeclaration P (declaration_of d) → If (λ (include : At × List ℕ). P include.0) (include_of d)
include-at P (Include at file) h = h
include-at P _ h = tt

-- All places are in so many files from `base` on, where no more files are read.
module _ (seen : Seen) (base count : ℕ) where
  abbrev IsPlace : At → Type 0
  IsPlace at = IsAmongFiles base count at

  abbrev ArePlaces : List Item → Type 0
  ArePlaces items = Each (EachPlaceInItem IsPlace) items

  -- a file that is read is one of them
  here : (read : ℕ) → read < count → (place : ℕ) → IsPlace (record { file = base + read; place = place })
  here read few place = (omega arith, omega (arith, few))

  abbrev PlacesLoading : Loading → Type 0
  PlacesLoading Loads = (chain : List Begun) (read : List (List ℕ)) (name : List ℕ) (after : List (List ℕ)) (items : List Item) → length after ≤ count → Loads chain read name after items → ArePlaces items

  becoming-placed : (Loads : Loading) → PlacesLoading Loads → (chain : List Begun) (read : List (List ℕ)) (item : Item) (include : Option (At × List ℕ)) (after : List (List ℕ)) (items : List Item) →
      length after ≤ count → EachPlaceInItem IsPlace item → Becomes Loads chain read item include after items → ArePlaces items
  becoming-placed Loads place chain read item None after items few h (none, is) = subst ArePlaces (sym is) (h, tt)
  becoming-placed Loads place chain read item (Some (at, name)) after items few h (inl (ended, none, is)) = subst ArePlaces (sym is) tt
  becoming-placed Loads place chain read item (Some (at, name)) after items few h (inr new) = place chain read name after items few new.1

  all-placed : (Loads : Loading) → Grows Loads → PlacesLoading Loads → (chain : List Begun) (read : List (List ℕ)) (source : List Item) (after : List (List ℕ)) (items : List Item) →
      length after ≤ count → ArePlaces source → AllBecome Loads chain read source after items → ArePlaces items
  all-placed Loads grow place chain read [] after items few h (none, is) = subst ArePlaces (sym is) tt
  all-placed Loads grow place chain read (first ∷ more) after items few h (between, one, rest, becomes, all, is) =
      let fewer : length between ≤ count = omega (arith, few, all-grow Loads grow chain between more after rest all) in
      subst ArePlaces (sym is) (each-append (EachPlaceInItem IsPlace) one rest
      (becoming-placed Loads place chain read first (include_of first.decl) between one fewer h.0 becomes)
      (all-placed Loads grow place chain between more after rest few h.1 all))

  loading-placed : (deeper : ℕ) → PlacesLoading (Loads (files_of seen base) deeper)
  loading-placed zero chain read name after items few h = absurd h
  loading-placed (suc deeper) chain read name after items few (source, fewer, is, no_header, all) =
      let files = files_of seen base in
      let grown = all-grow (Loads files deeper) (loading-grows files deeper) (and_next files chain read name) (read ++ name ∷ []) source.items after items all in
      let within : length read < count = omega (arith, few, longer read name after grown) in
      all-placed (Loads files deeper) (loading-grows files deeper) (loading-placed deeper) (and_next files chain read name) (read ++ name ∷ []) source.items after items few
      (source-placed IsPlace (base + length read) (here (length read) within) is.0 source is.2) all

  -- refusals

  unread-told : (named : Option At) (name : List ℕ) (refusal : Refusal) → If IsPlace named → IsUnread seen named name refusal → IsToldAt IsPlace refusal
  unread-told named name (refusals.FileMissing at missing) h unread = (tt, subst (If IsPlace) (sym unread.0) h)
  unread-told named name (refusals.FileSize long limit) h unread = (tt, tt)
  unread-told named name (refusals.ReadFault unread) h is = (tt, tt)
  unread-told named name refusal h unread = absurd unread

  header-told : (header : Option (At × Mode)) (refusal : Refusal) → HeaderAt IsPlace header → IsHeaderFault header refusal → IsToldAt IsPlace refusal
  header-told None refusal h fault = absurd fault
  header-told (Some (at, mode)) refusal h fault = subst (IsToldAt IsPlace) (sym fault) (tt, h)

  -- the refusal of a new file, by then so many files are read
  abbrev Tells : Stopping → Type 0
  Tells IsRefused = (chain : List Begun) (read : List (List ℕ)) (at : At) (name : List ℕ) (refusal : Refusal) (after : List (List ℕ)) → length after ≤ count → IsPlace at →
      IsRefused chain read at name refusal after → IsToldAt IsPlace refusal

  abbrev GrowsBy : Stopping → Type 0
  GrowsBy IsRefused = (chain : List Begun) (read : List (List ℕ)) (at : At) (name : List ℕ) (refusal : Refusal) (after : List (List ℕ)) → IsRefused chain read at name refusal after → length read ≤ length after

  stop-grows : (IsRefused : Stopping) → GrowsBy IsRefused → (chain : List Begun) (read : List (List ℕ)) (include : Option (At × List ℕ)) (refusal : Refusal) (after : List (List ℕ)) →
      Stops IsRefused chain read include refusal after → length read ≤ length after
  stop-grows IsRefused grow chain read None refusal after h = absurd h
  stop-grows IsRefused grow chain read (Some (at, name)) refusal after (inl cycle) = omega (arith, ap length cycle.2)
  stop-grows IsRefused grow chain read (Some (at, name)) refusal after (inr new) = grow chain read at name refusal after new.1

  one-stop-grows : (Loads : Loading) (IsRefused : Stopping) → Grows Loads → GrowsBy IsRefused → (chain : List Begun) (read : List (List ℕ)) (source : List Item) (refusal : Refusal) (after : List (List ℕ)) →
      OneStops Loads IsRefused chain read source refusal after → length read ≤ length after
  one-stop-grows Loads IsRefused grow grow_by chain read [] refusal after h = absurd h
  one-stop-grows Loads IsRefused grow grow_by chain read (first ∷ more) refusal after (inl stops) =
      stop-grows IsRefused grow_by chain read (include_of first.decl) refusal after stops
  one-stop-grows Loads IsRefused grow grow_by chain read (first ∷ more) refusal after (inr (between, one, becomes, later)) =
      omega (arith, becoming-grows Loads grow chain read first (include_of first.decl) between one becomes, one-stop-grows Loads IsRefused grow grow_by chain between more refusal after later)

  refusing-grows : (deeper : ℕ) → GrowsBy (IsRefused (files_of seen base) deeper)
  refusing-grows zero chain read at name refusal after h = omega (arith, ap length h.1)
  refusing-grows (suc deeper) chain read at name refusal after (inl many) = omega (arith, ap length many.2)
  refusing-grows (suc deeper) chain read at name refusal after (inr (few, inl unread)) = omega (arith, ap length unread.1)
  refusing-grows (suc deeper) chain read at name refusal after (inr (few, inr (inl none))) = omega (arith, ap length none.1, length-append read (name ∷ []))
  refusing-grows (suc deeper) chain read at name refusal after (inr (few, inr (inr (source, is, inl header)))) = omega (arith, ap length header.1, length-append read (name ∷ []))
  refusing-grows (suc deeper) chain read at name refusal after (inr (few, inr (inr (source, is, inr (no_header, stops))))) =
      let files = files_of seen base in
      let inside = one-stop-grows (Loads files deeper) (IsRefused files deeper) (loading-grows files deeper) (refusing-grows deeper) (and_next files chain read name) (read ++ name ∷ []) source.items refusal after stops in
      omega (arith, longer read name after inside)

  stop-told : (IsRefused : Stopping) → Tells IsRefused → (chain : List Begun) (read : List (List ℕ)) (include : Option (At × List ℕ)) (refusal : Refusal) (after : List (List ℕ)) →
      length after ≤ count → If (λ (include : At × List ℕ). IsPlace include.0) include → Stops IsRefused chain read include refusal after → IsToldAt IsPlace refusal
  stop-told IsRefused tell chain read None refusal after few h stops = absurd stops
  stop-told IsRefused tell chain read (Some (at, name)) refusal after few h (inl cycle) = subst (IsToldAt IsPlace) (sym cycle.1) (tt, h)
  stop-told IsRefused tell chain read (Some (at, name)) refusal after few h (inr new) = tell chain read at name refusal after few h new.1

  one-told : (Loads : Loading) (IsRefused : Stopping) → Tells IsRefused → (chain : List Begun) (read : List (List ℕ)) (source : List Item) (refusal : Refusal) (after : List (List ℕ)) →
      length after ≤ count → ArePlaces source → OneStops Loads IsRefused chain read source refusal after → IsToldAt IsPlace refusal
  one-told Loads IsRefused tell chain read [] refusal after few h stops = absurd stops
  one-told Loads IsRefused tell chain read (first ∷ more) refusal after few h (inl stops) =
      stop-told IsRefused tell chain read (include_of first.decl) refusal after few (include-at IsPlace first.decl h.0.1) stops
  one-told Loads IsRefused tell chain read (first ∷ more) refusal after few h (inr (between, one, becomes, later)) = one-told Loads IsRefused tell chain between more refusal after few h.1 later

  next-within : (read : List (List ℕ)) (name : List ℕ) (after : List (List ℕ)) → length after ≤ count → length (read ++ name ∷ []) ≤ length after → length read < count
  next-within read name after few grown = omega (arith, few, longer read name after grown)

  refusing-told : (deeper : ℕ) → Tells (IsRefused (files_of seen base) deeper)
  refusing-told zero chain read at name refusal after few h is = subst (IsToldAt IsPlace) (sym is.0) (tt, h)
  refusing-told (suc deeper) chain read at name refusal after few h (inl many) = subst (IsToldAt IsPlace) (sym many.1) (tt, h)
  refusing-told (suc deeper) chain read at name refusal after few h (inr (fewer, inl unread)) = unread-told (Some at) name refusal h unread.0
  refusing-told (suc deeper) chain read at name refusal after few h (inr (fewer, inr (inl none))) =
      let within = next-within read name after few (omega (arith, ap length none.1)) in
      none-told IsPlace (base + length read) (here (length read) within) none.0.0 refusal none.0.2
  refusing-told (suc deeper) chain read at name refusal after few h (inr (fewer, inr (inr (source, is, inl header)))) =
      let within = next-within read name after few (omega (arith, ap length header.1)) in
      header-told source.header refusal (header-placed IsPlace (base + length read) (here (length read) within) is.0 source is.2) header.0
  refusing-told (suc deeper) chain read at name refusal after few h (inr (fewer, inr (inr (source, is, inr (no_header, stops))))) =
      let files = files_of seen base in
      let inside = one-stop-grows (Loads files deeper) (IsRefused files deeper) (loading-grows files deeper) (refusing-grows deeper) (and_next files chain read name) (read ++ name ∷ []) source.items refusal after stops in
      let within = next-within read name after few inside in
      one-told (Loads files deeper) (IsRefused files deeper) (refusing-told deeper) (and_next files chain read name) (read ++ name ∷ []) source.items refusal after few
      (source-placed IsPlace (base + length read) (here (length read) within) is.0 source is.2) stops

  -- the main file
  main : 1 ≤ count → (place : ℕ) → IsPlace (record { file = base; place = place })
  main some place = (omega arith, omega (arith, some))

  load-told : (name : List ℕ) (refusal : Refusal) (read : List (List ℕ)) → length read ≤ count → IsRefusedLoad (files_of seen base) name refusal read → IsToldAt IsPlace refusal
  load-told name refusal read few (inl unread) = unread-told None name refusal tt unread.0
  load-told name refusal read few (inr (inl none)) =
      let some : 1 ≤ count = omega (arith, few, ap length none.1) in
      none-told IsPlace base (main some) none.0.0 refusal none.0.2
  load-told name refusal read few (inr (inr (source, is, stops))) =
      let files = files_of seen base in
      let grown = one-stop-grows (Loads files greatest_depth) (IsRefused files greatest_depth) (loading-grows files greatest_depth) (refusing-grows greatest_depth) (and_next files [] [] name) (name ∷ []) source.items refusal read stops in
      let some : 1 ≤ count = omega (arith, few, grown) in
      one-told (Loads files greatest_depth) (IsRefused files greatest_depth) (refusing-told greatest_depth) (and_next files [] [] name) (name ∷ []) source.items refusal read few
      (source-placed IsPlace base (main some) is.0 source is.2) stops

  pub source-loaded : (name : List ℕ) (loaded : Loaded) → length loaded.files ≤ count → IsLoaded (files_of seen base) name loaded → ArePlaces loaded.items
  source-loaded name loaded few h =
      let files = files_of seen base in
      let grown = all-grow (Loads files greatest_depth) (loading-grows files greatest_depth) (and_next files [] [] name) (name ∷ []) h.source.items loaded.files loaded.items h.items in
      let some : 1 ≤ count = omega (arith, few, grown) in
      all-placed (Loads files greatest_depth) (loading-grows files greatest_depth) (loading-placed greatest_depth) (and_next files [] [] name) (name ∷ []) h.source.items loaded.files loaded.items few
      (source-placed IsPlace base (main some) h.is.0 h.source h.is.2) h.items

pub loaded-sources : LoadedSourcesHavePlaces
loaded-sources seen base name loaded h = source-loaded seen base (length loaded.files) name loaded (omega arith) h

pub refused-loads : RefusedLoadsAreTold
refused-loads seen before name refusal read h = told-over before read refusal (load-told seen (length before) (length read) name refusal read (omega arith) h)

-- a text by itself

alone : (place : ℕ) → IsAmongFiles 0 1 (record { file = 0; place = place })
alone place = (omega arith, omega arith)

pub loaded-texts : LoadedTextsHavePlaces
loaded-texts name bytes loaded h =
    subst (λ files. Each (EachPlaceInItem (IsAmongFiles 0 (length files))) loaded.items) (sym h.files)
    (subst (λ items. Each (EachPlaceInItem (IsAmongFiles 0 1)) items) (sym h.items) (source-placed (IsAmongFiles 0 1) 0 alone bytes h.source h.reads))

first-at : (include : Option (At × List ℕ)) (later : Option At) → If (λ (include : At × List ℕ). IsAmongFiles 0 1 include.0) include → If (IsAmongFiles 0 1) later → If (IsAmongFiles 0 1) (place_or include later)
first-at None later h k = k
first-at (Some (at, name)) later h k = h

first-include-at : (items : List Item) → Each (EachPlaceInItem (IsAmongFiles 0 1)) items → If (IsAmongFiles 0 1) (first_include items)
first-include-at [] h = tt
first-include-at (item ∷ more) h = first-at (include_of item.decl) (first_include more) (include-at (IsAmongFiles 0 1) item.decl h.0.1) (first-include-at more h.1)

text-told : (bytes : List ℕ) (refusal : Refusal) → IsRefusedText bytes refusal → IsToldAt (IsAmongFiles 0 1) refusal
text-told bytes refusal (inl none) = none-told (IsAmongFiles 0 1) 0 alone bytes refusal none
text-told bytes refusal (inr (source, at, reads, first, is)) =
    subst (IsToldAt (IsAmongFiles 0 1)) (sym is) (tt, subst (If (IsAmongFiles 0 1)) first (first-include-at source.items (source-placed (IsAmongFiles 0 1) 0 alone bytes source reads)))

pub refused-texts : RefusedTextsAreTold
refused-texts name bytes refusal h = told-over [] (name ∷ []) refusal (text-told bytes refusal h)
