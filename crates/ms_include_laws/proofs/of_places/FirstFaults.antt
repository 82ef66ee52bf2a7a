-- The first fault of a source stands at one of its places.
use Rattle.std.proofs.Common.{List, [], ◌∷◌, ◌++◌, length, map, Option, Some, None, sym, subst}
use Rattle.std.specs.Prelude.{flat_map}
use Rattle.ms_list.specs.declared.at.At.{At}
use Rattle.ms_edge.specs.declared.refusal.Refusal.{Refusal}
use Rattle.ms_logic.specs.declared.source.Loaded.{Loaded}
use Rattle.ms_logic.specs.declared.source.PlacedInt.{PlacedInt}
use Rattle.ms_names_rules.specs.declared.fault.Fault.{Fault}
use Rattle.ms_names_rules.specs.Scope.{Bytes, Scope}
use Rattle.ms_parse_grammar.specs.Tree.{Declaration, variables, constant, predicate, goal, Declared}
use Rattle.ms_names_rules.specs.Checking.{IsFirstFault}
use Rattle.ms_names_rules.specs.Constant.{Sum, sums_to, leaves_range, has_no_value, sum_from}
use Rattle.ms_names_rules.specs.Declarations.{Known, after_declaration, at_the_beginning, declared_names, exports_in, faults_in, faults_of_declaration, faults_of_sum, faults_of_title, first_fault_from, occurrences_in, or_later, title_in}
use Rattle.ms_names_rules.specs.Fault.{first_fault}
use Rattle.ms_logic.specs.Lists.{Each}
use Rattle.ms_names_rules.specs.Rules.{faults_at, faults_of_bounds, faults_of_exports, faults_of_placed, faults_of_repeat}
use Rattle.ms_parse_grammar.specs.View.{declared_of}
use Rattle.ms_names_rules.proofs.Fitting.{If}
use Rattle.ms_include_laws.specs.inner.places.Laws.{FirstFaultsAreTold}
use Rattle.ms_include_laws.specs.inner.places.Places.{EachPlaceInDeclaration, EachPlaceInDeclared, EachPlaceInItem, EachPlaceInSum, IsAmongFiles}
use Rattle.ms_include_laws.proofs.of_places.Faults.{FaultAt, FaultsAt, both-at, bounds-at, export-faults-at, exports-at, fault-told, first-at, number-at, occurrences-at, repeat-at}
use Rattle.ms_include_laws.proofs.of_places.Refused.{IsToldAt, told-over}
use Rattle.ms_include_laws.proofs.of_places.Declarations.{items-at, occurrences-stand}

module _ (P : At → Type 0) where
  sum-at : (at : At) (sum : Sum) → P at → FaultsAt P (faults_of_sum at sum)
  sum-at at (sums_to n) h = tt
  sum-at at leaves_range h = (h, tt)
  sum-at at has_no_value h = tt

  numbers-at : (s : Scope) (is : List PlacedInt) → EachPlaceInSum P is → FaultsAt P (flat_map (faults_of_placed s) is)
  numbers-at s [] h = tt
  numbers-at s (i ∷ is) h = both-at P (faults_of_placed s i) (flat_map (faults_of_placed s) is) (number-at P s i h.0) (numbers-at s is h.1)

  declaration-at : (k : Known) (d : Declaration) → EachPlaceInDeclaration P d → FaultsAt P (faults_of_declaration k d)
  declaration-at k (variables vs) h = bounds-at P (declared_names k.scope) vs h
  declaration-at k (constant at n is) h =
      let sum = faults_of_sum at (sum_from k.scope 0 is) in
      let numbers = flat_map (faults_of_placed k.scope) is in
      both-at P (faults_of_repeat at n (declared_names k.scope)) (sum ++ numbers) (repeat-at P at n (declared_names k.scope) h.0)
      (both-at P sum numbers (sum-at at (sum_from k.scope 0 is) h.0) (numbers-at k.scope is h.1))
  declaration-at k (predicate is_pred at n vs e) h =
      both-at P (faults_of_repeat at n (declared_names k.scope)) (faults_of_bounds [] vs) (repeat-at P at n (declared_names k.scope) h.0) (bounds-at P [] vs h.1)
  declaration-at k _ h = tt

  title-at : (earlier : List Bytes) (d : Declaration) → EachPlaceInDeclaration P d → FaultsAt P (faults_of_title earlier (title_in d))
  title-at earlier (goal at title e) h = repeat-at P at title earlier h.0
  title-at earlier _ h = tt

  faults-at : (k : Known) (d : Declaration) → EachPlaceInDeclaration P d → FaultsAt P (faults_in k d)
  faults-at k d h =
      let stands = occurrences-stand P k d h in
      let inside = flat_map faults_at (occurrences_in k d) in
      let exports = faults_of_exports k.files (exports_in k d) in
      both-at P (faults_of_title k.titles (title_in d)) (faults_of_declaration k d ++ (inside ++ exports)) (title-at k.titles d h)
      (both-at P (faults_of_declaration k d) (inside ++ exports) (declaration-at k d h)
      (both-at P inside exports (occurrences-at P (occurrences_in k d) stands) (export-faults-at P k.files (exports_in k d) (exports-at P (occurrences_in k d) stands))))

  later-at : (found later : Option Fault) → If (FaultAt P) found → If (FaultAt P) later → If (FaultAt P) (or_later found later)
  later-at None later h k = k
  later-at (Some f) later h k = h

  pub first-fault-at : (k : Known) (ds : List Declared) → Each (EachPlaceInDeclared P) ds → If (FaultAt P) (first_fault_from k ds)
  first-fault-at k [] h = tt
  first-fault-at k (d ∷ ds) h =
      later-at (first_fault (faults_in k d.declaration)) (first_fault_from (after_declaration k d.declaration) ds) (first-at P (faults_in k d.declaration) (faults-at k d.declaration h.0.1))
      (first-fault-at (after_declaration k d.declaration) ds h.1)

  pub first-told : (loaded : Loaded) (refusal : Refusal) → Each (EachPlaceInItem P) loaded.items → IsFirstFault loaded refusal → IsToldAt P refusal
  first-told loaded refusal h (f, first, is) =
      let ds = map declared_of loaded.items in
      let at = subst (If (FaultAt P)) first (first-fault-at (at_the_beginning loaded.mode ds) ds (items-at P loaded.items h)) in
      subst (IsToldAt P) (sym is) (fault-told P f at)

pub first-faults : FirstFaultsAreTold
first-faults before loaded refusal h fault =
    told-over before loaded.files refusal (first-told (IsAmongFiles (length before) (length loaded.files)) loaded refusal h fault)
