-- The faults of a source stand at its places.
use Rattle.std.proofs.Common.{ℕ, ◌==◌, Bool, true, false, not, if◌then◌else◌, nat_lt, List, [], ◌∷◌, ◌++◌, length, Option, Some, None}
use Rattle.std.specs.Prelude.{flat_map}
use Rattle.ms_list.specs.declared.at.At.{At}
use Rattle.ms_logic.specs.declared.checked.ExportUse.{ExportUse}
use Rattle.ms_logic.specs.declared.checked.ImportUse.{ImportUse}
use Rattle.ms_logic.specs.declared.mode.Mode.{Mode}
use Rattle.ms_logic.specs.declared.mode.Mode.TheVariants.{Ws1s, M2lStr}
use Rattle.ms_logic.specs.declared.source.Int.{Int}
use Rattle.ms_logic.specs.declared.source.Int.TheVariants.{Number, Constant}
use Rattle.ms_logic.specs.declared.source.PlacedInt.{PlacedInt}
use Rattle.ms_logic.specs.declared.source.Rename.{Rename}
use Rattle.ms_names_rules.specs.declared.fault.Fault.{Fault}
use Rattle.ms_names_rules.specs.declared.fault.Fault.TheVariants.{UnknownName, NamedTwice, WrongOrder, WrongCount, OutOfRange, NotHere}
use Rattle.ms_names_rules.specs.declared.meaning.Meaning.{Meaning}
use Rattle.ms_names_rules.specs.declared.meaning.Meaning.TheVariants as meaning
use Rattle.ms_names_rules.specs.declared.wanted.Wanted.{Wanted}
use Rattle.ms_parse_grammar.specs.Tree.{truth, falsity, whole, empty_set, named, numeral, pconst, imported, Expression, atom, prefixed, binary, joined, shifted, enclosed, listed, quantified, let_in, Variables, no_variables, and_variable, Parts, no_parts, and_part, Atom}
use Rattle.ms_parse_grammar.specs.declared.operator.Bracket.TheVariants.{Parentheses, Emptiness, Restriction, Export}
use Rattle.ms_parse_grammar.specs.declared.operator.Listing.TheVariants.{Literal, Call}
use Rattle.ms_names_rules.specs.Scope.{Bytes, Scope, meaning_of, count}
use Rattle.ms_names_rules.specs.Rules.{place, faults_at, faults_of_bounds, faults_of_call, faults_of_constant, faults_of_export, faults_of_exports, faults_of_form, faults_of_int, faults_of_name, faults_of_names, faults_of_offset, faults_of_order, faults_of_parts, faults_of_placed, faults_of_renames, faults_of_repeat, faults_of_variable, faults_of_whole, first_name_twice, in_case, is_name_among, with_names_of_bounds, with_names_of_parts}
use Rattle.ms_names_rules.specs.Before.{Before}
use Rattle.ms_names_rules.specs.Constant.{greatest_in_terms, value_of}
use Rattle.ms_names_rules.specs.Fault.{comes_before, first_fault, first_of_two, first_with, refusal_of}
use Rattle.ms_logic.specs.Lists.{Each}
use Rattle.ms_names_rules.specs.Occurrence.{Occurrence}
use Rattle.ms_names_rules.specs.Order.{fits, order_of}
use Rattle.ms_names_rules.specs.Uses.{export_at, export_of_form, import_at, import_of_form}
use Rattle.ms_names_rules.proofs.Fitting.{If, each-append}
use Rattle.ms_include_laws.specs.inner.places.Places.{EachPlaceIn, EachPlaceInBounds, EachPlaceInParts, EachPlaceInRenames}
use Rattle.ms_include_laws.proofs.of_places.Occurrences.{StandsAt}
use Rattle.ms_include_laws.proofs.of_places.Reading.{place-at}
use Rattle.ms_include_laws.proofs.of_places.Refused.{IsToldAt}
use Rattle.ms_parse_grammar.specs.declared.operator.Bracket.{Bracket}

module _ (P : At → Type 0) where
  -- P holds of the place of a fault
  abbrev pub FaultAt : Fault → Type 0
  FaultAt (UnknownName at n) = P at
  FaultAt (NamedTwice at n) = P at
  FaultAt (WrongOrder at) = P at
  FaultAt (WrongCount at n given wanted) = P at
  FaultAt (OutOfRange at) = P at
  FaultAt (NotHere at) = P at

  pub fault-told : (f : Fault) → FaultAt f → IsToldAt P (refusal_of f)
  fault-told (UnknownName at n) h = (tt, h)
  fault-told (NamedTwice at n) h = (tt, h)
  fault-told (WrongOrder at) h = (tt, h)
  fault-told (WrongCount at n given wanted) h = (tt, h)
  fault-told (OutOfRange at) h = (tt, h)
  fault-told (NotHere at) h = (tt, h)

  -- P holds of the places of all these
  abbrev pub FaultsAt : List Fault → Type 0
  FaultsAt fs = Each FaultAt fs

  pub both-at : (fs gs : List Fault) → FaultsAt fs → FaultsAt gs → FaultsAt (fs ++ gs)
  both-at fs gs h k = each-append FaultAt fs gs h k

  case-at : (b : Bool) (f : Fault) → FaultAt f → FaultsAt (in_case b f)
  case-at true f h = (h, tt)
  case-at false f h = tt

  unless-at : (b : Bool) (f : Fault) → FaultAt f → FaultsAt (if b then [] else f ∷ [])
  unless-at true f h = tt
  unless-at false f h = (h, tt)

  -- the forms of expressions

  name-at : (at : At) (n : Bytes) (m : Option Meaning) → P at → FaultsAt (faults_of_name at n m)
  name-at at n None h = (h, tt)
  name-at at n (Some (meaning.Variable x o)) h = tt
  name-at at n (Some (meaning.Constant value)) h = case-at (nat_lt greatest_in_terms value) (OutOfRange at) h
  name-at at n (Some (meaning.Predicate p parameters)) h = case-at (nat_lt 0 (length parameters)) (WrongCount at n 0 (length parameters)) h

  call-at : (at : At) (n : Bytes) (given : ℕ) (m : Option Meaning) → P at → FaultsAt (faults_of_call at n given m)
  call-at at n given None h = (h, tt)
  call-at at n given (Some (meaning.Variable x o)) h = (h, tt)
  call-at at n given (Some (meaning.Constant value)) h = (h, tt)
  call-at at n given (Some (meaning.Predicate p parameters)) h = unless-at (given == length parameters) (WrongCount at n given (length parameters)) h

  constant-at : (at : At) (n : Bytes) (m : Option Meaning) → P at → FaultsAt (faults_of_constant at n m)
  constant-at at n None h = (h, tt)
  constant-at at n (Some (meaning.Variable x o)) h = (h, tt)
  constant-at at n (Some (meaning.Constant value)) h = tt
  constant-at at n (Some (meaning.Predicate p parameters)) h = (h, tt)

  int-at : (s : Scope) (at : At) (i : Int) → P at → FaultsAt (faults_of_int s at i)
  int-at s at (Number n) h = tt
  int-at s at (Constant n) h = constant-at at n (meaning_of s n) h

  pub number-at : (s : Scope) (i : PlacedInt) → P i.at → FaultsAt (faults_of_placed s i)
  number-at s i h = int-at s i.at i.value h

  offset-at : (at : At) (value : Option ℕ) → P at → FaultsAt (faults_of_offset at value)
  offset-at at None h = tt
  offset-at at (Some n) h = case-at (nat_lt greatest_in_terms n) (OutOfRange at) h

  whole-at : (mode : Mode) (at : At) → P at → FaultsAt (faults_of_whole mode at)
  whole-at Ws1s at h = (h, tt)
  whole-at M2lStr at h = tt

  pub repeat-at : (at : At) (n : Bytes) (earlier : List Bytes) → P at → FaultsAt (faults_of_repeat at n earlier)
  repeat-at at n earlier h = case-at (is_name_among n earlier) (NamedTwice at n) h

  pub bounds-at : (earlier : List Bytes) (vs : Variables) → EachPlaceInBounds P vs → FaultsAt (faults_of_bounds earlier vs)
  bounds-at earlier no_variables h = tt
  bounds-at earlier (and_variable vs at o n d) h =
      let names = with_names_of_bounds earlier vs in
      both-at (faults_of_bounds earlier vs) (faults_of_repeat at n names) (bounds-at earlier vs h.0) (repeat-at at n names h.1)

  parts-at : (earlier : List Bytes) (ps : Parts) → EachPlaceInParts P ps → FaultsAt (faults_of_parts earlier ps)
  parts-at earlier no_parts h = tt
  parts-at earlier (and_part ps at n e) h =
      let names = with_names_of_parts earlier ps in
      both-at (faults_of_parts earlier ps) (faults_of_repeat at n names) (parts-at earlier ps h.0) (repeat-at at n names h.1)

  variable-at : (at : At) (n : Bytes) (m : Option Meaning) → P at → FaultsAt (faults_of_variable at n m)
  variable-at at n None h = (h, tt)
  variable-at at n (Some (meaning.Variable x o)) h = tt
  variable-at at n (Some (meaning.Constant value)) h = (h, tt)
  variable-at at n (Some (meaning.Predicate p parameters)) h = (h, tt)

  renames-at : (s : Scope) (lefts rights : List Bytes) (rs : List Rename) → EachPlaceInRenames P rs → FaultsAt (faults_of_renames s lefts rights rs)
  renames-at s lefts rights [] h = tt
  renames-at s lefts rights (r ∷ rs) h =
      let variable = faults_of_variable r.at_right r.right (meaning_of s r.right) in
      let repeats = faults_of_repeat r.at_right r.right rights in
      let more = faults_of_renames s (r.left ∷ lefts) (r.right ∷ rights) rs in
      both-at (faults_of_repeat r.at r.left lefts) (variable ++ (repeats ++ more)) (repeat-at r.at r.left lefts h.0.0)
      (both-at variable (repeats ++ more) (variable-at r.at_right r.right (meaning_of s r.right) h.0.1)
      (both-at repeats more (repeat-at r.at_right r.right rights h.0.1) (renames-at s (r.left ∷ lefts) (r.right ∷ rights) rs h.1)))

  atom-at : (s : Scope) (at : At) (a : Atom) → EachPlaceIn P (atom at a) → FaultsAt (faults_of_form s (atom at a))
  atom-at s at truth h = tt
  atom-at s at falsity h = tt
  atom-at s at whole h = whole-at s.mode at h.0
  atom-at s at empty_set h = tt
  atom-at s at (named n) h = name-at at n (meaning_of s n) h.0
  atom-at s at (numeral n) h = case-at (nat_lt greatest_in_terms n) (OutOfRange at) h.0
  atom-at s at (pconst i) h = number-at s i h.1
  atom-at s at (imported file rs) h = renames-at s [] [] rs h.1

  bracket-at : (s : Scope) (at : At) (k : Bracket) (e : Expression) → P at → FaultsAt (faults_of_form s (enclosed at k e))
  bracket-at s at Parentheses e h = tt
  bracket-at s at Emptiness e h = tt
  bracket-at s at Restriction e h = tt
  bracket-at s at (Export text_at file) e h = case-at (not s.exports_allowed) (NotHere at) h

  form-at : (s : Scope) (e : Expression) → EachPlaceIn P e → FaultsAt (faults_of_form s e)
  form-at s (atom at a) h = atom-at s at a h
  form-at s (prefixed at op e) h = tt
  form-at s (binary at op e f) h = tt
  form-at s (joined at op es) h = tt
  form-at s (shifted at e i) h = both-at (faults_of_placed s i) (faults_of_offset i.at (value_of s i)) (number-at s i h.2) (offset-at i.at (value_of s i) h.2)
  form-at s (enclosed at k e) h = bracket-at s at k e h.0
  form-at s (listed at Literal es) h = tt
  form-at s (listed at (Call n) es) h = call-at at n (count es) (meaning_of s n) h.0
  form-at s (quantified at q o vs e) h = bounds-at [] vs h.1
  form-at s (let_in at o ps e) h = parts-at [] ps h.1

  order-at : (s : Scope) (w : Wanted) (e : Expression) → EachPlaceIn P e → FaultsAt (faults_of_order s w e)
  order-at s w e h = unless-at (fits w (order_of s e)) (WrongOrder (place e)) (place-at P e h)

  occurrence-at : (o : Occurrence) → StandsAt P o → FaultsAt (faults_at o)
  occurrence-at o h =
      both-at (faults_of_order o.scope o.wanted o.expression) (faults_of_form o.scope o.expression) (order-at o.scope o.wanted o.expression h) (form-at o.scope o.expression h)

  pub occurrences-at : (os : List Occurrence) → Each (StandsAt P) os → FaultsAt (flat_map faults_at os)
  occurrences-at [] h = tt
  occurrences-at (o ∷ os) h = both-at (faults_at o) (flat_map faults_at os) (occurrence-at o h.0) (occurrences-at os h.1)

  -- imports and exports

  abbrev pub ImportAt : ImportUse → Type 0
  ImportAt used = P used.at

  abbrev pub ExportAt : ExportUse → Type 0
  ExportAt used = P used.at

  import-at : (s : Scope) (e : Expression) → EachPlaceIn P e → Each ImportAt (import_of_form s e)
  import-at s (atom at truth) h = tt
  import-at s (atom at falsity) h = tt
  import-at s (atom at whole) h = tt
  import-at s (atom at empty_set) h = tt
  import-at s (atom at (named n)) h = tt
  import-at s (atom at (numeral n)) h = tt
  import-at s (atom at (pconst i)) h = tt
  import-at s (atom at (imported file rs)) h = (h.0, tt)
  import-at s (prefixed at op e) h = tt
  import-at s (binary at op e f) h = tt
  import-at s (joined at op es) h = tt
  import-at s (shifted at e i) h = tt
  import-at s (enclosed at k e) h = tt
  import-at s (listed at l es) h = tt
  import-at s (quantified at q o vs e) h = tt
  import-at s (let_in at o ps e) h = tt

  export-at : (s : Scope) (b : Before) (e : Expression) → EachPlaceIn P e → Each ExportAt (export_of_form s b e)
  export-at s b (atom at a) h = tt
  export-at s b (prefixed at op e) h = tt
  export-at s b (binary at op e f) h = tt
  export-at s b (joined at op es) h = tt
  export-at s b (shifted at e i) h = tt
  export-at s b (enclosed at Parentheses e) h = tt
  export-at s b (enclosed at Emptiness e) h = tt
  export-at s b (enclosed at Restriction e) h = tt
  export-at s b (enclosed at (Export text_at file) e) h = (h.1, tt)
  export-at s b (listed at l es) h = tt
  export-at s b (quantified at q o vs e) h = tt
  export-at s b (let_in at o ps e) h = tt

  pub imports-at : (os : List Occurrence) → Each (StandsAt P) os → Each ImportAt (flat_map import_at os)
  imports-at [] h = tt
  imports-at (o ∷ os) h = each-append ImportAt (import_at o) (flat_map import_at os) (import-at o.scope o.expression h.0) (imports-at os h.1)

  pub exports-at : (os : List Occurrence) → Each (StandsAt P) os → Each ExportAt (flat_map export_at os)
  exports-at [] h = tt
  exports-at (o ∷ os) h = each-append ExportAt (export_at o) (flat_map export_at os) (export-at o.scope o.before o.expression h.0) (exports-at os h.1)

  -- the faults of exports stand at their texts

  names-at : (at : At) (n : Option Bytes) → P at → FaultsAt (faults_of_names at n)
  names-at at None h = tt
  names-at at (Some n) h = (h, tt)

  one-export-at : (b : Bool) (x : ExportUse) (n : Option Bytes) → P x.at → FaultsAt (if b then NamedTwice x.at x.name ∷ [] else faults_of_names x.at n)
  one-export-at true x n h = (h, tt)
  one-export-at false x n h = names-at x.at n h

  pub export-faults-at : (earlier : List Bytes) (xs : List ExportUse) → Each ExportAt xs → FaultsAt (faults_of_exports earlier xs)
  export-faults-at earlier [] h = tt
  export-faults-at earlier (x ∷ xs) h =
      both-at (faults_of_export earlier x) (faults_of_exports (x.name ∷ earlier) xs) (one-export-at (is_name_among x.name earlier) x (first_name_twice x.names) h.0)
      (export-faults-at (x.name ∷ earlier) xs h.1)

  -- the first fault of a list is one of them

  abbrev IfFault : Option Fault → Type 0
  IfFault found = If FaultAt found

  chosen-at : (b : Bool) (f g : Fault) → FaultAt f → FaultAt g → IfFault (if b then Some f else Some g)
  chosen-at true f g h k = h
  chosen-at false f g h k = k

  first-of-two-at : (known : Option Fault) (f : Fault) → IfFault known → FaultAt f → IfFault (first_of_two known f)
  first-of-two-at None f h k = k
  first-of-two-at (Some known) f h k = chosen-at (comes_before f known) f known k h

  first-with-at : (known : Option Fault) (fs : List Fault) → IfFault known → FaultsAt fs → IfFault (first_with known fs)
  first-with-at known [] h k = h
  first-with-at known (f ∷ fs) h k = first-with-at (first_of_two known f) fs (first-of-two-at known f h k.0) k.1

  pub first-at : (fs : List Fault) → FaultsAt fs → IfFault (first_fault fs)
  first-at fs h = first-with-at None fs tt h
