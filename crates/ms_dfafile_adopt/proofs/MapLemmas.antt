-- What names of variables and names of pairs have to do with each other.
use Rattle.std.proofs.Common.{◌≡◌, ◌≢◌, ℕ, zero, suc, ◌+◌, ◌<◌, ⊎_elim, cond, Bool, List, [], ◌∷◌, ◌++◌, take, All, AllPairs, Contains, length, length-append, map, slice_get, slice_index, Option, Some, None, refl, sym, ap, subst, ◌∙◌, arith}
use Rattle.std.specs.Borrow.{Bor}
use Rattle.std.specs.HashMap.{HashMap, Updates, get}
use Rattle.std.specs.Option.{option_map}
use Rattle.std.specs.Str.{bytes_eq}
use Rattle.std.proofs.lemmas.Bool.{cases_Bool, cases_lt, false≢true}
use Rattle.std.proofs.lemmas.List.{length-map}
use Rattle.std.proofs.lemmas.Option.{none-some, same_Some, slice_get-get_or, slice_get-map, slice_get_within, get_or_from_slice_get}
use Rattle.std.proofs.lemmas.Slice.Eq.{bytes_eq-Decides}
use Rattle.ms_arena.proofs.Lists.{slice_get-append_some, slice_get-held, slice_get-push, slice_get-pushed}
use Rattle.ms_logic.specs.declared.checked.MapPair.{MapPair}
use Rattle.ms_dfa.specs.declared.plain.FileVar.{FileVar}
use Rattle.ms_dfa.specs.declared.plain.Plain.{Plain}
use Rattle.ms_dfafile_adopt.proofs.ListLemmas.{taken_more}
use Rattle.ms_dfafile_adopt.specs.Import.{HasVariables, Named, variables_named, variables_of_file}
use Rattle.ms_dfafile_adopt.specs.inner.Map.{ArePlacesOf, FindsName, HaveOrdersAt, IsEachThere, IsIndex, file_names, pair_names}
use Rattle.ms_dfafile_adopt.specs.Naming.{IsNaming}
use Rattle.ms_logic.proofs.Items.{contains_at}

-- the equality of borrowed names
abbrev pub same_bytes : Bor (List ℕ) → Bor (List ℕ) → Bool
same_bytes one other = bytes_eq one.now other.now

-- a name that is found is found among more names
finds_more : (names : List (List ℕ)) (more name : List ℕ) (found : Option ℕ) → more ≢ name → FindsName names name found → FindsName (names ++ more ∷ []) name found
finds_more names more name None other finds = λ place held. ⊎_elim (λ there. finds place there) (λ last. other last.1) (slice_get-pushed names more place name held)
finds_more names more name (Some place) other finds = slice_get-append_some names (more ∷ []) place name finds

-- one name more in a table
pub IsIndex-more : {S : Type 0} (old new : HashMap (Bor (List ℕ)) ℕ S) (names : List (List ℕ)) (key : Bor (List ℕ)) → IsIndex names old → Updates same_bytes old new key (Some (length names))
    → IsIndex (names ++ key.now ∷ []) new
IsIndex-more old new names key were updates name =
    subst (FindsName (names ++ key.now ∷ []) name.now) (sym (updates.0 name)) (⊎_elim
    (λ same.
    let is : key.now ≡ name.now = (bytes_eq-Decides key.now name.now).0 same in
    subst (λ test. FindsName (names ++ key.now ∷ []) name.now (cond test (Some (length names)) (get same_bytes old name))) (sym same)
    (slice_get-push names key.now ∙ ap Some is))
    (λ differs.
    let other : key.now ≢ name.now = λ is. false≢true (sym differs ∙ (bytes_eq-Decides key.now name.now).1 is) in
    subst (λ test. FindsName (names ++ key.now ∷ []) name.now (cond test (Some (length names)) (get same_bytes old name))) (sym differs)
    (finds_more names key.now name.now (get same_bytes old name) other (were name)))
    (cases_Bool (same_bytes key name)))

slice_index-front : (places : List ℕ) (place i : ℕ) → i < length places → slice_index (places ++ place ∷ []) i ≡ slice_index places i
slice_index-front places place i within =
    let held = slice_get-held places i within in
    get_or_from_slice_get (places ++ place ∷ []) i held.0 0 (slice_get-append_some places (place ∷ []) i held.0 held.1) ∙ sym (get_or_from_slice_get places i held.0 0 held.1)

-- one place more
pub ArePlacesOf-more : (names wanted : List (List ℕ)) (places : List ℕ) (name : List ℕ) (place : ℕ) → ArePlacesOf names wanted places → slice_get names place ≡ Some name
    → ArePlacesOf names (wanted ++ name ∷ []) (places ++ place ∷ [])
ArePlacesOf-more names wanted places name place are held = record {
  long = omega (arith, are.long, length-append places (place ∷ []), length-append wanted (name ∷ []));
  there = λ i other at. ⊎_elim
      (λ before.
      let within = slice_get_within wanted i other before in
      let long = are.long in
      ap (slice_get names) (slice_index-front places place i (omega (arith, within, long))) ∙ are.there i other before)
      (λ last.
      let here : slice_index (places ++ place ∷ []) i ≡ place
      = ap (slice_index (places ++ place ∷ [])) (last.0 ∙ sym are.long) ∙ get_or_from_slice_get (places ++ place ∷ []) (length places) place 0 (slice_get-push places place) in
      ap (slice_get names) here ∙ held ∙ ap Some last.1)
      (slice_get-pushed wanted name i other at);
}

-- the orders of one variable more
pub HaveOrdersAt-more : (variables : List FileVar) (pairs : List MapPair) (places : List ℕ) (i : ℕ) (variable : FileVar) (pair : MapPair) → i < length variables
    → slice_get variables i ≡ Some variable → slice_get pairs (slice_index places i) ≡ Some pair → pair.order ≡ variable.order → HaveOrdersAt (take i variables) pairs places
    → HaveOrdersAt (take (i + 1) variables) pairs places
HaveOrdersAt-more variables pairs places i variable pair within held there same were k other its at pair_at = ⊎_elim
    (λ before. were k other its before pair_at)
    (λ last.
    let own : pair ≡ its = same_Some pair its (sym there ∙ ap (λ n. slice_get pairs (slice_index places n)) (sym last.0) ∙ pair_at) in
    sym (ap (λ (p : MapPair). p.order) own) ∙ same ∙ ap (λ (v : FileVar). v.order) last.1)
    (taken_more variables i k variable other within held at)

-- in a list without repeats a name has one place
pub one_place_of : (names : List (List ℕ)) (one two : ℕ) (name : List ℕ) → AllPairs (λ a b. a ≢ b) names → slice_get names one ≡ Some name → slice_get names two ≡ Some name → one ≡ two
one_place_of names one two name different first second = ⊎_elim
    (λ less. absurd (different one two name less (slice_get_within names two name second) (get_or_from_slice_get names one name name first ∙ sym (get_or_from_slice_get names two name name second))))
    (λ least. ⊎_elim
    (λ more. absurd (different two one name more (slice_get_within names one name first) (get_or_from_slice_get names two name name second ∙ sym (get_or_from_slice_get names one name name first))))
    (λ most. let same : one ≡ two = omega (arith, least, most) in same)
    (cases_lt two one))
    (cases_lt one two)

-- an item of a list that is made of another's
pub was_item : {X Y : Type 0} (f : X → Y) (items : List X) (place : ℕ) (y : Y) → slice_get (map f items) place ≡ Some y → (x : X) × (slice_get items place ≡ Some x) × (f x ≡ y)
was_item f [] place y held = absurd (none-some y held)
was_item f (x ∷ items) zero y held = (x, refl, same_Some (f x) y held)
was_item f (x ∷ items) (suc place) y held = was_item f items place y held

pub is_item : {X Y : Type 0} (f : X → Y) (items : List X) (place : ℕ) (x : X) → slice_get items place ≡ Some x → slice_get (map f items) place ≡ Some (f x)
is_item f items place x held = slice_get-map f items place ∙ ap (option_map f) held

-- an item that a list contains stands at a place
contained_at : {X : Type 0} (items : List X) (x : X) → Contains items x → (place : ℕ) × (slice_get items place ≡ Some x)
contained_at items x is = (is.0, slice_get-get_or items is.0 x is.1 ∙ ap Some is.2)

all_contained : {X : Type 0} (some items : List X) → ((place : ℕ) (x : X) → slice_get items place ≡ Some x → Contains some x) → All (Contains some) items
all_contained some items each place d within =
    let held = slice_get-held items place within in
    subst (Contains some) (sym (get_or_from_slice_get items place held.0 d held.1)) (each place held.0 held.1)

each_contained : {X : Type 0} (some items : List X) → All (Contains some) items → (place : ℕ) (x : X) → slice_get items place ≡ Some x → Contains some x
each_contained some items all place x held = subst (Contains some) (get_or_from_slice_get items place x x held) (all place x (slice_get_within items place x held))

abbrev file_variable : FileVar → Named
file_variable variable = record { name = variable.name; order = variable.order }

abbrev pair_variable : MapPair → Named
pair_variable pair = record { name = pair.name; order = pair.order }

module _ (plain : Plain) (pairs : List MapPair) where
  -- the pair of a variable of the file
  pair_of : HasVariables plain pairs → (i : ℕ) (variable : FileVar) → slice_get plain.variables i ≡ Some variable
      → (j : ℕ) × (pair : MapPair) × (slice_get pairs j ≡ Some pair) × (pair_variable pair ≡ file_variable variable)
  pair_of has i variable held =
      let is = contained_at (variables_named pairs) (file_variable variable) (each_contained (variables_named pairs) (variables_of_file plain) has.each i (file_variable variable) (is_item file_variable plain.variables i variable held)) in
      let was = was_item pair_variable pairs is.0 (file_variable variable) is.1 in
      (is.0, was.0, was.1, was.2)

  variable_of : HasVariables plain pairs → (j : ℕ) (pair : MapPair) → slice_get pairs j ≡ Some pair
      → (i : ℕ) × (variable : FileVar) × (slice_get plain.variables i ≡ Some variable) × (file_variable variable ≡ pair_variable pair)
  variable_of has j pair held =
      let is = contained_at (variables_of_file plain) (pair_variable pair) (each_contained (variables_of_file plain) (variables_named pairs) has.only j (pair_variable pair) (is_item pair_variable pairs j pair held)) in
      let was = was_item file_variable plain.variables is.0 (pair_variable pair) is.1 in
      (is.0, was.0, was.1, was.2)

  -- where the pairs name the variables, each name is there in both lists
  pub names_there : HasVariables plain pairs → IsEachThere (pair_names pairs) (file_names plain.variables)
  names_there has i name at =
      let own = was_item (λ (variable : FileVar). variable.name) plain.variables i name at in
      let found = pair_of has i own.0 own.1 in
      (found.0, is_item (λ (pair : MapPair). pair.name) pairs found.0 found.1 found.2 ∙ ap Some (ap (λ (n : Named). n.name) found.3 ∙ own.2))

  pub pairs_there : HasVariables plain pairs → IsEachThere (file_names plain.variables) (pair_names pairs)
  pairs_there has j name at =
      let own = was_item (λ (pair : MapPair). pair.name) pairs j name at in
      let found = variable_of has j own.0 own.1 in
      (found.0, is_item (λ (variable : FileVar). variable.name) plain.variables found.0 found.1 found.2 ∙ ap Some (ap (λ (n : Named). n.name) found.3 ∙ own.2))

  module _ (different : AllPairs (λ one other. one ≢ other) (pair_names pairs)) (places : List ℕ) (are : ArePlacesOf (pair_names pairs) (file_names plain.variables) places) where
    -- the pair at the place of a variable has its name
    pub named_at : (i : ℕ) (variable : FileVar) → slice_get plain.variables i ≡ Some variable
        → (pair : MapPair) × (slice_get pairs (slice_index places i) ≡ Some pair) × (pair.name ≡ variable.name)
    named_at i variable held =
        was_item (λ (pair : MapPair). pair.name) pairs (slice_index places i) variable.name (are.there i variable.name (is_item (λ (v : FileVar). v.name) plain.variables i variable held))

    pub places_within : (i : ℕ) → i < length plain.variables → slice_index places i < length pairs
    places_within i within =
        let held = slice_get-held plain.variables i within in
        let at = named_at i held.0 held.1 in
        slice_get_within pairs (slice_index places i) at.0 at.1

    -- and its order, where the pairs name the variables
    pub orders_there : HasVariables plain pairs → HaveOrdersAt plain.variables pairs places
    orders_there has i variable pair held there =
        let found = pair_of has i variable held in
        let at = named_at i variable held in
        let same : found.0 ≡ slice_index places i
        = one_place_of (pair_names pairs) found.0 (slice_index places i) variable.name different
        (is_item (λ (p : MapPair). p.name) pairs found.0 found.1 found.2 ∙ ap Some (ap (λ (n : Named). n.name) found.3))
        (are.there i variable.name (is_item (λ (v : FileVar). v.name) plain.variables i variable held)) in
        let own : pair ≡ found.1 = same_Some pair found.1 (sym there ∙ ap (slice_get pairs) (sym same) ∙ found.2) in
        ap (λ (p : MapPair). p.order) own ∙ ap (λ (n : Named). n.order) found.3

    pub IsNaming-by : (back : List ℕ) → ArePlacesOf (file_names plain.variables) (pair_names pairs) back → HaveOrdersAt plain.variables pairs places → IsNaming plain pairs places
    IsNaming-by back others orders = record {
      long = are.long ∙ length-map plain.variables (λ (v : FileVar). v.name);
      each = λ i variable held. let at = named_at i variable held in (at.0, at.1, at.2, orders i variable at.0 held at.1);
      only = λ j pair held.
          let was = was_item (λ (v : FileVar). v.name) plain.variables (slice_index back j) pair.name (others.there j pair.name (is_item (λ (p : MapPair). p.name) pairs j pair held)) in
          (slice_index back j, was.0, was.1, was.2);
    }

  -- so the pairs name the variables of the file, and nothing else
  pub HasVariables-by : (places : List ℕ) → AllPairs (λ one other. one ≢ other) (pair_names pairs) → IsNaming plain pairs places → HasVariables plain pairs
  HasVariables-by places different naming = record {
    each = all_contained (variables_named pairs) (variables_of_file plain) (λ i named held.
        let own = was_item file_variable plain.variables i named held in
        let at = naming.each i own.0 own.1 in
        let same : pair_variable at.0 ≡ named = (λ k. record { name = at.2 k; order = at.3 k }) ∙ own.2 in
        contains_at (variables_named pairs) (slice_index places i) named (is_item pair_variable pairs (slice_index places i) at.0 at.1 ∙ ap Some same));
    only = all_contained (variables_of_file plain) (variables_named pairs) (λ j named held.
        let own = was_item pair_variable pairs j named held in
        let found = naming.only j own.0 own.1 in
        let at = naming.each found.0 found.1 found.2 in
        let place : slice_index places found.0 ≡ j
        = one_place_of (pair_names pairs) (slice_index places found.0) j own.0.name different
        (is_item (λ (p : MapPair). p.name) pairs (slice_index places found.0) at.0 at.1 ∙ ap Some (at.2 ∙ found.3)) (is_item (λ (p : MapPair). p.name) pairs j own.0 own.1) in
        let pair : at.0 ≡ own.0 = same_Some at.0 own.0 (sym at.1 ∙ ap (slice_get pairs) place ∙ own.1) in
        let order : found.1.order ≡ own.0.order = sym at.3 ∙ ap (λ (p : MapPair). p.order) pair in
        let same : file_variable found.1 ≡ named = (λ k. record { name = found.3 k; order = order k }) ∙ own.2 in
        contains_at (variables_of_file plain) found.0 named (is_item file_variable plain.variables found.0 found.1 found.2 ∙ ap Some same));
  }
