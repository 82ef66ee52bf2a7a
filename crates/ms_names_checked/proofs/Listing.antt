-- The variables of an export are the free variables of its formula.
use Rattle.std.proofs.Common.{◌≡◌, ℕ, ◌<◌, ◌⊎◌, ◌↔◌, inl, inr, ⊎_elim, Bool, true, false, if◌then◌else◌, List, [], ◌∷◌, ◌++◌, map, refl, sym, ap, ◌∙◌}
use Rattle.std.specs.Prelude.{filter, flat_map}
use Rattle.ms_logic.specs.declared.checked.ExportUse.{ExportUse}
use Rattle.ms_logic.specs.Assignment.{Variable}
use Rattle.ms_logic.specs.FreeVariables.{IsListed, IsVariable, Reads}
use Rattle.ms_logic.specs.Lists.{AreRising, IsBelowFirst, Each}
use Rattle.ms_logic_core.specs.Roots.{Export}
use Rattle.ms_names_rules.specs.declared.meaning.Meaning.TheVariants as meaning
use Rattle.ms_names_rules.specs.inner.Free.{Readings}
use Rattle.ms_names_rules.specs.Occurrence.{Occurrence}
use Rattle.ms_names_rules.specs.Reads.{reads_variable, readings_at, variables_read, with_predicates}
use Rattle.ms_names_rules.specs.Scope.{Named, Scope, variables_among}
use Rattle.ms_names_rules.proofs.Fitting.{Falls, IsBelow, each-append}
use Rattle.ms_names_checked.proofs.Leading.{Reaches, leads-reach, leads-read, reaches-leads, read-leads}
use Rattle.ms_names_checked.proofs.Scopes.{IsInScope, Names}
use Rattle.ms_names_checked.proofs.Told.{Told}
use Rattle.ms_names_checked.specs.inner.Examples.{holds}

abbrev pub variable_of : Named → Variable
variable_of v = record { name = v.number; order = v.order }

-- the numbers of a list

numbers-kept : (vs : List Named) → map (λ (v : Named). v.number) vs ≡ map (λ (w : Variable). w.name) (map variable_of vs)
numbers-kept [] = refl
numbers-kept (v ∷ vs) = ap (λ xs. v.number ∷ xs) (numbers-kept vs)

-- they rise, each below all that follow

abbrev Rises : List Named → Type 0
Rises [] = Unit {0}
Rises (v ∷ vs) = Each (λ (w : Named). v.number < w.number) vs × Rises vs

rises-behind : (vs : List Named) (v : Named) → Rises vs → Each (λ (w : Named). w.number < v.number) vs → Rises (vs ++ v ∷ [])
rises-behind [] v h below = (tt, tt)
rises-behind (w ∷ vs) v h below = (each-append (λ (u : Named). w.number < u.number) vs (v ∷ []) h.0 (below.0, tt), rises-behind vs v h.1 below.1)

named-below : (x : ℕ) (names : Names) → Each (IsBelow x) names → Each (λ (w : Named). w.number < x) (variables_among names)
named-below x [] h = tt
named-below x ((n, meaning.Variable y o) ∷ outer) h =
    each-append (λ (w : Named). w.number < x) (variables_among outer) (record { number = y; order = o; name = n } ∷ []) (named-below x outer h.1) (h.0, tt)
named-below x ((n, meaning.Constant value) ∷ outer) h = named-below x outer h.1
named-below x ((n, meaning.Predicate p parameters) ∷ outer) h = named-below x outer h.1

named-rises : (names : Names) → Falls names → Rises (variables_among names)
named-rises [] h = tt
named-rises ((n, meaning.Variable x o) ∷ outer) h =
    rises-behind (variables_among outer) (record { number = x; order = o; name = n }) (named-rises outer h.1) (named-below x outer h.0)
named-rises ((n, meaning.Constant value) ∷ outer) h = named-rises outer h
named-rises ((n, meaning.Predicate p parameters) ∷ outer) h = named-rises outer h

each-chosen : (P : Named → Type 0) (here : Bool) (v : Named) (vs : List Named) → P v → Each P vs → Each P (if here then v ∷ vs else vs)
each-chosen P true v vs h k = (h, k)
each-chosen P false v vs h k = k

pub each-filter : (P : Named → Type 0) (test : Named → Bool) (vs : List Named) → Each P vs → Each P (filter test vs)
each-filter P test [] h = tt
each-filter P test (v ∷ vs) h = each-chosen P (test v) v (filter test vs) h.0 (each-filter P test vs h.1)

rises-chosen : (here : Bool) (v : Named) (vs : List Named) → Each (λ (w : Named). v.number < w.number) vs → Rises vs → Rises (if here then v ∷ vs else vs)
rises-chosen true v vs h k = (h, k)
rises-chosen false v vs h k = k

rises-filter : (test : Named → Bool) (vs : List Named) → Rises vs → Rises (filter test vs)
rises-filter test [] h = tt
rises-filter test (v ∷ vs) h =
    rises-chosen (test v) v (filter test vs) (each-filter (λ (w : Named). v.number < w.number) test vs h.0) (rises-filter test vs h.1)

below-first : (x : ℕ) (vs : List Named) → Each (λ (w : Named). x < w.number) vs → IsBelowFirst x (map variable_of vs)
below-first x [] h = tt
below-first x (v ∷ vs) h = h.0

are-rising : (vs : List Named) → Rises vs → AreRising (map variable_of vs)
are-rising [] h = tt
are-rising (v ∷ vs) h = (below-first v.number vs h.0, are-rising vs h.1)

-- those variables in scope are listed that are read

-- a variable is one of a list of names
abbrev IsNamed : List Named → Variable → Type 0
IsNamed [] w = ⊥
IsNamed (v ∷ vs) w = IsVariable v.number v.order w ⊎ IsNamed vs w

named-front : (vs us : List Named) (w : Variable) → IsNamed vs w → IsNamed (vs ++ us) w
named-front [] us w h = absurd h
named-front (v ∷ vs) us w h = ⊎_elim (λ here. inl here) (λ later. inr (named-front vs us w later)) h

named-back : (vs us : List Named) (w : Variable) → IsNamed us w → IsNamed (vs ++ us) w
named-back [] us w h = h
named-back (v ∷ vs) us w h = inr (named-back vs us w h)

named-split : (vs us : List Named) (w : Variable) → IsNamed (vs ++ us) w → IsNamed vs w ⊎ IsNamed us w
named-split [] us w h = inr h
named-split (v ∷ vs) us w h = ⊎_elim (λ here. inl (inl here)) (λ later. ⊎_elim (λ front. inl (inr front)) (λ back. inr back) (named-split vs us w later)) h

in-scope-named : (names : Names) (w : Variable) → IsInScope names w → IsNamed (variables_among names) w
in-scope-named [] w h = absurd h
in-scope-named ((n, meaning.Variable x o) ∷ outer) w h =
    let last : List Named = record { number = x; order = o; name = n } ∷ [] in
    ⊎_elim (λ here. named-back (variables_among outer) last w (inl here)) (λ later. named-front (variables_among outer) last w (in-scope-named outer w later)) h
in-scope-named ((n, meaning.Constant value) ∷ outer) w h = in-scope-named outer w h
in-scope-named ((n, meaning.Predicate p parameters) ∷ outer) w h = in-scope-named outer w h

named-in-scope : (names : Names) (w : Variable) → IsNamed (variables_among names) w → IsInScope names w
named-in-scope [] w h = absurd h
named-in-scope ((n, meaning.Variable x o) ∷ outer) w h =
    let last : List Named = record { number = x; order = o; name = n } ∷ [] in
    ⊎_elim (λ before. inr (named-in-scope outer w before)) (λ here. ⊎_elim (λ is. inl is) (λ none. absurd none) here) (named-split (variables_among outer) last w h)
named-in-scope ((n, meaning.Constant value) ∷ outer) w h = named-in-scope outer w h
named-in-scope ((n, meaning.Predicate p parameters) ∷ outer) w h = named-in-scope outer w h

module _ (test : ℕ → Bool) where
  chosen-listed : (here : Bool) (v : Named) (vs : List Named) (w : Variable) → test v.number ≡ here → IsListed (map variable_of (if here then v ∷ vs else vs)) w →
      (IsVariable v.number v.order w × (test w.name ≡ true)) ⊎ IsListed (map variable_of vs) w
  chosen-listed true v vs w is h = ⊎_elim (λ here. inl (here, ap test here.0 ∙ is)) (λ later. inr later) h
  chosen-listed false v vs w is h = inr h

  listed-chosen : (here : Bool) (v : Named) (vs : List Named) (w : Variable) → test v.number ≡ here → test w.name ≡ true →
      IsVariable v.number v.order w ⊎ IsListed (map variable_of vs) w → IsListed (map variable_of (if here then v ∷ vs else vs)) w
  listed-chosen true v vs w is holds h = h
  listed-chosen false v vs w is holds h = ⊎_elim (λ here. let same : true ≡ false = sym holds ∙ (ap test here.0 ∙ is) in absurd (cc)) (λ later. later) h

  filter-listed : (vs : List Named) (w : Variable) → IsListed (map variable_of (filter (λ (v : Named). test v.number) vs)) w → IsNamed vs w × (test w.name ≡ true)
  filter-listed [] w h = absurd h
  filter-listed (v ∷ vs) w h =
      ⊎_elim (λ here. (inl here.0, here.1)) (λ later. let there = filter-listed vs w later in (inr there.0, there.1))
      (chosen-listed (test v.number) v (filter (λ (v : Named). test v.number) vs) w refl h)

  listed-filter : (vs : List Named) (w : Variable) → IsNamed vs w → test w.name ≡ true → IsListed (map variable_of (filter (λ (v : Named). test v.number) vs)) w
  listed-filter [] w h holds = absurd h
  listed-filter (v ∷ vs) w h holds =
      listed-chosen (test v.number) v (filter (λ (v : Named). test v.number) vs) w refl holds
      (⊎_elim (λ here. inl here) (λ later. inr (listed-filter vs w later holds)) h)

-- the variables that some expressions read of a scope
pub lists-free : (r : Reads) (exports : List ExportUse) (low high : ℕ) (R : List Readings) (s : Scope) (os : List Occurrence) (F : Variable → Type 0) (es : List Export) →
    s.readings ≡ R → Falls s.names → Told r exports low high s.names (Reaches R os) F es →
    (vs : List Variable) × (map (λ (v : Named). v.number) (variables_read s (flat_map readings_at os)) ≡ map (λ (v : Variable). v.name) vs) × AreRising vs
    × ((w : Variable) → IsListed vs w ↔ F w)
lists-free r exports low high R s os F es same falls h =
    let rs = flat_map readings_at os in
    let test : ℕ → Bool = λ x. reads_variable x (with_predicates s.readings rs) in
    let all = variables_among s.names in
    let free = filter (λ (v : Named). test v.number) all in
    let as_here : (x : ℕ) → test x ≡ reads_variable x (with_predicates R rs) = λ x. ap (λ found. reads_variable x (with_predicates found rs)) same in (
      map variable_of free,
      numbers-kept free,
      are-rising free (rises-filter (λ (v : Named). test v.number) all (named-rises s.names falls)),
      λ w. (
        λ listed.
            let there = filter-listed test all w listed in
            h.back w (named-in-scope s.names w there.0) (leads-reach R os w.name (read-leads R w.name rs (sym (as_here w.name) ∙ there.1))),
        λ is_free.
            let there = h.free w is_free in
            listed-filter test all w (in-scope-named s.names w there.1) (as_here w.name ∙ leads-read R w.name rs (reaches-leads R os w.name there.0)),
      ),
    )
