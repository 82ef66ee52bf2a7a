-- Variables have the values that stand beside them, and names those that stand under them.
use Rattle.std.proofs.Common.{◌≡◌, ◌≢◌, ℕ, zero, suc, ◌<◌, true, if◌then◌else◌, List, [], ◌∷◌, AllPairs, length, map, slice_get, Some, refl, sym, ap, subst, ◌∙◌, ⊎_elim, arith}
use Rattle.std.specs.Str.{bytes_eq}
use Rattle.std.proofs.lemmas.Bool.{cases_Bool}
use Rattle.std.proofs.lemmas.Option.{none-some, same_Some, slice_get_within, get_or_from_slice_get}
use Rattle.std.proofs.lemmas.Slice.Eq.{bytes_eq-Decides}
use Rattle.ms_logic.specs.declared.assignment.Value.{Value}
use Rattle.ms_logic.specs.Assignment.{Universe, Env, Variable, GivesEach, IsValueOf, assign, value_at, AreValuesOf}
use Rattle.ms_logic_words.specs.Content.{env_of}
use Rattle.ms_logic.specs.Lists.{AreRising, IsBelowFirst}
use Rattle.ms_logic.proofs.AssignedValues.{value_at-assign, value_at-assign_other}
use Rattle.ms_dfafile_adopt.specs.Import.{value_named}

-- a number below a variable's is below those of the variables behind it
below_next : (x : ℕ) (v : Variable) (vs : List Variable) → x < v.name → IsBelowFirst v.name vs → IsBelowFirst x vs
below_next x v [] below rising = tt
below_next x v (w ∷ vs) below rising = omega (arith, below, rising)

-- the values of variables behind another stay when that one is assigned
later_keep : (x : ℕ) (value : Value) (e : Env) (vs : List Variable) → IsBelowFirst x vs → AreRising vs
    → map (λ v. value_at v.order v.name (assign x value e)) vs ≡ map (λ v. value_at v.order v.name e) vs
later_keep x value e [] below rising = refl
later_keep x value e (v ∷ vs) below rising =
    let first = value_at-assign_other v.order x value v.name e (λ same. omega (arith, below, same)) in
    let others = later_keep x value e vs (below_next x v vs below rising.0) rising.1 in cc

-- variables whose numbers rise have the values that they are given
pub given_values : (universe : Universe) (vs : List Variable) (values : List Value) → AreRising vs → AreValuesOf universe (map (λ v. v.order) vs) values
    → map (λ v. value_at v.order v.name (env_of universe vs values)) vs ≡ values
given_values universe [] [] rising are = refl
given_values universe [] (value ∷ values) rising are = absurd are
given_values universe (v ∷ vs) [] rising are = absurd are
given_values universe (v ∷ vs) (value ∷ values) rising are =
    let e = env_of universe vs values in
    let first = value_at-assign v.order v.name value e universe are.0 in
    let kept = later_keep v.name value e vs rising.0 rising.1 in
    let others = given_values universe vs values rising.1 are.1 in cc

-- what each variable has
pub given_each : (universe : Universe) (e : Env) (vs : List Variable) (values : List Value) → e.universe ≡ universe → map (λ v. value_at v.order v.name e) vs ≡ values → AreValuesOf universe (map (λ v. v.order) vs) values
    → GivesEach vs e
given_each universe e [] values same are_values are = tt
given_each universe e (v ∷ vs) [] same are_values are = absurd are
given_each universe e (v ∷ vs) (value ∷ values) same are_values are =
    let own : value_at v.order v.name e ≡ value = cc in
    let others : map (λ w. value_at w.order w.name e) vs ≡ values = cc in (
      subst (λ u. IsValueOf v.order u (value_at v.order v.name e)) (sym same) (subst (IsValueOf v.order universe) (sym own) are.0),
      given_each universe e vs values same others are.1,
    )

named_more : (first name : List ℕ) (names : List (List ℕ)) (value : Value) (values : List Value) (j : ℕ) (found : Value) → first ≢ name
    → value_named names values name ≡ found → value_named (first ∷ names) (value ∷ values) name ≡ found
named_more first name names value values j found other rest = ⊎_elim
    (λ same. absurd (other ((bytes_eq-Decides first name).0 same)))
    (λ differs. ap (λ test. if test then value else value_named names values name) differs ∙ rest)
    (cases_Bool (bytes_eq first name))

-- of names that are all different each has the value that stands at its place
pub value_at_name : (names : List (List ℕ)) (values : List Value) (j : ℕ) (name : List ℕ) (value : Value) → AllPairs (λ one other. one ≢ other) names
    → slice_get names j ≡ Some name → slice_get values j ≡ Some value → value_named names values name ≡ value
value_at_name [] values j name value different held there = absurd (none-some name held)
value_at_name (first ∷ names) [] j name value different held there = absurd (none-some value there)
value_at_name (first ∷ names) (own ∷ values) zero name value different held there =
    let same : bytes_eq first name ≡ true = (bytes_eq-Decides first name).1 (same_Some first name held) in
    ap (λ test. if test then own else value_named names values name) same ∙ same_Some own value there
value_at_name (first ∷ names) (own ∷ values) (suc j) name value different held there =
    let within : j < length names = slice_get_within names j name held in
    let other : first ≢ name = λ same. different 0 (suc j) name (omega arith) (omega (arith, within)) (same ∙ sym (get_or_from_slice_get names j name name held)) in
    named_more first name names own values j value other
    (value_at_name names values j name value (λ one two d less below. different (suc one) (suc two) d (omega (arith, less)) (omega (arith, below))) held there)
