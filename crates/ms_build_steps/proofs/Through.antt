-- Variables under the names that stand at their numbers.
use Rattle.std.proofs.Common.{◌≡◌, ℕ, suc, ◌+◌, ◌<◌, inl, inr, List, [], ◌∷◌, length, map, slice_index, refl, sym, ap, ap₂, ◌∙◌, arith}
use Rattle.std.proofs.lemmas.List.Kept.{AllPairs-from_increasing}
use Rattle.std.specs.List.Sorted.{IsStrictlyIncreasing}
use Rattle.ms_build.proofs.ChildLemmas.{value_through}
use Rattle.ms_dag.specs.Values.{read_through}
use Rattle.ms_dag_steps.specs.Occurrences.{variables_named}
use Rattle.ms_logic.specs.Assignment.{Env, Variable, value_at}
use Rattle.ms_logic.specs.Lists.{AreRising, IsAmong, IsBelowFirst}
use Rattle.ms_logic.specs.declared.mode.Order.{Order}
use Rattle.ms_logic.specs.declared.mode.Order.TheVariants.{Zero, One, Two}
use Rattle.ms_logic_core.specs.Operands.{variable}
use Rattle.ms_logic_words.specs.Content.{variables_from}
use Rattle.ms_build_steps.proofs.SameValues.{HaveSameValues, named_by, own_place, place_in}

abbrev pub through : List ℕ → List Variable → List Variable
through names vs = map (λ (v : Variable). variable (slice_index names v.name) v.order) vs

-- each number has a name
abbrev pub AreNamed : List ℕ → List Variable → Type 0
AreNamed names vs = (v : Variable) → IsAmong vs v → v.name < length names

pub through_orders : (names : List ℕ) (vs : List Variable) → map (λ (v : Variable). v.order) (through names vs) ≡ map (λ (v : Variable). v.order) vs
through_orders names [] = refl
through_orders names (v ∷ vs) = ap (λ (os : List Order). v.order ∷ os) (through_orders names vs)

-- what is read by names has the values of these
pub through_read : (names : List ℕ) (c : Env) (vs : List Variable) → HaveSameValues vs (through names vs) (read_through names c) c
through_read names c [] = tt
through_read names c (v ∷ vs) = (refl, sym (value_through v.order names c v.name), through_read names c vs)

value_named : (o : Order) (names : List ℕ) (x : ℕ) (e : Env) → value_at o x (named_by names e) ≡ value_at o (place_in names x) e
value_named Zero names x e = refl
value_named One names x e = refl
value_named Two names x e = refl

pub through_named : (names : List ℕ) → IsStrictlyIncreasing names → (e : Env) (vs : List Variable) → AreNamed names vs → HaveSameValues (through names vs) vs (named_by names e) e
through_named names rising e [] are = tt
through_named names rising e (v ∷ vs) are = (
  refl,
  value_named v.order names (slice_index names v.name) e ∙ ap (λ x. value_at v.order x e) (own_place names rising v.name (are v (inl refl))),
  through_named names rising e vs (λ w among. are w (inr among)),
)

-- rising variables rise under rising names
through_below : (names : List ℕ) → IsStrictlyIncreasing names → (v : Variable) (vs : List Variable) → AreNamed names vs → IsBelowFirst v.name vs → IsBelowFirst (slice_index names v.name) (through names vs)
through_below names rising v [] are below = tt
through_below names rising v (w ∷ vs) are below = AllPairs-from_increasing names rising v.name w.name 0 below (are w (inl refl))

pub through_rises : (names : List ℕ) → IsStrictlyIncreasing names → (vs : List Variable) → AreNamed names vs → AreRising vs → AreRising (through names vs)
through_rises names rising [] are rise = tt
through_rises names rising (v ∷ vs) are rise =
    let rest : AreNamed names vs = λ w among. are w (inr among) in
    (through_below names rising v vs rest rise.0, through_rises names rising vs rest rise.1)

pub among_through : (names : List ℕ) (vs : List Variable) (v : Variable) → IsAmong vs v → IsAmong (through names vs) (variable (slice_index names v.name) v.order)
among_through names [] v among = absurd among
among_through names (w ∷ vs) v (inl same) = inl (ap (λ (u : Variable). variable (slice_index names u.name) u.order) same)
among_through names (w ∷ vs) v (inr there) = inr (among_through names vs v there)

pub through_among : (names : List ℕ) (vs : List Variable) (x : Variable) → IsAmong (through names vs) x → (v : Variable) × IsAmong vs v × (variable (slice_index names v.name) v.order ≡ x)
through_among names [] x among = absurd among
through_among names (w ∷ vs) x (inl same) = (w, inl refl, same)
through_among names (w ∷ vs) x (inr there) = let found = through_among names vs x there in (found.0, inr found.1, found.2)

-- variables by their places have the names themselves
named_from : (names rest : List ℕ) (os : List Order) (base : ℕ) → length rest ≡ length os → ((j : ℕ) → j < length rest → slice_index names (base + j) ≡ slice_index rest j)
    → variables_named rest os ≡ through names (variables_from base os)
named_from names [] [] base long are = refl
named_from names [] (o ∷ os) base long are = absurd (omega (arith, long))
named_from names (x ∷ rest) [] base long are = absurd (omega (arith, long))
named_from names (x ∷ rest) (o ∷ os) base long are =
    let first : x ≡ slice_index names base = sym (ap (slice_index names) (let same : base ≡ base + 0 = omega arith in same) ∙ are 0 (omega arith)) in
    ap₂ (λ (v : Variable) (vs : List Variable). v ∷ vs) (ap (λ n. variable n o) first)
    (named_from names rest os (base + 1) (omega (arith, long))
    (λ j less. ap (slice_index names) (let same : base + 1 + j ≡ base + suc j = omega arith in same) ∙ are (suc j) (omega (arith, less))))

pub named_through : (names : List ℕ) (os : List Order) → length names ≡ length os → variables_named names os ≡ through names (variables_from 0 os)
named_through names os long = named_from names names os 0 long (λ j less. ap (slice_index names) (let same : 0 + j ≡ j = omega arith in same))
