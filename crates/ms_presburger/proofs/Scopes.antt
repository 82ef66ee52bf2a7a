-- Names in scope stand for sets of their numbers.
use Rattle.std.proofs.Common.{◌≡◌, ℕ, ◌+◌, ◌*◌, ◌<◌, zero, suc, Bool, true, false, not, cond, ◌||◌, List, [], ◌∷◌, ◌++◌, map, refl, sym, ◌∙◌, ap, subst, arith}
use Rattle.std.specs.List.{list_any}
use Rattle.std.specs.Str.{bytes_eq}
use Rattle.ms_logic.specs.declared.assignment.Value.TheVariants.{Set}
use Rattle.ms_logic.specs.Assignment.{Env, assign}
use Rattle.ms_logic.specs.FiniteSet.{IsRising, one_bits}
use Rattle.ms_logic.specs.Lists.{Each}
use Rattle.ms_presburger.specs.declared.linear.Part.{Part}
use Rattle.ms_presburger.specs.declared.linear.Part.TheVariants.{Number, Var, Times}
use Rattle.ms_presburger.specs.declared.summand.Summand.{Summand}
use Rattle.ms_presburger.specs.declared.summand.Summand.TheVariants.{Shifted}
use Rattle.ms_presburger.specs.Digits.{number_of}
use Rattle.ms_presburger.specs.Numbers.{Valuation, with_number, value_of_part, value_of_sum}
use Rattle.ms_presburger.specs.Sets.{Scope, with_variable, summands_of_part, summands_of}
use Rattle.ms_presburger.specs.Tree.{names_in_part, names_in_sum, except}
use Rattle.ms_presburger.proofs.Binary.{number_of-one_bits}
use Rattle.ms_presburger.proofs.Places.{set-here, set-there}
use Rattle.ms_presburger.proofs.Totals.{StandsBelow, total}

-- the variable k, below x, stands for the set of n
abbrev pub HasNumber : Env → ℕ → ℕ → ℕ → Type 0
HasNumber e x k n = (k < x) × IsRising (e.set k) × (number_of (e.set k) ≡ n)

-- a name has its number
abbrev pub Stands : Env → Scope → Valuation → ℕ → List ℕ → Type 0
Stands e scope v x name = HasNumber e x (scope name) (v name)

pub each-left : (P : List ℕ → Type 0) (left right : List (List ℕ)) → Each P (left ++ right) → Each P left
each-left P [] right each = tt
each-left P (name ∷ more) right each = (each.0, each-left P more right each.1)

pub each-right : (P : List ℕ → Type 0) (left right : List (List ℕ)) → Each P (left ++ right) → Each P right
each-right P [] right each = each
each-right P (name ∷ more) right each = each-right P more right each.1

-- summands of a sum

stand-part : (e : Env) (scope : Scope) (v : Valuation) (x : ℕ) (part : Part) → Each (Stands e scope v x) (names_in_part part) → Each (StandsBelow e x) (summands_of_part scope part)
stand-part e scope v x (Number zero) stands = tt
stand-part e scope v x (Number (suc n)) stands = (tt, tt)
stand-part e scope v x (Var name) stands = ((stands.0.0, stands.0.1), tt)
stand-part e scope v x (Times n name) stands = each-place (one_bits n)
  where
    each-place : (places : List ℕ) → Each (StandsBelow e x) (map (λ j. Shifted (scope name) j) places)
    each-place [] = tt
    each-place (j ∷ more) = ((stands.0.0, stands.0.1), each-place more)

each-both : (P : Summand → Type 0) (left right : List Summand) → Each P left → Each P right → Each P (left ++ right)
each-both P [] right one other = other
each-both P (t ∷ more) right one other = (one.0, each-both P more right one.1 other)

pub stand-summands : (e : Env) (scope : Scope) (v : Valuation) (x : ℕ) (parts : List Part) → Each (Stands e scope v x) (names_in_sum parts) → Each (StandsBelow e x) (summands_of scope parts)
stand-summands e scope v x [] stands = tt
stand-summands e scope v x (part ∷ more) stands =
    each-both (StandsBelow e x) (summands_of_part scope part) (summands_of scope more) (stand-part e scope v x part (each-left (Stands e scope v x) (names_in_part part) (names_in_sum more) stands))
    (stand-summands e scope v x more (each-right (Stands e scope v x) (names_in_part part) (names_in_sum more) stands))

total-append : (e : Env) (left right : List Summand) → total e (left ++ right) ≡ total e left + total e right
total-append e [] right = omega arith
total-append e (t ∷ more) right = omega (arith, total-append e more right)

-- a factor counts its bits
total-places : (e : Env) (k : ℕ) (places : List ℕ) → total e (map (λ j. Shifted k j) places) ≡ number_of places * number_of (e.set k)
total-places e k [] = omega arith
total-places e k (j ∷ more) = omega (arith, total-places e k more)

total-part : (e : Env) (scope : Scope) (v : Valuation) (x : ℕ) (part : Part) → Each (Stands e scope v x) (names_in_part part) → total e (summands_of_part scope part) ≡ value_of_part part v
total-part e scope v x (Number zero) stands = refl
total-part e scope v x (Number (suc n)) stands = omega arith
total-part e scope v x (Var name) stands = omega (arith, stands.0.2)
total-part e scope v x (Times n name) stands =
    total-places e (scope name) (one_bits n) ∙ (ap (λ k. k * number_of (e.set (scope name))) (number_of-one_bits n) ∙ ap (λ k. n * k) stands.0.2)

pub total-summands : (e : Env) (scope : Scope) (v : Valuation) (x : ℕ) (parts : List Part) → Each (Stands e scope v x) (names_in_sum parts) → total e (summands_of scope parts) ≡ value_of_sum parts v
total-summands e scope v x [] stands = refl
total-summands e scope v x (part ∷ more) stands =
    let one = total-part e scope v x part (each-left (Stands e scope v x) (names_in_part part) (names_in_sum more) stands) in
    let others = total-summands e scope v x more (each-right (Stands e scope v x) (names_in_part part) (names_in_sum more) stands) in
    omega (arith, total-append e (summands_of_part scope part) (summands_of scope more), one, others)

-- what holds of the places of one more name, and of those that were free before, holds of all that are free now

bound-by : (name : List ℕ) (P Q : List ℕ → Type 0) → ((other : List ℕ) → bytes_eq name other ≡ true → Q other) → ((other : List ℕ) → bytes_eq name other ≡ false → P other → Q other) →
    (other : List ℕ) (more rest : List (List ℕ)) (same hidden : Bool) → bytes_eq name other ≡ same → (Each P more → Each Q rest) →
    Each P (cond (not (same || hidden)) (other ∷ more) more) → Each Q (cond (not hidden) (other ∷ rest) rest)
bound-by name P Q named unnamed other more rest true true is others each = others each
bound-by name P Q named unnamed other more rest true false is others each = (named other is, others each)
bound-by name P Q named unnamed other more rest false true is others each = others each
bound-by name P Q named unnamed other more rest false false is others each = (unnamed other is each.0, others each.1)

pub each-bound : (name : List ℕ) (P Q : List ℕ → Type 0) → ((other : List ℕ) → bytes_eq name other ≡ true → Q other) → ((other : List ℕ) → bytes_eq name other ≡ false → P other → Q other) →
    (names places : List (List ℕ)) → Each P (except (name ∷ names) places) → Each Q (except names places)
each-bound name P Q named unnamed names [] each = tt
each-bound name P Q named unnamed names (other ∷ more) each =
    bound-by name P Q named unnamed other (except (name ∷ names) more) (except names more) (bytes_eq name other) (list_any (λ y. bytes_eq y other) names) refl
    (each-bound name P Q named unnamed names more) each

-- one more name in scope

module _ (e : Env) (scope : Scope) (v : Valuation) (x : ℕ) (name : List ℕ) (members : List ℕ) (rises : IsRising members) where
  abbrev there : Env
  there = assign x (Set members) e

  abbrev inner : Scope
  inner = with_variable name x scope

  abbrev valued : Valuation
  valued = with_number name (number_of members) v

  named : (other : List ℕ) → bytes_eq name other ≡ true → Stands there inner valued (x + 2) other
  named other same =
      let variable : x ≡ inner other = sym (ap (λ b. cond b x (scope other)) same) in
      let value : number_of members ≡ valued other = sym (ap (λ b. cond b (number_of members) (v other)) same) in
      let P : ℕ → Type 0 = λ k. HasNumber there (x + 2) k (valued other) in
      let Q : ℕ → Type 0 = λ n. HasNumber there (x + 2) x n in
      subst P variable (subst Q value (omega arith, subst IsRising (sym (set-here x members e)) rises, ap number_of (set-here x members e)))

  unnamed : (other : List ℕ) → bytes_eq name other ≡ false → Stands e scope v x other → Stands there inner valued (x + 2) other
  unnamed other differs stands =
      let variable : scope other ≡ inner other = sym (ap (λ b. cond b x (scope other)) differs) in
      let value : v other ≡ valued other = sym (ap (λ b. cond b (number_of members) (v other)) differs) in
      let kept = set-there x (scope other) members e stands.0 in
      let P : ℕ → Type 0 = λ k. HasNumber there (x + 2) k (valued other) in
      let Q : ℕ → Type 0 = λ n. HasNumber there (x + 2) (scope other) n in
      subst P variable (subst Q value (omega (arith, stands.0), subst IsRising (sym kept) stands.1, ap number_of kept ∙ stands.2))

  pub stand-bound : (names places : List (List ℕ)) → Each (Stands e scope v x) (except (name ∷ names) places) → Each (Stands there inner valued (x + 2)) (except names places)
  stand-bound = each-bound name (Stands e scope v x) (Stands there inner valued (x + 2)) named unnamed

-- none is bound
pub except-none : (places : List (List ℕ)) → except [] places ≡ places
except-none [] = refl
except-none (name ∷ more) = ap (λ (l : List (List ℕ)). name ∷ l) (except-none more)
