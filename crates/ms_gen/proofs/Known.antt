-- What the names of the sets mean.
use Rattle.std.proofs.Common.{◌≡◌, ◌≢◌, ◌≤◌, ℕ, zero, suc, ◌+◌, Bool, true, false, List, [], ◌∷◌, ◌++◌, length, drop, Some, refl, sym, ap, arith, bytes_eq, ⊎_elim, length-append, subst}
use Rattle.std.proofs.lemmas.Bool.{cases_eq}
use Rattle.std.proofs.lemmas.Fmt.{decimal_injective}
use Rattle.std.proofs.lemmas.Slice.Eq.{bytes_eq-Decides}
use Rattle.ms_gen.specs.Generated.{name_of}
use Rattle.ms_list.specs.declared.at.At.{At}
use Rattle.ms_logic.specs.declared.mode.Order.TheVariants.{Two}
use Rattle.ms_names_rules.specs.declared.meaning.Meaning.TheVariants.{Variable}
use Rattle.ms_names_rules.specs.Before.{Before}
use Rattle.ms_names_rules.specs.Occurrence.{inside_bounds}
use Rattle.ms_names_rules.specs.declared.fault.Fault.TheVariants.{NamedTwice}
use Rattle.ms_names_rules.specs.Rules.{faults_of_bounds, faults_of_repeat, in_case, is_name_among, with_names_of_bounds}
use Rattle.ms_names_rules.specs.Scope.{Bytes, Scope, bind, count_of_bounds, meaning_of, under_bounds}
use Rattle.ms_gen.proofs.Pieces.{at}
use Rattle.ms_gen.proofs.Reading.{set_start, sets}

-- the sets by their places and names
abbrev pub set_names : ℕ → ℕ → List (At × Bytes)
set_names start zero = (at (start + 1), name_of 0) ∷ []
set_names start (suc n) = set_names start n ++ (at (set_start start (suc n) + 1), name_of (n + 1)) ∷ []

pub length-set_names : (start n : ℕ) → length (set_names start n) ≡ n + 1
length-set_names start zero = refl
length-set_names start (suc n) = omega (arith, length-set_names start n, length-append (set_names start n) ((at (set_start start (suc n) + 1), name_of (n + 1)) ∷ []))

count-sets : (start n : ℕ) → count_of_bounds (sets start n) ≡ n + 1
count-sets start zero = refl
count-sets start (suc n) = omega (arith, count-sets start n)

-- nothing stands in their restrictions

pub inside-sets : (s : Scope) (x : ℕ) (b : Before) (start n : ℕ) → inside_bounds s x b (sets start n) ≡ []
inside-sets s x b start zero = refl
inside-sets s x b start (suc n) = ap (λ os. os ++ []) (inside-sets s x b start n)

-- names of sets differ

name-same : (n : ℕ) → bytes_eq (name_of n) (name_of n) ≡ true
name-same n = (bytes_eq-Decides (name_of n) (name_of n)).1 refl

not-true : (b : Bool) → (b ≡ true → ⊥) → b ≡ false
not-true true h = absurd (h refl)
not-true false h = refl

name-differs : (m n : ℕ) → m ≤ 2000 → n ≤ 2000 → m ≢ n → bytes_eq (name_of m) (name_of n) ≡ false
name-differs m n small little apart =
    not-true (bytes_eq (name_of m) (name_of n)) (λ same. apart (decimal_injective m n (omega (arith, small)) (omega (arith, little)) (ap (drop 1) ((bytes_eq-Decides (name_of m) (name_of n)).0 same))))

-- what is seen behind the declaration

abbrev pub set_scope : Scope → ℕ → Scope
set_scope s zero = bind (name_of 0) (Variable 0 Two) s
set_scope s (suc n) = bind (name_of (n + 1)) (Variable (n + 1) Two) (set_scope s n)

pub under-sets : (s : Scope) (start n : ℕ) → under_bounds s 0 (sets start n) ≡ set_scope s n
under-sets s start zero = refl
under-sets s start (suc n) =
    let counted : 0 + count_of_bounds (sets start n) ≡ n + 1 = omega (arith, count-sets start n) in
    λ i. bind (name_of (n + 1)) (Variable (counted i) Two) (under-sets s start n i)

pub set-known : (s : Scope) (n i : ℕ) → n ≤ 2000 → i ≤ n → meaning_of (set_scope s n) (name_of i) ≡ Some (Variable i Two)
set-known s zero i small within =
    let first : i ≡ 0 = omega (arith, within) in
    subst (λ k. meaning_of (set_scope s zero) (name_of k) ≡ Some (Variable k Two)) (sym first) (rw (name-same 0) refl)
set-known s (suc n) i small within = ⊎_elim
    (λ (last : i ≡ n + 1). subst (λ k. meaning_of (set_scope s (suc n)) (name_of k) ≡ Some (Variable k Two)) (sym last) (rw (name-same (n + 1)) refl))
    (λ other. rw (name-differs (n + 1) i (omega (arith, small)) (omega (arith, small, within)) (λ e. other (sym e))) (set-known s n i (omega (arith, small)) (omega (arith, within, other))))
    (cases_eq i (n + 1))

-- no name stands twice in the declaration

not-before : (start n i : ℕ) → i ≤ 2000 → n + 1 ≤ i → is_name_among (name_of i) (with_names_of_bounds [] (sets start n)) ≡ false
not-before start zero i small later = rw (name-differs 0 i (omega arith) small (λ e. absurd (omega (arith, e, later)))) refl
not-before start (suc n) i small later =
    rw (name-differs (n + 1) i (omega (arith, small, later)) small (λ e. absurd (omega (arith, e, later)))) (not-before start n i small (omega (arith, later)))

pub no-set-twice : (start n : ℕ) → n ≤ 2000 → faults_of_bounds [] (sets start n) ≡ []
no-set-twice start zero small = refl
no-set-twice start (suc n) small =
    let there = at (set_start start (suc n) + 1) in
    let fresh : faults_of_repeat there (name_of (n + 1)) (with_names_of_bounds [] (sets start n)) ≡ [] = ap (λ b. in_case b (NamedTwice there (name_of (n + 1)))) (not-before start n (n + 1) (omega (arith, small)) (omega arith)) in
    λ i. no-set-twice start n (omega (arith, small)) i ++ fresh i
