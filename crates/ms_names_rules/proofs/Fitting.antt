-- Scopes whose numbers are those of variables that are seen and of predicates below a bound.
use Rattle.std.proofs.Common.{ℕ, ◌+◌, ◌<◌, ◌≤◌, inl, inr, Bool, true, false, if◌then◌else◌, List, [], ◌∷◌, ◌++◌, Option, Some, None, refl, subst, arith, ◌≡◌}
use Rattle.std.specs.Prelude.{bytes_eq}
use Rattle.std.specs.Option.{option_map}
use Rattle.ms_logic.specs.declared.mode.Order.{Order}
use Rattle.ms_logic.specs.declared.mode.Order.TheVariants.{One, Two}
use Rattle.ms_logic.specs.Assignment.{Variable}
use Rattle.ms_names_rules.specs.declared.meaning.Meaning.{Meaning}
use Rattle.ms_names_rules.specs.declared.meaning.Meaning.TheVariants as meaning
use Rattle.ms_names_rules.specs.Numbers.{Tables, HasParameters, IsDefault, IsNew, Sees, seeing}
use Rattle.ms_logic.specs.Lists.{Each, IsAmong}
use Rattle.ms_names_rules.specs.Scope.{Scope, bind, count_of_bounds, count_of_parts, meaning_among, under_bounds, under_parts, without_exports, Bytes}
use Rattle.ms_parse_grammar.specs.Tree.{Variables, no_variables, and_variable, Parts, no_parts, and_part}

-- lists

pub each-front : {A : Type 0} (P : A → Type 0) (xs ys : List A) → Each P (xs ++ ys) → Each P xs
each-front P [] ys h = tt
each-front P (x ∷ xs) ys h = (h.0, each-front P xs ys h.1)

pub each-back : {A : Type 0} (P : A → Type 0) (xs ys : List A) → Each P (xs ++ ys) → Each P ys
each-back P [] ys h = h
each-back P (x ∷ xs) ys h = each-back P xs ys h.1

pub each-append : {A : Type 0} (P : A → Type 0) (xs ys : List A) → Each P xs → Each P ys → Each P (xs ++ ys)
each-append P [] ys h k = k
each-append P (x ∷ xs) ys h k = (h.0, each-append P xs ys h.1 k)

pub each-weaker : {A : Type 0} (P Q : A → Type 0) (xs : List A) → ((x : A) → P x → Q x) → Each P xs → Each Q xs
each-weaker P Q [] weaker h = tt
each-weaker P Q (x ∷ xs) weaker h = (weaker x h.0, each-weaker P Q xs weaker h.1)

-- what an option holds

abbrev pub If : {A : Type 0} → (A → Type 0) → Option A → Type 0
If P None = Unit {0}
If P (Some a) = P a

pub if-any : {A : Type 0} (a : Option A) → If (λ b. Unit {0}) a
if-any None = tt
if-any (Some a) = tt

pub if-weaker : {A : Type 0} (P Q : A → Type 0) (a : Option A) → ((b : A) → P b → Q b) → If P a → If Q a
if-weaker P Q None weaker h = tt
if-weaker P Q (Some a) weaker h = weaker a h

pub if-one : {A B : Type 0} (P : A → Type 0) (Q : B → Type 0) (make : A → B) (a : Option A) → ((b : A) → P b → Q (make b)) → If P a → If Q (option_map make a)
if-one P Q make None made h = tt
if-one P Q make (Some a) made h = made a h

pub if-test : {A : Type 0} (P : A → Type 0) (b : Bool) (a : Option A) → (b ≡ true → If P a) → If P (if b then a else None)
if-test P true a h = h refl
if-test P false a h = tt

-- variables that are seen

pub new-more : (seen : List Variable) (x y : ℕ) (o : Order) → IsNew seen y → x < y → IsNew (seeing x o seen) y
new-more seen x y o new less = (less, new)

pub new-above : (seen : List Variable) (x y : ℕ) → IsNew seen x → x ≤ y → IsNew seen y
new-above seen x y new le =
    let up : (v : Variable) → v.name < x → v.name < y = λ v less. omega arith in
    each-weaker (λ (v : Variable). v.name < x) (λ (v : Variable). v.name < y) seen up new

-- the variable that is new, with those that are seen, is below the next number
pub new-next : (seen : List Variable) (x : ℕ) (o : Order) → IsNew seen x → IsNew (seeing x o seen) (x + 1)
new-next seen x o new = (omega arith, new-above seen x (x + 1) new (omega arith))

-- with the variables of a list
abbrev pub seeing_bounds : ℕ → Variables → List Variable → List Variable
seeing_bounds x no_variables seen = seen
seeing_bounds x (and_variable vs at o n d) seen = seeing (x + count_of_bounds vs) o (seeing_bounds x vs seen)

abbrev pub seeing_parts : ℕ → Order → Parts → List Variable → List Variable
seeing_parts x o no_parts seen = seen
seeing_parts x o (and_part ps at n e) seen = seeing (x + count_of_parts ps) o (seeing_parts x o ps seen)

pub new-bounds : (x y : ℕ) (vs : Variables) (seen : List Variable) → IsNew seen x → x + count_of_bounds vs ≤ y → IsNew (seeing_bounds x vs seen) y
new-bounds x y no_variables seen new le = new-above seen x y new (omega arith)
new-bounds x y (and_variable vs at o n d) seen new le = (omega (arith, le), new-bounds x y vs seen new (omega (arith, le)))

pub new-parts : (x y : ℕ) (o : Order) (ps : Parts) (seen : List Variable) → IsNew seen x → x + count_of_parts ps ≤ y → IsNew (seeing_parts x o ps seen) y
new-parts x y o no_parts seen new le = new-above seen x y new (omega arith)
new-parts x y o (and_part ps at n e) seen new le = (omega (arith, le), new-parts x y o ps seen new (omega (arith, le)))

-- scopes

abbrev pub MeaningFits : Tables → ℕ → List Variable → Meaning → Type 0
MeaningFits tables bound seen (meaning.Variable x o) = Sees seen x o
MeaningFits tables bound seen (meaning.Constant value) = Unit {0}
MeaningFits tables bound seen (meaning.Predicate p parameters) = HasParameters tables bound p parameters

abbrev pub EntryFits : Tables → ℕ → List Variable → Bytes × Meaning → Type 0
EntryFits tables bound seen entry = MeaningFits tables bound seen entry.1

-- a variable among the names has a number below x
abbrev pub IsBelow : ℕ → Bytes × Meaning → Type 0
IsBelow x (n, meaning.Variable y o) = y < x
IsBelow x (n, meaning.Constant value) = Unit {0}
IsBelow x (n, meaning.Predicate p parameters) = Unit {0}

-- the numbers of variables fall from the innermost outwards
abbrev pub Falls : List (Bytes × Meaning) → Type 0
Falls [] = Unit {0}
Falls ((n, meaning.Variable x o) ∷ outer) = Each (IsBelow x) outer × Falls outer
Falls ((n, meaning.Constant value) ∷ outer) = Falls outer
Falls ((n, meaning.Predicate p parameters) ∷ outer) = Falls outer

pub below-more : (x y : ℕ) → x ≤ y → (entry : Bytes × Meaning) → IsBelow x entry → IsBelow y entry
below-more x y le (n, meaning.Variable z o) h = omega arith
below-more x y le (n, meaning.Constant value) h = tt
below-more x y le (n, meaning.Predicate p parameters) h = tt

-- a scope whose variables are seen and have falling numbers, and whose predicates and default restrictions are those of the tables below a bound
pub record Fits (tables : Tables) (bound : ℕ) (seen : List Variable) (s : Scope) : Type 0 where
  pub names : Each (EntryFits tables bound seen) s.names
  pub numbers : If (λ p. IsDefault tables bound p One) s.default_of_numbers
  pub sets : If (λ p. IsDefault tables bound p Two) s.default_of_sets
  pub falls : Falls s.names

sees-below : (seen : List Variable) (v : Variable) (x : ℕ) → IsAmong seen v → IsNew seen x → v.name < x
sees-below [] v x h new = absurd h
sees-below (w ∷ seen) v x (inl is) new = subst (λ (u : Variable). u.name < x) is new.0
sees-below (w ∷ seen) v x (inr h) new = sees-below seen v x h new.1

entry-below : (tables : Tables) (bound : ℕ) (seen : List Variable) (x : ℕ) → IsNew seen x → (entry : Bytes × Meaning) →
    EntryFits tables bound seen entry → IsBelow x entry
entry-below tables bound seen x new (n, meaning.Variable y o) h = sees-below seen (record { name = y; order = o }) x h new
entry-below tables bound seen x new (n, meaning.Constant value) h = tt
entry-below tables bound seen x new (n, meaning.Predicate p parameters) h = tt

meaning-more : (tables : Tables) (bound : ℕ) (seen : List Variable) (v : Variable) (m : Meaning) → MeaningFits tables bound seen m → MeaningFits tables bound (v ∷ seen) m
meaning-more tables bound seen v (meaning.Variable x o) h = inr h
meaning-more tables bound seen v (meaning.Constant value) h = tt
meaning-more tables bound seen v (meaning.Predicate p parameters) h = h

pub fits-bind : (tables : Tables) (bound : ℕ) (seen : List Variable) (s : Scope) (x : ℕ) (o : Order) (n : Bytes) → IsNew seen x →
    Fits tables bound seen s → Fits tables bound (seeing x o seen) (bind n (meaning.Variable x o) s)
fits-bind tables bound seen s x o n new fits = record {
  names = (
    inl refl,
    each-weaker (EntryFits tables bound seen) (EntryFits tables bound (seeing x o seen)) s.names
        (λ entry h. meaning-more tables bound seen (record { name = x; order = o }) entry.1 h) fits.names,
  );
  numbers = fits.numbers;
  sets = fits.sets;
  falls = (each-weaker (EntryFits tables bound seen) (IsBelow x) s.names (entry-below tables bound seen x new) fits.names, fits.falls);
}

pub fits-without : (tables : Tables) (bound : ℕ) (seen : List Variable) (s : Scope) → Fits tables bound seen s → Fits tables bound seen (without_exports s)
fits-without tables bound seen s fits = record { names = fits.names; numbers = fits.numbers; sets = fits.sets; falls = fits.falls }

pub fits-bounds : (tables : Tables) (bound : ℕ) (seen : List Variable) (s : Scope) (x : ℕ) (vs : Variables) → IsNew seen x →
    Fits tables bound seen s → Fits tables bound (seeing_bounds x vs seen) (under_bounds s x vs)
fits-bounds tables bound seen s x no_variables new fits = fits
fits-bounds tables bound seen s x (and_variable vs at o n d) new fits =
    let y = x + count_of_bounds vs in
    fits-bind tables bound (seeing_bounds x vs seen) (under_bounds s x vs) y o n (new-bounds x y vs seen new (omega arith))
    (fits-bounds tables bound seen s x vs new fits)

pub fits-parts : (tables : Tables) (bound : ℕ) (seen : List Variable) (s : Scope) (x : ℕ) (o : Order) (ps : Parts) → IsNew seen x →
    Fits tables bound seen s → Fits tables bound (seeing_parts x o ps seen) (under_parts s x o ps)
fits-parts tables bound seen s x o no_parts new fits = fits
fits-parts tables bound seen s x o (and_part ps at n e) new fits =
    let y = x + count_of_parts ps in
    fits-bind tables bound (seeing_parts x o ps seen) (under_parts s x o ps) y o n (new-parts x y o ps seen new (omega arith))
    (fits-parts tables bound seen s x o ps new fits)

meaning-chosen : (tables : Tables) (bound : ℕ) (seen : List Variable) (here : Bool) (m : Meaning) (outer : Option Meaning) →
    MeaningFits tables bound seen m → If (MeaningFits tables bound seen) outer → If (MeaningFits tables bound seen) (if here then Some m else outer)
meaning-chosen tables bound seen true m outer h k = h
meaning-chosen tables bound seen false m outer h k = k

pub meaning-fits : (tables : Tables) (bound : ℕ) (seen : List Variable) (names : List (Bytes × Meaning)) (n : Bytes) →
    Each (EntryFits tables bound seen) names → If (MeaningFits tables bound seen) (meaning_among names n)
meaning-fits tables bound seen [] n h = tt
meaning-fits tables bound seen (entry ∷ outer) n h =
    meaning-chosen tables bound seen (bytes_eq entry.0 n) entry.1 (meaning_among outer n) h.0 (meaning-fits tables bound seen outer n h.1)
