-- The globals of a source over sets: which variables they are, and that they restrict nothing.
use Rattle.std.proofs.Common.{◌≡◌, ℕ, ◌+◌, ◌<◌, ◌≤◌, suc, inl, inr, ⊎_elim, List, [], ◌∷◌, length, map, refl, ap, subst, arith}
use Rattle.std.proofs.lemmas.Bool.{cases_lt}
use Rattle.ms_logic.specs.declared.assignment.Value.TheVariants.{Set}
use Rattle.ms_logic.specs.declared.checked.Global.{Global}
use Rattle.ms_logic.specs.declared.mode.Mode.{Mode}
use Rattle.ms_logic.specs.declared.mode.Order.TheVariants.{Two}
use Rattle.ms_logic.specs.Assignment.{Env, GivesEach, IsValueOf, Variable}
use Rattle.ms_logic.specs.Lists.{Each}
use Rattle.ms_logic.specs.Truth.{AllMet, Meanings}
use Rattle.ms_logic.specs.Verdict.{variables_of}
use Rattle.ms_logic.specs.View.{globals_from}
use Rattle.ms_logic_core.specs.Size.{Extents, extents_of_restrictions}
use Rattle.ms_names_checked.specs.Constants.{IsDeclarationInRange}
use Rattle.ms_names_rules.specs.Numbers.{IsNew, IsNumberedRestriction, Sees, Tables, exports_in_restriction}
use Rattle.ms_translation.specs.Source.{global_of}

pub names-of-globals : (names : List (List ℕ)) → map (λ (g : Global). g.name) (map global_of names) ≡ names
names-of-globals [] = refl
names-of-globals (name ∷ names) = ap (λ (more : List (List ℕ)). name ∷ more) (names-of-globals names)

pub count-globals : (names : List (List ℕ)) (from : ℕ) → length (globals_from from (map global_of names)) ≡ length names
count-globals [] from = refl
count-globals (name ∷ names) from = ap suc (count-globals names (from + 1))

-- no restrictions

pub all-met : (m : Meanings) (names : List (List ℕ)) (from : ℕ) (e : Env) → AllMet m (globals_from from (map global_of names)) e
all-met m [] from e = tt
all-met m (name ∷ names) from e = (tt, all-met m names (from + 1) e)

pub restrictions-numbered : (tables : Tables) (bound : ℕ) (seen : List Variable) (names : List (List ℕ)) (from : ℕ) →
    Each (λ d. IsNumberedRestriction tables bound seen d.restriction) (globals_from from (map global_of names))
restrictions-numbered tables bound seen [] from = tt
restrictions-numbered tables bound seen (name ∷ names) from = (tt, restrictions-numbered tables bound seen names (from + 1))

pub restrictions-export-nothing : (names : List (List ℕ)) (from : ℕ) → Each (λ d. exports_in_restriction d.restriction ≡ []) (globals_from from (map global_of names))
restrictions-export-nothing [] from = tt
restrictions-export-nothing (name ∷ names) from = (refl, restrictions-export-nothing names (from + 1))

pub restrictions-in-range : (mode : Mode) (names : List (List ℕ)) (from : ℕ) → Each (IsDeclarationInRange mode) (globals_from from (map global_of names))
restrictions-in-range mode [] from = tt
restrictions-in-range mode (name ∷ names) from = (tt, restrictions-in-range mode names (from + 1))

pub restrictions-have-no-parts : (E : Extents) (names : List (List ℕ)) (from : ℕ) → extents_of_restrictions E (globals_from from (map global_of names)) ≡ []
restrictions-have-no-parts E [] from = refl
restrictions-have-no-parts E (name ∷ names) from = restrictions-have-no-parts E names (from + 1)

-- the variables that they are

abbrev pub names_seen : List (List ℕ) → List Variable
names_seen names = variables_of (globals_from 0 (map global_of names))

pub new-above : (seen : List Variable) (a b : ℕ) → a ≤ b → IsNew seen a → IsNew seen b
new-above [] a b above new = tt
new-above (v ∷ vs) a b above new = (omega (arith, new.0), new-above vs a b above new.1)

globals-new : (names : List (List ℕ)) (from : ℕ) → IsNew (variables_of (globals_from from (map global_of names))) (from + length names)
globals-new [] from = tt
globals-new (name ∷ names) from = (omega arith, new-above (variables_of (globals_from (from + 1) (map global_of names))) (from + 1 + length names) (from + length (name ∷ names)) (omega arith) (globals-new names (from + 1)))

globals-there : (names : List (List ℕ)) (from p : ℕ) → from ≤ p → p < from + length names → Sees (variables_of (globals_from from (map global_of names))) p Two
globals-there [] from p above below = absurd (omega (arith, above, below))
globals-there (name ∷ names) from p above below =
    ⊎_elim (λ later. inr (globals-there names (from + 1) p (omega (arith, later)) (omega (arith, below))))
    (λ first. let same : from ≡ p = omega (arith, above, first) in inl (ap (λ (n : ℕ). record { name = n; order = Two }) same)) (cases_lt from p)

pub names-new : (names : List (List ℕ)) → IsNew (names_seen names) (length names)
names-new names = new-above (names_seen names) (0 + length names) (length names) (omega arith) (globals-new names 0)

pub sees-name : (names : List (List ℕ)) (p : ℕ) → p < length names → Sees (names_seen names) p Two
sees-name names p below = globals-there names 0 p (omega arith) (omega (arith, below))

-- the sets that an assignment gives them

pub sets-given : (names : List (List ℕ)) (from : ℕ) (e : Env) → GivesEach (variables_of (globals_from from (map global_of names))) e →
    (p : ℕ) → from ≤ p → p < from + length names → IsValueOf Two e.universe (Set (e.set p))
sets-given [] from e given p above below = absurd (omega (arith, above, below))
sets-given (name ∷ names) from e given p above below =
    ⊎_elim (λ later. sets-given names (from + 1) e given.1 p (omega (arith, later)) (omega (arith, below)))
    (λ first. let same : from ≡ p = omega (arith, above, first) in let P : ℕ → Type 0 = λ k. IsValueOf Two e.universe (Set (e.set k)) in subst P same given.0) (cases_lt from p)

pub gives-sets : (names : List (List ℕ)) (from : ℕ) (e : Env) → ((p : ℕ) → from ≤ p → p < from + length names → IsValueOf Two e.universe (Set (e.set p))) →
    GivesEach (variables_of (globals_from from (map global_of names))) e
gives-sets [] from e sets = tt
gives-sets (name ∷ names) from e sets =
    (sets from (omega arith) (omega arith), gives-sets names (from + 1) e (λ p above below. sets p (omega (arith, above)) (omega (arith, below))))
