-- Assignments of sets come in the order of their numbers.
use Rattle.std.proofs.Common.{◌≡◌, ℕ, max, Bool, List, [], ◌∷◌, map, None, refl, ap, ap₂, ◌∙◌}
use Rattle.ms_logic.specs.Assignment.{Env, GivesEach}
use Rattle.ms_logic.specs.FiniteSet.{numbers_below}
use Rattle.ms_logic.specs.First.{IsBefore, length_by, length_of}
use Rattle.ms_logic.specs.First as words
use Rattle.ms_logic.specs.Letters.{bound_of}
use Rattle.ms_presburger.specs.Digits.{number_of}
use Rattle.ms_presburger_decide.specs.Answer.{ComesBefore, bits_at, bits_of, most_digits}
use Rattle.ms_presburger_decide.proofs.SetDigits.{bound-is-digits, member-is-bit}
use Rattle.ms_app_solved.proofs.SetVariables.{before-by, bits-are, flat-same, members_at, sets}

-- the numbers of the sets of variables
abbrev pub numbers_of_sets : List ℕ → Env → List ℕ
numbers_of_sets ps e = map (λ p. number_of (e.set p)) ps

bound-is : (ps : List ℕ) (e : Env) → GivesEach (sets ps) e → bound_of (sets ps) e ≡ most_digits (numbers_of_sets ps e)
bound-is [] e given = refl
bound-is (p ∷ ps) e given = ap₂ (λ a b. max a b) (bound-is-digits (e.set p) given.0.0) (bound-is ps e given.1)

bits-at : (ps : List ℕ) (e : Env) (i : ℕ) → GivesEach (sets ps) e → members_at ps e i ≡ bits_at (numbers_of_sets ps e) i
bits-at [] e i given = refl
bits-at (p ∷ ps) e i given = ap₂ (λ (b : Bool) more. b ∷ more) (member-is-bit (e.set p) i given.0.0) (bits-at ps e i given.1)

pub long : (ps : List ℕ) (e : Env) → e.universe ≡ None → GivesEach (sets ps) e → length_of (sets ps) e ≡ most_digits (numbers_of_sets ps e)
long ps e natural given = ap (λ u. length_by u (bound_of (sets ps) e)) natural ∙ bound-is ps e given

bits : (ps : List ℕ) (e : Env) → e.universe ≡ None → GivesEach (sets ps) e → words.bits_of (sets ps) e ≡ bits_of (numbers_of_sets ps e)
bits ps e natural given =
    bits-are ps e (most_digits (numbers_of_sets ps e)) (long ps e natural given)
    ∙ flat-same (members_at ps e) (bits_at (numbers_of_sets ps e)) (λ i. bits-at ps e i given) (numbers_below (most_digits (numbers_of_sets ps e)))

-- an assignment comes before another where its numbers do
pub before : (ps : List ℕ) (e f : Env) → e.universe ≡ None → f.universe ≡ None → GivesEach (sets ps) e → GivesEach (sets ps) f → ComesBefore (numbers_of_sets ps e) (numbers_of_sets ps f) → IsBefore (sets ps) e f
before ps e f natural_e natural_f given_e given_f order =
    before-by (sets ps) e f (most_digits (numbers_of_sets ps e)) (most_digits (numbers_of_sets ps f)) (bits_of (numbers_of_sets ps e)) (bits_of (numbers_of_sets ps f))
    (long ps e natural_e given_e) (long ps f natural_f given_f) (bits ps e natural_e given_e) (bits ps f natural_f given_f) order
