-- Formulas in declarations of their own.
use Rattle.std.proofs.Common.{◌≡◌, ℕ, ◌+◌, suc, List, [], ◌∷◌, ◌++◌, length, map, None, Result, Ok, Err, refl, ap, subst, arith}
use Rattle.std.proofs.lemmas.Bool.{false≢true}
use Rattle.std.proofs.lemmas.Result.{IfOk-at_ok}
use Rattle.std.specs.Prelude.{IfOk, IsOk, OnOk}
use Rattle.ms_list.specs.declared.fault.NoMemory.{NoMemory}
use Rattle.ms_logic.specs.declared.checked.Placed.{Placed}
use Rattle.ms_logic.specs.declared.formula.Formula.{Formula}
use Rattle.ms_logic.specs.Tree.{Form}
use Rattle.ms_logic.specs.View.{formula_of}
use Rattle.ms_translation.specs.Made.{GiveAll}
use Rattle.ms_translation.specs.Source.{numbers_from, placed_as, placed_from, start}

-- one more behind the others
pub placed-more : (n i : ℕ) (fs : List Formula) (f : Formula) → i ≡ n + length fs → placed_from n fs ++ placed_as i f ∷ [] ≡ placed_from n (fs ++ f ∷ [])
placed-more n i [] f is = let same : i ≡ n = omega (arith, is) in ap (λ (k : ℕ). placed_as k f ∷ []) same
placed-more n i (g ∷ fs) f is = ap (λ (l : List Placed). placed_as n g ∷ l) (placed-more (n + 1) i fs f (omega (arith, is)))

pub length-placed : (n : ℕ) (fs : List Formula) → length (placed_from n fs) ≡ length fs
length-placed n [] = refl
length-placed n (f ∷ fs) = ap suc (length-placed (n + 1) fs)

-- what they are

pub formulas-placed : (n : ℕ) (fs : List Formula) → map (λ (placed : Placed). formula_of placed.formula) (placed_from n fs) ≡ map formula_of fs
formulas-placed n [] = refl
formulas-placed n (f ∷ fs) = ap (λ (l : List Form). formula_of f ∷ l) (formulas-placed (n + 1) fs)

pub titles-placed : (n : ℕ) (fs : List Formula) → map (λ (placed : Placed). placed.title) (placed_from n fs) ≡ map (λ (f : Form). None) (map formula_of fs)
titles-placed n [] = refl
titles-placed n (f ∷ fs) = ap (λ l. None ∷ l) (titles-placed (n + 1) fs)

pub places-placed : (n : ℕ) (fs : List Formula) → map (λ (placed : Placed). placed.at) (placed_from n fs) ≡ map (λ (f : Form). start) (map formula_of fs)
places-placed n [] = refl
places-placed n (f ∷ fs) = ap (λ l. start ∷ l) (places-placed (n + 1) fs)

pub items-placed : (n : ℕ) (fs : List Formula) → map (λ (placed : Placed). placed.item) (placed_from n fs) ≡ numbers_from n (map formula_of fs)
items-placed n [] = refl
items-placed n (f ∷ fs) = ap (λ (l : List ℕ). n ∷ l) (items-placed (n + 1) fs)

-- what was declared is what was given
pub given-placed : (given : Result (List Formula) NoMemory) (placed : Result (List Placed) NoMemory) (fs : List Form) (made : List Placed) → GiveAll given fs → OnOk placed (IsOk given) →
    IfOk given (λ formulas. IfOk placed (λ all. all ≡ placed_from 1 formulas)) → placed ≡ Ok made → (formulas : List Formula) × (made ≡ placed_from 1 formulas) × (map formula_of formulas ≡ fs)
given-placed (Ok formulas) placed fs made gives only declared is = (formulas, IfOk-at_ok (λ all. all ≡ placed_from 1 formulas) is declared, gives)
given-placed (Err e) placed fs made gives only declared is =
    let none : Result (List Formula) NoMemory = Err e in
    let P : Result (List Placed) NoMemory → Type 0 = λ r. OnOk r (IsOk none) in absurd (false≢true (subst P is only))
