-- Sources whose globals are sets, and which ask some formulas and nothing else.
use Rattle.std.specs.Prelude.{◌≡◌, ℕ, ◌+◌, List, [], ◌∷◌, None, map}
use Rattle.ms_list.specs.declared.at.At.{At}
use Rattle.ms_logic.specs.declared.checked.Checked.{Checked}
use Rattle.ms_logic.specs.declared.checked.Global.{Global}
use Rattle.ms_logic.specs.declared.checked.Placed.{Placed}
use Rattle.ms_logic.specs.declared.formula.Formula.{Formula}
use Rattle.ms_logic.specs.declared.mode.Mode.{Mode}
use Rattle.ms_logic.specs.declared.mode.Order.TheVariants.{Two}
use Rattle.ms_logic.specs.Tree.{Form}
use Rattle.ms_logic.specs.Verdict.{Problem}
use Rattle.ms_logic.specs.View.{formula_of, forms, globals_from}

-- the place 0 of the file 0
abbrev pub start : At
start = record { file = 0; place = 0 }

-- a name as that of a variable for a set, in the declaration with the number 0
abbrev pub global_of : List ℕ → Global
global_of name = record { at = start; item = 0; order = Two; name = name; domain = None }

-- the numbers from n on, one for each form
abbrev pub numbers_from : ℕ → List Form → List ℕ
numbers_from n [] = []
numbers_from n (f ∷ fs) = n ∷ numbers_from (n + 1) fs

-- a formula as the declaration with the number n, at the start
abbrev pub placed_as : ℕ → Formula → Placed
placed_as n f = record { at = start; item = n; title = None; formula = f }

-- each formula in a declaration of its own, with the numbers from n on
abbrev pub placed_from : ℕ → List Formula → List Placed
placed_from n [] = []
placed_from n (f ∷ fs) = placed_as n f ∷ placed_from (n + 1) fs

-- a source of a mode over sets with these names, with these formulas
pub record IsSourceOver (m : Mode) (names : List (List ℕ)) (fs : List Form) (made : Checked) : Type 0 where
  pub mode : made.mode ≡ m
  pub globals : made.globals ≡ map global_of names
  pub predicates : made.predicates ≡ []
  pub imports : made.imports ≡ []
  pub exports : made.exports ≡ []
  pub formulas : map (λ (placed : Placed). formula_of placed.formula) made.formulas ≡ fs
  pub titles : map (λ (placed : Placed). placed.title) made.formulas ≡ map (λ f. None) fs
  pub places : map (λ (placed : Placed). placed.at) made.formulas ≡ map (λ f. start) fs
  pub items : map (λ (placed : Placed). placed.item) made.formulas ≡ numbers_from 1 fs

-- the question that it asks
abbrev pub problem_over : Mode → List (List ℕ) → List Form → Problem
problem_over m names fs = record {
  mode = m;
  globals = globals_from 0 (map global_of names);
  given = record { predicates = []; imports = [] };
  formulas = forms fs;
}
