-- Parameters with the variables that stand for them at a call.
use Rattle.std.proofs.Common.{◌≡◌, ℕ, zero, suc, ◌+◌, ◌<◌, ◌≤◌, max, min, List, [], ◌∷◌, ◌++◌, length, map, take, get_or, refl, ap, ◌∙◌, arith}
use Rattle.ms_logic.specs.declared.checked.Param.{Param}
use Rattle.ms_logic_core.specs.Spread.{named, own_names}
use Rattle.ms_logic.specs.View.{declaration_of}
use Rattle.ms_lower.specs.Bodies.{named_at, one_named}
use Rattle.ms_lower.specs.Calling.{free_at, names_at, spread_number_of}
use Rattle.ms_lower.specs.inner.Scope.{all_named}

-- one more
pub named_more : (globals : ℕ) (ps : List Param) (ys : List ℕ) (i : ℕ) (d : Param) → i < length ps → i < length ys →
    named_at globals (take (i + 1) ps) (take (i + 1) ys) ≡ named_at globals (take i ps) (take i ys) ++ one_named globals (get_or ps i d) (get_or ys i 0) ∷ []
named_more globals [] ys i d below within = absurd (omega (arith, below))
named_more globals (p ∷ ps) [] i d below within = absurd (omega (arith, within))
named_more globals (p ∷ ps) (y ∷ ys) zero d below within = refl
named_more globals (p ∷ ps) (y ∷ ys) (suc i) d below within =
    let next : suc i + 1 ≡ suc (i + 1) = omega arith in
    ap (λ k. named_at globals (take k (p ∷ ps)) (take k (y ∷ ys))) next ∙ ap (λ l. one_named globals p y ∷ l) (named_more globals ps ys i d (omega (arith, below)) (omega (arith, within)))

-- those of the shorter list are all
pub named_all : (globals : ℕ) (ps : List Param) (ys : List ℕ) (m : ℕ) → m ≡ min (length ps) (length ys) → named_at globals (take m ps) (take m ys) ≡ named_at globals ps ys
named_all globals [] ys zero is = refl
named_all globals [] ys (suc m) is = refl
named_all globals (p ∷ ps) [] zero is = refl
named_all globals (p ∷ ps) [] (suc m) is = absurd (omega (arith, is))
named_all globals (p ∷ ps) (y ∷ ys) zero is = absurd (omega (arith, is))
named_all globals (p ∷ ps) (y ∷ ys) (suc m) is = ap (λ l. one_named globals p y ∷ l) (named_all globals ps ys m (omega (arith, is)))

-- the names are those of the call
pub named_names : (globals : ℕ) (ps : List Param) (ys : List ℕ) → all_named (named_at globals ps ys) own_names ≡ names_at globals (map declaration_of ps) ys
named_names globals [] ys = refl
named_names globals (p ∷ ps) [] = refl
named_names globals (p ∷ ps) (y ∷ ys) = ap (named p.order p.variable (spread_number_of globals y)) (named_names globals ps ys)

-- the first number that is free stands behind the parameters

pub free_nowhere : (globals : ℕ) (ps : List Param) (ys : List ℕ) → length ys ≤ length ps → free_at globals (map declaration_of ps) ys ≡ globals
free_nowhere globals [] [] short = refl
free_nowhere globals [] (y ∷ ys) short = absurd (omega (arith, short))
free_nowhere globals (p ∷ ps) [] short = refl
free_nowhere globals (p ∷ ps) (y ∷ ys) short = free_nowhere globals ps ys (omega (arith, short))

pub free_there : (globals : ℕ) (ps : List Param) (ys : List ℕ) → length ps < length ys → free_at globals (map declaration_of ps) ys ≡ max globals (spread_number_of globals (get_or ys (length ps) 0))
free_there globals [] [] long = absurd (omega (arith, long))
free_there globals [] (z ∷ ys) long = refl
free_there globals (p ∷ ps) [] long = absurd (omega (arith, long))
free_there globals (p ∷ ps) (z ∷ ys) long = free_there globals ps ys (omega (arith, long))
