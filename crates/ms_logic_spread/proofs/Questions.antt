-- What a question asks are formulas of the source, whose numbers are in order.
use Rattle.std.proofs.Common.{◌≡◌, ℕ, zero, suc, Bool, true, false, cond, List, [], ◌∷◌, length, map, slice_get, Some, subst, arith}
use Rattle.std.proofs.lemmas.List.Elements.{All-contains_itself, All-head, All-tail}
use Rattle.std.specs.Option.{is_none, is_some}
use Rattle.std.specs.Prelude.{All, Contains, filter}
use Rattle.ms_logic.specs.declared.checked.Checked.{Checked}
use Rattle.ms_logic.specs.declared.checked.Placed.{Placed}
use Rattle.ms_logic.specs.Lists.{Each}
use Rattle.ms_logic.specs.View.{declared_in, formula_of, forms, goals_in}
use Rattle.ms_logic.proofs.Items.{contains_at}
use Rattle.ms_names_rules.specs.Numbers.{AreNumbered, IsNumbered, IsWellNumbered, globals_seen, tables_of}
use Rattle.ms_logic_spread.specs.RootLaws.{AreFormulasOf}

each_from_all : {A : Type 0} (P : A → Type 0) (xs : List A) → All P xs → Each P xs
each_from_all P [] all = tt
each_from_all P (x ∷ xs) all = (All-head P x xs all, each_from_all P xs (All-tail P x xs all))

-- what holds of each item holds of one that is there
each_contained : {A : Type 0} (P : A → Type 0) (xs : List A) (x : A) → Each P xs → Contains xs x → P x
each_contained P [] x each (k, below, is) = absurd (omega (arith, below))
each_contained P (y ∷ xs) x each (zero, below, is) = subst P is each.0
each_contained P (y ∷ xs) x each (suc k, below, is) = each_contained P xs x each.1 (k, omega (arith, below), is)

-- and of each that a test keeps
each_filtered : {A : Type 0} (P : A → Type 0) (test : A → Bool) (xs : List A) → Each P xs → Each P (filter test xs)
each_filtered P test [] each = tt
each_filtered P test (x ∷ xs) each =
    elim (test x) as (λ b. Each P (cond b (x ∷ filter test xs) (filter test xs))) [
      | true ↦ (each.0, each_filtered P test xs each.1)
      | false ↦ each_filtered P test xs each.1
    ]

-- the questions of the whole source, of its formula declarations, and of a goal
pub whole_asked : (checked : Checked) → AreFormulasOf checked checked.formulas
whole_asked checked = each_from_all (Contains checked.formulas) checked.formulas (All-contains_itself checked.formulas)

pub declared_asked : (checked : Checked) → AreFormulasOf checked (declared_in checked)
declared_asked checked = each_filtered (Contains checked.formulas) (λ placed. is_none placed.title) checked.formulas (whole_asked checked)

pub goal_asked : (checked : Checked) (j : ℕ) (goal : Placed) → slice_get (goals_in checked) j ≡ Some goal → AreFormulasOf checked (goal ∷ [])
goal_asked checked j goal held =
    let goals = each_filtered (Contains checked.formulas) (λ placed. is_some placed.title) checked.formulas (whole_asked checked) in
    (each_contained (Contains checked.formulas) (goals_in checked) goal goals (contains_at (goals_in checked) j goal held), tt)

module _ (checked : Checked) (well : IsWellNumbered checked) where
  abbrev IsInOrder : Placed → Type 0
  IsInOrder placed = IsNumbered (tables_of checked) (length (tables_of checked).predicates) (globals_seen checked) (formula_of placed.formula)

  -- the numbers of what is asked are in order
  pub asked_numbered : (asked : List Placed) → AreFormulasOf checked asked →
      AreNumbered (tables_of checked) (length (tables_of checked).predicates) (globals_seen checked) (forms (map (λ placed. formula_of placed.formula) asked))
  asked_numbered [] among = tt
  asked_numbered (placed ∷ asked) among = (each_contained IsInOrder checked.formulas placed well.formulas among.0, asked_numbered asked among.1)
