-- A source over sets is well numbered and meets the rules of checked sources where its formulas do.
use Rattle.std.proofs.Common.{◌≡◌, ◌≢◌, ℕ, ◌+◌, ◌<◌, ◌≤◌, zero, suc, List, [], ◌∷◌, ◌++◌, length, map, refl, sym, ◌∙◌, ap, subst, arith, rules}
use Rattle.std.specs.Prelude.{AllPairs, flat_map}
use Rattle.ms_list.specs.declared.text.Text.{Text}
use Rattle.ms_logic.specs.declared.checked.Checked.{Checked}
use Rattle.ms_logic.specs.declared.checked.ExportUse.{ExportUse}
use Rattle.ms_logic.specs.declared.checked.Global.{Global}
use Rattle.ms_logic.specs.declared.checked.ImportUse.{ImportUse}
use Rattle.ms_logic.specs.declared.checked.Placed.{Placed}
use Rattle.ms_logic.specs.declared.checked.Predicate.{Predicate}
use Rattle.ms_logic.specs.declared.mode.Mode.{Mode}
use Rattle.ms_logic.specs.declared.mode.Order.{Order}
use Rattle.ms_logic.specs.declared.mode.Order.TheVariants.{Two}
use Rattle.ms_logic.specs.Lists.{Each}
use Rattle.ms_logic.specs.Tree.{Form}
use Rattle.ms_logic.specs.View.{formula_of, forms, globals_from, problem_of}
use Rattle.ms_logic_core.specs.Roots as roots
use Rattle.ms_logic_core.specs.Roots.{Export}
use Rattle.ms_names_rules.specs.Numbers.{IsWellNumbered, IsNumbered, CountUp, Tables, tables_of, exports_in}
use Rattle.ms_names_checked.specs.Checked.{MeetsRules}
use Rattle.ms_names_checked.specs.Constants.{HasConstantsInRange, IsInRange}
use Rattle.ms_names_checked.specs.Exports.{ExportListsFree, HasExportsInPlace, ListsFreeVariables}
use Rattle.ms_names_checked.specs.Names.{NamesDiffer}
use Rattle.ms_names_checked.specs.Orders.{BindsInOrder, DeclaresInOrder, HasOneOrder, HasOrder}
use Rattle.ms_translation.specs.Source.{IsSourceOver, global_of}
use Rattle.ms_translation.proofs.Exports.{ExportsNothing, none-of-two}
use Rattle.ms_translation.proofs.Globals.{names_seen, names-of-globals, restrictions-export-nothing, restrictions-in-range, restrictions-numbered}

-- the orders of variables: sets up to a number, and others behind it

pub sets_then : ℕ → List Order → List Order
sets_then zero behind = behind
sets_then (suc count) behind = Two ∷ sets_then count behind

set-there : (count : ℕ) (behind : List Order) (x : ℕ) → x < count → HasOrder (sets_then count behind) x Two
unfolding sets_then
set-there zero behind x below = absurd (omega (arith, below))
set-there (suc count) behind zero below = refl
set-there (suc count) behind (suc x) below = set-there count behind x (omega (arith, below))

pub behind-sets : (count : ℕ) (behind : List Order) (k x : ℕ) (o : Order) → x ≡ count + k → HasOrder behind k o → HasOrder (sets_then count behind) x o
unfolding sets_then
behind-sets zero behind k x o is has = let same : k ≡ x = omega (arith, is) in let P : ℕ → Type 0 = λ i. HasOrder behind i o in subst P same has
behind-sets (suc count) behind k zero o is has = absurd (omega (arith, is))
behind-sets (suc count) behind k (suc x) o is has = behind-sets count behind k x o (omega (arith, is)) has

declared-in-order : (count : ℕ) (behind : List Order) (names : List (List ℕ)) (from : ℕ) → from + length names ≤ count → Each (DeclaresInOrder (sets_then count behind)) (globals_from from (map global_of names))
declared-in-order count behind [] from within = tt
declared-in-order count behind (name ∷ names) from within = ((set-there count behind from (omega (arith, within)), tt), declared-in-order count behind names (from + 1) (omega (arith, within)))

-- what holds of each formula holds of each formula of the declarations
each-formula : (P : Form → Type 0) (made : List Placed) (fs : List Form) → map (λ (placed : Placed). formula_of placed.formula) made ≡ fs → Each P fs → Each (λ (placed : Placed). P (formula_of placed.formula)) made
each-formula P made fs same each = let E : List Form → Type 0 = Each P in in-declarations made (subst E (sym same) each)
  where
    in-declarations : (made : List Placed) → Each P (map (λ (placed : Placed). formula_of placed.formula) made) → Each (λ (placed : Placed). P (formula_of placed.formula)) made
    in-declarations [] each = tt
    in-declarations (placed ∷ more) each = (each.0, in-declarations more each.1)

flat-formulas : (made : List Placed) → flat_map (λ (placed : Placed). exports_in (formula_of placed.formula)) made ≡ flat_map exports_in (map (λ (placed : Placed). formula_of placed.formula) made)
flat-formulas [] = refl
flat-formulas (placed ∷ more) = ap (λ es. exports_in (formula_of placed.formula) ++ es) (flat-formulas more)

no-numbers : (fs : List Form) → Each ExportsNothing fs → flat_map exports_in fs ≡ []
no-numbers [] each = refl
no-numbers (f ∷ fs) each = none-of-two (exports_in f) (flat_map exports_in fs) each.0.numbers (no-numbers fs each.1)

no-exports : (fs : List Form) → Each ExportsNothing fs → roots.exports_among (forms fs) ≡ []
no-exports [] each = refl
no-exports (f ∷ fs) each = none-of-two (roots.exports_in f) (roots.exports_among (forms fs)) each.0.exports (no-exports fs each.1)

all-in-place : (fs : List Form) → Each ExportsNothing fs → Each HasExportsInPlace fs
all-in-place [] each = tt
all-in-place (f ∷ fs) each = (each.0.in_place, all-in-place fs each.1)

-- the source, by what its formulas are

module _ (mode : Mode) (names : List (List ℕ)) (fs : List Form) where
  module _ (made : List Placed) (files : List Text) (formulas : map (λ (placed : Placed). formula_of placed.formula) made ≡ fs) where
    abbrev source : Checked
    source = record { mode = mode; globals = map global_of names; predicates = []; imports = []; exports = []; formulas = made; files = files }

    well-numbered : Each (IsNumbered (tables_of source) 0 (names_seen names)) fs → Each ExportsNothing fs → IsWellNumbered source
    well-numbered numbered nothing =
        let C : List ℕ → Type 0 = λ es. CountUp 0 es 0 in
        let none = flat-formulas made ∙ (ap (flat_map exports_in) formulas ∙ no-numbers fs nothing) in
        record {
          predicates = tt;
          globals = restrictions-numbered (tables_of source) 0 (names_seen names) names 0;
          formulas = each-formula (IsNumbered (tables_of source) 0 (names_seen names)) made fs formulas numbered;
          exports = subst C (sym none) refl;
          no_exports_in_predicates = tt;
          no_exports_in_globals = restrictions-export-nothing names 0;
        }

    nothing-free : Each ExportsNothing fs → ListsFreeVariables source
    nothing-free nothing = record {
      in_place = each-formula HasExportsInPlace made fs formulas (all-in-place fs nothing);
      variables = λ answers same.
          let P : List Form → Type 0 = λ gs. Each (ExportListsFree (problem_of source answers).given []) (roots.exports_among (forms gs)) in
          let Q : List Export → Type 0 = Each (ExportListsFree (problem_of source answers).given []) in
          subst P (sym formulas) (subst Q (sym (no-exports fs nothing)) tt);
    }

    names-differ : AllPairs (λ one other. one ≢ other) names → NamesDiffer source
    names-differ different =
        let P : List (List ℕ) → Type 0 = AllPairs (λ one other. one ≢ other) in
        record { globals = subst P (sym (names-of-globals names)) different; exports = tt; imports = tt; imported = tt; files = search rules }

    one-order : (behind : List Order) → Each (BindsInOrder (sets_then (length names) behind)) fs → HasOneOrder source
    one-order behind in_order = (
      sets_then (length names) behind,
      record {
        globals = declared-in-order (length names) behind names 0 (omega arith);
        predicates = tt;
        formulas = each-formula (BindsInOrder (sets_then (length names) behind)) made fs formulas in_order;
      },
    )

    constants-in-range : Each (IsInRange mode) fs → HasConstantsInRange source
    constants-in-range in_range = record {
      globals = restrictions-in-range mode names 0;
      predicates = tt;
      formulas = each-formula (IsInRange mode) made fs formulas in_range;
    }

  module _ (made : Checked) (is : IsSourceOver mode names fs made) where
    source-same : source made.formulas made.files is.formulas ≡ made
    source-same =
        let begun = source made.formulas made.files is.formulas in
        ap (λ (m : Mode). record begun { mode = m }) (sym is.mode)
        ∙ (ap (λ (gs : List Global). record begun { mode = made.mode; globals = gs }) (sym is.globals)
        ∙ (ap (λ (ps : List Predicate). record begun { mode = made.mode; globals = made.globals; predicates = ps }) (sym is.predicates)
        ∙ (ap (λ (used : List ImportUse). record begun { mode = made.mode; globals = made.globals; predicates = made.predicates; imports = used }) (sym is.imports)
        ∙ ap (λ (used : List ExportUse). record begun { mode = made.mode; globals = made.globals; predicates = made.predicates; imports = made.imports; exports = used }) (sym is.exports))))

    pub is-well-numbered : ((tables : Tables) → Each (IsNumbered tables 0 (names_seen names)) fs) → Each ExportsNothing fs → IsWellNumbered made
    is-well-numbered numbered nothing = subst IsWellNumbered source-same (well-numbered made.formulas made.files is.formulas (numbered (tables_of (source made.formulas made.files is.formulas))) nothing)

    pub lists-free-variables : Each ExportsNothing fs → ListsFreeVariables made
    lists-free-variables nothing = subst ListsFreeVariables source-same (nothing-free made.formulas made.files is.formulas nothing)

    pub meets-rules : AllPairs (λ one other. one ≢ other) names → Each ExportsNothing fs → (behind : List Order) → Each (BindsInOrder (sets_then (length names) behind)) fs → Each (IsInRange mode) fs → MeetsRules made
    meets-rules different nothing behind in_order in_range = record {
      exports = lists-free-variables nothing;
      names = subst NamesDiffer source-same (names-differ made.formulas made.files is.formulas different);
      orders = subst HasOneOrder source-same (one-order made.formulas made.files is.formulas behind in_order);
      constants = subst HasConstantsInRange source-same (constants-in-range made.formulas made.files is.formulas in_range);
    }
