-- The main root of a question.
use Rattle.std.proofs.Common.{◌≡◌, ℕ, zero, suc, ◌+◌, ◌*◌, ◌-◌, ◌<◌, ◌≤◌, cond, max, min, List, [], ◌∷◌, ◌++◌, length, map, take, get_or, refl, sym, ap, ap₂, ◌∙◌, arith}
use Rattle.std.proofs.lemmas.Bool.{lt-ltb}
use Rattle.std.proofs.lemmas.List.{map-append, take_more}
use Rattle.std.proofs.lemmas.List.FromFn.{map-range_with_len_more}
use Rattle.std.specs.List.{range_with_len}
use Rattle.std.specs.Option.{option_map}
use Rattle.ms_logic.specs.declared.checked.Global.{Global}
use Rattle.ms_logic.specs.declared.checked.Placed.{Placed}
use Rattle.ms_logic_core.specs.declared.core_formula.Core.{Core}
use Rattle.ms_logic.specs.declared.mode.Order.{Order}
use Rattle.ms_logic.specs.Assignment.{Variable}
use Rattle.ms_logic_core.specs.CoreForm.{CoreForm, core_form_of}
use Rattle.ms_logic_core.specs.Roots.{first_free}
use Rattle.ms_logic_core.specs.Spread.{Callees, Names, conjunction_of, own_names, restriction_before, restrictions_of, spread_each, spread_under}
use Rattle.ms_logic.specs.Tree.{Declaration}
use Rattle.ms_logic.specs.View.{formula_of, forms, globals_from, restriction}
use Rattle.ms_lower.specs.declared.tables.Tables.{Tables}
use Rattle.ms_lower.specs.Callees.{callees_in}
use Rattle.ms_lower.specs.NumberedRoots.{NumberedRoot, main_over, numbering_over, renumbered_root, root_of_forms}
use Rattle.ms_lower.specs.Numbering.{Numbering, number_at, numbering_of, rank, renumbered, variables_at}
use Rattle.ms_lower.proofs.Lowering.{conjunction_renumbered}
use Rattle.ms_lower.proofs.Operands.{restrictions-more, spread_each-append}

global_at : ℕ → Global → Declaration
global_at name g = record { variable = record { name = name; order = g.order }; restriction = restriction (option_map formula_of g.domain) }

globals_from-append : (k : ℕ) (gs : List Global) (g : Global) → globals_from k (gs ++ g ∷ []) ≡ globals_from k gs ++ global_at (k + length gs) g ∷ []
unfolding global_at
globals_from-append k [] g = let at : k ≡ k + 0 = omega arith in ap (λ m. global_at m g ∷ []) at
globals_from-append k (h ∷ gs) g =
    let at : k + 1 + length gs ≡ k + length (h ∷ gs) = omega arith in
    ap (λ l. global_at k h ∷ l) (globals_from-append (k + 1) gs g ∙ ap (λ m. globals_from (k + 1) gs ++ global_at m g ∷ []) at)

globals-more : (gs : List Global) (i : ℕ) (g : Global) → i < length gs → g ≡ get_or gs i g → globals_from 0 (take (i + 1) gs) ≡ globals_from 0 (take i gs) ++ global_at (0 + length (take i gs)) g ∷ []
globals-more gs i g below is =
    ap (globals_from 0) (take_more gs i g below ∙ ap (λ y. take i gs ++ y ∷ []) (sym is)) ∙ globals_from-append 0 (take i gs) g

module _ (n : Numbering) (c : Callees) (names : Names) (free : ℕ) where
  -- one global more
  pub global-more : (gs : List Global) (i : ℕ) (g : Global) (there : Names) (before after : List CoreForm) → i < length gs → g ≡ get_or gs i g → there ≡ names →
      before ≡ map (renumbered n) (restrictions_of c (globals_from 0 (take i gs)) names free) → after ≡ before ++ map (renumbered n) (restriction_before c (restriction (option_map formula_of g.domain)) there free []) →
      after ≡ map (renumbered n) (restrictions_of c (globals_from 0 (take (i + 1) gs)) names free)
  unfolding global_at
  global-more gs i g there before after below is = restrictions-more n c names free (globals_from 0 (take i gs)) (globals_from 0 (take (i + 1) gs)) (global_at (0 + length (take i gs)) g) there before after (globals-more gs i g below is)

  -- one formula more
  pub placed-more : (ps : List Placed) (p : Placed) (cores made : List Core) (core : Core) →
      map core_form_of cores ≡ map (renumbered n) (spread_each c (forms (map (λ placed. formula_of placed.formula) ps)) names free) →
      core_form_of core ≡ renumbered n (spread_under c (formula_of p.formula) names free) → made ≡ cores ++ core ∷ [] →
      map core_form_of made ≡ map (renumbered n) (spread_each c (forms (map (λ placed. formula_of placed.formula) (ps ++ p ∷ []))) names free)
  placed-more ps p cores made core before one made_is =
      let front = spread_each c (forms (map (λ placed. formula_of placed.formula) ps)) names free in
      ap (map core_form_of) made_is
      ∙ (map-append core_form_of cores (core ∷ [])
      ∙ (ap₂ (λ l k. l ++ k ∷ []) before one
      ∙ (sym (map-append (renumbered n) front (spread_under c (formula_of p.formula) names free ∷ []))
      ∙ (ap (map (renumbered n)) (sym (spread_each-append c (map (λ placed. formula_of placed.formula) ps) (formula_of p.formula) names free))
      ∙ ap (λ l. map (renumbered n) (spread_each c (forms l) names free)) (sym (map-append (λ placed. formula_of placed.formula) ps (p ∷ [])))))))

-- the numbers from 0 on
range_is_map : (a n : ℕ) → map (λ x. let k : ℕ = x in k) (range_with_len a n) ≡ range_with_len a n
range_is_map a zero = refl
range_is_map a (suc n) = ap (λ l. a ∷ l) (range_is_map (a + 1) n)

pub range-more : (n : ℕ) → range_with_len 0 n ++ n ∷ [] ≡ range_with_len 0 (n + 1)
range-more n =
    ap (λ l. l ++ n ∷ []) (sym (range_is_map 0 n))
    ∙ (sym (map-range_with_len_more (λ x. let k : ℕ = x in k) 0 n n (omega arith)) ∙ range_is_map 0 (n + 1))

-- globals keep their numbers
pub global-number : (kept globals : ℕ) (o : Order) (x : ℕ) → x < kept → number_at kept globals o x ≡ x
global-number kept globals o x below = ap (λ b. cond b x (globals + (3 * (x - kept) + rank o))) (lt-ltb x kept below)

globals_kept : (globals k : ℕ) (gs : List Global) → k + length gs ≤ globals → range_with_len k (length gs) ≡ map (λ v. number_at globals globals v.order v.name) (map (λ d. d.variable) (globals_from k gs))
globals_kept globals k [] within = refl
globals_kept globals k (g ∷ gs) within =
    ap (λ x. x ∷ range_with_len (k + 1) (length gs)) (sym (global-number globals globals g.order k (omega arith)))
    ∙ ap (λ l. number_at globals globals g.order k ∷ l) (globals_kept globals (k + 1) gs (omega arith))

-- the first number that is free behind the globals
first_free_from : (k : ℕ) (g : Global) (gs : List Global) → first_free (map (λ d. d.variable) (globals_from k (g ∷ gs))) ≡ k + 1 + length gs
first_free_from k g [] = omega arith
first_free_from k g (h ∷ gs) = ap (max (k + 1)) (first_free_from (k + 1) h gs) ∙ omega arith

pub first_free_globals : (gs : List Global) → first_free (map (λ d. d.variable) (globals_from 0 gs)) ≡ length gs
first_free_globals [] = refl
first_free_globals (g ∷ gs) = first_free_from 0 g gs ∙ omega arith

-- the main root of a question, by its restrictions and its formulas
pub main_made : (tables : Tables) (gs : List Global) (asked : List Placed) (free : ℕ) (front later : List CoreForm) (root : NumberedRoot) → length gs ≡ tables.globals → tables.kept ≡ tables.globals → free ≡ tables.globals →
    front ≡ map (renumbered (numbering_of tables)) (restrictions_of (callees_in tables) (globals_from 0 gs) own_names free) →
    later ≡ map (renumbered (numbering_of tables)) (spread_each (callees_in tables) (forms (map (λ placed. formula_of placed.formula) asked)) own_names free) →
    root ≡ root_of_forms tables.globals (front ++ later) → root ≡ renumbered_root tables (main_over tables gs asked)
main_made tables gs asked free front later root count kept free_is front_is later_is root_is =
    let vs : List Variable = map (λ d. d.variable) (globals_from 0 gs) in
    let first : tables.globals ≡ first_free vs = sym count ∙ sym (first_free_globals gs) in
    let own : min tables.globals (first_free vs) ≡ tables.globals = omega (arith, first) in
    let n : numbering_of tables ≡ numbering_over tables vs = ap (λ k. let m : Numbering = record { number = number_at k tables.globals; imported = variables_at tables } in m) (kept ∙ sym own) in
    let numbers : range_with_len 0 tables.globals ≡ map (λ v. (numbering_over tables vs).number v.order v.name) vs =
    ap (range_with_len 0) (sym count) ∙ (globals_kept tables.globals 0 gs (omega (arith, count)) ∙ ap (λ k. map (λ v. number_at k tables.globals v.order v.name) vs) (sym own)) in
    let restrictions : ℕ → List CoreForm = λ k. restrictions_of (callees_in tables) (globals_from 0 gs) own_names k in
    let formulas : ℕ → List CoreForm = λ k. spread_each (callees_in tables) (forms (map (λ placed. formula_of placed.formula) asked)) own_names k in
    let formula : conjunction_of (front ++ later) ≡ renumbered (numbering_over tables vs) (conjunction_of (restrictions (first_free vs) ++ formulas (first_free vs))) =
    ap conjunction_of (ap₂ (λ l k. l ++ k) front_is later_is ∙ sym (map-append (renumbered (numbering_of tables)) (restrictions free) (formulas free)))
    ∙ (sym (conjunction_renumbered (numbering_of tables) (restrictions free ++ formulas free))
    ∙ ap₂ (λ m k. renumbered m (conjunction_of (restrictions k ++ formulas k))) n (free_is ∙ first)) in
    root_is ∙ ap₂ (λ l f. let r : NumberedRoot = record { variables = l; formula = f } in r) numbers formula
