-- The parts of a source are those of the mathematical source.
use Rattle.std.proofs.Common.{◌≡◌, ℕ, ◌+◌, ◌<◌, ◌≤◌, min, List, [], ◌∷◌, ◌++◌, suc, length, map, Some, Result, inl, inr, refl, sym, ap, subst, ◌∙◌, arith, append_assoc}
use Rattle.std.proofs.lemmas.Bool.{cases_lt}
use Rattle.ms_list.specs.declared.at.At.{At}
use Rattle.ms_edge.specs.declared.refusal.Refusal.TheVariants.{Depth, CoreSize}
use Rattle.ms_logic.specs.declared.checked.Checked.{Checked}
use Rattle.ms_logic.specs.declared.checked.Global.{Global}
use Rattle.ms_logic.specs.declared.checked.Placed.{Placed}
use Rattle.ms_logic.specs.declared.checked.Predicate as code
use Rattle.ms_lower.specs.declared.source_extents.Deep.{Deep}
use Rattle.ms_logic_core.specs.Size.{Extents, extents_of, extents_of_each, extents_of_restrictions, total_size, greatest_depth, parts_of_source}
use Rattle.ms_logic.specs.View.{formula_of, forms, globals_from, predicate_of, problem_of, Answers}
use Rattle.ms_lower.specs.declared.counted.Counted.{Counted}
use Rattle.ms_lower.specs.Counted.{counted, deepest, too_large, whole_count}
use Rattle.ms_lower.specs.Measure.{IsDepthRefusal, IsMeasure, IsSizeRefusal}
use Rattle.ms_lower.specs.TooDeep.{Part, HasTooDeep, NoneBefore, IsFound, parts_under, extents_of_parts, part_of_formula, part_of_global, parts_of}
use Rattle.std.proofs.lemmas.Option.{same_Some}
use Rattle.ms_lower.proofs.Counting.{within, beyond}
use Rattle.ms_lower.proofs.Parts.{none_is_not_some, greatest-append}

extents_of_parts-append : (front later : List Part) → extents_of_parts (front ++ later) ≡ extents_of_parts front ++ extents_of_parts later
extents_of_parts-append [] later = refl
extents_of_parts-append (p ∷ front) later = ap (λ l. p.extents ++ l) (extents_of_parts-append front later) ∙ sym (append_assoc p.extents (extents_of_parts front) (extents_of_parts later))

extents_of_globals : (x : Extents) (count : ℕ) (globals : List Global) → extents_of_parts (map (part_of_global x) globals) ≡ extents_of_restrictions x (globals_from count globals)
extents_of_globals x count [] = refl
extents_of_globals x count (g ∷ globals) = ap (λ l. (part_of_global x g).extents ++ l) (extents_of_globals x (count + 1) globals)

extents_of_formulas : (x : Extents) (formulas : List Placed) → extents_of_parts (map (part_of_formula x) formulas) ≡ extents_of_each x (forms (map (λ placed. formula_of placed.formula) formulas))
extents_of_formulas x [] = refl
extents_of_formulas x (f ∷ formulas) = ap (λ l. (part_of_formula x f).extents ++ l) (extents_of_formulas x formulas)

pub parts-same : (checked : Checked) (answers : Answers) → extents_of_parts (parts_of checked) ≡ parts_of_source (problem_of checked answers)
parts-same checked answers =
    let x = extents_of (map predicate_of checked.predicates) in
    extents_of_parts-append (map (part_of_global x) checked.globals) (map (part_of_formula x) checked.formulas)
    ∙ (ap (λ l. l ++ extents_of_parts (map (part_of_formula x) checked.formulas)) (extents_of_globals x 0 checked.globals)
    ∙ ap (λ l. extents_of_restrictions x (globals_from 0 checked.globals) ++ l) (extents_of_formulas x checked.formulas))

pub globals-length : (count : ℕ) (globals : List Global) → length (globals_from count globals) ≡ length globals
globals-length count [] = refl
globals-length count (g ∷ globals) = ap suc (globals-length (count + 1) globals)

-- a part that is too deep makes the source too deep
pub too_deep-greatest : (item : ℕ) (at : At) (parts : List Part) → HasTooDeep item at parts → deepest < greatest_depth (extents_of_parts parts)
too_deep-greatest item at [] deep = absurd deep
too_deep-greatest item at (p ∷ parts) (inl deep) = let both = greatest-append p.extents (extents_of_parts parts) in let d = deep.2 in omega (arith, both)
too_deep-greatest item at (p ∷ parts) (inr later) =
    let both = greatest-append p.extents (extents_of_parts parts) in
    let d = too_deep-greatest item at parts later in
    omega (arith, both)

-- what the count of the parts tells of the source
pub record Tells (checked : Checked) (answers : Answers) (c : Counted) : Type 0 where
  pub size : c.size ≡ min (total_size (parts_of_source (problem_of checked answers))) too_large
  pub depth : c.depth ≡ greatest_depth (parts_of_source (problem_of checked answers))
  pub within : c.depth ≤ deepest

pub count_tells : (checked : Checked) (answers : Answers) (c : Counted) → counted deepest (extents_of_parts (parts_of checked)) ≡ Some c → Tells checked answers c
count_tells checked answers c is =
    let same = parts-same checked answers in
    elim (cases_lt deepest (greatest_depth (extents_of_parts (parts_of checked)))) [
      | inl deep ↦ absurd (none_is_not_some c (sym (beyond deepest (extents_of_parts (parts_of checked)) deep) ∙ is))
      | inr small ↦
          let there = same_Some _ _ (sym is ∙ within deepest (extents_of_parts (parts_of checked)) small) in
          record {
            size = ap (λ k. k.size) there ∙ ap (λ l. min (total_size l) too_large) same;
            depth = ap (λ k. k.depth) there ∙ ap greatest_depth same;
            within = let d = ap (λ k. k.depth) there in omega (arith, small);
          }
    ]

pub depth-small : (checked : Checked) (c : Counted) → counted deepest (extents_of_parts (parts_of checked)) ≡ Some c → c.depth ≤ deepest
depth-small checked c is = (count_tells checked [] c is).within

pub is_measure : (checked : Checked) (answers : Answers) (c whole : Counted) → counted deepest (extents_of_parts (parts_of checked)) ≡ Some c → whole ≡ whole_count c (length checked.globals) →
    whole.size < too_large → IsMeasure (problem_of checked answers) whole.size whole.depth
is_measure checked answers c whole is made small =
    let tells = count_tells checked answers c is in
    let g = globals-length 0 checked.globals in
    let s = ap (λ k. k.size) made in
    let d = ap (λ k. k.depth) made in
    record {
      size_is = omega (arith, tells.size, g, s, small);
      depth_is = omega (arith, tells.depth, d);
      size_within = omega arith;
      depth_within = omega (arith, tells.within, d);
    }

pub is_size_refusal : (checked : Checked) (answers : Answers) (c whole : Counted) → counted deepest (extents_of_parts (parts_of checked)) ≡ Some c → whole ≡ whole_count c (length checked.globals) →
    too_large ≤ whole.size → IsSizeRefusal checked answers CoreSize
is_size_refusal checked answers c whole is made large =
    let tells = count_tells checked answers c is in
    let g = globals-length 0 checked.globals in
    let s = ap (λ k. k.size) made in
    record {
      is = refl;
      not_deep = omega (arith, tells.depth, tells.within);
      too_large = omega (arith, tells.size, g, s, large);
    }

pub is_depth_refusal : (checked : Checked) (answers : Answers) (item : ℕ) (at : At) → HasTooDeep item at (parts_of checked) × NoneBefore item (parts_of checked) →
    IsDepthRefusal checked answers (Depth at)
is_depth_refusal checked answers item at found =
    let deep = too_deep-greatest item at (parts_of checked) found.0 in
    let same = ap greatest_depth (parts-same checked answers) in
    record { at = at; is = refl; too_deep = omega (arith, deep, same); first = record { item = item; deep = found.0; first = found.1 } }

-- what is found of the lists of a source is found of its parts
pub found_of : (checked : Checked) (ps : List code.Predicate) (gs : List Global) (fs : List Placed) (r : Result Counted Deep) → ps ≡ checked.predicates → gs ≡ checked.globals → fs ≡ checked.formulas →
    IsFound (parts_under (extents_of (map predicate_of ps)) gs fs) r → IsFound (parts_of checked) r
found_of checked ps gs fs r p g f found =
    subst (λ l. IsFound (parts_under (extents_of (map predicate_of checked.predicates)) checked.globals l) r) f
    (subst (λ l. IsFound (parts_under (extents_of (map predicate_of checked.predicates)) l fs) r) g
    (subst (λ l. IsFound (parts_under (extents_of (map predicate_of l)) gs fs) r) p found))
