-- The exports of a checked source list the free variables of what they export.
use Rattle.std.proofs.Common.{◌≡◌, ℕ, zero, suc, ◌↔◌, inl, inr, ⊎_elim, List, [], ◌∷◌, length, map, Option, Some, refl, sym, ap, subst, ◌∙◌, arith}
use Rattle.std.specs.Prelude.{slice_get}
use Rattle.std.specs.List.{zip}
use Rattle.std.specs.Option.{IsSomeAnd}
use Rattle.ms_logic.specs.declared.checked.Checked.{Checked}
use Rattle.ms_logic.specs.declared.checked.ImportUse.{ImportUse}
use Rattle.ms_logic.specs.declared.checked.MapPair.{MapPair}
use Rattle.ms_logic.specs.declared.checked.Placed as code
use Rattle.ms_logic.specs.declared.source.Loaded.{Loaded}
use Rattle.ms_logic.specs.Assignment.{Variable}
use Rattle.ms_logic.specs.FreeVariables.{IsListed, IsReadBy, reads_of_imports, reads_with_predicates}
use Rattle.ms_logic_core.specs.Roots.{Export, exports_among, exports_in}
use Rattle.ms_logic.specs.View.{formula_of, forms, import_of, predicate_of, problem_of, Answers}
use Rattle.ms_names_rules.specs.Declarations.{at_the_beginning, count_of_globals}
use Rattle.ms_logic.specs.Lists.{Each}
use Rattle.ms_names_rules.specs.Numbers.{tables_of}
use Rattle.ms_names_rules.specs.TypedSource.{IsTyped, TypedFormula, placed_formula_of}
use Rattle.ms_parse_grammar.specs.View.{declared_of}
use Rattle.ms_names_rules.proofs.Fitting.{If, each-append, each-weaker}
use Rattle.ms_names_rules.proofs.Numbering.{Stand}
use Rattle.ms_names_rules.proofs.Standing.{stand-all}
use Rattle.ms_names_checked.specs.Exports.{ExportListsFree, ListsFree}
use Rattle.ms_names_checked.proofs.Stages.{ListsIn, Rest, Stage, lists-from}
use Rattle.ms_names_checked.proofs.Told.{ExportLists, IsPaired, ListsFreeUnder}

-- what imports read

listed-paired : (pairs : List MapPair) (w : Variable) → IsListed (map (λ (p : MapPair). record { name = p.variable; order = p.order }) pairs) w ↔ IsPaired pairs w
listed-paired [] w = (λ h. h, λ h. h)
listed-paired (p ∷ pairs) w =
    let rest = listed-paired pairs w in
    (λ h. ⊎_elim (λ here. inl here) (λ later. inr (rest.0 later)) h, λ h. ⊎_elim (λ here. inl here) (λ later. inr (rest.1 later)) h)

found-imports : (used : List ImportUse) (answers : Answers) (i : ℕ) (one : ImportUse) (w : Variable) → length answers ≡ length used → slice_get used i ≡ Some one →
    IsReadBy (slice_get (map (λ p. import_of p.0 p.1) (zip used answers)) i) w ↔ IsPaired one.pairs w
found-imports [] answers i one w long is = absurd (cc)
found-imports (u ∷ used) [] i one w long is = absurd (omega (arith, long))
found-imports (u ∷ used) (answer ∷ answers) zero one w long is =
    let same : u ≡ one = cc in subst (λ (there : ImportUse). IsListed (map (λ (p : MapPair). record { name = p.variable; order = p.order }) u.pairs) w ↔ IsPaired there.pairs w) same (listed-paired u.pairs w)
found-imports (u ∷ used) (answer ∷ answers) (suc i) one w long is = found-imports used answers i one w (omega (arith, long)) is

-- lists of what is there

somes : {A B : Type 0} (f : A → B) (xs : List A) → map (λ y. Some y) (map f xs) ≡ map (λ x. Some (f x)) xs
somes f [] = refl
somes f (x ∷ xs) = ap (λ ys. Some (f x) ∷ ys) (somes f xs)

-- the exports of all formulas

list-weaker : {A : Type 0} (P Q : A → Type 0) (o : Option A) → ((x : A) → P x → Q x) → IsSomeAnd o P → IsSomeAnd o Q
list-weaker P Q (Some x) weaker h = weaker x h
list-weaker P Q Option.None weaker h = h

entry-lists : (checked : Checked) (answers : Answers) (e : Export) →
    ExportLists (reads_with_predicates (reads_of_imports (problem_of checked answers).given.imports) 0 (problem_of checked answers).given.predicates) checked.exports e →
    ExportListsFree (problem_of checked answers).given checked.exports e
entry-lists checked answers e h =
    let r = reads_with_predicates (reads_of_imports (problem_of checked answers).given.imports) 0 (problem_of checked answers).given.predicates in
    list-weaker (ListsFreeUnder r e.formula) (ListsFree (problem_of checked answers).given e.formula) (slice_get checked.exports e.number)
    (λ used lists. (lists.0, lists.1, record { rising = lists.2; free = lists.3 })) h

formulas-listed : (P : Export → Type 0) (fs : List code.Placed) → Each (If (λ (f : TypedFormula). Each P (exports_in f.formula))) (map (λ f. Some (placed_formula_of f)) fs) →
    Each P (exports_among (forms (map (λ (f : code.Placed). formula_of f.formula) fs)))
formulas-listed P [] h = tt
formulas-listed P (f ∷ fs) h =
    each-append P (exports_in (formula_of f.formula)) (exports_among (forms (map (λ (f : code.Placed). formula_of f.formula) fs))) h.0 (formulas-listed P fs h.1)

pub variables-listed : (loaded : Loaded) (checked : Checked) → IsTyped loaded checked → (answers : Answers) → length answers ≡ length checked.imports →
    Each (ExportListsFree (problem_of checked answers).given checked.exports) (exports_among (problem_of checked answers).formulas)
variables-listed loaded checked typed answers long =
    let ds = map declared_of loaded.items in
    let k = at_the_beginning loaded.mode ds in
    let low = count_of_globals ds in
    let tables = tables_of checked in
    let r = reads_of_imports (problem_of checked answers).given.imports in
    let predicates = map predicate_of checked.predicates in
    let all = reads_with_predicates r 0 predicates in
    let stage : Stage tables r low k ds = record {
      knows = record { readings = refl; names = tt; numbers = tt; sets = tt; falls = tt };
      below = tt;
      enough = omega arith;
      from = omega arith;
      imports = λ i used w is. found-imports checked.imports answers i used w long is;
    } in
    let rest : Rest tables k 0 ds = record {
      imports_are = subst (λ xs. Stand checked.imports 0 xs) typed.imports_are (stand-all checked.imports);
      exports_are = subst (λ xs. Stand checked.exports 0 xs) typed.exports_are (stand-all checked.exports);
    } in
    let listed = lists-from tables all r low predicates k 0 ds refl (somes predicate_of checked.predicates ∙ typed.predicates_are) stage rest in
    let P : Export → Type 0 = ExportLists all checked.exports in
    let here : Each (If (ListsIn tables all)) (map (λ f. Some (placed_formula_of f)) checked.formulas) =
    subst (λ xs. Each (If (ListsIn tables all)) xs) (sym typed.formulas_are) listed in
    each-weaker P (ExportListsFree (problem_of checked answers).given checked.exports) (exports_among (problem_of checked answers).formulas) (entry-lists checked answers)
    (formulas-listed P checked.formulas here)
