use Rattle.std.proofs.Common.{ℕ, ◌^◌, ◌∷◌, [], length, List, ap, subst, arith}
use Rattle.std.specs.Prelude.{IfOk}
use Rattle.ms_logic.specs.declared.mode.Mode.TheVariants.{Ws1s}
use Rattle.ms_presburger.specs.Sets.{set_form}
use Rattle.ms_presburger.specs.Source.{main_form, place_of}
use Rattle.ms_presburger.specs.View.{arithmetic_of}
use Rattle.ms_presburger.proofs.Few.{few-names}
use Rattle.ms_translation.specs.Source.{IsSourceOver}
use Rattle.ms_translation.proofs.Counts.{few-given}
use Rattle.ms_presburger.proofs.sets.set_source.Goals as goal

pub free-requires : goal.free-requires
free-requires c =
    omega (arith, few-names c.args.problem.now.names (arithmetic_of c.args.problem.now.formula) c.requires.names, c.requires.few, ap (λ (l : List (List ℕ)). length l) c.slice-names.ensures)

pub overflow_cast-names : goal.overflow_cast-names
overflow_cast-names c =
    omega (arith, few-names c.args.problem.now.names (arithmetic_of c.args.problem.now.formula) c.requires.names, c.requires.few, ap (λ (l : List (List ℕ)). length l) c.slice-names.ensures)

pub formula_at-formula-requires-clause-room : goal.formula_at-formula-requires-clause-room
formula_at-formula-requires-clause-room c =
    let few = few-names c.args.problem.now.names (arithmetic_of c.args.problem.now.formula) c.requires.names in
    omega (arith, few, c.requires.few, ap (λ (l : List (List ℕ)). length l) c.slice-names.ensures)

pub source_over-requires : goal.source_over-requires
source_over-requires c =
    let names = c.slice-names.result.now in
    let form = set_form (arithmetic_of c.args.problem.now.formula) (place_of names) (length names) in
    few-given c.single.result (form ∷ []) (2 ^ 32) (c.single.ensures.given form (c.formula_at-formula.ensures.made (place_of names) c.in_ok-bindings.ensures)) (omega arith)

pub returns-clause-source : goal.returns-clause-source
returns-clause-source c =
    let f = arithmetic_of c.args.problem.now.formula in
    let names = c.slice-names.result.now in
    let form = set_form f (place_of names) (length names) in
    let N : List (List ℕ) → Type 0 = λ ns. IfOk c.source_over.result (IsSourceOver Ws1s ns (main_form ns f ∷ [])) in
    subst N c.slice-names.ensures (c.source_over.ensures.source (form ∷ []) (c.single.ensures.given form (c.formula_at-formula.ensures.made (place_of names) c.in_ok-bindings.ensures)))
