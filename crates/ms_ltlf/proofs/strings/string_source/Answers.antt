use Rattle.std.proofs.Common.{ℕ, ◌^◌, List, subst, arith}
use Rattle.std.specs.Prelude.{IfOk}
use Rattle.ms_logic.specs.declared.mode.Mode.TheVariants.{M2lStr}
use Rattle.ms_ltlf.specs.View.{temporal_of}
use Rattle.ms_ltlf.specs.Source.{string_formulas}
use Rattle.ms_ltlf.specs.Strings.{at_the_start, some_position, string_form}
use Rattle.ms_translation.specs.Source.{IsSourceOver}
use Rattle.ms_translation.proofs.Counts.{few-given}
use Rattle.ms_ltlf.proofs.strings.string_source.Goals as goal

pub source_over-requires : goal.source_over-requires
source_over-requires c =
    let f = temporal_of c.args.trace.now.formula in
    let x = c.len-x.result in
    few-given c.pair-formulas.result (string_formulas x f) (2 ^ 32)
    (c.pair-formulas.ensures (some_position x) (at_the_start x (string_form f x)) c.some_position.ensures (c.at_the_start-formula.ensures (string_form f x) c.formula_at.ensures)) (omega arith)

pub returns-clause-source : goal.returns-clause-source
returns-clause-source c =
    let f = temporal_of c.args.trace.now.formula in
    let x = c.len-x.result in
    let made = c.source_over.result in
    let given = c.pair-formulas.ensures (some_position x) (at_the_start x (string_form f x)) c.some_position.ensures (c.at_the_start-formula.ensures (string_form f x) c.formula_at.ensures) in
    let N : List (List ℕ) → Type 0 = λ names. IfOk made (IsSourceOver M2lStr names (string_formulas x f)) in
    let X : ℕ → Type 0 = λ n. IfOk made (IsSourceOver M2lStr c.args.trace.now.names (string_formulas n f)) in
    subst X c.len-x.ensures (subst N c.slice.ensures (c.source_over.ensures.source (string_formulas x f) given))
