use Rattle.std.proofs.Common.{◌≡◌, ◌≤◌, ◌+◌, ◌*◌, [], ◌∷◌, length, map}
use Rattle.std.proofs.lemmas.Result.{IfOk-weaker}
use Rattle.std.specs.Prelude.{IfOk}
use Rattle.ms_logic.specs.View.{Answers, goals_in, main_question, problem_of}
use Rattle.ms_logic.specs.declared.checked.Checked.{Checked}
use Rattle.ms_logic.specs.declared.checked.Global.{Global}
use Rattle.ms_logic.specs.declared.checked.Placed.{Placed}
use Rattle.ms_logic.specs.declared.mode.Mode.TheVariants.{M2lStr}
use Rattle.ms_names_checked.specs.Checked.{MeetsRules}
use Rattle.ms_names_checked.specs.Exports.{ListsFreeVariables}
use Rattle.ms_names_rules.specs.Numbers.{IsWellNumbered}
use Rattle.ms_ltlf.specs.Meaning.{IsOverTraces, TellsTruth, TellsVerdict}
use Rattle.ms_logic_core.specs.Size.{depth_of_source, size_of_source}
use Rattle.ms_ltlf.specs.Tree.{depth, size}
use Rattle.ms_ltlf.specs.View.{temporal_of}
use Rattle.ms_ltlf.proofs.Extents.{is-deep, is-large}
use Rattle.ms_ltlf.specs.Source.{IsStringSource, start, string_formulas}
use Rattle.ms_ltlf.proofs.Rules.{is-well-numbered, lists-free-variables, meets-rules}
use Rattle.ms_ltlf.proofs.Sources.{tells-truth, is-over-traces, tells-verdict}
use Rattle.ms_translation.proofs.Asked.{names-kept, no-goals}
use Rattle.ms_ltlf.proofs.strings.to_strings.Goals as goal

pub returns : goal.returns
returns c =
    let names = c.args.trace.now.names in
    let f = temporal_of c.args.trace.now.formula in
    let so : (Q : Checked → Type 0) → ((made : Checked) → IsStringSource names f made → Q made) → IfOk c.string_source.result Q = λ Q gives.
    IfOk-weaker c.string_source.result (IsStringSource names f) Q gives c.string_source.ensures.source in
    record {
      source = c.string_source.ensures.source;
      truth = so (λ made. (answers : Answers) → TellsTruth f (main_question made answers)) (λ made is answers. tells-truth names f made answers is);
      traces = so (λ made. (answers : Answers) → IsOverTraces (length names) (main_question made answers)) (λ made is answers. is-over-traces names f made answers is);
      verdict = so (λ made. (answers : Answers) → TellsVerdict (length names) f (main_question made answers)) (λ made is answers. tells-verdict names f made answers is);
      no_goals = so (λ (made : Checked). goals_in made ≡ []) (λ made is. no-goals M2lStr names (string_formulas (length names) f) made is);
      numbered = so IsWellNumbered (λ made is. is-well-numbered names f made is c.requires.named);
      exports = so ListsFreeVariables (λ made is. lists-free-variables names f made is);
      meets_rules = so MeetsRules (λ made is. meets-rules names f made is c.requires.different);
      depth = so (λ made. (answers : Answers) → depth_of_source (problem_of made answers) ≤ 5 * depth f + 3) (λ made is answers. is-deep names f made answers is);
      size = so (λ made. (answers : Answers) → size_of_source (problem_of made answers) ≤ 14 * size f + length names + 11) (λ made is answers. is-large names f made answers is);
      mode = so (λ (made : Checked). made.mode ≡ M2lStr) (λ made is. is.mode);
      names = so (λ (made : Checked). map (λ (g : Global). g.name) made.globals ≡ names) (λ made is. names-kept M2lStr names (string_formulas (length names) f) made is);
      imports_nothing = so (λ (made : Checked). made.imports ≡ []) (λ made is. is.imports);
      exports_nothing = so (λ (made : Checked). made.exports ≡ []) (λ made is. is.exports);
      places = so (λ (made : Checked). map (λ (placed : Placed). placed.at) made.formulas ≡ start ∷ start ∷ []) (λ made is. is.places);
      items = so (λ (made : Checked). map (λ (placed : Placed). placed.item) made.formulas ≡ 1 ∷ 2 ∷ []) (λ made is. is.items);
      files = c.string_source.ensures.files;
    }
