use Rattle.std.proofs.Common.{◌≡◌, ℕ, ◌+◌, ◌*◌, ◌≤◌, ◌^◌, ◌∷◌, [], length, map}
use Rattle.std.proofs.lemmas.Result.{IfOk-weaker}
use Rattle.ms_logic.specs.View.{Answers, goals_in, main_question, problem_of}
use Rattle.ms_logic_core.specs.Size.{depth_of_source, size_of_source}
use Rattle.ms_presburger.specs.Tree.{extent, reach, size}
use Rattle.ms_presburger.proofs.Extents.{is-deep, is-large}
use Rattle.ms_logic.specs.declared.checked.Checked.{Checked}
use Rattle.ms_logic.specs.declared.checked.Global.{Global}
use Rattle.ms_logic.specs.declared.checked.Placed.{Placed}
use Rattle.ms_logic.specs.declared.mode.Mode.TheVariants.{Ws1s}
use Rattle.ms_names_checked.specs.Checked.{MeetsRules}
use Rattle.ms_names_checked.specs.Exports.{ListsFreeVariables}
use Rattle.ms_names_rules.specs.Numbers.{IsWellNumbered}
use Rattle.ms_presburger.specs.Meaning.{IsOverNumbers, TellsTruth, TellsVerdict}
use Rattle.ms_presburger.specs.Source.{IsSetSource, main_form, start}
use Rattle.ms_presburger.specs.inner.Scopes.{AreFactorsSmall}
use Rattle.ms_presburger.specs.View.{arithmetic_of}
use Rattle.ms_presburger.proofs.Kept.{with-kept}
use Rattle.ms_presburger.proofs.Numbering.{is-well-numbered, lists-free-variables, meets-rules}
use Rattle.ms_presburger.proofs.Sources.{tells-truth, is-over-numbers, tells-verdict}
use Rattle.ms_translation.proofs.Asked.{names-kept, no-goals}
use Rattle.ms_presburger.proofs.sets.to_sets.Goals as goal

pub returns : goal.returns
returns c =
    let names = c.args.problem.now.names in
    let f = arithmetic_of c.args.problem.now.formula in
    let result = c.set_source.result in
    let source = c.set_source.ensures.source in
    let small = c.set_source.ensures.small in
    record {
      source = source;
      truth = IfOk-weaker result (IsSetSource names f) (λ made. (answers : Answers) → TellsTruth names f (main_question made answers)) (λ made is answers. tells-truth names f made answers c.requires.names is) source;
      numbers = IfOk-weaker result (IsSetSource names f) (λ made. (answers : Answers) → IsOverNumbers names (main_question made answers)) (λ made is answers. is-over-numbers names f made answers c.requires.names is) source;
      verdict = IfOk-weaker result (IsSetSource names f) (λ made. (answers : Answers) → TellsVerdict f (main_question made answers)) (λ made is answers. tells-verdict names f made answers c.requires.names is) source;
      no_goals = IfOk-weaker result (IsSetSource names f) (λ (made : Checked). goals_in made ≡ []) (λ made is. no-goals Ws1s names (main_form names f ∷ []) made is) source;
      numbered = with-kept result (IsSetSource names f) IsWellNumbered (AreFactorsSmall f) (λ made is small. is-well-numbered names f made c.requires.names small is) source small;
      exports = with-kept result (IsSetSource names f) ListsFreeVariables (AreFactorsSmall f) (λ made is small. lists-free-variables names f made c.requires.names small is) source small;
      meets_rules = with-kept result (IsSetSource names f) MeetsRules (AreFactorsSmall f) (λ made is small. meets-rules names f made c.requires.names small is) source small;
      depth = with-kept result (IsSetSource names f) (λ made. (answers : Answers) (levels : ℕ) → 64 * extent f ≤ 2 ^ levels → depth_of_source (problem_of made answers) ≤ reach f + 2 * levels + 12) (AreFactorsSmall f) (λ made is small answers levels few. is-deep names f small made answers is levels few) source small;
      size = with-kept result (IsSetSource names f) (λ made. (answers : Answers) → size_of_source (problem_of made answers) ≤ 27 * size f + 3520 * extent f + length names + 1) (AreFactorsSmall f) (λ made is small answers. is-large names f small made answers is) source small;
      mode = IfOk-weaker result (IsSetSource names f) (λ (made : Checked). made.mode ≡ Ws1s) (λ made is. is.mode) source;
      names = IfOk-weaker result (IsSetSource names f) (λ (made : Checked). map (λ (g : Global). g.name) made.globals ≡ names) (λ made is. names-kept Ws1s names (main_form names f ∷ []) made is) source;
      imports_nothing = IfOk-weaker result (IsSetSource names f) (λ (made : Checked). made.imports ≡ []) (λ made is. is.imports) source;
      exports_nothing = IfOk-weaker result (IsSetSource names f) (λ (made : Checked). made.exports ≡ []) (λ made is. is.exports) source;
      places = IfOk-weaker result (IsSetSource names f) (λ (made : Checked). map (λ (placed : Placed). placed.at) made.formulas ≡ start ∷ []) (λ made is. is.places) source;
      items = IfOk-weaker result (IsSetSource names f) (λ (made : Checked). map (λ (placed : Placed). placed.item) made.formulas ≡ 1 ∷ []) (λ made is. is.items) source;
      files = c.set_source.ensures.files;
    }
