-- The worked examples: what an automaton says that is lent.
use Rattle.std.proofs.Common.{[], ◌∷◌, None, refl, sym, ap}
use Rattle.ms_logic.specs.declared.assignment.Value.TheVariants.{Set}
use Rattle.ms_logic.specs.declared.mode.Mode.TheVariants.{Ws1s}
use Rattle.ms_logic_words.specs.inner.ContentExamples.{encodings_content}
use Rattle.ms_logic_words.specs.Content.{answer_by, env_of, shortest_word, sign_at}
use Rattle.ms_logic_words.specs.Signs.{answer_for}
use Rattle.ms_logic.specs.Truth.{answer_no, answer_yes}
use Rattle.ms_logic_words.proofs.SubsetRuns.{last_of_true}
use Rattle.ms_build_source.specs.inner.Examples.{import_of_sets}
use Rattle.ms_build_source.specs.Imported.{IsAnswerOf}

pub always_yes : IsAnswerOf Ws1s import_of_sets (λ universe values. answer_yes) encodings_content
always_yes universe values is are =
    sym (ap (λ state. answer_by answer_for (sign_at encodings_content state))
    (last_of_true (shortest_word encodings_content.variables (env_of universe encodings_content.variables values))))

pub never_no : ¬ IsAnswerOf Ws1s import_of_sets (λ universe values. answer_no) encodings_content
never_no says =
    let yes = always_yes None (Set [] ∷ Set [] ∷ []) refl ((tt, tt), ((tt, tt), tt)) in
    let no = says None (Set [] ∷ Set [] ∷ []) refl ((tt, tt), ((tt, tt), tt)) in
    cc
