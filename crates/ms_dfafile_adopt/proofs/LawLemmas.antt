-- An automaton with the values of a file answers what the file says.
use Rattle.std.proofs.Common.{◌≡◌, ℕ, false, List, [], map, refl, sym, ap, subst, ◌∙◌}
use Rattle.ms_logic_words.specs.declared.sign.Sign.{Sign}
use Rattle.ms_logic_words.specs.declared.sign.Sign.TheVariants.{Yes, No, Undefined, Outside}
use Rattle.ms_logic.specs.Assignment.{Env, Variable, IsAssignment, IsUniverseOf, value_at}
use Rattle.ms_logic_words.specs.Content.{answer_by, env_of, shortest_word}
use Rattle.ms_logic_words.specs.Signs.{answer_for}
use Rattle.ms_logic.specs.Truth.{Answer, answer_yes, answer_no, answer_undefined}
use Rattle.ms_logic_words.proofs.WordLaws.{length_is_least}
use Rattle.ms_logic.proofs.Agreement.{universe-assign_all}
use Rattle.ms_dfa.specs.declared.plain.Plain.{Plain}
use Rattle.ms_dfafile_adopt.specs.Import.{adopted_meaning, answer_of_file}
use Rattle.ms_dfafile_adopt.specs.Laws.{AnswersAsFile}
use Rattle.ms_dfafile_adopt.proofs.ValueLemmas.{given_each, given_values}

-- an answer that is neither yes nor no
neither : (answer : Answer) → (answer ≡ answer_yes → ⊥) → (answer ≡ answer_no → ⊥) → answer_undefined ≡ answer
neither answer_yes no_yes no_no = absurd (no_yes refl)
neither answer_no no_yes no_no = absurd (no_no refl)
neither answer_undefined no_yes no_no = refl

-- the right sign tells the answer
told : (plain : Plain) (names : List (List ℕ)) (variables : List Variable) (e : Env) (sign : Sign) → adopted_meaning plain names variables e sign
    → answer_for sign ≡ answer_of_file plain names e.universe (map (λ v. value_at v.order v.name e) variables)
told plain names variables e Yes right = sym right
told plain names variables e No right = sym right
told plain names variables e Undefined right = neither (answer_of_file plain names e.universe (map (λ v. value_at v.order v.name e) variables)) right.0 right.1
told plain names variables e Outside right = absurd right

pub answers_as_file : AnswersAsFile
answers_as_file plain names content rising has_values universe values is_universe are =
    let e = env_of universe content.variables values in
    let start : Env = record { universe = universe; truth = λ x. false; number = λ x. 0; set = λ x. [] } in
    let same : e.universe ≡ universe = universe-assign_all (map (λ (v : Variable). v.name) content.variables) values start in
    let given = given_values universe content.variables values rising are in
    let assigned : IsAssignment content.mode content.variables e
    = record { universe = subst (IsUniverseOf content.mode) (sym same) is_universe; values = given_each universe e content.variables values same given are } in
    let found = has_values.right (shortest_word content.variables e) e assigned (length_is_least content.mode content.variables e assigned).0 in
    ap (answer_by answer_for) found.1
    ∙ told plain names content.variables e found.0 found.2
    ∙ ap (λ u. answer_of_file plain names u (map (λ v. value_at v.order v.name e) content.variables)) same
    ∙ ap (answer_of_file plain names universe) given
