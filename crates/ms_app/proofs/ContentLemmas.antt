-- The canonical content of an automaton with a main value gives that value.
use Rattle.std.proofs.Common.{◌≡◌, ℕ, List, [], ◌∷◌, map, take, drop, slice_get, refl, sym, ap, ap₂, subst, ◌∙◌}
use Rattle.std.proofs.lemmas.Option.{none-some, same_Some}
use Rattle.ms_dfa.specs.Files.{content_of_file, file_states_of}
use Rattle.ms_dfa.proofs.OrdersLemmas.{orders_of}
use Rattle.ms_dfa.specs.declared.plain.FileState.{FileState}
use Rattle.ms_dfa.specs.declared.plain.FileVersion.{FileVersion}
use Rattle.ms_dfa.specs.declared.plain.Plain.{Plain}
use Rattle.ms_logic_words.specs.declared.sign.Sign.{Sign}
use Rattle.ms_logic.specs.Assignment.{Variable}
use Rattle.ms_logic_words.specs.Content.{Content, variables_by_place}
use Rattle.ms_logic.specs.Verdict.{Problem, variables_of}
use Rattle.ms_build_source.specs.inner.Copies.{IsCanonicalCopy}
use Rattle.ms_build_source.specs.Values.{GivesValue, HasMainValue, IsFileOf, IsMainFile, content_over}
use Rattle.ms_build_source.proofs.FileValues.{file_of}
use Rattle.ms_dfa.specs.Values.{HasValues, main_meaning}
use Rattle.ms_app.specs.Counts.{IsCanonicalOf}

module _ (version : FileVersion) (problem : Problem) (content : Content Sign) (value : HasMainValue problem content)
    (by_place : content.variables ≡ variables_by_place (map (λ v. v.order) content.variables)) (names : List (List ℕ)) (plain : Plain) (copy : IsCanonicalCopy version content names plain) where
  abbrev orders_are : orders_of (variables_of problem.globals) ≡ orders_of content.variables
  orders_are = ap orders_of (sym value.variables)

  abbrev values : HasValues (main_meaning problem) (record content { variables = variables_of problem.globals })
  values = let P : List Variable → Type 0 = λ vs. HasValues (main_meaning problem) (record content { variables = vs }) in subst P value.variables value.values

  -- the file of the main value
  pub file_of_value : IsMainFile version problem names plain
  file_of_value =
      subst (λ mode. IsFileOf version mode (variables_of problem.globals) names (main_meaning problem) plain) value.mode
      (file_of version content names plain copy (variables_of problem.globals) orders_are (main_meaning problem) values)

  same_variables : (content_of_file plain).variables ≡ variables_of problem.globals
  same_variables = ap variables_by_place copy.orders ∙ sym by_place ∙ value.variables

  pub canonical_of_value : IsCanonicalOf version problem (content_of_file plain)
  canonical_of_value = record {
    mode = copy.mode_is ∙ value.mode;
    variables = same_variables;
    canonical = copy.canonical;
    value =
        let P : List Variable → Type 0 = λ vs. GivesValue version (main_meaning problem) (content_over vs plain) in
        subst P (sym same_variables) file_of_value.value;
  }

-- a state of a file by what its content says of it
state_back : (x y : FileState) → file_states_of (x ∷ []) ≡ file_states_of (y ∷ []) → x ≡ y
state_back x y is =
    let first = same_Some _ _ (ap (λ l. slice_get l 0) is) in
    λ i. record { sign = (first i).sign; next = (first i).next }

states_back : (xs ys : List FileState) → file_states_of xs ≡ file_states_of ys → xs ≡ ys
states_back [] [] is = refl
states_back [] (y ∷ ys) is = absurd (none-some _ (ap (λ l. slice_get l 0) is))
states_back (x ∷ xs) [] is = absurd (none-some _ (sym (ap (λ l. slice_get l 0) is)))
states_back (x ∷ xs) (y ∷ ys) is = ap₂ (λ z zs. z ∷ zs) (state_back x y (ap (λ l. take 1 l) is)) (states_back xs ys (ap (λ l. drop 1 l) is))

-- two contents of files over the same variables are equal exactly where they have one start and the same states and nodes
pub contents_equal : (p q : Plain) → p.mode ≡ q.mode → (content_of_file p).variables ≡ (content_of_file q).variables → (p.start ≡ q.start) × (p.states ≡ q.states) × (p.nodes ≡ q.nodes)
    → content_of_file p ≡ content_of_file q
contents_equal p q mode variables (start, states, nodes) =
    λ i. record { mode = mode i; variables = variables i; start = start i; states = file_states_of (states i); nodes = nodes i }

pub parts_equal : (p q : Plain) → content_of_file p ≡ content_of_file q → (p.start ≡ q.start) × (p.states ≡ q.states) × (p.nodes ≡ q.nodes)
parts_equal p q is = (ap (λ c. c.start) is, states_back p.states q.states (ap (λ c. c.states) is), ap (λ c. c.nodes) is)
