-- Automata that are lent for imports, with what their signs say, are the contents of these imports.
use Rattle.std.proofs.Common.{◌≡◌, ℕ, Bool, false, suc, ◌+◌, List, [], ◌∷◌, length, map, slice_get, Contains, Option, None, Some, refl, sym, ◌∙◌, ap, subst, arith}
use Rattle.std.specs.List.{zip}
use Rattle.std.specs.Option.{option_map, unwrap_or}
use Rattle.std.proofs.lemmas.List.{length-map}
use Rattle.std.proofs.lemmas.Option.{slice_get-map}
use Rattle.ms_build_source.specs.Imported.{AreAnswersOf, AreLentFor, orders_of_pairs}
use Rattle.ms_logic.specs.Assignment.{AreValuesOf, Universe, Variable}
use Rattle.ms_logic.specs.Truth.{Answer}
use Rattle.ms_logic.specs.View.{Answers, import_of}
use Rattle.ms_logic.specs.declared.assignment.Value.{Value}
use Rattle.ms_logic.specs.declared.assignment.Value.TheVariants.{Truth}
use Rattle.ms_logic.specs.declared.checked.ImportUse.{ImportUse}
use Rattle.ms_logic.specs.declared.checked.MapPair.{MapPair}
use Rattle.ms_logic.specs.declared.mode.Mode.{Mode}
use Rattle.ms_logic.specs.declared.mode.Order.{Order}
use Rattle.ms_logic_measures.specs.Budgets.{AreContentsOfImports}
use Rattle.ms_logic_words.specs.Content.{Content, StateOf, answer_by, answer_of, env_of, first_state, last_state, next_from, next_state, shortest_word, sign_at, sign_of, state_after, variables_by_place, variables_from}
use Rattle.ms_logic_words.specs.Signs.{answer_for}
use Rattle.ms_logic_words.specs.declared.sign.Sign.{Sign}

abbrev pub answering : Content Sign → Content Answer
answering content = record {
  mode = content.mode;
  variables = content.variables;
  start = content.start;
  states = map (λ state. record { sign = answer_for state.sign; next = state.next }) content.states;
  nodes = content.nodes;
}

abbrev said : StateOf Sign → StateOf Answer
said state = record { sign = answer_for state.sign; next = state.next }

-- the same runs
next-same : (content : Content Sign) (state : ℕ) (letter : List Bool) → next_state (answering content) state letter ≡ next_state content state letter
next-same content state letter =
    ap (λ found. next_from (answering content) found letter) (slice_get-map said content.states state) ∙ by-found (slice_get content.states state)
  where
    by-found : (found : Option (StateOf Sign)) → next_from (answering content) (option_map said found) letter ≡ next_from content found letter
    by-found None = refl
    by-found (Some one) = refl

after-same : (content : Content Sign) (state : ℕ) (letters : List (List Bool)) → state_after (answering content) state letters ≡ state_after content state letters
after-same content state [] = refl
after-same content state (letter ∷ letters) = ap (λ s. state_after (answering content) s letters) (next-same content state letter) ∙ after-same content (next_state content state letter) letters

sign-same : (content : Content Sign) (state : ℕ) → sign_at (answering content) state ≡ option_map answer_for (sign_at content state)
sign-same content state = ap (option_map (λ (s : StateOf Answer). s.sign)) (slice_get-map said content.states state) ∙ by-found (slice_get content.states state)
  where
    by-found : (found : Option (StateOf Sign)) → option_map (λ (s : StateOf Answer). s.sign) (option_map said found) ≡ option_map answer_for (option_map (λ (s : StateOf Sign). s.sign) found)
    by-found None = refl
    by-found (Some one) = refl

said-same : (found : Option Sign) → answer_by answer_for found ≡ answer_by (λ a. a) (option_map answer_for found)
said-same None = refl
said-same (Some sign) = refl

answer-same : (content : Content Sign) (universe : Universe) (values : List Value) → answer_of answer_for content universe values ≡ answer_of (λ a. a) (answering content) universe values
answer-same content universe values =
    let word = shortest_word content.variables (env_of universe content.variables values) in
    said-same (sign_of content word)
    ∙ ap (answer_by (λ a. a)) (sym (ap (sign_at (answering content)) (after-same content (first_state content word.truth) word.letters) ∙ sign-same content (last_state content word)))

-- values by their places
values-read : (universe : Universe) (all : List Value) (k : ℕ) (orders : List Order) (values : List Value) → ((j : ℕ) → slice_get all (k + j) ≡ slice_get values j) → AreValuesOf universe orders values
    → map (λ (v : Variable). unwrap_or (slice_get all v.name) (Truth false)) (variables_from k orders) ≡ values
values-read universe all k [] [] there are = refl
values-read universe all k [] (value ∷ values) there are = absurd are
values-read universe all k (order ∷ orders) [] there are = absurd are
values-read universe all k (order ∷ orders) (value ∷ values) there are =
    let none : k ≡ k + 0 = omega arith in
    let first : unwrap_or (slice_get all k) (Truth false) ≡ value = ap (λ n. unwrap_or (slice_get all n) (Truth false)) none ∙ ap (λ found. unwrap_or found (Truth false)) (there 0) in
    let rest = values-read universe all (k + 1) orders values (λ j. let next : k + 1 + j ≡ k + suc j = omega arith in ap (slice_get all) next ∙ there (suc j)) are.1 in
    ap (λ v. v ∷ map (λ (w : Variable). unwrap_or (slice_get all w.name) (Truth false)) (variables_from (k + 1) orders)) first ∙ ap (λ (l : List Value). value ∷ l) rest

orders-same : (pairs : List MapPair) → map (λ (v : Variable). v.order) (map (λ (p : MapPair). record { name = p.variable; order = p.order }) pairs) ≡ map (λ (p : MapPair). p.order) pairs
orders-same [] = refl
orders-same (p ∷ pairs) = ap (λ (l : List Order). p.order ∷ l) (orders-same pairs)

length-from : (k : ℕ) (orders : List Order) → length (variables_from k orders) ≡ length orders
length-from k [] = refl
length-from k (o ∷ orders) = ap (λ n. suc n) (length-from (k + 1) orders)

pub lent_contents : (mode : Mode) (uses : List ImportUse) (answers : Answers) (contents : List (Content Sign)) → AreLentFor mode uses contents → AreAnswersOf mode uses answers contents
    → AreContentsOfImports mode (map (λ p. import_of p.0 p.1) (zip uses answers)) (map answering contents)
lent_contents mode [] [] [] lent are = tt
lent_contents mode [] [] (content ∷ contents) lent are = absurd lent
lent_contents mode [] (answer ∷ answers) contents lent are = absurd are
lent_contents mode (used ∷ uses) [] contents lent are = absurd are
lent_contents mode (used ∷ uses) (answer ∷ answers) [] lent are = absurd lent
lent_contents mode (used ∷ uses) (answer ∷ answers) (content ∷ contents) lent are =
    let over : content.variables ≡ variables_by_place (map (λ (v : Variable). v.order) (import_of used answer).variables) = lent.0.variables ∙ sym (ap variables_by_place (orders-same used.pairs)) in (
      record {
        same_mode = lent.0.mode_is;
        variables = λ v. (subst (λ (vs : List Variable). Contains vs v) over, subst (λ (vs : List Variable). Contains vs v) (sym over));
        count =
            ap length over ∙ (length-from 0 (map (λ (v : Variable). v.order) (import_of used answer).variables) ∙ length-map (import_of used answer).variables (λ (v : Variable). v.order));
        answers = λ universe values is_universe are_values.
            let given = subst (λ (os : List Order). AreValuesOf universe os values) (orders-same used.pairs) are_values in
            are.0 universe values is_universe given
            ∙ (answer-same content universe values
            ∙ ap (answer_of (λ a. a) (answering content) universe)
            (sym (ap (map (λ (v : Variable). unwrap_or (slice_get values v.name) (Truth false))) lent.0.variables ∙ values-read universe values 0 (orders_of_pairs used) values (λ j. let none : 0 + j ≡ j = omega arith in ap (slice_get values) none) given)));
      },
      lent_contents mode uses answers contents lent.1 are.1,
    )
