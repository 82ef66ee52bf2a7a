-- A file and the content by which it is measured as an import answer alike.
use Rattle.std.proofs.Common.{◌≡◌, ◌≢◌, ℕ, zero, suc, Bool, true, false, if◌then◌else◌, inl, inr, AllPairs, List, [], ◌∷◌, map, slice_get, Option, Some, None, refl, sym, ap, subst, ◌∙◌, arith}
use Rattle.std.specs.Option.{option_map, unwrap_or}
use Rattle.std.specs.Str.{bytes_eq}
use Rattle.std.proofs.lemmas.Option.{none-some, same_Some, slice_get-map}
use Rattle.ms_dfa.specs.Files.{content_of_file}
use Rattle.ms_dfa.specs.declared.plain.FileSign.{FileSign}
use Rattle.ms_dfa.specs.declared.plain.FileState.{FileState}
use Rattle.ms_dfa.specs.declared.plain.FileVar.{FileVar}
use Rattle.ms_dfa.specs.declared.plain.Plain.{Plain}
use Rattle.ms_dfa_explore.proofs.AmongLemmas.{held_among}
use Rattle.ms_dfafile.specs.File.{IsFile}
use Rattle.ms_dfafile_adopt.specs.Import.{answer_for_file, answer_of_file, value_named}
use Rattle.ms_dfafile_adopt.specs.Naming.{IsNaming}
use Rattle.ms_dfafile_adopt.specs.Readings.{own_variables}
use Rattle.ms_dfafile_adopt.proofs.VariableLemmas.{by_place-at}
use Rattle.ms_dfafile_adopt_parts.specs.Files.{answering, content_for, paired, place_named}
use Rattle.ms_dfafile_adopt_parts.proofs.Filed.{run_alike}
use Rattle.ms_dfafile_adopt_parts.proofs.Naming.{same_orders, stands, vs_distinct}
use Rattle.ms_list.specs.declared.word.Word.{Word}
use Rattle.ms_logic.specs.Assignment.{AreValuesOf, IsValueOf, Universe, Variable}
use Rattle.ms_logic.specs.Lists.{IsAmong}
use Rattle.ms_logic.specs.Truth.{Answer}
use Rattle.ms_logic.specs.declared.assignment.Value.{Value}
use Rattle.ms_logic.specs.declared.assignment.Value.TheVariants.{Truth}
use Rattle.ms_logic.specs.declared.checked.MapPair.{MapPair}
use Rattle.ms_logic.specs.declared.mode.Order.{Order}
use Rattle.ms_logic_readers.specs.Scoped.{AreDistinct}
use Rattle.ms_logic_measures.specs.Budgets.{answer_by_places}
use Rattle.ms_logic_starts.specs.ContentStarts.{HaveDistinctNumbers}
use Rattle.ms_logic_words.specs.Content.{Content, StateOf, answer_by, env_of, last_state, shortest_word, sign_at, sign_of}
use Rattle.ms_logic_readers.proofs.Places.{by_place_distinct}
use Rattle.ms_dfafile_imports.proofs.Words.{word_by, word_given}

-- variables whose numbers differ place by place
pub numbers_distinct : (vs : List Variable) → HaveDistinctNumbers vs → AreDistinct vs
numbers_distinct [] own = tt
numbers_distinct (v ∷ vs) own = (
  λ w among same. (let held = held_among vs w among in let equal = own 0 (suc held.0) v w refl held.1 (sym same) in omega (arith, equal)),
  numbers_distinct vs (λ one two u w first second same. let equal = own (suc one) (suc two) u w first second same in omega (arith, equal)),
)

-- one value of each order at each place
value_there : (universe : Universe) (orders : List Order) (values : List Value) → AreValuesOf universe orders values → (j : ℕ) (o : Order) → slice_get orders j ≡ Some o
    → IsValueOf o universe (unwrap_or (slice_get values j) (Truth false))
value_there universe [] values are j o held = absurd (none-some o held)
value_there universe (first ∷ orders) [] are j o held = absurd are
value_there universe (first ∷ orders) (value ∷ values) are zero o held = subst (λ (order : Order). IsValueOf order universe value) (same_Some first o held) are.0
value_there universe (first ∷ orders) (value ∷ values) are (suc j) o held = value_there universe orders values are.1 j o held

-- the value under a name stands at the place of the pair with that name
value_by_name : (universe : Universe) (pairs : List MapPair) (values : List Value) (name : List ℕ) → AreValuesOf universe (map (λ (pair : MapPair). pair.order) pairs) values
    → value_named (map (λ (pair : MapPair). pair.name) pairs) values name ≡ unwrap_or (slice_get values (place_named pairs name)) (Truth false)
value_by_name universe [] [] name are = refl
value_by_name universe [] (value ∷ values) name are = absurd are
value_by_name universe (pair ∷ pairs) [] name are = absurd are
value_by_name universe (pair ∷ pairs) (value ∷ values) name are = by_test (bytes_eq pair.name name) (value_by_name universe pairs values name are.1)
  where
    by_test : (test : Bool) → value_named (map (λ (p : MapPair). p.name) pairs) values name ≡ unwrap_or (slice_get values (place_named pairs name)) (Truth false)
        → (if test then value else value_named (map (λ (p : MapPair). p.name) pairs) values name)
        ≡ unwrap_or (slice_get (value ∷ values) (if test then 0 else suc (place_named pairs name))) (Truth false)
    by_test true later = refl
    by_test false later = later

abbrev as_filed : FileState → StateOf FileSign
as_filed state = record { sign = state.sign; next = state.next }

module _ (plain : Plain) (pairs : List MapPair) where
  abbrev filed : Content FileSign
  filed = content_of_file plain

  abbrev measured : Content Answer
  measured = content_for pairs plain

  sign_alike : (found : Option FileState)
      → answer_by answer_for_file (option_map (λ (state : StateOf FileSign). state.sign) (option_map as_filed found))
      ≡ answer_by (λ (said : Answer). said) (option_map (λ (state : StateOf Answer). state.sign) (option_map answering found))
  sign_alike None = refl
  sign_alike (Some state) = refl

  -- on each word
  word_alike : (word : Word) → answer_by answer_for_file (sign_of filed word) ≡ answer_by (λ (said : Answer). said) (sign_of measured word)
  word_alike word =
      let last = last_state measured word in
      ap (λ s. answer_by answer_for_file (sign_at filed s)) (run_alike plain pairs word)
      ∙ ap (λ found. answer_by answer_for_file (option_map (λ (state : StateOf FileSign). state.sign) found)) (slice_get-map as_filed plain.states last)
      ∙ sign_alike (slice_get plain.states last)
      ∙ ap (λ found. answer_by (λ (said : Answer). said) (option_map (λ (state : StateOf Answer). state.sign) found)) (sym (slice_get-map answering plain.states last))

  module _ (universe : Universe) (values : List Value) (are : AreValuesOf universe (map (λ (pair : MapPair). pair.order) pairs) values) where
    abbrev named_values : List FileVar → List Value
    named_values variables = map (λ (variable : FileVar). value_named (map (λ (pair : MapPair). pair.name) pairs) values variable.name) variables

    abbrev value_for : Variable → Value
    value_for v = unwrap_or (slice_get values v.name) (Truth false)

    values_alike : (variables : List FileVar) → named_values variables ≡ map value_for (map (paired pairs) variables)
    values_alike [] = refl
    values_alike (variable ∷ variables) =
        let first = value_by_name universe pairs values variable.name are in
        let others = values_alike variables in
        λ i. first i ∷ others i

    each_value : (vs : List Variable) → ((v : Variable) → IsAmong vs v → IsValueOf v.order universe (value_for v)) → AreValuesOf universe (map (λ (v : Variable). v.order) vs) (map value_for vs)
    each_value [] each = tt
    each_value (v ∷ vs) each = (each v (inl refl), each_value vs (λ w among. each w (inr among)))

    module _ (file : IsFile plain) (different : AllPairs (λ one other. one ≢ other) (map (λ (pair : MapPair). pair.name) pairs)) (places : List ℕ) (naming : IsNaming plain pairs places) where
      abbrev us : List Variable
      us = map (paired pairs) plain.variables

      of_order : (v : Variable) → IsAmong us v → IsValueOf v.order universe (value_for v)
      of_order v among =
          let orders = map (λ (pair : MapPair). pair.order) pairs in
          let held = held_among us v among in
          value_there universe orders values are v.name v.order (by_place-at 0 orders v.name v (stands plain pairs file different places naming held.0 v held.1)).1

      own_values : AreValuesOf universe (map (λ (v : Variable). v.order) us) (map value_for us)
      own_values = each_value us of_order

      -- the word of the values is one for both
      same_word : shortest_word (own_variables plain) (env_of universe (own_variables plain) (named_values plain.variables)) ≡ shortest_word us (env_of universe us (map value_for us))
      same_word =
          let same = values_alike plain.variables in
          let filed_values = subst (λ (vals : List Value). AreValuesOf universe (map (λ (v : Variable). v.order) (own_variables plain)) vals) (sym same)
          (subst (λ (orders : List Order). AreValuesOf universe orders (map value_for us)) (same_orders plain pairs) own_values) in
          word_given universe (own_variables plain) (named_values plain.variables) (by_place_distinct 0 (map (λ (variable : FileVar). variable.order) plain.variables)) filed_values
          ∙ ap (word_by universe) same
          ∙ sym (word_given universe us (map value_for us) (numbers_distinct us (vs_distinct plain pairs file different places naming)) own_values)

      pub answers_alike : answer_of_file plain (map (λ (pair : MapPair). pair.name) pairs) universe values ≡ answer_by_places measured universe values
      answers_alike =
          word_alike (shortest_word (own_variables plain) (env_of universe (own_variables plain) (named_values plain.variables)))
          ∙ ap (λ word. answer_by (λ (said : Answer). said) (sign_of measured word)) same_word
