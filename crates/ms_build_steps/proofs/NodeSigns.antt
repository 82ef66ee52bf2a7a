-- An automaton that has the value of a formula, whose variables have names there, says what the full content of the formula says.
use Rattle.std.proofs.Common.{◌≡◌, ℕ, List, length, map, Some, sym, ap, subst, ◌∙◌, arith}
use Rattle.std.proofs.lemmas.Option.{slice_get_within}
use Rattle.std.specs.List.Sorted.{IsStrictlyIncreasing}
use Rattle.ms_list.specs.declared.word.Word.{Word}
use Rattle.ms_build_parts.specs.SaySame.{SaySame}
use Rattle.ms_build_parts.proofs.Matching.{over_same}
use Rattle.ms_dag.specs.Values.{read_through}
use Rattle.ms_dag_steps.specs.Occurrences.{variables_named}
use Rattle.ms_dfa.specs.Values.{HasValues, Meaning, core_meaning}
use Rattle.ms_dfa.proofs.ValuesLemmas.{IsMeaning-core}
use Rattle.ms_logic.specs.Assignment.{Env, IsAssignment, Variable}
use Rattle.ms_logic.specs.Truth.{Import}
use Rattle.ms_logic.specs.declared.mode.Mode.{Mode}
use Rattle.ms_logic.specs.declared.mode.Order.{Order}
use Rattle.ms_logic_core.specs.CoreForm.{CoreForm}
use Rattle.ms_logic_measures.specs.FullContent.{HasValueOn, IsFullContent}
use Rattle.ms_logic_words.specs.Content.{Content, IsWordOver, sign_of, variables_by_place}
use Rattle.ms_logic_words.specs.Word.{Encodes, IsEncoding}
use Rattle.ms_logic_words.specs.declared.sign.Sign.{Sign}
use Rattle.ms_logic_words.specs.declared.sign.Sign.TheVariants.{Yes, No, Undefined, Outside}
use Rattle.ms_build.proofs.PlaceLemmas.{own-among}
use Rattle.ms_build_steps.proofs.SameValues.{assigned_same, encodes_same, named_by}
use Rattle.ms_build_steps.proofs.Through.{AreNamed, named_through, through, through_named, through_orders, through_read}

module _ (imports : List Import) (mode : Mode) (f : CoreForm) (vs : List Variable) (names : List ℕ) (named : AreNamed names vs) (rising : IsStrictlyIncreasing names) (one content : Content Sign) (meaning : Meaning)
    (mode_is : one.mode ≡ mode) (variables_are : one.variables ≡ vs) (values : HasValues meaning one) (full : IsFullContent imports mode (through names vs) f content)
    (means : (c : Env) (sign : Sign) → meaning (read_through names c) sign → core_meaning imports f c sign) where
  abbrev ws : List Variable
  ws = through names vs

  orders : map (λ v. v.order) content.variables ≡ map (λ v. v.order) one.variables
  orders = ap (λ us. map (λ (v : Variable). v.order) us) full.same_variables ∙ through_orders names vs ∙ ap (λ us. map (λ (v : Variable). v.order) us) (sym variables_are)

  -- at what the word encodes under the names, the automaton has the value of the formula
  sign_at_value : (word : Word) (c : Env) (value : Sign) → IsAssignment mode ws c → Encodes ws word c → core_meaning imports f c value → sign_of one word ≡ Some value
  sign_at_value word c value assigned encodes holds =
      let e = read_through names c in
      let same = through_read names c vs in
      let here = subst (λ us. IsAssignment one.mode us e) (sym variables_are) (subst (λ m. IsAssignment m vs e) (sym mode_is) (assigned_same mode vs ws e c same (λ i. c.universe) assigned)) in
      let word_is = subst (λ us. Encodes us word e) (sym variables_are) (encodes_same vs ws e c word same (λ i. c.universe) encodes) in
      let found = values.right word e here word_is in
      let equal : found.0 ≡ value = (IsMeaning-core mode ws imports f).one c found.0 value assigned (means c found.0 found.2) holds in
      found.1 ∙ ap Some equal

  -- what encodes values by their places encodes them under the names
  encoding_named : (word : Word) → IsEncoding one.mode one.variables word → IsEncoding mode ws word
  encoding_named word is =
      let e = is.0 in
      let c = named_by names e in
      let same = through_named names rising e vs named in
      let here = subst (λ us. IsAssignment mode us e) variables_are (subst (λ m. IsAssignment m one.variables e) mode_is is.1) in
      (c, assigned_same mode ws vs c e same (λ i. e.universe) here, encodes_same ws vs c e word same (λ i. e.universe) (subst (λ us. Encodes us word e) variables_are is.2))

  by_value : (word : Word) (value : Sign) → IsWordOver one.variables word → HasValueOn imports mode ws f word value → sign_of one word ≡ Some value
  by_value word Yes over has = sign_at_value word has.0 Yes has.1 has.2 has.3
  by_value word No over has = sign_at_value word has.0 No has.1 has.2 has.3
  by_value word Undefined over has = sign_at_value word has.0 Undefined has.1 has.2 has.3
  by_value word Outside over has = values.outside word over (λ is. has (encoding_named word is))

  pub says_the_same : SaySame one content
  says_the_same = record {
    orders = orders;
    signs = λ word over.
        let there = subst (λ us. IsWordOver us word) full.same_variables (over_same one.variables content.variables word orders over) in
        let found = full.values word there in
        found.1 ∙ sym (by_value word found.0 over found.2);
  }

-- so does that of a node, over the node's own variables
pub say_same : (imports : List Import) (mode : Mode) (f : CoreForm) (os : List Order) (names : List ℕ) → length names ≡ length os → IsStrictlyIncreasing names → (one content : Content Sign) (meaning : Meaning)
    → one.mode ≡ mode → one.variables ≡ variables_by_place os → HasValues meaning one → IsFullContent imports mode (variables_named names os) f content
    → ((c : Env) (sign : Sign) → meaning (read_through names c) sign → core_meaning imports f c sign) → SaySame one content
say_same imports mode f os names long rising one content meaning mode_is variables_are values full means =
    says_the_same imports mode f (variables_by_place os) names
    (λ v among. let less = slice_get_within os v.name v.order (own-among os v among) in omega (arith, less, long))
    rising one content meaning mode_is variables_are values (subst (λ us. IsFullContent imports mode us f content) (named_through names os long) full) means
