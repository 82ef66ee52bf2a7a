-- The full content of P sub Q is an automaton of this relation, and not of Q sub P.
use Rattle.std.proofs.Common.{◌≡◌, ℕ, zero, suc, List, [], ◌∷◌, None, false, Some, refl, sym, ap, subst, ◌∙◌, arith}
use Rattle.std.proofs.lemmas.Bool.{false≢true}
use Rattle.ms_list.specs.declared.word.Word.{Word}
use Rattle.ms_dfa.specs.Values.{HasValues, core_meaning}
use Rattle.ms_dfa.proofs.ValuesLemmas.{IsAutomaton-by_values, IsMeaning-core, right_if_sign, sign_if_right}
use Rattle.ms_logic.specs.Assignment.{Env, IsAssignment}
use Rattle.ms_logic.specs.FiniteSet.{IsSubset}
use Rattle.ms_logic.specs.OrderLaws.{GiveSameValues}
use Rattle.ms_logic.specs.declared.mode.Mode.TheVariants.{Ws1s}
use Rattle.ms_logic.specs.inner.Examples.{set_P_and_Q}
use Rattle.ms_logic_core.specs.CoreForm.{Holds, basic}
use Rattle.ms_logic_core.specs.declared.core_formula.Basic.TheVariants.{Sub}
use Rattle.ms_logic_core.proofs.SayingTerms.{set_in}
use Rattle.ms_logic_measures.specs.FullContent.{HasValueOn}
use Rattle.ms_logic_measures.proofs.FullContents.{full_subset}
use Rattle.ms_logic_words.specs.Content.{sign_of}
use Rattle.ms_logic_words.specs.Word.{Encodes}
use Rattle.ms_logic_words.specs.WordSign.{IsOutside, word_of}
use Rattle.ms_logic_words.specs.declared.sign.Sign.{Sign}
use Rattle.ms_logic_words.specs.declared.sign.Sign.TheVariants.{Yes, No, Undefined, Outside}
use Rattle.ms_logic_words.specs.inner.ContentExamples.{full_subset_content}
use Rattle.ms_logic_words.proofs.WordLaws.{encoding_exists, encoding_is_over, encoding_is_unique}
use Rattle.ms_calls.specs.Relations.{IsAutomatonOfRelation}
use Rattle.ms_calls.proofs.ExampleCalls.{subset_read}

-- the relation is one between P and Q
subset_same : (e f : Env) → GiveSameValues set_P_and_Q e f → Holds (Sub 0 1) e ≡ Holds (Sub 0 1) f
subset_same e f same =
    let first : e.set 0 ≡ f.set 0 = ap set_in same.0 in
    let second : e.set 1 ≡ f.set 1 = ap set_in same.1.0 in
    λ k. IsSubset (first k) (second k)

-- a value on a word is right at the assignment that it encodes
right_at : (word : Word) (e : Env) → IsAssignment Ws1s set_P_and_Q e → Encodes set_P_and_Q word e → (value : Sign) → HasValueOn [] Ws1s set_P_and_Q (basic (Sub 0 1)) word value
    → core_meaning [] (basic (Sub 0 1)) e value
right_at word e assigned encodes Yes has =
    let same = subset_same has.0 e (encoding_is_unique Ws1s set_P_and_Q word has.0 e has.1 assigned has.2 encodes).1 in subst (λ (P : Type 0). P) same has.3
right_at word e assigned encodes No has =
    let same = subset_same has.0 e (encoding_is_unique Ws1s set_P_and_Q word has.0 e has.1 assigned has.2 encodes).1 in λ holds. has.3 (subst (λ (P : Type 0). P) (sym same) holds)
right_at word e assigned encodes Undefined has = absurd (has.3.1 has.3.0)
right_at word e assigned encodes Outside has = absurd (has (e, assigned, encodes))

outside_at : (word : Word) → IsOutside Ws1s set_P_and_Q word → (value : Sign) → HasValueOn [] Ws1s set_P_and_Q (basic (Sub 0 1)) word value → value ≡ Outside
outside_at word out Yes has = absurd (out (has.0, has.1, has.2))
outside_at word out No has = absurd (out (has.0, has.1, has.2))
outside_at word out Undefined has = absurd (out (has.0, has.1, has.2))
outside_at word out Outside has = refl

subset_values : HasValues (core_meaning [] (basic (Sub 0 1))) full_subset_content
subset_values = record {
  right = λ word e assigned encodes.
      let found = full_subset.values word (encoding_is_over set_P_and_Q word e encodes) in
      (found.0, found.1, right_at word e assigned encodes found.0 found.2);
  outside = λ word over out. (let found = full_subset.values word over in found.1 ∙ ap Some (outside_at word out found.0 found.2));
}

pub subset_relation : IsAutomatonOfRelation Ws1s (Sub 0 1) full_subset_content
subset_relation = record {
  automaton =
      IsAutomaton-by_values (core_meaning [] (basic (Sub 0 1))) full_subset_content (IsMeaning-core Ws1s set_P_and_Q [] (basic (Sub 0 1))) subset_values
      subset_read.ordered subset_read.reduced subset_read.closed subset_read.rising subset_read.few_states;
  universe = refl;
  variables = refl;
  values = subset_values;
  differ = full_subset.canonical.states_differ;
}

-- P is empty, and Q has 0
abbrev sets : ℕ → List ℕ
sets zero = []
sets (suc x) = 0 ∷ []

abbrev just_Q : Env
just_Q = record { universe = None; truth = λ x. false; number = λ x. 0; set = sets }

pub turned_relation : IsAutomatonOfRelation Ws1s (Sub 1 0) full_subset_content → ⊥
turned_relation is =
    let assigned : IsAssignment Ws1s set_P_and_Q just_Q = record { universe = refl; values = ((tt, tt), (((tt, tt), (tt, tt)), tt)) } in
    let word = word_of 1 set_P_and_Q just_Q in
    let encodes = encoding_exists set_P_and_Q just_Q 1 (omega arith) tt in
    let holds : Holds (Sub 0 1) just_Q = refl in
    let signed : sign_of full_subset_content word ≡ Some Yes =
    sign_if_right (core_meaning [] (basic (Sub 0 1))) full_subset_content (IsMeaning-core Ws1s set_P_and_Q [] (basic (Sub 0 1))) subset_values word
    just_Q Yes assigned encodes holds in
    let never : Holds (Sub 1 0) just_Q =
    right_if_sign (core_meaning [] (basic (Sub 1 0))) full_subset_content (IsMeaning-core Ws1s set_P_and_Q [] (basic (Sub 1 0))) is.values word
    just_Q Yes assigned encodes signed in
    false≢true never
