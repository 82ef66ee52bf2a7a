-- What has the values of a meaning is an automaton, and each automaton has the values of its own.
use Rattle.std.proofs.Common.{◌≡◌, ◌≤◌, List, length, Some, refl, sym, ap, subst, ◌∙◌, ⊎_elim}
use Rattle.std.proofs.lemmas.Option.{same_Some}
use Rattle.ms_list.specs.declared.word.Word.{Word}
use Rattle.ms_arena.specs.Diagram.{IsOrdered, IsReduced}
use Rattle.ms_logic.specs.declared.mode.Mode.{Mode}
use Rattle.ms_logic_words.specs.declared.sign.Sign.{Sign}
use Rattle.ms_logic_words.specs.declared.sign.Sign.TheVariants.{Yes, No, Undefined, Outside}
use Rattle.ms_logic.specs.Assignment.{Env, Variable, IsAssignment}
use Rattle.ms_logic_words.specs.Content.{Content, IsClosed, sign_of, with_zero_letter}
use Rattle.ms_logic.specs.Lists.{AreRising}
use Rattle.ms_logic_words.specs.Word.{Encodes}
use Rattle.ms_logic_core.specs.CoreForm.{CoreForm, CoreYes, CoreNo}
use Rattle.ms_logic.specs.Tree.{conjunction}
use Rattle.ms_logic.specs.Truth.{Import}
use Rattle.ms_logic.specs.Verdict.{Problem, MainYes, MainNo}
use Rattle.ms_logic.proofs.Consistent.{yes_is_not_no}
use Rattle.ms_logic_core.proofs.CoreConsistent.{core_never_both}
use Rattle.ms_logic_words.proofs.WordLaws.{zero_letter_keeps}
use Rattle.ms_dfa.specs.Automaton.{TellsEncodings, IsSettled, IsAutomaton}
use Rattle.ms_dfa.specs.Values.{Meaning, meaning_by, core_meaning, main_meaning, IsMeaning, HasValues}
use Rattle.ms_dfa.proofs.EncodingLemmas.{encoding_or_not}

-- where Yes and No exclude each other, there is one right sign at most
one_by : (HoldsYes HoldsNo : Env → Type 0) (e : Env) (first second : Sign) → (HoldsYes e → HoldsNo e → ⊥)
    → meaning_by HoldsYes HoldsNo e first → meaning_by HoldsYes HoldsNo e second → first ≡ second
one_by HoldsYes HoldsNo e Yes Yes never one two = refl
one_by HoldsYes HoldsNo e Yes No never one two = absurd (never one two)
one_by HoldsYes HoldsNo e Yes Undefined never one two = absurd (two.0 one)
one_by HoldsYes HoldsNo e No Yes never one two = absurd (never two one)
one_by HoldsYes HoldsNo e No No never one two = refl
one_by HoldsYes HoldsNo e No Undefined never one two = absurd (two.1 one)
one_by HoldsYes HoldsNo e Undefined Yes never one two = absurd (one.0 two)
one_by HoldsYes HoldsNo e Undefined No never one two = absurd (one.1 two)
one_by HoldsYes HoldsNo e Undefined Undefined never one two = refl
one_by HoldsYes HoldsNo e Outside second never one two = absurd one
one_by HoldsYes HoldsNo e Yes Outside never one two = absurd two
one_by HoldsYes HoldsNo e No Outside never one two = absurd two
one_by HoldsYes HoldsNo e Undefined Outside never one two = absurd two

-- Yes and No that exclude each other make a meaning
pub IsMeaning-by : (mode : Mode) (variables : List Variable) (HoldsYes HoldsNo : Env → Type 0)
    → ((e : Env) → IsAssignment mode variables e → HoldsYes e → HoldsNo e → ⊥) → IsMeaning mode variables (meaning_by HoldsYes HoldsNo)
IsMeaning-by mode variables HoldsYes HoldsNo never = record {
  one = λ e first second assigned. one_by HoldsYes HoldsNo e first second (never e assigned);
  inside = λ e assigned outside. outside;
}

-- the main value is a meaning, since no formula is Yes and No at once
pub IsMeaning-main : (mode : Mode) (variables : List Variable) (problem : Problem) → IsMeaning mode variables (main_meaning problem)
IsMeaning-main mode variables problem =
    IsMeaning-by mode variables (MainYes problem) (MainNo problem) (λ e assigned yes no. yes_is_not_no problem.given (conjunction problem.formulas) e yes.1 no.1)

-- and so is the value of a core formula
pub IsMeaning-core : (mode : Mode) (variables : List Variable) (imports : List Import) (f : CoreForm) → IsMeaning mode variables (core_meaning imports f)
IsMeaning-core mode variables imports f = IsMeaning-by mode variables (CoreYes imports f) (CoreNo imports f) (λ e assigned yes no. core_never_both imports f e yes no)

module _ (meaning : Meaning) (content : Content Sign) (is_meaning : IsMeaning content.mode content.variables meaning) (values : HasValues meaning content) where
  -- a word that encodes an assignment has each sign that is right there
  pub sign_if_right : (word : Word) (e : Env) (sign : Sign) → IsAssignment content.mode content.variables e → Encodes content.variables word e → meaning e sign
      → sign_of content word ≡ Some sign
  sign_if_right word e sign assigned encodes right =
      let found = values.right word e assigned encodes in
      found.1 ∙ ap Some (is_meaning.one e found.0 sign assigned found.2 right)

  -- and a sign that it has is right
  pub right_if_sign : (word : Word) (e : Env) (sign : Sign) → IsAssignment content.mode content.variables e → Encodes content.variables word e
      → sign_of content word ≡ Some sign → meaning e sign
  right_if_sign word e sign assigned encodes signed =
      let found = values.right word e assigned encodes in
      subst (meaning e) (same_Some found.0 sign (sym found.1 ∙ signed)) found.2

  tells : AreRising content.variables → TellsEncodings content
  tells rising word over = (
    λ encoding outside. is_meaning.inside encoding.0 encoding.1 (right_if_sign word encoding.0 Outside encoding.1 encoding.2 outside),
    λ inside. ⊎_elim (λ encoding. encoding) (λ outside. absurd (inside (values.outside word over outside))) (encoding_or_not content.mode content.variables word rising over),
  )

  settled : IsSettled content
  settled numbers word over encoding =
      let e = encoding.0 in
      let assigned = subst (λ mode. IsAssignment mode content.variables e) (sym numbers) encoding.1 in
      let found = values.right word e assigned encoding.2 in
      sign_if_right (with_zero_letter content.variables word) e found.0 assigned (zero_letter_keeps content.variables word e encoding.1.universe encoding.2) found.2
      ∙ sym found.1

  -- a content with the values of a meaning, over rising variables and with ordered, reduced and closed diagrams, is an automaton
  pub IsAutomaton-by_values : IsOrdered content.nodes → IsReduced content.nodes → IsClosed content → AreRising content.variables
      → length content.states ≤ 4294967295 → IsAutomaton content
  IsAutomaton-by_values ordered reduced closed rising few_states = record {
    ordered = ordered;
    reduced = reduced;
    closed = closed;
    rising = rising;
    few_states = few_states;
    encodings = tells rising;
    settled = settled;
  }
