-- The connectives of automata with the values of meanings have the values of the connectives of these.
use Rattle.std.proofs.Common.{inl, inr, ⊎_elim, sym, subst, ◌∙◌}
use Rattle.std.proofs.lemmas.Option.{same_Some}
use Rattle.ms_dfa.specs.Automaton.{IsAutomaton}
use Rattle.ms_list.specs.declared.word.Word.{Word}
use Rattle.ms_logic_words.specs.declared.sign.Sign.{Sign}
use Rattle.ms_logic_words.specs.declared.sign.Sign.TheVariants.{Yes, No, Undefined, Outside}
use Rattle.ms_logic.specs.Assignment.{Env, IsAssignment}
use Rattle.ms_logic_words.specs.Content.{Content, shortest_word}
use Rattle.ms_logic_words.specs.Word.{Encodes}
use Rattle.ms_product.specs.declared.op.Op.{Op}
use Rattle.ms_product.specs.declared.op.Op.TheVariants.{And, Or, Implies, Iff}
use Rattle.ms_product.specs.Combined.{changed, combined}
use Rattle.ms_product.specs.Signs.{negated, restricted, strict}
use Rattle.ms_build.specs.Connectives.{Defined, NoOf, YesOf}
use Rattle.ms_dfa.specs.Values.{HasValues, Meaning, meaning_by, own_meaning}
use Rattle.ms_dfa.proofs.EncodingLemmas.{shortest}

-- the sign of an automaton with the values of a meaning is right there
pub own_means : (meaning : Meaning) (content : Content Sign) → IsAutomaton content → HasValues meaning content → (e : Env) → IsAssignment content.mode content.variables e → (sign : Sign)
    → own_meaning content e sign → meaning e sign
own_means meaning content automaton values e assigned sign own =
    let found = values.right (shortest_word content.variables e) e assigned (shortest content automaton e assigned) in
    subst (meaning e) (same_Some found.0 sign (sym found.1 ∙ own)) found.2

-- what is right for one meaning is right for another
pub HasValues-to : (meaning other : Meaning) (content : Content Sign)
    → ((word : Word) (e : Env) (sign : Sign) → IsAssignment content.mode content.variables e → Encodes content.variables word e → meaning e sign → other e sign)
    → HasValues meaning content → HasValues other content
HasValues-to meaning other content to values = record {
  right = λ word e assigned encodes. let found = values.right word e assigned encodes in (found.0, found.1, to word e found.0 assigned encodes found.2);
  outside = values.outside;
}

-- the connectives of two values
module _ (LeftYes LeftNo RightYes RightNo : Env → Type 0) where
  abbrev Left : Meaning
  Left = meaning_by LeftYes LeftNo

  abbrev Right : Meaning
  Right = meaning_by RightYes RightNo

  abbrev Both : Op → Meaning
  Both op = meaning_by (YesOf LeftYes LeftNo RightYes RightNo op) (NoOf LeftYes LeftNo RightYes RightNo op)

  lacks_left : (e : Env) → Left e Undefined → Defined LeftYes LeftNo e → ⊥
  lacks_left e none = λ is. ⊎_elim none.0 none.1 is

  lacks_right : (e : Env) → Right e Undefined → Defined RightYes RightNo e → ⊥
  lacks_right e none = λ is. ⊎_elim none.0 none.1 is

  -- no connective has a value where a part has none
  not_left : (op : Op) (e : Env) → Left e Undefined → Both op e Undefined
  not_left And e none = ((λ is. none.0 is.0), (λ is. lacks_left e none is.0))
  not_left Or e none = ((λ is. lacks_left e none is.0), (λ is. none.1 is.0))
  not_left Implies e none = ((λ is. lacks_left e none is.0), (λ is. none.0 is.0))
  not_left Iff e none = ((λ is. ⊎_elim (λ both. none.0 both.0) (λ both. none.1 both.0) is), (λ is. ⊎_elim (λ both. none.0 both.0) (λ both. none.1 both.0) is))

  not_right : (op : Op) (e : Env) → Right e Undefined → Both op e Undefined
  not_right And e none = ((λ is. none.0 is.1), (λ is. lacks_right e none is.1))
  not_right Or e none = ((λ is. lacks_right e none is.1), (λ is. none.1 is.1))
  not_right Implies e none = ((λ is. lacks_right e none is.1), (λ is. none.1 is.1))
  not_right Iff e none = ((λ is. ⊎_elim (λ both. none.0 both.1) (λ both. none.1 both.1) is), (λ is. ⊎_elim (λ both. none.1 both.1) (λ both. none.0 both.1) is))

  of_signs : (op : Op) (e : Env) (one other : Sign) → Left e one → Right e other → Both op e (strict op one other)
  of_signs And e Yes Yes left right = (left, right)
  of_signs And e Yes No left right = (inl left, inr right, inr right)
  of_signs And e No Yes left right = (inr left, inl right, inl left)
  of_signs And e No No left right = (inr left, inr right, inl left)
  of_signs Or e Yes Yes left right = (inl left, inl right, inl left)
  of_signs Or e Yes No left right = (inl left, inr right, inl left)
  of_signs Or e No Yes left right = (inr left, inl right, inr right)
  of_signs Or e No No left right = (left, right)
  of_signs Implies e Yes Yes left right = (inl left, inl right, inr right)
  of_signs Implies e Yes No left right = (left, right)
  of_signs Implies e No Yes left right = (inr left, inl right, inl left)
  of_signs Implies e No No left right = (inr left, inr right, inl left)
  of_signs Iff e Yes Yes left right = inl (left, right)
  of_signs Iff e Yes No left right = inl (left, right)
  of_signs Iff e No Yes left right = inr (left, right)
  of_signs Iff e No No left right = inr (left, right)
  of_signs op e Yes Undefined left right = not_right op e right
  of_signs op e No Undefined left right = not_right op e right
  of_signs op e Undefined Yes left right = not_left op e left
  of_signs op e Undefined No left right = not_left op e left
  of_signs op e Undefined Undefined left right = not_left op e left
  of_signs op e Yes Outside left right = absurd right
  of_signs op e No Outside left right = absurd right
  of_signs op e Undefined Outside left right = absurd right
  of_signs op e Outside other left right = absurd left

  pub combined-to : (op : Op) (e : Env) (sign : Sign) → combined op Left Right e sign → Both op e sign
  combined-to op e sign is = subst (Both op e) (sym is.4) (of_signs op e is.0 is.1 is.2 is.3)

-- the negation, and a restriction
module _ (HoldsYes HoldsNo : Env → Type 0) where
  negated-of : (e : Env) (one : Sign) → meaning_by HoldsYes HoldsNo e one → meaning_by HoldsNo HoldsYes e (negated one)
  negated-of e Yes is = is
  negated-of e No is = is
  negated-of e Undefined is = (is.1, is.0)
  negated-of e Outside is = is

  pub negated-to : (e : Env) (sign : Sign) → changed negated (meaning_by HoldsYes HoldsNo) e sign → meaning_by HoldsNo HoldsYes e sign
  negated-to e sign is = subst (meaning_by HoldsNo HoldsYes e) (sym is.2) (negated-of e is.0 is.1)

  restricted-of : ((e : Env) → HoldsYes e → HoldsNo e → ⊥) → (e : Env) (one : Sign) → meaning_by HoldsYes HoldsNo e one → meaning_by HoldsYes (λ there. ⊥) e (restricted one)
  restricted-of never e Yes is = is
  restricted-of never e No is = ((λ yes. never e yes is), (λ no. no))
  restricted-of never e Undefined is = (is.0, (λ no. no))
  restricted-of never e Outside is = is

  pub restricted-to : ((e : Env) → HoldsYes e → HoldsNo e → ⊥) → (e : Env) (sign : Sign) → changed restricted (meaning_by HoldsYes HoldsNo) e sign
      → meaning_by HoldsYes (λ there. ⊥) e sign
  restricted-to never e sign is = subst (meaning_by HoldsYes (λ there. ⊥) e) (sym is.2) (restricted-of never e is.0 is.1)
