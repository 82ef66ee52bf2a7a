use Rattle.std.proofs.Common.{◌≡◌, ◌⊎◌, List, [], ◌∷◌, ◌++◌, length, length-append, refl, sym, ap, ◌∙◌, subst, inl, inr, lit≤, arith, ⊎_elim}
use Rattle.ms_text.specs.TokenList.{token_at}
use Rattle.ms_text.specs.declared.mark.Mark.TheVariants.{OpenParenthesis}
use Rattle.ms_text.specs.declared.token.Kind.TheVariants.{Mark, Name}
use Rattle.ms_text.specs.declared.token.Token.{Token}
use Rattle.ms_parse_stack.specs.Symbols.{symbols_of}
use Rattle.ms_parse_stack.specs.inner.Examples.{behind_brackets}
use Rattle.ms_parse_stack.specs.inner.Sample.{AreOpen, bracket_a, opens}
use Rattle.ms_parse_stack.proofs.examples.worked_refusals.Goals as goal

-- a token of two, and those before it
one_of_two : (x y : Token) (before : List Token) (token : Token) (after : List Token) → x ∷ y ∷ [] ≡ before ++ token ∷ after → ((before ≡ []) × (token ≡ x)) ⊎ ((before ≡ x ∷ []) × (token ≡ y))
one_of_two x y [] token after is = inl (refl, cc)
one_of_two x y (b ∷ []) token after is = inr (cc, cc)
one_of_two x y (b ∷ b' ∷ before) token after is =
    let never : ⊥ = omega (arith, ap length is, length-append before (token ∷ after)) in
    absurd never

pub returns-clause-misplaced : goal.returns-clause-misplaced
returns-clause-misplaced c = record {
  before = token_at (Mark OpenParenthesis) 0 1 ∷ [];
  token = token_at Name 1 1;
  stands = record { after = []; stands = refl; is_place = refl };
  can_follow = (tt, lit≤ tt);
  cannot_follow = λ open_row. open_row;
}

pub returns-clause-names_misplaced : goal.returns-clause-names_misplaced
returns-clause-names_misplaced c = inr (returns-clause-misplaced c)

pub returns-clause-not_misplaced : goal.returns-clause-not_misplaced
returns-clause-not_misplaced c h =
    let first = token_at (Mark OpenParenthesis) 0 1 in
    let second = token_at (Mark OpenParenthesis) 1 1 in
    let P : List Token → Type 0 = λ tokens. AreOpen (symbols_of opens (behind_brackets 2 [] []) tokens) in
    ⊎_elim
    (λ here. h.cannot_follow (subst P (sym (ap (λ b. b ++ h.token ∷ []) here.0 ∙ ap (λ t. t ∷ []) here.1)) tt))
    (λ here. h.cannot_follow (subst P (sym (ap (λ b. b ++ h.token ∷ []) here.0 ∙ ap (λ t. first ∷ t ∷ []) here.1)) tt))
    (one_of_two first second h.before h.token h.stands.after h.stands.stands)

pub returns-clause-too_deep : goal.returns-clause-too_deep
returns-clause-too_deep c = record {
  before = token_at (Mark OpenParenthesis) 0 1 ∷ token_at (Mark OpenParenthesis) 1 1 ∷ [];
  token = token_at (Mark OpenParenthesis) 2 1;
  stands = record { after = []; stands = refl; is_place = refl };
  can_follow = (tt, lit≤ tt);
  cannot_follow = λ few. omega (arith, few.1);
  can_follow_deeper = tt;
}

pub returns-clause-names_too_deep : goal.returns-clause-names_too_deep
returns-clause-names_too_deep c = returns-clause-too_deep c

pub returns-clause-misplaced_at_any_depth : goal.returns-clause-misplaced_at_any_depth
returns-clause-misplaced_at_any_depth c h =
    let first = token_at (Mark OpenParenthesis) 0 1 in
    let second = token_at Name 1 1 in
    let P : List Token → Type 0 = λ tokens. AreOpen (symbols_of opens bracket_a tokens) in
    ⊎_elim
    (λ here.
    let at : 1 ≡ 0 = ap (λ a. a.place) h.stands.is_place ∙ ap (λ (t : Token). t.place) here.1 in
    omega (arith, at))
    (λ here. subst P (ap (λ b. b ++ h.token ∷ []) here.0 ∙ ap (λ t. first ∷ t ∷ []) here.1) h.can_follow_deeper)
    (one_of_two first second h.before h.token h.stands.after h.stands.stands)
