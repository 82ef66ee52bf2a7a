-- One operand or one parameter more.
use Rattle.std.proofs.Common.{◌≡◌, ℕ, ◌+◌, ◌<◌, List, [], ◌∷◌, ◌++◌, length, map, take, get_or, refl, sym, ap, ◌∙◌}
use Rattle.std.proofs.lemmas.List.{map-append}
use Rattle.ms_logic_core.specs.declared.core_formula.Core.{Core}
use Rattle.ms_logic.specs.declared.formula.Formula.{Formula}
use Rattle.ms_logic_core.specs.CoreForm.{CoreForm, core_form_of}
use Rattle.ms_logic_core.specs.Spread.{Callees, Names, restriction_before, restrictions_of, spread_each, spread_under}
use Rattle.ms_logic.specs.Tree.{Form, Declaration, Restriction, unrestricted, restricted}
use Rattle.ms_logic.specs.View.{formula_of, forms}
use Rattle.ms_lower.specs.Numbering.{Numbering, renumbered}
use Rattle.ms_lower.proofs.Parts.{map-more}

pub spread_each-append : (c : Callees) (fs : List Form) (f : Form) (names : Names) (free : ℕ) → spread_each c (forms (fs ++ f ∷ [])) names free ≡ spread_each c (forms fs) names free ++ spread_under c f names free ∷ []
spread_each-append c [] f names free = refl
spread_each-append c (g ∷ fs) f names free = ap (λ l. spread_under c g names free ∷ l) (spread_each-append c fs f names free)

module _ (n : Numbering) (c : Callees) (names : Names) (free : ℕ) where
  pub each-more : (fs : List Formula) (i : ℕ) (f : Formula) (cores made : List Core) (core : Core) → i < length fs → f ≡ get_or fs i f →
      map core_form_of cores ≡ map (renumbered n) (spread_each c (forms (map formula_of (take i fs))) names free) → core_form_of core ≡ renumbered n (spread_under c (formula_of f) names free) →
      made ≡ cores ++ core ∷ [] → map core_form_of made ≡ map (renumbered n) (spread_each c (forms (map formula_of (take (i + 1) fs))) names free)
  each-more fs i f cores made core below is before one made_is =
      ap (map core_form_of) made_is
      ∙ (map-append core_form_of cores (core ∷ [])
      ∙ (ap (λ l. l ++ core_form_of core ∷ []) before
      ∙ (ap (λ k. map (renumbered n) (spread_each c (forms (map formula_of (take i fs))) names free) ++ k ∷ []) one
      ∙ (sym (map-append (renumbered n) (spread_each c (forms (map formula_of (take i fs))) names free) (spread_under c (formula_of f) names free ∷ []))
      ∙ (ap (map (renumbered n)) (sym (spread_each-append c (map formula_of (take i fs)) (formula_of f) names free))
      ∙ ap (λ l. map (renumbered n) (spread_each c (forms l) names free)) (sym (map-more formula_of fs i f below is)))))))

  before-append : (r : Restriction) (xs ys : List CoreForm) → restriction_before c r names free (xs ++ ys) ≡ restriction_before c r names free xs ++ ys
  before-append unrestricted xs ys = refl
  before-append (restricted d) xs ys = refl

  pub restrictions-append : (ds : List Declaration) (d : Declaration) → restrictions_of c (ds ++ d ∷ []) names free ≡ restrictions_of c ds names free ++ restriction_before c d.restriction names free []
  restrictions-append [] d = refl
  restrictions-append (e ∷ ds) d = ap (restriction_before c e.restriction names free) (restrictions-append ds d) ∙ before-append e.restriction (restrictions_of c ds names free) (restriction_before c d.restriction names free [])

  -- the restrictions of a list that has one declaration more, whose restriction is read under names that are the same
  pub restrictions-more : (ds all : List Declaration) (d : Declaration) (there : Names) (before after : List CoreForm) → all ≡ ds ++ d ∷ [] → there ≡ names →
      before ≡ map (renumbered n) (restrictions_of c ds names free) → after ≡ before ++ map (renumbered n) (restriction_before c d.restriction there free []) → after ≡ map (renumbered n) (restrictions_of c all names free)
  restrictions-more ds all d there before after all_are same so_far more =
      more ∙ ap (λ m. before ++ map (renumbered n) (restriction_before c d.restriction m free [])) same
      ∙ (ap (λ l. l ++ map (renumbered n) (restriction_before c d.restriction names free [])) so_far
      ∙ (sym (map-append (renumbered n) (restrictions_of c ds names free) (restriction_before c d.restriction names free []))
      ∙ (ap (map (renumbered n)) (sym (restrictions-append ds d)) ∙ ap (λ l. map (renumbered n) (restrictions_of c l names free)) (sym all_are))))
