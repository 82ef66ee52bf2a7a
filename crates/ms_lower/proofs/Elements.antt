-- The variable that the set of some elements is.
use Rattle.std.proofs.Common.{◌≡◌, ℕ, zero, suc, ◌+◌, ◌/◌, ◌≤◌, List, [], ◌∷◌, length, map, take, drop, refl, sym, ap, subst, ◌∙◌, arith}
use Rattle.std.proofs.lemmas.List.{length-take, length-drop, length-map, take-map, drop-map}
use Rattle.ms_logic_core.specs.declared.core_formula.Core.{Core}
use Rattle.ms_logic_core.specs.declared.core_formula.Basic.TheVariants.{Union}
use Rattle.ms_logic.specs.declared.mode.Order.{Order}
use Rattle.ms_logic.specs.declared.mode.Order.TheVariants.{Two}
use Rattle.ms_logic.specs.declared.mode.Quant.TheVariants.{Ex}
use Rattle.ms_logic.specs.declared.term.Term1.{Term1}
use Rattle.ms_logic.specs.declared.term.Term2.{Term2}
use Rattle.ms_logic.specs.declared.term.Term2.TheVariants.{Literal}
use Rattle.ms_logic.specs.Tree.{literal}
use Rattle.ms_logic.proofs.Views.{set_term_of-Literal}
use Rattle.ms_logic_core.specs.CoreForm.{core_form_of, basic, quantified, restricted}
use Rattle.ms_logic_core.specs.Spread.{Names, Saying, TermSpread, first_half, second_half, new_variable, set_of_elements, spread_elements, spread_number, spread_set}
use Rattle.ms_logic.specs.View.{set_term_of, term_of, terms}
use Rattle.ms_lower.specs.declared.defined.Defined.{Defined}
use Rattle.ms_lower.specs.inner.Defined.{IsDefined, below, new_definition}
use Rattle.ms_lower.specs.Numbering.{Numbering, renumbered}

-- a new variable with its restriction
pub new_defined : (n : Numbering) (order : Order) (Is : Saying) (free own : ℕ) (core : Core) → own ≡ n.number order free → core_form_of core ≡ renumbered n (Is (free + 1) free) →
    IsDefined n order (new_variable order Is) free (new_definition order free own core)
new_defined n order Is free own core own_is core_is = record {
  order_is = refl;
  number_is = own_is;
  says = λ Said.
      ap (λ x. quantified Ex order x (restricted (renumbered n (Is (free + 1) free))) (renumbered n (Said (free + 1) free))) (sym own_is)
      ∙ ap (λ d. quantified Ex order own (restricted d) (renumbered n (Said (free + 1) free))) (sym core_is);
}

pub elements_are : (ts : List Term1) (names : Names) → spread_elements (terms (map term_of ts)) names ≡ map (λ t. spread_number (term_of t) names) ts
elements_are [] names = refl
elements_are (t ∷ ts) names = ap (λ l. spread_number (term_of t) names ∷ l) (elements_are ts names)

module _ (n : Numbering) (names : Names) where
  spread_of : List Term1 → List TermSpread
  spread_of ts = spread_elements (terms (map term_of ts)) names

  halved : (half : List TermSpread → List TermSpread) (ts part : List Term1) → half (map (λ t. spread_number (term_of t) names) ts) ≡ map (λ t. spread_number (term_of t) names) part → half (spread_of ts) ≡ spread_of part
  unfolding spread_of
  halved half ts part is = ap half (elements_are ts names) ∙ (is ∙ sym (elements_are part names))

  first_of : (ts : List Term1) → first_half (spread_of ts) ≡ spread_of (take ((length ts + 1) / 2) ts)
  first_of ts =
      let f : Term1 → TermSpread = λ t. spread_number (term_of t) names in
      halved first_half ts (take ((length ts + 1) / 2) ts) (ap (λ k. take ((k + 1) / 2) (map f ts)) (length-map ts f) ∙ take-map f ((length ts + 1) / 2) ts)

  second_of : (ts : List Term1) → second_half (spread_of ts) ≡ spread_of (drop ((length ts + 1) / 2) ts)
  second_of ts =
      let f : Term1 → TermSpread = λ t. spread_number (term_of t) names in
      halved second_half ts (drop ((length ts + 1) / 2) ts) (ap (λ k. drop ((k + 1) / 2) (map f ts)) (length-map ts f) ∙ drop-map f ((length ts + 1) / 2) ts)

  -- the set of the elements of both halves
  halves : (S T : TermSpread) (free own : ℕ) (left right : Defined) (core : Core) → IsDefined n Two S (free + 1) left → IsDefined n Two T left.next right → own ≡ n.number Two free →
      core_form_of core ≡ below left (below right (basic (Union own left.number right.number))) →
      IsDefined n Two (new_variable Two (λ next y. S next (λ next s. T next (λ next t. basic (Union y s t))))) free (new_definition Two free own core)
  halves S T free own left right core l r own_is core_is =
      new_defined n Two (λ next y. S next (λ next s. T next (λ next t. basic (Union y s t)))) free own core own_is
      (core_is
      ∙ (ap (λ b. below left (below right (basic b))) (ap (λ y. Union y left.number right.number) own_is ∙ (ap (λ s. Union (n.number Two free) s right.number) l.number_is ∙ ap (λ t. Union (n.number Two free) (n.number Two left.name) t) r.number_is))
      ∙ (ap (below left) (sym (r.says (λ next t. basic (Union free left.name t))))
      ∙ sym (l.says (λ next s. T next (λ next t. basic (Union free s t)))))))

  pub elements_defined : (ts front later : List Term1) (free own : ℕ) (left right : Defined) (core : Core) (made : Defined) (rounds : ℕ) → 2 ≤ length ts → length ts ≤ rounds →
      front ≡ take ((length ts + 1) / 2) ts → later ≡ drop ((length ts + 1) / 2) ts →
      ((r : ℕ) → length front ≤ r → IsDefined n Two (set_of_elements r (spread_elements (terms (map term_of front)) names)) (free + 1) left) →
      ((r : ℕ) → length later ≤ r → IsDefined n Two (set_of_elements r (spread_elements (terms (map term_of later)) names)) left.next right) →
      own ≡ n.number Two free → core_form_of core ≡ below left (below right (basic (Union own left.number right.number))) → made ≡ new_definition Two free own core →
      IsDefined n Two (set_of_elements rounds (spread_elements (terms (map term_of ts)) names)) free made
  unfolding spread_of
  elements_defined [] front later free own left right core made rounds long enough front_is later_is l r own_is core_is made_is = absurd (omega arith)
  elements_defined (t ∷ []) front later free own left right core made rounds long enough front_is later_is l r own_is core_is made_is = absurd (omega arith)
  elements_defined (t ∷ u ∷ ts) front later free own left right core made zero long enough front_is later_is l r own_is core_is made_is = absurd (omega arith)
  elements_defined (t ∷ u ∷ ts) front later free own left right core made (suc rounds) long enough front_is later_is l r own_is core_is made_is =
      let all : List Term1 = t ∷ u ∷ ts in
      let lf : length front ≤ rounds = let k = ap length front_is in let m = length-take ((length all + 1) / 2) all in omega arith in
      let ll : length later ≤ rounds = let k = ap length later_is in let m = length-drop ((length all + 1) / 2) all in omega arith in
      let S : TermSpread = set_of_elements rounds (spread_of front) in
      let T : TermSpread = set_of_elements rounds (spread_of later) in
      let fh : spread_of front ≡ first_half (spread_of all) = ap spread_of front_is ∙ sym (first_of all) in
      let sh : spread_of later ≡ second_half (spread_of all) = ap spread_of later_is ∙ sym (second_of all) in
      subst (IsDefined n Two (set_of_elements (suc rounds) (spread_of all)) free) (sym made_is)
      (halves (set_of_elements rounds (first_half (spread_of all))) (set_of_elements rounds (second_half (spread_of all))) free own left right core
      (subst (λ ss. IsDefined n Two (set_of_elements rounds ss) (free + 1) left) fh (l rounds lf))
      (subst (λ ss. IsDefined n Two (set_of_elements rounds ss) left.next right) sh (r rounds ll)) own_is core_is)

  pub literal_defined : (term : Term2) (ts elements : List Term1) (free : ℕ) (made : Defined) → term ≡ Literal elements → ts ≡ elements →
      ((r : ℕ) → length ts ≤ r → IsDefined n Two (set_of_elements r (spread_elements (terms (map term_of ts)) names)) free made) →
      IsDefined n Two (spread_set (set_term_of term) names) free made
  literal_defined term ts elements free made is same defined =
      let long : length ts ≤ length (spread_elements (terms (map term_of ts)) names) = let e = ap length (elements_are ts names) ∙ length-map ts (λ t. spread_number (term_of t) names) in omega arith in
      subst (λ s. IsDefined n Two (spread_set s names) free made) (ap (λ l. literal (terms (map term_of l))) same ∙ sym (ap set_term_of is ∙ set_term_of-Literal elements))
      (defined (length (spread_elements (terms (map term_of ts)) names)) long)
