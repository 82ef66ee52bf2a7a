-- The source of sets for a formula tells of each valuation whether the formula holds.
use Rattle.std.proofs.Common.{◌≡◌, ℕ, false, ◌↔◌, inl, inr, ⊎_elim, List, [], ◌∷◌, length, get_or, None, refl, sym, ◌∙◌, ap, subst, arith}
use Rattle.ms_logic.specs.declared.checked.Checked.{Checked}
use Rattle.ms_logic.specs.declared.mode.Mode.TheVariants.{Ws1s}
use Rattle.ms_logic.specs.Assignment.{Env}
use Rattle.ms_logic.specs.FiniteSet.{one_bits}
use Rattle.ms_logic.specs.Lists.{Each}
use Rattle.ms_logic.specs.Verdict.{Assigns, MainYes, MainNo}
use Rattle.ms_logic.specs.View.{Answers, main_question, problem_of}
use Rattle.ms_logic.proofs.Consistent.{never_both}
use Rattle.ms_logic.proofs.Members.{all_natural}
use Rattle.ms_logic.proofs.SetLaws.{one_bits_law}
use Rattle.ms_presburger.specs.Meaning.{numbers_of, TellsTruth, IsOverNumbers, TellsVerdict}
use Rattle.ms_presburger.specs.Numbers.{Valuation, Holds}
use Rattle.ms_presburger.specs.Source.{IsSetSource, main_form, place_of, set_problem}
use Rattle.ms_presburger.specs.Tree.{Arithmetic, free_names, free_places}
use Rattle.ms_presburger.proofs.Binary.{number_of-one_bits}
use Rattle.ms_presburger.proofs.Named.{IsNamed, once-covers, place-below, name-at-place, each-named, each-weaker}
use Rattle.ms_presburger.proofs.Scopes.{Stands}
use Rattle.ms_presburger.proofs.Translated.{translated}
use Rattle.ms_translation.proofs.Agreeing.{Agrees}
use Rattle.ms_translation.proofs.Asked.{consistent, main-same, meanings}
use Rattle.ms_translation.proofs.Asked as asked
use Rattle.ms_translation.proofs.Globals.{all-met, gives-sets, sets-given}

-- whatever its imports answer, since it has none
pub problem-same : (names : List (List ℕ)) (f : Arithmetic) (made : Checked) (answers : Answers) → IsSetSource names f made → set_problem names f ≡ problem_of made answers
problem-same names f made answers is = asked.problem-same Ws1s names (main_form names f ∷ []) made is answers

module _ (names : List (List ℕ)) (f : Arithmetic) (free : names ≡ free_names f) where
  covered : Each (IsNamed names) (free_places f)
  covered = let P : List (List ℕ) → Type 0 = λ ns. Each (IsNamed ns) (free_places f) in subst P (sym free) (once-covers (free_places f))

  -- the formula agrees wherever the sets have the numbers of a valuation
  agrees-at : (e : Env) → Assigns (set_problem names f) e → (v : Valuation) → ((x : List ℕ) → IsNamed names x → numbers_of names e x ≡ v x) → Agrees meanings (main_form names f) e (Holds f v)
  agrees-at e assigned v same =
      translated meanings consistent f v (place_of names) (length names) e assigned.universe
      (each-weaker (IsNamed names) (Stands e (place_of names) v (length names)) (λ x named. let below = place-below names x named in
      (below, (sets-given names 0 e assigned.values (place_of names x) (omega arith) (omega (arith, below))).0, same x named)) (free_places f) covered)

  main-yes : (e : Env) (P : Type 0) → Agrees meanings (main_form names f) e P → MainYes (set_problem names f) e ↔ P
  main-yes e P agrees = (
    (λ main. ⊎_elim (λ yes. yes.0) (λ no. absurd (never_both meanings consistent (main_form names f) e main.1.0 no.1)) agrees),
    (λ held. (all-met meanings names 0 e, ⊎_elim (λ yes. (yes.1, tt)) (λ no. absurd (no.0 held)) agrees)),
  )

  main-no : (e : Env) (P : Type 0) → Agrees meanings (main_form names f) e P → MainNo (set_problem names f) e ↔ (¬ P)
  main-no e P agrees = (
    (λ main. ⊎_elim (λ yes. absurd (⊎_elim (λ no. never_both meanings consistent (main_form names f) e yes.1 no) (λ never. never) main.1.1)) (λ no. no.0) agrees),
    (λ fails. (all-met meanings names 0 e, ⊎_elim (λ yes. absurd (fails yes.0)) (λ no. ((inr no.1, tt), inl no.1)) agrees)),
  )

  truth-told : TellsTruth names f (set_problem names f)
  truth-told = record {
    yes = λ e assigned. main-yes e (Holds f (numbers_of names e)) (agrees-at e assigned (numbers_of names e) (λ x named. refl));
    no = λ e assigned. main-no e (Holds f (numbers_of names e)) (agrees-at e assigned (numbers_of names e) (λ x named. refl));
  }

  -- the sets of the digits of numbers
  env-of : Valuation → Env
  env-of v = record { universe = None; truth = λ x. false; number = λ x. 0; set = λ k. one_bits (v (get_or names k [])) }

  env-assigned : (v : Valuation) → Assigns (set_problem names f) (env-of v)
  unfolding env-of
  env-assigned v = record { universe = refl; values = gives-sets names 0 (env-of v) (λ p above below. ((one_bits_law (v (get_or names p []))).rising, all_natural (one_bits (v (get_or names p []))))) }

  env-numbers : (v : Valuation) (x : List ℕ) → IsNamed names x → numbers_of names (env-of v) x ≡ v x
  unfolding env-of
  env-numbers v x named = number_of-one_bits (v (get_or names (place_of names x) [])) ∙ ap v (name-at-place names x named)

  numbers-assigned : IsOverNumbers names (set_problem names f)
  numbers-assigned v =
      (env-of v, env-assigned v, each-weaker (IsNamed names) (λ name. numbers_of names (env-of v) name ≡ v name) (λ x named. env-numbers v x named) names (each-named names))

  verdict-told : TellsVerdict f (set_problem names f)
  verdict-told = record {
    example = (
      (λ found. (numbers_of names found.0, (truth-told.yes found.0 found.1).0 found.2)),
      (λ found. (env-of found.0, env-assigned found.0, (main-yes (env-of found.0) (Holds f found.0) (agrees-at (env-of found.0) (env-assigned found.0) found.0 (env-numbers found.0))).1 found.1)),
    );
    counterexample = (
      (λ found. (numbers_of names found.0, (truth-told.no found.0 found.1).0 found.2)),
      (λ found. (env-of found.0, env-assigned found.0, (main-no (env-of found.0) (Holds f found.0) (agrees-at (env-of found.0) (env-assigned found.0) found.0 (env-numbers found.0))).1 found.1)),
    );
  }

-- for whatever is made as the source says

pub tells-truth : (names : List (List ℕ)) (f : Arithmetic) (made : Checked) (answers : Answers) → names ≡ free_names f → IsSetSource names f made → TellsTruth names f (main_question made answers)
tells-truth names f made answers free is = subst (TellsTruth names f) (main-same Ws1s names (main_form names f ∷ []) made is answers) (truth-told names f free)

pub is-over-numbers : (names : List (List ℕ)) (f : Arithmetic) (made : Checked) (answers : Answers) → names ≡ free_names f → IsSetSource names f made → IsOverNumbers names (main_question made answers)
is-over-numbers names f made answers free is = subst (IsOverNumbers names) (main-same Ws1s names (main_form names f ∷ []) made is answers) (numbers-assigned names f free)

pub tells-verdict : (names : List (List ℕ)) (f : Arithmetic) (made : Checked) (answers : Answers) → names ≡ free_names f → IsSetSource names f made → TellsVerdict f (main_question made answers)
tells-verdict names f made answers free is = subst (TellsVerdict f) (main-same Ws1s names (main_form names f ∷ []) made is answers) (verdict-told names f free)
