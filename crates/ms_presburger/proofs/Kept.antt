-- What was made was made of parts that were made: else it would be of any parts.
use Rattle.std.proofs.Common.{◌≡◌, ℕ, ◌+◌, zero, suc, List, [], ◌∷◌, Result, Ok, Err, refl, sym, ◌∙◌, subst}
use Rattle.std.specs.Prelude.{IfOk, IsOk, OnOk}
use Rattle.std.proofs.lemmas.Bool.{false≢true}
use Rattle.ms_list.specs.declared.fault.NoMemory.{NoMemory}
use Rattle.ms_logic.specs.declared.formula.Formula.{Formula}
use Rattle.ms_logic.specs.declared.mode.Quant.{Quant}
use Rattle.ms_logic.specs.Tree.{Form, Forms, truth, falsity, no_forms, more_forms}
use Rattle.ms_logic.specs.View.{forms, formula_of}
use Rattle.ms_translation.specs.Made.{GiveAll, Gives}
use Rattle.ms_presburger.specs.inner.Scopes.{wrapped}

differ : truth ≡ falsity → ⊥
differ same = cc

pub kept : (body result : Result Formula NoMemory) (F : Form → Form) → (F truth ≡ F falsity → ⊥) → ((f : Form) → Gives body f → Gives result (F f)) → (Q : Type 0) → OnOk body Q → OnOk result Q
kept (Ok b) (Ok r) F apart gives Q held = held
kept (Ok b) (Err e) F apart gives Q held = tt
kept (Err d) (Ok r) F apart gives Q held = absurd (apart (sym (gives truth tt) ∙ gives falsity tt))
kept (Err d) (Err e) F apart gives Q held = tt

pub kept-both : (one other result : Result Formula NoMemory) (F : Form → Form → Form) → ((g : Form) → F truth g ≡ F falsity g → ⊥) → ((f : Form) → F f truth ≡ F f falsity → ⊥) →
    ((f g : Form) → Gives one f → Gives other g → Gives result (F f g)) → (Q R : Type 0) → OnOk one Q → OnOk other R → OnOk result (Q × R)
kept-both (Ok a) (Ok b) (Ok r) F apart apart' gives Q R held held' = (held, held')
kept-both (Ok a) (Err d) (Ok r) F apart apart' gives Q R held held' = absurd (apart' (formula_of a) (sym (gives (formula_of a) truth refl tt) ∙ gives (formula_of a) falsity refl tt))
kept-both (Err c) (Ok b) (Ok r) F apart apart' gives Q R held held' = absurd (apart (formula_of b) (sym (gives truth (formula_of b) tt refl) ∙ gives falsity (formula_of b) tt refl))
kept-both (Err c) (Err d) (Ok r) F apart apart' gives Q R held held' = absurd (apart truth (sym (gives truth truth tt tt) ∙ gives falsity truth tt tt))
kept-both (Ok a) (Ok b) (Err e) F apart apart' gives Q R held held' = tt
kept-both (Ok a) (Err d) (Err e) F apart apart' gives Q R held held' = tt
kept-both (Err c) (Ok b) (Err e) F apart apart' gives Q R held held' = tt
kept-both (Err c) (Err d) (Err e) F apart apart' gives Q R held held' = tt

pub kept-all : (operands : Result (List Formula) NoMemory) (result : Result Formula NoMemory) (F : Forms → Form) → (F no_forms ≡ F (more_forms truth no_forms) → ⊥) → ((fs : List Form) → GiveAll operands fs → Gives result (F (forms fs))) →
    (Q : Type 0) → OnOk operands Q → OnOk result Q
kept-all (Ok b) (Ok r) F apart gives Q held = held
kept-all (Ok b) (Err e) F apart gives Q held = tt
kept-all (Err d) (Ok r) F apart gives Q held = absurd (apart (sym (gives [] tt) ∙ gives (truth ∷ []) tt))
kept-all (Err d) (Err e) F apart gives Q held = tt

pub wrapped-apart : (q : Quant) (count x : ℕ) → wrapped q count x truth ≡ wrapped q count x falsity → ⊥
wrapped-apart q zero x same = differ same
wrapped-apart q (suc count) x same = wrapped-apart q count (x + 2) cc

-- what follows of what was made, with what is known where it was
pub with-kept : {A : Type 0} (made : Result A NoMemory) (P Q : A → Type 0) (R : Type 0) → ((a : A) → P a → R → Q a) → IfOk made P → OnOk made R → IfOk made Q
with-kept (Ok a) P Q R leads held kept = leads a held kept
with-kept (Err e) P Q R leads held kept = tt

-- what both parts make, where the second is known once the first was made
pub gives-both : (one other result : Result Formula NoMemory) (F : Form → Form → Form) → ((g : Form) → F truth g ≡ F falsity g → ⊥) → ((f : Form) → F f truth ≡ F f falsity → ⊥) →
    ((f g : Form) → Gives one f → Gives other g → Gives result (F f g)) → (f g : Form) → Gives one f → OnOk one (Gives other g) → Gives result (F f g)
gives-both (Ok a) other result F apart apart' gives f g held held' = gives f g held held'
gives-both (Err c) other (Err e) F apart apart' gives f g held held' = tt
gives-both (Err c) (Ok b) (Ok r) F apart apart' gives f g held held' = absurd (apart (formula_of b) (sym (gives truth (formula_of b) tt refl) ∙ gives falsity (formula_of b) tt refl))
gives-both (Err c) (Err d) (Ok r) F apart apart' gives f g held held' = absurd (apart truth (sym (gives truth truth tt tt) ∙ gives falsity truth tt tt))

-- what follows where something was made
pub where-made : {A : Type 0} (made : Result A NoMemory) (Q R : Type 0) → (Q → R) → OnOk made Q → OnOk made R
where-made (Ok a) Q R leads held = leads held
where-made (Err e) Q R leads held = tt

-- and where both were made
pub then-both : (one other result : Result Formula NoMemory) (F : Form → Form → Form) → ((g : Form) → F truth g ≡ F falsity g → ⊥) → ((f : Form) → F f truth ≡ F f falsity → ⊥) →
    ((f g : Form) → Gives one f → Gives other g → Gives result (F f g)) → (Q R S : Type 0) → OnOk one Q → OnOk other R → (Q → R → S) → OnOk result S
then-both one other result F apart apart' gives Q R S held held' leads = where-made result (Q × R) S (λ both. leads both.0 both.1) (kept-both one other result F apart apart' gives Q R held held')

-- what was made, where what came behind it was done
pub gives-then : (made result : Result Formula NoMemory) → IfOk result (λ value. made ≡ Ok value) → (f : Form) → Gives made f → Gives result f
gives-then made (Ok r) is f held = subst (λ (m : Result Formula NoMemory). Gives m f) is held
gives-then made (Err e) is f held = tt

pub kept-then : (made result : Result Formula NoMemory) → IfOk result (λ value. made ≡ Ok value) → (Q : Type 0) → OnOk made Q → OnOk result Q
kept-then made (Ok r) is Q held = subst (λ (m : Result Formula NoMemory). OnOk m Q) is held
kept-then made (Err e) is Q held = tt

pub done-then : (result : Result Formula NoMemory) (done : Result (Unit {0}) NoMemory) → OnOk result (IsOk done) → (Q : Type 0) → OnOk done Q → OnOk result Q
done-then (Ok r) (Ok d) is Q held = held
done-then (Ok r) (Err e) is Q held = absurd (false≢true is)
done-then (Err e) done is Q held = tt

pub both-made : (made : Result Formula NoMemory) (Q R : Type 0) → OnOk made Q → OnOk made R → OnOk made (Q × R)
both-made (Ok a) Q R one other = (one, other)
both-made (Err e) Q R one other = tt
