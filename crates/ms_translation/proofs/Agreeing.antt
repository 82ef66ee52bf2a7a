-- A formula agrees with a fact: it is Yes where the fact holds, and No where it does not.
use Rattle.std.proofs.Common.{◌⊎◌, ◌↔◌, inl, inr, ⊎_elim}
use Rattle.ms_logic.specs.Assignment.{Env}
use Rattle.ms_logic.specs.Tree.{Form, truth, falsity, negation, conjunction, disjunction, implication, equivalence, Forms, no_forms, more_forms}
use Rattle.ms_logic.specs.Truth.{Meanings, YesUnder, NoUnder, AllYes, AllNo, AllDefined, SomeYes, SomeNo}
use Rattle.ms_translation.specs.Parts.{two, three}

abbrev pub Agrees : Meanings → Form → Env → Type 0 → Type 0
Agrees m f e P = (P × YesUnder m f e) ⊎ ((¬ P) × NoUnder m f e)

-- each formula of a list is Yes or No; all are Yes where the fact holds, and some is No where it does not
abbrev pub EachAgrees : Meanings → Forms → Env → Type 0 → Type 0
EachAgrees m fs e P = AllDefined m fs e × ((P × AllYes m fs e) ⊎ ((¬ P) × SomeNo m fs e))

-- each formula of a list is Yes or No; some is Yes where the fact holds, and all are No where it does not
abbrev pub SomeAgrees : Meanings → Forms → Env → Type 0 → Type 0
SomeAgrees m fs e P = AllDefined m fs e × ((P × SomeYes m fs e) ⊎ ((¬ P) × AllNo m fs e))

module _ (m : Meanings) where
  pub along : (f : Form) (e : Env) (P Q : Type 0) → (P ↔ Q) → Agrees m f e P → Agrees m f e Q
  along f e P Q same agrees = ⊎_elim (λ yes. inl (same.0 yes.0, yes.1)) (λ no. inr ((λ q. no.0 (same.1 q)), no.1)) agrees

  pub defined : (f : Form) (e : Env) (P : Type 0) → Agrees m f e P → YesUnder m f e ⊎ NoUnder m f e
  defined f e P agrees = ⊎_elim (λ yes. inl yes.1) (λ no. inr no.1) agrees

  pub agrees-truth : (e : Env) → Agrees m truth e (Unit {0})
  agrees-truth e = inl (tt, tt)

  pub agrees-falsity : (e : Env) → Agrees m falsity e ⊥
  agrees-falsity e = inr ((λ never. never), tt)

  pub agrees-negation : (f : Form) (e : Env) (P : Type 0) → Agrees m f e P → Agrees m (negation f) e (¬ P)
  agrees-negation f e P agrees = ⊎_elim (λ yes. inr ((λ never. never yes.0), yes.1)) (λ no. inl (no.0, no.1)) agrees

  pub agrees-implication : (f g : Form) (e : Env) (P Q : Type 0) → Agrees m f e P → Agrees m g e Q → Agrees m (implication f g) e (P → Q)
  agrees-implication f g e P Q one other =
      ⊎_elim (λ yes. ⊎_elim (λ yes'. inl ((λ p. yes'.0), (inl yes.1, inl yes'.1, inr yes'.1))) (λ no'. inr ((λ leads. no'.0 (leads yes.0)), (yes.1, no'.1))) other)
      (λ no. inl ((λ p. absurd (no.0 p)), (inr no.1, defined g e Q other, inl no.1))) one

  pub agrees-equivalence : (f g : Form) (e : Env) (P Q : Type 0) → Agrees m f e P → Agrees m g e Q → Agrees m (equivalence f g) e (P ↔ Q)
  agrees-equivalence f g e P Q one other =
      ⊎_elim (λ yes. ⊎_elim (λ yes'. inl (((λ p. yes'.0), (λ q. yes.0)), inl (yes.1, yes'.1))) (λ no'. inr ((λ same. no'.0 (same.0 yes.0)), inl (yes.1, no'.1))) other)
      (λ no. ⊎_elim (λ yes'. inr ((λ same. no.0 (same.1 yes'.0)), inr (no.1, yes'.1))) (λ no'. inl (((λ p. absurd (no.0 p)), (λ q. absurd (no'.0 q))), inr (no.1, no'.1))) other) one

  -- lists

  pub each-none : (e : Env) → EachAgrees m no_forms e (Unit {0})
  each-none e = (tt, inl (tt, tt))

  pub each-more : (f : Form) (fs : Forms) (e : Env) (P Q : Type 0) → Agrees m f e P → EachAgrees m fs e Q → EachAgrees m (more_forms f fs) e (P × Q)
  each-more f fs e P Q first others = (
    (defined f e P first, others.0),
    ⊎_elim (λ yes. ⊎_elim (λ yes'. inl ((yes.0, yes'.0), (yes.1, yes'.1))) (λ no'. inr ((λ both. no'.0 both.1), inr no'.1)) others.1)
        (λ no. inr ((λ both. no.0 both.0), inl no.1)) first,
  )

  pub agrees-conjunction : (fs : Forms) (e : Env) (P : Type 0) → EachAgrees m fs e P → Agrees m (conjunction fs) e P
  agrees-conjunction fs e P each = ⊎_elim (λ yes. inl yes) (λ no. inr (no.0, (each.0, no.1))) each.1

  pub some-none : (e : Env) → SomeAgrees m no_forms e ⊥
  some-none e = (tt, inr ((λ never. never), tt))

  pub some-more : (f : Form) (fs : Forms) (e : Env) (P Q : Type 0) → Agrees m f e P → SomeAgrees m fs e Q → SomeAgrees m (more_forms f fs) e (P ⊎ Q)
  some-more f fs e P Q first others = (
    (defined f e P first, others.0),
    ⊎_elim (λ yes. inl (inl yes.0, inl yes.1))
        (λ no. ⊎_elim (λ yes'. inl (inr yes'.0, inr yes'.1)) (λ no'. inr ((λ either. ⊎_elim no.0 no'.0 either), (no.1, no'.1))) others.1) first,
  )

  pub agrees-disjunction : (fs : Forms) (e : Env) (P : Type 0) → SomeAgrees m fs e P → Agrees m (disjunction fs) e P
  agrees-disjunction fs e P some = ⊎_elim (λ yes. inl (yes.0, (some.0, yes.1))) (λ no. inr no) some.1

  -- two and three formulas

  pub agrees-two : (f g : Form) (e : Env) (P Q : Type 0) → Agrees m f e P → Agrees m g e Q → Agrees m (conjunction (two f g)) e (P × Q)
  agrees-two f g e P Q one other =
      along (conjunction (two f g)) e (P × (Q × Unit {0})) (P × Q) ((λ both. (both.0, both.1.0)), (λ both. (both.0, (both.1, tt))))
      (agrees-conjunction (two f g) e (P × (Q × Unit {0})) (each-more f (more_forms g no_forms) e P (Q × Unit {0}) one (each-more g no_forms e Q (Unit {0}) other (each-none e))))

  pub agrees-three : (f g h : Form) (e : Env) (P Q R : Type 0) → Agrees m f e P → Agrees m g e Q → Agrees m h e R → Agrees m (conjunction (three f g h)) e (P × Q × R)
  agrees-three f g h e P Q R one other third =
      along (conjunction (three f g h)) e (P × (Q × (R × Unit {0}))) (P × Q × R) ((λ all. (all.0, all.1.0, all.1.1.0)), (λ all. (all.0, (all.1, (all.2, tt)))))
      (agrees-conjunction (three f g h) e (P × (Q × (R × Unit {0}))) (each-more f (two g h) e P (Q × (R × Unit {0})) one (each-more g (more_forms h no_forms) e Q (R × Unit {0}) other (each-more h no_forms e R (Unit {0}) third (each-none e)))))

  pub agrees-either : (f g : Form) (e : Env) (P Q : Type 0) → Agrees m f e P → Agrees m g e Q → Agrees m (disjunction (two f g)) e (P ⊎ Q)
  agrees-either f g e P Q one other =
      along (disjunction (two f g)) e (P ⊎ (Q ⊎ ⊥)) (P ⊎ Q)
      ((λ either. ⊎_elim (λ p. inl p) (λ later. ⊎_elim (λ q. inr q) (λ never. absurd never) later) either), (λ either. ⊎_elim (λ p. inl p) (λ q. inr (inl q)) either))
      (agrees-disjunction (two f g) e (P ⊎ (Q ⊎ ⊥)) (some-more f (more_forms g no_forms) e P (Q ⊎ ⊥) one (some-more g no_forms e Q ⊥ other (some-none e))))
