-- What the forms of a translation have in common: a property that each form has whose parts have it.
use Rattle.std.proofs.Common.{ℕ, ◌+◌, zero, suc, Bool, true, false, List, [], ◌∷◌, length, take, drop, subst, arith}
use Rattle.ms_logic.specs.declared.mode.Order.TheVariants.{One, Two}
use Rattle.ms_logic.specs.declared.mode.Quant.{Quant}
use Rattle.ms_logic.specs.declared.mode.Quant.TheVariants.{Ex, All}
use Rattle.ms_logic.specs.declared.mode.Rel.{Rel}
use Rattle.ms_logic.specs.declared.mode.Rel.TheVariants.{Equal, Differs, Less, AtMost, Greater, AtLeast, Member, NotMember, Sub}
use Rattle.ms_logic.specs.Lists.{Each}
use Rattle.ms_logic.specs.Tree.{Term, number_variable, numeral, plus, SetTerm, set_variable, Form, comparison, set_comparison, membership, emptiness, quantified, unrestricted, Forms, no_forms, more_forms}
use Rattle.ms_logic.specs.Tree as sets
use Rattle.ms_presburger.specs.declared.summand.Summand.{Summand}
use Rattle.ms_translation.specs.Parts.{two, three, is_in}
use Rattle.ms_presburger.specs.Sets.{Scope, with_variable, term_of_summand, summands_of, some_set, every_place, digit_adds, carry_follows, adds, same_behind, is_less, half, sum_is, related, compared, over_sets, set_form, set_forms}
use Rattle.ms_presburger.specs.Tree.{Arithmetic, truth, falsity, brackets, negation, conjunction, disjunction, implication, equivalence, Arithmetics, no_arithmetics, more_arithmetics}
use Rattle.ms_presburger.specs.Tree as numbers
use Rattle.ms_presburger.proofs.Totals.{each-take, each-drop}

-- the property of forms and of lists of forms, from which variables on sets are bound, and which summands there are
pub record IsClosed (P : Form → Type 0) (Ps : Forms → Type 0) (From : ℕ → Type 0) (S : Summand → Type 0) : Type 0 where
  pub next : (x : ℕ) → From x → From (x + 2)
  pub none : Ps no_forms
  pub more : (f : Form) (fs : Forms) → P f → Ps fs → Ps (more_forms f fs)
  pub truth : P sets.truth
  pub falsity : P sets.falsity
  pub negation : (f : Form) → P f → P (sets.negation f)
  pub conjunction : (fs : Forms) → Ps fs → P (sets.conjunction fs)
  pub disjunction : (fs : Forms) → Ps fs → P (sets.disjunction fs)
  pub implication : (f g : Form) → P f → P g → P (sets.implication f g)
  pub equivalence : (f g : Form) → P f → P g → P (sets.equivalence f g)
  pub before : (p q : ℕ) → P (comparison Less (number_variable p) (number_variable q))
  pub place_in : (positive : Bool) (p s : ℕ) → P (membership positive (number_variable p) (set_variable s))
  pub first_in : (s : ℕ) → P (membership false (numeral 0) (set_variable s))
  pub next_in : (p s : ℕ) → P (membership true (plus (number_variable p) 1) (set_variable s))
  pub empty : (y : ℕ) → P (emptiness (set_variable y))
  pub same : (u v : ℕ) → P (set_comparison Equal (set_variable u) (set_variable v))
  pub differ : (u v : ℕ) → P (set_comparison Differs (set_variable u) (set_variable v))
  pub term : (y : ℕ) (t : Summand) → S t → P (set_comparison Equal (set_variable y) (term_of_summand t))
  pub some_set : (x : ℕ) (d f : Form) → From x → P d → P f → P (some_set x d f)
  pub a_set : (q : Quant) (x : ℕ) (f : Form) → From x → P f → P (quantified q Two x unrestricted f)
  pub a_place : (q : Quant) (x : ℕ) (f : Form) → From x → P f → P (quantified q One (x + 1) unrestricted f)
  pub a_later_place : (q : Quant) (x : ℕ) (f : Form) → From x → P f → P (quantified q One (x + 3) unrestricted f)

-- the summands of a formula have their property in each scope
abbrev mutual
  pub HasSummands : (Summand → Type 0) → Arithmetic → Type 0
  HasSummands S truth = Unit {0}
  HasSummands S falsity = Unit {0}
  HasSummands S (numbers.comparison r left right) = (scope : Scope) → Each S (summands_of scope left) × Each S (summands_of scope right)
  HasSummands S (brackets f) = HasSummands S f
  HasSummands S (negation f) = HasSummands S f
  HasSummands S (conjunction fs) = HaveSummands S fs
  HasSummands S (disjunction fs) = HaveSummands S fs
  HasSummands S (implication f g) = HasSummands S f × HasSummands S g
  HasSummands S (equivalence f g) = HasSummands S f × HasSummands S g
  HasSummands S (numbers.quantified q xs f) = HasSummands S f

  pub HaveSummands : (Summand → Type 0) → Arithmetics → Type 0
  HaveSummands S no_arithmetics = Unit {0}
  HaveSummands S (more_arithmetics f fs) = HasSummands S f × HaveSummands S fs

module _ (P : Form → Type 0) (Ps : Forms → Type 0) (From : ℕ → Type 0) (S : Summand → Type 0) (closed : IsClosed P Ps From S) where
  pair : (f g : Form) → P f → P g → P (sets.conjunction (two f g))
  pair f g one other = closed.conjunction (two f g) (closed.more f (more_forms g no_forms) one (closed.more g no_forms other closed.none))

  shape-adds : (y u v x : ℕ) → From x → P (adds y u v x)
  shape-adds y u v x from =
      let p = x + 3 in
      let at = closed.place_in true p in
      let carries =
      closed.disjunction (three (sets.conjunction (two (is_in p u) (is_in p v))) (sets.conjunction (two (is_in p u) (is_in p x))) (sets.conjunction (two (is_in p v) (is_in p x))))
      (closed.more (sets.conjunction (two (is_in p u) (is_in p v))) (two (sets.conjunction (two (is_in p u) (is_in p x))) (sets.conjunction (two (is_in p v) (is_in p x)))) (pair (is_in p u) (is_in p v) (at u) (at v))
      (closed.more (sets.conjunction (two (is_in p u) (is_in p x))) (more_forms (sets.conjunction (two (is_in p v) (is_in p x))) no_forms) (pair (is_in p u) (is_in p x) (at u) (at x))
      (closed.more (sets.conjunction (two (is_in p v) (is_in p x))) no_forms (pair (is_in p v) (is_in p x) (at v) (at x)) closed.none))) in
      let carry =
      closed.equivalence (membership true (plus (number_variable p) 1) (set_variable x))
      (sets.disjunction (three (sets.conjunction (two (is_in p u) (is_in p v))) (sets.conjunction (two (is_in p u) (is_in p x))) (sets.conjunction (two (is_in p v) (is_in p x))))) (closed.next_in p x) carries in
      let digit =
      closed.equivalence (is_in p y) (sets.equivalence (is_in p u) (sets.equivalence (is_in p v) (is_in p x))) (at y)
      (closed.equivalence (is_in p u) (sets.equivalence (is_in p v) (is_in p x)) (at u) (closed.equivalence (is_in p v) (is_in p x) (at v) (at x))) in
      let body = sets.conjunction (two (digit_adds p y u v x) (carry_follows p u v x)) in
      closed.a_set Ex x (sets.conjunction (two (membership false (numeral 0) (set_variable x)) (every_place p body))) from
      (pair (membership false (numeral 0) (set_variable x)) (every_place p body) (closed.first_in x)
      (closed.a_later_place All x body from (pair (digit_adds p y u v x) (carry_follows p u v x) digit carry)))

  shape-less : (u v x : ℕ) → From x → P (is_less u v x)
  shape-less u v x from =
      let p = x + 1 in
      let q = x + 3 in
      let body = sets.implication (comparison Less (number_variable p) (number_variable q)) (sets.equivalence (is_in q u) (is_in q v)) in
      let same =
      closed.a_later_place All x body from
      (closed.implication (comparison Less (number_variable p) (number_variable q)) (sets.equivalence (is_in q u) (is_in q v)) (closed.before p q)
      (closed.equivalence (is_in q u) (is_in q v) (closed.place_in true q u) (closed.place_in true q v))) in
      let lacks = membership false (number_variable p) (set_variable u) in
      closed.a_place Ex x (sets.conjunction (three (is_in p v) lacks (same_behind p q u v))) from
      (closed.conjunction (three (is_in p v) lacks (same_behind p q u v))
      (closed.more (is_in p v) (two lacks (same_behind p q u v)) (closed.place_in true p v)
      (closed.more lacks (more_forms (same_behind p q u v) no_forms) (closed.place_in false p u) (closed.more (same_behind p q u v) no_forms same closed.none))))

  shape-sum : (limit : ℕ) (terms : List Summand) (y x : ℕ) → From x → Each S terms → P (sum_is limit terms y x)
  shape-sum zero [] y x from each = closed.empty y
  shape-sum (suc limit) [] y x from each = closed.empty y
  shape-sum zero (t ∷ []) y x from each = closed.term y t each.0
  shape-sum (suc limit) (t ∷ []) y x from each = closed.term y t each.0
  shape-sum zero (t ∷ (s ∷ more)) y x from each = closed.falsity
  shape-sum (suc limit) (t ∷ (s ∷ more)) y x from each =
      let terms : List Summand = t ∷ (s ∷ more) in
      let n = half terms in
      let second = closed.next x from in
      let third : From (x + 4) = subst From (omega arith) (closed.next (x + 2) second) in
      closed.some_set x (sum_is limit (take n terms) x (x + 2)) (some_set (x + 2) (sum_is limit (drop n terms) (x + 2) (x + 4)) (adds y x (x + 2) (x + 4))) from
      (shape-sum limit (take n terms) x (x + 2) second (each-take S n terms each))
      (closed.some_set (x + 2) (sum_is limit (drop n terms) (x + 2) (x + 4)) (adds y x (x + 2) (x + 4)) second (shape-sum limit (drop n terms) (x + 2) (x + 4) third (each-drop S n terms each))
      (shape-adds y x (x + 2) (x + 4) third))

  shape-related : (r : Rel) (u v x : ℕ) → From x → P (related r u v x)
  shape-related Equal u v x from = closed.same u v
  shape-related Differs u v x from = closed.differ u v
  shape-related Less u v x from = shape-less u v x from
  shape-related AtMost u v x from = closed.negation (is_less v u x) (shape-less v u x from)
  shape-related Greater u v x from = shape-less v u x from
  shape-related AtLeast u v x from = closed.negation (is_less u v x) (shape-less u v x from)
  shape-related Member u v x from = closed.falsity
  shape-related NotMember u v x from = closed.falsity
  shape-related Sub u v x from = closed.falsity

  shape-compared : (r : Rel) (left right : List Summand) (x : ℕ) → From x → Each S left → Each S right → P (compared r left right x)
  shape-compared r left right x from one other =
      let second = closed.next x from in
      let third : From (x + 4) = subst From (omega arith) (closed.next (x + 2) second) in
      closed.some_set x (sum_is (length left) left x (x + 2)) (some_set (x + 2) (sum_is (length right) right (x + 2) (x + 4)) (related r x (x + 2) (x + 4))) from
      (shape-sum (length left) left x (x + 2) second one)
      (closed.some_set (x + 2) (sum_is (length right) right (x + 2) (x + 4)) (related r x (x + 2) (x + 4)) second (shape-sum (length right) right (x + 2) (x + 4) third other) (shape-related r x (x + 2) (x + 4) third))

  shape-over : (q : Quant) (names : List (List ℕ)) (f : Scope → ℕ → Form) → ((scope : Scope) (x : ℕ) → From x → P (f scope x)) → (scope : Scope) (x : ℕ) → From x → P (over_sets q names f scope x)
  shape-over q [] f each scope x from = each scope x from
  shape-over q (name ∷ names) f each scope x from =
      closed.a_set q x (over_sets q names f (with_variable name x scope) (x + 2)) from (shape-over q names f each (with_variable name x scope) (x + 2) (closed.next x from))

  mutual
    pub shape : (f : Arithmetic) → HasSummands S f → (scope : Scope) (x : ℕ) → From x → P (set_form f scope x)
    shape truth has scope x from = closed.truth
    shape falsity has scope x from = closed.falsity
    shape (numbers.comparison r left right) has scope x from = shape-compared r (summands_of scope left) (summands_of scope right) x from (has scope).0 (has scope).1
    shape (brackets f) has scope x from = shape f has scope x from
    shape (negation f) has scope x from = closed.negation (set_form f scope x) (shape f has scope x from)
    shape (conjunction fs) has scope x from = closed.conjunction (set_forms fs scope x) (shapes fs has scope x from)
    shape (disjunction fs) has scope x from = closed.disjunction (set_forms fs scope x) (shapes fs has scope x from)
    shape (implication f g) has scope x from = closed.implication (set_form f scope x) (set_form g scope x) (shape f has.0 scope x from) (shape g has.1 scope x from)
    shape (equivalence f g) has scope x from = closed.equivalence (set_form f scope x) (set_form g scope x) (shape f has.0 scope x from) (shape g has.1 scope x from)
    shape (numbers.quantified q names f) has scope x from = shape-over q names (λ inner y. set_form f inner y) (λ inner y from'. shape f has inner y from') scope x from

    shapes : (fs : Arithmetics) → HaveSummands S fs → (scope : Scope) (x : ℕ) → From x → Ps (set_forms fs scope x)
    shapes no_arithmetics has scope x from = closed.none
    shapes (more_arithmetics f fs) has scope x from = closed.more (set_form f scope x) (set_forms fs scope x) (shape f has.0 scope x from) (shapes fs has.1 scope x from)
