-- Readers that tell whether a core formula is Yes, and whether it is No.
use Rattle.std.proofs.Common.{◌≡◌, ℕ, Bool, true, false, IsTrue, ◌⊎◌, ◌↔◌, List, [], ◌∷◌, length, slice_get, zero, suc, Option, None, Some, refl, subst}
use Rattle.std.proofs.lemmas.Bool.{false≢true}
use Rattle.std.proofs.lemmas.Option.{none-some, same_Some}
use Rattle.ms_logic.specs.declared.assignment.Value.{Value}
use Rattle.ms_logic.specs.declared.mode.Mode.{Mode}
use Rattle.ms_logic.specs.declared.mode.Order.{Order}
use Rattle.ms_logic.specs.declared.mode.Quant.TheVariants.{Ex, All}
use Rattle.ms_logic.specs.Assignment.{Env, IsValueOf, Variable, assign}
use Rattle.ms_logic.specs.Lists.{IsAmong}
use Rattle.ms_logic.specs.Truth.{Answer, Import, InRange, IsEmptyRange, NoneInRange, SomeInRange, answer_no, answer_undefined, answer_yes}
use Rattle.ms_logic_core.specs.CoreForm.{AllCoreDefined, AllCoreNo, AllCoreYes, CoreForm, CoreForms, CoreNo, CoreRestriction, CoreYes, Holds, IsCoreMet, SomeCoreNo, SomeCoreYes, answer_over, basic, conjunction, disjunction, equivalence, falsity, implication, imported, more_forms, negation, no_forms, quantified, restrict, restricted, truth, unrestricted}
use Rattle.ms_logic_core.specs.Operands.{variable, variables_at}
use Rattle.ms_logic_core.specs.Spread.{variables_of_import}
use Rattle.ms_logic_measures.specs.Budgets.{AreContentsOfImports, IsContentOfImport}
use Rattle.ms_logic_words.specs.Content.{Content}
use Rattle.ms_logic_readers.specs.Scoped.{AreDistinct, AreOver, IsOver, IsRestrictionOver, with_bound}
use Rattle.ms_logic_readers.proofs.Imports.{import-reader}
use Rattle.ms_logic_readers.proofs.Quantifiers.{some-value-reader, wide-distinct}
use Rattle.ms_logic_readers.proofs.Readers.{Reader, TellsAt, both-readers, certain-reader, either-reader, never-reader, opposite-reader, reader-along}
use Rattle.ms_logic_readers.proofs.Relations.{relation-reader}

-- the content of an import
file-of : (mode : Mode) (imports : List Import) (files : List (Content Answer)) → AreContentsOfImports mode imports files → (i : ℕ) (found : Import) → slice_get imports i ≡ Some found
    → (file : Content Answer) × IsContentOfImport mode found file
file-of mode [] [] tied i found is = absurd (none-some found is)
file-of mode [] (file ∷ files) tied i found is = absurd tied
file-of mode (first ∷ imports) [] tied i found is = absurd tied
file-of mode (first ∷ imports) (file ∷ files) tied zero found is = (file, subst (λ (one : Import). IsContentOfImport mode one file) (same_Some first found is) tied.0)
file-of mode (first ∷ imports) (file ∷ files) tied (suc i) found is = file-of mode imports files tied.1 i found is

abbrev yes_bit : Answer → Bool
yes_bit answer_yes = true
yes_bit answer_no = false
yes_bit answer_undefined = false

abbrev no_bit : Answer → Bool
no_bit answer_yes = false
no_bit answer_no = true
no_bit answer_undefined = false

yes-told : (a : Answer) → (a ≡ answer_yes) ↔ IsTrue (yes_bit a)
yes-told answer_yes = ((λ same. refl), (λ is. refl))
yes-told answer_no = ((λ same. cc), (λ is. absurd (false≢true is)))
yes-told answer_undefined = ((λ same. cc), (λ is. absurd (false≢true is)))

no-told : (a : Answer) → (a ≡ answer_no) ↔ IsTrue (no_bit a)
no-told answer_yes = ((λ same. cc), (λ is. absurd (false≢true is)))
no-told answer_no = ((λ same. refl), (λ is. refl))
no-told answer_undefined = ((λ same. cc), (λ is. absurd (false≢true is)))

-- ranges of a bound variable
module _ (mode : Mode) (variables : List Variable) (distinct : AreDistinct variables) (o : Order) (x : ℕ) (Met : Env → Type 0) (met : Reader (TellsAt mode (with_bound variables (variable x o)) Met)) where
  abbrev Range : Env → Value → Type 0
  Range e = InRange o x Met e

  module _ (P : Env → Type 0) (p : Reader (TellsAt mode (with_bound variables (variable x o)) P)) where
    some-in : Reader (TellsAt mode variables (λ e. SomeInRange (InRange o x Met e) (λ v. P (assign x v e))))
    some-in =
        reader-along mode variables (λ e. (v : Value) × IsValueOf o e.universe v × (Met (assign x v e) × P (assign x v e))) (λ e. SomeInRange (InRange o x Met e) (λ v. P (assign x v e)))
        (λ e assigned. ((λ some. (some.0, (some.1, some.2.0), some.2.1)), (λ some. (some.0, some.1.0, (some.1.1, some.2)))))
        (some-value-reader mode variables distinct o x (λ e. Met e × P e) (both-readers mode (with_bound variables (variable x o)) Met P met p))

    none-in : Reader (TellsAt mode variables (λ e. NoneInRange (InRange o x Met e) (λ v. P (assign x v e))))
    none-in =
        reader-along mode variables (λ e. ¬ SomeInRange (InRange o x Met e) (λ v. P (assign x v e))) (λ e. NoneInRange (InRange o x Met e) (λ v. P (assign x v e)))
        (λ e assigned. ((λ none v within holds. none (v, within, holds)), (λ none some. none some.0 some.1 some.2)))
        (opposite-reader mode variables (λ e. SomeInRange (InRange o x Met e) (λ v. P (assign x v e))) some-in)

  empty : Reader (TellsAt mode variables (λ e. IsEmptyRange (InRange o x Met e)))
  empty =
      reader-along mode variables (λ e. ¬ ((v : Value) × IsValueOf o e.universe v × Met (assign x v e))) (λ e. IsEmptyRange (InRange o x Met e))
      (λ e assigned. ((λ none v within. none (v, within.0, within.1)), (λ none some. none some.0 (some.1, some.2))))
      (opposite-reader mode variables (λ e. (v : Value) × IsValueOf o e.universe v × Met (assign x v e)) (some-value-reader mode variables distinct o x Met met))

  module _ (P Q : Env → Type 0) (p : Reader (TellsAt mode (with_bound variables (variable x o)) P)) (q : Reader (TellsAt mode (with_bound variables (variable x o)) Q)) where
    -- none of the one, and some of the other or nothing at all
    all-in : Reader (TellsAt mode variables (λ e. NoneInRange (InRange o x Met e) (λ v. P (assign x v e)) × (SomeInRange (InRange o x Met e) (λ v. Q (assign x v e)) ⊎ IsEmptyRange (InRange o x Met e))))
    all-in =
        both-readers mode variables (λ e. NoneInRange (InRange o x Met e) (λ v. P (assign x v e))) (λ e. SomeInRange (InRange o x Met e) (λ v. Q (assign x v e)) ⊎ IsEmptyRange (InRange o x Met e)) (none-in P p)
        (either-reader mode variables (λ e. SomeInRange (InRange o x Met e) (λ v. Q (assign x v e))) (λ e. IsEmptyRange (InRange o x Met e)) (some-in Q q) empty)

module _ (imports : List Import) (mode : Mode) (files : List (Content Answer)) (tied : AreContentsOfImports mode imports files) where
  -- an import's answer
  answer-reader : (variables : List Variable) → AreDistinct variables → (i : ℕ) (xs : List ℕ) → IsOver imports variables (imported i xs) → (answer : Answer) → (answer_undefined ≡ answer → ⊥)
      → (bit : Answer → Bool) → ((a : Answer) → (a ≡ answer) ↔ IsTrue (bit a)) → Reader (TellsAt mode variables (λ e. answer_over (slice_get imports i) xs e ≡ answer))
  answer-reader variables distinct i xs over answer said bit told = by-found (slice_get imports i) refl over
    where
      by-found : (found : Option Import) → slice_get imports i ≡ found
          → (length xs ≡ length (variables_of_import found)) × ((v : Variable) → IsAmong (variables_at xs (variables_of_import found)) v → IsAmong variables v)
          → Reader (TellsAt mode variables (λ e. answer_over found xs e ≡ answer))
      by-found None is over' = never-reader mode variables (λ e. answer_undefined ≡ answer) (λ e same. said same)
      by-found (Some found) is over' =
          let file = file-of mode imports files tied i found is in import-reader mode variables distinct found file.0 file.1 xs over'.0 over'.1 answer bit told

  mutual
    pub yes : (f : CoreForm) (variables : List Variable) → AreDistinct variables → IsOver imports variables f → Reader (TellsAt mode variables (CoreYes imports f))
    yes truth variables distinct over = certain-reader mode variables (λ e. Unit {0}) (λ e. tt)
    yes falsity variables distinct over = never-reader mode variables (λ e. ⊥) (λ e never. never)
    yes (basic b) variables distinct over = relation-reader mode variables distinct b over
    yes (negation f) variables distinct over = no f variables distinct over
    yes (conjunction fs) variables distinct over = all-yes fs variables distinct over
    yes (disjunction fs) variables distinct over =
        both-readers mode variables (AllCoreDefined imports fs) (SomeCoreYes imports fs) (all-defined fs variables distinct over) (some-yes fs variables distinct over)
    yes (implication f g) variables distinct over =
        let left = CoreYes imports f in
        let left_no = CoreNo imports f in
        let right = CoreYes imports g in
        let right_no = CoreNo imports g in
        let yes_f = yes f variables distinct over.0 in
        let no_f = no f variables distinct over.0 in
        let yes_g = yes g variables distinct over.1 in
        let no_g = no g variables distinct over.1 in
        let first = either-reader mode variables left left_no yes_f no_f in
        let second = either-reader mode variables right right_no yes_g no_g in
        let third = either-reader mode variables left_no right no_f yes_g in
        reader-along mode variables (λ e. (left e ⊎ left_no e) × ((right e ⊎ right_no e) × (left_no e ⊎ right e))) (CoreYes imports (implication f g))
        (λ e assigned. ((λ held. (held.0, held.1.0, held.1.1)), (λ held. (held.0, (held.1, held.2)))))
        (both-readers mode variables (λ e. left e ⊎ left_no e) (λ e. (right e ⊎ right_no e) × (left_no e ⊎ right e)) first (both-readers mode variables (λ e. right e ⊎ right_no e) (λ e. left_no e ⊎ right e) second third))
    yes (equivalence f g) variables distinct over =
        either-reader mode variables (λ e. CoreYes imports f e × CoreYes imports g e) (λ e. CoreNo imports f e × CoreNo imports g e)
        (both-readers mode variables (CoreYes imports f) (CoreYes imports g) (yes f variables distinct over.0) (yes g variables distinct over.1))
        (both-readers mode variables (CoreNo imports f) (CoreNo imports g) (no f variables distinct over.0) (no g variables distinct over.1))
    yes (restrict f) variables distinct over = yes f variables distinct over
    yes (imported i xs) variables distinct over = answer-reader variables distinct i xs over answer_yes (λ same. cc) yes_bit yes-told
    yes (quantified Ex o x d f) variables distinct over =
        let inner = wide-distinct mode variables distinct o x in
        some-in mode variables distinct o x (IsCoreMet imports d) (met d (with_bound variables (variable x o)) inner over.0) (CoreYes imports f) (yes f (with_bound variables (variable x o)) inner over.1)
    yes (quantified All o x d f) variables distinct over =
        let inner = wide-distinct mode variables distinct o x in
        all-in mode variables distinct o x (IsCoreMet imports d) (met d (with_bound variables (variable x o)) inner over.0) (CoreNo imports f) (CoreYes imports f)
        (no f (with_bound variables (variable x o)) inner over.1) (yes f (with_bound variables (variable x o)) inner over.1)

    pub no : (f : CoreForm) (variables : List Variable) → AreDistinct variables → IsOver imports variables f → Reader (TellsAt mode variables (CoreNo imports f))
    no truth variables distinct over = never-reader mode variables (λ e. ⊥) (λ e never. never)
    no falsity variables distinct over = certain-reader mode variables (λ e. Unit {0}) (λ e. tt)
    no (basic b) variables distinct over = opposite-reader mode variables (Holds b) (relation-reader mode variables distinct b over)
    no (negation f) variables distinct over = yes f variables distinct over
    no (conjunction fs) variables distinct over =
        both-readers mode variables (AllCoreDefined imports fs) (SomeCoreNo imports fs) (all-defined fs variables distinct over) (some-no fs variables distinct over)
    no (disjunction fs) variables distinct over = all-no fs variables distinct over
    no (implication f g) variables distinct over =
        both-readers mode variables (CoreYes imports f) (CoreNo imports g) (yes f variables distinct over.0) (no g variables distinct over.1)
    no (equivalence f g) variables distinct over =
        either-reader mode variables (λ e. CoreYes imports f e × CoreNo imports g e) (λ e. CoreNo imports f e × CoreYes imports g e)
        (both-readers mode variables (CoreYes imports f) (CoreNo imports g) (yes f variables distinct over.0) (no g variables distinct over.1))
        (both-readers mode variables (CoreNo imports f) (CoreYes imports g) (no f variables distinct over.0) (yes g variables distinct over.1))
    no (restrict f) variables distinct over = never-reader mode variables (λ e. ⊥) (λ e never. never)
    no (imported i xs) variables distinct over = answer-reader variables distinct i xs over answer_no (λ same. cc) no_bit no-told
    no (quantified Ex o x d f) variables distinct over =
        let inner = wide-distinct mode variables distinct o x in
        all-in mode variables distinct o x (IsCoreMet imports d) (met d (with_bound variables (variable x o)) inner over.0) (CoreYes imports f) (CoreNo imports f)
        (yes f (with_bound variables (variable x o)) inner over.1) (no f (with_bound variables (variable x o)) inner over.1)
    no (quantified All o x d f) variables distinct over =
        let inner = wide-distinct mode variables distinct o x in
        some-in mode variables distinct o x (IsCoreMet imports d) (met d (with_bound variables (variable x o)) inner over.0) (CoreNo imports f) (no f (with_bound variables (variable x o)) inner over.1)

    all-yes : (fs : CoreForms) (variables : List Variable) → AreDistinct variables → AreOver imports variables fs → Reader (TellsAt mode variables (AllCoreYes imports fs))
    all-yes no_forms variables distinct over = certain-reader mode variables (λ e. Unit {0}) (λ e. tt)
    all-yes (more_forms f fs) variables distinct over =
        both-readers mode variables (CoreYes imports f) (AllCoreYes imports fs) (yes f variables distinct over.0) (all-yes fs variables distinct over.1)

    all-no : (fs : CoreForms) (variables : List Variable) → AreDistinct variables → AreOver imports variables fs → Reader (TellsAt mode variables (AllCoreNo imports fs))
    all-no no_forms variables distinct over = certain-reader mode variables (λ e. Unit {0}) (λ e. tt)
    all-no (more_forms f fs) variables distinct over =
        both-readers mode variables (CoreNo imports f) (AllCoreNo imports fs) (no f variables distinct over.0) (all-no fs variables distinct over.1)

    all-defined : (fs : CoreForms) (variables : List Variable) → AreDistinct variables → AreOver imports variables fs → Reader (TellsAt mode variables (AllCoreDefined imports fs))
    all-defined no_forms variables distinct over = certain-reader mode variables (λ e. Unit {0}) (λ e. tt)
    all-defined (more_forms f fs) variables distinct over =
        both-readers mode variables (λ e. CoreYes imports f e ⊎ CoreNo imports f e) (AllCoreDefined imports fs)
        (either-reader mode variables (CoreYes imports f) (CoreNo imports f) (yes f variables distinct over.0) (no f variables distinct over.0)) (all-defined fs variables distinct over.1)

    some-yes : (fs : CoreForms) (variables : List Variable) → AreDistinct variables → AreOver imports variables fs → Reader (TellsAt mode variables (SomeCoreYes imports fs))
    some-yes no_forms variables distinct over = never-reader mode variables (λ e. ⊥) (λ e never. never)
    some-yes (more_forms f fs) variables distinct over =
        either-reader mode variables (CoreYes imports f) (SomeCoreYes imports fs) (yes f variables distinct over.0) (some-yes fs variables distinct over.1)

    some-no : (fs : CoreForms) (variables : List Variable) → AreDistinct variables → AreOver imports variables fs → Reader (TellsAt mode variables (SomeCoreNo imports fs))
    some-no no_forms variables distinct over = never-reader mode variables (λ e. ⊥) (λ e never. never)
    some-no (more_forms f fs) variables distinct over =
        either-reader mode variables (CoreNo imports f) (SomeCoreNo imports fs) (no f variables distinct over.0) (some-no fs variables distinct over.1)

    met : (d : CoreRestriction) (variables : List Variable) → AreDistinct variables → IsRestrictionOver imports variables d → Reader (TellsAt mode variables (IsCoreMet imports d))
    met unrestricted variables distinct over = certain-reader mode variables (λ e. Unit {0}) (λ e. tt)
    met (restricted d) variables distinct over = yes d variables distinct over
