-- The examples that are worked by hand.
use Rattle.std.proofs.Common.{rules, ◌≡◌, ◌≢◌, ℕ, ◌<◌, ◌≤◌, inl, ⊎_elim, true, false, List, [], ◌∷◌, ◌++◌, length, map, Option, Some, None, refl, sym, ap, subst, ◌∙◌, arith}
use Rattle.std.specs.Prelude.{codes}
use Rattle.std.proofs.lemmas.Bool.{false≢true}
use Rattle.std.proofs.lemmas.List.Elements.{All-nil}
use Rattle.std.proofs.lemmas.List.Kept.{AllPairs-cons}
use Rattle.ms_logic.specs.declared.formula.Arg.TheVariants as arg
use Rattle.ms_logic.specs.declared.formula.Formula.TheVariants as form
use Rattle.ms_logic.specs.declared.formula.Arg.{the_lemmas}
use Rattle.ms_logic.specs.declared.mode.Mode.TheVariants.{M2lStr, Ws1s}
use Rattle.ms_logic.specs.declared.mode.Order.{Order}
use Rattle.ms_logic.specs.declared.mode.Order.TheVariants.{One, Two}
use Rattle.ms_logic.specs.declared.mode.Quant.TheVariants.{Ex}
use Rattle.ms_logic.specs.declared.mode.Rel.TheVariants.{Equal, Less}
use Rattle.ms_logic.specs.declared.term.Term1.TheVariants as term
use Rattle.ms_logic.specs.declared.term.Term2.TheVariants as set
use Rattle.ms_logic.specs.Assignment.{Variable}
use Rattle.ms_logic_core.specs.Roots.{AreFreeVariables, exports_in}
use Rattle.ms_logic.specs.Tree.{numeral, set_variable, empty_set, whole, pconst, truth, conjunction, comparison, set_comparison, emptiness, quantified, where_let, exported, no_forms, more_forms, unrestricted, Argument, truth_argument, no_arguments, more_arguments}
use Rattle.ms_logic.specs.Truth.{Given}
use Rattle.ms_logic.specs.View.{binding_of, formula_of, problem_of, set_term_of, term_of}
use Rattle.ms_logic.proofs.Views.{formula_of-And, formula_of-Bind-none, formula_of-Compare, formula_of-CompareSets, formula_of-Export, formula_of-IsEmpty, formula_of-Let, formula_of-True, set_term_of-EmptySet, set_term_of-Pconst, set_term_of-Var, set_term_of-Whole, term_of-Number}
use Rattle.ms_names_rules.specs.Numbers as numbers
use Rattle.ms_names_rules.specs.Numbers.{CountUp, IsNumbered, IsWellNumbered, globals_seen, tables_of}
use Rattle.ms_logic.specs.Lists.{Each}
use Rattle.ms_names_rules.specs.Scope.{Bytes}
use Rattle.ms_names_checked.specs.Constants.{HasConstantsInRange, IsInRange}
use Rattle.ms_names_checked.specs.inner.Examples.{binds_two, compares, compares_bits, declares, declares_twice, empty_string, exports_emptiness, exports_in_a_let, exports_twice, lists_a_name_twice, lists_too_little, lists_too_much, orders_sets, reads_a_name_twice, reads_into_one}
use Rattle.ms_names_checked.specs.Exports.{ExportListsFree, HasExportsInPlace, ListsFreeVariables}
use Rattle.ms_names_checked.specs.Names.{AreDifferent, NamesDiffer}
use Rattle.ms_names_checked.specs.Orders.{BindsInOrder, HasOneOrder}
use Rattle.ms_names_checked.specs.Spellings.{HasNames, IsName}
use Rattle.ms_text.specs.declared.keyword.Keyword.{Keyword}
use Rattle.ms_text.specs.declared.keyword.Keyword.TheVariants as words
use Rattle.ms_text.specs.declared.keyword.LeftOutWord.{LeftOutWord}
use Rattle.ms_text.specs.declared.keyword.LeftOutWord.TheVariants as others
use Rattle.ms_text.specs.Spelling.{left_out_spelling, word_spelling}

-- the formulas as trees

exported-true : (i : ℕ) → formula_of (form.Export i form.True) ≡ exported i truth
exported-true i = formula_of-Export i form.True ∙ ap (exported i) formula_of-True

exported-emptiness : formula_of (form.Export 0 (form.IsEmpty (set.Var 0))) ≡ exported 0 (emptiness (set_variable 0))
exported-emptiness = formula_of-Export 0 (form.IsEmpty (set.Var 0)) ∙ ap (exported 0) (formula_of-IsEmpty (set.Var 0) ∙ ap emptiness (set_term_of-Var 0))

bound-true : binding_of (record { variable = 0; value = arg.Zero form.True }) ≡ (0, truth_argument truth)
bound-true = search (rules, the_lemmas)

let-exported : formula_of (form.Let (record { variable = 0; value = arg.Zero form.True } ∷ []) (form.Export 0 form.True))
    ≡ where_let (0 ∷ []) (more_arguments (truth_argument truth) no_arguments) (exported 0 truth)
let-exported =
    formula_of-Let (record { variable = 0; value = arg.Zero form.True } ∷ []) (form.Export 0 form.True)
    ∙ (ap (λ (b : ℕ × Argument). where_let (b.0 ∷ []) (more_arguments b.1 no_arguments) (formula_of (form.Export 0 form.True))) bound-true
    ∙ ap (where_let (0 ∷ []) (more_arguments (truth_argument truth) no_arguments)) (exported-true 0))

bind-true : (o : Order) (x : ℕ) → formula_of (form.Bind Ex o x None form.True) ≡ quantified Ex o x unrestricted truth
bind-true o x = formula_of-Bind-none Ex o x form.True ∙ ap (quantified Ex o x unrestricted) formula_of-True

binds-both : (x y : ℕ) → formula_of (form.And (form.Bind Ex One x None form.True ∷ form.Bind Ex Two y None form.True ∷ []))
    ≡ conjunction (more_forms (quantified Ex One x unrestricted truth) (more_forms (quantified Ex Two y unrestricted truth) no_forms))
binds-both x y =
    formula_of-And (form.Bind Ex One x None form.True ∷ form.Bind Ex Two y None form.True ∷ [])
    ∙ (ap (λ f. conjunction (more_forms f (more_forms (formula_of (form.Bind Ex Two y None form.True)) no_forms))) (bind-true One x)
    ∙ ap (λ f. conjunction (more_forms (quantified Ex One x unrestricted truth) (more_forms f no_forms))) (bind-true Two y))

compared : (n : ℕ) → formula_of (form.Compare Equal (term.Number n) (term.Number 0)) ≡ comparison Equal (numeral n) (numeral 0)
compared n =
    formula_of-Compare Equal (term.Number n) (term.Number 0)
    ∙ (ap (λ t. comparison Equal t (term_of (term.Number 0))) (term_of-Number n) ∙ ap (comparison Equal (numeral n)) (term_of-Number 0))

bits-compared : (n : ℕ) → formula_of (form.CompareSets Equal (set.Pconst n) set.EmptySet) ≡ set_comparison Equal (pconst n) empty_set
bits-compared n =
    formula_of-CompareSets Equal (set.Pconst n) set.EmptySet
    ∙ (ap (λ t. set_comparison Equal t (set_term_of set.EmptySet)) (set_term_of-Pconst n) ∙ ap (set_comparison Equal (pconst n)) set_term_of-EmptySet)

string-empty : formula_of (form.IsEmpty set.Whole) ≡ emptiness whole
string-empty = formula_of-IsEmpty set.Whole ∙ ap emptiness set_term_of-Whole

sets-ordered : formula_of (form.CompareSets Less set.EmptySet set.EmptySet) ≡ set_comparison Less empty_set empty_set
sets-ordered =
    formula_of-CompareSets Less set.EmptySet set.EmptySet
    ∙ (ap (λ t. set_comparison Less t (set_term_of set.EmptySet)) set_term_of-EmptySet ∙ ap (set_comparison Less empty_set) set_term_of-EmptySet)

-- exports

pub lists : ListsFreeVariables exports_emptiness
lists = record {
  in_place = (subst HasExportsInPlace (sym exported-emptiness) tt, tt);
  variables = λ answers long.
      let given = (problem_of exports_emptiness answers).given in
      subst (λ f. Each (ExportListsFree given exports_emptiness.exports) (exports_in f ++ [])) (sym exported-emptiness) (
        (
          record { name = 0; order = Two } ∷ [],
          refl,
          record { rising = (tt, tt); free = λ w. (λ h. ⊎_elim (λ is. is) (λ none. absurd none) h, λ is. inl is) },
        ),
        tt,
      );
}

pub too-much-numbered : IsWellNumbered lists_too_much
too-much-numbered = record {
  predicates = tt;
  globals = (tt, tt);
  formulas = (subst (IsNumbered (tables_of lists_too_much) 0 (globals_seen lists_too_much)) (sym (exported-true 0)) (((((Two, inl refl), tt), (tt, tt), refl), tt)), tt);
  exports = subst (λ f. CountUp 0 (numbers.exports_in f ++ []) 1) (sym (exported-true 0)) (refl, refl);
  no_exports_in_predicates = tt;
  no_exports_in_globals = (refl, tt);
}

-- nothing is free in `true`
none-free : (given : Given) (x : ℕ) (vs : List Variable) → x ∷ [] ≡ map (λ (v : Variable). v.name) vs → AreFreeVariables given truth vs → ⊥
none-free given x [] same are = absurd (cc)
none-free given x (v ∷ vs) same are = (are.free v).0 (inl (refl, refl))

pub too-much : ListsFreeVariables lists_too_much → ⊥
too-much h =
    let given = (problem_of lists_too_much []).given in
    let entry = (subst (λ f. Each (ExportListsFree given lists_too_much.exports) (exports_in f ++ [])) (exported-true 0) (h.variables [] refl)).0 in
    none-free given 0 entry.0 entry.1 entry.2

-- X is free in `empty(X)`
one-free : (given : Given) (vs : List Variable) → [] ≡ map (λ (v : Variable). v.name) vs → AreFreeVariables given (emptiness (set_variable 0)) vs → ⊥
one-free given [] same are = (are.free (record { name = 0; order = Two })).1 (refl, refl)
one-free given (v ∷ vs) same are = absurd (cc)

pub too-little : ListsFreeVariables lists_too_little → ⊥
too-little h =
    let given = (problem_of lists_too_little []).given in
    let entry = (subst (λ f. Each (ExportListsFree given lists_too_little.exports) (exports_in f ++ [])) exported-emptiness (h.variables [] refl)).0 in
    one-free given entry.0 entry.1 entry.2

pub let-numbered : IsWellNumbered exports_in_a_let
let-numbered = record {
  predicates = tt;
  globals = tt;
  formulas = (subst (IsNumbered (tables_of exports_in_a_let) 0 []) (sym let-exported) ((tt, tt), (tt, tt), ((tt, tt, refl), tt)), tt);
  exports = subst (λ f. CountUp 0 (numbers.exports_in f ++ []) 1) (sym let-exported) (refl, refl);
  no_exports_in_predicates = tt;
  no_exports_in_globals = tt;
}

never-none : (x : ℕ) (xs : List ℕ) → x ∷ xs ≡ [] → ⊥
never-none x xs h = cc

pub in-let : ListsFreeVariables exports_in_a_let → ⊥
in-let h = let place = subst HasExportsInPlace let-exported h.in_place.0 in never-none 0 [] place.1

-- names

none-differ : AreDifferent []
none-differ = λ i j d less within. absurd (omega arith)

one-differs : (n : Bytes) → AreDifferent (n ∷ [])
one-differs n = AllPairs-cons (λ k m. k ≢ m) n [] (All-nil (λ m. n ≢ m)) none-differ

twice : (n : Bytes) → AreDifferent (n ∷ n ∷ []) → ⊥
twice n h = h 0 1 n (omega arith) (omega arith) refl

pub names-differ : NamesDiffer exports_emptiness
names-differ = record {
  globals = one-differs (codes "X");
  exports = (one-differs (codes "X"), tt);
  imports = tt;
  imported = tt;
  files = one-differs (codes "a");
}

pub file-twice : NamesDiffer exports_twice → ⊥
file-twice h = twice (codes "a") h.files

pub global-twice : NamesDiffer declares_twice → ⊥
global-twice h = twice (codes "X") h.globals

pub variable-twice : NamesDiffer lists_a_name_twice → ⊥
variable-twice h = twice (codes "X") h.exports.0

pub left-twice : NamesDiffer reads_a_name_twice → ⊥
left-twice h = twice (codes "P") h.imports.0

pub right-twice : NamesDiffer reads_into_one → ⊥
right-twice h = h.imported.0 0 1 0 (omega arith) (omega arith) refl

-- names of the language

word-long : (word : Keyword) → 1 < length (word_spelling word)
word-long words.Ws1s = omega arith
word-long _ = omega arith

left-out-long : (word : LeftOutWord) → 1 < length (left_out_spelling word)
left-out-long others.Ws2s = omega arith
left-out-long _ = omega arith

x-is-short : (n : Bytes) → 1 < length n → codes "X" ≡ n → ⊥
x-is-short n long h = let same : 1 ≡ length n = ap length h in omega (arith, long, same)

x-is-name : IsName (codes "X")
x-is-name = (refl, (λ word. x-is-short (word_spelling word.0) (word-long word.0) word.1), (λ word. x-is-short (left_out_spelling word.0) (left-out-long word.0) word.1))

pub spelled : HasNames exports_emptiness
spelled = record { globals = (x-is-name, tt); exports = ((x-is-name, tt), tt); imports = tt }

pub word-refused : HasNames (declares (codes "where")) → ⊥
word-refused h = h.globals.0.1 (words.Where, refl)

pub nothing-refused : HasNames (declares (codes "")) → ⊥
nothing-refused h = let start : false ≡ true = h.globals.0.0 in false≢true start

-- orders

pub two-numbers : HasOneOrder (binds_two 0 1)
two-numbers = (
  One ∷ Two ∷ [],
  record { globals = tt; predicates = tt; formulas = (subst (BindsInOrder (One ∷ Two ∷ [])) (sym (binds-both 0 1)) ((refl, tt, tt), ((refl, tt, tt), tt)), tt) },
)

one-is-not-two : (found : Option Order) → found ≡ Some One → found ≡ Some Two → ⊥
one-is-not-two found h k = let same : Some One ≡ Some Two = sym h ∙ k in absurd (cc)

pub one-number : HasOneOrder (binds_two 5 5) → ⊥
one-number h = let both = subst (BindsInOrder h.0) (binds-both 5 5) h.1.formulas.0 in one-is-not-two _ both.0.0 both.1.0.0

-- constants

pub greatest : HasConstantsInRange (compares 65535)
greatest = record { globals = tt; predicates = tt; formulas = (subst (IsInRange Ws1s) (sym (compared 65535)) (tt, omega arith, omega arith), tt) }

pub too-large : HasConstantsInRange (compares 65536) → ⊥
too-large h = let there = subst (IsInRange Ws1s) (compared 65536) h.formulas.0 in let le : 65536 ≤ 65535 = there.1 in omega (arith, le)

pub bits : HasConstantsInRange (compares_bits 65536)
bits = record { globals = tt; predicates = tt; formulas = (subst (IsInRange Ws1s) (sym (bits-compared 65536)) (tt, tt, tt), tt) }

pub whole-string : HasConstantsInRange (empty_string M2lStr)
whole-string = record { globals = tt; predicates = tt; formulas = (subst (IsInRange M2lStr) (sym string-empty) tt, tt) }

pub no-string : HasConstantsInRange (empty_string Ws1s) → ⊥
no-string h = subst (IsInRange Ws1s) string-empty h.formulas.0

pub sets-in-order : HasConstantsInRange orders_sets → ⊥
sets-in-order h = let there = subst (IsInRange Ws1s) sets-ordered h.formulas.0 in there.0
