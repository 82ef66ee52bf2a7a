-- A generated source is valid: inclusion is transitive, and a finite set leaves greater numbers free.
use Rattle.std.proofs.Common.{◌≡◌, ◌<◌, ℕ, zero, suc, ◌+◌, ◌==◌, Bool, true, false, ◌⊎◌, inl, inr, ⊎_elim, List, [], ◌∷◌, ◌++◌, map, None, refl, sym, ap, ◌∙◌, subst, arith}
use Rattle.std.specs.List.{list_all}
use Rattle.std.proofs.lemmas.Bool.{false≢true}
use Rattle.std.proofs.lemmas.Bool.Decides.{nat_tests}
use Rattle.ms_list.specs.declared.at.At.{At}
use Rattle.ms_logic.specs.declared.assignment.Value.{Value}
use Rattle.ms_logic.specs.declared.assignment.Value.TheVariants.{Truth, Number, Set}
use Rattle.ms_logic.specs.declared.mode.Order.TheVariants.{One}
use Rattle.ms_logic.specs.declared.mode.Quant.TheVariants.{Ex}
use Rattle.ms_logic.specs.Assignment.{Env, GivesEach, IsValueOf, assign}
use Rattle.ms_logic.specs.FiniteSet.{IsSubset, is_member}
use Rattle.ms_logic.specs.Tree as tree
use Rattle.ms_logic.specs.Tree.{Form, Forms, no_forms, more_forms}
use Rattle.ms_logic.specs.Truth.{AllDefined, AllMet, AllYes, Meanings, NoUnder, SomeNo, YesUnder, meanings_of}
use Rattle.ms_logic.specs.Verdict.{Assigns, IsValid, MainYes, Problem, variables_of}
use Rattle.ms_logic.specs.View.{forms, globals_from, main_question}
use Rattle.ms_logic.specs.Letters.{bound_of_set}
use Rattle.ms_logic.proofs.Consistent.{yes_is_not_no}
use Rattle.ms_logic.proofs.Members.{no_member_from_bound}
use Rattle.ms_logic.proofs.SetLaws.{subset_law}
use Rattle.ms_names_rules.specs.Scope.{Bytes}
use Rattle.ms_gen.proofs.Becoming.{antecedent_form, chain_form, chain_parts, free_form, inclusion, outside_forms}
use Rattle.ms_gen.proofs.Known.{set_names}
use Rattle.ms_gen.proofs.Limits.{formulas-are}
use Rattle.ms_gen.proofs.Pieces.{at}
use Rattle.ms_gen.proofs.Reading.{sets_start}
use Rattle.ms_gen.proofs.Typing.{checked, global_made, x_number}

-- inclusions

subset-same : (s : List ℕ) → IsSubset s s
subset-same s = (subset_law s s).1 (λ n h. h)

subset-further : (s t u : List ℕ) → IsSubset s t → IsSubset t u → IsSubset s u
subset-further s t u h k = (subset_law s u).1 (λ n member. (subset_law t u).0 k n ((subset_law s t).0 h n member))

bool-decided : (b : Bool) → (b ≡ true) ⊎ (b ≡ true → ⊥)
bool-decided true = inl refl
bool-decided false = inr false≢true

subset-decided : (s t : List ℕ) → IsSubset s t ⊎ (¬ IsSubset s t)
subset-decided s t = bool-decided (list_all (λ n. is_member n t) s)

module _ (m : Meanings) (e : Env) where
  yes-push : (fs : List Form) (f : Form) → AllYes m (forms fs) e → YesUnder m f e → AllYes m (forms (fs ++ f ∷ [])) e
  yes-push [] f all one = (one, tt)
  yes-push (g ∷ fs) f all one = (all.0, yes-push fs f all.1 one)

  defined-push : (fs : List Form) (f : Form) → AllDefined m (forms fs) e → (YesUnder m f e ⊎ NoUnder m f e) → AllDefined m (forms (fs ++ f ∷ [])) e
  defined-push [] f all one = (one, tt)
  defined-push (g ∷ fs) f all one = (all.0, defined-push fs f all.1 one)

  no-before : (fs : List Form) (f : Form) → SomeNo m (forms fs) e → SomeNo m (forms (fs ++ f ∷ [])) e
  no-before [] f some = absurd some
  no-before (g ∷ fs) f some = ⊎_elim (λ here. inl here) (λ later. inr (no-before fs f later)) some

  no-last : (fs : List Form) (f : Form) → NoUnder m f e → SomeNo m (forms (fs ++ f ∷ [])) e
  no-last [] f one = inl one
  no-last (g ∷ fs) f one = inr (no-last fs f one)

  -- all of the chain is Yes and the first set is within this one, or some of it is No
  abbrev Decided : ℕ → Type 0
  Decided n = (AllYes m (forms (chain_parts n)) e × IsSubset (e.set 0) (e.set n)) ⊎ SomeNo m (forms (chain_parts n)) e

  next-decided : (n : ℕ) → Decided n → (IsSubset (e.set n) (e.set (n + 1)) ⊎ (¬ IsSubset (e.set n) (e.set (n + 1)))) → Decided (suc n)
  next-decided n before step = ⊎_elim
      (λ yes. ⊎_elim
      (λ within. let one : n + 1 ≡ suc n = omega arith in inl (yes-push (chain_parts n) (inclusion n (n + 1)) yes.0 within, subst (λ k. IsSubset (e.set 0) (e.set k)) one (subset-further (e.set 0) (e.set n) (e.set (n + 1)) yes.1 within)))
      (λ out. inr (no-last (chain_parts n) (inclusion n (n + 1)) out)) step)
      (λ some. inr (no-before (chain_parts n) (inclusion n (n + 1)) some)) before

  decided : (n : ℕ) → Decided n
  decided zero = inl ((tt, tt), subset-same (e.set 0))
  decided (suc n) = next-decided n (decided n) (subset-decided (e.set n) (e.set (n + 1)))

  all-defined : (n : ℕ) → AllDefined m (forms (chain_parts n)) e
  all-defined zero = (inl tt, tt)
  all-defined (suc n) = defined-push (chain_parts n) (inclusion n (n + 1)) (all-defined n) (subset-decided (e.set n) (e.set (n + 1)))

  antecedent-decided : (n : ℕ) → (YesUnder m (antecedent_form n) e × IsSubset (e.set 0) (e.set n)) ⊎ NoUnder m (antecedent_form n) e
  antecedent-decided zero = inl (tt, subset-same (e.set 0))
  antecedent-decided (suc n) = ⊎_elim (λ yes. inl yes) (λ some. inr (all-defined (suc n), some)) (decided (suc n))

  chain-yes : (last : ℕ) → YesUnder m (chain_form last) e
  chain-yes last = ⊎_elim
      (λ yes. (inl yes.0, inl yes.1, inr yes.1))
      (λ no. (inr no, subset-decided (e.set 0) (e.set last), inl no)) (antecedent-decided last)

-- greater numbers

same-number : (n : ℕ) → (n == n) ≡ true
same-number n = grind (arith, nat_tests)

next-number : (n : ℕ) → (n == n + 1) ≡ false
next-number n = grind (arith, nat_tests)

module _ (m : Meanings) (e : Env) (natural : e.universe ≡ None) (x last : ℕ) where
  abbrev inner_form : Form
  inner_form = tree.quantified Ex One (x + 1) tree.unrestricted (tree.conjunction (forms (outside_forms x (x + 1) last)))

  -- y is greater than x and than each member of the last set
  inner-yes : (k : ℕ) → YesUnder m inner_form (assign x (Number k) e)
  inner-yes k =
      let y = k + 1 + bound_of_set (e.set last) in
      let there = assign (x + 1) (Number y) (assign x (Number k) e) in
      let x-is : there.number x ≡ k = rw (next-number x, same-number x) refl in
      let y-is : there.number (x + 1) ≡ y = rw (same-number (x + 1)) refl in
      let less : there.number x < there.number (x + 1) = omega (arith, x-is, y-is) in
      let out : is_member (there.number (x + 1)) (e.set last) ≡ false = ap (λ n. is_member n (e.set last)) y-is ∙ no_member_from_bound (e.set last) y (omega arith) in
      (Number y, (rw natural tt, tt), (rw natural less, (rw natural (λ member. false≢true (sym out ∙ member)), tt)))

  never-no : (v : Value) → IsValueOf One e.universe v × Unit {0} → NoUnder m inner_form (assign x v e) → ⊥
  never-no (Number k) range refused = refused.0 (inner-yes k).0 (inner-yes k).1 (inner-yes k).2
  never-no (Truth b) range refused = absurd range.0
  never-no (Set members) range refused = absurd range.0

  free-yes : YesUnder m (free_form x last) e
  free-yes = (never-no, inl (Number 0, (rw natural tt, tt), inner-yes 0))

-- the source

met : (there : At) (m : Meanings) (e : Env) (x : ℕ) (vs : List (At × Bytes)) → AllMet m (globals_from x (map (global_made there) vs)) e
met there m e x [] = tt
met there m e x (v ∷ vs) = (tt, met there m e (x + 1) vs)

-- all sets empty
abbrev empty_sets : Env
empty_sets = record { universe = None; truth = λ x. false; number = λ x. 0; set = λ x. [] }

gives : (there : At) (x : ℕ) (vs : List (At × Bytes)) → GivesEach (variables_of (globals_from x (map (global_made there) vs))) empty_sets
gives there x [] = tt
gives there x (v ∷ vs) = ((tt, tt), gives there (x + 1) vs)

module _ (last : ℕ) (name : List ℕ) where
  abbrev problem : Problem
  problem = main_question (checked last name) []

  main-yes : (e : Env) → Assigns problem e → MainYes problem e
  main-yes e given =
      let m = meanings_of problem.given in (
        met (at 6) m e 0 (set_names sets_start last),
        subst (λ fs. AllYes m fs e) (sym (formulas-are last name)) (chain-yes m e last, (free-yes m e given.universe (x_number last) last, tt)),
      )

  pub valid : IsValid problem
  valid =
      let some : Assigns problem empty_sets = record { universe = refl; values = gives (at 6) 0 (set_names sets_start last) } in
      ((empty_sets, some, main-yes empty_sets some), λ counter. yes_is_not_no problem.given (tree.conjunction problem.formulas) counter.0 (main-yes counter.0 counter.1).1 counter.2.1)
