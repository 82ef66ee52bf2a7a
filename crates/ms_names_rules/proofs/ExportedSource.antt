-- The exports of a checked source count up through its formulas, and stand nowhere else.
use Rattle.std.proofs.Common.{◌≡◌, ℕ, ◌+◌, Bool, ◌≤◌, List, [], ◌∷◌, ◌++◌, length, Option, Some, None, refl, sym, subst, ◌∙◌, arith, add-zero, length-append, ap, append_assoc}
use Rattle.std.specs.Prelude.{flat_map}
use Rattle.ms_list.specs.declared.at.At.{At}
use Rattle.ms_logic.specs.declared.mode.Order.{Order}
use Rattle.ms_logic.specs.Tree as tree
use Rattle.ms_names_rules.specs.declared.fault.Fault.{Fault}
use Rattle.ms_names_rules.specs.declared.meaning.Meaning.TheVariants as meaning
use Rattle.ms_names_rules.specs.Scope.{Bytes, Scope, bind, count_of_bounds, under_bounds, without_exports}
use Rattle.ms_parse_grammar.specs.Tree.{Expression, Variables, no_variables, and_variable, Domain, unrestricted, restricted, Declaration, variables, constant, predicate, included, default_restriction, formula, goal, Declared}
use Rattle.ms_names_rules.specs.Declarations.{Known, after_declaration, before_after, faults_in, first_fault_from, occurrences_in, or_later}
use Rattle.ms_names_rules.specs.Before.{Before, with_names, after, after_bounds, after_domain}
use Rattle.ms_names_rules.specs.inner.Binder.{predicate_with, restricted_variable}
use Rattle.ms_names_rules.specs.Fault.{first_fault}
use Rattle.ms_names_rules.specs.Numbers.{CountUp, exports_in, exports_in_parameters, exports_in_predicate, exports_in_restriction}
use Rattle.ms_logic.specs.Lists.{Each}
use Rattle.ms_names_rules.specs.Order.{formula_wanted}
use Rattle.ms_names_rules.specs.Occurrence.{occurrences, inside_bounds, inside_domain}
use Rattle.ms_names_rules.specs.Typed.{formula_in, typed, typed_domain}
use Rattle.ms_names_rules.specs.TypedSource.{TypedFormula, TypedGlobal, collected, formulas_of, globals_of, globals_of_bounds, parameters_of_bounds, predicates_of, restriction_of_parameter, typed_default, typed_predicate}
use Rattle.ms_names_rules.specs.Uses.{export_at}
use Rattle.ms_names_rules.proofs.ExportNumbers.{FormCounts, count-append, domain-count, exports-count, formula-counts}
use Rattle.ms_names_rules.proofs.Fitting.{If, each-append, if-one, if-weaker}
use Rattle.ms_names_rules.proofs.Makes.{right-there}
use Rattle.ms_names_rules.proofs.NoExports.{allowed-bounds, bounds-none, domain-none, none-exported}
use Rattle.ms_names_rules.proofs.NumberedDeclarations.{counts-declaration}
use Rattle.ms_names_rules.proofs.Numbering.{if-two}
use Rattle.ms_names_rules.proofs.Orders.{AreRight, right-back, right-front}
use Rattle.ms_names_rules.proofs.Standing.{counted}
use Rattle.std.proofs.lemmas.List.{append-nil}

-- numbers that count up to where they begin are none

count-grows : (n m : ℕ) (xs : List ℕ) → CountUp n xs m → n ≤ m
count-grows n m [] h = omega arith
count-grows n m (x ∷ xs) h = let rest = count-grows (n + 1) m xs h.1 in omega arith

count-none : (n m : ℕ) (xs : List ℕ) → m ≡ n → CountUp n xs m → xs ≡ []
count-none n m [] same h = refl
count-none n m (x ∷ xs) same h = let rest = count-grows (n + 1) m xs h.1 in absurd (omega arith)

-- globals

bounds-empty : (at : At) (item : ℕ) (s : Scope) (x : ℕ) (b : Before) (vs : Variables) → AreRight (inside_bounds s x b vs) →
    Each (If (λ (g : TypedGlobal). exports_in_restriction g.restriction ≡ [])) (globals_of_bounds at item s x b vs)
bounds-empty at item s x b no_variables h = tt
bounds-empty at item s x b (and_variable vs name_at o n d) h =
    let y = x + count_of_bounds vs in
    let begin = after_bounds b vs in
    let inner = under_bounds s x (and_variable vs name_at o n d) in
    let before = inside_bounds s x b vs in
    let here = inside_domain (without_exports inner) begin d in
    let same = domain-none (without_exports inner) begin d refl (right-back before here h) in
    each-append (If (λ (g : TypedGlobal). exports_in_restriction g.restriction ≡ [])) (globals_of_bounds at item s x b vs) _ (bounds-empty at item s x b vs (right-front before here h)) (
      if-one (λ r. CountUp begin.exports (exports_in_restriction r) (after_domain begin d).exports) (λ (g : TypedGlobal). exports_in_restriction g.restriction ≡ [])
          (λ restriction. record { at = at; item = item; order = o; name = n; restriction = restriction }) (typed_domain inner begin o y d)
          (λ r k. count-none begin.exports (after_domain begin d).exports (exports_in_restriction r) same k) (domain-count inner begin o y d),
      tt,
    )

globals-empty : (k : Known) (at : At) (item : ℕ) (d : Declaration) → AreRight (occurrences_in k d) →
    Each (If (λ (g : TypedGlobal). exports_in_restriction g.restriction ≡ [])) (globals_of k at item d)
globals-empty k at item (variables vs) h = bounds-empty at item k.scope k.globals k.before vs h
globals-empty k at item (constant name_at n is) h = tt
globals-empty k at item (predicate is_pred name_at n vs e) h = tt
globals-empty k at item (included text_at file) h = tt
globals-empty k at item (default_restriction o n e) h = tt
globals-empty k at item (formula e) h = tt
globals-empty k at item (goal name_at title e) h = tt

-- predicates

parameter-counts : (s : Scope) (b : Before) (d : Domain) → If (λ r. CountUp b.exports (exports_in_restriction r) (after_domain b d).exports) (restriction_of_parameter s b d)
parameter-counts s b unrestricted = refl
parameter-counts s b (restricted e) =
    if-one (FormCounts b.exports (after b e).exports) (λ r. CountUp b.exports (exports_in_restriction r) (after b e).exports) (λ f. tree.restricted f) (formula_in (typed s b e)) (λ f h. h)
    (formula-counts b.exports (after b e).exports (typed s b e) (exports-count s b e))

parameter-exports-behind : (ps : List tree.Declaration) (v : tree.Declaration) → exports_in_parameters (ps ++ v ∷ []) ≡ exports_in_parameters ps ++ exports_in_restriction v.restriction
parameter-exports-behind [] v = append-nil (exports_in_restriction v.restriction)
parameter-exports-behind (first ∷ ps) v =
    ap (λ xs. exports_in_restriction first.restriction ++ xs) (parameter-exports-behind ps v)
    ∙ sym (append_assoc (exports_in_restriction first.restriction) (exports_in_parameters ps) (exports_in_restriction v.restriction))

parameters-count : (s : Scope) (x : ℕ) (b : Before) (vs : Variables) → If (λ ps. CountUp b.exports (exports_in_parameters ps) (after_bounds b vs).exports) (parameters_of_bounds s x b vs)
parameters-count s x b no_variables = refl
parameters-count s x b (and_variable vs at o n d) =
    let y = x + count_of_bounds vs in
    let inner = under_bounds s x (and_variable vs at o n d) in
    let next = after_bounds b vs in
    let end = after_domain next d in
    if-two (λ ps. CountUp b.exports (exports_in_parameters ps) next.exports) (λ r. CountUp next.exports (exports_in_restriction r) end.exports)
    (λ ps. CountUp b.exports (exports_in_parameters ps) end.exports) (λ earlier r. earlier ++ restricted_variable y o r ∷ [])
    (parameters_of_bounds s x b vs) (restriction_of_parameter inner next d)
    (λ ps r h k. subst (λ xs. CountUp b.exports xs end.exports) (sym (parameter-exports-behind ps (restricted_variable y o r)))
    (count-append b.exports next.exports end.exports (exports_in_parameters ps) (exports_in_restriction r) h k))
    (parameters-count s x b vs) (parameter-counts inner next d)

predicate-counts : (s : Scope) (b : Before) (vs : Variables) (e : Expression) →
    If (λ p. CountUp b.exports (exports_in_predicate p) (after (after_bounds (with_names b (count_of_bounds vs)) vs) e).exports) (typed_predicate s b vs e)
predicate-counts s b vs e =
    let here = with_names b (count_of_bounds vs) in
    let end = after_bounds here vs in
    let last = after end e in
    let body = typed (under_bounds s b.next vs) end e in
    if-two (λ ps. CountUp b.exports (exports_in_parameters ps) end.exports) (FormCounts end.exports last.exports) (λ p. CountUp b.exports (exports_in_predicate p) last.exports)
    predicate_with (parameters_of_bounds s b.next here vs) (formula_in body)
    (λ ps f h k. count-append b.exports end.exports last.exports (exports_in_parameters ps) (exports_in f) h k)
    (parameters-count s b.next here vs) (formula-counts end.exports last.exports body (exports-count (under_bounds s b.next vs) end e))

default-counts : (s : Scope) (b : Before) (o : Order) (n : Bytes) (e : Expression) →
    If (λ p. CountUp b.exports (exports_in_predicate p) (after (with_names b 1) e).exports) (typed_default s b o n e)
default-counts s b o n e =
    let here = with_names b 1 in
    let inner = bind n (meaning.Variable b.next o) s in
    if-one (FormCounts b.exports (after here e).exports) (λ p. CountUp b.exports (exports_in_predicate p) (after here e).exports)
    (predicate_with (record { variable = record { name = b.next; order = o }; restriction = tree.unrestricted } ∷ [])) (formula_in (typed inner here e)) (λ f h. h)
    (formula-counts b.exports (after here e).exports (typed inner here e) (exports-count inner here e))

-- a declaration without a fault that is no formula has no exports

predicate-none : (k : Known) (is_pred : Bool) (at : At) (n : Bytes) (vs : Variables) (e : Expression) → AreRight (occurrences_in k (predicate is_pred at n vs e)) →
    (before_after k.before (predicate is_pred at n vs e)).exports ≡ k.before.exports
predicate-none k is_pred at n vs e h =
    let b = k.before in
    let here = with_names b (count_of_bounds vs) in
    let end = after_bounds here vs in
    let outer = without_exports k.scope in
    let inner = under_bounds outer b.next vs in
    let before = inside_bounds outer b.next here vs in
    let within = occurrences inner end formula_wanted e in
    none-exported inner end formula_wanted e (allowed-bounds outer b.next vs) (right-back before within h) ∙ bounds-none outer b.next here vs (right-front before within h)

default-none : (k : Known) (o : Order) (n : Bytes) (e : Expression) → AreRight (occurrences_in k (default_restriction o n e)) →
    (before_after k.before (default_restriction o n e)).exports ≡ k.before.exports
default-none k o n e h =
    none-exported (bind n (meaning.Variable k.before.next o) (without_exports k.scope)) (with_names k.before 1) formula_wanted e refl h

predicates-empty : (k : Known) (d : Declaration) → AreRight (occurrences_in k d) → Each (If (λ p. exports_in_predicate p ≡ [])) (predicates_of k d)
predicates-empty k (variables vs) h = tt
predicates-empty k (constant at n is) h = tt
predicates-empty k (predicate is_pred at n vs e) h =
    let b = k.before in
    let end = before_after b (predicate is_pred at n vs e) in (
      if-weaker (λ p. CountUp b.exports (exports_in_predicate p) end.exports) (λ p. exports_in_predicate p ≡ []) (typed_predicate k.scope b vs e)
          (λ p c. count-none b.exports end.exports (exports_in_predicate p) (predicate-none k is_pred at n vs e h) c) (predicate-counts k.scope b vs e),
      tt,
    )
predicates-empty k (included text_at file) h = tt
predicates-empty k (default_restriction o n e) h =
    let b = k.before in
    let end = before_after b (default_restriction o n e) in (
      if-weaker (λ p. CountUp b.exports (exports_in_predicate p) end.exports) (λ p. exports_in_predicate p ≡ []) (typed_default k.scope b o n e)
          (λ p c. count-none b.exports end.exports (exports_in_predicate p) (default-none k o n e h) c) (default-counts k.scope b o n e),
      tt,
    )
predicates-empty k (formula e) h = tt
predicates-empty k (goal name_at title e) h = tt

-- formulas

-- the exports of some formulas count up
abbrev pub FormulasCount : ℕ → List (Option TypedFormula) → ℕ → Type 0
FormulasCount n [] m = n ≡ m
FormulasCount n (found ∷ more) m = (l : ℕ) × If (λ (f : TypedFormula). CountUp n (exports_in f.formula) l) found × FormulasCount l more m

formulas-count : (k : Known) (at : At) (item : ℕ) (d : Declaration) (more : List (Option TypedFormula)) (m : ℕ) → AreRight (occurrences_in k d) →
    FormulasCount (before_after k.before d).exports more m → FormulasCount k.before.exports (formulas_of k at item d ++ more) m
formulas-count k at item (variables vs) more m h rest =
    subst (λ n. FormulasCount n more m) (bounds-none k.scope k.globals k.before vs h) rest
formulas-count k at item (constant name_at n is) more m h rest = rest
formulas-count k at item (predicate is_pred name_at n vs e) more m h rest = subst (λ l. FormulasCount l more m) (predicate-none k is_pred name_at n vs e h) rest
formulas-count k at item (included text_at file) more m h rest = rest
formulas-count k at item (default_restriction o n e) more m h rest = subst (λ l. FormulasCount l more m) (default-none k o n e h) rest
formulas-count k at item (formula e) more m h rest =
    let b = k.before in (
      (after b e).exports,
      if-one (FormCounts b.exports (after b e).exports) (λ (f : TypedFormula). CountUp b.exports (exports_in f.formula) (after b e).exports)
          (λ form. record { at = at; item = item; title = None; formula = form }) (formula_in (typed k.scope b e)) (λ f j. j)
          (formula-counts b.exports (after b e).exports (typed k.scope b e) (exports-count k.scope b e)),
      rest,
    )
formulas-count k at item (goal name_at title e) more m h rest =
    let b = k.before in (
      (after b e).exports,
      if-one (FormCounts b.exports (after b e).exports) (λ (f : TypedFormula). CountUp b.exports (exports_in f.formula) (after b e).exports)
          (λ form. record { at = at; item = item; title = Some title; formula = form }) (formula_in (typed k.scope b e)) (λ f j. j)
          (formula-counts b.exports (after b e).exports (typed k.scope b e) (exports-count k.scope b e)),
      rest,
    )

-- the rest of a source without faults

or_later-both : (o later : Option Fault) → or_later o later ≡ None → (o ≡ None) × (later ≡ None)
or_later-both None later e = (refl, e)
or_later-both (Some f) later e = absurd (cc)

pub record Exported (k : Known) (item : ℕ) (ds : List Declared) : Type 0 where
  pub globals_are : Each (If (λ (g : TypedGlobal). exports_in_restriction g.restriction ≡ [])) (collected (λ k item d. globals_of k d.at item d.declaration) k item ds)
  pub predicates_are : Each (If (λ p. exports_in_predicate p ≡ [])) (collected (λ k item d. predicates_of k d.declaration) k item ds)
  pub formulas_are : FormulasCount k.before.exports (collected (λ k item d. formulas_of k d.at item d.declaration) k item ds)
      (k.before.exports + length (collected (λ k item d. flat_map export_at (occurrences_in k d.declaration)) k item ds))

pub exported-rest : (k : Known) (item : ℕ) (ds : List Declared) → first_fault_from k ds ≡ None → Exported k item ds
exported-rest k item [] right = record { globals_are = tt; predicates_are = tt; formulas_are = sym (add-zero k.before.exports) }
exported-rest k item (d ∷ ds) right =
    let next = after_declaration k d.declaration in
    let both = or_later-both (first_fault (faults_in k d.declaration)) (first_fault_from next ds) right in
    let here = right-there k d.declaration both.0 in
    let rest = exported-rest next (item + 1) ds both.1 in
    let more = collected (λ k item d. flat_map export_at (occurrences_in k d.declaration)) next (item + 1) ds in
    let uses = (counted k.before next.before (occurrences_in k d.declaration) (counts-declaration k d.declaration)).1 in
    let long = length-append (flat_map export_at (occurrences_in k d.declaration)) more in
    let same : next.before.exports + length more ≡ k.before.exports + length (flat_map export_at (occurrences_in k d.declaration) ++ more) = omega (arith, uses, long) in
    let formulas = collected (λ k item d. formulas_of k d.at item d.declaration) next (item + 1) ds in
    record {
      globals_are = each-append (If (λ (g : TypedGlobal). exports_in_restriction g.restriction ≡ [])) (globals_of k d.at item d.declaration)
          (collected (λ k item d. globals_of k d.at item d.declaration) next (item + 1) ds) (globals-empty k d.at item d.declaration here) rest.globals_are;
      predicates_are = each-append (If (λ p. exports_in_predicate p ≡ [])) (predicates_of k d.declaration)
          (collected (λ k item d. predicates_of k d.declaration) next (item + 1) ds) (predicates-empty k d.declaration here) rest.predicates_are;
      formulas_are = formulas-count k d.at item d.declaration formulas (k.before.exports + length (flat_map export_at (occurrences_in k d.declaration) ++ more)) here
          (subst (λ m. FormulasCount next.before.exports formulas m) same rest.formulas_are);
    }
