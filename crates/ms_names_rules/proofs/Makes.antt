-- Where nothing is wrong with a declaration, it gives typed trees.
use Rattle.std.proofs.Common.{◌≡◌, ℕ, ◌+◌, Bool, true, false, if◌then◌else◌, List, [], ◌∷◌, ◌++◌, Some, None, refl, sym, subst, ◌∙◌}
use Rattle.std.specs.Prelude.{flat_map}
use Rattle.std.specs.Option.{IsSome}
use Rattle.ms_logic.specs.declared.mode.Order.{Order}
use Rattle.ms_names_rules.specs.declared.fault.Fault.{Fault}
use Rattle.ms_names_rules.specs.declared.meaning.Meaning.TheVariants.{Variable}
use Rattle.ms_names_rules.specs.Scope.{Bytes, Scope, bind, count_of_bounds, under_bounds, without_exports}
use Rattle.ms_parse_grammar.specs.Tree.{Expression, Variables, no_variables, and_variable, Domain, unrestricted, restricted, Declaration}
use Rattle.ms_names_rules.specs.Before.{Before, with_names, after_bounds}
use Rattle.ms_names_rules.specs.inner.Binder.{restricted_variables, restriction_in, predicate_with}
use Rattle.ms_names_rules.specs.Declarations.{Known, exports_in, faults_in, faults_of_declaration, faults_of_title, occurrences_in, occurrences_in_default, occurrences_in_predicate, title_in}
use Rattle.ms_names_rules.specs.Fault.{comes_before, first_fault, first_with}
use Rattle.ms_names_rules.specs.Order.{formula_wanted}
use Rattle.ms_names_rules.specs.Occurrence.{occurrences, inside_bounds, inside_domain}
use Rattle.ms_names_rules.specs.Rules.{faults_at, faults_of_exports}
use Rattle.ms_names_rules.specs.Typed.{formula_in, typed}
use Rattle.ms_names_rules.specs.TypedSource.{parameters_of_bounds, typed_default, typed_predicate}
use Rattle.ms_names_rules.proofs.Declaring.{restricted-same}
use Rattle.ms_names_rules.proofs.Exports.{typed-same, under_bounds-same}
use Rattle.ms_names_rules.proofs.Lists.{parameters-all}
use Rattle.ms_names_rules.proofs.Orders.{AreRight, back-empty, domain-all, formula-here, front-empty, ordered, right-back, right-front, some-both, some-map}

-- where there is no first fault there is none

first-some : (f : Fault) (fs : List Fault) → first_with (Some f) fs ≡ None → ⊥
first-some f [] e = cc
first-some f (g ∷ fs) e =
    elim (comes_before g f) as (λ b. first_with (if b then Some g else Some f) fs ≡ None → ⊥) [ true ↦ first-some g fs | false ↦ first-some f fs ] e

no-fault : (fs : List Fault) → first_fault fs ≡ None → fs ≡ []
no-fault [] e = refl
no-fault (f ∷ fs) e = absurd (first-some f fs e)

-- declarations

restriction-all : (takes_defaults : Bool) (s : Scope) (b : Before) (o : Order) (x : ℕ) (d : Domain) → AreRight (inside_domain (without_exports s) b d) →
    IsSome (restriction_in takes_defaults s b o x d)
restriction-all true s b o x d h = domain-all s b o x d h
restriction-all false s b o x unrestricted h = refl
restriction-all false s b o x (restricted e) h = domain-all s b o x (restricted e) h

pub restricted-all : (takes_defaults : Bool) (s : Scope) (x : ℕ) (b : Before) (vs : Variables) → AreRight (inside_bounds s x b vs) →
    IsSome (restricted_variables takes_defaults s x b vs)
restricted-all takes_defaults s x b no_variables h = refl
restricted-all takes_defaults s x b (and_variable vs at o n d) h =
    let y = x + count_of_bounds vs in
    let end = after_bounds b vs in
    let inner = under_bounds s x (and_variable vs at o n d) in
    let before = inside_bounds s x b vs in
    let here = inside_domain (without_exports inner) end d in
    some-both _ (restricted_variables takes_defaults s x b vs) (restriction_in takes_defaults inner end o y d)
    (restricted-all takes_defaults s x b vs (right-front before here h)) (restriction-all takes_defaults inner end o y d (right-back before here h))

pub predicate-all : (s : Scope) (b : Before) (vs : Variables) (e : Expression) → AreRight (occurrences_in_predicate s b vs e) → IsSome (typed_predicate s b vs e)
predicate-all s b vs e h =
    let here = with_names b (count_of_bounds vs) in
    let outer = without_exports s in
    let inner = under_bounds outer b.next vs in
    let before = inside_bounds outer b.next here vs in
    let within = occurrences inner (after_bounds here vs) formula_wanted e in
    let own : restricted_variables false outer b.next here vs ≡ parameters_of_bounds s b.next here vs =
    restricted-same false outer s b.next here vs refl ∙ sym (parameters-all s b.next here vs) in
    some-both predicate_with (parameters_of_bounds s b.next here vs) (formula_in (typed (under_bounds s b.next vs) (after_bounds here vs) e))
    (subst (λ ps. IsSome ps) own (restricted-all false outer b.next here vs (right-front before within h)))
    (subst (λ a. IsSome (formula_in a)) (typed-same inner (under_bounds s b.next vs) (after_bounds here vs) e (under_bounds-same outer s b.next vs refl))
    (formula-here inner (after_bounds here vs) e (ordered inner (after_bounds here vs) e) (right-back before within h)))

pub default-all : (s : Scope) (b : Before) (o : Order) (n : Bytes) (e : Expression) → AreRight (occurrences_in_default s b o n e) → IsSome (typed_default s b o n e)
default-all s b o n e h =
    let inner = bind n (Variable b.next o) (without_exports s) in
    let plain = bind n (Variable b.next o) s in
    some-map _ (formula_in (typed plain (with_names b 1) e))
    (subst (λ a. IsSome (formula_in a)) (typed-same inner plain (with_names b 1) e refl)
    (formula-here inner (with_names b 1) e (ordered inner (with_names b 1) e) h))

-- nothing is wrong with the expressions of a declaration that has no first fault
pub right-there : (k : Known) (d : Declaration) → first_fault (faults_in k d) ≡ None → AreRight (occurrences_in k d)
right-there k d e =
    let others = flat_map faults_at (occurrences_in k d) in
    let last = faults_of_exports k.files (exports_in k d) in
    let own = faults_of_declaration k d ++ (others ++ last) in
    let empty : faults_of_title k.titles (title_in d) ++ own ≡ [] = no-fault (faults_in k d) e in
    front-empty others last (back-empty (faults_of_declaration k d) (others ++ last) (back-empty (faults_of_title k.titles (title_in d)) own empty))
