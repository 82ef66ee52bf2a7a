-- The spread of a formula whose numbers are in order has imports of the table alone.
use Rattle.std.proofs.Common.{◌≡◌, ℕ, ◌+◌, ◌==◌, ◌<◌, ◌≤◌, Bool, true, false, if◌then◌else◌, List, [], ◌∷◌, ◌++◌, length, Option, Some, None, slice_get, refl, sym, arith}
use Rattle.std.specs.Option.{option_map, IsSomeAnd}
use Rattle.std.proofs.lemmas.Option.{slice_get_within}
use Rattle.ms_logic.specs.declared.checked.ImportUse.{ImportUse}
use Rattle.ms_logic_core.specs.declared.core_formula.Basic.TheVariants as Basic
use Rattle.ms_logic.specs.declared.mode.Order.TheVariants as Order
use Rattle.ms_logic.specs.declared.mode.Order.TheVariants.{Zero}
use Rattle.ms_logic.specs.declared.mode.Rel.{Rel}
use Rattle.ms_logic.specs.declared.mode.Rel.TheVariants.{Equal, Differs, Less, AtMost, Greater, AtLeast, Member, NotMember, Sub}
use Rattle.ms_logic.specs.Assignment.{Variable}
use Rattle.ms_logic_core.specs.CoreForm as core
use Rattle.ms_logic_core.specs.CoreForm.{CoreForm, core_forms}
use Rattle.ms_logic_core.specs.Spread.{Callees, Names, Saying, after_first, callees_of, callees_of_imports, callees_with, callees_with_all, conjunction_of, default_names, first_named, is_member_or_not, named, numbers_and_sets, numbers_relate, restriction_before, restrictions_of, sets_relate, spread_each, spread_number, spread_restriction, spread_set, spread_under, truth_value, truth_values, variable_of_form}
use Rattle.ms_logic.specs.Tree.{Form, truth, falsity, truth_variable, negation, conjunction, disjunction, implication, equivalence, comparison, set_comparison, membership, emptiness, quantified, where_let, call, restrict, imported, exported, default_at, Forms, no_forms, more_forms, Restriction, unrestricted, restricted, truth_argument, number_argument, set_argument, Arguments, no_arguments, more_arguments, Declaration, Predicate}
use Rattle.ms_logic.specs.Truth.{Given}
use Rattle.ms_names_rules.specs.Numbers.{AreNumbered, AreNumberedArguments, AreNumberedParameters, AreNumberedPredicates, ImportSees, IsNumbered, IsNumberedRestriction, Tables, seeing, seeing_all}
use Rattle.ms_logic.specs.Lists.{Each}
use Rattle.ms_dag.specs.Imports.{EachImportsBelow, ImportsBelow, RestrictionImportsBelow}
use Rattle.ms_build_source.proofs.ImportsOfTerms.{number_adds, set_adds}

-- a number that is looked up is below the length
is_below : (P : ImportUse → Type 0) (items : List ImportUse) (i : ℕ) (found : Option ImportUse) → found ≡ slice_get items i → IsSomeAnd found P → i < length items
is_below P items i None is some = absurd some
is_below P items i (Some used) is some = slice_get_within items i used (sym is)

module _ (count : ℕ) where
  -- the imports of each formula of a list are below the count
  abbrev pub AllBelow : List CoreForm → Type 0
  AllBelow fs = EachImportsBelow count (core_forms fs)

  pub joined_below : (fs gs : List CoreForm) → AllBelow fs → AllBelow gs → AllBelow (fs ++ gs)
  joined_below [] gs first second = second
  joined_below (f ∷ fs) gs first second = (first.0, joined_below fs gs first.1 second)

  pub conjunction_below : (fs : List CoreForm) → AllBelow fs → ImportsBelow count (conjunction_of fs)
  conjunction_below [] all = tt
  conjunction_below (f ∷ []) all = all.0
  conjunction_below (f ∷ g ∷ fs) all = all

  numbers_relate_below : (r : Rel) (x y : ℕ) → ImportsBelow count (numbers_relate r x y)
  numbers_relate_below Equal x y = tt
  numbers_relate_below Differs x y = tt
  numbers_relate_below Less x y = tt
  numbers_relate_below AtLeast x y = tt
  numbers_relate_below Greater x y = tt
  numbers_relate_below AtMost x y = tt
  numbers_relate_below Member x y = tt
  numbers_relate_below NotMember x y = tt
  numbers_relate_below Sub x y = tt

  sets_relate_below : (r : Rel) (x y : ℕ) → ImportsBelow count (sets_relate r x y)
  sets_relate_below Equal x y = tt
  sets_relate_below Differs x y = tt
  sets_relate_below Less x y = tt
  sets_relate_below AtLeast x y = tt
  sets_relate_below Greater x y = tt
  sets_relate_below AtMost x y = tt
  sets_relate_below Member x y = tt
  sets_relate_below NotMember x y = tt
  sets_relate_below Sub x y = tt

  member_below : (positive : Bool) (x y : ℕ) → ImportsBelow count (is_member_or_not positive x y)
  member_below true x y = tt
  member_below false x y = tt

  numbers_below : (xs : List ℕ) (args : Arguments) (names inner : Names) (free : ℕ) (Said : Names → ℕ → CoreForm) → ((there : Names) (next : ℕ) → ImportsBelow count (Said there next))
      → ImportsBelow count (numbers_and_sets xs args names inner free Said)
  numbers_below xs no_arguments names inner free Said said = said inner free
  numbers_below xs (more_arguments (truth_argument f) more) names inner free Said said = numbers_below (after_first xs) more names inner free Said said
  numbers_below xs (more_arguments (number_argument t) more) names inner free Said said =
      number_adds count t names free
      (λ next y. numbers_and_sets (after_first xs) more names inner next (λ there last. Said (first_named Order.One xs y there) last))
      (λ next y. numbers_below (after_first xs) more names inner next (λ there last. Said (first_named Order.One xs y there) last) (λ there last. said (first_named Order.One xs y there) last))
  numbers_below xs (more_arguments (set_argument s) more) names inner free Said said =
      set_adds count s names free
      (λ next y. numbers_and_sets (after_first xs) more names inner next (λ there last. Said (first_named Order.Two xs y there) last))
      (λ next y. numbers_below (after_first xs) more names inner next (λ there last. Said (first_named Order.Two xs y there) last) (λ there last. said (first_named Order.Two xs y there) last))

  truth_below : (known : Option ℕ) (f : ℕ → CoreForm) (free : ℕ) (Said : Saying) → ((next : ℕ) → ImportsBelow count (f next)) → ((next y : ℕ) → ImportsBelow count (Said next y))
      → ImportsBelow count (truth_value known f free Said)
  truth_below (Some y) f free Said below said = said free y
  truth_below None f free Said below said = (tt, ((tt, below (free + 1)), (said (free + 1) free, tt)))

  -- so are those of the bodies and the default restrictions
  pub record AreBelow (c : Callees) : Type 0 where
    pub called : (p : ℕ) (names : Names) (free : ℕ) → ImportsBelow count (c.body p names free)
    pub default : (p y : ℕ) (names : Names) (free : ℕ) → ImportsBelow count (c.default p y names free)

-- formulas whose numbers are in order, over some callees; the imports are below a count that is no less than that of the table
module _ (tables : Tables) (count : ℕ) (enough : length tables.imports ≤ count) (c : Callees) (bodies : AreBelow count c) (bound : ℕ) where
  mutual
    pub form_below : (f : Form) (seen : List Variable) (names : Names) (free : ℕ) → IsNumbered tables bound seen f → ImportsBelow count (spread_under c f names free)
    form_below truth seen names free numbered = tt
    form_below falsity seen names free numbered = tt
    form_below (truth_variable y) seen names free numbered = tt
    form_below (negation f) seen names free numbered = form_below f seen names free numbered
    form_below (conjunction fs) seen names free numbered = conjunction_below count (spread_each c fs names free) (each_below fs seen names free numbered)
    form_below (disjunction fs) seen names free numbered = each_below fs seen names free numbered
    form_below (implication f g) seen names free numbered = (form_below f seen names free numbered.0, form_below g seen names free numbered.1)
    form_below (equivalence f g) seen names free numbered = (form_below f seen names free numbered.0, form_below g seen names free numbered.1)
    form_below (comparison r t u) seen names free numbered =
        number_adds count t names free (λ next y. spread_number u names next (λ last z. numbers_relate r y z))
        (λ next y. number_adds count u names next (λ last z. numbers_relate r y z) (λ last z. numbers_relate_below count r y z))
    form_below (set_comparison r s t) seen names free numbered =
        set_adds count s names free (λ next y. spread_set t names next (λ last z. sets_relate r y z))
        (λ next y. set_adds count t names next (λ last z. sets_relate r y z) (λ last z. sets_relate_below count r y z))
    form_below (membership positive t s) seen names free numbered =
        number_adds count t names free (λ next y. spread_set s names next (λ last z. is_member_or_not positive y z))
        (λ next y. set_adds count s names next (λ last z. is_member_or_not positive y z) (λ last z. member_below count positive y z))
    form_below (emptiness s) seen names free numbered = set_adds count s names free (λ next y. core.basic (Basic.Bits y 0)) (λ next y. tt)
    form_below (quantified q o y d f) seen names free numbered = (
      restriction_below d (seeing y o seen) (named o y free names) (free + 1) numbered.1,
      form_below f (seeing y o seen) (named o y free names) (free + 1) numbered.2,
    )
    form_below (where_let ys right_sides f) seen names free numbered =
        numbers_below count ys right_sides names names free
        (λ inner next. truth_values c ys right_sides names inner next (λ there last. spread_under c f there last))
        (λ inner next. truths_below ys right_sides seen names inner next (λ there last. spread_under c f there last) numbered.0
        (λ there last. form_below f (seeing_all ys right_sides seen) there last numbered.2))
    form_below (call p given) seen names free numbered =
        numbers_below count (c.parameters p) given names names free
        (λ inner next. truth_values c (c.parameters p) given names inner next (λ there last. c.body p there last))
        (λ inner next. truths_below (c.parameters p) given seen names inner next (λ there last. c.body p there last) numbered.1
        (λ there last. bodies.called p there last))
    form_below (restrict f) seen names free numbered = form_below f seen names free numbered
    form_below (imported i) seen names free numbered =
        let less : i < length tables.imports = is_below (ImportSees seen) tables.imports i (slice_get tables.imports i) refl numbered in omega (arith, less, enough)
    form_below (exported i f) seen names free numbered = form_below f seen names free numbered.1
    form_below (default_at p y) seen names free numbered = bodies.default p y names free

    pub each_below : (fs : Forms) (seen : List Variable) (names : Names) (free : ℕ) → AreNumbered tables bound seen fs → AllBelow count (spread_each c fs names free)
    each_below no_forms seen names free numbered = tt
    each_below (more_forms f fs) seen names free numbered = (form_below f seen names free numbered.0, each_below fs seen names free numbered.1)

    restriction_below : (d : Restriction) (seen : List Variable) (names : Names) (free : ℕ) → IsNumberedRestriction tables bound seen d
        → RestrictionImportsBelow count (spread_restriction c d names free)
    restriction_below unrestricted seen names free numbered = tt
    restriction_below (restricted d) seen names free numbered = form_below d seen names free numbered

    truths_below : (xs : List ℕ) (args : Arguments) (seen : List Variable) (names inner : Names) (free : ℕ) (Said : Names → ℕ → CoreForm) → AreNumberedArguments tables bound seen args
        → ((there : Names) (next : ℕ) → ImportsBelow count (Said there next)) → ImportsBelow count (truth_values c xs args names inner free Said)
    truths_below xs no_arguments seen names inner free Said numbered said = said inner free
    truths_below xs (more_arguments (truth_argument f) more) seen names inner free Said numbered said =
        truth_below count (option_map (names Zero) (variable_of_form f)) (spread_under c f names) free
        (λ next y. truth_values c (after_first xs) more names inner next (λ there last. Said (first_named Zero xs y there) last))
        (λ next. form_below f seen names next numbered.0)
        (λ next y. truths_below (after_first xs) more seen names inner next (λ there last. Said (first_named Zero xs y there) last) numbered.1 (λ there last. said (first_named Zero xs y there) last))
    truths_below xs (more_arguments (number_argument t) more) seen names inner free Said numbered said = truths_below (after_first xs) more seen names inner free Said numbered.1 said
    truths_below xs (more_arguments (set_argument s) more) seen names inner free Said numbered said = truths_below (after_first xs) more seen names inner free Said numbered.1 said

  before_below : (d : Restriction) (seen : List Variable) (names : Names) (free : ℕ) (others : List CoreForm) → IsNumberedRestriction tables bound seen d → AllBelow count others
      → AllBelow count (restriction_before c d names free others)
  before_below unrestricted seen names free others numbered rest = rest
  before_below (restricted d) seen names free others numbered rest = (form_below d seen names free numbered, rest)

  -- restrictions of globals, which see all of them
  pub globals_below : (ds : List Declaration) (seen : List Variable) (names : Names) (free : ℕ) → Each (λ d. IsNumberedRestriction tables bound seen d.restriction) ds
      → AllBelow count (restrictions_of c ds names free)
  globals_below [] seen names free each = tt
  globals_below (d ∷ ds) seen names free each = before_below d.restriction seen names free (restrictions_of c ds names free) each.0 (globals_below ds seen names free each.1)

  -- and those of parameters, with the body
  pub parameters_below : (ds : List Declaration) (body : Form) (seen : List Variable) (names : Names) (free : ℕ) → AreNumberedParameters tables bound seen ds body
      → AllBelow count (restrictions_of c ds names free) × ((there : Names) (next : ℕ) → ImportsBelow count (spread_under c body there next))
  parameters_below [] body seen names free numbered = (tt, λ there next. form_below body seen there next numbered)
  parameters_below (d ∷ ds) body seen names free numbered =
      let rest = parameters_below ds body (seeing d.variable.name d.variable.order seen) names free numbered.2 in
      (before_below d.restriction (seeing d.variable.name d.variable.order seen) names free (restrictions_of c ds names free) numbered.1 rest.0, rest.1)

  with_below : (number : ℕ) (q : Predicate) (seen : List Variable) → AreNumberedParameters tables bound seen q.parameters q.body → AreBelow count (callees_with c number q)
  with_below number q seen numbered = record {
    called = λ p names free.
        let own : ImportsBelow count (conjunction_of (restrictions_of c q.parameters names free ++ spread_under c q.body names free ∷ [])) =
        let parts = parameters_below q.parameters q.body seen names free numbered in
        conjunction_below count (restrictions_of c q.parameters names free ++ spread_under c q.body names free ∷ [])
        (joined_below count (restrictions_of c q.parameters names free) (spread_under c q.body names free ∷ []) parts.0 (parts.1 names free, tt)) in
        elim (p == number) as (λ b.
        ImportsBelow count ((if b then (λ there next. conjunction_of (restrictions_of c q.parameters there next ++ spread_under c q.body there next ∷ [])) else c.body p) names free)) [
          | true ↦ own
          | false ↦ bodies.called p names free
        ];
    default = λ p y names free.
        elim (p == number) as (λ b.
        ImportsBelow count ((if b then (λ z there next. spread_under c q.body (default_names q.parameters z there) next) else c.default p) y names free)) [
          | true ↦ (parameters_below q.parameters q.body seen names free numbered).1 (default_names q.parameters y names) free
          | false ↦ bodies.default p y names free
        ];
  }

all_below : (tables : Tables) (c : Callees) (number : ℕ) (ps : List Predicate) (seen : List Variable) → AreBelow (length tables.imports) c → AreNumberedPredicates tables number seen ps
    → AreBelow (length tables.imports) (callees_with_all c number ps)
all_below tables c number [] seen bodies numbered = bodies
all_below tables c number (p ∷ ps) seen bodies numbered =
    all_below tables (callees_with c number p) (number + 1) ps seen (with_below tables (length tables.imports) (omega arith) c bodies number number p seen numbered.0) numbered.1

pub given_below : (tables : Tables) (given : Given) (seen : List Variable) → AreNumberedPredicates tables 0 seen given.predicates → AreBelow (length tables.imports) (callees_of given)
given_below tables given seen numbered = all_below tables (callees_of_imports given.imports) 0 given.predicates seen (record {
  called = λ p names free. tt;
  default = λ p y names free. tt;
}) numbered
