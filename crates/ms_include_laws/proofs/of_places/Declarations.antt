-- What holds of each place of a declaration holds of those of the expressions in it.
use Rattle.std.proofs.Common.{List, [], ◌∷◌, map}
use Rattle.ms_list.specs.declared.at.At.{At}
use Rattle.ms_logic.specs.declared.source.Item.{Item}
use Rattle.ms_names_rules.specs.declared.meaning.Meaning.TheVariants as meaning
use Rattle.ms_parse_grammar.specs.Tree.{Declaration, variables, constant, predicate, included, default_restriction, formula, goal}
use Rattle.ms_names_rules.specs.Declarations.{Known, occurrences_in}
use Rattle.ms_names_rules.specs.Before.{with_names, after_bounds}
use Rattle.ms_logic.specs.Lists.{Each}
use Rattle.ms_names_rules.specs.Order.{formula_wanted}
use Rattle.ms_names_rules.specs.Occurrence.{inside_bounds, occurrences}
use Rattle.ms_names_rules.specs.Scope.{bind, count_of_bounds, under_bounds, without_exports}
use Rattle.ms_parse_grammar.specs.View.{declared_of}
use Rattle.ms_names_rules.proofs.Fitting.{each-append}
use Rattle.ms_include_laws.specs.inner.places.Places.{EachPlaceInDeclaration, EachPlaceInItem, EachPlaceInDeclared}
use Rattle.ms_include_laws.proofs.of_places.Occurrences.{StandsAt, bounds-stand, stand-at}

module _ (P : At → Type 0) where
  pub items-at : (items : List Item) → Each (EachPlaceInItem P) items → Each (EachPlaceInDeclared P) (map declared_of items)
  items-at [] h = tt
  items-at (item ∷ more) h = (h.0, items-at more h.1)

  pub items-placed : (items : List Item) → Each (EachPlaceInDeclared P) (map declared_of items) → Each (EachPlaceInItem P) items
  items-placed [] h = tt
  items-placed (item ∷ more) h = (h.0, items-placed more h.1)

  -- the expressions of a declaration
  pub occurrences-stand : (k : Known) (d : Declaration) → EachPlaceInDeclaration P d → Each (StandsAt P) (occurrences_in k d)
  occurrences-stand k (variables vs) h = bounds-stand P k.scope k.globals k.before vs h
  occurrences-stand k (constant at n is) h = tt
  occurrences-stand k (predicate is_pred at n vs e) h =
      let b = k.before in
      let here = with_names b (count_of_bounds vs) in
      let outer = without_exports k.scope in
      let inner = under_bounds outer b.next vs in
      each-append (StandsAt P) (inside_bounds outer b.next here vs) (occurrences inner (after_bounds here vs) formula_wanted e) (bounds-stand P outer b.next here vs h.1)
      (stand-at P inner (after_bounds here vs) formula_wanted e h.2)
  occurrences-stand k (included at file) h = tt
  occurrences-stand k (default_restriction o n e) h = stand-at P (bind n (meaning.Variable k.before.next o) (without_exports k.scope)) (with_names k.before 1) formula_wanted e h
  occurrences-stand k (formula e) h = stand-at P k.scope k.before formula_wanted e h
  occurrences-stand k (goal at title e) h = stand-at P k.scope k.before formula_wanted e h.1
