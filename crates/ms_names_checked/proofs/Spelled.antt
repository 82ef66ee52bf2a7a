-- What an expression exports and imports has names of the language, where what it binds and what is bound round it has.
use Rattle.std.proofs.Common.{ℕ, List, [], ◌∷◌, map, Option, Some, None, slice_get}
use Rattle.ms_list.specs.declared.at.At.{At as Place}
use Rattle.ms_logic.specs.declared.checked.ExportUse.{ExportUse}
use Rattle.ms_logic.specs.declared.checked.ImportUse.{ImportUse}
use Rattle.ms_logic.specs.declared.checked.MapPair.{MapPair}
use Rattle.ms_logic.specs.declared.mode.Order.{Order}
use Rattle.ms_logic.specs.declared.source.Rename.{Rename}
use Rattle.ms_names_rules.specs.declared.meaning.Meaning.{Meaning}
use Rattle.ms_names_rules.specs.declared.meaning.Meaning.TheVariants as meaning
use Rattle.ms_names_rules.specs.declared.wanted.Wanted.{Wanted}
use Rattle.ms_names_rules.specs.declared.wanted.Wanted.TheVariants.{Exactly, NumberOrSet}
use Rattle.ms_parse_grammar.specs.Tree as written
use Rattle.ms_parse_grammar.specs.Tree.{truth, falsity, whole, empty_set, numeral, pconst, imported, Expression, atom, prefixed, binary, joined, shifted, enclosed, listed, quantified, let_in, Expressions, no_expressions, and_expression, Variables, no_variables, and_variable, Domain, unrestricted, restricted, Parts, no_parts, and_part, Atom}
use Rattle.ms_parse_grammar.specs.declared.operator.Bracket.TheVariants.{Parentheses, Emptiness, Restriction, Export}
use Rattle.ms_parse_grammar.specs.declared.operator.Listing.TheVariants.{Literal, Call}
use Rattle.ms_names_rules.specs.Scope.{Bytes, Named, Scope, count_of_bounds, count_of_parts, meaning_of, under_bounds, under_parts, variables_among, without_exports, count}
use Rattle.ms_names_rules.specs.Before.{Before, with_names, with_export, after, after_bounds, after_parts, after_all, opened}
use Rattle.ms_logic.specs.Lists.{Each}
use Rattle.ms_names_rules.specs.Order.{formula_wanted, number_wanted, order_of, parameters_of, wanted_by, content_wanted, left_wanted, operand_wanted, right_wanted}
use Rattle.ms_names_rules.specs.Occurrence.{Occurrence, occurrences, inside_operands, inside_arguments, inside_bounds, inside_domain, inside_parts, standing}
use Rattle.ms_names_rules.specs.Reads.{free_variables}
use Rattle.ms_names_rules.specs.Uses.{export_at, import_at, pair_of, pairs_of}
use Rattle.ms_names_rules.proofs.Fitting.{each-append}
use Rattle.ms_names_checked.specs.Spellings.{BindsNames, BoundsHaveNames, DomainBindsNames, EachBindsNames, IsName, PartsHaveNames, ImportsNames}
use Rattle.ms_names_checked.proofs.Listing.{each-filter}
use Rattle.ms_names_checked.proofs.Scopes.{Names}
use Rattle.ms_parse_grammar.specs.declared.operator.Bracket.{Bracket}

-- a variable among the names has a name of the language
abbrev pub IsNamed : Bytes × Meaning → Type 0
IsNamed (n, meaning.Variable x o) = IsName n
IsNamed (n, meaning.Constant value) = Unit {0}
IsNamed (n, meaning.Predicate p parameters) = Unit {0}

abbrev pub ExportNamed : ExportUse → Type 0
ExportNamed used = Each IsName used.names

abbrev pub ImportNamed : ImportUse → Type 0
ImportNamed used = Each (λ (pair : MapPair). IsName pair.name) used.pairs

abbrev pub UsesNamed : Occurrence → Type 0
UsesNamed o = Each ExportNamed (export_at o) × Each ImportNamed (import_at o)

variables-named : (names : Names) → Each IsNamed names → Each (λ (v : Named). IsName v.name) (variables_among names)
variables-named [] h = tt
variables-named ((n, meaning.Variable x o) ∷ outer) h =
    each-append (λ (v : Named). IsName v.name) (variables_among outer) (record { number = x; order = o; name = n } ∷ []) (variables-named outer h.1) (h.0, tt)
variables-named ((n, meaning.Constant value) ∷ outer) h = variables-named outer h.1
variables-named ((n, meaning.Predicate p parameters) ∷ outer) h = variables-named outer h.1

names-of : (vs : List Named) → Each (λ (v : Named). IsName v.name) vs → Each IsName (map (λ (v : Named). v.name) vs)
names-of [] h = tt
names-of (v ∷ vs) h = (h.0, names-of vs h.1)

free-named : (s : Scope) (b : Before) (e : Expression) → Each IsNamed s.names → Each IsName (map (λ (v : Named). v.name) (free_variables s b e))
free-named s b e h = names-of (free_variables s b e) (each-filter (λ (v : Named). IsName v.name) _ (variables_among s.names) (variables-named s.names h))

pair-named : (n : Bytes) (m : Option Meaning) → IsName n → Each (λ (pair : MapPair). IsName pair.name) (pair_of n m)
pair-named n None h = tt
pair-named n (Some (meaning.Variable x o)) h = (h, tt)
pair-named n (Some (meaning.Constant value)) h = tt
pair-named n (Some (meaning.Predicate p parameters)) h = tt

pairs-named : (s : Scope) (rs : List Rename) → Each (λ (r : Rename). IsName r.left) rs → Each (λ (pair : MapPair). IsName pair.name) (pairs_of s rs)
pairs-named s [] h = tt
pairs-named s (r ∷ rs) h =
    each-append (λ (pair : MapPair). IsName pair.name) (pair_of r.left (meaning_of s r.right)) (pairs_of s rs) (pair-named r.left (meaning_of s r.right) h.0) (pairs-named s rs h.1)

pub bounds-scope : (s : Scope) (x : ℕ) (vs : Variables) → Each IsNamed s.names → BoundsHaveNames vs → Each IsNamed (under_bounds s x vs).names
bounds-scope s x no_variables h k = h
bounds-scope s x (and_variable vs at o n d) h k = (k.1, bounds-scope s x vs h k.0)

parts-scope : (s : Scope) (x : ℕ) (o : Order) (ps : Parts) → Each IsNamed s.names → PartsHaveNames ps → Each IsNamed (under_parts s x o ps).names
parts-scope s x o no_parts h k = h
parts-scope s x o (and_part ps at n e) h k = (k.1, parts-scope s x o ps h k.0)

atom-named : (s : Scope) (b : Before) (w : Wanted) (at : Place) (a : Atom) → ImportsNames a → UsesNamed (standing s b w (atom at a))
atom-named s b w at truth k = (tt, tt)
atom-named s b w at falsity k = (tt, tt)
atom-named s b w at whole k = (tt, tt)
atom-named s b w at empty_set k = (tt, tt)
atom-named s b w at (written.named n) k = (tt, tt)
atom-named s b w at (numeral n) k = (tt, tt)
atom-named s b w at (pconst i) k = (tt, tt)
atom-named s b w at (imported file rs) k = (tt, (pairs-named s rs k, tt))

bracket-named : (s : Scope) (b : Before) (w : Wanted) (at : Place) (k : Bracket) (e : Expression) → Each IsNamed s.names → UsesNamed (standing s b w (enclosed at k e))
bracket-named s b w at Parentheses e h = (tt, tt)
bracket-named s b w at Emptiness e h = (tt, tt)
bracket-named s b w at Restriction e h = (tt, tt)
bracket-named s b w at (Export text_at file) e h = ((free-named s (with_export b) e h, tt), tt)

mutual
  pub named : (s : Scope) (b : Before) (w : Wanted) (e : Expression) → Each IsNamed s.names → BindsNames e → Each UsesNamed (occurrences s b w e)
  named s b w (atom at a) h k = (atom-named s b w at a k, tt)
  named s b w (prefixed at op e) h k = ((tt, tt), named s b (operand_wanted op) e h k)
  named s b w (binary at op e f) h k = (
    (tt, tt),
    each-append UsesNamed (occurrences s b (left_wanted op) e) (occurrences s (after b e) (right_wanted op (order_of s e)) f) (named s b (left_wanted op) e h k.0)
        (named s (after b e) (right_wanted op (order_of s e)) f h k.1),
  )
  named s b w (joined at op es) h k = ((tt, tt), operands-named s b formula_wanted es h k)
  named s b w (shifted at e i) h k = ((tt, tt), named s b NumberOrSet e h k)
  named s b w (enclosed at bracket e) h k = (bracket-named s b w at bracket e h, named s (opened b bracket) (content_wanted bracket) e h k)
  named s b w (listed at Literal es) h k = ((tt, tt), operands-named s b number_wanted es h k)
  named s b w (listed at (Call n) es) h k = ((tt, tt), arguments-named (without_exports s) b (parameters_of (meaning_of s n)) es h k)
  named s b w (quantified at q o vs e) h k =
      let here = with_names b (count_of_bounds vs) in
      let end = after_bounds here vs in
      let inner = under_bounds s b.next vs in (
        (tt, tt),
        each-append UsesNamed (inside_bounds s b.next here vs) (occurrences inner end formula_wanted e) (bounds-named s b.next here vs h k.0)
            (named inner end formula_wanted e (bounds-scope s b.next vs h k.0) k.1),
      )
  named s b w (let_in at o ps e) h k =
      let here = with_names b (count_of_parts ps) in
      let end = after_parts here ps in
      let outer = without_exports s in
      let inner = under_parts outer b.next o ps in (
        (tt, tt),
        each-append UsesNamed (inside_parts outer here o ps) (occurrences inner end formula_wanted e) (parts-named outer here o ps h k.0)
            (named inner end formula_wanted e (parts-scope outer b.next o ps h k.0) k.1),
      )

  operands-named : (s : Scope) (b : Before) (w : Wanted) (es : Expressions) → Each IsNamed s.names → EachBindsNames es → Each UsesNamed (inside_operands s b w es)
  operands-named s b w no_expressions h k = tt
  operands-named s b w (and_expression es e) h k =
      each-append UsesNamed (inside_operands s b w es) (occurrences s (after_all b es) w e) (operands-named s b w es h k.0) (named s (after_all b es) w e h k.1)

  arguments-named : (s : Scope) (b : Before) (parameters : List Order) (es : Expressions) → Each IsNamed s.names → EachBindsNames es → Each UsesNamed (inside_arguments s b parameters es)
  arguments-named s b parameters no_expressions h k = tt
  arguments-named s b parameters (and_expression es e) h k =
      let w = wanted_by (slice_get parameters (count es)) in
      each-append UsesNamed (inside_arguments s b parameters es) (occurrences s (after_all b es) w e) (arguments-named s b parameters es h k.0) (named s (after_all b es) w e h k.1)

  pub bounds-named : (s : Scope) (x : ℕ) (b : Before) (vs : Variables) → Each IsNamed s.names → BoundsHaveNames vs → Each UsesNamed (inside_bounds s x b vs)
  bounds-named s x b no_variables h k = tt
  bounds-named s x b (and_variable vs at o n d) h k =
      let inner = without_exports (under_bounds s x (and_variable vs at o n d)) in
      each-append UsesNamed (inside_bounds s x b vs) (inside_domain inner (after_bounds b vs) d) (bounds-named s x b vs h k.0)
      (domain-named inner (after_bounds b vs) d (bounds-scope s x (and_variable vs at o n d) h k) k.2)

  domain-named : (s : Scope) (b : Before) (d : Domain) → Each IsNamed s.names → DomainBindsNames d → Each UsesNamed (inside_domain s b d)
  domain-named s b unrestricted h k = tt
  domain-named s b (restricted e) h k = named s b formula_wanted e h k

  parts-named : (s : Scope) (b : Before) (o : Order) (ps : Parts) → Each IsNamed s.names → PartsHaveNames ps → Each UsesNamed (inside_parts s b o ps)
  parts-named s b o no_parts h k = tt
  parts-named s b o (and_part ps at n e) h k =
      each-append UsesNamed (inside_parts s b o ps) (occurrences s (after_parts b ps) (Exactly o) e) (parts-named s b o ps h k.0) (named s (after_parts b ps) (Exactly o) e h k.2)
