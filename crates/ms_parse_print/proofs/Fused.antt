-- What is printed is what is written for each of the symbols, one after the other.
use Rattle.std.proofs.Common.{◌≡◌, List, [], ◌∷◌, Option, Some, None, refl, sym, append_assoc}
use Rattle.std.specs.List.{flat_map}
use Rattle.std.proofs.lemmas.List.{append-nil}
use Rattle.std.proofs.lemmas.List.Concat.{flat_map-append}
use Rattle.ms_list.specs.declared.at.At.{At}
use Rattle.ms_logic.specs.declared.mode.Mode.{Mode}
use Rattle.ms_logic.specs.declared.mode.Mode.TheVariants.{Ws1s, M2lStr}
use Rattle.ms_logic.specs.declared.source.PlacedInt.{PlacedInt}
use Rattle.ms_logic.specs.declared.source.Rename.{Rename}
use Rattle.ms_parse_grammar.specs.declared.operator.Bracket.{Bracket}
use Rattle.ms_parse_grammar.specs.declared.operator.Bracket.TheVariants.{Parentheses, Emptiness, Restriction, Export}
use Rattle.ms_parse_grammar.specs.declared.operator.Listing.{Listing}
use Rattle.ms_parse_grammar.specs.declared.operator.Listing.TheVariants.{Literal, Call}
use Rattle.ms_parse_grammar.specs.Symbol.{Symbol}
use Rattle.ms_parse_grammar.specs.Tree.{Atom, truth, falsity, whole, empty_set, named, numeral, pconst, imported}
use Rattle.ms_parse_grammar.specs.Tree.{Expression, atom, prefixed, binary, joined, shifted, enclosed, listed, quantified, let_in, Expressions, no_expressions, and_expression, Variables, no_variables, and_variable, Domain, unrestricted, restricted, Parts, no_parts, and_part}
use Rattle.ms_parse_grammar.specs.Tree.{Declaration, variables, constant, predicate, included, default_restriction, formula, goal, Declared, Document}
use Rattle.ms_parse_print.specs.inner.Printed.{single, printed, printed_all, printed_atom, printed_domain, printed_pair, printed_opening, printed_list_opening, printed_variables, printed_parts, printed_parameters, printed_parameter_list, printed_shift, printed_sum, printed_declaration, printed_declared, printed_header, printed_document}

-- entries of a list, each of which is written as its symbols are
fused_entries : {A X : Type 0} (f : Symbol → List A) (g : X → List A) (h : X → List Symbol) (xs : List X) → ((x : X) → g x ≡ flat_map f (h x)) → flat_map g xs ≡ flat_map f (flat_map h xs)
fused_entries f g h [] each = refl
fused_entries f g h (x ∷ xs) each = rw (each x, fused_entries f g h xs each) (sym (flat_map-append f (h x) (flat_map h xs)))

fused_pair : {A : Type 0} (f : Symbol → List A) (pair : Rename) → printed_pair f pair ≡ flat_map f (printed_pair single pair)
fused_pair f pair = simp (append_assoc, append-nil)

fused_atom : {A : Type 0} (f : Symbol → List A) (a : Atom) → printed_atom f a ≡ flat_map f (printed_atom single a)
fused_atom f truth = simp append-nil
fused_atom f falsity = simp append-nil
fused_atom f whole = simp append-nil
fused_atom f empty_set = simp append-nil
fused_atom f (named n) = simp append-nil
fused_atom f (numeral n) = simp append-nil
fused_atom f (pconst n) = simp (append_assoc, append-nil)
fused_atom f (imported file pairs) =
    let entries = fused_entries f (printed_pair f) (printed_pair single) pairs (fused_pair f) in
    rw entries (simp (flat_map-append, append_assoc, append-nil))

fused_opening : {A : Type 0} (f : Symbol → List A) (b : Bracket) → printed_opening f b ≡ flat_map f (printed_opening single b)
fused_opening f Parentheses = simp append-nil
fused_opening f Emptiness = simp append-nil
fused_opening f Restriction = simp append-nil
fused_opening f (Export at file) = simp (append_assoc, append-nil)

fused_list_opening : {A : Type 0} (f : Symbol → List A) (l : Listing) → printed_list_opening f l ≡ flat_map f (printed_list_opening single l)
fused_list_opening f Literal = simp append-nil
fused_list_opening f (Call p) = simp append-nil

mutual
  pub fused : {A : Type 0} (f : Symbol → List A) (e : Expression) → printed f e ≡ flat_map f (printed single e)
  fused f (atom at a) = fused_atom f a
  fused f (prefixed at op e) = rw (fused f e) (simp (flat_map-append, append_assoc, append-nil))
  fused f (binary at op l r) = rw (fused f l, fused f r) (simp (flat_map-append, append_assoc, append-nil))
  fused f (joined at op es) = fused_all f _ es
  fused f (shifted at e n) = rw (fused f e) (simp (flat_map-append, append_assoc, append-nil))
  fused f (enclosed at b e) = rw (fused_opening f b, fused f e) (simp (flat_map-append, append_assoc, append-nil))
  fused f (listed at l es) = rw (fused_list_opening f l, fused_all f _ es) (simp (flat_map-append, append_assoc, append-nil))
  fused f (quantified at q o vs body) = rw (fused_variables f vs, fused f body) (simp (flat_map-append, append_assoc, append-nil))
  fused f (let_in at o parts body) = rw (fused_parts f parts, fused f body) (simp (flat_map-append, append_assoc, append-nil))

  fused_all : {A : Type 0} (f : Symbol → List A) (s : Symbol) (es : Expressions) → printed_all f s es ≡ flat_map f (printed_all single s es)
  fused_all f s no_expressions = refl
  fused_all f s (and_expression no_expressions e) = fused f e
  fused_all f s (and_expression (and_expression before d) e) = rw (fused_all f s (and_expression before d), fused f e) (simp (flat_map-append, append_assoc, append-nil))

  pub fused_domain : {A : Type 0} (f : Symbol → List A) (d : Domain) → printed_domain f d ≡ flat_map f (printed_domain single d)
  fused_domain f unrestricted = refl
  fused_domain f (restricted d) = rw (fused f d) (simp (flat_map-append, append_assoc, append-nil))

  fused_variables : {A : Type 0} (f : Symbol → List A) (vs : Variables) → printed_variables f vs ≡ flat_map f (printed_variables single vs)
  fused_variables f no_variables = refl
  fused_variables f (and_variable no_variables at o n d) = rw (fused_domain f d) (simp (flat_map-append, append_assoc, append-nil))
  fused_variables f (and_variable (and_variable before at' o' n' d') at o n d) =
      rw (fused_variables f (and_variable before at' o' n' d'), fused_domain f d) (simp (flat_map-append, append_assoc, append-nil))

  fused_parts : {A : Type 0} (f : Symbol → List A) (parts : Parts) → printed_parts f parts ≡ flat_map f (printed_parts single parts)
  fused_parts f no_parts = refl
  fused_parts f (and_part no_parts at n value) = rw (fused f value) (simp (flat_map-append, append_assoc, append-nil))
  fused_parts f (and_part (and_part before at' n' value') at n value) =
      rw (fused_parts f (and_part before at' n' value'), fused f value) (simp (flat_map-append, append_assoc, append-nil))

fused_parameters : {A : Type 0} (f : Symbol → List A) (vs : Variables) → printed_parameters f vs ≡ flat_map f (printed_parameters single vs)
fused_parameters f no_variables = refl
fused_parameters f (and_variable no_variables at o n d) = rw (fused_domain f d) (simp (flat_map-append, append_assoc, append-nil))
fused_parameters f (and_variable (and_variable before at' o' n' d') at o n d) =
    rw (fused_parameters f (and_variable before at' o' n' d'), fused_domain f d) (simp (flat_map-append, append_assoc, append-nil))

fused_parameter_list : {A : Type 0} (f : Symbol → List A) (vs : Variables) → printed_parameter_list f vs ≡ flat_map f (printed_parameter_list single vs)
fused_parameter_list f no_variables = refl
fused_parameter_list f (and_variable before at o n d) = rw (fused_parameters f (and_variable before at o n d)) (simp (flat_map-append, append_assoc, append-nil))

fused_shift : {A : Type 0} (f : Symbol → List A) (n : PlacedInt) → printed_shift f n ≡ flat_map f (printed_shift single n)
fused_shift f n = simp append-nil

fused_sum : {A : Type 0} (f : Symbol → List A) (ns : List PlacedInt) → printed_sum f ns ≡ flat_map f (printed_sum single ns)
fused_sum f [] = refl
fused_sum f (n ∷ ns) =
    let entries = fused_entries f (printed_shift f) (printed_shift single) ns (fused_shift f) in
    rw entries (simp (flat_map-append, append_assoc, append-nil))

fused_declaration : {A : Type 0} (f : Symbol → List A) (d : Declaration) → printed_declaration f d ≡ flat_map f (printed_declaration single d)
fused_declaration f (variables vs) = rw (fused_variables f vs) (simp (flat_map-append, append_assoc, append-nil))
fused_declaration f (constant at n sum) = rw (fused_sum f sum) (simp (flat_map-append, append_assoc, append-nil))
fused_declaration f (predicate is_pred at n parameters body) = rw (fused_parameter_list f parameters, fused f body) (simp (flat_map-append, append_assoc, append-nil))
fused_declaration f (included at file) = simp append-nil
fused_declaration f (default_restriction o n body) = rw (fused f body) (simp (flat_map-append, append_assoc, append-nil))
fused_declaration f (formula e) = fused f e
fused_declaration f (goal at title e) = rw (fused f e) (simp (flat_map-append, append_assoc, append-nil))

fused_declared : {A : Type 0} (f : Symbol → List A) (d : Declared) → printed_declared f d ≡ flat_map f (printed_declared single d)
fused_declared f d = rw (fused_declaration f d.declaration) (simp (flat_map-append, append_assoc, append-nil))

fused_header : {A : Type 0} (f : Symbol → List A) (header : Option (At × Mode)) → printed_header f header ≡ flat_map f (printed_header single header)
fused_header f None = refl
fused_header f (Some (at, Ws1s)) = simp append-nil
fused_header f (Some (at, M2lStr)) = simp (append_assoc, append-nil)

pub fused_document : {A : Type 0} (f : Symbol → List A) (d : Document) → printed_document f d ≡ flat_map f (printed_document single d)
fused_document f d =
    let entries = fused_entries f (printed_declared f) (printed_declared single) d.declarations (fused_declared f) in
    rw (fused_header f d.header, entries) (sym (flat_map-append f (printed_header single d.header) (flat_map (printed_declared single) d.declarations)))
