-- The orders of the variables that an expression binds, in the order of their numbers.
use Rattle.std.proofs.Common.{◌≡◌, ℕ, ◌+◌, List, [], ◌++◌, length, length-append, refl, arith, ap, ◌∙◌, ◌∷◌}
use Rattle.ms_logic.specs.declared.mode.Order.{Order}
use Rattle.ms_parse_grammar.specs.Tree.{truth, falsity, whole, empty_set, named, numeral, pconst, imported, Expression, atom, prefixed, binary, joined, shifted, enclosed, listed, quantified, let_in, Expressions, no_expressions, and_expression, Variables, no_variables, and_variable, Domain, unrestricted, restricted, Parts, no_parts, and_part, Atom}
use Rattle.ms_names_rules.specs.Before.{Before, with_names, after, after_all, after_bounds, after_domain, after_parts, after_atom, opened}
use Rattle.ms_names_rules.specs.Declarations.{orders_of_bounds}
use Rattle.ms_names_rules.specs.Scope.{count_of_bounds, count_of_parts}
use Rattle.ms_names_checked.proofs.Hiding.{orders_of_parts}
use Rattle.ms_names_checked.proofs.Operators.{opened-next}

abbrev mutual
  pub orders_in : Expression → List Order
  orders_in (atom at a) = []
  orders_in (prefixed at op e) = orders_in e
  orders_in (binary at op e f) = orders_in e ++ orders_in f
  orders_in (joined at op es) = orders_in_all es
  orders_in (shifted at e i) = orders_in e
  orders_in (enclosed at k e) = orders_in e
  orders_in (listed at l es) = orders_in_all es
  orders_in (quantified at q o vs e) = orders_of_bounds vs ++ (orders_in_bounds vs ++ orders_in e)
  orders_in (let_in at o ps e) = orders_of_parts o ps ++ (orders_in_parts ps ++ orders_in e)

  pub orders_in_all : Expressions → List Order
  orders_in_all no_expressions = []
  orders_in_all (and_expression es e) = orders_in_all es ++ orders_in e

  pub orders_in_bounds : Variables → List Order
  orders_in_bounds no_variables = []
  orders_in_bounds (and_variable vs at o n d) = orders_in_bounds vs ++ orders_in_domain d

  pub orders_in_domain : Domain → List Order
  orders_in_domain unrestricted = []
  orders_in_domain (restricted e) = orders_in e

  pub orders_in_parts : Parts → List Order
  orders_in_parts no_parts = []
  orders_in_parts (and_part ps at n e) = orders_in_parts ps ++ orders_in e

pub bounds-long : (vs : Variables) → length (orders_of_bounds vs) ≡ count_of_bounds vs
bounds-long no_variables = refl
bounds-long (and_variable vs at o n d) = length-append (orders_of_bounds vs) (o ∷ []) ∙ ap (λ k. k + 1) (bounds-long vs)

pub parts-long : (o : Order) (ps : Parts) → length (orders_of_parts o ps) ≡ count_of_parts ps
parts-long o no_parts = refl
parts-long o (and_part ps at n e) = length-append (orders_of_parts o ps) (o ∷ []) ∙ ap (λ k. k + 1) (parts-long o ps)

none-long : (n : ℕ) → n ≡ n + 0
none-long n = omega arith

both-long : (n m l : ℕ) (xs ys : List Order) → m ≡ n + length xs → l ≡ m + length ys → l ≡ n + length (xs ++ ys)
both-long n m l xs ys first second = let all = length-append xs ys in omega (arith, first, second, all)

atom-long : (b : Before) (a : Atom) → (after_atom b a).next ≡ b.next + 0
atom-long b truth = none-long b.next
atom-long b falsity = none-long b.next
atom-long b whole = none-long b.next
atom-long b empty_set = none-long b.next
atom-long b (named n) = none-long b.next
atom-long b (numeral n) = none-long b.next
atom-long b (pconst i) = none-long b.next
atom-long b (imported file rs) = none-long b.next

mutual
  pub orders-long : (b : Before) (e : Expression) → (after b e).next ≡ b.next + length (orders_in e)
  orders-long b (atom at a) = atom-long b a
  orders-long b (prefixed at op e) = orders-long b e
  orders-long b (binary at op e f) =
      both-long b.next (after b e).next (after (after b e) f).next (orders_in e) (orders_in f) (orders-long b e) (orders-long (after b e) f)
  orders-long b (joined at op es) = all-long b es
  orders-long b (shifted at e i) = orders-long b e
  orders-long b (enclosed at k e) = orders-long (opened b k) e ∙ ap (λ n. n + length (orders_in e)) (opened-next b k)
  orders-long b (listed at l es) = all-long b es
  orders-long b (quantified at q o vs e) =
      let here = with_names b (count_of_bounds vs) in
      let end = after_bounds here vs in
      let many = bounds-long vs in
      both-long b.next here.next (after end e).next (orders_of_bounds vs) (orders_in_bounds vs ++ orders_in e) (omega (arith, many))
      (both-long here.next end.next (after end e).next (orders_in_bounds vs) (orders_in e) (restrictions-long here vs) (orders-long end e))
  orders-long b (let_in at o ps e) =
      let here = with_names b (count_of_parts ps) in
      let end = after_parts here ps in
      let many = parts-long o ps in
      both-long b.next here.next (after end e).next (orders_of_parts o ps) (orders_in_parts ps ++ orders_in e) (omega (arith, many))
      (both-long here.next end.next (after end e).next (orders_in_parts ps) (orders_in e) (sides-long here ps) (orders-long end e))

  pub all-long : (b : Before) (es : Expressions) → (after_all b es).next ≡ b.next + length (orders_in_all es)
  all-long b no_expressions = none-long b.next
  all-long b (and_expression es e) =
      let end = after_all b es in
      both-long b.next end.next (after end e).next (orders_in_all es) (orders_in e) (all-long b es) (orders-long end e)

  pub restrictions-long : (b : Before) (vs : Variables) → (after_bounds b vs).next ≡ b.next + length (orders_in_bounds vs)
  restrictions-long b no_variables = none-long b.next
  restrictions-long b (and_variable vs at o n d) =
      let end = after_bounds b vs in
      both-long b.next end.next (after_domain end d).next (orders_in_bounds vs) (orders_in_domain d) (restrictions-long b vs) (domain-long end d)

  pub domain-long : (b : Before) (d : Domain) → (after_domain b d).next ≡ b.next + length (orders_in_domain d)
  domain-long b unrestricted = none-long b.next
  domain-long b (restricted e) = orders-long b e

  pub sides-long : (b : Before) (ps : Parts) → (after_parts b ps).next ≡ b.next + length (orders_in_parts ps)
  sides-long b no_parts = none-long b.next
  sides-long b (and_part ps at n e) =
      let end = after_parts b ps in
      both-long b.next end.next (after end e).next (orders_in_parts ps) (orders_in e) (sides-long b ps) (orders-long end e)
