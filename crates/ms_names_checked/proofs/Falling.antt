-- In the scope of each expression of a source the numbers of variables fall from the innermost outwards.
use Rattle.std.proofs.Common.{◌≡◌, ℕ, ◌+◌, ◌≤◌, List, ◌∷◌, sym, subst, arith, slice_get}
use Rattle.ms_logic.specs.declared.mode.Order.{Order}
use Rattle.ms_logic.specs.Lists.{Each}
use Rattle.ms_names_rules.specs.declared.meaning.Meaning.TheVariants as meaning
use Rattle.ms_names_rules.specs.declared.wanted.Wanted.{Wanted}
use Rattle.ms_names_rules.specs.declared.wanted.Wanted.TheVariants.{Exactly, NumberOrSet}
use Rattle.ms_parse_grammar.specs.Tree.{Expression, atom, prefixed, binary, joined, shifted, enclosed, listed, quantified, let_in, Expressions, no_expressions, and_expression, Variables, no_variables, and_variable, Domain, unrestricted, restricted, Parts, no_parts, and_part, Declaration, variables, constant, predicate, included, default_restriction, formula, goal}
use Rattle.ms_parse_grammar.specs.declared.operator.Listing.TheVariants.{Literal, Call}
use Rattle.ms_names_rules.specs.Scope.{Bytes, Scope, bind, count_of_bounds, count_of_parts, meaning_of, under_bounds, under_parts, without_exports, count}
use Rattle.ms_names_rules.specs.Before.{Before, with_names, after, after_bounds, after_parts, after_all, opened}
use Rattle.ms_names_rules.specs.Declarations.{Known, after_declaration, globals_in, occurrences_in, with_readings}
use Rattle.ms_names_rules.specs.Order.{formula_wanted, number_wanted, order_of, parameters_of, wanted_by, content_wanted, left_wanted, operand_wanted, right_wanted}
use Rattle.ms_names_rules.specs.Occurrence.{Occurrence, occurrences, inside_operands, inside_arguments, inside_bounds, inside_domain, inside_parts}
use Rattle.ms_names_rules.proofs.Fitting.{Falls, IsBelow, below-more, each-append, each-weaker}
use Rattle.ms_names_rules.proofs.Growth.{grows, grows-bounds, grows-parts, grows-all, opened-grows}
use Rattle.ms_names_checked.proofs.Scopes.{Names, default-names}

-- the numbers of variables fall, and are below the next one
abbrev pub AreFalling : ℕ → Names → Type 0
AreFalling x names = Each (IsBelow x) names × Falls names

abbrev pub HasFalling : Occurrence → Type 0
HasFalling o = Falls o.scope.names

later : (x y : ℕ) (names : Names) → x ≤ y → AreFalling x names → AreFalling y names
later x y names le h = (each-weaker (IsBelow x) (IsBelow y) names (below-more x y le) h.0, h.1)

one-more : (x : ℕ) (o : Order) (n : Bytes) (names : Names) → AreFalling x names → AreFalling (x + 1) ((n, meaning.Variable x o) ∷ names)
one-more x o n names h = ((omega arith, (later x (x + 1) names (omega arith) h).0), h)

falling-bounds : (s : Scope) (x : ℕ) (vs : Variables) → AreFalling x s.names → AreFalling (x + count_of_bounds vs) (under_bounds s x vs).names
falling-bounds s x no_variables h = later x (x + 0) s.names (omega arith) h
falling-bounds s x (and_variable vs at o n d) h =
    let y = x + count_of_bounds vs in
    let same : y + 1 ≡ x + (count_of_bounds vs + 1) = omega arith in
    subst (λ z. AreFalling z (under_bounds s x (and_variable vs at o n d)).names) same (one-more y o n (under_bounds s x vs).names (falling-bounds s x vs h))

falling-parts : (s : Scope) (x : ℕ) (o : Order) (ps : Parts) → AreFalling x s.names → AreFalling (x + count_of_parts ps) (under_parts s x o ps).names
falling-parts s x o no_parts h = later x (x + 0) s.names (omega arith) h
falling-parts s x o (and_part ps at n e) h =
    let y = x + count_of_parts ps in
    let same : y + 1 ≡ x + (count_of_parts ps + 1) = omega arith in
    subst (λ z. AreFalling z (under_parts s x o (and_part ps at n e)).names) same (one-more y o n (under_parts s x o ps).names (falling-parts s x o ps h))

mutual
  falling : (s : Scope) (b : Before) (w : Wanted) (e : Expression) → AreFalling b.next s.names → Each HasFalling (occurrences s b w e)
  falling s b w (atom at a) h = (h.1, tt)
  falling s b w (prefixed at op e) h = (h.1, falling s b (operand_wanted op) e h)
  falling s b w (binary at op e f) h = (
    h.1,
    each-append HasFalling (occurrences s b (left_wanted op) e) (occurrences s (after b e) (right_wanted op (order_of s e)) f) (falling s b (left_wanted op) e h)
        (falling s (after b e) (right_wanted op (order_of s e)) f (later b.next (after b e).next s.names (grows b e) h)),
  )
  falling s b w (joined at op es) h = (h.1, operands-falling s b formula_wanted es h)
  falling s b w (shifted at e i) h = (h.1, falling s b NumberOrSet e h)
  falling s b w (enclosed at k e) h = (h.1, falling s (opened b k) (content_wanted k) e (later b.next (opened b k).next s.names (opened-grows b k) h))
  falling s b w (listed at Literal es) h = (h.1, operands-falling s b number_wanted es h)
  falling s b w (listed at (Call n) es) h = (h.1, arguments-falling (without_exports s) b (parameters_of (meaning_of s n)) es h)
  falling s b w (quantified at q o vs e) h =
      let here = with_names b (count_of_bounds vs) in
      let end = after_bounds here vs in
      let inner = under_bounds s b.next vs in (
        h.1,
        each-append HasFalling (inside_bounds s b.next here vs) (occurrences inner end formula_wanted e) (bounds-falling s b.next here vs (omega arith) h)
            (falling inner end formula_wanted e (later here.next end.next inner.names (grows-bounds here vs) (falling-bounds s b.next vs h))),
      )
  falling s b w (let_in at o ps e) h =
      let here = with_names b (count_of_parts ps) in
      let end = after_parts here ps in
      let outer = without_exports s in
      let inner = under_parts outer b.next o ps in (
        h.1,
        each-append HasFalling (inside_parts outer here o ps) (occurrences inner end formula_wanted e) (parts-falling outer here o ps (later b.next here.next s.names (omega arith) h))
            (falling inner end formula_wanted e (later here.next end.next inner.names (grows-parts here ps) (falling-parts outer b.next o ps h))),
      )

  operands-falling : (s : Scope) (b : Before) (w : Wanted) (es : Expressions) → AreFalling b.next s.names → Each HasFalling (inside_operands s b w es)
  operands-falling s b w no_expressions h = tt
  operands-falling s b w (and_expression es e) h =
      let end = after_all b es in
      each-append HasFalling (inside_operands s b w es) (occurrences s end w e) (operands-falling s b w es h)
      (falling s end w e (later b.next end.next s.names (grows-all b es) h))

  arguments-falling : (s : Scope) (b : Before) (parameters : List Order) (es : Expressions) → AreFalling b.next s.names → Each HasFalling (inside_arguments s b parameters es)
  arguments-falling s b parameters no_expressions h = tt
  arguments-falling s b parameters (and_expression es e) h =
      let end = after_all b es in
      let w = wanted_by (slice_get parameters (count es)) in
      each-append HasFalling (inside_arguments s b parameters es) (occurrences s end w e) (arguments-falling s b parameters es h)
      (falling s end w e (later b.next end.next s.names (grows-all b es) h))

  -- the variables of a list have numbers from x on, and what is bound in their restrictions has greater ones
  bounds-falling : (s : Scope) (x : ℕ) (b : Before) (vs : Variables) → x + count_of_bounds vs ≤ b.next → AreFalling x s.names → Each HasFalling (inside_bounds s x b vs)
  bounds-falling s x b no_variables enough h = tt
  bounds-falling s x b (and_variable vs at o n d) enough h =
      let end = after_bounds b vs in
      let inner = under_bounds s x (and_variable vs at o n d) in
      let grown = grows-bounds b vs in
      each-append HasFalling (inside_bounds s x b vs) (inside_domain (without_exports inner) end d) (bounds-falling s x b vs (omega (arith, enough)) h)
      (domain-falling (without_exports inner) end d
      (later (x + (count_of_bounds vs + 1)) end.next inner.names (omega (arith, enough, grown)) (falling-bounds s x (and_variable vs at o n d) h)))

  domain-falling : (s : Scope) (b : Before) (d : Domain) → AreFalling b.next s.names → Each HasFalling (inside_domain s b d)
  domain-falling s b unrestricted h = tt
  domain-falling s b (restricted e) h = falling s b formula_wanted e h

  parts-falling : (s : Scope) (b : Before) (o : Order) (ps : Parts) → AreFalling b.next s.names → Each HasFalling (inside_parts s b o ps)
  parts-falling s b o no_parts h = tt
  parts-falling s b o (and_part ps at n e) h =
      let end = after_parts b ps in
      each-append HasFalling (inside_parts s b o ps) (occurrences s end (Exactly o) e) (parts-falling s b o ps h)
      (falling s end (Exactly o) e (later b.next end.next s.names (grows-parts b ps) h))

-- before a declaration: globals have numbers below those of the globals to come, and what is bound has greater ones
pub declaration-falling : (k : Known) (d : Declaration) → k.globals + globals_in d ≤ k.before.next → AreFalling k.globals k.scope.names → Each HasFalling (occurrences_in k d)
declaration-falling k (variables vs) enough h = bounds-falling k.scope k.globals k.before vs enough h
declaration-falling k (constant at n is) enough h = tt
declaration-falling k (predicate is_pred at n vs e) enough h =
    let b = k.before in
    let here = with_names b (count_of_bounds vs) in
    let end = after_bounds here vs in
    let outer = without_exports k.scope in
    let inner = under_bounds outer b.next vs in
    let own = later k.globals b.next outer.names (omega (arith, enough)) h in
    each-append HasFalling (inside_bounds outer b.next here vs) (occurrences inner end formula_wanted e) (bounds-falling outer b.next here vs (omega arith) own)
    (falling inner end formula_wanted e (later here.next end.next inner.names (grows-bounds here vs) (falling-bounds outer b.next vs own)))
declaration-falling k (included text_at file) enough h = tt
declaration-falling k (default_restriction o n e) enough h =
    let b = k.before in
    let own = later k.globals b.next k.scope.names (omega (arith, enough)) h in
    falling (bind n (meaning.Variable b.next o) (without_exports k.scope)) (with_names b 1) formula_wanted e (one-more b.next o n k.scope.names own)
declaration-falling k (formula e) enough h = falling k.scope k.before formula_wanted e (later k.globals k.before.next k.scope.names (omega (arith, enough)) h)
declaration-falling k (goal name_at title e) enough h = falling k.scope k.before formula_wanted e (later k.globals k.before.next k.scope.names (omega (arith, enough)) h)

pub falling-after : (k : Known) (d : Declaration) → AreFalling k.globals k.scope.names → AreFalling (after_declaration k d).globals (after_declaration k d).scope.names
falling-after k (variables vs) h = falling-bounds k.scope k.globals vs h
falling-after k (constant at n is) h = let more = later k.globals (k.globals + 0) k.scope.names (omega arith) h in ((tt, more.0), more.1)
falling-after k (predicate is_pred at n vs e) h = let more = later k.globals (k.globals + 0) k.scope.names (omega arith) h in ((tt, more.0), more.1)
falling-after k (included text_at file) h = later k.globals (k.globals + 0) k.scope.names (omega arith) h
falling-after k (default_restriction o n e) h =
    later k.globals (k.globals + 0) _ (omega arith)
    (subst (AreFalling k.globals) (sym (default-names (with_readings (occurrences_in k (default_restriction o n e)) k.scope) o _)) h)
falling-after k (formula e) h = later k.globals (k.globals + 0) k.scope.names (omega arith) h
falling-after k (goal name_at title e) h = later k.globals (k.globals + 0) k.scope.names (omega arith) h
