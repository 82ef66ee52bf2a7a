-- Tests of the entries of a list, from its first one on.
use Rattle.std.proofs.Common.{◌≡◌, ℕ, zero, suc, ◌+◌, ◌-◌, ◌<◌, ◌≤◌, Bool, true, false, List, [], ◌∷◌, length, take, get_or, map, refl, sym, ap, ◌∙◌, subst, arith, add-one, zero-add, nat_le, IsTrue}
use Rattle.std.proofs.lemmas.Bool.{leb-true, le-leb}
use Rattle.std.specs.List.{flat_map}
use Rattle.std.proofs.lemmas.List.{take_all, length-map}
use Rattle.ms_logic.specs.declared.mode.Order.{Order}
use Rattle.ms_logic.specs.declared.source.Bound.{Bound, out-Bound}
use Rattle.ms_logic.specs.declared.source.Expr.{Expr}
use Rattle.ms_logic.specs.declared.source.LetPart.{LetPart}
use Rattle.ms_parse_grammar.specs.Symbol.{Symbol}
use Rattle.ms_parse_grammar.specs.Grammar.{level, ends_open, last_ends_open, HasTwo, IsVariableList, IsPartList, AreOfOrder}
use Rattle.ms_parse_grammar.specs.Tree.{Expression, Expressions, no_expressions, and_expression, Variables, no_variables, and_variable, Parts, no_parts, and_part}
use Rattle.ms_parse_grammar.specs.View.{expressions_behind, variables_behind, parts_behind, expression_of, variable_of, part_of, expressions_of, variables_of, parts_of}
use Rattle.ms_parse_print.specs.inner.Passes.{Passes, OperandsPass, AllPass, VariablePasses, VariablesPass, PartPasses, PartsPass}
use Rattle.ms_parse_print.specs.inner.Printed.{AreSpellable}
use Rattle.ms_parse_print.proofs.Lists.{expressions_more, variables_more, parts_more, count, count_variables, count_parts, count_behind, count_variables_behind, count_parts_behind, order_read}
use Rattle.ms_parse_print.proofs.Sources.{spellable_both, spellable_split}

-- the last expression

pub last_open : (es : List Expr) (x : Expr) → 0 < length es → x ≡ get_or es (length es - 1) x → ends_open (expression_of x) ≡ last_ends_open (expressions_of es)
last_open es x some at =
    let whole : take (length es - 1 + 1) es ≡ es = take_all (length es - 1 + 1) es (omega arith) in
    sym (ap (λ l. last_ends_open (expressions_of l)) (sym whole) ∙ ap last_ends_open (expressions_more es (length es - 1) x (omega arith) at))

-- what is written for entries can be said

pub entries_step : {X : Type 0} (g : X → List Symbol) (xs : List X) (i : ℕ) (x : X) → i < length xs → x ≡ get_or xs i x → AreSpellable (flat_map g (take i xs)) → AreSpellable (g x) → AreSpellable (flat_map g (take (i + 1) xs))
entries_step g [] i x within at so_far here = absurd (omega arith)
entries_step g (y ∷ xs) zero x within at so_far here = spellable_both (g y) [] (subst (λ z. AreSpellable (g z)) at here) tt
entries_step g (y ∷ xs) (suc i) x within at so_far here =
    let parts = spellable_split (g y) (flat_map g (take i xs)) so_far in
    rw add-one (spellable_both (g y) (flat_map g (take (suc i) xs)) parts.0 (rw add-one at (entries_step g xs i x (omega arith) at parts.1 here)))

pub entries_stop : {X : Type 0} (g : X → List Symbol) (xs : List X) (i : ℕ) (x : X) → i < length xs → x ≡ get_or xs i x → AreSpellable (flat_map g xs) → AreSpellable (g x)
entries_stop g [] i x within at all = absurd (omega arith)
entries_stop g (y ∷ xs) zero x within at all = subst (λ z. AreSpellable (g z)) (sym at) (spellable_split (g y) (flat_map g xs) all).0
entries_stop g (y ∷ xs) (suc i) x within at all = entries_stop g xs i x (omega arith) at (spellable_split (g y) (flat_map g xs) all).1

-- entries in brackets

all_before : (room : ℕ) (before : Expressions) (es : List Expression) → AllPass room (expressions_behind before es) → AllPass room before
all_before room before [] pass = pass
all_before room before (e ∷ es) pass = (all_before room (and_expression before e) es pass).0

all_prefix : (room : ℕ) (before : Expressions) (es : List Expr) (k : ℕ) → AllPass room (expressions_behind before (map expression_of es)) → AllPass room (expressions_behind before (map expression_of (take k es)))
all_prefix room before es zero pass = all_before room before (map expression_of es) pass
all_prefix room before [] (suc k) pass = pass
all_prefix room before (e ∷ es) (suc k) pass = all_prefix room (and_expression before (expression_of e)) es k pass

pub all_step : (room : ℕ) (es : List Expr) (i : ℕ) (x : Expr) → i < length es → x ≡ get_or es i x → AllPass room (expressions_of (take i es)) → Passes room true (expression_of x) → AllPass room (expressions_of (take (i + 1) es))
all_step room es i x within at so_far here = subst (AllPass room) (sym (expressions_more es i x within at)) (so_far, here)

pub all_stop : (room : ℕ) (es : List Expr) (i : ℕ) (x : Expr) → i < length es → x ≡ get_or es i x → AllPass room (expressions_of es) → Passes room true (expression_of x)
all_stop room es i x within at pass = (subst (AllPass room) (expressions_more es i x within at) (all_prefix room no_expressions es (i + 1) pass)).1

-- operands

operands_before : (room : ℕ) (free : Bool) (least : ℕ) (before : Expressions) (es : List Expression) → OperandsPass room free least (expressions_behind before es) → OperandsPass room free least before
operands_before room free least before [] pass = pass
operands_before room free least before (e ∷ es) pass = (operands_before room free least (and_expression before e) es pass).0

operands_prefix : (room : ℕ) (free : Bool) (least : ℕ) (before : Expressions) (es : List Expr) (k : ℕ) → OperandsPass room free least (expressions_behind before (map expression_of es)) → OperandsPass room free least (expressions_behind before (map expression_of (take k es)))
operands_prefix room free least before es zero pass = operands_before room free least before (map expression_of es) pass
operands_prefix room free least before [] (suc k) pass = pass
operands_prefix room free least before (e ∷ es) (suc k) pass = operands_prefix room free least (and_expression before (expression_of e)) es k pass

-- the operands up to this place, and whether the last of them ends open
pub record OperandsSoFar (room : ℕ) (free : Bool) (least : ℕ) (es : List Expr) (i : ℕ) (open_end : Bool) : Type 0 where
  pub pass : OperandsPass room free least (expressions_of (take i es))
  pub ends : open_end ≡ last_ends_open (expressions_of (take i es))

pub operands_none : (room : ℕ) (free : Bool) (least : ℕ) (es : List Expr) → OperandsSoFar room free least es 0 false
operands_none room free least es = record { pass = tt; ends = refl }

pub operands_step : (room : ℕ) (free : Bool) (least : ℕ) (es : List Expr) (i : ℕ) (open_end next : Bool) (x : Expr) → i < length es → x ≡ get_or es i x → OperandsSoFar room free least es i open_end
    → open_end ≡ false → least ≤ level (expression_of x) → Passes room free (expression_of x) → next ≡ ends_open (expression_of x) → OperandsSoFar room free least es (i + 1) next
operands_step room free least es i open_end next x within at so_far closed tight here next_is =
    let more = expressions_more es i x within at in
    record {
      pass = subst (OperandsPass room free least) (sym more) (so_far.pass, (sym so_far.ends ∙ closed), tight, here);
      ends = next_is ∙ sym (ap last_ends_open more);
    }

pub operands_stop : (room : ℕ) (free : Bool) (least : ℕ) (es : List Expr) (i : ℕ) (open_end : Bool) (x : Expr) → i < length es → x ≡ get_or es i x → OperandsSoFar room free least es i open_end
    → OperandsPass room free least (expressions_of es) → (open_end ≡ false) × (least ≤ level (expression_of x)) × Passes room free (expression_of x)
operands_stop room free least es i open_end x within at so_far pass =
    let here = subst (OperandsPass room free least) (expressions_more es i x within at) (operands_prefix room free least no_expressions es (i + 1) pass) in
    (so_far.ends ∙ here.1, here.2, here.3)

-- variables

variables_before : (room : ℕ) (free : Bool) (before : Variables) (bounds : List Bound) → VariablesPass room free (variables_behind before (map variable_of bounds)) → VariablesPass room free before
variables_before room free before [] pass = pass
variables_before room free before (b ∷ bs) pass = (variables_before room free (and_variable before (variable_of b).at (variable_of b).order (variable_of b).name (variable_of b).domain) bs pass).0

variables_prefix : (room : ℕ) (free : Bool) (before : Variables) (bounds : List Bound) (k : ℕ) → VariablesPass room free (variables_behind before (map variable_of bounds)) → VariablesPass room free (variables_behind before (map variable_of (take k bounds)))
variables_prefix room free before bounds zero pass = variables_before room free before bounds pass
variables_prefix room free before [] (suc k) pass = pass
variables_prefix room free before (b ∷ bs) (suc k) pass = variables_prefix room free (and_variable before (variable_of b).at (variable_of b).order (variable_of b).name (variable_of b).domain) bs k pass

pub variables_step : (room : ℕ) (free : Bool) (bounds : List Bound) (i : ℕ) (x : Bound) → i < length bounds → x ≡ get_or bounds i x → VariablesPass room free (variables_of (take i bounds)) → VariablePasses room free x → VariablesPass room free (variables_of (take (i + 1) bounds))
variables_step room free bounds i x within at so_far here = subst (VariablesPass room free) (sym (variables_more bounds i x within at)) (so_far, here.0, here.1)

pub variables_stop : (room : ℕ) (free : Bool) (bounds : List Bound) (i : ℕ) (x : Bound) → i < length bounds → x ≡ get_or bounds i x → VariablesPass room free (variables_of bounds) → VariablePasses room free x
variables_stop room free bounds i x within at pass =
    let here = subst (VariablesPass room free) (variables_more bounds i x within at) (variables_prefix room free no_variables bounds (i + 1) pass) in
    (here.1, here.2)

-- parts of a `let`

parts_before : (room : ℕ) (before : Parts) (parts : List LetPart) → PartsPass room (parts_behind before (map part_of parts)) → PartsPass room before
parts_before room before [] pass = pass
parts_before room before (p ∷ ps) pass = (parts_before room (and_part before (part_of p).at (part_of p).name (part_of p).value) ps pass).0

parts_prefix : (room : ℕ) (before : Parts) (parts : List LetPart) (k : ℕ) → PartsPass room (parts_behind before (map part_of parts)) → PartsPass room (parts_behind before (map part_of (take k parts)))
parts_prefix room before parts zero pass = parts_before room before parts pass
parts_prefix room before [] (suc k) pass = pass
parts_prefix room before (p ∷ ps) (suc k) pass = parts_prefix room (and_part before (part_of p).at (part_of p).name (part_of p).value) ps k pass

pub parts_step : (room : ℕ) (parts : List LetPart) (i : ℕ) (x : LetPart) → i < length parts → x ≡ get_or parts i x → PartsPass room (parts_of (take i parts)) → PartPasses room x → PartsPass room (parts_of (take (i + 1) parts))
parts_step room parts i x within at so_far here = subst (PartsPass room) (sym (parts_more parts i x within at)) (so_far, here.0, here.1)

pub parts_stop : (room : ℕ) (parts : List LetPart) (i : ℕ) (x : LetPart) → i < length parts → x ≡ get_or parts i x → PartsPass room (parts_of parts) → PartPasses room x
parts_stop room parts i x within at pass =
    let here = subst (PartsPass room) (parts_more parts i x within at) (parts_prefix room no_parts parts (i + 1) pass) in
    (here.1, here.2)

-- how many entries there are

counted_test : (least size n : ℕ) (P : Type 0) → n ≡ size → (least ≤ n → P) → (P → least ≤ n) → (IsTrue (nat_le least size) → P) × (P → IsTrue (nat_le least size))
counted_test least size n P same enough counted = (λ many. enough (omega (arith, leb-true least size many)), λ is. le-leb least size (omega (arith, counted is)))

two_counted : (es : Expressions) → 2 ≤ count es → HasTwo es
two_counted no_expressions many = absurd (omega (arith, many))
two_counted (and_expression no_expressions e) many = absurd (omega (arith, many))
two_counted (and_expression (and_expression before d) e) many = tt

counted_two : (es : Expressions) → HasTwo es → 2 ≤ count es
counted_two no_expressions two = absurd two
counted_two (and_expression no_expressions e) two = absurd two
counted_two (and_expression (and_expression before d) e) two = omega arith

pub two_test : (es : List Expr) → (IsTrue (nat_le 2 (length es)) → HasTwo (expressions_of es)) × (HasTwo (expressions_of es) → IsTrue (nat_le 2 (length es)))
two_test es =
    counted_test 2 (length es) (count (expressions_of es)) (HasTwo (expressions_of es)) (count_behind no_expressions (map expression_of es) ∙ zero-add (length (map expression_of es)) ∙ length-map es expression_of) (two_counted (expressions_of es)) (counted_two (expressions_of es))

some_variable : (vs : Variables) → 1 ≤ count_variables vs → IsVariableList vs
some_variable no_variables many = absurd (omega (arith, many))
some_variable (and_variable before at o n d) many = tt

variable_counted : (vs : Variables) → IsVariableList vs → 1 ≤ count_variables vs
variable_counted no_variables some = absurd some
variable_counted (and_variable before at o n d) some = omega arith

pub variable_test : (bounds : List Bound) → (IsTrue (nat_le 1 (length bounds)) → IsVariableList (variables_of bounds)) × (IsVariableList (variables_of bounds) → IsTrue (nat_le 1 (length bounds)))
variable_test bounds =
    counted_test 1 (length bounds) (count_variables (variables_of bounds)) (IsVariableList (variables_of bounds)) (count_variables_behind no_variables (map variable_of bounds) ∙ zero-add (length (map variable_of bounds)) ∙ length-map bounds variable_of) (some_variable (variables_of bounds)) (variable_counted (variables_of bounds))

some_part : (parts : Parts) → 1 ≤ count_parts parts → IsPartList parts
some_part no_parts many = absurd (omega (arith, many))
some_part (and_part before at n value) many = tt

part_counted : (parts : Parts) → IsPartList parts → 1 ≤ count_parts parts
part_counted no_parts some = absurd some
part_counted (and_part before at n value) some = omega arith

pub part_test : (parts : List LetPart) → (IsTrue (nat_le 1 (length parts)) → IsPartList (parts_of parts)) × (IsPartList (parts_of parts) → IsTrue (nat_le 1 (length parts)))
part_test parts =
    counted_test 1 (length parts) (count_parts (parts_of parts)) (IsPartList (parts_of parts)) (count_parts_behind no_parts (map part_of parts) ∙ zero-add (length (map part_of parts)) ∙ length-map parts part_of) (some_part (parts_of parts)) (part_counted (parts_of parts))

-- orders

order_before : (o : Order) (before : Variables) (bounds : List Bound) → AreOfOrder o (variables_behind before (map variable_of bounds)) → AreOfOrder o before
order_before o before [] are = are
order_before o before (b ∷ bs) are = (order_before o (and_variable before (variable_of b).at (variable_of b).order (variable_of b).name (variable_of b).domain) bs are).0

order_prefix : (o : Order) (before : Variables) (bounds : List Bound) (k : ℕ) → AreOfOrder o (variables_behind before (map variable_of bounds)) → AreOfOrder o (variables_behind before (map variable_of (take k bounds)))
order_prefix o before bounds zero are = order_before o before bounds are
order_prefix o before [] (suc k) are = are
order_prefix o before (b ∷ bs) (suc k) are = order_prefix o (and_variable before (variable_of b).at (variable_of b).order (variable_of b).name (variable_of b).domain) bs k are

pub order_step : (o : Order) (bounds : List Bound) (i : ℕ) (x : Bound) → i < length bounds → x ≡ get_or bounds i x → AreOfOrder o (variables_of (take i bounds)) → (out-Bound x).order ≡ o → AreOfOrder o (variables_of (take (i + 1) bounds))
order_step o bounds i x within at so_far here = subst (AreOfOrder o) (sym (variables_more bounds i x within at)) (so_far, (order_read x ∙ here))

pub order_stop : (o : Order) (bounds : List Bound) (i : ℕ) (x : Bound) → i < length bounds → x ≡ get_or bounds i x → AreOfOrder o (variables_of bounds) → (out-Bound x).order ≡ o
order_stop o bounds i x within at are = sym (order_read x) ∙ (subst (AreOfOrder o) (variables_more bounds i x within at) (order_prefix o no_variables bounds (i + 1) are)).1
