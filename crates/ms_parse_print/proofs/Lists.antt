-- What is printed for one entry more of a list.
use Rattle.std.proofs.Common.{rules, ◌≡◌, ℕ, zero, suc, ◌+◌, ◌<◌, List, [], ◌∷◌, ◌++◌, length, take, get_or, map, refl, sym, ap, ◌∙◌, arith, add-one}
use Rattle.std.proofs.lemmas.List.{length-take, length-map}
use Rattle.ms_list.specs.declared.at.At.{At}
use Rattle.ms_logic.specs.declared.mode.Order.{Order}
use Rattle.ms_logic.specs.declared.mode.Rel.TheVariants.{Equal}
use Rattle.ms_logic.specs.declared.source.Bound.{Bound, out-Bound}
use Rattle.ms_logic.specs.declared.source.Form.{the_lemmas}
use Rattle.ms_logic.specs.declared.source.Expr.{Expr}
use Rattle.ms_logic.specs.declared.source.LetPart.{LetPart}
use Rattle.ms_parse_grammar.specs.declared.operator.Binary.TheVariants.{Relation}
use Rattle.ms_parse_grammar.specs.Symbol.{Symbol, name, comma, infix_operator, open_round, close_round}
use Rattle.ms_parse_grammar.specs.Tree.{Expression, Expressions, no_expressions, and_expression, Variables, no_variables, and_variable, Domain, Parts, no_parts, and_part}
use Rattle.ms_parse_grammar.specs.View.{Variable, Part, expressions_behind, variables_behind, parts_behind, expression_of, variable_of, part_of, expressions_of, variables_of, parts_of}
use Rattle.ms_parse_print.specs.inner.Printed.{separated, printed, printed_all, printed_domain, printed_variables, printed_parts, printed_parameters, printed_parameter_list, first_order}

-- one entry more at the end of the list of the code is one more at the end of the tree's

pub expressions_push : (before : Expressions) (es : List Expression) (e : Expression) → expressions_behind before (es ++ e ∷ []) ≡ and_expression (expressions_behind before es) e
expressions_push before [] e = refl
expressions_push before (x ∷ es) e = expressions_push (and_expression before x) es e

pub variables_push : (before : Variables) (vs : List Variable) (v : Variable) → variables_behind before (vs ++ v ∷ []) ≡ and_variable (variables_behind before vs) v.at v.order v.name v.domain
variables_push before [] v = refl
variables_push before (x ∷ vs) v = variables_push (and_variable before x.at x.order x.name x.domain) vs v

pub parts_push : (before : Parts) (ps : List Part) (p : Part) → parts_behind before (ps ++ p ∷ []) ≡ and_part (parts_behind before ps) p.at p.name p.value
parts_push before [] p = refl
parts_push before (x ∷ ps) p = parts_push (and_part before x.at x.name x.value) ps p

pub map_more : {X Y : Type 0} (f : X → Y) (xs : List X) (i : ℕ) (x : X) → i < length xs → x ≡ get_or xs i x → map f (take (i + 1) xs) ≡ map f (take i xs) ++ f x ∷ []
map_more f [] i x within at = absurd (omega arith)
map_more f (y ∷ xs) zero x within at = ap (λ v. f v ∷ []) (sym at)
map_more f (y ∷ xs) (suc i) x within at =
    let rest = map_more f xs i x (omega arith) at in rw add-one (ap (λ ys. f y ∷ ys) (rw add-one at rest))

pub expressions_more : (es : List Expr) (i : ℕ) (x : Expr) → i < length es → x ≡ get_or es i x → expressions_of (take (i + 1) es) ≡ and_expression (expressions_of (take i es)) (expression_of x)
expressions_more es i x within at = ap (expressions_behind no_expressions) (map_more expression_of es i x within at) ∙ expressions_push no_expressions (map expression_of (take i es)) (expression_of x)

pub variables_more : (bounds : List Bound) (i : ℕ) (x : Bound) → i < length bounds → x ≡ get_or bounds i x
    → variables_of (take (i + 1) bounds) ≡ and_variable (variables_of (take i bounds)) (variable_of x).at (variable_of x).order (variable_of x).name (variable_of x).domain
variables_more bounds i x within at = ap (variables_behind no_variables) (map_more variable_of bounds i x within at) ∙ variables_push no_variables (map variable_of (take i bounds)) (variable_of x)

pub parts_more : (parts : List LetPart) (i : ℕ) (x : LetPart) → i < length parts → x ≡ get_or parts i x
    → parts_of (take (i + 1) parts) ≡ and_part (parts_of (take i parts)) (part_of x).at (part_of x).name (part_of x).value
parts_more parts i x within at = ap (parts_behind no_parts) (map_more part_of parts i x within at) ∙ parts_push no_parts (map part_of (take i parts)) (part_of x)

-- how many entries there are

abbrev pub count : Expressions → ℕ
count no_expressions = 0
count (and_expression before e) = suc (count before)

abbrev pub count_variables : Variables → ℕ
count_variables no_variables = 0
count_variables (and_variable before at o n d) = suc (count_variables before)

abbrev pub count_parts : Parts → ℕ
count_parts no_parts = 0
count_parts (and_part before at n value) = suc (count_parts before)

pub count_behind : (before : Expressions) (es : List Expression) → count (expressions_behind before es) ≡ count before + length es
count_behind before [] = omega arith
count_behind before (e ∷ es) = let rest = count_behind (and_expression before e) es in omega arith

pub count_variables_behind : (before : Variables) (vs : List Variable) → count_variables (variables_behind before vs) ≡ count_variables before + length vs
count_variables_behind before [] = omega arith
count_variables_behind before (v ∷ vs) = let rest = count_variables_behind (and_variable before v.at v.order v.name v.domain) vs in omega arith

pub count_parts_behind : (before : Parts) (ps : List Part) → count_parts (parts_behind before ps) ≡ count_parts before + length ps
count_parts_behind before [] = omega arith
count_parts_behind before (p ∷ ps) = let rest = count_parts_behind (and_part before p.at p.name p.value) ps in omega arith

pub count_taken : (es : List Expr) (i : ℕ) → i < length es → count (expressions_of (take i es)) ≡ i
count_taken es i within = let e = count_behind no_expressions (map expression_of (take i es)) in omega (arith, length-map (take i es) expression_of, length-take i es)

pub count_variables_taken : (bounds : List Bound) (i : ℕ) → i < length bounds → count_variables (variables_of (take i bounds)) ≡ i
count_variables_taken bounds i within = let e = count_variables_behind no_variables (map variable_of (take i bounds)) in omega (arith, length-map (take i bounds) variable_of, length-take i bounds)

pub count_parts_taken : (parts : List LetPart) (i : ℕ) → i < length parts → count_parts (parts_of (take i parts)) ≡ i
count_parts_taken parts i within = let e = count_parts_behind no_parts (map part_of (take i parts)) in omega (arith, length-map (take i parts) part_of, length-take i parts)

-- what is printed for the last entry

all_last : {A : Type 0} (f : Symbol → List A) (s : Symbol) (before : Expressions) (e : Expression) → printed_all f s (and_expression before e) ≡ printed_all f s before ++ separated f s (count before) ++ printed f e
all_last f s no_expressions e = refl
all_last f s (and_expression before d) e = refl

variables_last : {A : Type 0} (f : Symbol → List A) (before : Variables) (at : At) (o : Order) (n : List ℕ) (d : Domain)
    → printed_variables f (and_variable before at o n d) ≡ printed_variables f before ++ separated f comma (count_variables before) ++ (f (name n) ++ printed_domain f d)
variables_last f no_variables at o n d = refl
variables_last f (and_variable before at' o' n' d') at o n d = refl

parts_last : {A : Type 0} (f : Symbol → List A) (before : Parts) (at : At) (n : List ℕ) (value : Expression)
    → printed_parts f (and_part before at n value) ≡ printed_parts f before ++ separated f comma (count_parts before) ++ (f (name n) ++ f (infix_operator (Relation Equal)) ++ printed f value)
parts_last f no_parts at n value = refl
parts_last f (and_part before at' n' value') at n value = refl

pub printed_all_more : {A : Type 0} (f : Symbol → List A) (s : Symbol) (es : List Expr) (i : ℕ) (x : Expr) → i < length es → x ≡ get_or es i x
    → printed_all f s (expressions_of (take (i + 1) es)) ≡ printed_all f s (expressions_of (take i es)) ++ separated f s i ++ printed f (expression_of x)
printed_all_more f s es i x within at =
    ap (printed_all f s) (expressions_more es i x within at) ∙ all_last f s (expressions_of (take i es)) (expression_of x)
    ∙ ap (λ k. printed_all f s (expressions_of (take i es)) ++ separated f s k ++ printed f (expression_of x)) (count_taken es i within)

pub printed_variables_more : {A : Type 0} (f : Symbol → List A) (bounds : List Bound) (i : ℕ) (x : Bound) → i < length bounds → x ≡ get_or bounds i x
    → printed_variables f (variables_of (take (i + 1) bounds))
    ≡ printed_variables f (variables_of (take i bounds)) ++ separated f comma i ++ (f (name (variable_of x).name) ++ printed_domain f (variable_of x).domain)
printed_variables_more f bounds i x within at =
    ap (printed_variables f) (variables_more bounds i x within at) ∙ variables_last f (variables_of (take i bounds)) (variable_of x).at (variable_of x).order (variable_of x).name (variable_of x).domain
    ∙ ap (λ k. printed_variables f (variables_of (take i bounds)) ++ separated f comma k ++ (f (name (variable_of x).name) ++ printed_domain f (variable_of x).domain)) (count_variables_taken bounds i within)

pub printed_parts_more : {A : Type 0} (f : Symbol → List A) (parts : List LetPart) (i : ℕ) (x : LetPart) → i < length parts → x ≡ get_or parts i x
    → printed_parts f (parts_of (take (i + 1) parts))
    ≡ printed_parts f (parts_of (take i parts)) ++ separated f comma i ++ (f (name (part_of x).name) ++ f (infix_operator (Relation Equal)) ++ printed f (part_of x).value)
printed_parts_more f parts i x within at =
    ap (printed_parts f) (parts_more parts i x within at) ∙ parts_last f (parts_of (take i parts)) (part_of x).at (part_of x).name (part_of x).value
    ∙ ap (λ k. printed_parts f (parts_of (take i parts)) ++ separated f comma k ++ (f (name (part_of x).name) ++ f (infix_operator (Relation Equal)) ++ printed f (part_of x).value)) (count_parts_taken parts i within)

-- the first variable

first_kept : (before : Variables) (at : At) (o : Order) (n : List ℕ) (d : Domain) (vs : List Variable) → first_order (variables_behind (and_variable before at o n d) vs) ≡ first_order (and_variable before at o n d)
first_kept before at o n d [] = refl
first_kept before at o n d (v ∷ vs) = first_kept (and_variable before at o n d) v.at v.order v.name v.domain vs

pub order_read : (bound : Bound) → (variable_of bound).order ≡ (out-Bound bound).order
order_read bound = search (rules, the_lemmas)

pub first_order_is : (bounds : List Bound) (x : Bound) → 0 < length bounds → x ≡ get_or bounds 0 x → (out-Bound x).order ≡ first_order (variables_of bounds)
first_order_is [] x some at = absurd (omega arith)
first_order_is (bound ∷ bounds) x some at =
    sym (first_kept no_variables (variable_of bound).at (variable_of bound).order (variable_of bound).name (variable_of bound).domain (map variable_of bounds) ∙ order_read bound ∙ ap (λ v. (out-Bound v).order) (sym at))

-- parameters

parameters_last : {A : Type 0} (f : Symbol → List A) (before : Variables) (at : At) (o : Order) (n : List ℕ) (d : Domain)
    → printed_parameters f (and_variable before at o n d) ≡ printed_parameters f before ++ separated f comma (count_variables before) ++ printed_parameters f (and_variable no_variables at o n d)
parameters_last f no_variables at o n d = refl
parameters_last f (and_variable before at' o' n' d') at o n d = refl

pub printed_parameters_more : {A : Type 0} (f : Symbol → List A) (bounds : List Bound) (i : ℕ) (x : Bound) → i < length bounds → x ≡ get_or bounds i x
    → printed_parameters f (variables_of (take (i + 1) bounds))
    ≡ printed_parameters f (variables_of (take i bounds)) ++ separated f comma i ++ printed_parameters f (variables_of (x ∷ []))
printed_parameters_more f bounds i x within at =
    ap (printed_parameters f) (variables_more bounds i x within at) ∙ parameters_last f (variables_of (take i bounds)) (variable_of x).at (variable_of x).order (variable_of x).name (variable_of x).domain
    ∙ ap (λ k. printed_parameters f (variables_of (take i bounds)) ++ separated f comma k ++ printed_parameters f (variables_of (x ∷ []))) (count_variables_taken bounds i within)

listed_in_brackets : {A : Type 0} (f : Symbol → List A) (vs : Variables) → 0 < count_variables vs → printed_parameter_list f vs ≡ f open_round ++ printed_parameters f vs ++ f close_round
listed_in_brackets f no_variables some = absurd (omega arith)
listed_in_brackets f (and_variable before at o n d) some = refl

pub parameters_in_brackets : {A : Type 0} (f : Symbol → List A) (bounds : List Bound) → 0 < length bounds → printed_parameter_list f (variables_of bounds) ≡ f open_round ++ printed_parameters f (variables_of bounds) ++ f close_round
parameters_in_brackets f bounds some =
    listed_in_brackets f (variables_of bounds) (let e = count_variables_behind no_variables (map variable_of bounds) in omega (arith, length-map bounds variable_of))
