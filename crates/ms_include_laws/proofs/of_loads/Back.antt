-- Each tree of the code is the only one of its mathematical tree: it is made from that tree again.
use Rattle.std.proofs.Common.{◌≡◌, ℕ, List, [], ◌∷◌, ◌++◌, map, Option, Some, None, refl, sym, ap, ◌∙◌, subst, append-nil}
use Rattle.ms_list.specs.declared.at.At.{At}
use Rattle.ms_logic.specs.declared.mode.Order.{Order}
use Rattle.ms_logic.specs.declared.source.Bound.{Bound, roll-Bound, map-Bound}
use Rattle.ms_logic.specs.declared.source.Decl.{Decl}
use Rattle.ms_logic.specs.declared.source.Decl.TheVariants as decls
use Rattle.ms_logic.specs.declared.source.Expr.{Expr, roll-Expr, map-Expr}
use Rattle.ms_logic.specs.declared.source.Form.{Form, roll-Form, map-Form}
use Rattle.ms_logic.specs.declared.source.Form.TheFolds.{fold-roll-Form, fold-roll-Bound, fold-roll-Expr, fold-roll-LetPart, ind-Expr, ind-Bound}
use Rattle.ms_logic.specs.declared.source.Form.TheOpen.{Form-F, Bound-F, Expr-F, LetPart-F}
use Rattle.ms_logic.specs.declared.source.Item.{Item}
use Rattle.ms_logic.specs.declared.source.LetPart.{LetPart, roll-LetPart, map-LetPart}
use Rattle.ms_logic.specs.declared.source.Source.{Source}
use Rattle.ms_parse_grammar.specs.declared.operator.Prefix.{Prefix}
use Rattle.ms_parse_grammar.specs.declared.operator.Prefix.TheVariants.{Negation, Minimum, Maximum}
use Rattle.ms_parse_grammar.specs.declared.operator.Binary.{Binary}
use Rattle.ms_parse_grammar.specs.declared.operator.Binary.TheVariants.{Implication, Equivalence, Relation, Union, Intersection, Difference}
use Rattle.ms_parse_grammar.specs.declared.operator.Junction.{Junction}
use Rattle.ms_parse_grammar.specs.declared.operator.Junction.TheVariants.{Conjunction, Disjunction}
use Rattle.ms_parse_grammar.specs.declared.operator.Bracket.{Bracket}
use Rattle.ms_parse_grammar.specs.declared.operator.Bracket.TheVariants.{Parentheses, Emptiness, Restriction, Export}
use Rattle.ms_parse_grammar.specs.declared.operator.Listing.{Listing}
use Rattle.ms_parse_grammar.specs.declared.operator.Listing.TheVariants.{Literal, Call}
use Rattle.ms_parse_grammar.specs.Tree.{Atom, truth, falsity, whole, empty_set, named, numeral, pconst, imported, Expression, atom, prefixed, binary, joined, shifted, enclosed, listed, quantified, let_in, Expressions, no_expressions, and_expression, Variables, no_variables, and_variable, Domain, unrestricted, restricted, Parts, no_parts, and_part, Declaration, variables, constant, predicate, included, default_restriction, formula, goal, Declared, Document}
use Rattle.ms_parse_grammar.specs.View.{Variable, Part, form_at, variable_at, expression_at, part_at, expression_of, variable_of, part_of, form_of, expressions_of, variables_of, parts_of, declaration_of, declared_of, document_of, expressions_behind, variables_behind, parts_behind}

-- one level of a tree of the code, over what stands below it
abbrev Layer : Type 0
Layer = Form-F Form Bound Expr LetPart

abbrev made : At → Layer → Expr
made at form = record { at = at; form = roll-Form form }

abbrev bound : At → Order → List ℕ → Option Expr → Bound
bound at o n d = roll-Bound (record { at = at; order = o; name = n; domain = d })

abbrev part : At → List ℕ → Expr → LetPart
part at n value = record { at = at; name = n; value = value }

abbrev atom_back : Atom → Layer
atom_back truth = Form-F.True
atom_back falsity = Form-F.False
atom_back whole = Form-F.Whole
atom_back empty_set = Form-F.EmptySet
atom_back (named n) = Form-F.Name n
atom_back (numeral n) = Form-F.Number n
atom_back (pconst n) = Form-F.Pconst n
atom_back (imported file pairs) = Form-F.Import file pairs

abbrev prefixed_back : Prefix → Expr → Layer
prefixed_back Negation e = Form-F.Not e
prefixed_back Minimum e = Form-F.Min e
prefixed_back Maximum e = Form-F.Max e

abbrev binary_back : Binary → Expr → Expr → Layer
binary_back Implication l r = Form-F.Implies l r
binary_back Equivalence l r = Form-F.Iff l r
binary_back (Relation k) l r = Form-F.Relation k l r
binary_back Union l r = Form-F.Union l r
binary_back Intersection l r = Form-F.Inter l r
binary_back Difference l r = Form-F.Minus l r

abbrev joined_back : Junction → List Expr → Layer
joined_back Conjunction es = Form-F.And es
joined_back Disjunction es = Form-F.Or es

abbrev enclosed_back : Bracket → Expr → Layer
enclosed_back Parentheses e = Form-F.Paren e
enclosed_back Emptiness e = Form-F.IsEmpty e
enclosed_back Restriction e = Form-F.Restrict e
enclosed_back (Export at file) e = Form-F.Export at file e

abbrev listed_back : Listing → List Expr → Layer
listed_back Literal es = Form-F.Literal es
listed_back (Call p) es = Form-F.Call p es

-- The tree of the code of a mathematical tree; a list, before those that are made already.
mutual
  back : Expression → Expr
  back (atom at a) = made at (atom_back a)
  back (prefixed at op e) = made at (prefixed_back op (back e))
  back (binary at op l r) = made at (binary_back op (back l) (back r))
  back (joined at op es) = made at (joined_back op (list_back es []))
  back (shifted at e n) = made at (Form-F.Shift (back e) n)
  back (enclosed at b e) = made at (enclosed_back b (back e))
  back (listed at l es) = made at (listed_back l (list_back es []))
  back (quantified at q o vs body) = made at (Form-F.Bind q o (bounds_back vs []) (back body))
  back (let_in at o parts body) = made at (Form-F.Let o (parts_back parts []) (back body))

  list_back : Expressions → List Expr → List Expr
  list_back no_expressions done = done
  list_back (and_expression before e) done = list_back before (back e ∷ done)

  domain_back : Domain → Option Expr
  domain_back unrestricted = None
  domain_back (restricted d) = Some (back d)

  bounds_back : Variables → List Bound → List Bound
  bounds_back no_variables done = done
  bounds_back (and_variable before at o n d) done = bounds_back before (bound at o n (domain_back d) ∷ done)

  parts_back : Parts → List LetPart → List LetPart
  parts_back no_parts done = done
  parts_back (and_part before at n value) done = parts_back before (part at n (back value) ∷ done)

abbrev bound_back : Variable → Bound
bound_back v = bound v.at v.order v.name (domain_back v.domain)

abbrev part_back : Part → LetPart
part_back p = part p.at p.name (back p.value)

-- lists are made from the left

listed_behind : (before : Expressions) (es : List Expression) (done : List Expr) → list_back (expressions_behind before es) done ≡ list_back before (map back es ++ done)
unfolding list_back
listed_behind before [] done = refl
listed_behind before (e ∷ es) done = listed_behind (and_expression before e) es done

bounds_behind : (before : Variables) (vs : List Variable) (done : List Bound) → bounds_back (variables_behind before vs) done ≡ bounds_back before (map bound_back vs ++ done)
unfolding bounds_back
bounds_behind before [] done = refl
bounds_behind before (v ∷ vs) done = bounds_behind (and_variable before v.at v.order v.name v.domain) vs done

letparts_behind : (before : Parts) (ps : List Part) (done : List LetPart) → parts_back (parts_behind before ps) done ≡ parts_back before (map part_back ps ++ done)
unfolding parts_back
letparts_behind before [] done = refl
letparts_behind before (p ∷ ps) done = letparts_behind (and_part before p.at p.name p.value) ps done

-- what is made again

abbrev ExprBack : Expr → Type 0
ExprBack e = back (expression_of e) ≡ e

abbrev FormBack : Form → Type 0
FormBack f = (at : At) → back (form_of f at) ≡ record { at = at; form = f }

abbrev BoundBack : Bound → Type 0
BoundBack b = bound_back (variable_of b) ≡ b

abbrev PartBack : LetPart → Type 0
PartBack p = part_back (part_of p) ≡ p

abbrev Given : {A : Type 0} → (A → Type 0) → Type 0
Given {A = A} P = (x : A) × P x

each_back : {A B : Type 0} (there : A → B) (again : B → A) (xs : List (Given (λ (x : A). again (there x) ≡ x))) → map again (map there (map (λ x. x.0) xs)) ≡ map (λ x. x.0) xs
each_back there again [] = refl
each_back there again (x ∷ xs) = ap (λ y. y ∷ map again (map there (map (λ z. z.0) xs))) x.1 ∙ ap (λ ys. x.0 ∷ ys) (each_back there again xs)

expressions_again : (es : List (Given ExprBack)) → list_back (expressions_of (map (λ e. e.0) es)) [] ≡ map (λ e. e.0) es
unfolding list_back
expressions_again es =
    listed_behind no_expressions (map expression_of (map (λ e. e.0) es)) []
    ∙ (append-nil (map back (map expression_of (map (λ e. e.0) es))) ∙ each_back expression_of back es)

bounds_again : (vs : List (Given BoundBack)) → bounds_back (variables_of (map (λ e. e.0) vs)) [] ≡ map (λ e. e.0) vs
unfolding bounds_back
bounds_again vs =
    bounds_behind no_variables (map variable_of (map (λ e. e.0) vs)) []
    ∙ (append-nil (map bound_back (map variable_of (map (λ e. e.0) vs))) ∙ each_back variable_of bound_back vs)

letparts_again : (ps : List (Given PartBack)) → parts_back (parts_of (map (λ e. e.0) ps)) [] ≡ map (λ e. e.0) ps
unfolding parts_back
letparts_again ps =
    letparts_behind no_parts (map part_of (map (λ e. e.0) ps)) []
    ∙ (append-nil (map part_back (map part_of (map (λ e. e.0) ps))) ∙ each_back part_of part_back ps)

-- a layer whose parts are made again
abbrev LayerAgain : Type 0
LayerAgain = Form-F (Given FormBack) (Given BoundBack) (Given ExprBack) (Given PartBack)

abbrev below : LayerAgain → Layer
below y = map-Form (Given FormBack) (Given BoundBack) (Given ExprBack) (Given PartBack) Form Bound Expr LetPart (λ f. f.0) (λ b. b.0) (λ e. e.0) (λ p. p.0) y

abbrev level : Layer → Form-F (At → Expression) Variable Expression Part
level x = map-Form Form Bound Expr LetPart (At → Expression) Variable Expression Part form_of variable_of expression_of part_of x

pair_again : (at : At) (make : Expr → Expr → Layer) (l r : Given ExprBack) → made at (make (back (expression_of l.0)) (back (expression_of r.0))) ≡ made at (make l.0 r.0)
pair_again at make l r = ap (λ x. made at (make x (back (expression_of r.0)))) l.1 ∙ ap (λ y. made at (make l.0 y)) r.1

layer_again : (at : At) (y : LayerAgain) → back (form_at (level (below y)) at) ≡ made at (below y)
unfolding back
layer_again at Form-F.True = refl
layer_again at Form-F.False = refl
layer_again at Form-F.Whole = refl
layer_again at Form-F.EmptySet = refl
layer_again at (Form-F.Name n) = refl
layer_again at (Form-F.Number n) = refl
layer_again at (Form-F.Pconst n) = refl
layer_again at (Form-F.Paren e) = ap (λ x. made at (Form-F.Paren x)) e.1
layer_again at (Form-F.Literal es) = ap (λ x. made at (Form-F.Literal x)) (expressions_again es)
layer_again at (Form-F.Call p es) = ap (λ x. made at (Form-F.Call p x)) (expressions_again es)
layer_again at (Form-F.Not e) = ap (λ x. made at (Form-F.Not x)) e.1
layer_again at (Form-F.And es) = ap (λ x. made at (Form-F.And x)) (expressions_again es)
layer_again at (Form-F.Or es) = ap (λ x. made at (Form-F.Or x)) (expressions_again es)
layer_again at (Form-F.Implies l r) = pair_again at (λ x y. Form-F.Implies x y) l r
layer_again at (Form-F.Iff l r) = pair_again at (λ x y. Form-F.Iff x y) l r
layer_again at (Form-F.Relation k l r) = pair_again at (λ x y. Form-F.Relation k x y) l r
layer_again at (Form-F.IsEmpty e) = ap (λ x. made at (Form-F.IsEmpty x)) e.1
layer_again at (Form-F.Union l r) = pair_again at (λ x y. Form-F.Union x y) l r
layer_again at (Form-F.Inter l r) = pair_again at (λ x y. Form-F.Inter x y) l r
layer_again at (Form-F.Minus l r) = pair_again at (λ x y. Form-F.Minus x y) l r
layer_again at (Form-F.Shift e n) = ap (λ x. made at (Form-F.Shift x n)) e.1
layer_again at (Form-F.Min e) = ap (λ x. made at (Form-F.Min x)) e.1
layer_again at (Form-F.Max e) = ap (λ x. made at (Form-F.Max x)) e.1
layer_again at (Form-F.Bind q o vs e) =
    ap (λ x. made at (Form-F.Bind q o x (back (expression_of e.0)))) (bounds_again vs) ∙ ap (λ x. made at (Form-F.Bind q o (map (λ v. v.0) vs) x)) e.1
layer_again at (Form-F.Let o ps e) =
    ap (λ x. made at (Form-F.Let o x (back (expression_of e.0)))) (letparts_again ps) ∙ ap (λ x. made at (Form-F.Let o (map (λ p. p.0) ps) x)) e.1
layer_again at (Form-F.Restrict e) = ap (λ x. made at (Form-F.Restrict x)) e.1
layer_again at (Form-F.Import file pairs) = refl
layer_again at (Form-F.Export at_text file e) = ap (λ x. made at (Form-F.Export at_text file x)) e.1

form_again : (x : Layer) (y : LayerAgain) → below y ≡ x → FormBack (roll-Form x)
form_again x y is at =
    ap (λ (k : At → Expression). back (k at)) (fold-roll-Form (At → Expression) Variable Expression Part form_at variable_at expression_at part_at x)
    ∙ subst (λ z. back (form_at (level z) at) ≡ made at z) is (layer_again at y)

abbrev BoundAgain : Type 0
BoundAgain = Bound-F (Given FormBack) (Given BoundBack) (Given ExprBack) (Given PartBack)

abbrev bound_below : BoundAgain → Bound-F Form Bound Expr LetPart
bound_below y = map-Bound (Given FormBack) (Given BoundBack) (Given ExprBack) (Given PartBack) Form Bound Expr LetPart (λ f. f.0) (λ b. b.0) (λ e. e.0) (λ p. p.0) y

abbrev bound_level : Bound-F Form Bound Expr LetPart → Bound-F (At → Expression) Variable Expression Part
bound_level x = map-Bound Form Bound Expr LetPart (At → Expression) Variable Expression Part form_of variable_of expression_of part_of x

bound_layer_again : (at : At) (o : Order) (n : List ℕ) (d : Option (Given ExprBack)) →
    let y : BoundAgain = record { at = at; order = o; name = n; domain = d } in bound_back (variable_at (bound_level (bound_below y))) ≡ roll-Bound (bound_below y)
unfolding domain_back
bound_layer_again at o n None = refl
bound_layer_again at o n (Some e) = ap (λ x. bound at o n (Some x)) e.1

bound_again : (x : Bound-F Form Bound Expr LetPart) (y : BoundAgain) → bound_below y ≡ x → BoundBack (roll-Bound x)
bound_again x y is =
    ap bound_back (fold-roll-Bound (At → Expression) Variable Expression Part form_at variable_at expression_at part_at x)
    ∙ subst (λ z. bound_back (variable_at (bound_level z)) ≡ roll-Bound z) is (bound_layer_again y.at y.order y.name y.domain)

abbrev ExprAgain : Type 0
ExprAgain = Expr-F (Given FormBack) (Given BoundBack) (Given ExprBack) (Given PartBack)

abbrev expr_below : ExprAgain → Expr-F Form Bound Expr LetPart
expr_below y = map-Expr (Given FormBack) (Given BoundBack) (Given ExprBack) (Given PartBack) Form Bound Expr LetPart (λ f. f.0) (λ b. b.0) (λ e. e.0) (λ p. p.0) y

expr_again : (x : Expr-F Form Bound Expr LetPart) (y : ExprAgain) → expr_below y ≡ x → ExprBack (roll-Expr x)
expr_again x y is =
    ap back (fold-roll-Expr (At → Expression) Variable Expression Part form_at variable_at expression_at part_at x)
    ∙ subst (λ (z : Expr-F Form Bound Expr LetPart). back (form_of z.form z.at) ≡ roll-Expr z) is (y.form.1 y.at)

abbrev PartAgain : Type 0
PartAgain = LetPart-F (Given FormBack) (Given BoundBack) (Given ExprBack) (Given PartBack)

abbrev part_below : PartAgain → LetPart-F Form Bound Expr LetPart
part_below y = map-LetPart (Given FormBack) (Given BoundBack) (Given ExprBack) (Given PartBack) Form Bound Expr LetPart (λ f. f.0) (λ b. b.0) (λ e. e.0) (λ p. p.0) y

part_again : (x : LetPart-F Form Bound Expr LetPart) (y : PartAgain) → part_below y ≡ x → PartBack (roll-LetPart x)
part_again x y is =
    ap part_back (fold-roll-LetPart (At → Expression) Variable Expression Part form_at variable_at expression_at part_at x)
    ∙ subst (λ (z : LetPart-F Form Bound Expr LetPart). part z.at z.name (back (expression_of z.value)) ≡ roll-LetPart z) is (ap (part y.at y.name) y.value.1)

expression_again : (e : Expr) → ExprBack e
expression_again = ind-Expr FormBack BoundBack ExprBack PartBack (λ x y is. form_again x y is) (λ x y is. bound_again x y is) (λ x y is. expr_again x y is) (λ x y is. part_again x y is)

variable_again : (b : Bound) → BoundBack b
variable_again = ind-Bound FormBack BoundBack ExprBack PartBack (λ x y is. form_again x y is) (λ x y is. bound_again x y is) (λ x y is. expr_again x y is) (λ x y is. part_again x y is)

-- declarations

maps_back : {A B : Type 0} (there : A → B) (again : B → A) → ((x : A) → again (there x) ≡ x) → (xs : List A) → map again (map there xs) ≡ xs
maps_back there again back_again [] = refl
maps_back there again back_again (x ∷ xs) = ap (λ y. y ∷ map again (map there xs)) (back_again x) ∙ ap (λ ys. x ∷ ys) (maps_back there again back_again xs)

-- the declaration of the code of a mathematical one
abbrev declaration_back : Declaration → Decl
declaration_back (variables vs) = decls.Vars (bounds_back vs [])
declaration_back (constant at n sum) = decls.Const at n sum
declaration_back (predicate is_pred at n parameters body) = decls.Pred is_pred at n (bounds_back parameters []) (back body)
declaration_back (included at file) = decls.Include at file
declaration_back (default_restriction o n body) = decls.Default o n (back body)
declaration_back (formula e) = decls.Formula (back e)
declaration_back (goal at title e) = decls.Goal at title (back e)

variables_again : (vs : List Bound) → bounds_back (variables_of vs) [] ≡ vs
unfolding bounds_back
variables_again vs =
    bounds_behind no_variables (map variable_of vs) []
    ∙ (append-nil (map bound_back (map variable_of vs)) ∙ maps_back variable_of bound_back variable_again vs)

declaration_again : (d : Decl) → declaration_back (declaration_of d) ≡ d
declaration_again (decls.Vars bounds) = ap (λ x. decls.Vars x) (variables_again bounds)
declaration_again (decls.Const at n sum) = refl
declaration_again (decls.Pred is_pred at n bounds body) =
    ap (λ x. decls.Pred is_pred at n x (back (expression_of body))) (variables_again bounds) ∙ ap (λ x. decls.Pred is_pred at n bounds x) (expression_again body)
declaration_again (decls.Include at file) = refl
declaration_again (decls.Default o n body) = ap (λ x. decls.Default o n x) (expression_again body)
declaration_again (decls.Formula e) = ap (λ x. decls.Formula x) (expression_again e)
declaration_again (decls.Goal at title e) = ap (λ x. decls.Goal at title x) (expression_again e)

abbrev item_back : Declared → Item
item_back d = record { at = d.at; decl = declaration_back d.declaration }

item_again : (item : Item) → item_back (declared_of item) ≡ item
item_again item = ap (λ (d : Decl). let same : Item = record { at = item.at; decl = d } in same) (declaration_again item.decl)

abbrev source_back : Document → Source
source_back d = record { header = d.header; items = map item_back d.declarations }

source_again : (source : Source) → source_back (document_of source) ≡ source
source_again source = ap (λ (items : List Item). let same : Source = record { header = source.header; items = items } in same) (maps_back declared_of item_back item_again source.items)

-- sources of one document are one
pub one_source : (one other : Source) → document_of one ≡ document_of other → one ≡ other
one_source one other same = sym (source_again one) ∙ (ap source_back same ∙ source_again other)
