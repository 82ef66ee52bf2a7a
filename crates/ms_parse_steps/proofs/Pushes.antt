-- Lists of the code with one more entry.
use Rattle.std.specs.Prelude.{Result, Ok, Err, OnOk}
use Rattle.std.proofs.Common.{◌≡◌, List, [], ◌∷◌, ◌++◌, map, refl}
use Rattle.ms_parse_grammar.specs.Tree.{Expression, Expressions, and_expression, Variables, and_variable, Parts, and_part}
use Rattle.ms_parse_grammar.specs.View.{Variable, Part, expressions_behind, variables_behind, parts_behind}

pub expressions_push : {X : Type 0} (f : X → Expression) (before : Expressions) (xs : List X) (x : X) → expressions_behind before (map f (xs ++ x ∷ [])) ≡ and_expression (expressions_behind before (map f xs)) (f x)
expressions_push f before [] x = refl
expressions_push f before (y ∷ ys) x = expressions_push f (and_expression before (f y)) ys x

pub variables_push : {X : Type 0} (f : X → Variable) (before : Variables) (xs : List X) (x : X)
    → variables_behind before (map f (xs ++ x ∷ [])) ≡ and_variable (variables_behind before (map f xs)) (f x).at (f x).order (f x).name (f x).domain
variables_push f before [] x = refl
variables_push f before (y ∷ ys) x = variables_push f (and_variable before (f y).at (f y).order (f y).name (f y).domain) ys x

pub parts_push : {X : Type 0} (f : X → Part) (before : Parts) (xs : List X) (x : X) → parts_behind before (map f (xs ++ x ∷ [])) ≡ and_part (parts_behind before (map f xs)) (f x).at (f x).name (f x).value
parts_push f before [] x = refl
parts_push f before (y ∷ ys) x = parts_push f (and_part before (f y).at (f y).name (f y).value) ys x

pub on_ok : {T E : Type 0} (r : Result T E) (P Q : Type 0) → (P → Q) → OnOk r P → OnOk r Q
on_ok (Ok x) P Q f p = f p
on_ok (Err e) P Q f p = tt
