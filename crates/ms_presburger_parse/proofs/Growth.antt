-- With each symbol the shortest formula that begins so becomes deeper or stays as deep as it was.
use Rattle.std.proofs.Common.{◌≡◌, ℕ, suc, ◌≤◌, max, List, [], ◌∷◌, ◌++◌, Option, Some, None, Bool, refl, sym, subst, inl, inr, arith}
use Rattle.std.specs.Prelude.{IfSome, if◌then◌else◌}
use Rattle.std.proofs.lemmas.Bool.{cases_Bool}
use Rattle.ms_logic.specs.declared.mode.Quant.{Quant}
use Rattle.ms_logic.specs.declared.mode.Rel.{Rel}
use Rattle.ms_presburger.specs.declared.linear.Part.{Part}
use Rattle.ms_presburger.specs.declared.linear.Part.TheVariants.{Number, Var, Times}
use Rattle.ms_presburger.specs.Tree.{Arithmetic, truth, falsity, depth}
use Rattle.ms_parse_stack.specs.inner.Frames.{in_brackets, behind_prefix, inside}
use Rattle.ms_parse_stack.specs.inner.Machine.{GoesOn, moves}
use Rattle.ms_parse_stack.proofs.Growth as growth
use Rattle.ms_parse_stack.proofs.Growth.{IsGrowing}
use Rattle.ms_presburger_parse.specs.Grammar.{compares}
use Rattle.ms_presburger_parse.specs.Symbol.{Symbol, name, number, word_true, word_false, quantifier, negation_sign, infix_operator, joining, relation, plus, comma, colon, open_bracket, close_bracket, semicolon, other}
use Rattle.ms_presburger_parse.specs.declared.operator.Prefix.TheVariants.{Negation}
use Rattle.ms_presburger_parse.specs.inner.Machine.{Frame, machine, action, Side, on_left, on_right, Place, wanted, naming, named, adding, added, with_number, times, with_name, with_plus, with_relation, with_quantifier, with_comma, with_leaf, opening, body, State, run, compared, completed, shortest}
use Rattle.ms_presburger_parse.specs.inner.States.{BecomesTwo, KeepsDepth}
use Rattle.ms_presburger_parse.proofs.Groupings.{levelled}
use Rattle.ms_presburger_parse.specs.inner.Deep.{deep}

pub depth-compared : (side : Side) (parts : List Part) → depth (compared side parts) ≡ 2
depth-compared on_left parts = refl
depth-compared (on_right r left) parts = refl

-- numbers, names and quantifiers make the innermost formula two deep

pub number_two : (n : ℕ) → BecomesTwo (with_number n)
number_two n wanted = (omega arith, refl)
number_two n (adding side parts) = (omega (arith, depth-compared side (parts ++ Number 0 ∷ [])), depth-compared side (parts ++ Number n ∷ []))
number_two n _ = tt

times_two : (side : Side) (before : List Part) (x : List ℕ) (last : Part) → IfSome (times side before x last) (λ q. (depth (completed (added side before last)) ≤ 2) × (depth (completed q) ≡ 2))
times_two side before x (Number n) = (omega (arith, depth-compared side (before ++ Number n ∷ [])), depth-compared side (before ++ Times n x ∷ []))
times_two side before x (Var y) = tt
times_two side before x (Times n y) = tt

pub name_two : (x : List ℕ) → BecomesTwo (with_name x)
name_two x wanted = (omega arith, refl)
name_two x (naming q xs) = (omega arith, refl)
name_two x (adding side parts) = (omega (arith, depth-compared side (parts ++ Number 0 ∷ [])), depth-compared side (parts ++ Var x ∷ []))
name_two x (added side before last) = times_two side before x last
name_two x _ = tt

pub quantifier_two : (q : Quant) → BecomesTwo (with_quantifier q)
quantifier_two q wanted = (omega arith, refl)
quantifier_two q _ = tt

-- the other symbols within it keep the depth

pub plus_keeps : KeepsDepth with_plus
plus_keeps (added side before last) = omega (arith, depth-compared side ((before ++ last ∷ []) ++ Number 0 ∷ []), depth-compared side (before ++ last ∷ []))
plus_keeps _ = tt

pub relation_keeps : (r : Rel) → KeepsDepth (with_relation r)
relation_keeps r (added on_left before last) =
    let next = Some (adding (on_right r (before ++ last ∷ [])) []) in
    let P : Bool → Type 0 = λ b. IfSome (if b then next else None) (λ q. depth (completed q) ≡ 2) in
    elim (cases_Bool (compares r)) [
      | inl e ↦ subst P (sym e) refl
      | inr e ↦ subst P (sym e) tt
    ]
relation_keeps r _ = tt

pub comma_keeps : KeepsDepth with_comma
comma_keeps (named q xs) = refl
comma_keeps _ = tt

pub leaf_keeps : (f : Arithmetic) → depth f ≡ 1 → KeepsDepth (with_leaf f)
leaf_keeps f leaf wanted = leaf
leaf_keeps f leaf _ = tt

grows_some : (p : Place) (next : Option Place) → IfSome next (λ q. depth (completed q) ≡ depth (completed p)) → IfSome next (λ q. depth (completed p) ≤ depth (completed q))
grows_some p (Some q) same = omega (arith, same)
grows_some p None same = tt

keeps_grows : (move : Place → Option Place) → KeepsDepth move → IsGrowing machine depth (moves move)
keeps_grows move keeps p = grows_some p (move p) (keeps p)

grows_two : (p : Place) (next : Option Place) → IfSome next (λ q. (depth (completed p) ≤ 2) × (depth (completed q) ≡ 2)) → IfSome next (λ q. depth (completed p) ≤ depth (completed q))
grows_two p (Some q) h = omega (arith, h.0, h.1)
grows_two p None h = tt

two_grows : (move : Place → Option Place) → BecomesTwo move → IsGrowing machine depth (moves move)
two_grows move two p = grows_two p (move p) (two p)

abbrev Deeper : Place → Option Frame → Type 0
Deeper p next = IfSome next (λ frame. depth (completed p) ≤ suc (max (inside depth frame) 1))

opening_grows : (frame : Frame) (p : Place) → Deeper p (opening frame p)
opening_grows frame wanted = omega arith
opening_grows frame _ = tt

body_grows : (p : Place) → Deeper p (body p)
body_grows (named q xs) = omega arith
body_grows _ = tt

grows : (x : Symbol) → IsGrowing machine depth (action x)
grows (name x) = two_grows (with_name x) (name_two x)
grows (number n) = two_grows (with_number n) (number_two n)
grows word_true = keeps_grows (with_leaf truth) (leaf_keeps truth refl)
grows word_false = keeps_grows (with_leaf falsity) (leaf_keeps falsity refl)
grows (quantifier q) = two_grows (with_quantifier q) (quantifier_two q)
grows negation_sign = opening_grows (behind_prefix Negation)
grows (infix_operator op) = tt
grows (joining op) = tt
grows (relation r) = keeps_grows (with_relation r) (relation_keeps r)
grows plus = keeps_grows with_plus plus_keeps
grows comma = keeps_grows with_comma comma_keeps
grows colon = body_grows
grows open_bracket = opening_grows in_brackets
grows close_bracket = tt
grows semicolon = tt
grows other = tt

pub run_grows : (s : State) (xs : List Symbol) → GoesOn (run s xs) → depth (shortest s) ≤ depth (shortest (run s xs))
run_grows s xs on = growth.run_grows machine depth levelled deep action grows s xs on
