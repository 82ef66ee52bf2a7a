-- The symbols that the machine has read, by what it has begun.
use Rattle.std.proofs.Common.{◌≡◌, ℕ, List, [], ◌∷◌, ◌++◌, Option, Some, None, Bool, refl, sym, ap, ◌∙◌, subst, inl, inr, append_assoc, append-nil}
use Rattle.std.specs.Prelude.{IfSome, codes, if◌then◌else◌}
use Rattle.std.proofs.lemmas.Bool.{cases_Bool}
use Rattle.ms_logic.specs.declared.mode.Quant.{Quant}
use Rattle.ms_logic.specs.declared.mode.Rel.{Rel}
use Rattle.ms_logic.specs.declared.mode.Rel.TheVariants.{Equal}
use Rattle.ms_presburger.specs.declared.linear.Part.{Part}
use Rattle.ms_presburger.specs.declared.linear.Part.TheVariants.{Number, Var, Times}
use Rattle.ms_presburger.specs.Tree.{Arithmetic, truth, falsity}
use Rattle.ms_presburger.specs.View.{arithmetics}
use Rattle.ms_parse_stack.specs.declared.junction.Junction.{Junction}
use Rattle.ms_parse_stack.specs.declared.junction.Junction.TheVariants.{Conjunction, Disjunction}
use Rattle.ms_parse_stack.specs.inner.Frames.{in_brackets, behind_prefix}
use Rattle.ms_parse_stack.proofs.Spellings.{Spelling, IsSpelling, IsSaid, AreActing, spelled_behind, spelled_between, said_before}
use Rattle.ms_presburger_parse.specs.Grammar.{spelled, spelled_part, spelled_sum, spelled_names, compares}
use Rattle.ms_presburger_parse.specs.Grammar as grammars
use Rattle.ms_presburger_parse.specs.Symbol.{Symbol, name, number, word_true, word_false, quantifier, negation_sign, infix_operator, joining, relation, plus, comma, colon, open_bracket, close_bracket, semicolon, other}
use Rattle.ms_presburger_parse.specs.declared.operator.Binary.{Binary}
use Rattle.ms_presburger_parse.specs.declared.operator.Binary.TheVariants.{Equivalence, Implication}
use Rattle.ms_presburger_parse.specs.declared.operator.Prefix.{Prefix}
use Rattle.ms_presburger_parse.specs.declared.operator.Prefix.TheVariants.{Negation, Quantifier}
use Rattle.ms_presburger_parse.specs.inner.Machine.{Frame, machine, action, prefixed, binary, joined, Side, on_left, on_right, Place, wanted, naming, named, adding, added, holding, operand, with_number, times, with_name, with_plus, with_relation, with_quantifier, with_comma, with_leaf, opening, body, compared, completed}
use Rattle.ms_presburger_parse.proofs.Separated.{terminated, separated-sign, separated-last, terminated-last}
use Rattle.ms_presburger_parse.proofs.Soundness.{IsSoundPlace, action_sound, grammar}

-- the symbols that have been read of the innermost formula, and those that end it

abbrev pub said_name : List ℕ → List Symbol
said_name x = name x ∷ []

abbrev pub said_side : Side → List Symbol
said_side on_left = []
said_side (on_right r left) = spelled_sum left ++ relation r ∷ []

abbrev pub said_place : Place → List Symbol
said_place wanted = []
said_place (naming q xs) = quantifier q ∷ terminated comma said_name xs
said_place (named q xs) = quantifier q ∷ spelled_names xs
said_place (adding side parts) = said_side side ++ terminated plus spelled_part parts
said_place (added side before last) = said_side side ++ (terminated plus spelled_part before ++ spelled_part last)
said_place (holding f) = spelled f

abbrev pub side_ending : Side → List Symbol
side_ending on_left = relation Equal ∷ number 0 ∷ []
side_ending (on_right r left) = []

abbrev pub ending : Place → List Symbol
ending wanted = word_true ∷ []
ending (naming q xs) = name (codes "x") ∷ colon ∷ word_true ∷ []
ending (named q xs) = colon ∷ word_true ∷ []
ending (adding side parts) = number 0 ∷ side_ending side
ending (added side before last) = side_ending side
ending (holding f) = []

abbrev pub before : Prefix → List Symbol
before Negation = negation_sign ∷ []
before (Quantifier q xs) = quantifier q ∷ spelled_names xs ++ colon ∷ []

abbrev pub spelling : Spelling Prefix Binary Place Arithmetic Symbol
spelling = record {
  spelled = spelled;
  before = before;
  infix_sign = infix_operator;
  joining_sign = joining;
  open_sign = open_bracket;
  close_sign = close_bracket;
  end_sign = semicolon;
  said = said_place;
  ending = ending;
}

prefixed_spelled : (op : Prefix) (f : Arithmetic) → spelled (prefixed op f) ≡ before op ++ spelled f
prefixed_spelled Negation f = refl
prefixed_spelled (Quantifier q xs) f = ap (λ x. quantifier q ∷ x) (sym (append_assoc (spelled_names xs) (colon ∷ []) (spelled f)))

binary_spelled : (op : Binary) (f g : Arithmetic) → spelled (binary op f g) ≡ spelled f ++ infix_operator op ∷ spelled g
binary_spelled Equivalence f g = refl
binary_spelled Implication f g = refl

behind_spelled : (op : Junction) (fs : List Arithmetic) → grammars.spelled_behind op (arithmetics fs) ≡ spelled_behind spelling op fs
behind_spelled op [] = refl
behind_spelled op (f ∷ fs) = ap (λ x. joining op ∷ spelled f ++ x) (behind_spelled op fs)

joined_spelled : (op : Junction) (fs : List Arithmetic) → spelled (joined op fs) ≡ spelled_between spelling op fs
joined_spelled Conjunction [] = refl
joined_spelled Disjunction [] = refl
joined_spelled Conjunction (f ∷ fs) = ap (λ x. spelled f ++ x) (behind_spelled Conjunction fs)
joined_spelled Disjunction (f ∷ fs) = ap (λ x. spelled f ++ x) (behind_spelled Disjunction fs)

-- the innermost formula with what ends it

compared-adding : (side : Side) (parts : List Part) (p : Part) → spelled (compared side (parts ++ p ∷ [])) ≡ said_side side ++ ((terminated plus spelled_part parts ++ spelled_part p) ++ side_ending side)
compared-adding on_left parts p = ap (λ x. x ++ relation Equal ∷ number 0 ∷ []) (separated-last plus spelled_part parts p)
compared-adding (on_right r left) parts p =
    ap (λ x. spelled_sum left ++ (relation r ∷ x)) (separated-last plus spelled_part parts p ∙ sym (append-nil (terminated plus spelled_part parts ++ spelled_part p)))
    ∙ sym (append_assoc (spelled_sum left) (relation r ∷ []) ((terminated plus spelled_part parts ++ spelled_part p) ++ []))

pub spelled-completed : (p : Place) → spelled (completed p) ≡ said_place p ++ ending p
spelled-completed wanted = refl
spelled-completed (naming q xs) =
    ap (λ x. quantifier q ∷ (x ++ colon ∷ word_true ∷ [])) (separated-last comma said_name xs (codes "x"))
    ∙ ap (λ x. quantifier q ∷ x) (append_assoc (terminated comma said_name xs) (name (codes "x") ∷ []) (colon ∷ word_true ∷ []))
spelled-completed (named q xs) = refl
spelled-completed (adding side parts) =
    compared-adding side parts (Number 0) ∙ ap (λ x. said_side side ++ x) (append_assoc (terminated plus spelled_part parts) (number 0 ∷ []) (side_ending side))
    ∙ sym (append_assoc (said_side side) (terminated plus spelled_part parts) (number 0 ∷ side_ending side))
spelled-completed (added side before last) =
    compared-adding side before last ∙ sym (append_assoc (said_side side) (terminated plus spelled_part before ++ spelled_part last) (side_ending side))
spelled-completed (holding f) = sym (append-nil (spelled f))

-- a formula that may end here is what has been read
operand_said : (p : Place) → IfSome (operand p) (λ f. said_place p ≡ spelled f)
operand_said (added (on_right r left) before last) =
    append_assoc (spelled_sum left) (relation r ∷ []) (terminated plus spelled_part before ++ spelled_part last)
    ∙ ap (λ x. spelled_sum left ++ (relation r ∷ x)) (sym (separated-last plus spelled_part before last))
operand_said (holding f) = refl
operand_said _ = tt

-- one symbol more

abbrev pub Says : Symbol → Place → Option Place → Type 0
Says x p next = IfSome next (λ q. said_place q ≡ said_place p ++ x ∷ [])

number_said : (n : ℕ) (p : Place) → Says (number n) p (with_number n p)
number_said n wanted = refl
number_said n (adding side parts) = sym (append_assoc (said_side side) (terminated plus spelled_part parts) (number n ∷ []))
number_said n _ = tt

times_said : (side : Side) (before : List Part) (x : List ℕ) (last : Part) → Says (name x) (added side before last) (times side before x last)
times_said side before x (Number n) =
    ap (λ y. said_side side ++ y) (sym (append_assoc (terminated plus spelled_part before) (number n ∷ []) (name x ∷ [])))
    ∙ sym (append_assoc (said_side side) (terminated plus spelled_part before ++ number n ∷ []) (name x ∷ []))
times_said side before x (Var y) = tt
times_said side before x (Times n y) = tt

name_said : (x : List ℕ) (p : Place) → Says (name x) p (with_name x p)
name_said x wanted = refl
name_said x (naming q xs) = ap (λ y. quantifier q ∷ y) (separated-last comma said_name xs x)
name_said x (adding side parts) = sym (append_assoc (said_side side) (terminated plus spelled_part parts) (name x ∷ []))
name_said x (added side before last) = times_said side before x last
name_said x _ = tt

plus_said : (p : Place) → Says plus p (with_plus p)
plus_said (added side before last) =
    ap (λ y. said_side side ++ y) (terminated-last plus spelled_part before last)
    ∙ sym (append_assoc (said_side side) (terminated plus spelled_part before ++ spelled_part last) (plus ∷ []))
plus_said _ = tt

relation_said : (r : Rel) (p : Place) → Says (relation r) p (with_relation r p)
relation_said r (added on_left before last) =
    let next = Some (adding (on_right r (before ++ last ∷ [])) []) in
    let P : Bool → Type 0 = λ b. Says (relation r) (added on_left before last) (if b then next else None) in
    let is = append-nil (spelled_sum (before ++ last ∷ []) ++ relation r ∷ []) ∙ ap (λ y. y ++ relation r ∷ []) (separated-last plus spelled_part before last) in
    elim (cases_Bool (compares r)) [
      | inl e ↦ subst P (sym e) is
      | inr e ↦ subst P (sym e) tt
    ]
relation_said r _ = tt

quantifier_said : (q : Quant) (p : Place) → Says (quantifier q) p (with_quantifier q p)
quantifier_said q wanted = refl
quantifier_said q _ = tt

comma_said : (p : Place) → IsSoundPlace p → Says comma p (with_comma p)
comma_said (named q xs) sound = ap (λ y. quantifier q ∷ y) (separated-sign comma said_name xs sound)
comma_said _ sound = tt

leaf_said : (f : Arithmetic) (x : Symbol) → spelled f ≡ x ∷ [] → (p : Place) → Says x p (with_leaf f p)
leaf_said f x is wanted = is
leaf_said f x is _ = tt

abbrev pub Opens : Symbol → Place → Option Frame → Type 0
Opens x p next = IfSome next (λ frame. said_before spelling frame ≡ said_place p ++ x ∷ [])

opening_said : (frame : Frame) (x : Symbol) → said_before spelling frame ≡ x ∷ [] → (p : Place) → Opens x p (opening frame p)
opening_said frame x is wanted = is
opening_said frame x is _ = tt

body_said : (p : Place) → Opens colon p (body p)
body_said (named q xs) = refl
body_said _ = tt

pub is_spelling : IsSpelling machine grammar spelling
is_spelling = record {
  brackets_spelled = λ f. refl;
  prefixed_spelled = prefixed_spelled;
  binary_spelled = binary_spelled;
  joined_spelled = joined_spelled;
  wanted_said = refl;
  holding_said = λ f. refl;
  operand_said = operand_said;
  completed_said = spelled-completed;
}

action_said : (x : Symbol) → IsSaid machine grammar spelling x (action x)
action_said (name x) = λ p sound. name_said x p
action_said (number n) = λ p sound. number_said n p
action_said word_true = λ p sound. leaf_said truth word_true refl p
action_said word_false = λ p sound. leaf_said falsity word_false refl p
action_said (quantifier q) = λ p sound. quantifier_said q p
action_said negation_sign = opening_said (behind_prefix Negation) negation_sign refl
action_said (infix_operator op) = refl
action_said (joining op) = refl
action_said (relation r) = λ p sound. relation_said r p
action_said plus = λ p sound. plus_said p
action_said comma = comma_said
action_said colon = body_said
action_said open_bracket = opening_said in_brackets open_bracket refl
action_said close_bracket = refl
action_said semicolon = refl
action_said other = tt

pub acting : (xs : List Symbol) → AreActing machine grammar spelling action xs
acting [] = tt
acting (x ∷ xs) = ((action_sound x, action_said x), acting xs)
