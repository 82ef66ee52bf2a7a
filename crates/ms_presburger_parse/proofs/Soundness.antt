-- What the machine has begun can be ended as a grammatical formula.
use Rattle.std.proofs.Common.{◌≡◌, ℕ, suc, ◌≤◌, true, false, List, [], ◌∷◌, ◌++◌, Some, None, Bool, refl, sym, subst, inl, inr, arith, le_refl}
use Rattle.std.specs.Prelude.{IfSome, codes, if◌then◌else◌}
use Rattle.std.proofs.lemmas.Bool.{cases_Bool}
use Rattle.ms_logic.specs.declared.mode.Quant.{Quant}
use Rattle.ms_logic.specs.declared.mode.Rel.{Rel}
use Rattle.ms_presburger.specs.declared.linear.Part.{Part}
use Rattle.ms_presburger.specs.declared.linear.Part.TheVariants.{Number, Var, Times}
use Rattle.ms_presburger.specs.Tree.{Arithmetic, truth, falsity}
use Rattle.ms_presburger.specs.View.{arithmetics}
use Rattle.ms_parse_stack.specs.declared.junction.Junction.{Junction}
use Rattle.ms_parse_stack.specs.declared.junction.Junction.TheVariants.{Conjunction, Disjunction}
use Rattle.ms_parse_stack.specs.inner.Frames.{in_brackets, behind_prefix}
use Rattle.ms_parse_stack.proofs.Soundness.{Grammar, HasSome, IsPart, IsLeft, EachLeft, AreLeft, IsSoundGrammar, IsSoundFrame, IsSoundAction}
use Rattle.ms_presburger_parse.specs.Grammar.{binary_level, left_level, right_level, junction_level, prefix_level, level, ends_open, compares, HasOne, HasTwo, IsClosedBefore, IsGrammatical, AreOperands}
use Rattle.ms_presburger_parse.specs.Symbol.{Symbol, name, number, word_true, word_false, quantifier, negation_sign, infix_operator, joining, relation, plus, comma, colon, open_bracket, close_bracket, semicolon, other}
use Rattle.ms_presburger_parse.specs.declared.operator.Binary.{Binary}
use Rattle.ms_presburger_parse.specs.declared.operator.Binary.TheVariants.{Equivalence, Implication}
use Rattle.ms_presburger_parse.specs.declared.operator.Prefix.{Prefix}
use Rattle.ms_presburger_parse.specs.declared.operator.Prefix.TheVariants.{Negation, Quantifier}
use Rattle.ms_presburger_parse.specs.inner.Machine.{Frame, machine, action, prefixed, prefix_operand, binary, joined, Side, on_left, on_right, Place, wanted, naming, named, adding, added, holding, operand, with_number, times, with_name, with_plus, with_relation, with_quantifier, with_comma, with_leaf, opening, body, compared, completed}
use Rattle.ms_presburger_parse.proofs.Groupings.{levelled, left_some}
use Rattle.ms_presburger_parse.proofs.Strength.{strength, strength_level, strength_closed, strength-prefixed, strength-binary, strength-joined}

-- where the machine stands in the innermost formula, the parts so far are as the grammar asks

abbrev pub IsSoundSide : Side → Type 0
IsSoundSide on_left = Unit {0}
IsSoundSide (on_right r left) = (compares r ≡ true) × HasOne left

abbrev pub IsSoundPlace : Place → Type 0
IsSoundPlace wanted = Unit {0}
IsSoundPlace (naming q xs) = Unit {0}
IsSoundPlace (named q xs) = HasOne xs
IsSoundPlace (adding side parts) = IsSoundSide side
IsSoundPlace (added side before last) = IsSoundSide side
IsSoundPlace (holding f) = (6 ≤ strength f) × IsGrammatical f

pub one_last : {A : Type 0} (xs : List A) (x : A) → HasOne (xs ++ x ∷ [])
one_last [] x = tt
one_last (y ∷ ys) x = tt

-- a quantifier has a name
abbrev pub IsSoundPrefix : Prefix → Type 0
IsSoundPrefix Negation = Unit {0}
IsSoundPrefix (Quantifier q xs) = HasOne xs

abbrev pub grammar : Grammar Prefix Place Arithmetic
grammar = record { IsGrammatical = IsGrammatical; IsSoundPrefix = IsSoundPrefix; IsSoundPlace = IsSoundPlace; level = level; strength = strength }

has_two : (fs : List Arithmetic) (h : Arithmetic) → HasSome fs → HasTwo (arithmetics (fs ++ h ∷ []))
has_two [] h some = absurd some
has_two (f ∷ []) h some = tt
has_two (f ∷ f' ∷ fs) h some = tt

closed_before : (fs : List Arithmetic) (h f : Arithmetic) → ends_open f ≡ false → IsClosedBefore (arithmetics (fs ++ h ∷ [])) f
closed_before [] h f closed = closed
closed_before (f' ∷ fs) h f closed = closed

-- a left operand binds as tightly as the grammar asks, and ends in no open body

left_level_of : (least : ℕ) (f : Arithmetic) → least ≤ strength f → least ≤ level f
left_level_of least f h = omega (arith, strength_level f)

left_closed : (least : ℕ) (f : Arithmetic) → 1 ≤ least → least ≤ strength f → ends_open f ≡ false
left_closed least f some h = strength_closed f (omega arith)

operands_more : (least : ℕ) (fs : List Arithmetic) (h : Arithmetic) → 1 ≤ least → EachLeft machine grammar least fs → IsPart machine grammar least h → AreOperands least (arithmetics (fs ++ h ∷ []))
operands_more least [] h some each part = (part.enough, tt, part.grammatical, tt)
operands_more least (f ∷ fs) h some each part =
    (left_level_of least f each.0.enough, closed_before fs h f (left_closed least f some each.0.enough), each.0.grammatical, operands_more least fs h some each.1 part)

prefixed_sound : (op : Prefix) (f : Arithmetic) → IsSoundPrefix op → IsPart machine grammar (prefix_operand op) f → IsPart machine grammar prefix_level (prefixed op f)
prefixed_sound Negation f sound h = record { enough = le_refl _; grammatical = (h.enough, h.grammatical) }
prefixed_sound (Quantifier q xs) f sound h = record { enough = le_refl _; grammatical = (sound, h.grammatical) }

binary_sound : (op : Binary) (f h : Arithmetic) → IsLeft machine grammar (left_level op) f → IsPart machine grammar (right_level op) h → IsPart machine grammar (binary_level op) (binary op f h)
binary_sound Equivalence f h l r = record {
  enough = le_refl _;
  grammatical = (left_level_of (left_level Equivalence) f l.enough, left_closed (left_level Equivalence) f (left_some Equivalence) l.enough, l.grammatical, r.enough, r.grammatical);
}
binary_sound Implication f h l r = record {
  enough = le_refl _;
  grammatical = (left_level_of (left_level Implication) f l.enough, left_closed (left_level Implication) f (left_some Implication) l.enough, l.grammatical, r.enough, r.grammatical);
}

joined_sound : (op : Junction) (fs : List Arithmetic) (h : Arithmetic) → AreLeft machine grammar (suc (junction_level op)) fs → IsPart machine grammar (suc (junction_level op)) h → IsPart machine grammar (junction_level op) (joined op (fs ++ h ∷ []))
joined_sound Conjunction fs h left part = record { enough = le_refl _; grammatical = (has_two fs h left.some, operands_more (suc (junction_level Conjunction)) fs h (omega arith) left.each part) }
joined_sound Disjunction fs h left part = record { enough = le_refl _; grammatical = (has_two fs h left.some, operands_more (suc (junction_level Disjunction)) fs h (omega arith) left.each part) }

number_sound : (n : ℕ) (p : Place) → IsSoundPlace p → IfSome (with_number n p) IsSoundPlace
number_sound n (adding side parts) sound = sound
number_sound n _ sound = tt

times_sound : (side : Side) (before : List Part) (x : List ℕ) (last : Part) → IsSoundSide side → IfSome (times side before x last) IsSoundPlace
times_sound side before x (Number n) sound = sound
times_sound side before x (Var y) sound = tt
times_sound side before x (Times n y) sound = tt

name_sound : (x : List ℕ) (p : Place) → IsSoundPlace p → IfSome (with_name x p) IsSoundPlace
name_sound x (naming q xs) sound = one_last xs x
name_sound x (adding side parts) sound = sound
name_sound x (added side before last) sound = times_sound side before x last sound
name_sound x _ sound = tt

plus_sound : (p : Place) → IsSoundPlace p → IfSome (with_plus p) IsSoundPlace
plus_sound (added side before last) sound = sound
plus_sound _ sound = tt

relation_sound : (r : Rel) (p : Place) → IsSoundPlace p → IfSome (with_relation r p) IsSoundPlace
relation_sound r (added on_left before last) sound =
    let next = Some (adding (on_right r (before ++ last ∷ [])) []) in
    let P : Bool → Type 0 = λ b. IfSome (if b then next else None) IsSoundPlace in
    elim (cases_Bool (compares r)) [
      | inl e ↦ subst P (sym e) (e, one_last before last)
      | inr e ↦ subst P (sym e) tt
    ]
relation_sound r _ sound = tt

quantifier_sound : (q : Quant) (p : Place) → IsSoundPlace p → IfSome (with_quantifier q p) IsSoundPlace
quantifier_sound q wanted sound = tt
quantifier_sound q (naming q' xs) sound = tt
quantifier_sound q (named q' xs) sound = tt
quantifier_sound q (adding side parts) sound = tt
quantifier_sound q (added side before last) sound = tt
quantifier_sound q (holding f) sound = tt

comma_sound : (p : Place) → IsSoundPlace p → IfSome (with_comma p) IsSoundPlace
comma_sound wanted sound = tt
comma_sound (naming q xs) sound = tt
comma_sound (named q xs) sound = tt
comma_sound (adding side parts) sound = tt
comma_sound (added side before last) sound = tt
comma_sound (holding f) sound = tt

leaf_sound : (f : Arithmetic) → 6 ≤ strength f → IsGrammatical f → (p : Place) → IsSoundPlace p → IfSome (with_leaf f p) IsSoundPlace
leaf_sound f strong good wanted sound = (strong, good)
leaf_sound f strong good _ sound = tt

opening_sound : (frame : Frame) → IsSoundFrame machine grammar frame → (p : Place) → IsSoundPlace p → IfSome (opening frame p) (IsSoundFrame machine grammar)
opening_sound frame h wanted sound = h
opening_sound frame h _ sound = tt

body_sound : (p : Place) → IsSoundPlace p → IfSome (body p) (IsSoundFrame machine grammar)
body_sound (named q xs) sound = (sound, le_refl _)
body_sound _ sound = tt

operand_sound : (p : Place) → IsSoundPlace p → IfSome (operand p) (IsLeft machine grammar 6)
operand_sound (added (on_right r left) before last) sound = record { enough = le_refl _; grammatical = (sound.0, sound.1, one_last before last) }
operand_sound (holding f) sound = record { enough = sound.0; grammatical = sound.1 }
operand_sound _ sound = tt

compared_part : (side : Side) (parts : List Part) → IsSoundSide side → HasOne parts → IsPart machine grammar 5 (compared side parts)
compared_part on_left parts sound some = record { enough = omega arith; grammatical = (refl, some, tt) }
compared_part (on_right r left) parts sound some = record { enough = omega arith; grammatical = (sound.0, sound.1, some) }

completed_part : (p : Place) → IsSoundPlace p → IsPart machine grammar 5 (completed p)
completed_part wanted sound = record { enough = omega arith; grammatical = tt }
completed_part (naming q xs) sound = record { enough = le_refl _; grammatical = (one_last xs (codes "x"), tt) }
completed_part (named q xs) sound = record { enough = le_refl _; grammatical = (sound, tt) }
completed_part (adding side parts) sound = compared_part side (parts ++ Number 0 ∷ []) sound (one_last parts (Number 0))
completed_part (added side before last) sound = compared_part side (before ++ last ∷ []) sound (one_last before last)
completed_part (holding f) sound = record { enough = omega (arith, sound.0, strength_level f); grammatical = sound.1 }

pub sound_grammar : IsSoundGrammar machine grammar
sound_grammar = record {
  levelled = levelled;
  strength_level = strength_level;
  brackets_sound = λ f h. record { enough = le_refl _; grammatical = h };
  prefixed_sound = prefixed_sound;
  binary_sound = binary_sound;
  joined_sound = joined_sound;
  strong_prefixed = λ least op f small h. omega (arith, small, h, strength-prefixed op f);
  strong_binary = λ least op f h small wide. omega (arith, small, wide, strength-binary op f h);
  strong_joined = λ least op fs h small wide. omega (arith, small, wide, strength-joined op fs h);
  wanted_sound = tt;
  holding_sound = λ f h. (h.enough, h.grammatical);
  operand_sound = operand_sound;
  completed_sound = completed_part;
}

pub action_sound : (x : Symbol) → IsSoundAction machine grammar (action x)
action_sound (name x) = name_sound x
action_sound (number n) = number_sound n
action_sound word_true = leaf_sound truth (le_refl _) tt
action_sound word_false = leaf_sound falsity (le_refl _) tt
action_sound (quantifier q) = quantifier_sound q
action_sound negation_sign = opening_sound (behind_prefix Negation) (tt, le_refl _)
action_sound (infix_operator op) = tt
action_sound (joining op) = tt
action_sound (relation r) = relation_sound r
action_sound plus = plus_sound
action_sound comma = comma_sound
action_sound colon = body_sound
action_sound open_bracket = opening_sound in_brackets (tt, omega arith)
action_sound close_bracket = tt
action_sound semicolon = tt
action_sound other = tt
