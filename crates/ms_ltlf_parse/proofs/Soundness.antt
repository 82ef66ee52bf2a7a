-- What the machine has begun can be ended as a grammatical formula.
use Rattle.std.proofs.Common.{◌≡◌, ℕ, suc, ◌≤◌, ◌<◌, List, [], ◌∷◌, ◌++◌, length, get_or, arith, le_refl, IfSome}
use Rattle.ms_ltlf.specs.Tree.{Temporal, truth, falsity, proposition, IsOver, AreOver}
use Rattle.ms_ltlf.specs.View.{temporals}
use Rattle.ms_parse_stack.specs.declared.junction.Junction.{Junction}
use Rattle.ms_parse_stack.specs.declared.junction.Junction.TheVariants.{Conjunction, Disjunction}
use Rattle.ms_parse_stack.specs.inner.Frames.{in_brackets, behind_prefix}
use Rattle.ms_parse_stack.proofs.Soundness.{Grammar, HasSome, IsPart, IsLeft, EachLeft, AreLeft, IsSoundGrammar, IsSoundFrame, IsSoundAction}
use Rattle.ms_ltlf_parse.specs.Grammar.{Names, binary_level, left_level, right_level, junction_level, prefix_level, level, IsGrammatical, AreOperands, HasTwo}
use Rattle.ms_ltlf_parse.specs.Symbol.{Symbol, name, word_true, word_false, prefix_operator, infix_operator, joining, open_bracket, close_bracket, semicolon, other}
use Rattle.ms_ltlf_parse.specs.declared.operator.Binary.{Binary}
use Rattle.ms_ltlf_parse.specs.declared.operator.Binary.TheVariants.{Equivalence, Implication, Until, Release}
use Rattle.ms_ltlf_parse.specs.declared.operator.Prefix.{Prefix}
use Rattle.ms_ltlf_parse.specs.declared.operator.Prefix.TheVariants.{Negation, Next, WeakNext, Eventually, Always}
use Rattle.ms_ltlf_parse.specs.inner.Machine.{Frame, Place, wanted, holding, machine, operand, completed, prefixed, binary, joined, leaf, opened, action}
use Rattle.ms_ltlf_parse.proofs.Groupings.{levelled, level-prefixed, level-binary, level-joined}

-- an operand that has been read is grammatical over so many names, and takes no brackets anywhere
abbrev pub IsSoundPlace : ℕ → Place → Type 0
IsSoundPlace count wanted = Unit {0}
IsSoundPlace count (holding f) = (6 ≤ level f) × IsGrammatical f × IsOver count f

abbrev pub grammar : ℕ → Grammar Prefix Place Temporal
grammar count = record {
  IsGrammatical = λ f. IsGrammatical f × IsOver count f;
  IsSoundPrefix = λ op. Unit {0};
  IsSoundPlace = IsSoundPlace count;
  level = level;
  strength = level;
}

module _ (count : ℕ) where
  has_two : (fs : List Temporal) (h : Temporal) → HasSome fs → HasTwo (temporals (fs ++ h ∷ []))
  has_two [] h some = absurd some
  has_two (f ∷ []) h some = tt
  has_two (f ∷ f' ∷ fs) h some = tt

  operands_more : (least : ℕ) (fs : List Temporal) (h : Temporal) → EachLeft machine (grammar count) least fs → IsPart machine (grammar count) least h → AreOperands least (temporals (fs ++ h ∷ [])) × AreOver count (temporals (fs ++ h ∷ []))
  operands_more least [] h each part = ((part.enough, part.grammatical.0, tt), (part.grammatical.1, tt))
  operands_more least (f ∷ fs) h each part =
      let rest = operands_more least fs h each.1 part in
      ((each.0.enough, each.0.grammatical.0, rest.0), (each.0.grammatical.1, rest.1))

  prefixed_sound : (op : Prefix) (f : Temporal) → Unit {0} → IsPart machine (grammar count) prefix_level f → IsPart machine (grammar count) prefix_level (prefixed op f)
  prefixed_sound Negation f u h = record { enough = le_refl _; grammatical = ((h.enough, h.grammatical.0), h.grammatical.1) }
  prefixed_sound Next f u h = record { enough = le_refl _; grammatical = ((h.enough, h.grammatical.0), h.grammatical.1) }
  prefixed_sound WeakNext f u h = record { enough = le_refl _; grammatical = ((h.enough, h.grammatical.0), h.grammatical.1) }
  prefixed_sound Eventually f u h = record { enough = le_refl _; grammatical = ((h.enough, h.grammatical.0), h.grammatical.1) }
  prefixed_sound Always f u h = record { enough = le_refl _; grammatical = ((h.enough, h.grammatical.0), h.grammatical.1) }

  binary_sound : (op : Binary) (f h : Temporal) → IsLeft machine (grammar count) (left_level op) f → IsPart machine (grammar count) (right_level op) h → IsPart machine (grammar count) (binary_level op) (binary op f h)
  binary_sound Equivalence f h l r = record { enough = le_refl _; grammatical = ((l.enough, l.grammatical.0, r.enough, r.grammatical.0), (l.grammatical.1, r.grammatical.1)) }
  binary_sound Implication f h l r = record { enough = le_refl _; grammatical = ((l.enough, l.grammatical.0, r.enough, r.grammatical.0), (l.grammatical.1, r.grammatical.1)) }
  binary_sound Until f h l r = record { enough = le_refl _; grammatical = ((l.enough, l.grammatical.0, r.enough, r.grammatical.0), (l.grammatical.1, r.grammatical.1)) }
  binary_sound Release f h l r = record { enough = le_refl _; grammatical = ((l.enough, l.grammatical.0, r.enough, r.grammatical.0), (l.grammatical.1, r.grammatical.1)) }

  joined_sound : (op : Junction) (fs : List Temporal) (h : Temporal) → AreLeft machine (grammar count) (suc (junction_level op)) fs → IsPart machine (grammar count) (suc (junction_level op)) h
      → IsPart machine (grammar count) (junction_level op) (joined op (fs ++ h ∷ []))
  joined_sound Conjunction fs h left part =
      let all = operands_more (suc (junction_level Conjunction)) fs h left.each part in
      record { enough = le_refl _; grammatical = ((has_two fs h left.some, all.0), all.1) }
  joined_sound Disjunction fs h left part =
      let all = operands_more (suc (junction_level Disjunction)) fs h left.each part in
      record { enough = le_refl _; grammatical = ((has_two fs h left.some, all.0), all.1) }

  operand_sound : (p : Place) → IsSoundPlace count p → IfSome (operand p) (IsLeft machine (grammar count) 6)
  operand_sound wanted sound = tt
  operand_sound (holding f) sound = record { enough = sound.0; grammatical = (sound.1, sound.2) }

  completed_sound : (p : Place) → IsSoundPlace count p → IsPart machine (grammar count) prefix_level (completed p)
  completed_sound wanted sound = record { enough = omega arith; grammatical = (tt, tt) }
  completed_sound (holding f) sound = record { enough = omega (arith, sound.0); grammatical = (sound.1, sound.2) }

  pub sound_grammar : IsSoundGrammar machine (grammar count)
  sound_grammar = record {
    levelled = levelled;
    strength_level = λ f. le_refl _;
    brackets_sound = λ f h. record { enough = le_refl _; grammatical = h };
    prefixed_sound = prefixed_sound;
    binary_sound = binary_sound;
    joined_sound = joined_sound;
    strong_prefixed = λ least op f small h. omega (arith, small, level-prefixed op f);
    strong_binary = λ least op f h small wide. omega (arith, small, level-binary op f h);
    strong_joined = λ least op fs h small wide. omega (arith, small, level-joined op (fs ++ h ∷ []));
    wanted_sound = tt;
    holding_sound = λ f h. (h.enough, h.grammatical.0, h.grammatical.1);
    operand_sound = operand_sound;
    completed_sound = completed_sound;
  }

  leaf_sound : (f : Temporal) → 6 ≤ level f → IsGrammatical f → IsOver count f → (p : Place) → IsSoundPlace count p → IfSome (leaf f p) (IsSoundPlace count)
  leaf_sound f enough good named wanted sound = (enough, good, named)
  leaf_sound f enough good named (holding g) sound = tt

  opened_sound : (frame : Frame) → IsSoundFrame machine (grammar count) frame → (p : Place) → IsSoundPlace count p → IfSome (opened frame p) (IsSoundFrame machine (grammar count))
  opened_sound frame h wanted sound = h
  opened_sound frame h (holding g) sound = tt

-- the number of a name is its place among the names
abbrev pub IsNamed : Names → (List ℕ → ℕ) → Symbol → Type 0
IsNamed names number (name n) = (number n < length names) × (get_or names (number n) [] ≡ n)
IsNamed names number _ = Unit {0}

pub action_sound : (names : Names) (number : List ℕ → ℕ) (x : Symbol) → IsNamed names number x → IsSoundAction machine (grammar (length names)) (action number x)
action_sound names number (name n) named = leaf_sound (length names) (proposition (number n)) (le_refl _) tt named.0
action_sound names number word_true named = leaf_sound (length names) truth (le_refl _) tt tt
action_sound names number word_false named = leaf_sound (length names) falsity (le_refl _) tt tt
action_sound names number (prefix_operator op) named = opened_sound (length names) (behind_prefix op) (tt, le_refl _)
action_sound names number (infix_operator op) named = tt
action_sound names number (joining op) named = tt
action_sound names number open_bracket named = opened_sound (length names) in_brackets (tt, omega arith)
action_sound names number close_bracket named = tt
action_sound names number semicolon named = tt
action_sound names number other named = tt
