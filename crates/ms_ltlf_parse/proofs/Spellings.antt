-- The symbols that the machine has read, by what it has begun.
use Rattle.std.proofs.Common.{◌≡◌, ℕ, List, [], ◌∷◌, ◌++◌, length, refl, sym, ap, append-nil, IfSome}
use Rattle.ms_ltlf.specs.Tree.{Temporal, truth, falsity, proposition}
use Rattle.ms_ltlf.specs.View.{temporals}
use Rattle.ms_parse_stack.specs.declared.junction.Junction.{Junction}
use Rattle.ms_parse_stack.specs.declared.junction.Junction.TheVariants.{Conjunction, Disjunction}
use Rattle.ms_parse_stack.specs.inner.Frames.{in_brackets, behind_prefix}
use Rattle.ms_parse_stack.proofs.Spellings.{Spelling, IsSpelling, IsSaid, IsActing, spelled_behind, spelled_between, said_before}
use Rattle.ms_ltlf_parse.specs.Grammar.{Names, spelled}
use Rattle.ms_ltlf_parse.specs.Grammar as grammars
use Rattle.ms_ltlf_parse.specs.Symbol.{Symbol, name, word_true, word_false, prefix_operator, infix_operator, joining, open_bracket, close_bracket, semicolon, other}
use Rattle.ms_ltlf_parse.specs.declared.operator.Binary.{Binary}
use Rattle.ms_ltlf_parse.specs.declared.operator.Binary.TheVariants.{Equivalence, Implication, Until, Release}
use Rattle.ms_ltlf_parse.specs.declared.operator.Prefix.{Prefix}
use Rattle.ms_ltlf_parse.specs.declared.operator.Prefix.TheVariants.{Negation, Next, WeakNext, Eventually, Always}
use Rattle.ms_ltlf_parse.specs.inner.Machine.{Frame, Place, wanted, holding, machine, operand, completed, prefixed, binary, joined, leaf, opened, action}
use Rattle.ms_ltlf_parse.proofs.Soundness.{IsNamed, IsSoundPlace, action_sound, grammar}

abbrev pub said : Names → Place → List Symbol
said names wanted = []
said names (holding f) = spelled names f

abbrev pub ending : Place → List Symbol
ending wanted = word_true ∷ []
ending (holding f) = []

abbrev pub spelling : Names → Spelling Prefix Binary Place Temporal Symbol
spelling names = record {
  spelled = spelled names;
  before = λ op. prefix_operator op ∷ [];
  infix_sign = infix_operator;
  joining_sign = joining;
  open_sign = open_bracket;
  close_sign = close_bracket;
  end_sign = semicolon;
  said = said names;
  ending = ending;
}

module _ (names : Names) where
  prefixed_spelled : (op : Prefix) (f : Temporal) → spelled names (prefixed op f) ≡ prefix_operator op ∷ spelled names f
  prefixed_spelled Negation f = refl
  prefixed_spelled Next f = refl
  prefixed_spelled WeakNext f = refl
  prefixed_spelled Eventually f = refl
  prefixed_spelled Always f = refl

  binary_spelled : (op : Binary) (f g : Temporal) → spelled names (binary op f g) ≡ spelled names f ++ infix_operator op ∷ spelled names g
  binary_spelled Equivalence f g = refl
  binary_spelled Implication f g = refl
  binary_spelled Until f g = refl
  binary_spelled Release f g = refl

  behind_spelled : (op : Junction) (fs : List Temporal) → grammars.spelled_behind names op (temporals fs) ≡ spelled_behind (spelling names) op fs
  behind_spelled op [] = refl
  behind_spelled op (f ∷ fs) = ap (λ x. joining op ∷ spelled names f ++ x) (behind_spelled op fs)

  joined_spelled : (op : Junction) (fs : List Temporal) → spelled names (joined op fs) ≡ spelled_between (spelling names) op fs
  joined_spelled Conjunction [] = refl
  joined_spelled Disjunction [] = refl
  joined_spelled Conjunction (f ∷ fs) = ap (λ x. spelled names f ++ x) (behind_spelled Conjunction fs)
  joined_spelled Disjunction (f ∷ fs) = ap (λ x. spelled names f ++ x) (behind_spelled Disjunction fs)

  operand_said : (p : Place) → IfSome (operand p) (λ f. said names p ≡ spelled names f)
  operand_said wanted = tt
  operand_said (holding f) = refl

  completed_said : (p : Place) → spelled names (completed p) ≡ said names p ++ ending p
  completed_said wanted = refl
  completed_said (holding f) = sym (append-nil (spelled names f))

  pub is_spelling : IsSpelling machine (grammar (length names)) (spelling names)
  is_spelling = record {
    brackets_spelled = λ f. refl;
    prefixed_spelled = prefixed_spelled;
    binary_spelled = binary_spelled;
    joined_spelled = joined_spelled;
    wanted_said = refl;
    holding_said = λ f. refl;
    operand_said = operand_said;
    completed_said = completed_said;
  }

  leaf_said : (f : Temporal) (x : Symbol) → spelled names f ≡ x ∷ [] → (p : Place) → IsSoundPlace (length names) p → IfSome (leaf f p) (λ q. said names q ≡ said names p ++ x ∷ [])
  leaf_said f x is wanted sound = is
  leaf_said f x is (holding g) sound = tt

  opened_said : (frame : Frame) (x : Symbol) → said_before (spelling names) frame ≡ x ∷ [] → (p : Place) → IfSome (opened frame p) (λ h. said_before (spelling names) h ≡ said names p ++ x ∷ [])
  opened_said frame x is wanted = is
  opened_said frame x is (holding g) = tt

  action_said : (number : List ℕ → ℕ) (x : Symbol) → IsNamed names number x → IsSaid machine (grammar (length names)) (spelling names) x (action number x)
  action_said number (name n) named = leaf_said (proposition (number n)) (name n) (ap (λ m. name m ∷ []) named.1)
  action_said number word_true named = leaf_said truth word_true refl
  action_said number word_false named = leaf_said falsity word_false refl
  action_said number (prefix_operator op) named = opened_said (behind_prefix op) (prefix_operator op) refl
  action_said number (infix_operator op) named = refl
  action_said number (joining op) named = refl
  action_said number open_bracket named = opened_said in_brackets open_bracket refl
  action_said number close_bracket named = refl
  action_said number semicolon named = refl
  action_said number other named = tt

  pub acting : (number : List ℕ → ℕ) (x : Symbol) → IsNamed names number x → IsActing machine (grammar (length names)) (spelling names) (action number) x
  acting number x named = (action_sound names number x named, action_said number x named)
