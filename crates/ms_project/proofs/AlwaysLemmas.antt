-- The automaton of truth is one, and a quantifier over its Yes is one over all values.
use Rattle.std.proofs.Common.{◌≡◌, ℕ, zero, suc, ◌<◌, ◌⊎◌, Bool, get_or, List, [], ◌∷◌, Some, None, refl, sym, ap, ◌∙◌, arith}
use Rattle.std.proofs.lemmas.Option.{none-some, same_Some}
use Rattle.ms_list.specs.declared.word.Word.{Word}
use Rattle.ms_arena.specs.declared.node.Ref.TheVariants.{Leaf}
use Rattle.ms_arena.proofs.Paths.{leaf_of-leaf}
use Rattle.ms_dfa.specs.Automaton.{IsAutomaton}
use Rattle.ms_logic.specs.declared.mode.Mode.{Mode}
use Rattle.ms_logic.specs.declared.mode.Order.{Order}
use Rattle.ms_logic.specs.declared.mode.Quant.{Quant}
use Rattle.ms_logic.specs.declared.mode.Quant.TheVariants.{Ex, All}
use Rattle.ms_logic_words.specs.declared.sign.Sign.{Sign}
use Rattle.ms_logic_words.specs.declared.sign.Sign.TheVariants.{Yes, No, Undefined, Outside}
use Rattle.ms_logic.specs.declared.assignment.Value.{Value}
use Rattle.ms_logic.specs.Assignment.{Env, Variable, assign}
use Rattle.ms_logic_words.specs.Content.{Content, StateOf, is_truth_value, is_in_letters, with_zero_letter, HasValueAt, IsFollowed, letter_bits, truth_bits, state_after, shortest_word, sign_at, sign_of}
use Rattle.ms_logic.specs.Truth.{SomeInRange, NoneInRange, IsEmptyRange}
use Rattle.ms_logic_words.proofs.DecodedWords.{encodings_are}
use Rattle.ms_logic.proofs.FreeVariables.{some_moves, none_moves, some_or_empty_moves}
use Rattle.ms_dfa.specs.Values.{Meaning, meaning_by, HasValues, own_meaning}
use Rattle.ms_dfa.proofs.FunctionLemmas.{TestsOnly-leaf}
use Rattle.ms_project.specs.Always.{always}
use Rattle.ms_project.specs.Quantified.{IsMetBy, RangeOf, BodyAt, QuantifiedYes, QuantifiedNo, quantified}

always-after : (mode : Mode) (letters : List (List Bool)) → state_after (always mode) 0 letters ≡ 0
always-after mode [] = refl
always-after mode (letter ∷ letters) = ap (λ s. state_after (always mode) s letters) (leaf_of-leaf [] (letter_bits [] letter) 0) ∙ always-after mode letters

pub sign_of-always : (mode : Mode) (word : Word) → sign_of (always mode) word ≡ Some Yes
sign_of-always mode word =
    ap (λ s. sign_at (always mode) (state_after (always mode) s word.letters)) (leaf_of-leaf [] (truth_bits [] word.truth) 0)
    ∙ ap (sign_at (always mode)) (always-after mode word.letters)

leaf_followed : (mode : Mode) (has_value : Order → Bool) → IsFollowed (always mode) has_value (Leaf 0)
leaf_followed mode has_value = record {
  valid = tt;
  states = λ bits. (let at = leaf_of-leaf [] bits 0 in omega (arith, at));
  tests = TestsOnly-leaf [] (HasValueAt [] has_value) 0;
}

pub IsAutomaton-always : (mode : Mode) → IsAutomaton (always mode)
IsAutomaton-always mode = record {
  ordered = record {
    earlier_low = λ place node held. absurd (none-some node held);
    earlier_high = λ place node held. absurd (none-some node held);
    rising_low = λ place node held. absurd (none-some node held);
    rising_high = λ place node held. absurd (none-some node held);
  };
  reduced = record {
    ends_differ = λ place node held. absurd (none-some node held);
    distinct = λ one two node first second. absurd (none-some node first);
  };
  closed = record { start = leaf_followed mode is_truth_value; next = only };
  rising = tt;
  few_states = omega arith;
  encodings = λ word over. (
    λ encoding outside. (let never : ⊥ = yes_is_not_outside (same_Some Yes Outside (sym (sign_of-always mode word) ∙ outside)) in never),
    λ inside. (encodings_are mode [] word tt).1 (over, tt),
  );
  settled = λ numbers word over encoding. sign_of-always mode (with_zero_letter [] word) ∙ sym (sign_of-always mode word);
}
  where
    yes_is_not_outside : Yes ≡ Outside → ⊥
    yes_is_not_outside same = cc

    only : (k : ℕ) (d : StateOf Sign) → k < 1 → IsFollowed (always mode) is_in_letters (get_or (always mode).states k d).next
    only zero d within = leaf_followed mode is_in_letters
    only (suc k) d within = absurd (omega (arith, within))

-- a quantifier says the same of ranges with the same values, at which the body says the same
module _ (R S PY PN QY QN : Value → Type 0) (to : (v : Value) → R v → S v) (from : (v : Value) → S v → R v)
    (yes_to : (v : Value) → R v → PY v → QY v) (no_to : (v : Value) → R v → PN v → QN v) (yes_from : (v : Value) → S v → QY v → PY v) (no_from : (v : Value) → S v → QN v → PN v) where
  pub some_yes : SomeInRange R PY → SomeInRange S QY
  some_yes = some_moves R S PY QY to yes_to

  pub some_no : SomeInRange R PN → SomeInRange S QN
  some_no = some_moves R S PN QN to no_to

  pub none_yes : NoneInRange R PY → NoneInRange S QY
  none_yes = none_moves R S PY QY from yes_from

  pub none_no : NoneInRange R PN → NoneInRange S QN
  none_no = none_moves R S PN QN from no_from

  pub yes_or_empty : SomeInRange R PY ⊎ IsEmptyRange R → SomeInRange S QY ⊎ IsEmptyRange S
  yes_or_empty = some_or_empty_moves R S PY QY to from yes_to

  pub no_or_empty : SomeInRange R PN ⊎ IsEmptyRange R → SomeInRange S QN ⊎ IsEmptyRange S
  no_or_empty = some_or_empty_moves R S PN QN to from no_to

-- a sign stays right where Yes and No are the same
pub sign_moves : (PY PN QY QN : Env → Type 0) (e : Env) → (PY e → QY e) → (PN e → QN e) → (QY e → PY e) → (QN e → PN e) → (sign : Sign) → meaning_by PY PN e sign → meaning_by QY QN e sign
sign_moves PY PN QY QN e yes_to no_to yes_from no_from Yes is = yes_to is
sign_moves PY PN QY QN e yes_to no_to yes_from no_from No is = no_to is
sign_moves PY PN QY QN e yes_to no_to yes_from no_from Undefined is = ((λ holds. is.0 (yes_from holds)), (λ holds. is.1 (no_from holds)))
sign_moves PY PN QY QN e yes_to no_to yes_from no_from Outside is = is

-- so a quantifier over all values is one over the Yes of truth
module _ (own : Variable) (body : Meaning) (mode : Mode) (e : Env) where
  abbrev Here : Value → Type 0
  Here = RangeOf own (λ g. own_meaning (always mode) g Yes) e

  abbrev There : Value → Type 0
  There = RangeOf own (IsMetBy None) e

  to_all : (v : Value) → Here v → There v
  to_all v is = (is.0, tt)

  from_all : (v : Value) → There v → Here v
  from_all v is = (is.0, sign_of-always mode (shortest_word [] (assign own.name v e)))

  abbrev At : Sign → Value → Type 0
  At = BodyAt body own e

  pub all_values : (q : Quant) (sign : Sign) → quantified q own (λ g. own_meaning (always mode) g Yes) body e sign → quantified q own (IsMetBy None) body e sign
  all_values Ex = sign_moves (QuantifiedYes Ex own (λ g. own_meaning (always mode) g Yes) body) (QuantifiedNo Ex own (λ g. own_meaning (always mode) g Yes) body) (QuantifiedYes Ex own (IsMetBy None) body) (QuantifiedNo Ex own (IsMetBy None) body) e
      (some_yes Here There (At Yes) (At No) (At Yes) (At No) to_all from_all (λ v i p. p) (λ v i p. p) (λ v i p. p) (λ v i p. p))
      (λ is. (
        none_yes Here There (At Yes) (At No) (At Yes) (At No) to_all from_all (λ v i p. p) (λ v i p. p) (λ v i p. p) (λ v i p. p) is.0,
        no_or_empty Here There (At Yes) (At No) (At Yes) (At No) to_all from_all (λ v i p. p) (λ v i p. p) (λ v i p. p) (λ v i p. p) is.1,
      ))
      (some_yes There Here (At Yes) (At No) (At Yes) (At No) from_all to_all (λ v i p. p) (λ v i p. p) (λ v i p. p) (λ v i p. p))
      (λ is. (
        none_yes There Here (At Yes) (At No) (At Yes) (At No) from_all to_all (λ v i p. p) (λ v i p. p) (λ v i p. p) (λ v i p. p) is.0,
        no_or_empty There Here (At Yes) (At No) (At Yes) (At No) from_all to_all (λ v i p. p) (λ v i p. p) (λ v i p. p) (λ v i p. p) is.1,
      ))
  all_values All = sign_moves (QuantifiedYes All own (λ g. own_meaning (always mode) g Yes) body) (QuantifiedNo All own (λ g. own_meaning (always mode) g Yes) body) (QuantifiedYes All own (IsMetBy None) body) (QuantifiedNo All own (IsMetBy None) body) e
      (λ is. (
        none_no Here There (At Yes) (At No) (At Yes) (At No) to_all from_all (λ v i p. p) (λ v i p. p) (λ v i p. p) (λ v i p. p) is.0,
        yes_or_empty Here There (At Yes) (At No) (At Yes) (At No) to_all from_all (λ v i p. p) (λ v i p. p) (λ v i p. p) (λ v i p. p) is.1,
      ))
      (some_no Here There (At Yes) (At No) (At Yes) (At No) to_all from_all (λ v i p. p) (λ v i p. p) (λ v i p. p) (λ v i p. p))
      (λ is. (
        none_no There Here (At Yes) (At No) (At Yes) (At No) from_all to_all (λ v i p. p) (λ v i p. p) (λ v i p. p) (λ v i p. p) is.0,
        yes_or_empty There Here (At Yes) (At No) (At Yes) (At No) from_all to_all (λ v i p. p) (λ v i p. p) (λ v i p. p) (λ v i p. p) is.1,
      ))
      (some_no There Here (At Yes) (At No) (At Yes) (At No) from_all to_all (λ v i p. p) (λ v i p. p) (λ v i p. p) (λ v i p. p))

pub HasValues-all : (q : Quant) (own : Variable) (body : Meaning) (mode : Mode) (made : Content Sign) → HasValues (quantified q own (λ g. own_meaning (always mode) g Yes) body) made → HasValues (quantified q own (IsMetBy None) body) made
HasValues-all q own body mode made values = record {
  right = λ word e assigned encodes. let found = values.right word e assigned encodes in (found.0, found.1, all_values own body mode e q found.0 found.2);
  outside = values.outside;
}
