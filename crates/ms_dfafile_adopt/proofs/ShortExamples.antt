-- The numbers of files that lack nodes, and of files that have none.
use Rattle.std.proofs.Common.{◌≡◌, ℕ, zero, suc, ◌<◌, inl, Bool, false, List, [], ◌∷◌, slice_get, Some, length, refl, ap, ◌∙◌, arith}
use Rattle.std.proofs.lemmas.Option.{same_Some}
use Rattle.ms_list.specs.declared.word.Word.{Word}
use Rattle.ms_arena.proofs.Paths.{leaf_of-leaf}
use Rattle.ms_logic.specs.declared.mode.Mode.TheVariants.{M2lStr}
use Rattle.ms_logic.specs.declared.mode.Order.TheVariants.{One, Two}
use Rattle.ms_logic.specs.Assignment.{Variable}
use Rattle.ms_logic_words.specs.Content.{Content, IsClosed, letter_bits, last_state, sign_at, sign_of, state_after, truth_bits}
use Rattle.ms_logic_words.specs.declared.sign.Sign.{Sign}
use Rattle.ms_logic_words.specs.declared.sign.Sign.TheVariants.{Yes}
use Rattle.ms_dfa.specs.Automaton.{IsAutomaton}
use Rattle.ms_logic_words.specs.Residual.{IsLeast}
use Rattle.ms_rename.proofs.WholeLemmas.{IsAutomaton-free}
use Rattle.ms_dfafile_adopt.specs.inner.Examples.{empty_word, no_numbers, subset, zero_file}
use Rattle.ms_dfafile_adopt.specs.Readings.{TellsNumbers, own_variables}
use Rattle.ms_dfafile_adopt.specs.Short.{NumbersLack}
use Rattle.ms_dfafile_adopt.proofs.SetLemmas.{each_encodes}

stays : (letters : List (List Bool)) → state_after no_numbers 0 letters ≡ 0
stays [] = refl
stays (letter ∷ letters) = ap (λ state. state_after no_numbers state letters) (leaf_of-leaf [] (letter_bits [] letter) 0) ∙ stays letters

last : (word : Word) → last_state no_numbers word ≡ 0
last word = ap (λ state. state_after no_numbers state word.letters) (leaf_of-leaf [] (truth_bits [] word.truth) 0) ∙ stays word.letters

says_yes : (word : Word) → sign_of no_numbers word ≡ Some Yes
says_yes word = ap (sign_at no_numbers) (last word)

some_state : (other : Content Sign) → IsClosed other → 0 < length other.states
some_state other closed = let leads = closed.start.states (λ place. false) in omega (arith, leads)

tells : (variables : List Variable) → TellsNumbers variables 0 no_numbers
tells variables = record {
  mode_is = refl;
  among = λ v there. absurd there;
  only_numbers = λ v there. absurd there;
  numbers = λ place v less there number. absurd (omega (arith, less));
  values = record {
    right = λ word e assigned encodes. (Yes, says_yes word, refl);
    outside = λ word over outside. absurd (outside (each_encodes M2lStr [] word tt over));
  };
}

least : IsLeast no_numbers
least = record {
  fewest = λ other closed same signs. let some = some_state other closed in omega (arith, some);
  reached = λ state less. (empty_word, record { truth = refl; letters = tt }, last empty_word ∙ (omega (arith, less)));
  differ = λ one other first second same. omega (arith, first, second);
}

automaton : IsAutomaton no_numbers
automaton = IsAutomaton-free M2lStr [] tt (λ v there. absurd there)

-- below 32 no automaton of a number is made
pub few_for_numbers : NumbersLack 31 (own_variables zero_file)
few_for_numbers = record {
  count = 0;
  number = record { name = 0; order = One };
  here = refl;
  is_number = refl;
  before = no_numbers;
  automaton = automaton;
  are = record { tells = tells (own_variables zero_file); least = least };
  short = inl (omega arith);
}

orders_differ : Two ≡ One → ⊥
orders_differ same = cc

-- sets alone need none
pub sets_alone : (limit : ℕ) → NumbersLack limit (own_variables subset) → ⊥
sets_alone limit lacks = by lacks.count lacks.number lacks.here lacks.is_number
  where
    by : (count : ℕ) (number : Variable) → slice_get (own_variables subset) count ≡ Some number → number.order ≡ One → ⊥
    by zero number here is = orders_differ (ap (λ (v : Variable). v.order) (same_Some (record { name = 0; order = Two }) number here) ∙ is)
    by (suc zero) number here is = orders_differ (ap (λ (v : Variable). v.order) (same_Some (record { name = 1; order = Two }) number here) ∙ is)
    by (suc (suc n)) number here is = cc
