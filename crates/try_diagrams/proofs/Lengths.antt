-- The automaton of the strings that have a position is one.
use Rattle.std.proofs.Common.{◌≡◌, ℕ, zero, suc, ◌<◌, Bool, false, List, [], ◌∷◌, length, get_or, slice_get, slice_index_or, Some, refl, sym, ◌∙◌, arith}
use Rattle.std.proofs.lemmas.List.Elements.{All-from_recursion}
use Rattle.std.proofs.lemmas.List.{ext_get_or}
use Rattle.std.proofs.lemmas.List.FromFn.{get_or-map-range_with_len, length-map-range_with_len}
use Rattle.ms_list.specs.declared.word.Word.{Word}
use Rattle.ms_arena.specs.declared.node.Node.{Node}
use Rattle.ms_arena.specs.declared.node.Ref.TheVariants.{Leaf}
use Rattle.ms_arena.specs.Reach.{TestsOnly}
use Rattle.ms_arena.proofs.Paths.{leaf_of-leaf}
use Rattle.ms_logic.specs.declared.mode.Mode.TheVariants.{Ws1s, M2lStr}
use Rattle.ms_logic.specs.declared.mode.Order.{Order}
use Rattle.ms_logic.specs.Assignment.{Env}
use Rattle.ms_logic.specs.Letters.{letter_at}
use Rattle.ms_logic_words.specs.Word.{IsEncoding}
use Rattle.ms_logic_words.specs.Content.{StateOf, IsFollowed, IsWordOver, is_truth_value, is_in_letters, letter_bits, state_after, sign_at, sign_of, truth_bits}
use Rattle.ms_logic_words.specs.declared.sign.Sign.{Sign}
use Rattle.ms_logic_words.specs.declared.sign.Sign.TheVariants.{Yes, No, Outside}
use Rattle.ms_dfa.specs.Automaton.{IsAutomaton}
use Rattle.try_diagrams.specs.Lengths.{lengths_content}

-- a leaf tests nothing
tests_leaf : (P : ℕ → Type 0) (value : ℕ) → TestsOnly [] P (Leaf value)
tests_leaf P value = λ var (goal, found, path, there, same). absurd (elim path [ ])

followed : (has_value : Order → Bool) (state : ℕ) → state < 2 → IsFollowed lengths_content has_value (Leaf state)
followed has_value state small = record {
  valid = tt;
  states = λ bits. rw (leaf_of-leaf [] bits state) small;
  tests = tests_leaf _ state;
}

next_followed : (state : ℕ) (other : StateOf Sign) → state < 2 → IsFollowed lengths_content is_in_letters (slice_index_or lengths_content.states state other).next
next_followed zero other below = followed is_in_letters 1 (omega arith)
next_followed (suc zero) other below = followed is_in_letters 1 (omega arith)
next_followed (suc (suc more)) other below = absurd (omega (arith, below))

-- no node is held
nothing_held : (place : ℕ) (node : Node) → slice_get [] place ≡ Some node → ⊥
nothing_held place node found = cc

-- the sign of a string with these letters
abbrev sign_with : List (List Bool) → Sign
sign_with [] = No
sign_with (letter ∷ letters) = Yes

never_outside : (letters : List (List Bool)) → Some (sign_with letters) ≡ Some Outside → ⊥
never_outside [] same = cc
never_outside (letter ∷ letters) same = cc

-- the run stays in the second state
stays : (letters : List (List Bool)) → state_after lengths_content 1 letters ≡ 1
stays [] = refl
stays (letter ∷ letters) = rw (leaf_of-leaf [] (letter_bits [] letter) 1) (stays letters)

sign_after : (letters : List (List Bool)) → sign_at lengths_content (state_after lengths_content 0 letters) ≡ Some (sign_with letters)
sign_after [] = refl
sign_after (letter ∷ letters) = rw (leaf_of-leaf [] (letter_bits [] letter) 1, stays letters)

sign_is : (word : Word) → sign_of lengths_content word ≡ Some (sign_with word.letters)
sign_is word = rw (leaf_of-leaf [] (truth_bits [] word.truth) 0) (sign_after word.letters)

-- a list of no items
nothing_in : {X : Type 0} (items : List X) → length items ≡ 0 → items ≡ []
nothing_in [] count = refl
nothing_in (first ∷ more) count = absurd (omega (arith, count))

-- a string as long as a word
abbrev string_of : Word → Env
string_of word = record { universe = Some (length word.letters); truth = λ x. false; number = λ x. 0; set = λ x. [] }

letter_is_empty : (word : Word) → IsWordOver [] word → (i : ℕ) → i < length word.letters → get_or word.letters i [] ≡ letter_at [] (string_of word) i
letter_is_empty word over i below =
    nothing_in (get_or word.letters i []) (All-from_recursion (λ (letter : List Bool). length letter ≡ 0) word.letters over.letters i [] below)

each_word_encodes : (word : Word) → IsWordOver [] word → IsEncoding M2lStr [] word
each_word_encodes word over = (
  string_of word,
  record { universe = refl; values = tt },
  record {
    truth = nothing_in word.truth over.truth;
    letters = ext_get_or [] word.letters _ (sym (length-map-range_with_len (letter_at [] (string_of word)) 0 (length word.letters)))
        (λ i below. letter_is_empty word over i below ∙ sym (get_or-map-range_with_len (letter_at [] (string_of word)) 0 (length word.letters) i i [] below (omega arith)));
    room = omega arith;
    string = refl;
  },
)

pub is_automaton : IsAutomaton lengths_content
is_automaton = record {
  ordered = record {
    earlier_low = λ place node found. absurd (nothing_held place node found);
    earlier_high = λ place node found. absurd (nothing_held place node found);
    rising_low = λ place node found. absurd (nothing_held place node found);
    rising_high = λ place node found. absurd (nothing_held place node found);
  };
  reduced = record {
    ends_differ = λ place node found. absurd (nothing_held place node found);
    distinct = λ one two node first second. absurd (nothing_held one node first);
  };
  closed = record { start = followed is_truth_value 0 (omega arith); next = next_followed };
  rising = tt;
  few_states = omega arith;
  encodings = λ word over. (
    λ encodes outside. never_outside word.letters (sym (sign_is word) ∙ outside),
    λ inside. each_word_encodes word over,
  );
  settled = λ mode word over encodes. let same : M2lStr ≡ Ws1s = mode in absurd cc;
}
