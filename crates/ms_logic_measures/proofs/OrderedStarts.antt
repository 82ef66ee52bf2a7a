-- The references to which starts over B and A, and over A and B, lead the content of restrict(B) & A.
use Rattle.std.proofs.Common.{◌≡◌, ℕ, Bool, true, false, cond, eqb, List, [], ◌∷◌, Any, refl, arith}
use Rattle.std.proofs.lemmas.Bool.{eqb-false}
use Rattle.std.proofs.lemmas.List.Elements.{All-from_recursion}
use Rattle.ms_arena.specs.Diagram.{Bits, leaf_of}
use Rattle.ms_logic.specs.Assignment.{Variable}
use Rattle.ms_logic_measures.specs.CallMeasures.{LeaveSame, LeadsToReferences}
use Rattle.ms_logic_words.specs.Content.{state_after}
use Rattle.ms_logic_words.specs.inner.ContentExamples.{word}
use Rattle.ms_logic_measures.specs.Starts.{Start, some_truth_values, whole_word, IsStartOver, narrowed, left_by}
use Rattle.ms_logic_measures.proofs.OverTruthValues.{over_two}
use Rattle.ms_logic_measures.proofs.SubsetStarts.{rest_of}
use Rattle.ms_logic_measures.specs.inner.MeasuredContents.{restricted_truth_content}
use Rattle.ms_logic_measures.specs.inner.MeasureExamples.{truth_B_and_A, truth_A_and_B}
use Rattle.ms_logic_measures.proofs.Counting.{of_each_pair}

-- the state that stands for the value: Undefined, No or Yes
abbrev value_of : Bool → Bool → ℕ
value_of b a = cond b (cond a 2 1) 0

-- letters change no state
stays : (b a : Bool) (letters : List (List Bool)) → state_after restricted_truth_content (value_of b a) letters ≡ value_of b a
unfolding leaf_of
stays b a [] = refl
stays true true (letter ∷ letters) = stays true true letters
stays true false (letter ∷ letters) = stays true false letters
stays false a (letter ∷ letters) = stays false a letters

abbrev leave : List Variable → Start → Bits → ℕ
leave variables start rest = left_by restricted_truth_content variables start rest

-- the state after a word over B and A, and over A and B
straight_after : (b a : Bool) (letters : List (List Bool)) (rest : Bits) → leave truth_B_and_A (whole_word (word (b ∷ a ∷ []) letters)) rest ≡ value_of b a
unfolding leaf_of
straight_after true true letters rest = stays true true (narrowed truth_B_and_A (word (true ∷ true ∷ []) letters) truth_B_and_A).letters
straight_after true false letters rest = stays true false (narrowed truth_B_and_A (word (true ∷ false ∷ []) letters) truth_B_and_A).letters
straight_after false true letters rest = stays false true (narrowed truth_B_and_A (word (false ∷ true ∷ []) letters) truth_B_and_A).letters
straight_after false false letters rest = stays false false (narrowed truth_B_and_A (word (false ∷ false ∷ []) letters) truth_B_and_A).letters

other_after : (a b : Bool) (letters : List (List Bool)) (rest : Bits) → leave truth_A_and_B (whole_word (word (a ∷ b ∷ []) letters)) rest ≡ value_of b a
unfolding leaf_of
other_after true true letters rest = stays true true (narrowed truth_A_and_B (word (true ∷ true ∷ []) letters) truth_B_and_A).letters
other_after true false letters rest = stays false true (narrowed truth_A_and_B (word (true ∷ false ∷ []) letters) truth_B_and_A).letters
other_after false true letters rest = stays true false (narrowed truth_A_and_B (word (false ∷ true ∷ []) letters) truth_B_and_A).letters
other_after false false letters rest = stays false false (narrowed truth_A_and_B (word (false ∷ false ∷ []) letters) truth_B_and_A).letters

-- starts: no truth value, the first alone, and both
abbrev none : Start
none = some_truth_values []

abbrev only : Bool → Start
only first = some_truth_values (first ∷ [])

abbrev both : Bool → Bool → Start
both first second = whole_word (word (first ∷ second ∷ []) [])

-- two starts leave different states at some bits
differ : (variables : List Variable) (one other : Start) (p q : Bool) → eqb (leave variables one (rest_of p q)) (leave variables other (rest_of p q)) ≡ false →
    LeaveSame restricted_truth_content variables one other → ⊥
differ variables one other p q test alike = eqb-false (leave variables one (rest_of p q)) (leave variables other (rest_of p q)) test (alike (rest_of p q))

-- B before A: the start, A where B is true, and three states
abbrev five : List Start
five = none ∷ only true ∷ both false false ∷ both true false ∷ both true true ∷ []

abbrev IsLikeOneOfFive : Start → Type 0
IsLikeOneOfFive start = Any (λ one. LeaveSame restricted_truth_content truth_B_and_A start one) five

straight_first : (b : Bool) → IsLikeOneOfFive (some_truth_values (b ∷ []))
unfolding leaf_of
straight_first true = (1, only true, omega arith, refl, (λ rest. refl))
straight_first false = (2, both false false, omega arith, refl, (λ rest. refl))

straight_word : (b a : Bool) (letters : List (List Bool)) → IsLikeOneOfFive (whole_word (word (b ∷ a ∷ []) letters))
unfolding leaf_of
straight_word false a letters = (2, both false false, omega arith, refl, straight_after false a letters)
straight_word true false letters = (3, both true false, omega arith, refl, straight_after true false letters)
straight_word true true letters = (4, both true true, omega arith, refl, straight_after true true letters)

straight_complete : (start : Start) → IsStartOver truth_B_and_A start → IsLikeOneOfFive start
unfolding leaf_of
straight_complete = over_two IsLikeOneOfFive 0 1 (0, none, omega arith, refl, (λ rest. refl)) straight_first straight_word

straight_over : (b a : Bool) → IsStartOver truth_B_and_A (both b a)
straight_over b a = record { truth = refl; letters = tt }

pub straight_references : LeadsToReferences restricted_truth_content truth_B_and_A 5
unfolding leaf_of rest_of
straight_references = record {
  chosen = five;
  items = All-from_recursion (IsStartOver truth_B_and_A) five
      (omega arith, (omega arith, (straight_over false false, (straight_over true false, (straight_over true true, tt)))));
  different = of_each_pair (λ one other. LeaveSame restricted_truth_content truth_B_and_A one other → ⊥) five (
    (differ truth_B_and_A none (only true) false false refl, (differ truth_B_and_A none (both false false) true true refl, (differ truth_B_and_A none (both true false) false false refl, (differ truth_B_and_A none (both true true) false false refl, tt)))),
    (
      (differ truth_B_and_A (only true) (both false false) false false refl, (differ truth_B_and_A (only true) (both true false) true true refl, (differ truth_B_and_A (only true) (both true true) false false refl, tt))),
      (
        (differ truth_B_and_A (both false false) (both true false) false false refl, (differ truth_B_and_A (both false false) (both true true) false false refl, tt)),
        ((differ truth_B_and_A (both true false) (both true true) false false refl, tt), (tt, tt)),
      ),
    ),
  );
  complete = straight_complete;
  count = refl;
}

-- A before B: the start, B with either value of A, and three states
abbrev six : List Start
six = none ∷ only false ∷ only true ∷ both false false ∷ both false true ∷ both true true ∷ []

abbrev IsLikeOneOfSix : Start → Type 0
IsLikeOneOfSix start = Any (λ one. LeaveSame restricted_truth_content truth_A_and_B start one) six

other_first : (b : Bool) → IsLikeOneOfSix (some_truth_values (b ∷ []))
unfolding leaf_of
other_first false = (1, only false, omega arith, refl, (λ rest. refl))
other_first true = (2, only true, omega arith, refl, (λ rest. refl))

other_word : (b a : Bool) (letters : List (List Bool)) → IsLikeOneOfSix (whole_word (word (b ∷ a ∷ []) letters))
unfolding leaf_of
other_word false false letters = (3, both false false, omega arith, refl, other_after false false letters)
other_word true false letters = (3, both false false, omega arith, refl, other_after true false letters)
other_word false true letters = (4, both false true, omega arith, refl, other_after false true letters)
other_word true true letters = (5, both true true, omega arith, refl, other_after true true letters)

other_complete : (start : Start) → IsStartOver truth_A_and_B start → IsLikeOneOfSix start
unfolding leaf_of
other_complete = over_two IsLikeOneOfSix 1 0 (0, none, omega arith, refl, (λ rest. refl)) other_first other_word

other_over : (a b : Bool) → IsStartOver truth_A_and_B (both a b)
other_over a b = record { truth = refl; letters = tt }

pub other_references : LeadsToReferences restricted_truth_content truth_A_and_B 6
unfolding leaf_of rest_of
other_references = record {
  chosen = six;
  items = All-from_recursion (IsStartOver truth_A_and_B) six
      (omega arith, (omega arith, (omega arith, (other_over false false, (other_over false true, (other_over true true, tt))))));
  different = of_each_pair (λ one other. LeaveSame restricted_truth_content truth_A_and_B one other → ⊥) six (
    (differ truth_A_and_B none (only false) true true refl, (differ truth_A_and_B none (only true) true false refl, (differ truth_A_and_B none (both false false) true true refl, (differ truth_A_and_B none (both false true) false false refl, (differ truth_A_and_B none (both true true) false false refl, tt))))),
    (
      (differ truth_A_and_B (only false) (only true) true true refl, (differ truth_A_and_B (only false) (both false false) true true refl, (differ truth_A_and_B (only false) (both false true) false false refl, (differ truth_A_and_B (only false) (both true true) false false refl, tt)))),
      (
        (differ truth_A_and_B (only true) (both false false) true true refl, (differ truth_A_and_B (only true) (both false true) false false refl, (differ truth_A_and_B (only true) (both true true) false false refl, tt))),
        (
          (differ truth_A_and_B (both false false) (both false true) false false refl, (differ truth_A_and_B (both false false) (both true true) false false refl, tt)),
          ((differ truth_A_and_B (both false true) (both true true) false false refl, tt), (tt, tt)),
        ),
      ),
    ),
  );
  complete = other_complete;
  count = refl;
}
