-- The references to which starts over B and A lead the contents of B => A and of A, and the sets of them over all values of A.
use Rattle.std.proofs.Common.{◌≡◌, ℕ, Bool, true, false, cond, List, [], ◌∷◌, length, Any, refl, sym, ◌∙◌, arith}
use Rattle.std.proofs.lemmas.List.Elements.{All-from_recursion}
use Rattle.ms_arena.specs.Diagram.{Bits, leaf_of}
use Rattle.ms_logic.specs.declared.mode.Order.TheVariants.{Zero}
use Rattle.ms_logic.specs.Assignment.{Variable}
use Rattle.ms_logic_measures.specs.CallMeasures.{LeaveSame, LeaveSameOfBoth, LeadsToReferences, LeadToPairs, LeadsWhere, LeadToSameSet, IsProjectMeasure}
use Rattle.ms_logic_words.specs.Content.{state_after}
use Rattle.ms_logic.specs.inner.Examples.{variable}
use Rattle.ms_logic_words.specs.inner.ContentExamples.{word}
use Rattle.ms_logic_measures.specs.Starts.{Start, some_truth_values, whole_word, part_of_letter, IsStartOver, narrowed, left_by}
use Rattle.ms_logic_measures.proofs.OverTruthValues.{over_one, over_two}
use Rattle.ms_logic_measures.proofs.SubsetStarts.{rest_of}
use Rattle.ms_logic_measures.specs.inner.MeasuredContents.{implies_content, truth_content}
use Rattle.ms_logic_measures.specs.inner.MeasureExamples.{truth_B_and_A, truth_A}
use Rattle.ms_logic_measures.proofs.Counting.{of_each_pair, not_0_1, not_1_0}

abbrev just_B : List Variable
just_B = variable 0 Zero ∷ []

-- the states that stand for the values of B => A and of A
abbrev pub implied : Bool → Bool → ℕ
implied b a = cond b (cond a 0 1) 0

abbrev pub held : Bool → ℕ
held a = cond a 1 0

-- letters change no state
pub implies_stays : (b a : Bool) (letters : List (List Bool)) → state_after implies_content (implied b a) letters ≡ implied b a
unfolding leaf_of
implies_stays b a [] = refl
implies_stays true true (letter ∷ letters) = implies_stays true true letters
implies_stays true false (letter ∷ letters) = implies_stays true false letters
implies_stays false a (letter ∷ letters) = implies_stays false a letters

pub truth_stays : (a : Bool) (letters : List (List Bool)) → state_after truth_content (held a) letters ≡ held a
unfolding leaf_of
truth_stays a [] = refl
truth_stays true (letter ∷ letters) = truth_stays true letters
truth_stays false (letter ∷ letters) = truth_stays false letters

-- the states after a word over B and A
implies_after : (b a : Bool) (letters : List (List Bool)) (rest : Bits) → left_by implies_content truth_B_and_A (whole_word (word (b ∷ a ∷ []) letters)) rest ≡ implied b a
unfolding leaf_of
implies_after true true letters rest = implies_stays true true (narrowed truth_B_and_A (word (true ∷ true ∷ []) letters) truth_B_and_A).letters
implies_after true false letters rest = implies_stays true false (narrowed truth_B_and_A (word (true ∷ false ∷ []) letters) truth_B_and_A).letters
implies_after false true letters rest = implies_stays false true (narrowed truth_B_and_A (word (false ∷ true ∷ []) letters) truth_B_and_A).letters
implies_after false false letters rest = implies_stays false false (narrowed truth_B_and_A (word (false ∷ false ∷ []) letters) truth_B_and_A).letters

truth_after : (b a : Bool) (letters : List (List Bool)) (rest : Bits) → left_by truth_content truth_B_and_A (whole_word (word (b ∷ a ∷ []) letters)) rest ≡ held a
unfolding leaf_of
truth_after b true letters rest = truth_stays true (narrowed truth_B_and_A (word (b ∷ true ∷ []) letters) truth_A).letters
truth_after b false letters rest = truth_stays false (narrowed truth_B_and_A (word (b ∷ false ∷ []) letters) truth_A).letters

-- and over A alone
truth_after_alone : (a : Bool) (letters : List (List Bool)) (rest : Bits) → left_by truth_content truth_A (whole_word (word (a ∷ []) letters)) rest ≡ held a
unfolding leaf_of
truth_after_alone true letters rest = truth_stays true (narrowed truth_A (word (true ∷ []) letters) truth_A).letters
truth_after_alone false letters rest = truth_stays false (narrowed truth_A (word (false ∷ []) letters) truth_A).letters

-- starts: no truth value, the first alone, and all of them
abbrev none : Start
none = some_truth_values []

abbrev only : Bool → Start
only b = some_truth_values (b ∷ [])

abbrev both : Bool → Bool → Start
both b a = whole_word (word (b ∷ a ∷ []) [])

abbrev alone : Bool → Start
alone a = whole_word (word (a ∷ []) [])

-- words whose truth values give both formulas the same values
abbrev AreAlike : Start → Start → Type 0
AreAlike one other = LeaveSameOfBoth implies_content truth_content truth_B_and_A one other

same_implied : (b a c d : Bool) (letters : List (List Bool)) → implied b a ≡ implied c d →
    LeaveSame implies_content truth_B_and_A (whole_word (word (b ∷ a ∷ []) letters)) (both c d)
same_implied b a c d letters same rest = implies_after b a letters rest ∙ (same ∙ sym (implies_after c d [] rest))

same_held : (b c a : Bool) (letters : List (List Bool)) → LeaveSame truth_content truth_B_and_A (whole_word (word (b ∷ a ∷ []) letters)) (both c a)
same_held b c a letters rest = truth_after b a letters rest ∙ sym (truth_after c a [] rest)

-- the references of B => A: the start, what the bits 0 and 1 for B leave, and the state No
abbrev implies_four : List Start
implies_four = none ∷ only false ∷ only true ∷ both true false ∷ []

abbrev IsLikeOneOfFour : Start → Type 0
IsLikeOneOfFour start = Any (λ one. LeaveSame implies_content truth_B_and_A start one) implies_four

implies_first : (b : Bool) → IsLikeOneOfFour (some_truth_values (b ∷ []))
unfolding leaf_of
implies_first false = (1, only false, omega arith, refl, (λ rest. refl))
implies_first true = (2, only true, omega arith, refl, (λ rest. refl))

implies_word : (b a : Bool) (letters : List (List Bool)) → IsLikeOneOfFour (whole_word (word (b ∷ a ∷ []) letters))
unfolding leaf_of
implies_word true false letters = (3, both true false, omega arith, refl, same_implied true false true false letters refl)
implies_word true true letters = (1, only false, omega arith, refl, implies_after true true letters)
implies_word false a letters = (1, only false, omega arith, refl, implies_after false a letters)

implies_complete : (start : Start) → IsStartOver truth_B_and_A start → IsLikeOneOfFour start
unfolding leaf_of
implies_complete = over_two IsLikeOneOfFour 0 1 (0, none, omega arith, refl, (λ rest. refl)) implies_first implies_word

-- two starts leave different states at some bits
differ : (one other : Start) (p q : Bool) (a b : ℕ) → left_by implies_content truth_B_and_A one (rest_of p q) ≡ a →
    left_by implies_content truth_B_and_A other (rest_of p q) ≡ b → (a ≡ b → ⊥) → LeaveSame implies_content truth_B_and_A one other → ⊥
differ one other p q a b is_a is_b not_same alike = not_same (sym is_a ∙ (alike (rest_of p q) ∙ is_b))

over_both : (b a : Bool) → IsStartOver truth_B_and_A (both b a)
over_both b a = record { truth = refl; letters = tt }

pub implies_references : LeadsToReferences implies_content truth_B_and_A 4
unfolding leaf_of rest_of
implies_references = record {
  chosen = implies_four;
  items = All-from_recursion (IsStartOver truth_B_and_A) implies_four (omega arith, (omega arith, (omega arith, (over_both true false, tt))));
  different = of_each_pair (λ one other. LeaveSame implies_content truth_B_and_A one other → ⊥) implies_four (
    (differ none (only false) true false 1 0 refl refl not_1_0, (differ none (only true) false false 0 1 refl refl not_0_1, (differ none (both true false) false false 0 1 refl refl not_0_1, tt))),
    (
      (differ (only false) (only true) false false 0 1 refl refl not_0_1, (differ (only false) (both true false) false false 0 1 refl refl not_0_1, tt)),
      ((differ (only true) (both true false) true true 0 1 refl refl not_0_1, tt), (tt, tt)),
    ),
  );
  complete = implies_complete;
  count = refl;
}

-- the references of A: the start and both states
abbrev truth_three : List Start
truth_three = none ∷ alone false ∷ alone true ∷ []

abbrev IsLikeOneOfThree : Start → Type 0
IsLikeOneOfThree start = Any (λ one. LeaveSame truth_content truth_A start one) truth_three

truth_word : (a : Bool) (letters : List (List Bool)) → IsLikeOneOfThree (whole_word (word (a ∷ []) letters))
unfolding leaf_of
truth_word false letters = (1, alone false, omega arith, refl, truth_after_alone false letters)
truth_word true letters = (2, alone true, omega arith, refl, truth_after_alone true letters)

truth_complete : (start : Start) → IsStartOver truth_A start → IsLikeOneOfThree start
unfolding leaf_of
truth_complete = over_one IsLikeOneOfThree 1 (0, none, omega arith, refl, (λ rest. refl)) truth_word

pub truth_references : LeadsToReferences truth_content truth_A 3
unfolding leaf_of rest_of
truth_references = record {
  chosen = truth_three;
  items = All-from_recursion (IsStartOver truth_A) truth_three (omega arith, (record { truth = refl; letters = tt }, (record { truth = refl; letters = tt }, tt)));
  different = of_each_pair (λ one other. LeaveSame truth_content truth_A one other → ⊥) truth_three (
    (λ alike. not_1_0 (alike (rest_of true true)), (λ alike. not_0_1 (alike (rest_of false false)), tt)),
    ((λ alike. not_0_1 (alike (rest_of false false)), tt), (tt, tt)),
  );
  complete = truth_complete;
  count = refl;
}

-- the pairs of both: before a whole word A is open, and behind it the words 00, 01 and 10 differ
abbrev six : List Start
six = none ∷ only false ∷ only true ∷ both false false ∷ both false true ∷ both true false ∷ []

abbrev IsAlikeToOneOfSix : Start → Type 0
IsAlikeToOneOfSix start = Any (λ one. AreAlike start one) six

pair_first : (b : Bool) → IsAlikeToOneOfSix (some_truth_values (b ∷ []))
unfolding leaf_of
pair_first false = (1, only false, omega arith, refl, (λ rest. refl, λ rest. refl))
pair_first true = (2, only true, omega arith, refl, (λ rest. refl, λ rest. refl))

pair_word : (b a : Bool) (letters : List (List Bool)) → IsAlikeToOneOfSix (whole_word (word (b ∷ a ∷ []) letters))
unfolding leaf_of
pair_word false false letters = (3, both false false, omega arith, refl, (same_implied false false false false letters refl, same_held false false false letters))
pair_word false true letters = (4, both false true, omega arith, refl, (same_implied false true false true letters refl, same_held false false true letters))
pair_word true false letters = (5, both true false, omega arith, refl, (same_implied true false true false letters refl, same_held true true false letters))
pair_word true true letters = (4, both false true, omega arith, refl, (same_implied true true false true letters refl, same_held true false true letters))

pair_complete : (start : Start) → IsStartOver truth_B_and_A start → IsAlikeToOneOfSix start
unfolding leaf_of
pair_complete = over_two IsAlikeToOneOfSix 0 1 (0, none, omega arith, refl, (λ rest. refl, λ rest. refl)) pair_first pair_word

-- B => A tells two starts apart, or A does
by_implies : (one other : Start) (p q : Bool) → (left_by implies_content truth_B_and_A one (rest_of p q) ≡ left_by implies_content truth_B_and_A other (rest_of p q) → ⊥) → AreAlike one other → ⊥
by_implies one other p q not_same alike = not_same (alike.0 (rest_of p q))

by_truth : (one other : Start) (p q : Bool) → (left_by truth_content truth_B_and_A one (rest_of p q) ≡ left_by truth_content truth_B_and_A other (rest_of p q) → ⊥) → AreAlike one other → ⊥
by_truth one other p q not_same alike = not_same (alike.1 (rest_of p q))

pub truth_pairs : LeadToPairs implies_content truth_content truth_B_and_A 6
unfolding leaf_of rest_of
truth_pairs = record {
  chosen = six;
  items = All-from_recursion (IsStartOver truth_B_and_A) six (omega arith, (omega arith, (omega arith, (over_both false false, (over_both false true, (over_both true false, tt))))));
  different = of_each_pair (λ one other. AreAlike one other → ⊥) six (
    (by_implies none (only false) true false not_1_0, (by_implies none (only true) false false not_0_1, (by_implies none (both false false) true false not_1_0, (by_implies none (both false true) true false not_1_0, (by_implies none (both true false) false false not_0_1, tt))))),
    (
      (by_implies (only false) (only true) false false not_0_1, (by_truth (only false) (both false false) true false not_1_0, (by_truth (only false) (both false true) false false not_0_1, (by_implies (only false) (both true false) false false not_0_1, tt)))),
      (
        (by_implies (only true) (both false false) false false not_1_0, (by_implies (only true) (both false true) false false not_1_0, (by_implies (only true) (both true false) true true not_0_1, tt))),
        (
          (by_truth (both false false) (both false true) false false not_0_1, (by_implies (both false false) (both true false) false false not_0_1, tt)),
          ((by_implies (both false true) (both true false) false false not_0_1, tt), (tt, tt)),
        ),
      ),
    ),
  );
  complete = pair_complete;
  count = refl;
}

-- the sets of pairs over both values of A: before a truth value of B, and behind 0 and 1
abbrev three : List Start
three = none ∷ alone false ∷ alone true ∷ []

abbrev LeadAlike : Start → Start → Type 0
LeadAlike one other = LeadToSameSet implies_content truth_content (variable 1 Zero) one other

-- words over B with one truth value lead to the same set
words_lead : (b : Bool) (one other : List (List Bool)) → LeadsWhere implies_content truth_content (variable 1 Zero) (whole_word (word (b ∷ []) one)) (whole_word (word (b ∷ []) other))
words_lead b one other [] long = absurd (omega (arith, long))
words_lead b one other (a ∷ c ∷ more) long = absurd (omega (arith, long))
words_lead b one other (a ∷ []) long =
    (a ∷ [], refl, (λ rest. implies_after b a one rest ∙ sym (implies_after b a other rest), λ rest. truth_after b a one rest ∙ sym (truth_after b a other rest)))

like_alone : (truth : List Bool) (letters : List (List Bool)) → length truth ≡ 1 → Any (λ one. LeadAlike (whole_word (word truth letters)) one) three
like_alone [] letters long = absurd (omega (arith, long))
like_alone (b ∷ c ∷ more) letters long = absurd (omega (arith, long))
like_alone (false ∷ []) letters long = (1, alone false, omega arith, refl, (words_lead false letters [], words_lead false [] letters))
like_alone (true ∷ []) letters long = (2, alone true, omega arith, refl, (words_lead true letters [], words_lead true [] letters))

set_complete : (start : Start) → IsStartOver just_B start → Any (λ one. LeadAlike start one) three
set_complete (some_truth_values []) over = (0, none, omega arith, refl, (λ bits long. ([], refl, (λ rest. refl, λ rest. refl)), λ bits long. ([], refl, (λ rest. refl, λ rest. refl))))
set_complete (some_truth_values (b ∷ more)) over = absurd (omega (arith, over))
set_complete (whole_word w) over = like_alone w.truth w.letters over.truth
set_complete (part_of_letter w bits) over = absurd (let few = over.1 in omega (arith, few))

-- before a truth value of B is read the state is open, and behind it is not
none_is_open : (b : Bool) → LeadAlike none (alone b) → ⊥
unfolding leaf_of rest_of
none_is_open b alike =
    let found = alike.0 [] refl in
    let one : ◌≡◌ {A = ℕ} 1 0 = found.2.0 (rest_of true false) ∙ sym (found.2.0 (rest_of false false)) in
    not_1_0 one

-- behind 0 both formulas can be at their first states, and behind 1 they cannot
not_same_set : LeadAlike (alone false) (alone true) → ⊥
not_same_set alike = let found = alike.0 (false ∷ []) refl in by_bits found.0 found.1 found.2
  where
    by_bits : (bits : List Bool) → length bits ≡ 1 → AreAlike (both false false) (whole_word (word (true ∷ bits) [])) → ⊥
    by_bits [] long same = omega (arith, long)
    by_bits (a ∷ b ∷ more) long same = omega (arith, long)
    by_bits (true ∷ []) long same =
        not_0_1 (sym (truth_after false false [] (rest_of true true)) ∙ (same.1 (rest_of true true) ∙ truth_after true true [] (rest_of true true)))
    by_bits (false ∷ []) long same =
        not_0_1 (sym (implies_after false false [] (rest_of true true)) ∙ (same.0 (rest_of true true) ∙ implies_after true false [] (rest_of true true)))

-- ex0 A where A: B => A
pub truth_project : IsProjectMeasure implies_content truth_content (variable 1 Zero) 3 13
truth_project = record {
  made = record {
    chosen = three;
    items = All-from_recursion (IsStartOver just_B) three (omega arith, (record { truth = refl; letters = tt }, (record { truth = refl; letters = tt }, tt)));
    different = of_each_pair (λ one other. LeadAlike one other → ⊥) three ((none_is_open false, (none_is_open true, tt)), ((not_same_set, tt), (tt, tt)));
    complete = set_complete;
    count = refl;
  };
  pairs = 6;
  parts = 7;
  pairs_read = truth_pairs;
  parts_read = (4, 3, implies_references, truth_references, refl);
  read = refl;
}
