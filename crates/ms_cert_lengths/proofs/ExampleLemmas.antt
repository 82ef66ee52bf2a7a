-- The worked example: the file of P sub Q, its shortest words, and its answer.
use Rattle.std.proofs.Common.{◌≡◌, ℕ, ◌+◌, ◌<◌, ◌≤◌, max, Bool, true, false, inl, inr, List, [], ◌∷◌, length, Some, None, refl, sym, ap, subst, ◌∙◌, ⊎_elim, arith}
use Rattle.std.proofs.Math.Nat.{le-max_left}
use Rattle.std.proofs.lemmas.Bool.{false≢true}
use Rattle.std.proofs.lemmas.Option.{same_Some}
use Rattle.std.specs.List.{flat_map, list_all}
use Rattle.ms_arena.specs.Diagram.{leaf_of}
use Rattle.ms_app_answer.specs.Answer.{IsAnswer}
use Rattle.ms_build_source.proofs.ExampleFiles.{empty_sets, file_of_subset}
use Rattle.ms_build_source.specs.Values.{IsMainFile, form_meaning}
use Rattle.ms_build_source.specs.inner.Examples.{P_and_Q, subset_file}
use Rattle.ms_cert.specs.Proven.{IsProven}
use Rattle.ms_dfa.specs.Files.{content_of_file}
use Rattle.ms_dfa.specs.Values.{main_meaning}
use Rattle.ms_dfa.specs.declared.plain.FileSign.{FileSign}
use Rattle.ms_dfa.specs.declared.plain.FileSign.TheVariants.{Plus, Minus}
use Rattle.ms_dfa.specs.declared.plain.FileVersion.TheVariants as versions
use Rattle.ms_list.specs.declared.word.Word.{Word}
use Rattle.ms_logic.specs.Assignment.{Env, IsAssignment}
use Rattle.ms_logic.specs.First.{IsBefore, IsLower, bits_of, length_by, length_of}
use Rattle.ms_logic.specs.FiniteSet.{is_member, numbers_below}
use Rattle.ms_logic.specs.Letters.{bound_of, bound_of_set, letter_at}
use Rattle.ms_logic.specs.Verdict.{MainNo, MainYes}
use Rattle.ms_logic.specs.declared.mode.Mode.TheVariants.{Ws1s}
use Rattle.ms_logic.specs.inner.Examples.{P_at, naturals, nothing_given, set_P, set_P_and_Q, set_Q, subset}
use Rattle.ms_logic_core.specs.inner.SpreadExamples.{subset_source}
use Rattle.ms_logic_words.specs.Content.{Content, IsWordOver, sign_of}
use Rattle.ms_logic_words.specs.declared.sign.Sign.{Sign}
use Rattle.ms_logic_words.specs.declared.sign.Sign.TheVariants.{Yes, No, Undefined, Outside}
use Rattle.ms_logic_words.specs.inner.ContentExamples.{word}
use Rattle.ms_cert_lengths.specs.inner.Examples.{proven, subset_answer}

-- the main value is that of the one formula
to_main : (e : Env) (value : Sign) → form_meaning nothing_given (subset set_P set_Q) e value → main_meaning subset_source e value
to_main e Yes means = ((tt, (tt, tt)), (means, tt))
to_main e No means = ((tt, (tt, tt)), ((inr means, tt), inl means))
to_main e Undefined means = (λ is. means.0 is.1.0, λ is. ⊎_elim (λ no. means.1 no) (λ never. never) is.1.1)
to_main e Outside means = means

pub main_file : IsMainFile versions.One subset_source P_and_Q subset_file
main_file = record {
  version_is = file_of_subset.version_is;
  mode_is = file_of_subset.mode_is;
  orders = file_of_subset.orders;
  names_are = file_of_subset.names_are;
  canonical = file_of_subset.canonical;
  value = record {
    right = λ w e is encodes. let found = file_of_subset.value.right w e is encodes in (found.0, found.1, to_main e found.0 found.2);
    outside = file_of_subset.value.outside;
  };
}

abbrev content : Content FileSign
content = content_of_file subset_file

-- the word without letters, and one letter with the bit 1 for P and 0 for Q
abbrev empty_word : Word
empty_word = word [] []

abbrev one_letter : Word
one_letter = word [] ((true ∷ false ∷ []) ∷ [])

empty_sign : sign_of content empty_word ≡ Some Plus
unfolding leaf_of
empty_sign = refl

letter_sign : sign_of content one_letter ≡ Some Minus
unfolding leaf_of
letter_sign = refl

over_empty : IsWordOver content.variables empty_word
over_empty = record { truth = refl; letters = tt }

over_letter : IsWordOver content.variables one_letter
over_letter = record { truth = refl; letters = (refl, tt) }

-- a word without letters has the sign +
minus_letters : (other : Word) → sign_of content other ≡ Some Minus → 1 ≤ length other.letters
unfolding leaf_of
minus_letters other has = by other.letters has
  where
    by : (letters : List (List Bool)) → sign_of content (record other { letters = letters }) ≡ Some Minus → 1 ≤ length letters
    by [] is = absurd (let same : Plus ≡ Minus = same_Some Plus Minus is in cc)
    by (letter ∷ letters) is = omega arith

pub lengths : IsProven content (proven (Some 0) (Some 1))
lengths = record {
  states = refl;
  plus = record { word = empty_word; over = over_empty; has_sign = empty_sign; letters = refl; least = λ other over has. omega arith };
  minus = record { word = one_letter; over = over_letter; has_sign = letter_sign; letters = refl; least = λ other over has. minus_letters other has };
}

pub too_short : ¬ IsProven content (proven (Some 0) (Some 0))
too_short is = let some = minus_letters is.minus.word is.minus.has_sign in omega (arith, some, is.minus.letters)

pub too_long : ¬ IsProven content (proven (Some 1) (Some 1))
too_long is = let none : 1 ≤ 0 = is.plus.least empty_word over_empty empty_sign in omega (arith, none)

pub not_none : ¬ IsProven content (proven (Some 0) None)
not_none is = is.minus one_letter over_letter letter_sign

-- at two empty sets P sub Q is Yes, and where 0 is the one member of P it is No
yes_at_nothing : MainYes subset_source naturals
yes_at_nothing = to_main naturals Yes refl

abbrev zero_in_P : Env
zero_in_P = P_at (0 ∷ [])

no_at_zero : MainNo subset_source zero_in_P
no_at_zero = to_main zero_in_P No (λ holds. false≢true holds)

zero_assigned : IsAssignment Ws1s set_P_and_Q zero_in_P
zero_assigned = record { universe = refl; values = (((tt, tt), (tt, tt)), ((tt, tt), tt)) }

-- no bits are lower than none
none_lower : (bits : List Bool) → IsLower bits [] → ⊥
none_lower [] lower = lower
none_lower (bit ∷ bits) lower = lower

-- a set whose members are below 1 is empty if 0 is no member
no_members : (members : List ℕ) → bound_of_set members ≤ 1 → is_member 0 members ≡ false → members ≡ []
no_members [] bound member = refl
no_members (n ∷ more) bound member =
    let first = le-max_left (n + 1) (bound_of_set more) in
    let zero_is : n ≡ 0 = omega (arith, first, bound) in
    absurd (false≢true (sym member ∙ ap (λ m. is_member 0 (m ∷ more)) zero_is))

-- and a set whose members are below 0 is empty
none_below : (members : List ℕ) → bound_of_set members < 1 → members ≡ []
none_below [] bound = refl
none_below (n ∷ more) bound = absurd (let first = le-max_left (n + 1) (bound_of_set more) in omega (arith, first, bound))

-- where P is empty, P sub Q is not No
empty_is_subset : (f : Env) → f.set 0 ≡ [] → ¬ MainNo subset_source f
empty_is_subset f empty is =
    ⊎_elim (λ differs. differs (ap (λ members. list_all (λ n. is_member n (f.set 1)) members) empty)) (λ never. never) is.1.1

-- of two bits that are lower than 1 and 0 the first is 0
first_bit : (one other : Bool) → IsLower (one ∷ other ∷ []) (true ∷ false ∷ []) → one ≡ false
first_bit false other lower = refl
first_bit true false lower = absurd lower
first_bit true true lower = absurd lower

-- an assignment before that at which 0 is the one member of P has no letter, or one whose bit for P is 0
module _ (f : Env) (assigned : IsAssignment Ws1s set_P_and_Q f) where
  long : length_of set_P_and_Q f ≡ bound_of set_P_and_Q f
  long = ap (λ universe. length_by universe (bound_of set_P_and_Q f)) assigned.universe

  within : bound_of_set (f.set 0) ≤ length_of set_P_and_Q f
  within = let first = le-max_left (bound_of_set (f.set 0)) (max (bound_of_set (f.set 1)) 0) in omega (arith, first, long)

  bits_by : length_of set_P_and_Q f ≡ 1 → bits_of set_P_and_Q f ≡ is_member 0 (f.set 0) ∷ is_member 0 (f.set 1) ∷ []
  bits_by one = ap (λ n. flat_map (letter_at set_P_and_Q f) (numbers_below n)) one

  -- P sub Q is not No at any assignment before
  none_before : IsBefore set_P_and_Q f zero_in_P → ¬ MainNo subset_source f
  none_before (inl shorter) = empty_is_subset f (none_below (f.set 0) (omega (arith, shorter, within)))
  none_before (inr (same, lower)) =
      let P : List Bool → Type 0 = λ bits. IsLower bits (true ∷ false ∷ []) in
      let bit = first_bit (is_member 0 (f.set 0)) (is_member 0 (f.set 1)) (subst P (bits_by same) lower) in
      empty_is_subset f (no_members (f.set 0) (omega (arith, same, within)) bit)

pub answer : IsAnswer subset_source subset_answer
answer = record {
  verdict = ((naturals, empty_sets, yes_at_nothing), (zero_in_P, zero_assigned, no_at_zero));
  example = (
    naturals,
    record {
      assignment = empty_sets;
      holds = yes_at_nothing;
      none_before = λ f assigned before. ⊎_elim (λ shorter. absurd (omega (arith, shorter))) (λ lower. absurd (none_lower _ lower.1)) before;
    },
    refl,
  );
  counterexample = (zero_in_P, record { assignment = zero_assigned; holds = no_at_zero; none_before = none_before }, refl);
}
