-- Words and assignments.
use Rattle.std.proofs.Common.{◌≡◌, ◌≢◌, ℕ, zero, suc, ◌+◌, ◌<◌, ◌≤◌, Bool, false, if◌then◌else◌, ⊎_elim, List, [], ◌∷◌, ◌++◌, length, length-append, map, replicate, Some, None, refl, sym, ◌∙◌, ap, subst, arith}
use Rattle.std.specs.List.{range_with_len}
use Rattle.std.proofs.lemmas.Bool.{false≢true, ne_eqb}
use Rattle.std.proofs.lemmas.List.FromFn.{length-map-range_with_len}
use Rattle.std.proofs.Math.Nat.{eq-or-lt_of_le}
use Rattle.ms_logic.specs.declared.mode.Mode.{Mode}
use Rattle.ms_logic.specs.declared.mode.Mode.TheVariants.{Ws1s, M2lStr}
use Rattle.ms_logic.specs.declared.mode.Order.{Order}
use Rattle.ms_logic.specs.declared.mode.Order.TheVariants.{Zero, One, Two}
use Rattle.ms_logic.specs.Assignment.{Universe, Env, Variable, IsUniverseOf}
use Rattle.ms_logic_words.specs.Content.{AreLetters, is_truth_value, is_in_letters, count_of, zero_letter}
use Rattle.ms_logic.specs.First.{length_of, length_by}
use Rattle.ms_logic_words.specs.Word.{HasLength}
use Rattle.ms_logic.specs.Letters.{with_truth_value, truth_values_of, with_bit, letter_at, letters_below, bound_at, bound_of}
use Rattle.ms_logic_words.specs.inner.WordLaws.{EncodingIsOver, LengthIsLeast, WordIsUnique, ZeroLetterKeeps}
use Rattle.ms_logic_words.specs.WordSign.{EncodingExists, EncodingIsUnique}
use Rattle.ms_logic.proofs.Members.{no_member_from_bound}
use Rattle.ms_logic.proofs.OrderLaws.{bound_is_least, same_values, values_below_length}

pub length-letters_below : (n : ℕ) (vs : List Variable) (e : Env) → length (letters_below n vs e) ≡ n
length-letters_below n vs e = length-map-range_with_len (letter_at vs e) 0 n

pub encoding_exists : EncodingExists
encoding_exists vs e n room string =
    let long = length-letters_below n vs e in
    record {
      truth = refl;
      letters = ap (λ k. letters_below k vs e) (sym long);
      room = omega (arith, long, room);
      string = (let P : ℕ → Type 0 = λ k. HasLength e.universe k in subst P (sym long) string);
    }

-- equal lists of letters over a range have equal letters
map_parts : {A : Type 0} (g h : ℕ → A) (start count : ℕ) → map g (range_with_len start count) ≡ map h (range_with_len start count) →
    (n : ℕ) → start ≤ n → n < start + count → g n ≡ h n
map_parts g h start zero equal n at_least below = absurd (omega arith)
map_parts g h start (suc count) equal n at_least below =
    let first : g start ≡ h start = cc in
    let others : map g (range_with_len (start + 1) count) ≡ map h (range_with_len (start + 1) count) = cc in
    ⊎_elim (λ here. ap g (sym here) ∙ (first ∙ ap h here)) (λ later. map_parts g h (start + 1) count others n (omega (arith, later)) (omega arith)) (eq-or-lt_of_le at_least)

-- universes of one mode that a word has are equal
universe_of_word : (mode : Mode) (u w : Universe) (n : ℕ) → IsUniverseOf mode u → IsUniverseOf mode w → HasLength u n → HasLength w n → u ≡ w
universe_of_word Ws1s u w n is_u is_w long_u long_w = is_u ∙ sym is_w
universe_of_word M2lStr None w n is_u is_w long_u long_w = absurd (false≢true is_u)
universe_of_word M2lStr (Some a) None n is_u is_w long_u long_w = absurd (false≢true is_w)
universe_of_word M2lStr (Some a) (Some b) n is_u is_w long_u long_w = ap Some (sym long_u ∙ long_w)

pub encoding_is_unique : EncodingIsUnique
encoding_is_unique mode vs word e f is_e is_f encodes_e encodes_f =
    let n = length word.letters in
    let equal : letters_below n vs e ≡ letters_below n vs f = sym encodes_e.letters ∙ encodes_f.letters in
    (universe_of_word mode e.universe f.universe n is_e.universe is_f.universe encodes_e.string encodes_f.string, same_values vs n e f (sym encodes_e.truth ∙ encodes_f.truth) (λ p below. map_parts (letter_at vs e) (letter_at vs f) 0 n equal p (omega arith) (omega arith)) ((bound_is_least n vs e).1 encodes_e.room) ((bound_is_least n vs f).1 encodes_f.room) is_e.values is_f.values)

-- a word of values has as many truth values, and letters as long, as its variables ask for
pub length-truth_values : (vs : List Variable) (e : Env) → length (truth_values_of vs e) ≡ count_of is_truth_value vs
length-truth_values [] e = refl
length-truth_values (v ∷ vs) e = one_more v.order v.name (truth_values_of vs e) (count_of is_truth_value vs) (length-truth_values vs e)
  where
    one_more : (o : Order) (x : ℕ) (more : List Bool) (n : ℕ) → length more ≡ n → length (with_truth_value o x e more) ≡ (if is_truth_value o then n + 1 else n)
    one_more Zero x more n same = omega (arith, same)
    one_more One x more n same = same
    one_more Two x more n same = same

pub length-letter : (vs : List Variable) (e : Env) (p : ℕ) → length (letter_at vs e p) ≡ count_of is_in_letters vs
length-letter [] e p = refl
length-letter (v ∷ vs) e p = one_more v.order v.name (letter_at vs e p) (count_of is_in_letters vs) (length-letter vs e p)
  where
    one_more : (o : Order) (x : ℕ) (more : List Bool) (n : ℕ) → length more ≡ n → length (with_bit o x p e more) ≡ (if is_in_letters o then n + 1 else n)
    one_more Zero x more n same = same
    one_more One x more n same = omega (arith, same)
    one_more Two x more n same = omega (arith, same)

letters_in_range : (vs : List Variable) (e : Env) (start count : ℕ) → AreLetters vs (map (letter_at vs e) (range_with_len start count))
letters_in_range vs e start zero = tt
letters_in_range vs e start (suc count) = (length-letter vs e start, letters_in_range vs e (start + 1) count)

pub encoding_is_over : EncodingIsOver
encoding_is_over vs word e encodes = record {
  truth = ap length encodes.truth ∙ length-truth_values vs e;
  letters = (let P : List (List Bool) → Type 0 = λ letters. AreLetters vs letters in subst P (sym encodes.letters) (letters_in_range vs e 0 (length word.letters)));
}

-- an assignment has its length
has_length : (universe : Universe) (bound : ℕ) → HasLength universe (length_by universe bound)
has_length None bound = tt
has_length (Some size) bound = refl

no_shorter : (universe : Universe) (bound n : ℕ) → bound ≤ n → HasLength universe n → length_by universe bound ≤ n
no_shorter None bound n room string = room
no_shorter (Some size) bound n room string = omega (arith, string)

pub length_is_least : LengthIsLeast
length_is_least mode vs e is_assignment = (
  encoding_exists vs e (length_of vs e) ((bound_is_least (length_of vs e) vs e).0 (values_below_length vs e is_assignment.values)) (has_length e.universe (bound_of vs e)),
  length-letters_below (length_of vs e) vs e,
  λ word encodes. no_shorter e.universe (bound_of vs e) (length word.letters) encodes.room encodes.string,
)

-- no bit is 1 from the bound on
zero_from_bound : (vs : List Variable) (e : Env) (p : ℕ) → bound_of vs e ≤ p → letter_at vs e p ≡ zero_letter vs
zero_from_bound [] e p above = refl
zero_from_bound (v ∷ vs) e p above = one_more v.order v.name (letter_at vs e p) (count_of is_in_letters vs) (zero_from_bound vs e p (omega (arith, above))) (omega (arith, above))
  where
    one_more : (o : Order) (x : ℕ) (more : List Bool) (n : ℕ) → more ≡ replicate n false → bound_at o x e ≤ p
        → with_bit o x p e more ≡ replicate (if is_in_letters o then n + 1 else n) false
    one_more Zero x more n same above = same
    one_more One x more n same above =
        let other : e.number x ≢ p = omega (arith, above) in
        let next : n + 1 ≡ suc n = omega arith in
        rw (ne_eqb (e.number x) p other, same, next) refl
    one_more Two x more n same above =
        let next : n + 1 ≡ suc n = omega arith in
        rw (no_member_from_bound (e.set x) p above, same, next) refl

-- one letter more
letters_more : (vs : List Variable) (e : Env) (start n : ℕ) → map (letter_at vs e) (range_with_len start (suc n)) ≡ map (letter_at vs e) (range_with_len start n) ++ letter_at vs e (start + n) ∷ []
letters_more vs e start zero = let same : start + 0 ≡ start = omega arith in rw same refl
letters_more vs e start (suc n) =
    let same : start + 1 + n ≡ start + suc n = omega arith in
    ap (λ l. letter_at vs e start ∷ l) (letters_more vs e (start + 1) n ∙ ap (λ p. map (letter_at vs e) (range_with_len (start + 1) n) ++ letter_at vs e p ∷ []) same)

pub zero_letter_keeps : ZeroLetterKeeps
zero_letter_keeps vs word e numbers encodes =
    let n = length word.letters in
    let long : length (word.letters ++ zero_letter vs ∷ []) ≡ suc n = omega (arith, length-append word.letters (zero_letter vs ∷ [])) in
    let last : 0 + n ≡ n = omega arith in
    record {
      truth = encodes.truth;
      letters =
          ap (λ l. l ++ zero_letter vs ∷ []) encodes.letters
          ∙ ap (λ letter. letters_below n vs e ++ letter ∷ []) (sym (zero_from_bound vs e n encodes.room))
          ∙ ap (λ p. letters_below n vs e ++ letter_at vs e p ∷ []) (sym last)
          ∙ sym (letters_more vs e 0 n)
          ∙ ap (λ k. letters_below k vs e) (sym long);
      room = omega (arith, long, encodes.room);
      string = (let P : Universe → Type 0 = λ universe. HasLength universe (length (word.letters ++ zero_letter vs ∷ [])) in subst P (sym numbers) tt);
    }

pub word_is_unique : WordIsUnique
word_is_unique variables word other e one two same = λ i. record {
  truth = (one.truth ∙ sym two.truth) i;
  letters = (one.letters ∙ (ap (λ n. letters_below n variables e) same ∙ sym two.letters)) i;
}
