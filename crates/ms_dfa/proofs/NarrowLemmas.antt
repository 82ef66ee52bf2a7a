-- A word that encodes an assignment encodes, read over other variables, what these have; and a diagram over them leads to
-- the same leaf.
use Rattle.std.proofs.Common.{◌≡◌, ℕ, zero, suc, ◌+◌, ◌≤◌, Bool, IsTrue, List, [], ◌∷◌, length, map, slice_get, slice_index, Some, refl, sym, ap, subst, ◌∙◌, arith}
use Rattle.std.proofs.lemmas.List.{length-map}
use Rattle.std.proofs.lemmas.Option.{none-some, same_Some}
use Rattle.ms_list.specs.declared.word.Word.{Word}
use Rattle.ms_arena.specs.declared.node.Ref.{Ref}
use Rattle.ms_arena.specs.declared.node.Node.{Node}
use Rattle.ms_arena.specs.Diagram.{Bits, leaf_of, IsValid, IsOrdered}
use Rattle.ms_arena.specs.Reach.{TestsOnly}
use Rattle.ms_arena.proofs.ReachLemmas.{leaf_of-tested}
use Rattle.ms_diagram.specs.Bring.{read_through}
use Rattle.ms_logic.specs.declared.mode.Mode.{Mode}
use Rattle.ms_logic.specs.declared.mode.Order.{Order}
use Rattle.ms_logic.specs.declared.mode.Order.TheVariants.{Zero, One, Two}
use Rattle.ms_logic.specs.declared.assignment.Value.{Value}
use Rattle.ms_logic.specs.declared.assignment.Value.TheVariants.{Truth, Number, Set}
use Rattle.ms_logic.specs.Assignment.{Env, Variable, IsAssignment, IsUniverseOf, IsValueOf, GivesEach, value_at}
use Rattle.ms_logic_words.specs.Content.{HasValueAt, IsWordOver, AreLetters, bits_at, padded, truth_bits, letter_bits, is_truth_value, is_in_letters}
use Rattle.ms_logic.specs.FiniteSet.{numbers_below}
use Rattle.ms_logic_words.specs.Word.{Encodes, HasLength}
use Rattle.ms_logic.specs.Letters.{truth_values_of, letter_at, letters_below, bound_at, bound_of, bound_of_set}
use Rattle.ms_dfa.specs.Narrow.{gathered, narrowed_truth, narrowed_letter, narrowed, ReadsThrough}
use Rattle.ms_dfa.proofs.GatheredLemmas.{bit_of, given_bits, truth_values_given, letter_given, given_at, gathered_at, gathered_given, length-gathered}

-- the bound of a value
abbrev bound_of_one : Value → ℕ
bound_of_one (Truth b) = 0
bound_of_one (Number n) = n + 1
bound_of_one (Set members) = bound_of_set members

bound_of_one-at : (o : Order) (x : ℕ) (e : Env) → bound_at o x e ≡ bound_of_one (value_at o x e)
bound_of_one-at Zero x e = refl
bound_of_one-at One x e = refl
bound_of_one-at Two x e = refl

-- the bound of each variable is within that of all
bound-each : (vs : List Variable) (e : Env) (place : ℕ) (v : Variable) → slice_get vs place ≡ Some v → bound_of_one (value_at v.order v.name e) ≤ bound_of vs e
bound-each [] e place v there = absurd (none-some v there)
bound-each (first ∷ vs) e zero v there =
    let same : first ≡ v = same_Some first v there in
    subst (λ (u : Variable). bound_of_one (value_at u.order u.name e) ≤ bound_of (first ∷ vs) e) same (omega (arith, bound_of_one-at first.order first.name e))
bound-each (first ∷ vs) e (suc place) v there = omega (arith, bound-each vs e place v there)

-- and the bound of all is within what each is within
bound-all : (vs : List Variable) (e : Env) (n : ℕ) → ((place : ℕ) (v : Variable) → slice_get vs place ≡ Some v → bound_of_one (value_at v.order v.name e) ≤ n) → bound_of vs e ≤ n
bound-all [] e n each = omega arith
bound-all (v ∷ vs) e n each =
    omega (arith, bound_of_one-at v.order v.name e, each 0 v refl, bound-all vs e n (λ place w there. each (suc place) w there))

-- what is true of each variable by its place
gives-all : (vs : List Variable) (e : Env) → ((place : ℕ) (v : Variable) → slice_get vs place ≡ Some v → IsValueOf v.order e.universe (value_at v.order v.name e)) → GivesEach vs e
gives-all [] e each = tt
gives-all (v ∷ vs) e each = (each 0 v refl, gives-all vs e (λ place w there. each (suc place) w there))

gives-each : (vs : List Variable) (e : Env) (place : ℕ) (v : Variable) → slice_get vs place ≡ Some v → GivesEach vs e → IsValueOf v.order e.universe (value_at v.order v.name e)
gives-each [] e place v there gives = absurd (none-some v there)
gives-each (first ∷ vs) e zero v there gives =
    subst (λ (u : Variable). IsValueOf u.order e.universe (value_at u.order u.name e)) (same_Some first v there) gives.0
gives-each (first ∷ vs) e (suc place) v there gives = gives-each vs e place v there gives.1

-- images of the letters below a number
map-below : (narrow_letter : List Bool → List Bool) (one other : ℕ → List Bool) (positions : List ℕ) → ((p : ℕ) → narrow_letter (one p) ≡ other p)
    → map narrow_letter (map one positions) ≡ map other positions
map-below narrow_letter one other [] same = refl
map-below narrow_letter one other (p ∷ positions) same =
    let first = same p in
    let rest = map-below narrow_letter one other positions same in cc

module _ (map : List ℕ) (narrow wide : List Variable) (f e : Env) (reads : ReadsThrough map narrow wide f e) where
  -- the bit at the place of a narrow variable is the one that its value has
  bit_through : (has_value : Order → Bool) (position place : ℕ) (v : Variable) → slice_get narrow place ≡ Some v → IsTrue (has_value v.order)
      → read_through map (bits_at (padded has_value wide (given_bits has_value wide e position))) (0 + place) ≡ bit_of position (value_at v.order v.name f)
  bit_through has_value position place v there with_value =
      let at = reads.values place v there in
      let here : 0 + place ≡ place = omega arith in
      ap (read_through map (bits_at (padded has_value wide (given_bits has_value wide e position)))) here
      ∙ given_at has_value wide e position (slice_index map place) at.0 at.1 (subst (λ o. IsTrue (has_value o)) (sym at.2) with_value)
      ∙ ap (bit_of position) (sym at.3)

  narrowed_given : (has_value : Order → Bool) (position : ℕ)
      → gathered has_value 0 narrow (read_through map (bits_at (padded has_value wide (given_bits has_value wide e position)))) ≡ given_bits has_value narrow f position
  narrowed_given has_value position =
      gathered_given has_value narrow (read_through map (bits_at (padded has_value wide (given_bits has_value wide e position)))) 0 f position
      (λ place v there with_value. bit_through has_value position place v there with_value)

  narrowed_truth_values : narrowed_truth map narrow wide (truth_values_of wide e) ≡ truth_values_of narrow f
  narrowed_truth_values =
      ap (narrowed_truth map narrow wide) (truth_values_given wide e 0) ∙ narrowed_given is_truth_value 0 ∙ sym (truth_values_given narrow f 0)

  narrowed_letter_at : (position : ℕ) → narrowed_letter map narrow wide (letter_at wide e position) ≡ letter_at narrow f position
  narrowed_letter_at position =
      ap (narrowed_letter map narrow wide) (letter_given wide e position) ∙ narrowed_given is_in_letters position ∙ sym (letter_given narrow f position)

  -- the narrow variables have no greater bound
  narrowed_bound : bound_of narrow f ≤ bound_of wide e
  narrowed_bound = bound-all narrow f (bound_of wide e) (λ place v there.
      let at = reads.values place v there in
      subst (λ value. bound_of_one value ≤ bound_of wide e) (sym at.3) (bound-each wide e (slice_index map place) at.0 at.1))

  -- the narrowed word encodes what the narrow variables have
  pub narrowed_encodes : (word : Word) → Encodes wide word e → Encodes narrow (narrowed map narrow wide word) f
  narrowed_encodes word encodes =
      let n = length word.letters in
      let long : length (narrowed map narrow wide word).letters ≡ n = length-map word.letters (narrowed_letter map narrow wide) in
      record {
        truth = ap (narrowed_truth map narrow wide) encodes.truth ∙ narrowed_truth_values;
        letters = ap (λ letters. map_letters letters) encodes.letters
            ∙ map-below (narrowed_letter map narrow wide) (letter_at wide e) (letter_at narrow f) (numbers_below n) narrowed_letter_at
            ∙ ap (λ k. letters_below k narrow f) (sym long);
        room = omega (arith, encodes.room, long, narrowed_bound);
        string = subst (HasLength f.universe) (sym long) (subst (λ universe. HasLength universe n) (sym reads.universe) encodes.string);
      }
    where
      map_letters : List (List Bool) → List (List Bool)
      map_letters letters = (narrowed map narrow wide (record { truth = []; letters = letters })).letters

  -- and they are assigned where the wide ones are
  pub narrowed_assigned : (mode : Mode) → IsAssignment mode wide e → IsAssignment mode narrow f
  narrowed_assigned mode assigned = record {
    universe = subst (IsUniverseOf mode) (sym reads.universe) assigned.universe;
    values = gives-all narrow f (λ place v there.
        let at = reads.values place v there in
        let own = gives-each wide e (slice_index map place) at.0 at.1 assigned.values in
        subst (λ value. IsValueOf v.order f.universe value) (sym at.3)
        (subst (λ universe. IsValueOf v.order universe (value_at at.0.order at.0.name e)) (sym reads.universe)
        (subst (λ o. IsValueOf o e.universe (value_at at.0.order at.0.name e)) at.2 own)));
  }

-- a diagram that tests narrow variables with a value leads by the gathered bits where it leads by all
pub leaf_of-gathered : (nodes : List Node) (has_value : Order → Bool) (vs : List Variable) (root : Ref) (bits : Bits) → IsOrdered nodes → IsValid nodes root
    → TestsOnly nodes (HasValueAt vs has_value) root → leaf_of nodes root (bits_at (padded has_value vs (gathered has_value 0 vs bits))) ≡ leaf_of nodes root bits
leaf_of-gathered nodes has_value vs root bits ordered valid tests =
    leaf_of-tested nodes ordered root (bits_at (padded has_value vs (gathered has_value 0 vs bits))) bits valid (λ var tested.
    let at = tests var tested in
    let same : 0 + var ≡ var = omega arith in
    gathered_at has_value vs bits 0 var at.0 at.1 at.2 ∙ ap bits same)

-- a narrowed word is one over the narrow variables
pub narrowed_over : (map : List ℕ) (narrow wide : List Variable) (word : Word) → IsWordOver narrow (narrowed map narrow wide word)
narrowed_over map narrow wide word = record {
  truth = length-gathered is_truth_value narrow (read_through map (truth_bits wide word.truth)) 0;
  letters = each word.letters;
}
  where
    each : (letters : List (List Bool)) → AreLetters narrow (narrowed map narrow wide (record { truth = []; letters = letters })).letters
    each [] = tt
    each (letter ∷ letters) = (length-gathered is_in_letters narrow (read_through map (letter_bits wide letter)) 0, each letters)
