-- Environments that agree on the variables of an automaton give it one sign.
use Rattle.std.proofs.Common.{◌≡◌, ℕ, ◌==◌, ◌≤◌, Bool, List, [], ◌∷◌, length, map, max, refl, sym, ap, subst, ◌∙◌}
use Rattle.ms_dfa.specs.Automaton.{IsAutomaton}
use Rattle.ms_list.specs.declared.word.Word.{Word}
use Rattle.ms_logic.specs.declared.mode.Mode.{Mode}
use Rattle.ms_logic.specs.declared.mode.Order.{Order}
use Rattle.ms_logic.specs.declared.mode.Order.TheVariants.{Zero, One, Two}
use Rattle.ms_logic_words.specs.declared.sign.Sign.{Sign}
use Rattle.ms_logic.specs.declared.assignment.Value.{Value}
use Rattle.ms_logic.specs.declared.assignment.Value.TheVariants.{Truth, Number, Set}
use Rattle.ms_logic.specs.Assignment.{Env, Variable, GivesEach, IsAssignment, IsUniverseOf, IsValueOf, value_at}
use Rattle.ms_logic_words.specs.Content.{Content, shortest_word}
use Rattle.ms_logic.specs.FiniteSet.{is_member, numbers_below}
use Rattle.ms_logic_words.specs.Word.{Encodes, HasLength}
use Rattle.ms_logic.specs.Letters.{bound_at, bound_of, letter_at, truth_values_of, with_bit, with_truth_value}
use Rattle.ms_dfa.specs.Values.{own_meaning}
use Rattle.ms_dfa.proofs.EncodingLemmas.{shortest, sign_of_encoding}

abbrev pub AgreeOn : List Variable → Env → Env → Type 0
AgreeOn [] e f = Unit {0}
AgreeOn (v ∷ vs) e f = (value_at v.order v.name f ≡ value_at v.order v.name e) × AgreeOn vs e f

-- the second gives each variable the value that the first gives it
pub record Agree (variables : List Variable) (e f : Env) : Type 0 where
  pub universe : f.universe ≡ e.universe
  pub values : AgreeOn variables e f

abbrev truth_in : Value → Bool → Bool
truth_in (Truth b) other = b
truth_in (Number n) other = other
truth_in (Set members) other = other

abbrev number_in : Value → ℕ
number_in (Truth b) = 0
number_in (Number n) = n
number_in (Set members) = 0

abbrev set_in : Value → List ℕ
set_in (Truth b) = []
set_in (Number n) = []
set_in (Set members) = members

module _ (e f : Env) where
  truth_value-agree : (o : Order) (x : ℕ) (more : List Bool) → value_at o x f ≡ value_at o x e → with_truth_value o x f more ≡ with_truth_value o x e more
  truth_value-agree Zero x more same = ap (λ (v : Value). truth_in v (e.truth x) ∷ more) same
  truth_value-agree One x more same = refl
  truth_value-agree Two x more same = refl

  truth_values-agree : (vs : List Variable) → AgreeOn vs e f → truth_values_of vs f ≡ truth_values_of vs e
  truth_values-agree [] agree = refl
  truth_values-agree (v ∷ vs) agree =
      truth_value-agree v.order v.name (truth_values_of vs f) agree.0 ∙ ap (with_truth_value v.order v.name e) (truth_values-agree vs agree.1)

  bit-agree : (o : Order) (x position : ℕ) (more : List Bool) → value_at o x f ≡ value_at o x e → with_bit o x position f more ≡ with_bit o x position e more
  bit-agree Zero x position more same = refl
  bit-agree One x position more same = ap (λ (v : Value). (number_in v == position) ∷ more) same
  bit-agree Two x position more same = ap (λ (v : Value). is_member position (set_in v) ∷ more) same

  letter-agree : (vs : List Variable) (position : ℕ) → AgreeOn vs e f → letter_at vs f position ≡ letter_at vs e position
  letter-agree [] position agree = refl
  letter-agree (v ∷ vs) position agree =
      bit-agree v.order v.name position (letter_at vs f position) agree.0 ∙ ap (with_bit v.order v.name position e) (letter-agree vs position agree.1)

  letters-agree : (vs : List Variable) (positions : List ℕ) → AgreeOn vs e f → map (letter_at vs f) positions ≡ map (letter_at vs e) positions
  letters-agree vs [] agree = refl
  letters-agree vs (position ∷ positions) agree =
      ap (λ letter. letter ∷ map (letter_at vs f) positions) (letter-agree vs position agree)
      ∙ ap (λ letters. letter_at vs e position ∷ letters) (letters-agree vs positions agree)

  bound_at-agree : (o : Order) (x : ℕ) → value_at o x f ≡ value_at o x e → bound_at o x f ≡ bound_at o x e
  bound_at-agree Zero x same = refl
  bound_at-agree One x same = ap (λ (v : Value). bound_at One 0 (record e { number = λ y. number_in v })) same
  bound_at-agree Two x same = ap (λ (v : Value). bound_at Two 0 (record e { set = λ y. set_in v })) same

  bound-agree : (vs : List Variable) → AgreeOn vs e f → bound_of vs f ≡ bound_of vs e
  bound-agree [] agree = refl
  bound-agree (v ∷ vs) agree =
      ap (λ bound. max bound (bound_of vs f)) (bound_at-agree v.order v.name agree.0) ∙ ap (max (bound_at v.order v.name e)) (bound-agree vs agree.1)

  -- a word that encodes the one encodes the other
  pub Encodes-agree : (vs : List Variable) (word : Word) → Agree vs e f → Encodes vs word e → Encodes vs word f
  Encodes-agree vs word agree encodes = record {
    truth = encodes.truth ∙ sym (truth_values-agree vs agree.values);
    letters = encodes.letters ∙ sym (letters-agree vs (numbers_below (length word.letters)) agree.values);
    room = subst (λ bound. bound ≤ length word.letters) (sym (bound-agree vs agree.values)) encodes.room;
    string = subst (λ universe. HasLength universe (length word.letters)) (sym agree.universe) encodes.string;
  }

  gives-agree : (vs : List Variable) → f.universe ≡ e.universe → AgreeOn vs e f → GivesEach vs e → GivesEach vs f
  gives-agree [] universe agree gives = tt
  gives-agree (v ∷ vs) universe agree gives = (
    subst (λ u. IsValueOf v.order u (value_at v.order v.name f)) (sym universe) (subst (IsValueOf v.order e.universe) (sym agree.0) gives.0),
    gives-agree vs universe agree.1 gives.1,
  )

  -- what is an assignment, as the one is
  pub IsAssignment-agree : (mode : Mode) (vs : List Variable) → Agree vs e f → IsAssignment mode vs e → IsAssignment mode vs f
  IsAssignment-agree mode vs agree assigned = record {
    universe = subst (IsUniverseOf mode) (sym agree.universe) assigned.universe;
    values = gives-agree vs agree.universe agree.values assigned.values;
  }

  -- an automaton has one sign at both
  pub own_meaning-agree : (content : Content Sign) → IsAutomaton content → IsAssignment content.mode content.variables e → Agree content.variables e f → (sign : Sign)
      → own_meaning content e sign → own_meaning content f sign
  own_meaning-agree content automaton assigned agree sign own =
      let word = shortest_word content.variables e in
      let assigned_too = IsAssignment-agree content.mode content.variables agree assigned in
      let encodes = Encodes-agree content.variables word agree (shortest content automaton e assigned) in
      sym (sign_of_encoding content automaton f assigned_too word encodes) ∙ own
