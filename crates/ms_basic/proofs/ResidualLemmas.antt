-- A content that has the states of a machine whose states letters tell apart has states of different residuals. Each is reached where
-- each of the machine is.
use Rattle.std.proofs.Common.{◌≡◌, ℕ, zero, suc, ◌+◌, ◌<◌, ⊎_elim, Bool, true, false, if◌then◌else◌, IsTrue, List, [], ◌∷◌, ◌++◌, All, length, map, slice_get, slice_index_or, Option, Some, None, Result, Ok, Err, IfOk, refl, sym, ap, subst, ◌∙◌, arith}
use Rattle.std.specs.Option.{option_map}
use Rattle.std.proofs.lemmas.Bool.{cases_order}
use Rattle.std.proofs.lemmas.Option.{none-some, same_Some, slice_get_within}
use Rattle.ms_list.specs.declared.fault.StepFault.{StepFault}
use Rattle.ms_list.specs.declared.word.Word.{Word}
use Rattle.ms_logic.specs.declared.mode.Order.{Order}
use Rattle.ms_logic.specs.Assignment.{Variable}
use Rattle.ms_logic_words.specs.Content.{AreLetters, Content, HasValueAt, IsWordOver, StateOf, bits_at, count_of, first_state, head_bit, is_in_letters, is_truth_value, last_state, letter_bits, next_state, padded, sign_at, sign_of, state_after, tail_bits}
use Rattle.ms_logic_words.specs.Residual.{AreReached, HaveDifferentResiduals}
use Rattle.ms_logic_words.specs.declared.sign.Sign.{Sign}
use Rattle.ms_dfa.specs.Machine.{Machine, after, end_of}
use Rattle.ms_dfa_explore.specs.declared.small.TrackBits.{TrackBits}
use Rattle.ms_dfa_explore.specs.Small.{HasStatesOf, TransitionTable, bit_at, machine_of, sign_by, track_bits}
use Rattle.ms_dfa_explore.specs.Tracks.{distinct}
use Rattle.ms_basic.specs.declared.reading.Wiring.{Wiring}
use Rattle.ms_basic.specs.inner.Apart.{AreBitsOver, HasStatesApartBy, HasStatesApartOver, IsLetterOver, state_by}
use Rattle.ms_basic.specs.inner.Reached.{HasStatesReachedBy, HasStatesReachedOver}
use Rattle.ms_basic.specs.inner.Reading.{wired, wiring_of}

module _ (has_value : Order → Bool) where
  -- the values that have these bits at the places of the variables with a value, the first of which stands at this place
  abbrev values_from : (ℕ → Bool) → ℕ → List Variable → List Bool
  values_from bits place [] = []
  values_from bits place (v ∷ vs) = if has_value v.order then bits place ∷ values_from bits (suc place) vs else values_from bits (suc place) vs

  length-values : (bits : ℕ → Bool) (place : ℕ) (vs : List Variable) → length (values_from bits place vs) ≡ count_of has_value vs
  length-values bits place [] = refl
  length-values bits place (v ∷ vs) = by_test (has_value v.order) (length-values bits (suc place) vs)
    where
      by_test : (test : Bool) → length (values_from bits (suc place) vs) ≡ count_of has_value vs
          → length (if test then bits place ∷ values_from bits (suc place) vs else values_from bits (suc place) vs)
          ≡ (if test then count_of has_value vs + 1 else count_of has_value vs)
      by_test true others = omega (arith, others)
      by_test false others = others

  -- and they are read so, where the bits are 0 at all other places
  abbrev AreZeroElsewhere : (ℕ → Bool) → ℕ → List Variable → Type 0
  AreZeroElsewhere bits place vs = (i : ℕ) → (HasValueAt vs has_value i → ⊥) → bits (place + i) ≡ false

  zero_behind : (bits : ℕ → Bool) (place : ℕ) (v : Variable) (vs : List Variable) → AreZeroElsewhere bits place (v ∷ vs) → AreZeroElsewhere bits (suc place) vs
  zero_behind bits place v vs none j never = (let same : place + suc j ≡ suc place + j = omega arith in ap bits (sym same) ∙ none (suc j) never)

  read_back : (bits : ℕ → Bool) (place : ℕ) (vs : List Variable) → AreZeroElsewhere bits place vs
      → (i : ℕ) → slice_index_or (padded has_value vs (values_from bits place vs)) i false ≡ bits (place + i)
  read_back bits place [] none i = sym (none i (λ at. cc))
  read_back bits place (v ∷ vs) none i = by_test (has_value v.order) refl (read_back bits (suc place) vs (zero_behind bits place v vs none)) i
    where
      values : Bool → List Bool
      values test = if test then bits place ∷ values_from bits (suc place) vs else values_from bits (suc place) vs

      by_test : (test : Bool) → has_value v.order ≡ test
          → ((j : ℕ) → slice_index_or (padded has_value vs (values_from bits (suc place) vs)) j false ≡ bits (suc place + j)) → (j : ℕ)
          → slice_index_or (if test then head_bit (values test) ∷ padded has_value vs (tail_bits (values test)) else false ∷ padded has_value vs (values test)) j false
          ≡ bits (place + j)
      by_test true is others zero = (let same : place ≡ place + 0 = omega arith in ap bits same)
      by_test true is others (suc j) = (let same : suc place + j ≡ place + suc j = omega arith in others j ∙ ap bits same)
      by_test false is others zero = sym (none zero (λ at.
          let order : v.order ≡ at.0.order = ap (λ (u : Variable). u.order) (same_Some v at.0 at.1) in
          let both : false ≡ true = subst IsTrue (sym (ap has_value order) ∙ is) at.2 in let never : ⊥ = cc in never))
      by_test false is others (suc j) = (let same : suc place + j ≡ place + suc j = omega arith in others j ∙ ap bits same)

  abbrev values_of : List Variable → TrackBits → List Bool
  values_of variables bits = values_from (bit_at bits) 0 variables

  track_bits-values : (variables : List Variable) (bits : TrackBits) → AreBitsOver has_value variables bits
      → track_bits (bits_at (padded has_value variables (values_of variables bits))) ≡ bits
  track_bits-values variables bits over =
      let read = read_back (bit_at bits) 0 variables (λ i never. let same : 0 + i ≡ i = omega arith in ap (bit_at bits) same ∙ over i never) in
      λ i. record { first = read 0 i; second = read 1 i; third = read 2 i }

-- a run over some letters and more
state_after-more : (content : Content Sign) (state : ℕ) (letters more : List (List Bool))
    → state_after content state (letters ++ more) ≡ state_after content (state_after content state letters) more
state_after-more content state [] more = refl
state_after-more content state (letter ∷ letters) more = state_after-more content (next_state content state letter) letters more

after-more : (machine : Machine ℕ) (state : ℕ) (letters more : List (List Bool))
    → after machine state (letters ++ more) ≡ after machine (after machine state letters) more
after-more machine state [] more = refl
after-more machine state (letter ∷ letters) more = after-more machine (machine.step state letter) letters more

are_letters-more : (variables : List Variable) (letters more : List (List Bool)) → AreLetters variables letters → AreLetters variables more
    → AreLetters variables (letters ++ more)
are_letters-more variables [] more are also = also
are_letters-more variables (letter ∷ letters) more are also = (are.0, are_letters-more variables letters more are.1 also)

module _ (table : TransitionTable) (variables : List Variable) where
  abbrev letter_of : TrackBits → List Bool
  letter_of bits = values_of is_in_letters variables bits

  -- the machine steps by these letters as by the bits
  after-letters : (state : ℕ) (letters : List TrackBits) → All (IsLetterOver variables) letters
      → after (machine_of table variables) state (map letter_of letters) ≡ state_by table state letters
  after-letters state [] over = refl
  after-letters state (bits ∷ letters) over =
      let here : table.step state (track_bits (letter_bits variables (letter_of bits))) ≡ table.step state bits
      = ap (table.step state) (track_bits-values is_in_letters variables bits (over zero bits (omega arith))) in
      ap (λ s. after (machine_of table variables) s (map letter_of letters)) here
      ∙ after-letters (table.step state bits) letters (λ i default less. over (suc i) default (omega (arith, less)))

  are_letters : (letters : List TrackBits) → AreLetters variables (map letter_of letters)
  are_letters [] = tt
  are_letters (bits ∷ letters) = (length-values is_in_letters (bit_at bits) 0 variables, are_letters letters)

  module _ (content : Content Sign) (is : HasStatesOf table variables content) (same : content.variables ≡ variables)
      (apart : HasStatesApartBy (IsLetterOver variables) table) where
    never_alike : (one other : ℕ) → one < other → other < length content.states
        → ((letters : List (List Bool)) → AreLetters content.variables letters
        → sign_at content (state_after content one letters) ≡ sign_at content (state_after content other letters))
        → ⊥
    never_alike one other less within alike =
        let below : other < table.states = (let count = is.count in omega (arith, within, count)) in
        let told = apart one other less below in
        let letters = map letter_of told.0 in
        let are = are_letters told.0 in
        let first = is.signs one letters (omega (arith, less, below)) are in
        let second = is.signs other letters below are in
        let signs = same_Some (table.sign (after (machine_of table variables) one letters)) (table.sign (after (machine_of table variables) other letters))
        (sym first ∙ alike letters (subst (λ vs. AreLetters vs letters) (sym same) are) ∙ second) in
        told.2 (sym (ap table.sign (after-letters one told.0 told.1)) ∙ signs ∙ ap table.sign (after-letters other told.0 told.1))

    pub different_residuals : HaveDifferentResiduals content
    different_residuals one other within_one within_other alike = ⊎_elim (λ equal. equal)
        (λ differ. ⊎_elim (λ less. absurd (never_alike one other less within_other alike))
        (λ more. absurd (never_alike other one more within_one (λ letters are. sym (alike letters are)))) differ)
        (cases_order one other)

    -- a word leads to each state to which truth values and letters lead in the machine: the two have equal residuals
    module _ (signs : (word : Word) → IsWordOver variables word → sign_of content word ≡ Some (sign_by table variables word))
        (reached : HasStatesReachedBy variables table) where
      abbrev word_to : TrackBits → List TrackBits → Word
      word_to truth letters = record { truth = values_of is_truth_value variables truth; letters = map letter_of letters }

      over : (truth : TrackBits) (letters : List TrackBits) (more : List (List Bool)) → AreLetters variables more
          → IsWordOver variables (record { truth = values_of is_truth_value variables truth; letters = map letter_of letters ++ more })
      over truth letters more are = record {
        truth = length-values is_truth_value (bit_at truth) 0 variables;
        letters = are_letters-more variables (map letter_of letters) more (are_letters letters) are;
      }

      leads_to : (state : ℕ) (truth : TrackBits) (letters : List TrackBits) → AreBitsOver is_truth_value variables truth → All (IsLetterOver variables) letters
          → state_by table (table.start truth) letters ≡ state → end_of (machine_of table variables) (word_to truth letters) ≡ state
      leads_to state truth letters truth_over letters_over leads =
          ap (λ bits. after (machine_of table variables) (table.start bits) (map letter_of letters)) (track_bits-values is_truth_value variables truth truth_over)
          ∙ after-letters (table.start truth) letters letters_over ∙ leads

      pub all_reached : AreReached content
      all_reached state below =
          let there : state < table.states = (let count = is.count in omega (arith, below, count)) in
          let path = reached state there in
          let word = word_to path.0 path.2 in
          let whole : IsWordOver variables word = record { truth = length-values is_truth_value (bit_at path.0) 0 variables; letters = are_letters path.2 } in
          let ends = leads_to state path.0 path.2 path.1 path.3 path.4 in (
            word,
            subst (λ vs. IsWordOver vs word) (sym same) whole,
            different_residuals (last_state content word) state (within word whole) below (λ letters are.
                let are_here = subst (λ vs. AreLetters vs letters) same are in
                ap (sign_at content) (sym (state_after-more content (first_state content word.truth) word.letters letters))
                ∙ signs (record { truth = word.truth; letters = word.letters ++ letters }) (over path.0 path.2 letters are_here)
                ∙ ap (λ s. Some (table.sign s))
                (after-more (machine_of table variables) ((machine_of table variables).start word.truth) word.letters letters
                ∙ ap (λ s. after (machine_of table variables) s letters) ends)
                ∙ sym (is.signs state letters there are_here)),
          )
        where
          within : (word : Word) → IsWordOver variables word → last_state content word < length content.states
          within word whole = signed (slice_get content.states (last_state content word)) refl (signs word whole)
            where
              signed : (found : Option (StateOf Sign)) → slice_get content.states (last_state content word) ≡ found
                  → option_map (λ (state : StateOf Sign). state.sign) found ≡ Some (sign_by table variables word) → last_state content word < length content.states
              signed None none is_sign = absurd (none-some (sign_by table variables word) is_sign)
              signed (Some state) some is_sign = slice_get_within content.states (last_state content word) state some

-- so has what is made of a machine over the tracks of operands
pub differ_built : (operands tracks : List Variable) (wiring : Wiring) (table : TransitionTable) (result : Result (Content Sign) StepFault)
    → tracks ≡ distinct operands → wiring ≡ wiring_of operands (distinct operands) → IfOk result (λ made. made.variables ≡ tracks)
    → IfOk result (HasStatesOf (wired wiring table) tracks) → HasStatesApartOver operands table → IfOk result HaveDifferentResiduals
differ_built operands tracks wiring table (Err fault) are wires variables states apart = tt
differ_built operands tracks wiring table (Ok made) are wires variables states apart =
    different_residuals (wired (wiring_of operands (distinct operands)) table) (distinct operands) made
    (subst (λ vs. HasStatesOf (wired (wiring_of operands (distinct operands)) table) vs made) are (subst (λ w. HasStatesOf (wired w table) tracks made) wires states))
    (variables ∙ are) apart

-- and each is reached
pub reached_built : (operands tracks : List Variable) (wiring : Wiring) (table : TransitionTable) (result : Result (Content Sign) StepFault)
    → tracks ≡ distinct operands → wiring ≡ wiring_of operands (distinct operands) → IfOk result (λ made. made.variables ≡ tracks)
    → IfOk result (HasStatesOf (wired wiring table) tracks)
    → IfOk result (λ made. (word : Word) → IsWordOver tracks word → sign_of made word ≡ Some (sign_by (wired wiring table) tracks word))
    → HasStatesApartOver operands table → HasStatesReachedOver operands table → IfOk result AreReached
reached_built operands tracks wiring table (Err fault) are wires variables states signs apart reached = tt
reached_built operands tracks wiring table (Ok made) are wires variables states signs apart reached =
    let over = distinct operands in
    let whole = wired (wiring_of operands (distinct operands)) table in
    all_reached whole over made
    (subst (λ vs. HasStatesOf whole vs made) are (subst (λ w. HasStatesOf (wired w table) tracks made) wires states)) (variables ∙ are) apart
    (subst (λ vs. (word : Word) → IsWordOver vs word → sign_of made word ≡ Some (sign_by whole vs word)) are
    (subst (λ w. (word : Word) → IsWordOver tracks word → sign_of made word ≡ Some (sign_by (wired w table) tracks word)) wires signs)) reached
