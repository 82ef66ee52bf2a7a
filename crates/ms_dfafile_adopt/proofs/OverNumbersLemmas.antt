-- The product of what is said where numbers are read as sets with the automaton of the numbers: it has the sign that is said
-- at each word that encodes an assignment, and Outside at any other.
use Rattle.std.proofs.Common.{◌≡◌, ◌≢◌, ℕ, ◌≤◌, Bool, ⊎_elim, Result, Ok, Err, IfOk, List, length, slice_get, slice_index, slice_index_or, Some, refl, sym, ap, subst, ◌∙◌, arith}
use Rattle.std.proofs.lemmas.List.{length-map}
use Rattle.std.proofs.lemmas.Option.{slice_get_within}
use Rattle.ms_list.specs.declared.fault.StepFault.{StepFault}
use Rattle.ms_list.specs.declared.word.Word.{Word}
use Rattle.ms_arena.specs.declared.node.Ref.{Ref}
use Rattle.ms_arena.specs.declared.node.Node.{Node}
use Rattle.ms_arena.specs.Diagram.{IsOrdered, IsReduced}
use Rattle.ms_diagram.specs.Numbering.{IsNumbering}
use Rattle.ms_logic.specs.declared.mode.Mode.TheVariants.{M2lStr}
use Rattle.ms_logic.specs.declared.mode.Order.{Order}
use Rattle.ms_logic_words.specs.declared.sign.Sign.{Sign}
use Rattle.ms_logic_words.specs.declared.sign.Sign.TheVariants.{Yes, No, Undefined, Outside}
use Rattle.ms_logic.specs.Assignment.{Env, Variable, IsAssignment}
use Rattle.ms_logic_words.specs.Content.{Content, IsClosed, IsFollowed, IsWordOver, HasValueAt, is_truth_value, is_in_letters, last_state, sign_of}
use Rattle.ms_logic.specs.Lists.{AreRising}
use Rattle.ms_logic_words.specs.Word.{Encodes, IsEncoding}
use Rattle.ms_logic_words.specs.WordSign.{IsOutside}
use Rattle.ms_logic_words.proofs.WordLaws.{encoding_is_over, word_is_unique}
use Rattle.ms_dfa.specs.Automaton.{IsAutomaton, TellsEncodings}
use Rattle.ms_dfa.specs.declared.state.State.{State}
use Rattle.ms_dfa.specs.Narrow.{narrowed, narrowed_letter, ReadsThrough}
use Rattle.ms_dfa.proofs.CoveredLemmas.{covered_encodes}
use Rattle.ms_dfa.proofs.EncodingLemmas.{encoding_or_not}
use Rattle.ms_dfa.proofs.NarrowLemmas.{narrowed_encodes, narrowed_assigned, narrowed_over}
use Rattle.ms_dfa.proofs.OwnMeaningLemmas.{sign_outside, word_has_sign}
use Rattle.ms_dfa_explore.specs.Explored.{Follows, Leads}
use Rattle.ms_dfa_explore.specs.inner.Run.{IsOver}
use Rattle.ms_dfa_explore.specs.Tracks.{places_among}
use Rattle.ms_dfa_explore.proofs.AmongLemmas.{held_among, leads_to, one_place, reads_through_places}
use Rattle.ms_dfa_explore.proofs.RunLemmas.{explored, length-states_of, IsClosed-explored, sign_of_explored}
use Rattle.ms_product.specs.declared.op.Op.TheVariants.{And}
use Rattle.ms_product.specs.Pairing.{AreStates, Operands, pair_sign, product_findings}
use Rattle.ms_product.specs.Signs.{strict}
use Rattle.ms_product.specs.Widened.{sign_in}
use Rattle.ms_product.proofs.CombinedLemmas.{strict-right}
use Rattle.ms_product.proofs.ProductLemmas.{end_of-side_by_side, side_by_side, IsOver-product, AreNames-product}
use Rattle.ms_product.proofs.WidenedLemmas.{sign_in-is}
use Rattle.ms_dfafile_adopt.specs.inner.OverNumbers.{IsOverNumbers}
use Rattle.ms_dfafile_adopt.specs.Readings.{TellsNumbers}
use Rattle.ms_dfafile_adopt.specs.Readings.{read_over}
use Rattle.ms_dfafile_adopt.specs.Sets.{as_set, as_sets, set_order}
use Rattle.ms_dfafile_adopt.proofs.SetLemmas.{HasValueAt-was, same_in_letters, same_truth_value, set-at}

and_yes : (sign : Sign) → strict And sign Yes ≡ sign
and_yes Yes = refl
and_yes No = refl
and_yes Undefined = refl
and_yes Outside = refl

-- both, each with the places of its variables among all
abbrev pub operands_for : Content Sign → Content Sign → List Variable → Operands
operands_for said numbers vs =
    record { left = said; left_map = places_among said.variables said.variables; right = numbers; right_map = places_among numbers.variables vs }

-- so they are where both were brought into one store
pub operands_are : (said numbers left right : Content Sign) (left_map right_map : List ℕ) (vs one other : List Variable) → left ≡ said → left_map ≡ places_among said.variables one
    → one ≡ said.variables → right ≡ numbers → right_map ≡ places_among numbers.variables other → other ≡ vs
    → record { left = left; left_map = left_map; right = right; right_map = right_map } ≡ operands_for said numbers vs
operands_are said numbers left right left_map right_map vs one other left_is left_map_is one_is right_is right_map_is other_is =
    let first = left_map_is ∙ ap (places_among said.variables) one_is in
    let second = right_map_is ∙ ap (places_among numbers.variables) other_is in
    λ i. record { left = left_is i; left_map = first i; right = right_is i; right_map = second i }

-- what has the signs of a checked automaton is one too
pub checked_by : (said : Content Sign) (vs : List Variable) (made : Content Sign) → IsOverNumbers said vs made → (result : Result (Content Sign) StepFault) → IfOk result (λ least. least.mode ≡ made.mode)
    → IfOk result (λ least. least.variables ≡ made.variables) → IfOk result (λ least. (word : Word) → IsWordOver made.variables word → sign_of least word ≡ sign_of made word) → IfOk result (IsOverNumbers said vs)
checked_by said vs made checked (Err fault) mode_is variables_are signs = tt
checked_by said vs made checked (Ok least) mode_is variables_are signs = record {
  mode_is = mode_is ∙ checked.mode_is;
  variables_are = variables_are ∙ checked.variables_are;
  signs = λ word encoding.
      signs word (subst (λ list. IsWordOver list word) (sym checked.variables_are) (encoding_is_over vs word encoding.0 encoding.2)) ∙ checked.signs word encoding;
}

module _ (said numbers : Content Sign) (vs : List Variable) (said_is : IsAutomaton said) (numbers_is : IsAutomaton numbers) (rising : AreRising vs) (sets : said.variables ≡ as_sets vs)
    (inside : (word : Word) → sign_of (read_over vs said) word ≢ Some Outside) (tells : TellsNumbers vs (length vs) numbers) where
  abbrev own : Content Sign
  own = read_over vs said

  abbrev left_map : List ℕ
  left_map = places_among said.variables said.variables

  abbrev right_map : List ℕ
  right_map = places_among numbers.variables vs

  abbrev operands : Operands
  operands = record { left = own; left_map = left_map; right = numbers; right_map = right_map }

  -- each variable is read at its own place
  own_place : (place : ℕ) (v : Variable) → slice_get vs place ≡ Some v → slice_index left_map place ≡ place
  own_place place v held =
      let there : slice_get said.variables place ≡ Some (as_set v) = ap (λ ws. slice_get ws place) sets ∙ set-at vs place v held in
      one_place said.variables said_is.rising (slice_index left_map place) place (as_set v)
      (leads_to said.variables said.variables said_is.rising said_is.rising (λ w among. among) place (as_set v) there) there

  left_leads : (place : ℕ) (v : Variable) → slice_get vs place ≡ Some v → slice_get vs (slice_index left_map place) ≡ Some v
  left_leads place v held = ap (slice_get vs) (own_place place v held) ∙ held

  right_leads : (place : ℕ) (v : Variable) → slice_get numbers.variables place ≡ Some v → slice_get vs (slice_index right_map place) ≡ Some v
  right_leads = leads_to numbers.variables vs numbers_is.rising rising tells.among

  followed_own : (has_value : Order → Bool) → ((o : Order) → has_value (set_order o) ≡ has_value o) → (reference : Ref) → IsFollowed said has_value reference → IsFollowed own has_value reference
  followed_own has_value same reference is = record {
    valid = is.valid;
    states = is.states;
    tests = λ var tested. HasValueAt-was has_value same vs var (subst (λ ws. HasValueAt ws has_value var) sets (is.tests var tested));
  }

  own_closed : IsClosed own
  own_closed = record {
    start = followed_own is_truth_value same_truth_value said.start said_is.closed.start;
    next = λ place other within. followed_own is_in_letters same_in_letters (slice_index_or said.states place other).next (said_is.closed.next place other within);
  }

  own_reads : (e : Env) → ReadsThrough left_map vs vs e e
  own_reads e = record { universe = refl; values = λ place v held. (v, left_leads place v held, refl, refl) }

  right_reads : (e : Env) → ReadsThrough right_map numbers.variables vs e e
  right_reads = reads_through_places numbers.variables vs numbers_is.rising rising tells.among

  -- the word that what is said reads, and the word that the numbers read
  abbrev left_word : Word → Word
  left_word = narrowed left_map vs vs

  abbrev right_word : Word → Word
  right_word = narrowed right_map numbers.variables vs

  same_word : (word : Word) (e : Env) → Encodes vs word e → left_word word ≡ word
  same_word word e encodes =
      word_is_unique vs (left_word word) word e (narrowed_encodes left_map vs vs e e (own_reads e) word encodes) encodes
      (length-map word.letters (narrowed_letter left_map vs vs))

  -- a word encodes an assignment where it encodes the numbers
  encodes_all : (word : Word) → IsWordOver vs word → IsEncoding M2lStr numbers.variables (right_word word) → IsEncoding M2lStr vs word
  encodes_all word over encoding = covered_encodes M2lStr vs word rising over (λ place w there number.
      let held = held_among numbers.variables w (tells.numbers place w (slice_get_within vs place w there) there number) in
      record {
        map = right_map;
        narrow = numbers.variables;
        rising = numbers_is.rising;
        encoding = encoding;
        own = held.0;
        variable = w;
        there = held.1;
        number = number;
        leads = one_place vs rising (slice_index right_map held.0) place w (right_leads held.0 w held.1) there;
      })

  numbers_outside : (word : Word) → IsWordOver vs word → IsOutside M2lStr vs word → sign_of numbers (right_word word) ≡ Some Outside
  numbers_outside word over outside =
      sign_outside numbers numbers_is (right_word word) (narrowed_over right_map numbers.variables vs word)
      (λ encoding. outside (encodes_all word over (subst (λ mode. IsEncoding mode numbers.variables (right_word word)) tells.mode_is encoding)))

  numbers_yes : (word : Word) (e : Env) → IsAssignment M2lStr vs e → Encodes vs word e → sign_of numbers (right_word word) ≡ Some Yes
  numbers_yes word e assigned encodes =
      let here = subst (λ mode. IsAssignment mode numbers.variables e) (sym tells.mode_is) (narrowed_assigned right_map numbers.variables vs e e (right_reads e) M2lStr assigned) in
      let found = tells.values.right (right_word word) e here (narrowed_encodes right_map numbers.variables vs e e (right_reads e) word encodes) in
      found.1 ∙ ap Some found.2

  module _ (pairs : List (ℕ × ℕ)) (numbering : IsNumbering pairs) (are : AreStates (operands_for said numbers vs) pairs) (nodes : List Node) (start : Ref) (states : List State)
      (ordered : IsOrdered nodes) (reduced : IsReduced nodes) (starts : Leads nodes (product_findings And (operands_for said numbers vs) pairs).starts start) (all : length states ≡ length pairs)
      (follows : Follows nodes (product_findings And (operands_for said numbers vs) pairs) states) where
    abbrev made : Content Sign
    made = explored nodes M2lStr vs start states (product_findings And operands pairs)

    over : IsOver vs (product_findings And operands pairs)
    over = IsOver-product And operands vs said_is.ordered own_closed left_leads numbers_is.ordered numbers_is.closed right_leads pairs numbering are

    -- each word has the conjunction of both signs
    sign_of-made : (word : Word) → IsWordOver vs word → (one other : Sign) → sign_of own (left_word word) ≡ Some one → sign_of numbers (right_word word) ≡ Some other
        → sign_of made word ≡ Some (strict And one other)
    sign_of-made word is_over one other left_sign right_sign =
        sign_of_explored nodes M2lStr vs start states (product_findings And operands pairs) ordered reduced over starts all follows (side_by_side operands vs) (pair_sign And operands)
        (λ number pair. slice_get pairs number ≡ Some pair)
        (AreNames-product And operands vs said_is.ordered own_closed left_leads numbers_is.ordered numbers_is.closed right_leads pairs numbering are) word is_over
        ∙ ap (λ pair. Some (pair_sign And operands pair)) (end_of-side_by_side operands vs word)
        ∙ ap (λ s. Some (strict And s (sign_in numbers (last_state numbers (right_word word))))) (sign_in-is own (last_state own (left_word word)) one left_sign)
        ∙ ap (λ s. Some (strict And one s)) (sign_in-is numbers (last_state numbers (right_word word)) other right_sign)

    signs_made : (word : Word) → IsEncoding M2lStr vs word → sign_of made word ≡ sign_of own word
    signs_made word encoding =
        let one = word_has_sign own own_closed word in
        let left_sign : sign_of own (left_word word) ≡ Some one.0 = ap (sign_of own) (same_word word encoding.0 encoding.2) ∙ one.1 in
        sign_of-made word (encoding_is_over vs word encoding.0 encoding.2) one.0 Yes left_sign (numbers_yes word encoding.0 encoding.1 encoding.2) ∙ ap Some (and_yes one.0) ∙ sym one.1

    outside_made : (word : Word) → IsWordOver vs word → IsOutside M2lStr vs word → sign_of made word ≡ Some Outside
    outside_made word is_over outside =
        let one = word_has_sign own own_closed (left_word word) in
        sign_of-made word is_over one.0 Outside one.1 (numbers_outside word is_over outside) ∙ ap Some (strict-right And one.0)

    tells_made : TellsEncodings made
    tells_made word is_over = (
      λ encoding same. inside word (sym (signs_made word encoding) ∙ same),
      λ differs. ⊎_elim (λ encoding. encoding) (λ outside. absurd (differs (outside_made word is_over outside))) (encoding_or_not M2lStr vs word rising is_over),
    )

    pub IsOverNumbers-made : IsOverNumbers said vs made
    IsOverNumbers-made = record { mode_is = refl; variables_are = refl; signs = signs_made }

    pub IsAutomaton-checked : length pairs ≤ 4294967295 → IsAutomaton made
    IsAutomaton-checked few = record {
      ordered = ordered;
      reduced = reduced;
      closed = IsClosed-explored nodes M2lStr vs start states (product_findings And operands pairs) ordered reduced over starts all follows;
      rising = rising;
      few_states = (let counted = length-states_of states in omega (arith, few, counted, all));
      encodings = tells_made;
      settled = λ numbers_mode. let never : ⊥ = cc in absurd never;
    }
