-- The automaton of some numbers has no more labels than there are states and nodes in the full content of `true` over variables with as
-- many numbers: the first of these take the places of its own.
use Rattle.std.proofs.Common.{◌≡◌, ◌≢◌, ◌*◌, ◌≤◌, ◌↔◌, List, [], length, slice_get, Option, Some, None, refl, sym, ap, subst, ◌∙◌, arith}
use Rattle.ms_arena.specs.Bits.{below_from}
use Rattle.ms_arena.specs.Diagram.{Bits}
use Rattle.ms_build_parts.specs.Labels.{IsLabelledBelow, IsOrigin, behind, behind_state}
use Rattle.ms_build_parts.proofs.Matching.{over_same}
use Rattle.ms_dfa.proofs.OrdersLemmas.{orders_of}
use Rattle.ms_rename.proofs.LeastLemmas.{closed_same, differ_same, over, reached_same, sign_same}
use Rattle.ms_build_steps.proofs.WideBodies.{encoding_same}
use Rattle.ms_build_steps.proofs.WideResiduals.{IsSaidBy, said_fixes}
use Rattle.ms_build_steps.proofs.Widenings.{full_tells}
use Rattle.ms_dfa.specs.Automaton.{IsAutomaton}
use Rattle.ms_dfa.specs.Narrow.{narrowed}
use Rattle.ms_dfa.specs.Values.{HasValues}
use Rattle.ms_dfa.proofs.NarrowLemmas.{narrowed_over}
use Rattle.ms_dfa_explore.specs.Explored.{Origin}
use Rattle.ms_dfa_explore.specs.Tracks.{places_among}
use Rattle.ms_list.specs.declared.word.Word.{Word}
use Rattle.ms_logic.specs.Assignment.{Variable}
use Rattle.ms_logic.specs.Lists.{AreRising, IsAmong}
use Rattle.ms_logic.specs.Truth.{Import}
use Rattle.ms_logic.specs.declared.mode.Mode.{Mode}
use Rattle.ms_logic.specs.declared.mode.Mode.TheVariants.{Ws1s}
use Rattle.ms_logic.specs.declared.mode.Order.TheVariants.{One}
use Rattle.ms_logic_core.specs.CoreForm.{truth}
use Rattle.ms_logic_measures.specs.FullContent.{IsFullContent, part_count}
use Rattle.ms_logic_words.specs.Content.{Content, IsWordOver, StateOf, count_of, sign_of, with_zero_letter}
use Rattle.ms_logic_words.specs.Word.{IsEncoding}
use Rattle.ms_logic_words.specs.declared.sign.Sign.{Sign}
use Rattle.ms_logic_words.specs.declared.sign.Sign.TheVariants.{Yes, Outside}
use Rattle.ms_logic_words.proofs.DecodedWords.{each_word_encodes}
use Rattle.ms_logic_words.specs.Residual.{AreReached, HaveDifferentResiduals}
use Rattle.ms_minim_canonical.proofs.ContentLemmas.{IsClosed-content}
use Rattle.ms_rename.specs.Whole.{always}
use Rattle.ms_rename.proofs.WholeLemmas.{IsAutomaton-free, IsWhole-free, free_content}
use Rattle.ms_wider_parts.proofs.Encodings.{zeros_keep}
use Rattle.ms_wider_parts.proofs.Pairs.{labels}
use Rattle.ms_dfafile_adopt_parts.proofs.FirstNumbers.{among_all, as_many_orders, first_numbers, is_number, numbers_rise}

-- where bits lead does not hang on the variables
behind_found : (content : Content Sign) (mode : Mode) (us : List Variable) (found : Option (StateOf Sign)) (bits : Bits) → behind_state content found bits ≡ behind_state (over mode us content) found bits
behind_found content mode us None bits = refl
behind_found content mode us (Some state) bits = refl

behind_over : (content : Content Sign) (mode : Mode) (us : List Variable) (origin : Origin) (bits : Bits) → behind content origin bits ≡ behind (over mode us content) origin bits
behind_over content mode us None bits = refl
behind_over content mode us (Some state) bits = behind_found content mode us (slice_get content.states state) bits

origin_over : (content : Content Sign) (mode : Mode) (us : List Variable) (origin : Origin) → IsOrigin content origin → IsOrigin (over mode us content) origin
origin_over content mode us None is = tt
origin_over content mode us (Some state) is = is

module _ (numbers : Content Sign) (automaton : IsAutomaton numbers) (reached : AreReached numbers) (differ : HaveDifferentResiduals numbers) (values : HasValues always numbers)
    (only : (v : Variable) → IsAmong numbers.variables v → v.order ≡ One) where
  -- it is Yes at each word that encodes an assignment
  yes_at : (word : Word) → IsEncoding numbers.mode numbers.variables word → sign_of numbers word ≡ Some Yes
  yes_at word encoding = let found = values.right word encoding.0 encoding.1 encoding.2 in found.1 ∙ ap Some found.2

  module _ (imports : List Import) (mode : Mode) (ws : List Variable) (rising : AreRising ws) (encodings : Content Sign) (full : IsFullContent imports mode ws truth encodings)
      (few : length numbers.variables ≤ count_of is_number ws) where
    abbrev vs : List Variable
    vs = first_numbers (length numbers.variables) ws

    same : orders_of vs ≡ orders_of numbers.variables
    same = as_many_orders numbers.variables ws only few

    vs_rising : AreRising vs
    vs_rising = numbers_rise (length numbers.variables) ws rising

    -- the same automaton, over the first numbers of these variables
    abbrev moved : Content Sign
    moved = over mode vs numbers

    to_own : (mode' : Mode) (word : Word) → IsEncoding mode' vs word → IsEncoding numbers.mode numbers.variables word
    to_own mode' word encoding = encoding_same mode' numbers.mode vs numbers.variables (sym same) vs_rising automaton.rising word encoding

    moved_yes : (mode' : Mode) (word : Word) → IsEncoding mode' vs word → sign_of moved word ≡ Some Yes
    moved_yes mode' word encoding = sign_same numbers mode vs same word ∙ yes_at word (to_own mode' word encoding)

    moved_tells : (word : Word) → IsWordOver vs word → IsEncoding mode vs word ↔ (sign_of moved word ≢ Some Outside)
    moved_tells word is_over =
        let own_over = over_same vs numbers.variables word (sym same) is_over in (
          λ encoding out. let never : Some Yes ≡ Some Outside = sym (moved_yes mode word encoding) ∙ out in let no : ⊥ = cc in no,
          λ inside.
              encoding_same numbers.mode mode numbers.variables vs same automaton.rising vs_rising word
              ((automaton.encodings word own_over).1 (subst (λ sign. sign ≢ Some Outside) (sign_same numbers mode vs same word) inside)),
        )

    moved_automaton : IsAutomaton moved
    moved_automaton = record {
      ordered = automaton.ordered;
      reduced = automaton.reduced;
      closed = closed_same numbers mode vs same automaton.closed;
      rising = vs_rising;
      few_states = automaton.few_states;
      encodings = moved_tells;
      settled = λ ws1s word is_over encoding.
          moved_yes Ws1s (with_zero_letter vs word) ((zeros_keep Ws1s vs word vs_rising).0 encoding) ∙ sym (moved_yes Ws1s word encoding);
    }

    -- what is Yes everywhere, over no variable
    abbrev all_yes : Content Sign
    all_yes = free_content mode []

    yes_everywhere : (word : Word) → IsWordOver [] word → sign_of all_yes word ≡ Some Yes
    yes_everywhere word is_over =
        let encoding = each_word_encodes mode [] word tt tt is_over in
        let found = (IsWhole-free mode [] tt (λ v there. absurd there)).values.right word encoding.0 encoding.1 encoding.2 in
        found.1 ∙ ap Some found.2

    said : IsSaidBy moved all_yes (over encodings.mode ws encodings)
    said = record {
      automaton = moved_automaton;
      reached = reached_same numbers mode vs same reached;
      differ = differ_same numbers mode vs same differ;
      left_ordered = (IsAutomaton-free mode [] tt (λ v there. absurd there)).ordered;
      left_closed = (IsAutomaton-free mode [] tt (λ v there. absurd there)).closed;
      left_rising = tt;
      left_among = λ v there. absurd there;
      right_ordered = full.canonical.rules.ordered;
      right_closed = closed_same encodings encodings.mode ws (ap (λ (us : List Variable). orders_of us) (sym full.same_variables)) (IsClosed-content encodings full.canonical.rules);
      right_rising = rising;
      right_among = λ v there. among_all (length numbers.variables) ws v there;
      says = λ word encoding. moved_yes mode word encoding ∙ sym (yes_everywhere (narrowed (places_among [] vs) [] vs word) (narrowed_over (places_among [] vs) [] vs word));
      tells = λ word is_over.
          let orders = ap (λ (us : List Variable). orders_of us) (sym full.same_variables) in
          let all = full_tells imports mode ws truth encodings full rising mode ws rising refl word is_over in (
            λ encoding. subst (λ sign. sign ≢ Some Outside) (sym (sign_same encodings encodings.mode ws orders word)) (all.0 encoding),
            λ inside. all.1 (subst (λ sign. sign ≢ Some Outside) (sign_same encodings encodings.mode ws orders word) inside),
          );
    }

    moved_labels : IsLabelledBelow moved (part_count all_yes * part_count encodings)
    moved_labels = labels moved all_yes (over encodings.mode ws encodings) (said_fixes moved all_yes (over encodings.mode ws encodings) said)

    pub number_labels : IsLabelledBelow numbers (part_count encodings)
    number_labels =
        let once : part_count all_yes * part_count encodings ≡ part_count encodings = omega arith in
        let moved = subst (IsLabelledBelow moved) once moved_labels in
        record {
          ordered = automaton.ordered;
          closed = automaton.closed;
          label = λ origin is level first. moved.label origin (origin_over numbers mode vs origin is) level first;
          below = λ origin is level first. moved.below origin (origin_over numbers mode vs origin is) level first;
          alike = λ one other is_one is_other level level' first first' equal bits.
              behind_over numbers mode vs one (below_from level first bits)
              ∙ moved.alike one other (origin_over numbers mode vs one is_one) (origin_over numbers mode vs other is_other) level level' first first' equal bits
              ∙ sym (behind_over numbers mode vs other (below_from level' first' bits));
          states = moved.states;
        }
