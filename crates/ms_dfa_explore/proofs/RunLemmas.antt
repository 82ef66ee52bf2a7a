-- The content of an exploration is closed, and runs as the machine whose states its numbers name.
use Rattle.std.proofs.Common.{◌≡◌, ℕ, ◌<◌, inl, inr, ⊎_elim, Bool, false, true, List, length, slice_get, Some, refl, sym, ap, subst, ◌∙◌, arith}
use Rattle.std.proofs.lemmas.List.{length-map}
use Rattle.std.specs.Option.{option_map}
use Rattle.std.proofs.lemmas.Option.{get_or_from_slice_get}
use Rattle.ms_list.specs.declared.word.Word.{Word}
use Rattle.ms_arena.specs.declared.node.Ref.{Ref}
use Rattle.ms_arena.specs.declared.node.Node.{Node}
use Rattle.ms_arena.specs.Bits.{with_bit}
use Rattle.ms_arena.specs.Diagram.{Bits, leaf_of, IsOrdered, IsReduced}
use Rattle.ms_arena.specs.Target.{Target}
use Rattle.ms_arena.proofs.Lists.{slice_get-held}
use Rattle.ms_logic.specs.declared.mode.Mode.{Mode}
use Rattle.ms_logic.specs.declared.mode.Order.{Order}
use Rattle.ms_logic_words.specs.declared.sign.Sign.{Sign}
use Rattle.ms_logic.specs.Assignment.{Variable}
use Rattle.ms_logic_words.specs.Content.{AreLetters, StateOf, Content, HasValueAt, IsClosed, IsFollowed, IsWordOver, is_truth_value, is_in_letters, next_from, sign_at, sign_of, state_after, letter_bits}
use Rattle.ms_dfa.specs.declared.state.State.{State}
use Rattle.ms_dfa.specs.Automaton.{state_of, states_of}
use Rattle.ms_dfa.proofs.States.{state_in}
use Rattle.ms_dfa.specs.Machine.{Machine, after, end_of, IsSimulation}
use Rattle.ms_dfa.proofs.FunctionLemmas.{TestsOnly-by_function}
use Rattle.ms_dfa.proofs.HasValueAtLemmas.{HasValueAt-or_not}
use Rattle.ms_dfa.proofs.MachineLemmas.{related_after, sign_by_simulation}
use Rattle.ms_dfa_explore.specs.Explored.{Findings, Leads, Follows}
use Rattle.ms_dfa_explore.specs.inner.Run.{ReadsOnly, IsOver, AreNames}

-- as many states as there are in the list
pub length-states_of : (states : List State) → length (states_of states) ≡ length states
length-states_of states = length-map states state_of

module _ (nodes : List Node) (mode : Mode) (variables : List Variable) (start : Ref) (states : List State) (findings : Findings) where
  -- the content of what has been explored
  abbrev pub explored : Content Sign
  explored = record { mode = mode; variables = variables; start = start; states = states_of states; nodes = nodes }

  module _ (ordered : IsOrdered nodes) (reduced : IsReduced nodes) (over : IsOver variables findings)
      (starts : Leads nodes findings.starts start) (all : length states ≡ findings.count) (follows : Follows nodes findings states) where
    count_is : length (states_of states) ≡ findings.count
    count_is = length-states_of states ∙ all

    -- a reference that leads where it should leads to states, by the variables that matter
    leads_followed : (has_value : Order → Bool) (target : Target) (reference : Ref) → Leads nodes target reference
        → ((bits : Bits) (number : ℕ) → target bits number → number < findings.count) → ReadsOnly (HasValueAt variables has_value) target
        → IsFollowed explored has_value reference
    leads_followed has_value target reference leads found reads = record {
      valid = leads.valid;
      states = λ bits. (let below = found bits (leaf_of nodes reference bits) (leads.meets bits) in omega (arith, below, count_is));
      tests = TestsOnly-by_function nodes (leaf_of nodes reference) (HasValueAt variables has_value) reference ordered reduced (λ bits. refl)
          (λ var. ⊎_elim (λ there. inl there)
          (λ absent. inr (λ bits. reads var absent bits (leaf_of nodes reference (with_bit bits var false)) (leaf_of nodes reference (with_bit bits var true))
          (leads.meets (with_bit bits var false)) (leads.meets (with_bit bits var true))))
          (HasValueAt-or_not variables has_value var));
    }

    -- the state of a number
    held_state : (number : ℕ) → number < findings.count → (state : State) × (slice_get states number ≡ Some state)
    held_state number found = slice_get-held states number (omega (arith, found, all))

    -- the content is closed
    pub IsClosed-explored : IsClosed explored
    IsClosed-explored = record {
      start = leads_followed is_truth_value findings.starts start starts over.start_found over.start_reads;
      next = λ number other within.
          let found : number < findings.count = omega (arith, within, count_is) in
          let held = held_state number found in
          let is = follows number held.0 held.1 in
          subst (λ (state : StateOf Sign). IsFollowed explored is_in_letters state.next) (sym (get_or_from_slice_get (states_of states) number (state_of held.0) other (state_in states number held.0 held.1)))
          (leads_followed is_in_letters (findings.steps number) held.0.next is.0 (over.next_found number found) (over.next_reads number found));
    }

    module _ {X : Type 0} (machine : Machine X) (sign : X → Sign) (IsName : ℕ → X → Type 0) (names : AreNames variables findings machine sign IsName) where
      -- a number that has been found names a state
      abbrev pub Names : ℕ → X → Type 0
      Names number state = (number < findings.count) × IsName number state

      -- the content runs as the machine
      pub IsSimulation-explored : IsSimulation explored machine Names
      IsSimulation-explored = record {
        start = λ truth long. (over.start_found _ _ (starts.meets _), names.start truth _ long (starts.meets _));
        next = λ number state letter long named.
            let held = held_state number named.0 in
            let is = (follows number held.0 held.1).0 in
            let bits = letter_bits variables letter in
            let there = is.meets bits in
            subst (λ found. Names (next_from explored found letter) (machine.step state letter)) (sym (state_in states number held.0 held.1))
            (over.next_found number named.0 bits (leaf_of nodes held.0.next bits) there, names.next number state letter (leaf_of nodes held.0.next bits) named.0 named.1 long there);
      }

      -- a number has the sign of the state that it names
      sign_of_named : (number : ℕ) (state : X) → Names number state → sign_at explored number ≡ Some (sign state)
      sign_of_named number state named =
          let held = held_state number named.0 in
          ap (option_map (λ (found : StateOf Sign). found.sign)) (state_in states number held.0 held.1)
          ∙ ap Some ((follows number held.0 held.1).1 ∙ names.signs number state named.0 named.1)

      -- and each word has the sign of the machine's state at its end
      pub sign_of_explored : (word : Word) → IsWordOver variables word → sign_of explored word ≡ Some (sign (end_of machine word))
      sign_of_explored = sign_by_simulation explored machine Names IsSimulation-explored sign sign_of_named

      -- so do letters behind the state of a number
      pub sign_behind_explored : (number : ℕ) (state : X) (letters : List (List Bool)) → AreLetters variables letters → Names number state
          → sign_at explored (state_after explored number letters) ≡ Some (sign (after machine state letters))
      sign_behind_explored number state letters are named =
          sign_of_named (state_after explored number letters) (after machine state letters) (related_after explored machine Names IsSimulation-explored number state letters are named)
