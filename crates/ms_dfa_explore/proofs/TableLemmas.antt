-- What is found of a table is over its variables, and names its states; so its automaton gives each word the table's sign.
use Rattle.std.proofs.Common.{◌≡◌, ℕ, ◌+◌, ◌*◌, ◌<◌, ◌≤◌, max, ⊎_elim, Bool, true, false, if◌then◌else◌, List, [], ◌∷◌, length, Some, Result, Err, refl, sym, ap, subst, ◌∙◌, arith}
use Rattle.std.proofs.Math.Nat.{mul-le-mul_left}
use Rattle.std.proofs.lemmas.List.{length-map}
use Rattle.std.proofs.lemmas.Option.{same_Some}
use Rattle.ms_list.specs.declared.fault.StepFault.{StepFault}
use Rattle.ms_list.specs.declared.fault.StepFault.TheVariants.{Nodes, Memory}
use Rattle.ms_list.specs.declared.word.Word.{Word}
use Rattle.ms_arena.specs.declared.node.Ref.{Ref}
use Rattle.ms_arena.specs.declared.node.Node.{Node}
use Rattle.ms_arena.specs.Bits.{with_bit}
use Rattle.ms_arena.specs.Diagram.{IsOrdered, IsReduced}
use Rattle.ms_diagram.specs.Store.{Contents}
use Rattle.ms_logic.specs.declared.mode.Mode.{Mode}
use Rattle.ms_logic.specs.declared.mode.Order.{Order}
use Rattle.ms_logic_words.specs.declared.sign.Sign.TheVariants.{Outside}
use Rattle.ms_logic.specs.Assignment.{Variable}
use Rattle.ms_logic_words.specs.Content.{HasValueAt, IsWordOver, letter_bits, is_truth_value, is_in_letters, sign_of, with_zero_letter}
use Rattle.ms_logic.specs.Lists.{AreRising}
use Rattle.ms_dfa.specs.declared.state.State.{State}
use Rattle.ms_dfa.specs.declared.track.Track.{Track}
use Rattle.ms_dfa.specs.Automaton.{IsAutomaton, variable_of, variables_of}
use Rattle.ms_dfa.proofs.EncodingLemmas.{zero_letter_over}
use Rattle.ms_dfa_explore.specs.declared.small.TrackBits.{TrackBits}
use Rattle.ms_dfa_explore.specs.Explored.{Findings, Leads, Follows, OnRefused, Explores}
use Rattle.ms_dfa_explore.specs.inner.Run.{ReadsOnly, IsOver, AreNames}
use Rattle.ms_dfa_explore.specs.Small.{Tabulated, most_nodes, read_tracks, zero_bits, track_bits, places_of, TransitionTable, findings_of, machine_of, sign_by, HasStatesOf, IsClosedTable, TellsWords}
use Rattle.ms_dfa_explore.proofs.PlacesLemmas.{placed, read_tracks-absent, read_word}
use Rattle.ms_dfa_explore.proofs.RunLemmas.{explored, length-states_of, IsClosed-explored, sign_behind_explored, sign_of_explored}

-- a tabulated function reads only the tracks with a value
ReadsOnly-tabulated : (lead : TrackBits → ℕ) (has_value : Order → Bool) (vs : List Variable) → ReadsOnly (HasValueAt vs has_value) (Tabulated lead (places_of has_value 0 vs) zero_bits)
ReadsOnly-tabulated lead has_value vs var absent bits one other first second =
    let not_read : (bit : Bool) → read_tracks (places_of has_value 0 vs) zero_bits (with_bit bits var bit) ≡ read_tracks (places_of has_value 0 vs) zero_bits bits
    = λ bit. read_tracks-absent has_value 0 vs zero_bits bits var bit (λ i is there. absent (subst (HasValueAt vs has_value) (let same : i ≡ var = omega (arith, is) in same) there)) in
    first ∙ ap lead (not_read false) ∙ sym (ap lead (not_read true)) ∙ sym second

module _ (table : TransitionTable) (variables : List Variable) (closed : IsClosedTable table) (few : length variables ≤ 3) where
  -- what is found of the table over these variables
  abbrev pub all : Findings
  all = findings_of table (places_of is_truth_value 0 variables) (places_of is_in_letters 0 variables)

  pub IsOver-table : IsOver variables all
  IsOver-table = record {
    start_found = λ bits number is. subst (λ n. n < table.states) (sym is) (closed.start (read_tracks (places_of is_truth_value 0 variables) zero_bits bits));
    next_found = λ state found bits number is. subst (λ n. n < table.states) (sym is) (closed.step state (read_tracks (places_of is_in_letters 0 variables) zero_bits bits) found);
    start_reads = ReadsOnly-tabulated table.start is_truth_value variables;
    next_reads = λ state found. ReadsOnly-tabulated (table.step state) is_in_letters variables;
  }

  pub AreNames-table : AreNames variables all (machine_of table variables) table.sign (λ number state. number ≡ state)
  AreNames-table = record {
    start = λ truth number long is. is ∙ ap table.start (read_word is_truth_value truth variables few);
    next = λ number state letter after found named long is. is ∙ ap (table.step number) (read_word is_in_letters letter variables few) ∙ ap (λ s. table.step s (track_bits (letter_bits variables letter))) named;
    signs = λ number state found named. ap table.sign named;
  }

  module _ (nodes : List Node) (mode : Mode) (start : Ref) (states : List State) (ordered : IsOrdered nodes) (reduced : IsReduced nodes)
      (starts : Leads nodes all.starts start) (count : length states ≡ table.states) (follows : Follows nodes all states) where
    -- each word has the sign of the table
    pub sign_of_table : (word : Word) → IsWordOver variables word → sign_of (explored nodes mode variables start states all) word ≡ Some (sign_by table variables word)
    sign_of_table = sign_of_explored nodes mode variables start states all ordered reduced IsOver-table starts count follows (machine_of table variables) table.sign
        (λ number state. number ≡ state) AreNames-table

    -- and it has the table's states
    pub states_of_table : HasStatesOf table variables (explored nodes mode variables start states all)
    states_of_table = record {
      count = length-states_of states ∙ count;
      signs = λ state letters within are.
          sign_behind_explored nodes mode variables start states all ordered reduced IsOver-table starts count follows (machine_of table variables) table.sign
          (λ number named. number ≡ named) AreNames-table state state letters are (within, refl);
    }

    -- and it is an automaton, where the table tells which words encode an assignment
    pub IsAutomaton-table : AreRising variables → TellsWords mode variables table → table.states ≤ 4294967295 → IsAutomaton (explored nodes mode variables start states all)
    IsAutomaton-table rising tells small = record {
      ordered = ordered;
      reduced = reduced;
      closed = IsClosed-explored nodes mode variables start states all ordered reduced IsOver-table starts count follows;
      rising = rising;
      few_states = omega (arith, small, count_of_states);
      encodings = λ word over. (
        λ encoding outside. (tells.encodings word over).0 encoding (same_sign word over outside),
        λ inside. (tells.encodings word over).1 (λ outside. inside (sign_of_table word over ∙ ap Some outside)),
      );
      settled = λ numbers word over encoding.
          sign_of_table (with_zero_letter variables word) (zero_letter_over variables word over)
          ∙ ap Some (tells.settled numbers word over encoding)
          ∙ sym (sign_of_table word over);
    }
      where
        count_of_states : length (explored nodes mode variables start states all).states ≡ table.states
        count_of_states = length-states_of states ∙ count

        same_sign : (word : Word) → IsWordOver variables word → sign_of (explored nodes mode variables start states all) word ≡ Some Outside → sign_by table variables word ≡ Outside
        same_sign word over outside = same_Some (sign_by table variables word) Outside (sym (sign_of_table word over) ∙ outside)

-- an exploration of a table that is refused for want of nodes has a limit below eight for each state and for the start
pub refused_small : (A : Type 0) (old new : Contents) (findings : Findings) (states : List State) (fault : StepFault) (count limit : ℕ) → Explores old new findings states (Err fault)
    → (findings.LacksNumber → ⊥) → length new.nodes ≤ 7 + findings.count * 7 → limit ≡ old.limit → findings.count ≡ count
    → OnRefused {A = A} (Err fault) (λ refused. (refused ≡ limit) × (limit < 8 * (count + 1)))
refused_small A old new findings states Memory count limit explores never few same counted = tt
refused_small A old new findings states (Nodes refused) count limit explores never few same counted = (
  explores.nodes.0 ∙ sym same,
  ⊎_elim (λ full. let at_limit : length new.nodes ≡ new.limit = full.2.0 in omega (arith, at_limit, few, same, explores.grows.limit, counted))
      (λ other. ⊎_elim (λ many. omega (arith, many, few, same, explores.grows.limit, counted)) (λ lacks. absurd (never lacks)) other) explores.nodes.1,
)

-- over three variables at most, a diagram has at most seven nodes
pub seven_nodes : (has_value : Order → Bool) (vs : List Variable) → length vs ≤ 3 → most_nodes (places_of has_value 0 vs) ≤ 7
seven_nodes has_value [] few = omega arith
seven_nodes has_value (u ∷ []) few = elim (has_value u.order) as (λ a. most_nodes (if a then 0 ∷ [] else []) ≤ 7) [ true ↦ omega arith | false ↦ omega arith ]
seven_nodes has_value (u ∷ v ∷ []) few = two (has_value u.order) (has_value v.order)
  where
    two : (a b : Bool) → most_nodes (if a then 0 ∷ (if b then 1 ∷ [] else []) else (if b then 1 ∷ [] else [])) ≤ 7
    two true true = omega arith
    two true false = omega arith
    two false true = omega arith
    two false false = omega arith
seven_nodes has_value (u ∷ v ∷ w ∷ []) few = three (has_value u.order) (has_value v.order) (has_value w.order)
  where
    three : (a b c : Bool) → most_nodes (placed a b c) ≤ 7
    three true true true = omega arith
    three true true false = omega arith
    three true false true = omega arith
    three true false false = omega arith
    three false true true = omega arith
    three false true false = omega arith
    three false false true = omega arith
    three false false false = omega arith
seven_nodes has_value (u ∷ v ∷ w ∷ x ∷ vs) few = absurd (omega (arith, few))

-- as many variables as tracks
pub few_variables : (tracks : List Track) → length tracks ≤ 3 → length (variables_of tracks) ≤ 3
few_variables tracks few = omega (arith, few, length-map tracks variable_of)

-- the places that are read in either part of a word, over these variables
abbrev pub places_over : List Variable → List ℕ × List ℕ
places_over variables = (places_of is_truth_value 0 variables, places_of is_in_letters 0 variables)

-- a table with what it reads
abbrev pub found_of : TransitionTable → List ℕ × List ℕ → Findings
found_of table reads = findings_of table reads.0 reads.1

-- what was explored, said of the table and the variables
pub Explores-known : {K : Type 0} (table : K → TransitionTable) (reads : K → List ℕ × List ℕ) (early late : K) (variables : List Variable) (old new : Contents) (states : List State)
    (result : Result Ref StepFault) → early ≡ late → reads early ≡ places_over variables → Explores old new (found_of (table late) (reads late)) states result
    → Explores old new (found_of (table early) (places_over variables)) states result
Explores-known table reads early late variables old new states result same read explores =
    subst (λ places. Explores old new (found_of (table early) places) states result) read
    (subst (λ known. Explores old new (found_of (table known) (reads known)) states result) (sym same) explores)

-- a machine of known states adds seven nodes at most for each and for the start
pub few_nodes : (table : TransitionTable) (variables : List Variable) (old new : Contents) (states : List State) (result : Result Ref StepFault) → length variables ≤ 3 → length old.nodes ≡ 0
    → Explores old new (found_of table (places_over variables)) states result → length new.nodes ≤ 7 + table.states * 7
few_nodes table variables old new states result few empty explores =
    let most = max (most_nodes (places_of is_truth_value 0 variables)) (most_nodes (places_of is_in_letters 0 variables)) in
    let seven : most ≤ 7 = omega (arith, seven_nodes is_truth_value variables few, seven_nodes is_in_letters variables few) in
    let times = mul-le-mul_left table.states seven in
    omega (arith, explores.few, empty, seven, times)
