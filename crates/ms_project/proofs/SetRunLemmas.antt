-- The automaton of the sets ends, on each word over the rest, in the number of the set that the word reaches.
use Rattle.std.proofs.Common.{◌≡◌, ◌≢◌, ℕ, ◌<◌, ⊎_elim, Bool, false, true, List, [], ◌∷◌, ◌++◌, length, slice_get, Some, sym, ap, subst, ◌∙◌, arith}
use Rattle.std.proofs.lemmas.Bool.{cases_eq}
use Rattle.std.proofs.lemmas.List.{append_assoc, append-nil}
use Rattle.std.proofs.lemmas.Option.{slice_get_within, get_or_from_slice_get}
use Rattle.ms_list.specs.declared.word.Word.{Word}
use Rattle.ms_arena.specs.declared.node.Ref.{Ref}
use Rattle.ms_arena.specs.declared.node.Node.{Node}
use Rattle.ms_arena.specs.Bits.{with_bit}
use Rattle.ms_arena.specs.Diagram.{Bits, leaf_of, IsOrdered}
use Rattle.ms_arena.proofs.BitsLemmas.{with_bit-same, with_bit-other}
use Rattle.ms_arena.proofs.Lists.{slice_get-held}
use Rattle.ms_arena.proofs.ReachLemmas.{leaf_of-tested}
use Rattle.ms_diagram.specs.Bring.{read_through}
use Rattle.ms_diagram.specs.Collect.{IsRisingSet, IsSetNumbering}
use Rattle.ms_diagram.specs.inner.Collecting.{IsRisingSet-same}
use Rattle.ms_diagram.proofs.CollectLemmas.{same_number}
use Rattle.ms_dfa.specs.Automaton.{states_of}
use Rattle.ms_dfa.specs.declared.state.State.{State}
use Rattle.ms_dfa.proofs.States.{state_in}
use Rattle.ms_logic.specs.declared.mode.Order.{Order}
use Rattle.ms_logic_words.specs.declared.sign.Sign.{Sign}
use Rattle.ms_logic.specs.Assignment.{Variable}
use Rattle.ms_logic_words.specs.Content.{Content, StateOf, HasValueAt, IsFollowed, IsWordOver, is_truth_value, is_in_letters, truth_bits, letter_bits, next_from, last_state}
use Rattle.ms_dfa.specs.Machine.{Machine, after, end_of, IsSimulation}
use Rattle.ms_dfa.proofs.MachineLemmas.{related_at_end}
use Rattle.ms_dfa_explore.specs.Explored.{Findings, Leads, Follows}
use Rattle.ms_dfa_explore.specs.inner.Run.{IsOver}
use Rattle.ms_dfa_explore.proofs.RunLemmas.{explored, length-states_of}
use Rattle.ms_project.specs.Subsets.{IsLeftOut, opened, next_of, next_ref, IsFirst, IsBehind, sets_behind, IsReachedSet}
use Rattle.ms_project.specs.Subsetting.{Subsetting, paired, subset_findings, IsReadyForSets}
use Rattle.ms_project.proofs.ReachLemmas.{with_letter, reached_start, reached_next}

-- the machine that keeps the word that it reads
abbrev pub history : Machine Word
history = record { start = λ truth. record { truth = truth; letters = [] }; step = with_letter }

after-history : (word : Word) (letters : List (List Bool)) → after history word letters ≡ record word { letters = word.letters ++ letters }
after-history word [] = ap (λ (ls : List (List Bool)). record word { letters = ls }) (sym (append-nil word.letters))
after-history word (letter ∷ letters) =
    after-history (with_letter word letter) letters ∙ ap (λ (ls : List (List Bool)). record word { letters = ls }) (append_assoc word.letters (letter ∷ []) letters)

end_of-history : (word : Word) → end_of history word ≡ word
end_of-history word = after-history (record { truth = word.truth; letters = [] }) word.letters

module _ (v : Subsetting) (ready : IsReadyForSets v) (ordered_inner : IsOrdered v.inner.nodes) (numbering : IsSetNumbering v.sets) (rest : List Variable) (into : List ℕ)
    (out : IsLeftOut v.body.variables rest v.bound into v.back) where
  followed : (member : ℕ) → member < length v.states → IsFollowed (paired v) is_in_letters (next_of (paired v) member)
  followed member within =
      let counted = length-states_of v.states in
      let held = slice_get-held (states_of v.states) member (omega (arith, within, counted)) in
      subst (λ found. IsFollowed (paired v) is_in_letters (next_ref found)) (sym held.1)
      (subst (λ (s : StateOf Sign). IsFollowed (paired v) is_in_letters s.next) (get_or_from_slice_get (states_of v.states) member held.0 held.0 held.1)
      (ready.closed.next member held.0 (omega (arith, within, counted))))

  -- a bit of no variable of the rest is not read
  opened-ignores : (has_value : Order → Bool) (root : Ref) → IsFollowed (paired v) has_value root → (var : ℕ) → ¬ HasValueAt rest has_value var → (bits : Bits) (bit : Bool)
      → leaf_of v.inner.nodes root (opened v.back v.bound (with_bit bits var false) bit) ≡ leaf_of v.inner.nodes root (opened v.back v.bound (with_bit bits var true) bit)
  opened-ignores has_value root is var absent bits bit =
      let low = opened v.back v.bound (with_bit bits var false) bit in
      let high = opened v.back v.bound (with_bit bits var true) bit in
      leaf_of-tested v.inner.nodes ordered_inner root low high is.valid (λ own tested.
      let at = is.tests own tested in
      ⊎_elim
      (λ is_bound. subst (λ k. low k ≡ high k) (sym is_bound)
      (with_bit-same (read_through v.back (with_bit bits var false)) v.bound bit ∙ sym (with_bit-same (read_through v.back (with_bit bits var true)) v.bound bit)))
      (λ other.
      let stays = out.stays own at.0 at.1 other in
      let apart : _ ≢ var = λ same. absent (subst (HasValueAt rest has_value) same (at.0, stays.0, at.2)) in
      with_bit-other (read_through v.back (with_bit bits var false)) v.bound bit own other
      ∙ with_bit-other bits var false _ apart ∙ sym (with_bit-other bits var true _ apart)
      ∙ sym (with_bit-other (read_through v.back (with_bit bits var true)) v.bound bit own other))
      (cases_eq own v.bound))

  -- with signs for the numbers
  abbrev pub signed : (ℕ → Sign) → Findings
  signed sign = record (subset_findings v) { sign_of = sign }

  behind_held : (state : ℕ) (set : List ℕ) → slice_get v.sets state ≡ Some set → (bits : Bits) (number : ℕ) → (subset_findings v).steps state bits number
      → (next : List ℕ) × (slice_get v.sets number ≡ Some next) × IsRisingSet next (IsBehind (paired v) v.back v.bound set bits)
  behind_held state set held bits number right = subst (λ at. sets_behind (paired v) v.back v.bound v.sets at bits number) held right

  pub IsOver-sets : (sign : ℕ → Sign) → IsOver rest (signed sign)
  IsOver-sets sign = record {
    start_found = λ bits number right. slice_get_within v.sets number right.0 right.1;
    next_found = λ state found bits number right.
        let held = slice_get-held v.sets state found in
        let is = behind_held state held.0 held.1 bits number right in
        slice_get_within v.sets number is.0 is.1;
    start_reads = λ var absent bits one other first second.
        same_number v.sets (IsFirst (paired v) v.back v.bound (with_bit bits var true)) numbering.numbering.no_repeats one other first.0 second.0 first.1 second.1
        (IsRisingSet-same first.0 (IsFirst (paired v) v.back v.bound (with_bit bits var false)) (IsFirst (paired v) v.back v.bound (with_bit bits var true))
        (λ state there. (there.0, sym (opened-ignores is_truth_value v.start ready.closed.start var absent bits there.0) ∙ there.1))
        (λ state there. (there.0, opened-ignores is_truth_value v.start ready.closed.start var absent bits there.0 ∙ there.1)) first.2)
        second.2;
    next_reads = λ state found var absent bits one other first second.
        let held = slice_get-held v.sets state found in
        let one_is = behind_held state held.0 held.1 (with_bit bits var false) one first in
        let other_is = behind_held state held.0 held.1 (with_bit bits var true) other second in
        same_number v.sets (IsBehind (paired v) v.back v.bound held.0 (with_bit bits var true)) numbering.numbering.no_repeats one other one_is.0 other_is.0 one_is.1 other_is.1
        (IsRisingSet-same one_is.0 (IsBehind (paired v) v.back v.bound held.0 (with_bit bits var false)) (IsBehind (paired v) v.back v.bound held.0 (with_bit bits var true))
        (λ item there. (there.0, there.1, there.2, sym (opened-ignores is_in_letters (next_of (paired v) there.0) (followed there.0 (ready.members state held.0 held.1 there.0 there.2)) var absent bits there.1) ∙ there.3))
        (λ item there. (there.0, there.1, there.2, opened-ignores is_in_letters (next_of (paired v) there.0) (followed there.0 (ready.members state held.0 held.1 there.0 there.2)) var absent bits there.1 ∙ there.3)) one_is.2)
        other_is.2;
  }

  module _ (sign : ℕ → Sign) (nodes : List Node) (start : Ref) (states : List State) (starts : Leads nodes (subset_findings v).starts start) (all : length states ≡ length v.sets)
      (follows : Follows nodes (signed sign) states) where
    -- the automaton of the sets
    abbrev pub made : Content Sign
    made = explored nodes v.body.mode rest start states (signed sign)

    -- a number names the set that a word reaches
    abbrev pub Names : ℕ → Word → Type 0
    Names number word = (set : List ℕ) × (slice_get v.sets number ≡ Some set) × IsReachedSet (paired v) rest into word set

    IsSimulation-sets : IsSimulation made history Names
    IsSimulation-sets = record {
      start = λ truth long.
          let is = starts.meets (truth_bits rest truth) in
          (is.0, is.1, reached_start (paired v) ordered_inner ready.closed rest v.bound into v.back out truth is.0 long is.2);
      next = λ number word letter long named.
          let held = slice_get-held states number (let below = slice_get_within v.sets number named.0 named.1 in omega (arith, below, all)) in
          let leads = (follows number held.0 held.1).0 in
          let bits = letter_bits rest letter in
          let is = behind_held number named.0 named.1 bits (leaf_of nodes held.0.next bits) (leads.meets bits) in
          subst (λ found. Names (next_from made found letter) (with_letter word letter)) (sym (state_in states number held.0 held.1))
          (is.0, is.1, reached_next (paired v) ordered_inner ready.closed rest v.bound into v.back out word named.0 named.2 letter is.0 long is.2);
    }

    pub names_at_end : (word : Word) → IsWordOver rest word → Names (last_state made word) word
    names_at_end word over = subst (Names (last_state made word)) (end_of-history word) (related_at_end made history Names IsSimulation-sets word over)
