-- References and pairs of them to which starts lead are counted.
use Rattle.std.proofs.Common.{ℕ, List, ◌∙◌, ap}
use Rattle.ms_list.specs.declared.word.Word.{Word}
use Rattle.ms_logic.specs.Assignment.{Variable}
use Rattle.ms_logic_words.specs.Content.{Content, IsContent}
use Rattle.ms_logic_measures.specs.CallMeasures.{LeaveSame, LeaveSameOfBoth}
use Rattle.ms_logic_measures.specs.Starts.{Start, state_at}
use Rattle.ms_logic_counts.specs.Starts.{ReferencesAreCounted, PairsAreCounted}
use Rattle.ms_logic_machines.proofs.Choices.{Among, pairs, among-pairs}
use Rattle.ms_logic_counts.proofs.Labels.{leave_same, starts_are_counted}
use Rattle.ms_logic_counts.proofs.States.{states_of, state_listed}

pub same-transitive : {Sign : Type 0} (content : Content Sign) (variables : List Variable) (one two three : Start)
    → LeaveSame content variables one two → LeaveSame content variables two three → LeaveSame content variables one three
same-transitive content variables one two three first second rest = first rest ∙ second rest

pub references_are_counted : {Sign : Type 0} → ReferencesAreCounted Sign
references_are_counted content variables rules =
    starts_are_counted (state_at content variables) (states_of content) (state_listed content rules variables) variables
    (LeaveSame content variables) (same-transitive content variables) (leave_same content variables)

module _ {Left Right : Type 0} (left : Content Left) (right : Content Right) (variables : List Variable) where
  -- the states to which a word leads both
  abbrev pub states_at : Word → ℕ × ℕ
  states_at word = (state_at left variables word, state_at right variables word)

  -- all pairs of states
  abbrev pub state_pairs : List (ℕ × ℕ)
  state_pairs = pairs (states_of left) (states_of right)

  pub states_listed : IsContent left → IsContent right → (word : Word) → Among (states_at word) state_pairs
  states_listed left_rules right_rules word =
      among-pairs (state_at left variables word) (state_at right variables word) (states_of left) (states_of right)
      (state_listed left left_rules variables word) (state_listed right right_rules variables word)

  pub both-transitive : (one two three : Start) → LeaveSameOfBoth left right variables one two → LeaveSameOfBoth left right variables two three
      → LeaveSameOfBoth left right variables one three
  both-transitive one two three first second = ((λ rest. first.0 rest ∙ second.0 rest), (λ rest. first.1 rest ∙ second.1 rest))

pub pairs_are_counted : {Left Right : Type 0} → PairsAreCounted Left Right
pairs_are_counted left right variables left_rules right_rules =
    starts_are_counted (states_at left right variables) (state_pairs left right variables) (states_listed left right variables left_rules right_rules)
    variables (LeaveSameOfBoth left right variables) (both-transitive left right variables)
    (λ one other kinds states bits. (
      leave_same left variables one other kinds (ap (λ (p : ℕ × ℕ). p.0) states) bits,
      leave_same right variables one other kinds (ap (λ (p : ℕ × ℕ). p.1) states) bits,
    ))
