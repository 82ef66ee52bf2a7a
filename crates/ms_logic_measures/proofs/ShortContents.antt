-- What makes a content of few states and nodes canonical, one item after the other.
use Rattle.std.proofs.Common.{◌≡◌, ◌≢◌, ℕ, ◌<◌, List, [], Option, sym, ◌∙◌, ap}
use Rattle.ms_arena.specs.declared.node.Node.{Node}
use Rattle.ms_arena.specs.Diagram.{IsBefore, TestsAbove, IsOrdered, IsReduced}
use Rattle.ms_logic_words.specs.declared.sign.Sign.{Sign}
use Rattle.ms_logic_words.specs.Canonical.{HaveSameSigns}
use Rattle.ms_logic_words.specs.Content.{Content, sign_at}
use Rattle.ms_logic_measures.proofs.Counting.{EachPlace, at_place, EachBelow, at_number}

-- what is asked of each node of an ordered diagram at its place
pub record IsPlaced (nodes : List Node) (place : ℕ) (node : Node) : Type 0 where
  pub earlier_low : IsBefore place node.low
  pub earlier_high : IsBefore place node.high
  pub rising_low : TestsAbove nodes node.var node.low
  pub rising_high : TestsAbove nodes node.var node.high

pub ordered_by_place : (nodes : List Node) → EachPlace (IsPlaced nodes) nodes → IsOrdered nodes
ordered_by_place nodes each =
    let placed = at_place (IsPlaced nodes) nodes each in
    record {
      earlier_low = λ place node held. (placed place node held).earlier_low;
      earlier_high = λ place node held. (placed place node held).earlier_high;
      rising_low = λ place node held. (placed place node held).rising_low;
      rising_high = λ place node held. (placed place node held).rising_high;
    }

-- nodes that are told apart by a number are different
pub reduced_by_place : (nodes : List Node) (number_of : Node → ℕ) → EachPlace (λ place node. node.low ≢ node.high) nodes →
    EachPlace (λ place node. number_of node ≡ place) nodes → IsReduced nodes
reduced_by_place nodes number_of ends numbers = record {
  ends_differ = at_place (λ place node. node.low ≢ node.high) nodes ends;
  distinct = λ one two node one_held two_held.
      sym (at_place (λ place found. number_of found ≡ place) nodes numbers one node one_held) ∙ at_place (λ place found. number_of found ≡ place) nodes numbers two node two_held;
}

-- states that are told apart by their own signs are different
pub states_differ_by_sign : (content : Content Sign) (n : ℕ) (number_of : Option Sign → ℕ) → EachBelow n (λ i. number_of (sign_at content i) ≡ i) →
    (one two : ℕ) → one < n → two < n → HaveSameSigns content one two → one ≡ two
states_differ_by_sign content n number_of each one two one_below two_below same =
    let number : (i : ℕ) → i < n → number_of (sign_at content i) ≡ i = at_number n (λ i. number_of (sign_at content i) ≡ i) each in
    sym (number one one_below) ∙ (ap number_of (same [] tt) ∙ number two two_below)
