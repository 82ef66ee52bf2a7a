-- When two contents say the same, whatever their variables are called.
use Rattle.std.specs.Prelude.{◌≡◌, map}
use Rattle.ms_list.specs.declared.word.Word.{Word}
use Rattle.ms_arena.specs.Diagram.{IsOrdered}
use Rattle.ms_logic_starts.specs.ContentStarts.{HaveDistinctNumbers}
use Rattle.ms_logic_words.specs.Content.{Content, IsClosed, IsWordOver, sign_of}
use Rattle.ms_logic_words.specs.Residual.{AreReached, HaveDifferentResiduals}

-- variables of the same orders, one after the other, and the same sign at each word
pub record SaySame {Sign : Type 0} (one other : Content Sign) : Type 0 where
  pub orders : map (λ v. v.order) other.variables ≡ map (λ v. v.order) one.variables
  pub signs : (word : Word) → IsWordOver one.variables word → sign_of other word ≡ sign_of one word

-- a content whose states are reached and differ, and another that says the same, both closed and of ordered diagrams
pub record AreComparable {Sign : Type 0} (one other : Content Sign) : Type 0 where
  pub ordered : IsOrdered one.nodes
  pub closed : IsClosed one
  pub own : HaveDistinctNumbers one.variables
  pub reached : AreReached one
  pub differ : HaveDifferentResiduals one
  pub other_ordered : IsOrdered other.nodes
  pub other_closed : IsClosed other
  pub distinct : HaveDistinctNumbers other.variables
  pub same : SaySame one other
