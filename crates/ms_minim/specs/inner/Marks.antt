-- Marks of states while they are made.
use Rattle.std.specs.Prelude.{◌≡◌, ℕ, List, length, slice_get, Some}
use Rattle.ms_arena.specs.declared.node.Ref.{Ref}
use Rattle.ms_arena.specs.declared.node.Ref.TheVariants.{Leaf, Inner}
use Rattle.ms_arena.specs.declared.node.Node.{Node}
use Rattle.ms_arena.specs.Diagram.{Bits, leaf_of, IsValid}
use Rattle.ms_logic_words.specs.declared.sign.Sign.{Sign}
use Rattle.ms_logic_words.specs.declared.sign.Sign.TheVariants.{Yes, No, Undefined, Outside}
use Rattle.ms_logic_words.specs.Content.{Content, sign_at}
use Rattle.ms_diagram.specs.Numbering.{IsNumbering}
use Rattle.ms_diagram.specs.Store.{IsStore}
use Rattle.ms_minim.specs.inner.Partition.{next_by}

-- a reference as a pair of numbers
abbrev pub pair_of : Ref → ℕ × ℕ
pair_of (Leaf value) = (0, value)
pair_of (Inner place) = (1, place)

-- a number for each sign
abbrev pub mark_of_sign : Sign → ℕ
mark_of_sign Yes = 0
mark_of_sign No = 1
mark_of_sign Undefined = 2
mark_of_sign Outside = 3

-- the mark is the number of a reference that leads where the state does, to classes
pub record IsMarkOf (nodes : List Node) (known : List (ℕ × ℕ)) (content : Content Sign) (classes : List ℕ) (state mark : ℕ) : Type 0 where
  pub reference : Ref
  pub number : slice_get known mark ≡ Some (pair_of reference)
  pub valid : IsValid nodes reference
  pub leads : (bits : Bits) → slice_get classes (next_by content state bits) ≡ Some (leaf_of nodes reference bits)

-- the first states have their marks
abbrev pub HaveMarks : List Node → List (ℕ × ℕ) → Content Sign → List ℕ → List ℕ → Type 0
HaveMarks nodes known content classes marks = (state mark : ℕ) → slice_get marks state ≡ Some mark → IsMarkOf nodes known content classes state mark

-- the first states have the marks of their signs
abbrev pub HaveSignMarks : Content Sign → List ℕ → Type 0
HaveSignMarks content marks = (state mark : ℕ) → slice_get marks state ≡ Some mark → (sign : Sign) × (sign_at content state ≡ Some sign) × (mark ≡ mark_of_sign sign)

-- as many marks as there were states so far, over a store and a numbering
pub record MarksSoFar (nodes : List Node) (limit : ℕ) (known : List (ℕ × ℕ)) (content : Content Sign) (classes marks : List ℕ) (done : ℕ) : Type 0 where
  pub store : IsStore nodes limit
  pub numbering : IsNumbering known
  pub marked : HaveMarks nodes known content classes marks
  pub count : length marks ≡ done
