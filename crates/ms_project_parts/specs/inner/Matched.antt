-- Contents that are led side by side: which bits they read, which of their states match, and where the variables of a projection stand.
use Rattle.std.specs.Prelude.{◌≡◌, ℕ, Bool, IsTrue, List, length, slice_get, Some}
use Rattle.ms_arena.specs.Diagram.{Bits, leaf_of}
use Rattle.ms_build_parts.specs.Labels.{behind_state}
use Rattle.ms_logic.specs.Assignment.{Variable}
use Rattle.ms_logic.specs.Lists.{without}
use Rattle.ms_logic.specs.declared.mode.Order.{Order}
use Rattle.ms_logic_measures.specs.Starts.{next_at}
use Rattle.ms_logic_starts.specs.ContentStarts.{HaveDistinctNumbers}
use Rattle.ms_logic_words.specs.Content.{Content, is_in_letters, is_truth_value}
use Rattle.ms_logic_words.specs.declared.sign.Sign.{Sign}
use Rattle.ms_product.specs.Widened.{IsRisingMap}
use Rattle.ms_project.specs.Subsets.{IsLeftOut, next_of}
use Rattle.ms_project.specs.Subsetting.{Subsetting, paired}

module _ {Kind : Type 0} (content : Content Kind) where
  -- where bits lead is fixed by those of the variables that have one
  abbrev pub DependsOn : (Order → Bool) → (Bits → ℕ) → Type 0
  DependsOn has_bit leads =
      (one two : Bits) → ((place : ℕ) (v : Variable) → slice_get content.variables place ≡ Some v → IsTrue (has_bit v.order) → one place ≡ two place)
      → leads one ≡ leads two

  -- the start reads truth values alone, and the states read bits of letters alone
  pub record IsRead : Type 0 where
    pub start : DependsOn is_truth_value (λ bits. leaf_of content.nodes content.start bits)
    pub next : (state : ℕ) → DependsOn is_in_letters (next_at content (slice_get content.states state))

-- bits lead both from their starts, and from states that match, to states that match; each state of the second matches one at most
pub record AreMatched {Other : Type 0} (one : Content Sign) (other : Content Other) : Type 1 where
  pub Matches : ℕ → ℕ → Type 0
  pub single : (p p' q : ℕ) → Matches p q → Matches p' q → p ≡ p'
  pub first : (bits : Bits) → Matches (leaf_of one.nodes one.start bits) (leaf_of other.nodes other.start bits)
  pub next :
      (p q : ℕ) (bits : Bits) → Matches p q
      → Matches (behind_state one (slice_get one.states p) bits) (next_at other (slice_get other.states q) bits)
  pub read : IsRead other

-- the same of a content and the pairs of states of two others, the second of which reads its bits at some places of the first
pub record IsMatchedByPairs {Domain : Type 0} (pairs body : Content Sign) (domain : Content Domain) (at : ℕ → ℕ) : Type 1 where
  pub Matches : ℕ → ℕ → ℕ → Type 0
  pub single : (s s' p q : ℕ) → Matches s p q → Matches s' p q → s ≡ s'
  pub first :
      (bits : Bits)
      → Matches (leaf_of pairs.nodes pairs.start bits) (leaf_of body.nodes body.start bits) (leaf_of domain.nodes domain.start (λ place. bits (at place)))
  pub next :
      (s p q : ℕ) (bits : Bits) → Matches s p q
      → Matches (leaf_of pairs.nodes (next_of pairs s) bits) (next_at body (slice_get body.states p) bits)
      (next_at domain (slice_get domain.states q) (λ place. bits (at place)))
  pub body_read : IsRead body
  pub domain_read : IsRead domain

-- variables with numbers of their own, one of which stands at the bound place; the others are all but this one, in the same order
pub record AreOthers (all others : List Variable) (x : Variable) (bound : ℕ) (back : List ℕ) : Type 0 where
  pub own : HaveDistinctNumbers all
  pub there : slice_get all bound ≡ Some x
  pub into : List ℕ
  pub out : IsLeftOut all others bound into back
  pub rises : IsRisingMap (length others) into

-- a subset construction over pairs of states of two contents, where x is bound in the first; the second reads its variables at their
-- places in the first
pub record IsProjected {Domain : Type 0} (v : Subsetting) (body : Content Sign) (domain : Content Domain) (x : Variable) (at : ℕ → ℕ) : Type 1 where
  pub are : AreOthers body.variables (without x.name body.variables) x v.bound v.back
  pub stands : (place : ℕ) (w : Variable) → slice_get domain.variables place ≡ Some w → slice_get body.variables (at place) ≡ Some w
  pub matched : IsMatchedByPairs (paired v) body domain at
