-- Bits that are read in order, and contents that fix themselves.
use Rattle.std.proofs.Common.{ℕ, length, refl, sym, ◌∙◌, arith, ◌<◌, subst}
use Rattle.std.proofs.lemmas.Option.{slice_get_within}
use Rattle.ms_arena.specs.Diagram.{Bits, IsOrdered}
use Rattle.ms_build_parts.specs.Labels.{IsOrigin, behind}
use Rattle.ms_build_parts.proofs.Labels.{root_of}
use Rattle.ms_build_parts.proofs.Levels.{IsLevelOf, level_of, put_together}
use Rattle.ms_dfa_explore.specs.Explored.{Origin}
use Rattle.ms_logic_words.specs.Content.{Content, IsClosed}
use Rattle.ms_logic_words.specs.declared.sign.Sign.{Sign}
use Rattle.ms_logic_words.specs.Residual.{AreReached}
use Rattle.ms_wider_parts.specs.Fixed.{Follower, IsFixedBy, KeepsOrder}
use Rattle.ms_wider_parts.specs.Laws.{ResidualsFixStates, RisingMapsKeepOrder}

pub rising_keep : RisingMapsKeepOrder
rising_keep count map rising var =
    let level : (level : ℕ) × IsLevelOf map count rising var count level = level_of map count rising var count (omega arith) in
    (level.0, λ first bits place less. put_together map count rising var level.0 level.1 first bits place less)

-- bits that are read as they are
as_they_are : (count : ℕ) → KeepsOrder count (λ bits. bits)
as_they_are count var = (var, λ first bits place less. refl)

pub own_follower : (content : Content Sign) → IsOrdered content.nodes → IsClosed content → Follower content content
own_follower content ordered closed = record {
  ordered = ordered;
  read = λ bits. bits;
  keeps = as_they_are (length content.variables);
  root = λ origin is. (root_of content closed origin is).root;
  valid = λ origin is. (root_of content closed origin is).followed.valid;
  tests = λ origin is var tested. let at = (root_of content closed origin is).followed.tests var tested in slice_get_within content.variables var at.0 at.1;
  states = λ origin is. (root_of content closed origin is).followed.states;
}

-- to the start of the other from everywhere
pub start_follower : (content other : Content Sign) → IsOrdered other.nodes → IsClosed other → Follower content other
start_follower content other ordered closed = record {
  ordered = ordered;
  read = λ bits. bits;
  keeps = as_they_are (length other.variables);
  root = λ origin is. other.start;
  valid = λ origin is. closed.start.valid;
  tests = λ origin is var tested. let at = closed.start.tests var tested in slice_get_within other.variables var at.0 at.1;
  states = λ origin is. closed.start.states;
}

pub fixes_itself : (content other : Content Sign) → IsOrdered content.nodes → IsClosed content → AreReached content → IsOrdered other.nodes → IsClosed other → IsFixedBy content content other
unfolding own_follower
fixes_itself content other ordered closed reached its_order its_closed = record {
  ordered = ordered;
  closed = closed;
  reached = reached;
  first = own_follower content ordered closed;
  second = start_follower content other its_order its_closed;
  fixed = λ one another is_one is_other bits bits' same more. (root_of content closed one is_one).leads bits ∙ same ∙ sym ((root_of content closed another is_other).leads bits');
}

behind_below : (content : Content Sign) → IsClosed content → (origin : Origin) → IsOrigin content origin → (bits : Bits) → behind content origin bits < length content.states
behind_below content closed origin is bits = (let root = root_of content closed origin is in subst (λ n. n < length content.states) (sym (root.leads bits)) (root.followed.states bits))

pub residuals_fix : ResidualsFixStates
residuals_fix wide left right ordered closed reached differ first second residuals = record {
  ordered = ordered;
  closed = closed;
  reached = reached;
  first = first;
  second = second;
  fixed = λ one other is_one is_other bits bits' same more.
      differ (behind wide one bits) (behind wide other bits') (behind_below wide closed one is_one bits) (behind_below wide closed other is_other bits') (residuals one other is_one is_other bits bits' same more);
}
