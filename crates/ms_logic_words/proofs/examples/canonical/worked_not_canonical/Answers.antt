use Rattle.std.proofs.Common.{◌≡◌, Bool, List, [], ◌∷◌, Some, refl, arith}
use Rattle.ms_arena.specs.Diagram.{leaf_of}
use Rattle.ms_arena.specs.declared.node.Ref.TheVariants.{Leaf}
use Rattle.ms_logic_words.specs.Content.{state_after, sign_at}
use Rattle.ms_logic.specs.Truth.{answer_yes}
use Rattle.ms_logic_words.specs.inner.ContentExamples.{unreached_state, equal_signs}
use Rattle.ms_logic_words.proofs.examples.canonical.worked_not_canonical.Goals as goal

-- the first state leads to itself alone
after_first : (letters : List (List Bool)) → state_after unreached_state 0 letters ≡ 0
unfolding leaf_of
after_first [] = refl
after_first (letter ∷ letters) = after_first letters

pub returns-clause-unreached : goal.returns-clause-unreached
unfolding leaf_of
returns-clause-unreached c =
    λ canonical. let found = canonical.states_reached 1 (omega arith) in omega (arith, found.2, after_first found.0.letters)

pub returns-clause-ends : goal.returns-clause-ends
returns-clause-ends c = λ canonical. canonical.reduced.ends_differ 0 (record { var = 0; low = Leaf 0; high = Leaf 0 }) refl refl

pub returns-clause-nodes : goal.returns-clause-nodes
returns-clause-nodes c =
    λ canonical. omega (arith, canonical.reduced.distinct 0 1 (record { var = 0; low = Leaf 1; high = Leaf 0 }) refl refl)

-- both states are Yes after every list of letters
after_both : (letters : List (List Bool)) →
    (sign_at equal_signs (state_after equal_signs 0 letters) ≡ Some answer_yes) × (sign_at equal_signs (state_after equal_signs 1 letters) ≡ Some answer_yes)
unfolding leaf_of
after_both [] = (refl, refl)
after_both (letter ∷ letters) = let later = after_both letters in (later.1, later.0)

pub returns-clause-signs : goal.returns-clause-signs
returns-clause-signs c =
    λ canonical. omega (arith, canonical.states_differ 0 1 (omega arith) (omega arith) (λ letters are. let both = after_both letters in cc))
