use Rattle.std.proofs.Common.{inl, refl}
use Rattle.ms_logic.specs.declared.mode.Order.TheVariants.{Two}
use Rattle.ms_logic.specs.inner.Examples.{variable}
use Rattle.ms_logic_words.specs.declared.sign.Sign.TheVariants.{Yes}
use Rattle.ms_project.specs.inner.Examples.{everywhere}
use Rattle.ms_calls.proofs.ProjectionLemmas.{always_range}
use Rattle.ms_calls.proofs.ExampleCalls.{apart, first, needs_one, no_five, second, stands, swapped, turned}
use Rattle.ms_calls.proofs.ExampleRelations.{subset_relation, turned_relation}
use Rattle.ms_logic_words.specs.inner.ContentExamples.{full_subset_content}
use Rattle.ms_rename.proofs.BesideLemmas.{own_orders}
use Rattle.ms_calls.proofs.examples.worked_calls.Goals as goal

pub returns-clause-first : goal.returns-clause-first
returns-clause-first c = first

pub returns-clause-second : goal.returns-clause-second
returns-clause-second c = second

pub returns-clause-apart : goal.returns-clause-apart
returns-clause-apart c = apart

pub returns-clause-stands : goal.returns-clause-stands
returns-clause-stands c = stands

pub returns-clause-swapped : goal.returns-clause-swapped
returns-clause-swapped c = swapped

pub returns-clause-one : goal.returns-clause-one
returns-clause-one c = needs_one

pub returns-clause-no_five : goal.returns-clause-no_five
returns-clause-no_five c = no_five

pub returns-clause-range : goal.returns-clause-range
returns-clause-range c = always_range (everywhere Yes)

pub returns-clause-no_range : goal.returns-clause-no_range
returns-clause-no_range c = λ is. is.for_body.among (variable 7 Two) (inl refl)

pub returns-clause-no_body : goal.returns-clause-no_body
returns-clause-no_body c = λ is. is.among

pub returns-clause-turned : goal.returns-clause-turned
returns-clause-turned c = turned

pub returns-clause-relation : goal.returns-clause-relation
returns-clause-relation c = subset_relation

pub returns-clause-no_relation : goal.returns-clause-no_relation
returns-clause-no_relation c = turned_relation

pub returns-clause-automata : goal.returns-clause-automata
returns-clause-automata c =
    let is = subset_relation.automaton in
    record { left = is; right = is; equal = own_orders full_subset_content is }
