-- What is added to a list, in one step or in several.
use Rattle.std.specs.Prelude.{List, length, slice_get}
use Rattle.std.proofs.Common.{sym, ap, ◌∙◌, ⊎_elim, arith}
use Rattle.std.proofs.lemmas.Bool.{cases_lt}
use Rattle.std.proofs.lemmas.Option.{slice_get_within}
use Rattle.ms_arena.specs.Target.{Extends}
use Rattle.ms_arena.proofs.Lists.{slice_get-append_left}
use Rattle.ms_diagram.specs.Numbering.{AddsOnly}

-- nothing is added to the same list
pub AddsOnly-same : {X : Type 0} (fact : X → Type 0) (items : List X) → AddsOnly fact items items
AddsOnly-same fact items number item behind held = let within = slice_get_within items number item held in absurd (omega (arith, behind, within))

-- what is added is of one kind, also in two steps
pub AddsOnly-then : {X : Type 0} (first second fact : X → Type 0) (one two three : List X) → ((item : X) → first item → fact item) → ((item : X) → second item → fact item)
    → Extends two three → AddsOnly first one two → AddsOnly second two three → AddsOnly fact one three
AddsOnly-then first second fact one two three from_first from_second extends early late number item behind held = ⊎_elim
    (λ within. from_first item (early number item behind (sym (slice_get-append_left two extends.0 number within) ∙ sym (ap (λ list. slice_get list number) extends.1) ∙ held)))
    (λ beyond. from_second item (late number item beyond held))
    (cases_lt number (length two))

-- and of another that it implies
pub AddsOnly-implies : {X : Type 0} (first fact : X → Type 0) (old new : List X) → ((item : X) → first item → fact item) → AddsOnly first old new → AddsOnly fact old new
AddsOnly-implies first fact old new from added number item behind held = from item (added number item behind held)
