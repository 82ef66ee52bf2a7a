-- A numbering stays one when an item gets a number.
use Rattle.std.proofs.Common.{◌<◌, List, [], ◌∷◌, ◌++◌, length, slice_get, Some, sym, ap, subst, ◌∙◌, inl, inr, ⊎_elim, length-append, append-nil, arith}
use Rattle.std.proofs.lemmas.Option.{slice_get_within}
use Rattle.ms_arena.specs.Target.{Extends}
use Rattle.ms_arena.proofs.Lists.{slice_get-pushed}
pub use Rattle.ms_diagram.specs.inner.Adding.{AddsOnly-same, AddsOnly-then, AddsOnly-implies}
use Rattle.ms_diagram.specs.Numbering.{HasNoRepeats, IsNumbering, IsMissing, Numbers, AddsOnly}

module _ {X : Type 0} (old new : List X) (item : X) where
  -- the old items keep their numbers
  pub Extends-numbers : Numbers old new item → Extends old new
  Extends-numbers (inl same) = ([], same ∙ sym (append-nil old))
  Extends-numbers (inr added) = (item ∷ [], added.1)

  HasNoRepeats-push : HasNoRepeats old → IsMissing old item → HasNoRepeats (old ++ item ∷ [])
  HasNoRepeats-push distinct absent one two other first second = ⊎_elim
      (λ there. ⊎_elim
      (λ here. distinct one two other there here)
      (λ last. absurd (absent one (there ∙ ap Some (sym last.1))))
      (slice_get-pushed old item two other second))
      (λ last. ⊎_elim
      (λ here. absurd (absent two (here ∙ ap Some (sym last.1))))
      (λ also. last.0 ∙ sym also.0)
      (slice_get-pushed old item two other second))
      (slice_get-pushed old item one other first)

  -- the items still differ
  pub IsNumbering-numbers : IsNumbering old → length old < 4294967295 → Numbers old new item → IsNumbering new
  IsNumbering-numbers numbering room (inl same) = subst (λ list. IsNumbering list) (sym same) numbering
  IsNumbering-numbers numbering room (inr added) = subst (λ list. IsNumbering list) (sym added.1) (record {
    no_repeats = HasNoRepeats-push numbering.no_repeats added.0;
    small = omega (arith, length-append old (item ∷ []));
  })

-- an item that got a number is added alone
pub AddsOnly-numbers : {X : Type 0} (fact : X → Type 0) (old new : List X) (item : X) → Numbers old new item → fact item → AddsOnly fact old new
AddsOnly-numbers fact old new item (inl same) is number other behind held = subst (AddsOnly fact old) (sym same) (AddsOnly-same fact old) number other behind held
AddsOnly-numbers fact old new item (inr added) is number other behind held = ⊎_elim
    (λ before. let within = slice_get_within old number other before in absurd (omega (arith, behind, within)))
    (λ last. subst fact last.1 is)
    (slice_get-pushed old item number other (ap (λ list. slice_get list number) (sym added.1) ∙ held))
