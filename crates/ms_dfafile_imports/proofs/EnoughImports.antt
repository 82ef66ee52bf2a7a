-- Imports that can be taken are not refused for want of nodes under a limit that is enough for them.
use Rattle.std.proofs.Common.{◌≡◌, ℕ, zero, suc, ◌⊎◌, inl, inr, List, [], ◌∷◌, map, slice_get, Option, None, Some, refl, ap, ◌∙◌, subst}
use Rattle.std.specs.List.{zip}
use Rattle.std.proofs.lemmas.Option.{same_Some, slice_get_within}
use Rattle.ms_dfa.specs.declared.plain.Plain.{Plain}
use Rattle.ms_dfafile_adopt_parts.specs.Files.{content_for, variables_of_pairs}
use Rattle.ms_dfafile_adopt_parts.specs.Laws.{IsBelowImport}
use Rattle.ms_dfafile_adopt_parts.proofs.ImportMeasures.{enough_is_not_below_import}
use Rattle.ms_dfafile_imports.specs.Enough.{EnoughImportsAreTaken, contents_of, imports_by}
use Rattle.ms_dfafile_imports.specs.Imports.{EachImported, IsImported, IsMisfit, IsNoAutomaton, IsUnread, answers_by}
use Rattle.ms_dfafile_imports.proofs.Told.{held-once}
use Rattle.ms_edge.specs.Files.{Holding}
use Rattle.ms_edge.specs.declared.refusal.Refusal.TheVariants.{Nodes}
use Rattle.ms_logic.specs.Assignment.{Universe, Variable}
use Rattle.ms_logic.specs.Truth.{Answer, Import}
use Rattle.ms_logic.specs.View.{import_of}
use Rattle.ms_logic.specs.declared.assignment.Value.{Value}
use Rattle.ms_logic.specs.declared.checked.ImportUse.{ImportUse}
use Rattle.ms_logic.specs.declared.checked.MapPair.{MapPair}
use Rattle.ms_logic.specs.declared.mode.Mode.{Mode}
use Rattle.ms_logic.specs.declared.mode.Order.{Order}
use Rattle.ms_logic_core.specs.Spread.{variables_of_import}
use Rattle.ms_logic_measures.specs.Budgets.{pair_variables}
use Rattle.ms_logic_words.specs.Content.{variables_by_place}

-- the import at a place, with the content of its file
record IsTakenAt (held : Option Holding) (mode : Mode) (uses : List ImportUse) (plains : List Plain) (i : ℕ) (used : ImportUse) : Type 0 where
  plain : Plain
  is : IsImported held mode used plain
  content : slice_get (contents_of uses plains) i ≡ Some (content_for used.pairs plain)
  answer : Universe → List Value → Answer
  import : slice_get (map (λ p. import_of p.0 p.1) (zip uses (answers_by uses plains))) i ≡ Some (import_of used answer)

taken_at : (held : Option Holding) (mode : Mode) (uses : List ImportUse) (plains : List Plain) (i : ℕ) (used : ImportUse) → EachImported held mode uses plains → slice_get uses i ≡ Some used
    → IsTakenAt held mode uses plains i used
taken_at held mode [] plains i used each at = absurd (let never : None ≡ Some used = at in cc)
taken_at held mode (first ∷ uses) [] i used each at = absurd each
taken_at held mode (first ∷ uses) (plain ∷ plains) zero used each at =
    let same : first ≡ used = same_Some first used at in
    let P : ImportUse → Type 0 = λ one. IsTakenAt held mode (first ∷ uses) (plain ∷ plains) zero one in
    subst P same (record { plain = plain; is = each.0; content = refl; answer = _; import = refl })
taken_at held mode (first ∷ uses) (plain ∷ plains) (suc i) used each at =
    let later = taken_at held mode uses plains i used each.1 at in
    record { plain = later.plain; is = later.is; content = later.content; answer = later.answer; import = later.import }

orders_of : (pairs : List MapPair) → map (λ (v : Variable). v.order) (map (λ (p : MapPair). record { name = p.variable; order = p.order }) pairs) ≡ map (λ (p : MapPair). p.order) pairs
orders_of [] = refl
orders_of (p ∷ pairs) = ap (λ (l : List Order). p.order ∷ l) (orders_of pairs)

orders_at : (found : Option Import) (used : ImportUse) (answer : Universe → List Value → Answer) → found ≡ Some (import_of used answer) → (imports : List Import) (i : ℕ) → slice_get imports i ≡ found
    → pair_variables imports i ≡ variables_of_pairs used.pairs
orders_at found used answer is imports i at =
    ap (λ (one : Option Import). variables_by_place (map (λ v. v.order) (variables_of_import one))) (at ∙ is) ∙ ap variables_by_place (orders_of used.pairs)

pub enough_imports_are_taken : EnoughImportsAreTaken
enough_imports_are_taken seen holding mode uses plains limit step told are enough why = by_cause why.why
  where
    taken : IsTakenAt (Some holding) mode uses plains why.place why.used
    taken = taken_at (Some holding) mode uses plains why.place why.used (subst (λ held. EachImported held mode uses plains) told are.each) why.here

    misfit : IsMisfit (Some holding) mode limit why.place why.used (Nodes step limit) → ⊥
    misfit found =
        let same = held-once holding why.used.name found.0 taken.plain found.1 taken.is.is_held in
        let below = subst (λ (plain : Plain). IsBelowImport mode plain why.used.pairs limit) same found.2.2 in
        enough_is_not_below_import (imports_by uses plains) mode (contents_of uses plains) why.place taken.plain why.used.pairs limit
        taken.is.is_held.spelled.rules
        (orders_at (slice_get (imports_by uses plains) why.place) why.used taken.answer taken.import (imports_by uses plains) why.place refl) taken.content
        (λ m r. enough why.place (slice_get_within uses why.place why.used why.here) m r) below

    by_cause : IsUnread seen why.used (Nodes step limit) ⊎ IsNoAutomaton seen.before.held why.used (Nodes step limit) ⊎ IsMisfit seen.before.held mode limit why.place why.used (Nodes step limit) → ⊥
    by_cause (inl unread) = unread
    by_cause (inr (inl none)) = none
    by_cause (inr (inr found)) = misfit (subst (λ held. IsMisfit held mode limit why.place why.used (Nodes step limit)) told found)
