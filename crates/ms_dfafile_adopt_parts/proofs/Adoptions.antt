-- What makes a file the automaton of an import lacks nodes only below the measure of the call, and so below each budget of the import.
use Rattle.std.proofs.Common.{◌≡◌, ℕ, ◌<◌, ⊎_elim, sym, subst, ◌∙◌, arith}
use Rattle.std.proofs.lemmas.Option.{same_Some}
use Rattle.ms_logic.specs.Truth.{Answer}
use Rattle.ms_logic_core.specs.CoreForm.{truth}
use Rattle.ms_logic_measures.specs.Budgets.{budget}
use Rattle.ms_logic_measures.specs.CallMeasures.{IsAdoptMeasure, call_measure}
use Rattle.ms_logic_measures.specs.FullContent.{IsFullContent}
use Rattle.ms_logic_words.specs.Content.{Content}
use Rattle.ms_dfafile_adopt_parts.specs.Files.{content_for}
use Rattle.ms_dfafile_adopt_parts.specs.Laws.{AdoptionsAreWithinMeasure, AdoptionsHaveFewParts, LackingAdoptionsAreBelowTheirImport}
use Rattle.ms_dfafile_adopt_parts.proofs.Products.{strings_are_below}
use Rattle.ms_dfafile_adopt_parts.proofs.Renamings.{few_parts, over_pairs, renaming_is_below}

pub adoptions_are_within_measure : AdoptionsAreWithinMeasure
adoptions_are_within_measure imports mode plain pairs limit file named apart lacks encodings full m r measure = ⊎_elim
    (λ strings. strings_are_below imports mode plain pairs file named encodings full limit m r measure strings)
    (λ short.
    renaming_is_below imports mode plain pairs file apart encodings full short.places short.naming short.own short.agrees short.automaton short.least limit short.short m r measure)
    lacks

-- a budget is no less than the measure
budget_above : (limit m r : ℕ) → limit < call_measure m r → limit < budget m r
budget_above limit m r less = omega (arith, less)

pub lacking_adoptions : LackingAdoptionsAreBelowTheirImport
lacking_adoptions mode plain pairs limit file named apart lacks imports files i m r pairs_are held measure =
    let encodings = measure.1 in
    let same : measure.0 ≡ content_for pairs plain = same_Some measure.0 (content_for pairs plain) (sym measure.2 ∙ held) in
    let full = subst (λ vs. IsFullContent imports mode vs truth encodings) pairs_are measure.3 in
    let own = subst (λ (c : Content Answer). IsAdoptMeasure c encodings m r) same measure.4 in
    budget_above limit m r (adoptions_are_within_measure imports mode plain pairs limit file named apart lacks encodings full m r own)

pub adoptions_have_few_parts : AdoptionsHaveFewParts
adoptions_have_few_parts imports mode plain pairs made file apart automaton mode_is variables is encodings full m r measure n counted =
    few_parts imports mode plain pairs file apart encodings full is.places is.naming is.own is.agrees is.automaton is.least made automaton mode_is variables is.variables m n
    (over_pairs imports mode plain pairs file apart encodings full is.places is.naming is.own is.agrees is.automaton is.least m measure.made) counted is.in_order is.turned
