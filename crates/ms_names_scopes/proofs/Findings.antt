-- What a check has found after some expressions and then some more.
use Rattle.std.proofs.Common.{◌≡◌, List, [], ◌∷◌, ◌++◌, append_assoc, Option, refl, sym, subst, ap, ◌∙◌}
use Rattle.std.specs.Prelude.{flat_map}
use Rattle.std.proofs.lemmas.Grind.{flat_map-append}
use Rattle.std.proofs.lemmas.List.{append-nil}
use Rattle.ms_names_rules.specs.declared.fault.Fault.{Fault}
use Rattle.ms_names_rules.specs.declared.wanted.Wanted.{Wanted}
use Rattle.ms_parse_grammar.specs.Tree.{Expression}
use Rattle.ms_names_rules.specs.Before.{Before, after}
use Rattle.ms_names_rules.specs.Fault.{first_of_two, first_with}
use Rattle.ms_names_rules.specs.Occurrence.{Occurrence, occurrences}
use Rattle.ms_names_rules.specs.Reads.{readings_at}
use Rattle.ms_names_rules.specs.Rules.{faults_at}
use Rattle.ms_names_rules.specs.Uses.{import_at, export_at}
use Rattle.ms_names_scopes.specs.inner.Found.{Found, passed}

-- the first of two lists of faults, one after the other
pub first_with-append : (known : Option Fault) (fs gs : List Fault) → first_with known (fs ++ gs) ≡ first_with (first_with known fs) gs
first_with-append known [] gs = refl
first_with-append known (f ∷ fs) gs = first_with-append (first_of_two known f) fs gs

longer : {A : Type 0} (found : List A) (f : Occurrence → List A) (os more : List Occurrence) →
    (found ++ flat_map f os) ++ flat_map f more ≡ found ++ flat_map f (os ++ more)
longer found f os more = append_assoc found (flat_map f os) (flat_map f more) ∙ ap (λ l. found ++ l) (sym (flat_map-append f os more))

pub passed-passed : (s : Found) (os more : List Occurrence) (b c : Before) → passed (passed s os b) more c ≡ passed s (os ++ more) c
passed-passed s os more b c = λ i. record {
  scope = s.scope;
  before = c;
  first = (sym (first_with-append s.first (flat_map faults_at os) (flat_map faults_at more)) ∙ ap (first_with s.first) (sym (flat_map-append faults_at os more))) i;
  reads = longer s.reads readings_at os more i;
  imports = longer s.imports import_at os more i;
  exports = longer s.exports export_at os more i;
}

-- an expression and then another
pub two-passed : (s t u : Found) (w v : Wanted) (e f : Expression) →
    t ≡ passed s (occurrences s.scope s.before w e) (after s.before e) →
    u ≡ passed t (occurrences t.scope t.before v f) (after t.before f) →
    u ≡ passed s (occurrences s.scope s.before w e ++ occurrences s.scope (after s.before e) v f) (after (after s.before e) f)
two-passed s t u w v e f first second =
    let P : Found → Type 0 = λ there. u ≡ passed there (occurrences there.scope there.before v f) (after there.before f) in
    subst P first second
    ∙ passed-passed s (occurrences s.scope s.before w e) (occurrences s.scope (after s.before e) v f) (after s.before e) (after (after s.before e) f)

-- nothing yet
pub passed-none : (s : Found) → s ≡ passed s [] s.before
passed-none s = λ i. record {
  scope = s.scope;
  before = s.before;
  first = s.first;
  reads = sym (append-nil s.reads) i;
  imports = sym (append-nil s.imports) i;
  exports = sym (append-nil s.exports) i;
}
