-- What holds of the place of a refusal.
use Rattle.std.proofs.Common.{ℕ, ◌<◌, List, ◌++◌, length, Option, Some, None, subst, sym}
use Rattle.std.proofs.lemmas.List.{length-append}
use Rattle.ms_list.specs.declared.at.At.{At}
use Rattle.ms_edge.specs.declared.refusal.Refusal.{Refusal}
use Rattle.ms_edge.specs.Refusal.{IsPlaced, place_of}
use Rattle.ms_report.specs.Line.{HasLine}
use Rattle.ms_names_rules.proofs.Fitting.{If}
use Rattle.ms_include_laws.specs.inner.places.Places.{IsAmongFiles, IsToldOver}

-- the refusal has a line, and P holds of its place, where it has one
abbrev pub IsToldAt : (At → Type 0) → Refusal → Type 0
IsToldAt P refusal = HasLine refusal × If P (place_of refusal)

placed-over : (before read : List (List ℕ)) (place : Option At) → If (IsAmongFiles (length before) (length read)) place → IsPlaced place (before ++ read)
placed-over before read None h = tt
placed-over before read (Some at) h = subst (λ n. at.file < n) (sym (length-append before read)) h.1

pub told-over : (before read : List (List ℕ)) (refusal : Refusal) → IsToldAt (IsAmongFiles (length before) (length read)) refusal → IsToldOver (before ++ read) refusal
told-over before read refusal h = (h.0, placed-over before read (place_of refusal) h.1)
