-- The worked examples: what is held after writes, and what a generated source comes to.
use Rattle.std.proofs.Common.{◌≡◌, ℕ, zero, suc, Bool, true, false, if◌then◌else◌, Option, List, [], ◌∷◌, Contains, take, slice_get, Some, None, codes, get_or, refl, sym, subst, ap, lit<, arith}
use Rattle.std.proofs.lemmas.Option.{same_Some}
use Rattle.std.proofs.lemmas.Slice.Eq.{bytes_eq-Decides}
use Rattle.std.specs.Str.{bytes_eq}
use Rattle.ms_app.specs.Answer.{IsDelivered}
use Rattle.ms_app.specs.inner.CompletenessExamples.{empty_files, no_files, still}
use Rattle.ms_app.specs.inner.Examples.{nothing_held, one_held, two_files}
use Rattle.ms_app.specs.Written.{AreHeld, AreHeldUpTo, File, KeepsAllBut}
use Rattle.ms_edge.specs.declared.refusal.Refusal.TheVariants.{Twice}
use Rattle.ms_logic.specs.declared.checked.ExportUse.{ExportUse}
use Rattle.ms_app.specs.Certification.{names_to_certify}
use Rattle.ms_app.specs.Source.{AreOutsFree}
use Rattle.ms_app.specs.inner.Examples.{at, export_to}
use Rattle.ms_app.proofs.Requests.{first_number, no_number}
use Rattle.ms_edge.specs.Files.{Holding, between}
use Rattle.ms_gen.specs.Generated.{generated}
use Rattle.ms_app_words.specs.declared.command.Command.TheVariants.{Gen}

not_true : (b : Bool) → (b ≡ true → ⊥) → b ≡ false
not_true true never = absurd (never refl)
not_true false never = refl

-- where one name is held that was not, every name but those with it holds nothing as before
one_more : (name bytes : List ℕ) (names : List (List ℕ)) → Contains names name → KeepsAllBut nothing_held (one_held name bytes) names
one_more name bytes names among other apart =
    ap (λ same. if same then Some bytes else None)
    (not_true (bytes_eq other name) (λ same. apart (subst (Contains names) (sym ((bytes_eq-Decides other name).0 same)) among)))

abbrev one_file : List File
one_file = (codes "a", 1 ∷ []) ∷ []

pub written : AreHeld nothing_held (one_held (codes "a") (1 ∷ [])) one_file
written = record { each = (refl, tt); others = one_more (codes "a") (1 ∷ []) (codes "a" ∷ []) (0, lit< tt, refl) }

pub other_bytes : ¬ AreHeld nothing_held (one_held (codes "a") (7 ∷ [])) one_file
other_bytes held = let byte : 7 ≡ 1 = ap (λ (bytes : List ℕ). get_or bytes 0 0) (same_Some (7 ∷ []) (1 ∷ []) held.each.0) in omega (arith, byte)

pub first_stands : AreHeldUpTo 1 nothing_held (one_held (codes "a") (1 ∷ [])) two_files
first_stands = record {
  some_left = lit< tt;
  each = (refl, tt);
  others = one_more (codes "a") (1 ∷ []) (codes "a" ∷ codes "b" ∷ []) (0, lit< tt, refl);
}

pub first_lacks : ¬ AreHeldUpTo 1 nothing_held nothing_held two_files
first_lacks held = let none = held.each.0 in cc

pub in_part : AreHeldUpTo 0 nothing_held (one_held (codes "a") (7 ∷ [])) two_files
in_part = record { some_left = lit< tt; each = tt; others = one_more (codes "a") (7 ∷ []) (codes "a" ∷ []) (0, lit< tt, refl) }

b_is_not_a : ¬ Contains (codes "a" ∷ []) (codes "b")
b_is_not_a (zero, below, same) = let letters : 97 ≡ 98 = ap (λ (name : List ℕ). get_or name 0 0) same in omega (arith, letters)
b_is_not_a (suc k, below, same) = omega (arith, below)

pub another : ¬ AreHeldUpTo 0 nothing_held (one_held (codes "b") (2 ∷ [])) two_files
another held = let kept = held.others (codes "b") b_is_not_a in cc

pub none_left : ¬ AreHeldUpTo 2 nothing_held nothing_held two_files
none_left held = let left = held.some_left in omega (arith, left)

pub generated_first : IsDelivered (Gen 1 false) (still no_files) (generated 1)
generated_first = record {
  middle = no_files;
  reads = record { held = refl; counts = record { faults = omega arith; absences = omega arith; overlongs = omega arith } };
  written = [];
  is_given = (refl, first_number, refl);
  held = record { each = tt; others = λ other apart. refl };
}

pub other_text : ¬ IsDelivered (Gen 1 false) (still no_files) []
other_text delivered = let text = delivered.is_given.2 in cc

pub no_such_number : ¬ IsDelivered (Gen 0 false) (still no_files) (generated 0)
no_such_number delivered = no_number delivered.is_given.1

none_among : (name : List ℕ) → ¬ Contains [] name
none_among name among = let below = among.1 in omega (arith, below)

pub something_written : ¬ IsDelivered (Gen 1 false) (between no_files (empty_files 0)) (generated 1)
something_written delivered =
    let after : Option Holding = Some (λ name. Some []) in
    let no_file = subst (AreHeld delivered.middle.held after) delivered.is_given.0 delivered.held in
    let as_before : AreHeld nothing_held after [] = subst (λ held. AreHeld held after []) delivered.reads.held no_file in
    let kept = as_before.others (codes "a") (none_among (codes "a")) in
    cc

-- of two exports under the names of a file and of its certificate, a refusal stands at the first
abbrev both_taken : List ExportUse
both_taken = export_to (codes "e") ∷ export_to (codes "e.cert") ∷ []

not_the_same : Twice (at 7) (codes "e.cert") ≡ Twice (at 7) (codes "e") → ⊥
not_the_same same = cc

pub first_alone : (place : ℕ) (used : ExportUse) → slice_get both_taken place ≡ Some used → AreOutsFree (names_to_certify (codes "e")) (take place both_taken)
    → Twice (at 7) (codes "e.cert") ≡ Twice used.at used.name → ⊥
first_alone zero used here first is =
    not_the_same (subst (λ (u : ExportUse). Twice (at 7) (codes "e.cert") ≡ Twice u.at u.name) (sym (same_Some (export_to (codes "e")) used here)) is)
first_alone (suc place) used here first is = first 0 (export_to (codes "e")) (omega arith) (0, omega arith, refl)
