-- The names that a request gives to files of its own: no export has one of them.
use Rattle.std.proofs.Common.{◌≡◌, ◌≢◌, ℕ, List, [], All, Contains, slice_get, Option, Some, None, refl, sym, subst, ◌∙◌, arith}
use Rattle.std.proofs.lemmas.Option.{same_Some, slice_get_within, slice_get-get_or}
use Rattle.ms_logic.specs.declared.checked.ExportUse.{ExportUse}
use Rattle.ms_app.specs.Source.{AreOutsFree, names_for}
use Rattle.ms_app.specs.inner.Files.{IsAmongNames}

-- what stands at a place is contained
pub held_contained : {A : Type 0} (xs : List A) (k : ℕ) (x : A) → slice_get xs k ≡ Some x → Contains xs x
held_contained xs k x held =
    let within = slice_get_within xs k x held in
    (k, within, same_Some _ _ (sym (slice_get-get_or xs k x within) ∙ held))

-- where there are no names, no export has one of them
pub no_outs : (exports : List ExportUse) → AreOutsFree [] exports
no_outs exports k used less there = let never = there.1 in absurd (omega (arith, never))

-- no export has this name, if there is one
abbrev pub IsOutFree : Option (List ℕ) → List ExportUse → Type 0
IsOutFree None exports = Unit {0}
IsOutFree (Some out) exports = All (λ used. used.name ≢ out) exports

-- where the name is among those that no export has
pub out_free : (out : Option (List ℕ)) (outs : List (List ℕ)) (exports : List ExportUse) → IsAmongNames out outs → AreOutsFree outs exports → IsOutFree out exports
out_free None outs exports among free = tt
out_free (Some out) outs exports among free = λ k used less same. free k used less (subst (Contains outs) (sym same) among)

-- the name of the main value's file is among its names
pub named_among : (out : Option (List ℕ)) → IsAmongNames out (names_for out)
named_among None = tt
named_among (Some out) = (0, omega arith, refl)
