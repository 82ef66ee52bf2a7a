-- The line of a refusal can be written over the file that it may number.
use Rattle.std.proofs.Common.{◌≡◌, ℕ, ◌<◌, inl, inr, List, [], ◌∷◌, ◌++◌, None, Some, map, sym, ap, subst, ◌∙◌, arith}
use Rattle.ms_build_source.specs.Limits.{IsUnsolved, lacks_nodes, not_made, too_deep, too_large}
use Rattle.ms_edge.specs.declared.refusal.Refusal.{Refusal}
use Rattle.ms_edge.specs.declared.refusal.Refusal.TheVariants as refusals
use Rattle.ms_edge.specs.Files.{Seen}
use Rattle.ms_edge.specs.Refusal.{IsPlaced, place_of}
use Rattle.ms_include.specs.File.{IsUnread}
use Rattle.ms_list.specs.declared.at.At.{At}
use Rattle.ms_logic.specs.declared.checked.Checked.{Checked}
use Rattle.ms_logic.specs.declared.checked.Global.{Global}
use Rattle.ms_logic.specs.declared.checked.Placed.{Placed}
use Rattle.ms_logic.specs.Lists.{Each}
use Rattle.ms_logic.specs.View.{predicate_of}
use Rattle.ms_logic_core.specs.Size.{Extents, extents_of}
use Rattle.ms_lower.specs.TooDeep.{HasTooDeep, part_of_formula, part_of_global}
use Rattle.ms_report.specs.Line.{HasLine}
use Rattle.ms_text.specs.Fault.{IsCause}

abbrev pub IsTold : List (List ℕ) → Refusal → Type 0
IsTold files refusal = HasLine refusal × IsPlaced (place_of refusal) files

pub first-file : (name : List ℕ) (at : At) → at.file ≡ 0 → IsPlaced (Some at) (name ∷ [])
first-file name at is = subst (λ n. n < 1) (sym is) (omega arith)

pub unread-told : (seen : Seen) (name : List ℕ) (refusal : Refusal) → IsUnread seen None name refusal → IsTold [] refusal
unread-told seen name (refusals.FileMissing at missing) why = (tt, subst (λ place. IsPlaced place []) (sym why.0) tt)
unread-told seen name (refusals.FileSize long limit) why = (tt, tt)
unread-told seen name (refusals.ReadFault other) why = (tt, tt)
unread-told seen name refusal why = absurd why

pub cause-told : (name bytes : List ℕ) (refusal : Refusal) → IsCause 0 bytes refusal → IsTold (name ∷ []) refusal
cause-told name bytes (refusals.Word at b) why = (tt, first-file name at why.0)
cause-told name bytes (refusals.NumberTooLarge at) why = (tt, first-file name at why.0)
cause-told name bytes (refusals.Unclosed at) why = (tt, first-file name at why.0)
cause-told name bytes refusals.Memory why = (tt, tt)
cause-told name bytes refusal why = absurd why

-- formulas that all stand at one place, by the list of their places
pub formulas-at : (place : At) (fs : List Placed) → Each (λ (at : At). at ≡ place) (map (λ (f : Placed). f.at) fs) → Each (λ (f : Placed). f.at ≡ place) fs
formulas-at place [] each = tt
formulas-at place (f ∷ fs) each = (each.0, formulas-at place fs each.1)

-- a source whose declarations all stand at one place of the file 0
module _ (place : At) (there : place.file ≡ 0) where
  formulas-place : (x : Extents) (fs : List Placed) (item : ℕ) (at : At) → Each (λ (f : Placed). f.at ≡ place) fs → HasTooDeep item at (map (part_of_formula x) fs) → at ≡ place
  formulas-place x [] item at each deep = absurd deep
  formulas-place x (f ∷ fs) item at each (inl here) = sym here.1 ∙ each.0
  formulas-place x (f ∷ fs) item at each (inr later) = formulas-place x fs item at each.1 later

  parts-place : (x : Extents) (gs : List Global) (fs : List Placed) (item : ℕ) (at : At) → Each (λ (g : Global). g.at ≡ place) gs → Each (λ (f : Placed). f.at ≡ place) fs
      → HasTooDeep item at (map (part_of_global x) gs ++ map (part_of_formula x) fs) → at ≡ place
  parts-place x [] fs item at globals formulas deep = formulas-place x fs item at formulas deep
  parts-place x (g ∷ gs) fs item at globals formulas (inl here) = sym here.1 ∙ globals.0
  parts-place x (g ∷ gs) fs item at globals formulas (inr later) = parts-place x gs fs item at globals.1 formulas later

  pub unsolved-told : (name : List ℕ) (source : Checked) (limit : ℕ) (refusal : Refusal) → Each (λ (g : Global). g.at ≡ place) source.globals → Each (λ (f : Placed). f.at ≡ place) source.formulas
      → IsUnsolved source [] [] limit refusal → IsTold (name ∷ []) refusal
  unsolved-told name source limit refusal globals formulas (not_made (too_deep deep)) =
      let here = parts-place (extents_of (map predicate_of source.predicates)) source.globals source.formulas deep.first.item deep.at globals formulas deep.first.deep in
      subst (IsTold (name ∷ [])) (sym deep.is) (tt, first-file name deep.at (ap (λ (a : At). a.file) here ∙ there))
  unsolved-told name source limit refusal globals formulas (not_made (too_large large)) = subst (IsTold (name ∷ [])) (sym large.is) (tt, tt)
  unsolved-told name source limit refusal globals formulas (lacks_nodes within step why nodes) = subst (IsTold (name ∷ [])) (sym nodes) (tt, tt)
