-- The examples that are worked by hand.
use Rattle.std.proofs.Common.{◌≡◌, ℕ, zero, suc, ◌⊎◌, inl, inr, slice_get, take, List, [], ◌∷◌, Some, None, codes, refl, sym, ap, ◌∙◌, arith}
use Rattle.std.proofs.lemmas.Option.{slice_get_within}
use Rattle.ms_dfa.specs.declared.plain.Plain.{Plain}
use Rattle.ms_edge.specs.Counts.{Rose}
use Rattle.ms_edge.specs.declared.refusal.Refusal.TheVariants.{ImportMissing, ReadFault}
use Rattle.ms_dfafile_imports.specs.inner.Examples.{content_in, import_of, nowhere, one_absence}
use Rattle.ms_dfafile_imports.specs.Imports.{EachImported, HaveOneContent, IsMisfit, IsNoAutomaton, IsUnimported, IsUnread}
use Rattle.ms_logic.specs.declared.checked.ImportUse.{ImportUse}
use Rattle.ms_logic.specs.declared.mode.Mode.TheVariants.{M2lStr, Ws1s}

head : List ℕ → ℕ
head [] = 0
head (b ∷ bs) = b

names-differ : codes "a" ≡ codes "b" → ⊥
unfolding head
names-differ is = let bytes : 97 ≡ 98 = ap head is in omega (arith, bytes)

-- the import at a place

none-at : (used : ImportUse) (i : ℕ) → slice_get ([]) i ≡ Some used → ⊥
none-at used i at = omega (arith, slice_get_within [] i used at)

only-one : (one used : ImportUse) (i : ℕ) → slice_get (one ∷ []) i ≡ Some used → one ≡ used
only-one one used zero at = cc
only-one one used (suc i) at = absurd (omega (arith, slice_get_within (one ∷ []) (suc i) used at))

pub missing : IsUnimported one_absence Ws1s 100 (import_of (codes "a") ∷ []) (ImportMissing nowhere (codes "a"))
missing = record {
  place = 0;
  used = import_of (codes "a");
  here = refl;
  earlier = [];
  taken = record { each = tt; once = λ i j one other p q at. absurd (none-at one i at) };
  why = inl (refl, refl, refl, inl (omega arith));
}

-- why one import is refused

missing-as : (place : ℕ) (used : ImportUse) (name : List ℕ) → IsUnread one_absence used (ImportMissing nowhere name) ⊎ IsNoAutomaton one_absence.before.held used (ImportMissing nowhere name)
    ⊎ IsMisfit one_absence.before.held Ws1s 100 place used (ImportMissing nowhere name) → name ≡ used.name
missing-as place used name (inl unread) = unread.1
missing-as place used name (inr (inl none)) = absurd none
missing-as place used name (inr (inr misfit)) = absurd misfit.2

pub other-name : IsUnimported one_absence Ws1s 100 (import_of (codes "a") ∷ []) (ImportMissing nowhere (codes "b")) → ⊥
other-name h = names-differ (ap (λ (u : ImportUse). u.name) (only-one (import_of (codes "a")) h.used h.place h.here) ∙ sym (missing-as h.place h.used (codes "b") h.why))

none-rose : Rose 0 0 → ⊥
none-rose (inl less) = omega (arith, less)
none-rose (inr last) = omega (arith, last)

fault-as : (place : ℕ) (used : ImportUse) (name : List ℕ) → IsUnread one_absence used (ReadFault name) ⊎ IsNoAutomaton one_absence.before.held used (ReadFault name)
    ⊎ IsMisfit one_absence.before.held Ws1s 100 place used (ReadFault name) → ⊥
fault-as place used name (inl unread) = none-rose unread.1
fault-as place used name (inr (inl none)) = none
fault-as place used name (inr (inr misfit)) = misfit.2

pub no-fault : IsUnimported one_absence Ws1s 100 (import_of (codes "a") ∷ []) (ReadFault (codes "a")) → ⊥
no-fault h = fault-as h.place h.used (codes "a") h.why

-- the second of two, where the first is not taken
not-taken : (one : ImportUse) (earlier : List Plain) → EachImported one_absence.before.held Ws1s (one ∷ []) earlier → ⊥
not-taken one [] h = h
not-taken one (p ∷ ps) h = let never : None ≡ Some h.0.is_held.bytes = h.0.is_held.holds in cc

first-or-later : (one two used : ImportUse) (i : ℕ) (earlier : List Plain) → slice_get (one ∷ two ∷ []) i ≡ Some used → EachImported one_absence.before.held Ws1s (take i (one ∷ two ∷ [])) earlier → one ≡ used
first-or-later one two used zero earlier at h = cc
first-or-later one two used (suc zero) earlier at h = absurd (not-taken one earlier h)
first-or-later one two used (suc (suc i)) earlier at h = absurd (omega (arith, slice_get_within (one ∷ two ∷ []) (suc (suc i)) used at))

pub not-first : IsUnimported one_absence Ws1s 100 (import_of (codes "a") ∷ import_of (codes "b") ∷ []) (ImportMissing nowhere (codes "b")) → ⊥
not-first h =
    let first = first-or-later (import_of (codes "a")) (import_of (codes "b")) h.used h.place h.earlier h.here h.taken.each in
    names-differ (ap (λ (u : ImportUse). u.name) first ∙ sym (missing-as h.place h.used (codes "b") h.why))

-- contents

modes-differ : content_in Ws1s ≡ content_in M2lStr → ⊥
modes-differ is = let modes : Ws1s ≡ M2lStr = ap (λ (p : Plain). p.mode) is in cc

pub two-contents : HaveOneContent (import_of (codes "a") ∷ import_of (codes "a") ∷ []) (content_in Ws1s ∷ content_in M2lStr ∷ []) → ⊥
two-contents h = modes-differ (h 0 1 (import_of (codes "a")) (import_of (codes "a")) (content_in Ws1s) (content_in M2lStr) refl refl refl refl refl)

abbrev a : ImportUse
a = import_of (codes "a")

abbrev b : ImportUse
b = import_of (codes "b")

differ-by : (one other : ImportUse) → a ≡ one → b ≡ other → one.name ≡ other.name → ⊥
differ-by one other is_a is_b same = names-differ (ap (λ (u : ImportUse). u.name) is_a ∙ same ∙ sym (ap (λ (u : ImportUse). u.name) is_b))

pub two-files : HaveOneContent (a ∷ b ∷ []) (content_in Ws1s ∷ content_in M2lStr ∷ [])
two-files zero zero one other p q at_i at_j same is_p is_q = cc
two-files zero (suc zero) one other p q at_i at_j same is_p is_q = let is_a : a ≡ one = cc in let is_b : b ≡ other = cc in absurd (differ-by one other is_a is_b same)
two-files (suc zero) zero one other p q at_i at_j same is_p is_q = let is_b : b ≡ one = cc in let is_a : a ≡ other = cc in absurd (differ-by other one is_a is_b (sym same))
two-files (suc zero) (suc zero) one other p q at_i at_j same is_p is_q = cc
two-files (suc (suc i)) j one other p q at_i at_j same is_p is_q = absurd (omega (arith, slice_get_within (a ∷ b ∷ []) (suc (suc i)) one at_i))
two-files zero (suc (suc j)) one other p q at_i at_j same is_p is_q = absurd (omega (arith, slice_get_within (a ∷ b ∷ []) (suc (suc j)) other at_j))
two-files (suc zero) (suc (suc j)) one other p q at_i at_j same is_p is_q = absurd (omega (arith, slice_get_within (a ∷ b ∷ []) (suc (suc j)) other at_j))
