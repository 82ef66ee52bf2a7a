-- A table whose entries are right: what a look-up finds is right, and what is noted keeps them right.
use Rattle.std.proofs.Common.{◌≡◌, Bool, true, List, Some, sym, subst, ⊎_elim}
use Rattle.std.specs.Map.{lookup}
use Rattle.ms_cache.proofs.MemoLemmas.{EachEntry-at, EachEntry-from, EachEntry-passed}
use Rattle.ms_diagram.specs.inner.Notes.{KeepsOnly, NotesOnly}
use Rattle.ms_diagram.specs.Table.{EachEntry}

module _ {K V : Type 0} (fact : K → V → Type 0) where
  -- entries may go
  pub EachEntry-kept : (old new : List (K × V)) → KeepsOnly old new → EachEntry fact old → EachEntry fact new
  EachEntry-kept old new kept all = EachEntry-from fact new (λ entry among. EachEntry-at fact old entry all (kept entry among))

  module _ (eq : K → K → Bool) (key : K) where
    -- and one may be put in that is right at each equal key
    pub EachEntry-noted : (value : V) → ((other : K) → eq key other ≡ true → fact other value) → fact key value
        → (old new : List (K × V)) → NotesOnly eq old new key value → EachEntry fact old → EachEntry fact new
    EachEntry-noted value right own old new noted all = EachEntry-from fact new (λ entry among. ⊎_elim
        (λ before. EachEntry-at fact old entry all before)
        (λ added. subst (λ (v : V). fact entry.0 v) (sym added.0)
        (⊎_elim (λ here. subst (λ (k : K). fact k value) (sym here) own) (λ passes. right entry.0 passes) added.1))
        (noted entry among))

    -- what a look-up finds is right where `==` is equality
    pub EachEntry-found : ((x y : K) → eq x y ≡ true → x ≡ y) → (entries : List (K × V)) (value : V) → lookup (eq key) entries ≡ Some value
        → EachEntry fact entries → fact key value
    EachEntry-found same = EachEntry-passed fact (eq key) (fact key) (λ other value passes right. subst (λ (k : K). fact k value) (sym (same key other passes)) right)
