-- A memo whose entries are right: an answer is right, and each call keeps the entries right.
use Rattle.std.proofs.Common.{◌≡◌, ◌⊎◌, Bool, true, if◌then◌else◌, List, [], ◌∷◌, Contains, Some, Result, Ok, Err, OnOk, OnErr, sym, ap, subst, ◌∙◌, inl, inr, ⊎_elim}
use Rattle.std.proofs.lemmas.Bool.{cases_Bool}
use Rattle.std.proofs.lemmas.Option.{same_Some, none-some}
use Rattle.std.specs.Map.{lookup}
use Rattle.lru.specs.LruCache.{lru_cache, promoted, put_entries}
use Rattle.lru.proofs.CallerLemmas.{Contains-promoted, Contains-put_entries, lookup-put_entries}
use Rattle.ms_arena.specs.declared.node.Ref.{Ref}
use Rattle.ms_cache.specs.declared.key.Key.{Key}
use Rattle.ms_cache.specs.Key.{is_key}
use Rattle.ms_cache.specs.Memo.{Contents, EachEntry}
use Rattle.ms_cache.proofs.Among.{Contains-head, Contains-tail, Contains-cons, Contains-nil}
use Rattle.ms_cache.proofs.KeyLemmas.{same_key, key_laws}

module _ {K V : Type 0} where
  -- a weaker fact holds of each entry too
  pub EachEntry-weaker : (strong weak : K → V → Type 0) → ((key : K) (value : V) → strong key value → weak key value)
      → (entries : List (K × V)) → EachEntry strong entries → EachEntry weak entries
  EachEntry-weaker strong weak implies [] all = tt
  EachEntry-weaker strong weak implies (entry ∷ entries) all = (implies entry.0 entry.1 all.0, EachEntry-weaker strong weak implies entries all.1)

  module _ (fact : K → V → Type 0) where
    -- what holds of each entry holds of whatever is among them, and the other way round
    pub EachEntry-at : (entries : List (K × V)) (entry : K × V) → EachEntry fact entries → Contains entries entry → fact entry.0 entry.1
    EachEntry-at [] entry all among = absurd (Contains-nil entry among)
    EachEntry-at (first ∷ entries) entry all among =
        ⊎_elim (λ here. subst (λ (e : K × V). fact e.0 e.1) here all.0) (λ later. EachEntry-at entries entry all.1 later) (Contains-cons first entries entry among)

    pub EachEntry-from : (entries : List (K × V)) → ((entry : K × V) → Contains entries entry → fact entry.0 entry.1) → EachEntry fact entries
    EachEntry-from [] each = tt
    EachEntry-from (first ∷ entries) each =
        (each first (Contains-head first entries), EachEntry-from entries (λ entry among. each entry (Contains-tail first entries entry among)))

    -- what a look-up finds has what each right entry has whose key passes
    pub EachEntry-passed : (test : K → Bool) (goal : V → Type 0) → ((key : K) (value : V) → test key ≡ true → fact key value → goal value)
        → (entries : List (K × V)) (value : V) → lookup test entries ≡ Some value → EachEntry fact entries → goal value
    EachEntry-passed test goal gives [] value found all = absurd (none-some value found)
    EachEntry-passed test goal gives (entry ∷ entries) value found all =
        ⊎_elim
        (λ passes. subst (λ (v : V). goal v)
        (same_Some entry.1 value (sym (ap (λ t. if t then Some entry.1 else lookup test entries) passes) ∙ found))
        (gives entry.0 entry.1 passes all.0))
        (λ fails. EachEntry-passed test goal gives entries value (sym (ap (λ t. if t then Some entry.1 else lookup test entries) fails) ∙ found) all.1)
        (cases_Bool (test entry.0))

module _ (key : Key) where
  -- behind `ask` each entry is one of the old ones
  pub Contains-asked : (old new : List (Key × Ref)) → new ≡ promoted (is_key key) old → (entry : Key × Ref) → Contains new entry → Contains old entry
  Contains-asked old new entries entry among =
      Contains-promoted (is_key key) old entry (subst (λ (list : List (Key × Ref)). Contains list entry) entries among)

  -- behind `tell` each is one of the old ones, or the new one
  pub Contains-told : {R E : Type 0} → (result : Result R E) (old new : Contents) (value : Ref)
      → OnOk result (new.entries ≡ put_entries is_key (lru_cache old.entries old.capacity) key value) → OnErr result (new ≡ old)
      → (entry : Key × Ref) → Contains new.entries entry → Contains old.entries entry ⊎ ((entry.1 ≡ value) × (entry.0 ≡ key))
  Contains-told (Ok done) old new value entries refused entry among =
      ⊎_elim (λ before. inl before)
      (λ put. inr (put.0, ⊎_elim (λ same. same) (λ equal. sym (same_key key entry.0 equal.2)) put.1))
      (Contains-put_entries is_key (lru_cache old.entries old.capacity) key value entry (subst (λ (list : List (Key × Ref)). Contains list entry) entries among))
  Contains-told (Err refusal) old new value entries refused entry among =
      inl (subst (λ (memo : Contents). Contains memo.entries entry) refused among)

  module _ (fact : Key → Ref → Type 0) where
    -- what `ask` answers is right
    pub EachEntry-answer : (entries : List (Key × Ref)) (value : Ref) → Some value ≡ lookup (is_key key) entries → EachEntry fact entries → fact key value
    EachEntry-answer entries value answer =
        EachEntry-passed fact (is_key key) (fact key) (λ other found passes right. subst (λ (k : Key). fact k found) (sym (same_key key other passes)) right)
        entries value (sym answer)

    -- behind `ask` each entry is right
    pub EachEntry-asked : (old new : List (Key × Ref)) → new ≡ promoted (is_key key) old → EachEntry fact old → EachEntry fact new
    EachEntry-asked old new entries all = EachEntry-from fact new (λ entry among. EachEntry-at fact old entry all (Contains-asked old new entries entry among))

    -- behind `tell` of what is right each entry is right, whether memory was refused or not
    pub EachEntry-told : {R E : Type 0} → (result : Result R E) (old new : Contents) (value : Ref)
        → OnOk result (new.entries ≡ put_entries is_key (lru_cache old.entries old.capacity) key value) → OnErr result (new ≡ old)
        → fact key value → EachEntry fact old.entries → EachEntry fact new.entries
    EachEntry-told result old new value entries refused own all = EachEntry-from fact new.entries (λ entry among. ⊎_elim
        (λ before. EachEntry-at fact old.entries entry all before)
        (λ told. subst (λ (k : Key). fact k entry.1) (sym told.1) (subst (λ (v : Ref). fact key v) (sym told.0) own))
        (Contains-told result old new value entries refused entry among))

-- behind `clear` each entry is right
pub EachEntry-cleared : (fact : Key → Ref → Type 0) (entries : List (Key × Ref)) → entries ≡ [] → EachEntry fact entries
EachEntry-cleared fact entries none = subst (EachEntry fact) (sym none) tt

-- what was told is found
pub lookup-told : {R E : Type 0} → (result : Result R E) (old new : Contents) (key : Key) (value : Ref)
    → OnOk result (new.entries ≡ put_entries is_key (lru_cache old.entries old.capacity) key value) → OnOk result (lookup (is_key key) new.entries ≡ Some value)
lookup-told (Ok done) old new key value entries =
    ap (lookup (is_key key)) entries ∙ lookup-put_entries is_key (lru_cache old.entries old.capacity) key value key_laws
lookup-told (Err refusal) old new key value entries = tt
