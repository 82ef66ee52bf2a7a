-- Names that are all different.
use Rattle.std.proofs.Common.{◌≡◌, ◌≢◌, ℕ, suc, ◌+◌, ◌<◌, Bool, true, false, cond, ◌||◌, not, List, [], ◌∷◌, ◌++◌, length, get_or, map, take, drop, AllPairs, refl, sym, ap, ◌∙◌, arith, length-append}
use Rattle.std.specs.Borrow.{Bor}
use Rattle.std.specs.HashSet.{HashSet, Updates, contains}
use Rattle.std.specs.List.{IsDistinct, list_any}
use Rattle.std.specs.Str.{bytes_eq}
use Rattle.std.proofs.lemmas.Bool.{false≢true}
use Rattle.std.proofs.lemmas.Cmp.{nat_list_eq_equiv}
use Rattle.std.proofs.lemmas.List.{drop_more, get_or_at, map-append, take-append-drop, take_more}
use Rattle.std.proofs.lemmas.List.Folds.{list_any-append}
use Rattle.std.proofs.lemmas.Map.Keys.{IsDistinct-push, apart_from_distinct}
use Rattle.std.proofs.lemmas.Slice.Eq.{bytes_eq-Decides}
use Rattle.ms_dfa.specs.declared.plain.FileVar.{FileVar}

abbrev pub AreDifferent : List (List ℕ) → Type 0
AreDifferent names = AllPairs (λ one other. one ≢ other) names

-- the equality of borrowed names
abbrev pub same_bytes : Bor (List ℕ) → Bor (List ℕ) → Bool
same_bytes one other = bytes_eq one.now other.now

-- names were seen, all different
pub record HasSeen {S : Type 0} (seen : HashSet (Bor (List ℕ)) S) (names : List (List ℕ)) : Type 0 where
  pub keys : (q : Bor (List ℕ)) → contains same_bytes seen q ≡ list_any (bytes_eq q.now) names
  pub distinct : IsDistinct bytes_eq names

pub HasSeen-none : {S : Type 0} (seen : HashSet (Bor (List ℕ)) S) → seen.keys ≡ [] → HasSeen seen []
unfolding IsDistinct
HasSeen-none seen empty = record { keys = λ q. ap (λ (keys : List (Bor (List ℕ))). list_any (same_bytes q) keys) empty; distinct = tt }

seen_more : (new old : Bool) → cond new true old ≡ (old || (new || false))
seen_more true true = refl
seen_more true false = refl
seen_more false true = refl
seen_more false false = refl

pub HasSeen-more : {S : Type 0} (old new : HashSet (Bor (List ℕ)) S) (names : List (List ℕ)) (key : Bor (List ℕ)) → HasSeen old names → Updates same_bytes old new key true → contains same_bytes old key ≡ false
    → HasSeen new (names ++ key.now ∷ [])
HasSeen-more old new names key seen updates apart = record {
  keys = λ q.
      updates.0 q ∙ seen_more (same_bytes key q) (contains same_bytes old q) ∙ ap (λ b. b || (same_bytes key q || false)) (seen.keys q)
      ∙ ap (λ b. list_any (bytes_eq q.now) names || (b || false)) (nat_list_eq_equiv.symm key.now q.now) ∙ sym (list_any-append (bytes_eq q.now) names (key.now ∷ []));
  distinct = IsDistinct-push nat_list_eq_equiv names key.now seen.distinct (sym (seen.keys key) ∙ apart);
}

different_rest : (name : List ℕ) (names : List (List ℕ)) → AreDifferent (name ∷ names) → AreDifferent names
different_rest name names different i j d below within = different (suc i) (suc j) d (omega arith) (omega arith)

twice_more : (first : List ℕ) (front : List (List ℕ)) (name : List ℕ) (rest : List (List ℕ)) (same : Bool) → bytes_eq name first ≡ same → (same || list_any (bytes_eq name) front) ≡ true → AreDifferent (first ∷ front ++ name ∷ rest)
    → (list_any (bytes_eq name) front ≡ true → ¬ AreDifferent (front ++ name ∷ rest)) → ⊥
twice_more first front name rest true is among different further =
    different 0 (suc (length front)) [] (omega arith) (omega (arith, length-append front (name ∷ rest)))
    (sym ((bytes_eq-Decides name first).0 is) ∙ sym (get_or_at front name rest [] (length front) refl))
twice_more first front name rest false is among different further = further among (different_rest first (front ++ name ∷ rest) different)

-- a name that is among those before it stands there twice
pub twice : (front : List (List ℕ)) (name : List ℕ) (rest : List (List ℕ)) → list_any (bytes_eq name) front ≡ true → ¬ AreDifferent (front ++ name ∷ rest)
twice [] name rest among different = false≢true among
twice (first ∷ front) name rest among different = twice_more first front name rest (bytes_eq name first) refl among different (twice front name rest)

-- where no two are equal by bytes, they are different
pub different : (names : List (List ℕ)) → IsDistinct bytes_eq names → AreDifferent names
different names distinct i j d below within same =
    false≢true (sym (apart_from_distinct bytes_eq names i j d distinct below within) ∙ (bytes_eq-Decides (get_or names i d) (get_or names j d)).1 same)

-- the names of variables
abbrev pub names_in : List FileVar → List (List ℕ)
names_in variables = map (λ v. v.name) variables

pub names_in-more : (variables : List FileVar) (i : ℕ) (v : FileVar) → i < length variables → v ≡ get_or variables i v → names_in (take (i + 1) variables) ≡ names_in (take i variables) ++ v.name ∷ []
names_in-more variables i v within is =
    ap names_in (take_more variables i v within) ∙ map-append (λ v. v.name) (take i variables) (get_or variables i v ∷ []) ∙ ap (λ (w : FileVar). names_in (take i variables) ++ w.name ∷ []) (sym is)

pub names_in-cut : (variables : List FileVar) (i : ℕ) (v : FileVar) → i < length variables → v ≡ get_or variables i v → names_in variables ≡ names_in (take i variables) ++ v.name ∷ names_in (drop (i + 1) variables)
names_in-cut variables i v within is =
    ap names_in (sym (take-append-drop i variables) ∙ ap (λ (rest : List FileVar). take i variables ++ rest) (drop_more variables i v within))
    ∙ map-append (λ v. v.name) (take i variables) (get_or variables i v ∷ drop (i + 1) variables)
    ∙ ap (λ (w : FileVar). names_in (take i variables) ++ w.name ∷ names_in (drop (i + 1) variables)) (sym is)

pub not_new : (contained : Bool) → not contained ≡ false → contained ≡ true
not_new true none = refl
not_new false none = sym none

pub is_new : (contained : Bool) → not contained ≡ true → contained ≡ false
is_new true new = sym new
is_new false new = refl
