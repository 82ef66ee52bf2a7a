-- Where no two states have one class, each state may be its own class, and each node its own image.
use Rattle.std.proofs.Common.{◌≡◌, ℕ, suc, ◌+◌, ◌<◌, ◌≤◌, ⊎_elim, if◌then◌else◌, eqb, List, [], ◌∷◌, ◌++◌, length, slice_get, slice_index, Some, refl, sym, ap, subst, ◌∙◌, length-append, arith}
use Rattle.std.proofs.lemmas.Bool.{cases_eq, cases_lt, eq-eqb, ne_eqb}
use Rattle.std.proofs.lemmas.Option.{none-some, slice_get_within, same_Some, get_or_from_slice_get}
use Rattle.ms_arena.specs.declared.node.Ref.{Ref}
use Rattle.ms_arena.specs.declared.node.Ref.TheVariants.{Inner}
use Rattle.ms_arena.specs.declared.node.Node.{Node}
use Rattle.ms_arena.proofs.Lists.{slice_get-held, slice_get-pushed}
use Rattle.ms_diagram.specs.Store.{IsStore}
use Rattle.ms_logic_words.specs.declared.sign.Sign.{Sign}
use Rattle.ms_logic_words.specs.Content.{Content, sign_at}
use Rattle.ms_minim.specs.declared.images.Images.{Images}
use Rattle.ms_minim.specs.declared.origins.Origins.{Origins}
use Rattle.ms_minim.specs.inner.Discrete.{AreOwnImages}
use Rattle.ms_minim.specs.inner.Image.{IsImage, AreImages}
use Rattle.ms_minim.specs.inner.Origin.{AreOrigins}
use Rattle.ms_minim.specs.inner.Partition.{IsIdentity, HaveOneClass, IsInhabited, IsPartition, AreNerodeClasses, next_by}
use Rattle.ms_minim.specs.SignReading.{IsRead}
use Rattle.ms_minim.proofs.OriginLemmas.{comes_leaves}
use Rattle.std_collections.proofs.IndexTableLemmas.Probe.{pigeonhole}

-- one number more
pub IsIdentity-more : (numbers : List ℕ) (count : ℕ) → IsIdentity count numbers → IsIdentity (count + 1) (numbers ++ count ∷ [])
IsIdentity-more numbers count are = record {
  long = length-append numbers (count ∷ []) ∙ ap (λ n. n + 1) are.long;
  same = λ place less.
      let long = are.long in
      let within : place < length (numbers ++ count ∷ []) = omega (arith, less, long, length-append numbers (count ∷ [])) in
      let held = slice_get-held (numbers ++ count ∷ []) place within in
      get_or_from_slice_get (numbers ++ count ∷ []) place held.0 0 held.1
      ∙ ⊎_elim
      (λ before. sym (get_or_from_slice_get numbers place held.0 0 before) ∙ are.same place (let inside = slice_get_within numbers place held.0 before in omega (arith, inside, long)))
      (λ last. sym last.1 ∙ sym (last.0 ∙ long))
      (slice_get-pushed numbers count place held.0 held.1);
}

-- no references are those to no places
pub AreOwnImages-none : AreOwnImages 0 []
AreOwnImages-none = record { long = refl; own = λ place image held. absurd (none-some image held) }

-- and one reference more
pub AreOwnImages-more : (images : List Ref) (count : ℕ) → AreOwnImages count images → AreOwnImages (count + 1) (images ++ Inner count ∷ [])
AreOwnImages-more images count are = record {
  long = length-append images (Inner count ∷ []) ∙ ap (λ n. n + 1) are.long;
  own = λ place image held. ⊎_elim
      (λ before. are.own place image before)
      (λ last. sym last.1 ∙ ap Inner (sym (last.0 ∙ are.long)))
      (slice_get-pushed images (Inner count) place image held);
}

-- in an identity each item is its place
own_item : (count : ℕ) (numbers : List ℕ) → IsIdentity count numbers → (place item : ℕ) → slice_get numbers place ≡ Some item → item ≡ place
own_item count numbers are place item held =
    let long = are.long in
    sym (get_or_from_slice_get numbers place item 0 held) ∙ are.same place (let inside = slice_get_within numbers place item held in omega (arith, inside, long))

own_held : (count : ℕ) (numbers : List ℕ) → IsIdentity count numbers → (place : ℕ) → place < count → slice_get numbers place ≡ Some place
own_held count numbers are place less =
    let long = are.long in
    let held = slice_get-held numbers place (omega (arith, less, long)) in
    held.1 ∙ ap Some (own_item count numbers are place held.0 held.1)

-- the states of so many classes as there are states, and one more state
abbrev one_more : List ℕ → ℕ → ℕ → ℕ
one_more members state class = if eqb class (length members) then state else slice_index members class

-- where there are as many classes as states, each state is the one by which its class is known
module _ (classes members : List ℕ) (inhabited : IsInhabited classes members) (as_many : length members ≡ length classes) where
  known_by : (state class : ℕ) → slice_get classes state ≡ Some class → slice_get members class ≡ Some state
  known_by state class is =
      ⊎_elim (λ same. found.1 ∙ ap Some same) (λ differs. absurd (too_many differs)) (cases_eq found.0 state)
    where
      known : (other : ℕ) → other < length members → slice_get classes (slice_index members other) ≡ Some other
      known other less =
          let held = slice_get-held members other less in
          ap (slice_get classes) (get_or_from_slice_get members other held.0 0 held.1) ∙ inhabited.member other held.0 held.1

      lower : (other : ℕ) → other < length members → one_more members state other ≡ slice_index members other
      lower other less = ap (λ t. if t then state else slice_index members other) (ne_eqb other (length members) (λ same. omega (arith, same, less)))

      last : one_more members state (length members) ≡ state
      last = ap (λ t. if t then state else slice_index members (length members)) (eq-eqb (length members) (length members) refl)

      found : (x : ℕ) × (slice_get members class ≡ Some x)
      found = slice_get-held members class (inhabited.within state class is)

      below : (one : ℕ) → one < suc (length members) → one_more members state one < length members
      below one less = ⊎_elim
          (λ under. subst (λ v. v < length members) (sym (lower one under)) (let inside = slice_get_within classes (slice_index members one) one (known one under) in omega (arith, inside, as_many)))
          (λ top.
          let at : one ≡ length members = omega (arith, less, top) in
          subst (λ v. v < length members) (sym (ap (one_more members state) at ∙ last)) (let inside = slice_get_within classes state class is in omega (arith, inside, as_many)))
          (cases_lt one (length members))

      never_met : (found.0 ≡ state → ⊥) → (one : ℕ) → one < length members → slice_index members one ≡ state → ⊥
      never_met differs one less at =
          let same : one ≡ class = same_Some one class (sym (known one less) ∙ ap (slice_get classes) at ∙ is) in
          differs (sym (get_or_from_slice_get members class found.0 0 found.1) ∙ ap (slice_index members) (sym same) ∙ at)

      distinct : (found.0 ≡ state → ⊥) → (one other : ℕ) → one < suc (length members) → other < suc (length members) → one_more members state one ≡ one_more members state other → one ≡ other
      distinct differs one other less_one less_other same = ⊎_elim
          (λ under_one. ⊎_elim
          (λ under_other. same_Some one other (sym (known one under_one) ∙ ap (slice_get classes) (sym (lower one under_one) ∙ same ∙ lower other under_other) ∙ known other under_other))
          (λ top. absurd (never_met differs one under_one (sym (lower one under_one) ∙ same ∙ ap (one_more members state) (let at : other ≡ length members = omega (arith, less_other, top) in at) ∙ last)))
          (cases_lt other (length members)))
          (λ top_one. ⊎_elim
          (λ under_other. absurd (never_met differs other under_other (sym (lower other under_other) ∙ sym same ∙ ap (one_more members state) (let at : one ≡ length members = omega (arith, less_one, top_one) in at) ∙ last)))
          (λ top_other. omega (arith, less_one, less_other, top_one, top_other))
          (cases_lt other (length members)))
          (cases_lt one (length members))

      too_many : (found.0 ≡ state → ⊥) → ⊥
      too_many differs =
          let never : suc (length members) ≤ length members = pigeonhole (suc (length members)) (length members) (one_more members state) below (distinct differs) in
          omega (arith, never)

  -- so no two have one class
  pub apart : (one other : ℕ) → one < length classes → HaveOneClass classes one other → one ≡ other
  apart one other less same =
      let held = slice_get-held classes one less in
      same_Some one other (sym (known_by one held.0 held.1) ∙ known_by other held.0 (sym same ∙ held.1))

-- then they may be their own classes
pub AreNerodeClasses-own : (content : Content Sign) (classes members own_classes own_members : List ℕ) → IsPartition content classes members → length members ≡ length content.states
    → IsIdentity (length content.states) own_classes → IsIdentity (length content.states) own_members → AreNerodeClasses content own_classes own_members
AreNerodeClasses-own content classes members own_classes own_members partition as_many own own_known = record {
  partition = record {
    all = own.long;
    inhabited = record {
      within = λ state class held.
          let is = own_item count own_classes own state class held in
          let long = own.long in let long_members = own_known.long in
          let inside = slice_get_within own_classes state class held in
          omega (arith, is, long, long_members, inside);
      member = λ class state held.
          let is = own_item count own_members own_known class state held in
          let long_members = own_known.long in
          let inside = slice_get_within own_members class state held in
          ap (slice_get own_classes) is ∙ own_held count own_classes own class (omega (arith, inside, long_members));
    };
    signs = λ one other in_one in_other same. ap (λ s. sign_at content s) (alone one other in_one in_other same);
    kept = λ one other in_one in_other equal.
        let all = partition.all in
        ap (slice_get own_classes) (apart classes members partition.inhabited (as_many ∙ sym all) one other (omega (arith, in_one, all)) (partition.kept one other in_one in_other equal));
  };
  stable = λ one other in_one in_other same bits. ap (λ s. slice_get own_classes (next_by content s bits)) (alone one other in_one in_other same);
}
  where
    count : ℕ
    count = length content.states

    alone : (one other : ℕ) → one < length content.states → other < length content.states → HaveOneClass own_classes one other → one ≡ other
    alone one other in_one in_other same = same_Some one other (sym (own_held count own_classes own one in_one) ∙ same ∙ own_held count own_classes own other in_other)

-- and each node its own image
pub AreImages-own : (content : Content Sign) → IsRead content → (origins : Origins) → AreOrigins content origins → (classes : List ℕ) → IsIdentity (length content.states) classes → (images : Images)
    → IsStore images.store.nodes images.store.limit → images.store.nodes ≡ content.nodes → AreOwnImages (length content.nodes) images.list → AreImages content.nodes classes origins.nodes.items images
AreImages-own content automaton origins are classes own images store same list = record {
  store = store;
  long = list.long;
  each = λ place image on held.
      let long = list.long in
      let inside = slice_get_within images.list place image held in
      let within : place < length content.nodes = omega (arith, inside, long) in
      let place_in : place < length origins.nodes.items = let nodes = are.nodes in omega (arith, within, nodes) in
      subst (λ (nodes : List Node). IsImage nodes content.nodes classes (Inner place) image) (sym same)
      (subst (IsImage content.nodes content.nodes classes (Inner place)) (sym (list.own place image held)) (record {
        valid = within;
        leaves = λ bits. sym (own.same _ (comes_leaves content automaton _ (Inner place) (are.sound (Inner place) place_in on) bits));
        above = λ var tests. tests;
      }));
}
