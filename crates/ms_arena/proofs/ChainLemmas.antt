-- The chains of a hash table as places are put into them and looked up in them.
use Rattle.std.proofs.Common.{◌≡◌, ◌≢◌, ℕ, suc, ◌+◌, ◌<◌, ◌≤◌, List, [], ◌∷◌, ◌++◌, length, slice_get, get_or, set, Some, sym, ap, subst, ◌∙◌, ⊎_elim, length-set, get_or-set_same, get_or-set_other, arith}
use Rattle.std.proofs.lemmas.Bool.{cases_eq}
use Rattle.std.proofs.lemmas.Option.{same_Some, slice_get_within}
use Rattle.ms_arena.proofs.Lists.{slice_get-append_left, slice_get-set_other, slice_get-set_same}
use Rattle.ms_arena.specs.inner.Chain.{AreEmpty, IsLast, IsLinked}

module _ {X : Type 0} (bucket_of : X → ℕ) (items : List X) where
  -- a place is the last one of its item's bucket up to itself
  IsLast-itself : (place : ℕ) (item : X) → slice_get items place ≡ Some item → IsLast bucket_of items (place + 1) (bucket_of item) (place + 1)
  IsLast-itself place item held = record {
    within = omega arith;
    reaches = λ other there at below same. below;
    stays = λ other there at is.
        let same : other ≡ place = omega arith in
        ap bucket_of (same_Some there item (sym at ∙ ap (slice_get items) same ∙ held));
  }

  -- and leaves the last ones of the other buckets
  IsLast-other : (place bucket link : ℕ) (item : X) → slice_get items place ≡ Some item → bucket ≢ bucket_of item → IsLast bucket_of items place bucket link
      → IsLast bucket_of items (place + 1) bucket link
  IsLast-other place bucket link item held differ last = record {
    within = let within = last.within in omega arith;
    reaches = λ other there at below same. ⊎_elim
        (λ here. absurd (differ (sym same ∙ ap bucket_of (same_Some there item (sym at ∙ ap (slice_get items) here ∙ held)))))
        (λ before. last.reaches other there at (omega arith) same)
        (cases_eq other place);
    stays = last.stays;
  }

  -- items behind the places that count make no difference
  IsLast-append : (more : List X) (count bucket link : ℕ) → count ≤ length items → IsLast bucket_of items count bucket link → IsLast bucket_of (items ++ more) count bucket link
  IsLast-append more count bucket link enough last = record {
    within = last.within;
    reaches = λ place item at below same. last.reaches place item (sym (slice_get-append_left items more place (omega arith)) ∙ at) below same;
    stays = λ place item at is.
        let within = last.within in
        last.stays place item (sym (slice_get-append_left items more place (omega arith)) ∙ at) is;
  }

  -- no place links nowhere
  IsLast-none : (bucket : ℕ) → IsLast bucket_of items 0 bucket 0
  IsLast-none bucket = record {
    within = omega arith;
    reaches = λ place item at below same. absurd (let never : ⊥ = omega arith in never);
    stays = λ place item at is. absurd (let never : ⊥ = omega arith in never);
  }

  -- the link leads to the first place of a chain on which all places lie that are wanted, of a bucket
  pub record LeadsTo (Wanted : ℕ → Type 0) (bucket link : ℕ) : Type 0 where
    pub within : link ≤ length items
    pub reaches : (place : ℕ) → Wanted place → place < link
    pub stays : (place : ℕ) (item : X) → slice_get items place ≡ Some item → suc place ≡ link → bucket_of item ≡ bucket

  module _ (Wanted : ℕ → Type 0) (bucket : ℕ) (found : (place : ℕ) → Wanted place → (item : X) × (slice_get items place ≡ Some item) × (bucket_of item ≡ bucket)) where
    -- the head of their bucket leads to them
    pub LeadsTo-last : (link : ℕ) → IsLast bucket_of items (length items) bucket link → LeadsTo Wanted bucket link
    LeadsTo-last link last = record {
      within = last.within;
      reaches = λ place wanted.
          let there = found place wanted in
          last.reaches place there.0 there.1 (slice_get_within items place there.0 there.1) there.2;
      stays = last.stays;
    }

    -- and so does each link of its chain up to their own
    pub LeadsTo-next : (place next : ℕ) (item : X) → slice_get items place ≡ Some item → (Wanted place → ⊥) → LeadsTo Wanted bucket (place + 1)
        → IsLast bucket_of items place (bucket_of item) next → LeadsTo Wanted bucket next
    LeadsTo-next place next item held differs leads last =
        let same_bucket = leads.stays place item held (omega arith) in
        record {
          within = let within = last.within in let inside = slice_get_within items place item held in omega arith;
          reaches = λ earlier wanted. ⊎_elim
              (λ here. absurd (differs (subst Wanted here wanted)))
              (λ before.
              let reached = leads.reaches earlier wanted in
              let there = found earlier wanted in
              last.reaches earlier there.0 there.1 (omega arith) (there.2 ∙ sym same_bucket))
              (cases_eq earlier place);
          stays = λ earlier other there is. last.stays earlier other there is ∙ same_bucket;
        }

module _ {X : Type 0} (bucket_of : ℕ → X → ℕ) (items : List X) (links heads : List ℕ) where
  -- no place is in a chain yet
  pub IsLinked-none : AreEmpty heads → IsLinked bucket_of items links heads 0
  IsLinked-none empty = record {
    headed = λ bucket within. subst (IsLast (bucket_of (length heads)) items 0 bucket) (sym (empty bucket within)) (IsLast-none (bucket_of (length heads)) items bucket);
    followed = λ place item link held linked below. absurd (let never : ⊥ = omega arith in never);
  }

  -- an item behind the places that count makes no difference
  pub IsLinked-append : (item : X) (link : ℕ) → length links ≡ length items → IsLinked bucket_of items links heads (length items)
      → IsLinked bucket_of (items ++ item ∷ []) (links ++ link ∷ []) heads (length items)
  IsLinked-append item link same linked = record {
    headed = λ bucket within. IsLast-append (bucket_of (length heads)) items (item ∷ []) (length items) bucket (get_or heads bucket 0) (omega arith) (linked.headed bucket within);
    followed = λ place other next held behind below.
        let here = sym (slice_get-append_left items (item ∷ []) place below) ∙ held in
        let next_here = sym (slice_get-append_left links (link ∷ []) place (omega (arith, same, below))) ∙ behind in
        IsLast-append (bucket_of (length heads)) items (item ∷ []) place (bucket_of (length heads) other) next (omega arith) (linked.followed place other next here next_here below);
  }

  -- a place that is put in front of its chain
  pub IsLinked-link : (place head : ℕ) (own : X) → slice_get items place ≡ Some own → place < length links → head ≡ bucket_of (length heads) own → head < length heads
      → IsLinked bucket_of items links heads place → IsLinked bucket_of items (set links place (get_or heads head 0)) (set heads head (place + 1)) (place + 1)
  IsLinked-link place head own held within is bucketed linked =
      let buckets = length heads in
      let same_buckets = length-set heads head (place + 1) in
      let carry = λ (count bucket link : ℕ) (last : IsLast (bucket_of buckets) items count bucket link).
      subst (λ number. IsLast (bucket_of number) items count bucket link) (sym same_buckets) last in
      record {
        headed = λ bucket inside. ⊎_elim
            (λ here. carry (place + 1) bucket (get_or (set heads head (place + 1)) bucket 0)
            (subst (IsLast (bucket_of buckets) items (place + 1) bucket) (sym (ap (λ b. get_or (set heads head (place + 1)) b 0) here ∙ get_or-set_same heads head (place + 1) 0 bucketed))
            (subst (λ b. IsLast (bucket_of buckets) items (place + 1) b (place + 1)) (sym (here ∙ is)) (IsLast-itself (bucket_of buckets) items place own held))))
            (λ differ. carry (place + 1) bucket (get_or (set heads head (place + 1)) bucket 0)
            (subst (IsLast (bucket_of buckets) items (place + 1) bucket) (sym (get_or-set_other heads head bucket (place + 1) 0 differ))
            (IsLast-other (bucket_of buckets) items place bucket (get_or heads bucket 0) own held (λ same. differ (same ∙ sym is))
            (linked.headed bucket (subst (λ number. bucket < number) same_buckets inside)))))
            (cases_eq bucket head);
        followed = λ at item link there next below.
            subst (λ number. IsLast (bucket_of number) items at (bucket_of number item) link) (sym same_buckets) (⊎_elim
            (λ here.
            let same_item : own ≡ item = same_Some own item (sym held ∙ ap (slice_get items) (sym here) ∙ there) in
            let same_link : get_or heads head 0 ≡ link = same_Some (get_or heads head 0) link (sym (slice_get-set_same links place (get_or heads head 0) within) ∙ ap (slice_get (set links place (get_or heads head 0))) (sym here) ∙ next) in
            subst (λ number. IsLast (bucket_of buckets) items at (bucket_of buckets item) number) same_link
            (subst (λ count. IsLast (bucket_of buckets) items count (bucket_of buckets item) (get_or heads head 0)) (sym here)
            (subst (λ bucket. IsLast (bucket_of buckets) items place bucket (get_or heads head 0)) (is ∙ ap (bucket_of buckets) same_item)
            (linked.headed head bucketed))))
            (λ differ. linked.followed at item link there (sym (slice_get-set_other links place at (get_or heads head 0) differ) ∙ next) (omega arith))
            (cases_eq at place));
      }
