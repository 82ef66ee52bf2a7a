-- Classes that wait for a line of a tree.
use Rattle.std.proofs.Common.{◌≡◌, ◌≢◌, ◌⊎◌, ◌↔◌, ℕ, suc, ◌+◌, ◌<◌, Bool, true, false, not, List, [], ◌∷◌, ◌++◌, filter, length, reverse, slice_get, slice_index_or, Some, refl, sym, ap, subst, ◌∙◌, arith, ⊎_elim}
use Rattle.std.proofs.lemmas.Option.{get_or_from_slice_get, slice_get_within}
use Rattle.ms_arena.proofs.Lists.{slice_get-append_left, slice_get-held, slice_get-push, slice_get-pushed}
use Rattle.ms_dfa.specs.Files.{content_of_file}
use Rattle.ms_dfa.specs.declared.plain.FileSign.{FileSign}
use Rattle.ms_dfa.specs.declared.plain.Plain.{Plain}
use Rattle.ms_logic_words.specs.Content.{Content}
use Rattle.ms_dfafile_outside.proofs.FileLemmas.{length-states}
use Rattle.ms_cert.specs.Certificate.{Separates, Tree, branch, ends_in, leaf}
use Rattle.ms_cert.specs.declared.cert.TreeLine.TheVariants.{By}
use Rattle.ms_cert.specs.declared.splitter.Splitter.{Splitter}
use Rattle.ms_cert.specs.declared.separation.Sides.{Sides}
use Rattle.ms_cert.specs.inner.Partition.{Classes, IsPartition, is_split_off, with_split}
use Rattle.ms_cert.specs.inner.Refinement.{TellsSomeApart}
use Rattle.ms_cert.specs.inner.Separation.{AreStates, AreWaiting, SeparateEach, Takes, lists_of}
use Rattle.ms_cert.proofs.MemberLemmas.{in-filter}
use Rattle.ms_cert.proofs.PartitionLemmas.{class-within, member-within, only-first}
use Rattle.ms_cert.proofs.SeparationLemmas.{branch-to, last_first, takes-branch}
use Rattle.ms_cert.proofs.SplitLemmas.{left, moved, new-last, new-other, new-own, split-longer, there}

-- the lists of classes, and of one class more
pub lists-more : (members : List (List ℕ)) (classes : List ℕ) (class : ℕ) → lists_of members (classes ++ class ∷ []) ≡ lists_of members classes ++ slice_index_or members class [] ∷ []
lists-more members [] class = refl
lists-more members (c ∷ classes) class = ap (λ (ls : List (List ℕ)). slice_index_or members c [] ∷ ls) (lists-more members classes class)

-- all classes but the last one
pub waiting-front : (members : List (List ℕ)) (front : List ℕ) (class : ℕ) → AreWaiting members (front ++ class ∷ []) → AreWaiting members front
waiting-front members front class are = record {
  within = λ place own held. are.within place own (early place own held);
  once = λ one other own held_one held_other. are.once one other own (early one own held_one) (early other own held_other);
}
  where
    early : (place own : ℕ) → slice_get front place ≡ Some own → slice_get (front ++ class ∷ []) place ≡ Some own
    early place own held = slice_get-append_left front (class ∷ []) place (slice_get_within front place own held) ∙ held

-- the last one is none of those before
pub waiting-last : (members : List (List ℕ)) (front : List ℕ) (class : ℕ) → AreWaiting members (front ++ class ∷ []) → (place own : ℕ) → slice_get front place ≡ Some own → own ≢ class
waiting-last members front class are place own held same =
    let less = slice_get_within front place own held in
    let at = are.once place (length front) class (slice_get-append_left front (class ∷ []) place less ∙ held ∙ ap Some same) (slice_get-push front class) in
    absurd (omega (arith, less, at))

pub waiting-pushed : (old members : List (List ℕ)) (front : List ℕ) (class : ℕ) → AreWaiting old front → length old + 0 < length members + 1 → class < length members → ((place own : ℕ) → slice_get front place ≡ Some own → own ≢ class) → AreWaiting members (front ++ class ∷ [])
waiting-pushed old members front class are long less differs = record {
  within = λ place own held. ⊎_elim
      (λ early. let before = are.within place own early in omega (arith, before, long))
      (λ last. let same = last.1 in omega (arith, same, less))
      (slice_get-pushed front class place own held);
  once = λ one other own held_one held_other. ⊎_elim
      (λ early. ⊎_elim
      (λ also. are.once one other own early also)
      (λ last. absurd (differs one own early (sym last.1)))
      (slice_get-pushed front class other own held_other))
      (λ last. ⊎_elim
      (λ early. absurd (differs other own early (sym last.1)))
      (λ also. let at = last.0 in let place = also.0 in omega (arith, at, place))
      (slice_get-pushed front class other own held_other))
      (slice_get-pushed front class one own held_one);
}

module _ (content : Content FileSign) where
  -- a tree separates some state
  pub no-empty : (tree : Tree) → Separates content tree [] → ⊥
  no-empty (leaf state) separates = cc
  no-empty (branch sign letters one other) separates = no-empty one separates.0

  -- no line takes a list that it does not split
  pub takes-no_side : (sign : FileSign) (letters : List (List Bool)) (left : List (List ℕ)) (states : List ℕ) (after : List (List ℕ))
      → (filter (ends_in content sign letters) states ≡ []) ⊎ (filter (λ state. not (ends_in content sign letters state)) states ≡ []) → Takes content (By sign letters) (left ++ states ∷ []) after false
  takes-no_side sign letters left states after none rest = (
    λ each.
        let sides = branch-to content sign letters states (reverse left) rest (subst (λ (ls : List (List ℕ)). SeparateEach content ls (By sign letters ∷ rest)) (last_first content left states) each) in
        absurd (⊎_elim
        (λ first. no-empty sides.0 (subst (Separates content sides.0) first sides.3))
        (λ second. no-empty sides.4.0 (subst (Separates content sides.4.0) second sides.4.3))
        none),
    λ goes. let clash : false ≡ true = goes.0 in cc,
  )

  -- where both sides have a state, the splitter tells two apart
  pub sides-tell : (splitter : Splitter) (states : List ℕ) → 0 < length (filter (is_split_off content splitter) states) → 0 < length (filter (λ state. not (is_split_off content splitter state)) states) → TellsSomeApart content states splitter
  sides-tell splitter states some also =
      let test = is_split_off content splitter in
      let one = slice_get-held (filter test states) 0 some in
      let other = slice_get-held (filter (λ state. not (test state)) states) 0 also in
      let first = in-filter test states one.0 0 one.1 in
      let second = in-filter (λ state. not (test state)) states other.0 0 other.1 in
      record {
        one = one.0;
        other = other.0;
        one_in = first.0;
        other_in = second.0;
        apart = λ same. let clash : false ≡ true = sym (ap not (sym same ∙ first.1)) ∙ second.1 in cc;
      }

  module _ (old : Classes) (is : IsPartition content old) (class : ℕ) (splitter : Splitter) (within : class < length old.members) where
    abbrev new : Classes
    new = with_split content old class splitter

    abbrev count : ℕ
    count = length old.parents

    item : (members : List (List ℕ)) (at : ℕ) (states : List ℕ) → slice_get members at ≡ Some states → slice_index_or members at [] ≡ states
    item members at states held = get_or_from_slice_get members at states [] held

    -- other classes have the lists that they had
    lists-other : (front : List ℕ) → ((place own : ℕ) → slice_get front place ≡ Some own → (own < length old.members) × (own ≢ class)) → lists_of new.members front ≡ lists_of old.members front
    lists-other [] others = refl
    lists-other (own ∷ front) others =
        let first = others 0 own refl in
        let held = slice_get-held old.members own first.0 in
        let same : slice_index_or new.members own [] ≡ slice_index_or old.members own [] = item new.members own held.0 (new-other content old is class splitter within own first.0 first.1 ∙ held.1) ∙ sym (item old.members own held.0 held.1) in
        let rest = lists-other front (λ place o there. others (suc place) o there) in
        λ i. same i ∷ rest i

    module _ (front : List ℕ) (are : AreWaiting old.members (front ++ class ∷ [])) where
      others : (place own : ℕ) → slice_get front place ≡ Some own → (own < length old.members) × (own ≢ class)
      others place own held = ((waiting-front old.members front class are).within place own held, waiting-last old.members front class are place own held)

      -- both sides wait
      pub part-waiting : (behind last : List ℕ) → behind ≡ front ++ class ∷ [] → last ≡ behind ++ count ∷ [] → AreWaiting new.members last
      part-waiting behind last is_behind is_last =
          let long = split-longer content old is class splitter within in
          let same = is.members_count in
          subst (AreWaiting new.members) (sym is_last)
          (waiting-pushed old.members new.members behind count (subst (AreWaiting old.members) (sym is_behind) are) (omega (arith, long)) (omega (arith, long, same))
          (λ place own held is_count. let less = are.within place own (ap (λ (w : List ℕ). slice_get w place) (sym is_behind) ∙ held) in absurd (omega (arith, less, same, is_count))))

      pub part-takes : (behind last : List ℕ) → behind ≡ front ++ class ∷ [] → last ≡ behind ++ count ∷ [] → Takes content (By splitter.sign splitter.letters) (lists_of old.members (front ++ class ∷ [])) (lists_of new.members last) true
      part-takes behind last is_behind is_last =
          let states = slice_index_or old.members class [] in
          let front_lists = lists_of old.members front in
          let sides : Sides = record { first = moved content old is class splitter within; second = left content old is class splitter within } in
          let was : lists_of old.members (front ++ class ∷ []) ≡ front_lists ++ states ∷ [] = lists-more old.members front class in
          let kept : lists_of new.members (front ++ class ∷ []) ≡ front_lists ++ sides.second ∷ [] =
          lists-more new.members front class
          ∙ ap (λ (ls : List (List ℕ)). ls ++ slice_index_or new.members class [] ∷ []) (lists-other front others)
          ∙ ap (λ (s : List ℕ). front_lists ++ s ∷ []) (item new.members class sides.second (new-own content old is class splitter within)) in
          let after : lists_of new.members last ≡ (front_lists ++ sides.second ∷ []) ++ sides.first ∷ [] =
          ap (lists_of new.members) (is_last ∙ ap (λ (w : List ℕ). w ++ count ∷ []) is_behind)
          ∙ lists-more new.members (front ++ class ∷ []) count
          ∙ ap (λ (ls : List (List ℕ)). ls ++ slice_index_or new.members count [] ∷ []) kept
          ∙ ap (λ (s : List ℕ). (front_lists ++ sides.second ∷ []) ++ s ∷ []) (item new.members count sides.first (new-last content old is class splitter within)) in
          takes-branch content (By splitter.sign splitter.letters) splitter.sign splitter.letters (lists_of old.members (front ++ class ∷ [])) front_lists (front_lists ++ sides.second ∷ []) (lists_of new.members last) states sides
          refl was (record { first = refl; second = refl }) refl after

      pub part-no_side : (after : List (List ℕ)) → (moved content old is class splitter within ≡ []) ⊎ (left content old is class splitter within ≡ []) → Takes content (By splitter.sign splitter.letters) (lists_of old.members (front ++ class ∷ [])) after false
      part-no_side after none =
          subst (λ (ls : List (List ℕ)). Takes content (By splitter.sign splitter.letters) ls after false) (sym (lists-more old.members front class))
          (takes-no_side splitter.sign splitter.letters (lists_of old.members front) (slice_index_or old.members class []) after none)

-- a list that is not empty
pub some-item : {X : Type 0} (xs : List X) → (xs ≡ [] → ⊥) → 0 < length xs
some-item [] never = absurd (never refl)
some-item (x ∷ xs) never = omega arith

-- the first class waits alone
pub waiting-first : (members : List (List ℕ)) → 0 < length members → AreWaiting members (0 ∷ [])
waiting-first members some = record {
  within = λ place class held. let same = (only-first 0 class place held).1 in omega (arith, same, some);
  once = λ one other class held_one held_other. (only-first 0 class one held_one).0 ∙ sym (only-first 0 class other held_other).0;
}

-- no list waits right where no class does
pub lists-none : (members : List (List ℕ)) (classes : List ℕ) → (classes ≡ []) ↔ (lists_of members classes ≡ [])
lists-none members [] = (λ _. refl, λ _. refl)
lists-none members (class ∷ classes) = (λ is. cc, λ is. cc)

module _ (plain : Plain) (parts : Classes) (is : IsPartition (content_of_file plain) parts) where
  -- the states of a class are states
  pub members-are : (class : ℕ) (states : List ℕ) → slice_get parts.members class ≡ Some states → AreStates plain states
  members-are class states held place state there =
      let less = member-within (content_of_file plain) parts is class states held state (place, there) in
      let count = is.states_count in
      omega (arith, less, count, length-states plain)

  -- there is a class
  pub some-class : 0 < length (content_of_file plain).states → 0 < length parts.parents
  some-class some =
      let count = is.states_count in
      let own = slice_get-held parts.classes 0 (omega (arith, some, count)) in
      let within = class-within (content_of_file plain) parts is 0 own.0 own.1 in
      omega (arith, within)
