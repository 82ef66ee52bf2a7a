-- Classes are split by the numbers of their keys.
use Rattle.std.proofs.Common.{◌≡◌, ◌≢◌, ℕ, zero, suc, ◌+◌, ◌-◌, ◌<◌, ◌≤◌, inl, inr, ⊎_elim, List, [], ◌∷◌, ◌++◌, length, length-append, append_assoc, slice_get, slice_index, Some, refl, sym, ap, subst, ◌∙◌, arith}
use Rattle.std.proofs.lemmas.Bool.{cases_lt}
use Rattle.std.proofs.lemmas.Option.{none-some, slice_get_within, same_Some, get_or_from_slice_get, slice_get-get_or}
use Rattle.ms_arena.specs.Target.{Extends}
use Rattle.ms_arena.proofs.Appending.{Extends-same, slice_get-extends}
use Rattle.ms_arena.proofs.Lists.{slice_get-append_left, slice_get-held, slice_get-push, slice_get-pushed}
use Rattle.ms_diagram.specs.Numbering.{IsMissing, IsNumbering, Numbers}
use Rattle.ms_diagram.proofs.NumberingLemmas.{IsNumbering-numbers}
use Rattle.ms_minim.specs.inner.Partition.{HaveOneClass, IsInhabited}
use Rattle.ms_minim.specs.inner.Split.{IsPlaced, key_of, own_keys, AreKeyed, AreSplit, IsSplit}

-- keys of old classes
pub length-own_keys : (marks : List ℕ) (first : ℕ) (members : List ℕ) → length (own_keys marks first members) ≡ length members
length-own_keys marks first [] = refl
length-own_keys marks first (member ∷ members) = ap suc (length-own_keys marks (suc first) members)

own_key : (marks : List ℕ) (first : ℕ) (members : List ℕ) (class : ℕ) → class < length members
    → slice_get (own_keys marks first members) class ≡ Some (first + class, slice_index marks (slice_index members class))
own_key marks first [] class less = absurd (omega (arith, less))
own_key marks first (member ∷ members) zero less = ap (λ (number : ℕ). Some (number, slice_index marks member)) (omega arith)
own_key marks first (member ∷ members) (suc class) less =
    own_key marks (suc first) members class (omega (arith, less)) ∙ ap (λ (number : ℕ). Some (number, slice_index marks (slice_index members class))) (omega arith)

is_own_key : (marks : List ℕ) (first : ℕ) (members : List ℕ) (class : ℕ) (key : ℕ × ℕ) → slice_get (own_keys marks first members) class ≡ Some key
    → key ≡ (first + class, slice_index marks (slice_index members class))
is_own_key marks first members class key held =
    let less : class < length members = (let within = slice_get_within (own_keys marks first members) class key held in let long = length-own_keys marks first members in omega (arith, within, long)) in
    same_Some key (first + class, slice_index marks (slice_index members class)) (sym held ∙ own_key marks first members class less)

slice_get-behind : {X : Type 0} (front behind : List X) (place : ℕ) → slice_get (front ++ behind) (length front + place) ≡ slice_get behind place
slice_get-behind [] behind place = let at : 0 + place ≡ place = omega arith in ap (slice_get behind) at
slice_get-behind (item ∷ front) behind place =
    let at : suc (length front) + place ≡ suc (length front + place) = omega arith in
    ap (slice_get (item ∷ front ++ behind)) at ∙ slice_get-behind front behind place

-- a key that got a number
module _ (keys : List (ℕ × ℕ)) (members : List ℕ) (late_keys : List (ℕ × ℕ)) (late_members : List ℕ) (key : ℕ × ℕ) (state number : ℕ)
    (placed : IsPlaced keys members late_keys late_members key state number) where
  pub Extends-placed : Extends keys late_keys
  Extends-placed = ⊎_elim
      (λ same. subst (λ list. Extends keys list) (sym same.0) (Extends-same keys))
      (λ added. (key ∷ [], added.1)) placed.added

  -- classes stay known by states of their keys
  pub AreKeyed-placed : (classes marks : List ℕ) → AreKeyed classes marks keys members → state < length classes → key ≡ key_of classes marks state → AreKeyed classes marks late_keys late_members
  AreKeyed-placed classes marks were within own = record {
    numbering = placed.numbering;
    equal = ⊎_elim
        (λ same. ap length same.0 ∙ were.equal ∙ ap length (sym same.1))
        (λ added.
        let more_keys : length late_keys ≡ length keys + 1 = ap length added.1 ∙ length-append keys (key ∷ []) in
        let more_members : length late_members ≡ length members + 1 = ap length added.2 ∙ length-append members (state ∷ []) in
        let equal = were.equal in
        omega (arith, more_keys, more_members, equal))
        placed.added;
    keyed = λ class other held. ⊎_elim
        (λ same.
        let was = were.keyed class other (ap (λ list. slice_get list class) (sym same.1) ∙ held) in
        (was.0, slice_get-extends keys late_keys Extends-placed class (key_of classes marks other) was.1))
        (λ added. ⊎_elim
        (λ before.
        let was = were.keyed class other before in
        (was.0, slice_get-extends keys late_keys Extends-placed class (key_of classes marks other) was.1))
        (λ last.
        let there : slice_get late_keys (length keys) ≡ Some key = ap (λ list. slice_get list (length keys)) added.1 ∙ slice_get-push keys key in
        let place : class ≡ length keys = last.0 ∙ sym were.equal in (
          subst (λ s. s < length classes) last.1 within,
          ap (slice_get late_keys) place ∙ there ∙ ap Some (own ∙ ap (key_of classes marks) last.1),
        ))
        (slice_get-pushed members state class other (ap (λ list. slice_get list class) (sym added.2) ∙ held)))
        placed.added;
  }

module _ (classes members marks : List ℕ) (inhabited : IsInhabited classes members) where
  key_of_member : (class state : ℕ) → slice_get members class ≡ Some state → key_of classes marks state ≡ (class, slice_index marks state)
  key_of_member class state held =
      let class_is : slice_index classes state ≡ class = get_or_from_slice_get classes state class 0 (inhabited.member class state held) in
      ap (λ n. (n, slice_index marks state)) class_is

  module _ (same_length : length marks ≡ length classes) (small : length members ≤ 4294967295) where
    -- before the first state, keys are those of the old classes
    pub AreSplit-none : AreSplit classes members marks (own_keys marks 0 members) members []
    AreSplit-none = record {
      begun = record {
        keyed = record { numbering = own_numbering; equal = length-own_keys marks 0 members; keyed = keyed };
        count = (let long = length-own_keys marks 0 members in omega (arith, long));
        old = λ class less.
            let held = slice_get-held members class less in
            let member_is : slice_index members class ≡ held.0 = get_or_from_slice_get members class held.0 0 held.1 in
            (keyed class held.0 held.1).1 ∙ ap (λ state. Some (key_of classes marks state)) (sym member_is);
      };
      numbered = λ state number held. absurd (none-some number held);
    }
      where
        own_numbering : IsNumbering (own_keys marks 0 members)
        own_numbering = record {
          no_repeats = λ one two key first second.
              let one_is : key.0 ≡ 0 + one = ap (λ (k : ℕ × ℕ). k.0) (is_own_key marks 0 members one key first) in
              let two_is : key.0 ≡ 0 + two = ap (λ (k : ℕ × ℕ). k.0) (is_own_key marks 0 members two key second) in
              omega (arith, one_is, two_is);
          small = (let long = length-own_keys marks 0 members in omega (arith, long, small));
        }

        keyed : (class state : ℕ) → slice_get members class ≡ Some state → (state < length classes) × (slice_get (own_keys marks 0 members) class ≡ Some (key_of classes marks state))
        keyed class state held =
            let plain : 0 + class ≡ class = omega arith in
            let member_is : slice_index members class ≡ state = get_or_from_slice_get members class state 0 held in (
              slice_get_within classes state class (inhabited.member class state held),
              own_key marks 0 members class (slice_get_within members class state held)
                  ∙ ap (λ (number : ℕ). Some (number, slice_index marks (slice_index members class))) plain
                  ∙ ap (λ (mark : ℕ). Some (class, mark)) (ap (slice_index marks) member_is) ∙ ap Some (sym (key_of_member class state held)),
            )

  -- a state with the mark of the one that its class is known by keeps its class
  pub AreSplit-kept : (keys : List (ℕ × ℕ)) (made_members made : List ℕ) (state class known : ℕ) → AreSplit classes members marks keys made_members made → length made ≡ state
      → slice_get classes state ≡ Some class → slice_get members class ≡ Some known → slice_index marks known ≡ slice_index marks state
      → AreSplit classes members marks keys made_members (made ++ class ∷ [])
  AreSplit-kept keys made_members made state class known was count class_is known_is same = record {
    begun = was.begun;
    numbered = λ one found held. ⊎_elim
        (λ before. was.numbered one found before)
        (λ last.
        let own : one ≡ state = last.0 ∙ count in
        let place : slice_index classes state ≡ class = get_or_from_slice_get classes state class 0 class_is in
        let member_is : slice_index members class ≡ known = get_or_from_slice_get members class known 0 known_is in
        let key : slice_get keys class ≡ Some (key_of classes marks state) =
        was.begun.old class (slice_get_within members class known known_is)
        ∙ ap (λ (s : ℕ). Some (key_of classes marks s)) member_is
        ∙ ap Some (key_of_member class known known_is)
        ∙ ap (λ (mark : ℕ). Some (class, mark)) same
        ∙ ap (λ (c : ℕ). Some (c, slice_index marks state)) (sym place) in
        subst (λ (n : ℕ). slice_get keys n ≡ Some (key_of classes marks one)) last.1 (key ∙ ap (λ (s : ℕ). Some (key_of classes marks s)) (sym own)))
        (slice_get-pushed made class one found held);
  }

-- a state with another mark has none of the keys of old classes
pub IsMissing-own : (marks members : List ℕ) (class known mark : ℕ) → slice_get members class ≡ Some known → slice_index marks known ≢ mark
    → IsMissing (own_keys marks 0 members) (class, mark)
IsMissing-own marks members class known mark known_is differs place held =
    let is = is_own_key marks 0 members place (class, mark) held in
    let from_front : class ≡ 0 + place = ap (λ (k : ℕ × ℕ). k.0) is in
    let class_is : class ≡ place = omega (arith, from_front) in
    let member_is : slice_index members class ≡ known = get_or_from_slice_get members class known 0 known_is in
    differs (ap (slice_index marks) (sym member_is ∙ ap (slice_index members) class_is) ∙ sym (ap (λ (k : ℕ × ℕ). k.1) is))

-- a key that gets its number behind others that it is none of
pub IsPlaced-behind : (front keys late : List (ℕ × ℕ)) (members late_members : List ℕ) (key : ℕ × ℕ) (state number : ℕ)
    → length front + length keys ≡ length members → length members < 4294967295 → IsNumbering (front ++ keys) → IsMissing front key
    → Numbers keys late key → slice_get late number ≡ Some key
    → (length front + number ≡ length members → late_members ≡ members ++ state ∷ []) → (length front + number ≢ length members → late_members ≡ members)
    → IsPlaced (front ++ keys) members (front ++ late) late_members key state (length front + number)
IsPlaced-behind front keys late members late_members key state number count room numbering missing numbers held pushed kept = record {
  number_is = slice_get-behind front late number ∙ held;
  added = ⊎_elim
      (λ same.
      let less : number < length keys = slice_get_within keys number key (ap (λ list. slice_get list number) (sym same) ∙ held) in
      inl (ap (λ list. front ++ list) same, kept (λ at_end. omega (arith, at_end, count, less))))
      (λ added. inr (none added.0, longer added.1, pushed (let last = at_end added in omega (arith, last, count))))
      numbers;
  numbering = IsNumbering-numbers (front ++ keys) (front ++ late) key numbering (let long = length-append front keys in omega (arith, long, count, room))
      (⊎_elim (λ same. inl (ap (λ list. front ++ list) same)) (λ added. inr (none added.0, longer added.1)) numbers);
}
  where
    none : IsMissing keys key → IsMissing (front ++ keys) key
    none absent place there = ⊎_elim
        (λ before. missing place (sym (slice_get-append_left front keys place before) ∙ there))
        (λ behind.
        let at : place ≡ length front + (place - length front) = omega (arith, behind) in
        absent (place - length front) (sym (slice_get-behind front keys (place - length front)) ∙ ap (slice_get (front ++ keys)) (sym at) ∙ there))
        (cases_lt place (length front))

    longer : late ≡ keys ++ key ∷ [] → front ++ late ≡ (front ++ keys) ++ key ∷ []
    longer is = ap (λ list. front ++ list) is ∙ sym (append_assoc front keys (key ∷ []))

    -- a key that was missing has the number behind all others
    at_end : IsMissing keys key × (late ≡ keys ++ key ∷ []) → number ≡ length keys
    at_end added = ⊎_elim (λ before. absurd (added.0 number before)) (λ last. last.0)
        (slice_get-pushed keys key number key (ap (λ list. slice_get list number) (sym added.1) ∙ held))

-- one state more
pub AreSplit-more : (classes members marks : List ℕ) (keys : List (ℕ × ℕ)) (made_members made : List ℕ) (state number : ℕ) → AreSplit classes members marks keys made_members made
    → length made ≡ state → state < length classes → (late_keys : List (ℕ × ℕ)) (late_members : List ℕ) (key : ℕ × ℕ) → key ≡ key_of classes marks state
    → IsPlaced keys made_members late_keys late_members key state number
    → AreSplit classes members marks late_keys late_members (made ++ number ∷ [])
AreSplit-more classes members marks keys made_members made state number was count within late_keys late_members key key_is placed =
    let extends = Extends-placed keys made_members late_keys late_members key state number placed in
    let begun = was.begun in
    let keyed = AreKeyed-placed keys made_members late_keys late_members key state number placed classes marks begun.keyed within key_is in
    record {
      begun = record {
        keyed = keyed;
        count = (let before = begun.count in let longer : length keys ≤ length late_keys = longer_by extends in omega (arith, before, longer));
        old = λ class less. slice_get-extends keys late_keys extends class (key_of classes marks (slice_index members class)) (begun.old class less);
      };
      numbered = λ one found held. ⊎_elim
          (λ before. slice_get-extends keys late_keys extends found (key_of classes marks one) (was.numbered one found before))
          (λ last.
          let own : one ≡ state = last.0 ∙ count in
          subst (λ n. slice_get late_keys n ≡ Some (key_of classes marks one)) last.1
          (placed.number_is ∙ ap Some (key_is ∙ ap (key_of classes marks) (sym own))))
          (slice_get-pushed made number one found held);
    }
  where
    longer_by : Extends keys late_keys → length keys ≤ length late_keys
    longer_by extends = let same : length late_keys ≡ length keys + length extends.0 = ap length extends.1 ∙ length-append keys extends.0 in omega (arith, same)

-- items at places of a list are equal where it has one item there
pub same_index : (list : List ℕ) (one other : ℕ) → one < length list → slice_get list one ≡ slice_get list other → slice_index list one ≡ slice_index list other
same_index list one other within same =
    let held = slice_get-held list one within in
    get_or_from_slice_get list one held.0 0 held.1 ∙ sym (get_or_from_slice_get list other held.0 0 (sym same ∙ held.1))

pub same_get : (list : List ℕ) (one other : ℕ) → one < length list → other < length list → slice_index list one ≡ slice_index list other → slice_get list one ≡ slice_get list other
same_get list one other in_one in_other same = slice_get-get_or list one 0 in_one ∙ ap Some same ∙ sym (slice_get-get_or list other 0 in_other)

-- all states are split
module _ (classes members marks : List ℕ) (inhabited : IsInhabited classes members) (same_length : length marks ≡ length classes)
    (keys : List (ℕ × ℕ)) (made_members made : List ℕ) (are : AreSplit classes members marks keys made_members made) (all : length made ≡ length classes) where
  in_made : (state : ℕ) → state < length classes → (number : ℕ) × (slice_get made state ≡ Some number) × (slice_get keys number ≡ Some (key_of classes marks state))
  in_made state within =
      let held = slice_get-held made state (omega (arith, within, all)) in
      (held.0, held.1, are.numbered state held.0 held.1)

  keys_same : (one other : ℕ) → one < length classes → other < length classes → HaveOneClass made one other → key_of classes marks one ≡ key_of classes marks other
  keys_same one other in_one in_other same =
      let first = in_made one in_one in
      let second = in_made other in_other in
      let numbers : first.0 ≡ second.0 = same_Some first.0 second.0 (sym first.1 ∙ same ∙ second.1) in
      same_Some (key_of classes marks one) (key_of classes marks other) (sym first.2 ∙ ap (slice_get keys) numbers ∙ second.2)

  pub IsSplit-all : IsSplit classes members marks made made_members
  IsSplit-all = record {
    all = all;
    inhabited = record {
      within = λ state class held.
          let less : class < length keys = slice_get_within keys class (key_of classes marks state) (are.numbered state class held) in
          let equal = are.begun.keyed.equal in
          omega (arith, less, equal);
      member = λ class state held.
          let is = are.begun.keyed.keyed class state held in
          let first = in_made state is.0 in
          first.1 ∙ ap Some (are.begun.keyed.numbering.no_repeats first.0 class (key_of classes marks state) first.2 is.1);
    };
    together = λ one other in_one in_other same_class same_mark.
        let first = in_made one in_one in
        let second = in_made other in_other in
        let class_is : slice_index classes one ≡ slice_index classes other = same_index classes one other in_one same_class in
        let mark_is : slice_index marks one ≡ slice_index marks other = same_index marks one other (omega (arith, in_one, same_length)) same_mark in
        let key_is : key_of classes marks one ≡ key_of classes marks other = λ i. (class_is i, mark_is i) in
        first.1 ∙ ap Some (are.begun.keyed.numbering.no_repeats first.0 second.0 (key_of classes marks other) (first.2 ∙ ap Some key_is) second.2) ∙ sym second.1;
    apart = λ one other in_one in_other same.
        let key_is = keys_same one other in_one in_other same in (
          same_get classes one other in_one in_other (ap (λ (p : ℕ × ℕ). p.0) key_is),
          same_get marks one other (omega (arith, in_one, same_length)) (omega (arith, in_other, same_length)) (ap (λ (p : ℕ × ℕ). p.1) key_is),
        );
    more = (let count = are.begun.count in let equal = are.begun.keyed.equal in omega (arith, count, equal));
    done = λ none one other in_one in_other same.
        let first = known none one in_one in
        let second = known none other in_other in
        let class_is : slice_index classes one ≡ slice_index classes other = same_index classes one other in_one same in
        let mark_is : slice_index marks one ≡ slice_index marks other = first ∙ ap (λ c. slice_index marks (slice_index members c)) class_is ∙ sym second in
        same_get marks one other (omega (arith, in_one, same_length)) (omega (arith, in_other, same_length)) mark_is;
  }
    where
      -- where no class is new, each state has the mark of the one that its class is known by
      known : length made_members ≡ length members → (state : ℕ) → state < length classes → slice_index marks state ≡ slice_index marks (slice_index members (slice_index classes state))
      known none state within =
          let first = in_made state within in
          let less : first.0 < length keys = slice_get_within keys first.0 (key_of classes marks state) first.2 in
          let equal = are.begun.keyed.equal in
          let below : first.0 < length members = omega (arith, less, equal, none) in
          let held = slice_get-held members first.0 below in
          let member_is : slice_index members first.0 ≡ held.0 = get_or_from_slice_get members first.0 held.0 0 held.1 in
          let key_is : key_of classes marks state ≡ (first.0, slice_index marks held.0)
          = same_Some (key_of classes marks state) (key_of classes marks (slice_index members first.0)) (sym first.2 ∙ are.begun.old first.0 below)
          ∙ ap (key_of classes marks) member_is ∙ key_of_member classes members marks inhabited first.0 held.0 held.1 in
          let class_is : slice_index classes state ≡ first.0 = ap (λ (p : ℕ × ℕ). p.0) key_is in
          ap (λ (p : ℕ × ℕ). p.1) key_is ∙ ap (slice_index marks) (sym member_is ∙ ap (slice_index members) (sym class_is))
