-- All states in one class, and where the states of two classes parted.
use Rattle.std.proofs.Common.{◌≡◌, ◌≢◌, ◌⊎◌, ℕ, zero, suc, ◌<◌, ◌≤◌, true, false, List, [], ◌∷◌, length, slice_get, slice_index_or, Option, Some, None, refl, sym, ap, subst, ◌∙◌, arith, inl, inr}
use Rattle.std.proofs.lemmas.List.{length-replicate}
use Rattle.std.proofs.lemmas.List.FromFn.{length-range_with_len}
use Rattle.std.proofs.lemmas.Option.{none-some, same_Some, slice_get-get_or, slice_get_within}
use Rattle.ms_arena.proofs.Lists.{slice_get-held}
use Rattle.ms_dfa.specs.declared.plain.FileSign.{FileSign}
use Rattle.ms_dfa.specs.declared.plain.FileSign.TheVariants.{Plus}
use Rattle.ms_logic.specs.FiniteSet.{numbers_below}
use Rattle.std_collections.proofs.IndexTableLemmas.Probe.{pigeonhole}
use Rattle.ms_logic_words.specs.Content.{AreLetters, Content}
use Rattle.ms_cert.specs.declared.splitter.Splitter.{Splitter}
use Rattle.ms_cert.specs.inner.Partition.{Classes, IsIn, IsParting, IsPartition, StemsFrom, is_split_off, one_class}
use Rattle.ms_cert.proofs.MemberLemmas.{number-below, number-in, replicate-at, replicate-held}

-- a list of one item
pub only-first : {X : Type 0} (x y : X) (place : ℕ) → slice_get (x ∷ []) place ≡ Some y → (place ≡ 0) × (x ≡ y)
only-first x y zero held = (refl, same_Some x y held)
only-first x y (suc place) held = absurd (none-some y held)

-- the parts are equal where their lists are
pub classes-same : (one other : Classes) → one.classes ≡ other.classes → one.members ≡ other.members → one.parents ≡ other.parents → one.splitters ≡ other.splitters → one ≡ other
classes-same one other classes members parents splitters = λ i. record { classes = classes i; members = members i; parents = parents i; splitters = splitters i }

module _ (content : Content FileSign) where
  abbrev first : Classes
  first = one_class content

  pub one-partition : 0 < length content.states → IsPartition content first
  one-partition some_state = record {
    some = λ class states held. subst (λ (s : List ℕ). 0 < length s) (only-first (numbers_below (length content.states)) states class held).1 (omega (arith, some_state, length-range_with_len 0 (length content.states)));
    states_count = length-replicate (length content.states) 0;
    members_count = refl;
    splitters_count = refl;
    earlier = λ class parent held some. let own = (only-first 0 parent class held).0 in absurd (omega (arith, own, some));
    listed = λ state class held.
        let both = replicate-held (length content.states) 0 state class held in
        (numbers_below (length content.states), ap (slice_get first.members) both.1, number-in (length content.states) state both.0);
    own = λ class state states held in_list.
        let both = only-first (numbers_below (length content.states)) states class held in
        let less = number-below (length content.states) state (subst (λ (s : List ℕ). IsIn s state) (sym both.1) in_list) in
        replicate-at (length content.states) 0 state less ∙ ap Some (sym both.0);
    over = λ class splitter held. subst (λ (s : Splitter). AreLetters content.variables s.letters) (only-first (record { sign = Plus; letters = []; tail = 0 }) splitter class held).1 tt;
    told = λ split parent state class stem splitter some held. let own = (only-first 0 parent split held).0 in absurd (omega (arith, own, some));
  }

  module _ (parts : Classes) (is : IsPartition content parts) where
    -- each class of a state is there
    pub class-within : (state class : ℕ) → slice_get parts.classes state ≡ Some class → class < length parts.parents
    class-within state class held =
        let in_list = is.listed state class held in
        let less = slice_get_within parts.members class in_list.0 in_list.1 in
        let same = is.members_count in
        omega (arith, less, same)

    -- and so is each state of a class
    pub member-within : (class : ℕ) (states : List ℕ) → slice_get parts.members class ≡ Some states → (state : ℕ) → IsIn states state → state < length parts.classes
    member-within class states held state in_list = slice_get_within parts.classes state class (is.own class state states held in_list)

    -- a state of a class
    first_of : Option (List ℕ) → ℕ
    first_of None = 0
    first_of (Some states) = slice_index_or states 0 0

    first-in : (class : ℕ) → class < length parts.members → slice_get parts.classes (first_of (slice_get parts.members class)) ≡ Some class
    unfolding first_of
    first-in class less =
        let held = slice_get-held parts.members class less in
        is.own class (first_of (slice_get parts.members class)) held.0 held.1
        (0, slice_get-get_or held.0 0 0 (is.some class held.0 held.1) ∙ ap (λ (found : Option (List ℕ)). Some (first_of found)) (sym held.1))

    -- there are no more classes than states
    pub count-classes : length parts.members ≤ length content.states
    count-classes =
        pigeonhole (length parts.members) (length content.states) (λ class. first_of (slice_get parts.members class))
        (λ class less. let within = slice_get_within parts.classes (first_of (slice_get parts.members class)) class (first-in class less) in let long = is.states_count in omega (arith, within, long))
        (λ one other less also same. same_Some one other (sym (first-in one less) ∙ ap (slice_get parts.classes) same ∙ first-in other also))

    pub few-classes : (limit : ℕ) → length content.states < limit → length parts.parents < limit
    few-classes limit few = let same = is.members_count in omega (arith, count-classes, same, few)

    -- the splitter by which two classes parted tells their states apart
    pub parting-tells : (one other one_class other_class split : ℕ) (splitter : Splitter) → slice_get parts.classes one ≡ Some one_class → slice_get parts.classes other ≡ Some other_class
        → IsParting parts.parents one_class other_class split → slice_get parts.splitters split ≡ Some splitter → is_split_off content splitter one ≢ is_split_off content splitter other
    parting-tells one other one_class other_class split splitter held_one held_other parting held = by parting.sides
      where
        told : (state class stem : ℕ) → slice_get parts.classes state ≡ Some class → StemsFrom parts.parents split class stem
            → (stem ≡ split → is_split_off content splitter state ≡ true) × (stem ≡ parting.parent → is_split_off content splitter state ≡ false)
        told state class stem there stems = is.told split parting.parent state class stem splitter parting.some parting.there held there stems

        by : (StemsFrom parts.parents split one_class split × StemsFrom parts.parents split other_class parting.parent) ⊎ (StemsFrom parts.parents split other_class split × StemsFrom parts.parents split one_class parting.parent)
            → is_split_off content splitter one ≢ is_split_off content splitter other
        by (inl sides) same =
            let yes = (told one one_class split held_one sides.0).0 refl in
            let no = (told other other_class parting.parent held_other sides.1).1 refl in
            let clash : true ≡ false = sym yes ∙ same ∙ no in
            cc
        by (inr sides) same =
            let yes = (told other other_class split held_other sides.0).0 refl in
            let no = (told one one_class parting.parent held_one sides.1).1 refl in
            let clash : true ≡ false = sym yes ∙ sym same ∙ no in
            cc
