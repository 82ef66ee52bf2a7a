-- A tree that tells the states at its leaves apart separates them, and grows as classes go back into those from which they were split off.
use Rattle.std.proofs.Common.{◌≡◌, ◌≢◌, ◌⊎◌, ℕ, zero, suc, ◌+◌, ◌≤◌, Bool, true, false, not, cond, List, [], ◌∷◌, ◌++◌, filter, length, length-append, length-set, map, reverse, slice_get, slice_index, slice_set, Some, refl, sym, ap, subst, ◌∙◌, arith, inl, inr, ⊎_elim}
use Rattle.std.proofs.lemmas.Bool.{cases_eq}
use Rattle.std.proofs.lemmas.List.{length-map, reverse-append}
use Rattle.std.proofs.lemmas.Option.{none-some, same_Some, slice_get-get_or, slice_get_within}
use Rattle.std.specs.List.{AllByRecursion, range_with_len}
use Rattle.ms_arena.proofs.Lists.{slice_get-append_left, slice_get-held, slice_get-push, slice_get-set_other, slice_get-set_same}
use Rattle.ms_dfa.specs.declared.plain.FileSign.{FileSign}
use Rattle.ms_logic.specs.FiniteSet.{numbers_below}
use Rattle.ms_logic_words.specs.Content.{Content}
use Rattle.ms_cert.specs.Certificate.{AreApart, IsLineOver, Separates, Tree, branch, ends_in, leaf}
use Rattle.ms_cert.specs.declared.cert.TreeLine.{TreeLine}
use Rattle.ms_cert.specs.declared.cert.TreeLine.TheVariants.{At, By}
use Rattle.ms_cert.specs.declared.splitter.Splitter.{Splitter}
use Rattle.ms_cert.specs.inner.Growing.{AreGrown, IsGrown, Joins, RiseFrom, TellsLeaves, leaves_of}
use Rattle.ms_cert.specs.inner.Partition.{Classes, IsDiscrete, IsIn, IsPartition}
use Rattle.ms_cert.proofs.MemberLemmas.{in-filter, kept, number-below, number-in}
use Rattle.ms_cert.proofs.PartitionLemmas.{only-first}
use Rattle.ms_cert.proofs.StemLemmas.{stems-first, stems-further, stems-here, stems-low, stems-lower, stems-raise}

rise-lower : (low high : ℕ) (states : List ℕ) → low ≤ high → RiseFrom high states → RiseFrom low states
rise-lower low high [] lower rise = tt
rise-lower low high (s ∷ states) lower rise = let least = rise.0 in (omega (arith, least, lower), rise.1)

-- what a test keeps rises
rise-filter : (test : ℕ → Bool) (least : ℕ) (states : List ℕ) → RiseFrom least states → RiseFrom least (filter test states)
rise-filter test least [] rise = tt
rise-filter test least (s ∷ states) rise = by (test s) (rise-filter test (s + 1) states rise.1)
  where
    by : (passes : Bool) → RiseFrom (s + 1) (filter test states) → RiseFrom least (cond passes (s ∷ filter test states) (filter test states))
    by true rest = (rise.0, rest)
    by false rest = let low = rise.0 in rise-lower least (s + 1) (filter test states) (omega (arith, low)) rest

rise-range : (a n : ℕ) → RiseFrom a (range_with_len a n)
rise-range a zero = tt
rise-range a (suc n) = (omega arith, rise-range (a + 1) n)

-- rising states that are all one
rise-one : (least own : ℕ) (states : List ℕ) → RiseFrom least states → IsIn states own → ((state : ℕ) → IsIn states state → state ≡ own) → states ≡ own ∷ []
rise-one least own [] rise there only = absurd (none-some own there.1)
rise-one least own (s ∷ []) rise there only = ap (λ (n : ℕ). n ∷ []) (only s (0, refl))
rise-one least own (s ∷ t ∷ states) rise there only =
    let one = only s (0, refl) in
    let other = only t (1, refl) in
    let more = rise.1.0 in
    absurd (omega (arith, one, other, more))

-- states of two lists
pub in-left : (xs ys : List ℕ) (state : ℕ) → IsIn xs state → IsIn (xs ++ ys) state
in-left xs ys state there = (there.0, slice_get-append_left xs ys there.0 (slice_get_within xs there.0 state there.1) ∙ there.1)

pub in-right : (xs ys : List ℕ) (state : ℕ) → IsIn ys state → IsIn (xs ++ ys) state
in-right [] ys state there = there
in-right (x ∷ xs) ys state there = let rest = in-right xs ys state there in (suc rest.0, rest.1)

pub in-both : (xs ys : List ℕ) (state : ℕ) → IsIn (xs ++ ys) state → IsIn xs state ⊎ IsIn ys state
in-both [] ys state there = inr there
in-both (x ∷ xs) ys state there = by (λ rest. in-both xs ys state rest) there.0 there.1
  where
    by : (IsIn (xs ++ ys) state → IsIn xs state ⊎ IsIn ys state) → (place : ℕ) → slice_get (x ∷ (xs ++ ys)) place ≡ Some state → IsIn (x ∷ xs) state ⊎ IsIn ys state
    by rest zero held = inl (0, held)
    by rest (suc place) held = ⊎_elim (λ first. inl (suc first.0, first.1)) (λ second. inr second) (rest (place, held))

pub in-one : (own state : ℕ) → IsIn (own ∷ []) state → own ≡ state
in-one own state there = (only-first own state there.0 there.1).1

pub all-join : {X : Type 0} (P : X → Type 0) (xs ys : List X) → AllByRecursion P xs → AllByRecursion P ys → AllByRecursion P (xs ++ ys)
all-join P [] ys all also = also
all-join P (x ∷ xs) ys all also = (all.0, all-join P xs ys all.1 also)

-- an item that is written twice
pub set-twice : {X : Type 0} (xs : List X) (i : ℕ) (x y : X) → slice_set (slice_set xs i x) i y ≡ slice_set xs i y
set-twice [] i x y = refl
set-twice (z ∷ xs) zero x y = refl
set-twice (z ∷ xs) (suc i) x y = ap (λ rest. z ∷ rest) (set-twice xs i x y)

-- both sides of a test
pub length-sides : (test : ℕ → Bool) (states : List ℕ) → length (filter test states) + length (filter (λ s. not (test s)) states) ≡ length states
length-sides test [] = refl
length-sides test (s ∷ states) = by (test s) (length-sides test states)
  where
    by : (passes : Bool) → length (filter test states) + length (filter (λ t. not (test t)) states) ≡ length states
        → length (cond passes (s ∷ filter test states) (filter test states)) + length (cond (not passes) (s ∷ filter (λ t. not (test t)) states) (filter (λ t. not (test t)) states)) ≡ suc (length states)
    by true rest = omega (arith, rest)
    by false rest = omega (arith, rest)

module _ (content : Content FileSign) where
  -- a tree that tells its leaves apart separates them, where they rise
  pub tells-separates : (tree : Tree) (least : ℕ) (states : List ℕ) → TellsLeaves content tree → RiseFrom least states → ((state : ℕ) → IsIn states state → IsIn (leaves_of tree) state) → ((state : ℕ) → IsIn (leaves_of tree) state → IsIn states state)
      → Separates content tree states
  tells-separates (leaf own) least states tells rise to from = rise-one least own states rise (from own (0, refl)) (λ state there. sym (in-one own state (to state there)))
  tells-separates (branch sign letters one other) least states tells rise to from =
      let test = ends_in content sign letters in
      let failing = λ (state : ℕ). not (test state) in (
        tells-separates one least (filter test states) tells.2 (rise-filter test least states rise)
            (λ state there.
            let both = in-filter test states state there.0 there.1 in
            ⊎_elim
            (λ first. first)
            (λ second. let clash : true ≡ false = sym both.1 ∙ tells.1 state second in cc)
            (in-both (leaves_of one) (leaves_of other) state (to state both.0)))
            (λ state there.
            let place = from state (in-left (leaves_of one) (leaves_of other) state there) in
            kept test states state place.0 place.1 (tells.0 state there)),
        tells-separates other least (filter failing states) tells.3 (rise-filter failing least states rise)
            (λ state there.
            let both = in-filter failing states state there.0 there.1 in
            ⊎_elim
            (λ first. let clash : false ≡ true = sym (ap not (tells.0 state first)) ∙ both.1 in cc)
            (λ second. second)
            (in-both (leaves_of one) (leaves_of other) state (to state both.0)))
            (λ state there.
            let place = from state (in-right (leaves_of one) (leaves_of other) state there) in
            kept failing states state place.0 place.1 (ap not (tells.1 state there))),
      )

  module _ (parts : Classes) (is : IsPartition content parts) where
    -- the leaf of a class of one state
    grown-leaf : IsDiscrete parts.classes → (bound class : ℕ) (states : List ℕ) → class ≤ bound → length parts.parents ≡ bound + 1 → slice_get parts.members class ≡ Some states → IsGrown content parts bound class (At (slice_index states 0) ∷ [])
    grown-leaf discrete bound class states low long held =
        let own = slice_index states 0 in
        let there = slice_get-get_or states 0 0 (is.some class states held) in
        let has : slice_get parts.classes own ≡ Some class = is.own class own states held (0, there) in
        record {
          tree = leaf own;
          spelled = refl;
          tells = tt;
          over = (tt, tt);
          from = λ state in_leaf. (class, subst (λ (n : ℕ). slice_get parts.classes n ≡ Some class) (in-one own state in_leaf) has, stems-here parts.parents bound class low);
          to = λ state other held_other stems.
              let in_list = is.listed state other held_other in
              let less = slice_get_within parts.members other in_list.0 in_list.1 in
              let same = is.members_count in
              let is_class : other ≡ class = stems-low parts.parents bound other class (omega (arith, less, same, long)) stems in
              (0, ap Some (discrete own state class has (held_other ∙ ap Some is_class)));
        }

    -- the leaves of all classes
    pub grown-leaves : IsDiscrete parts.classes → (bound : ℕ) (trees : List (List TreeLine)) → length parts.parents ≡ bound + 1 → trees ≡ map (λ states. At (slice_index states 0) ∷ []) parts.members → AreGrown content parts bound trees
    grown-leaves discrete bound trees long are = record {
      count = ap length are ∙ length-map parts.members (λ states. At (slice_index states 0) ∷ []) ∙ is.members_count ∙ long;
      each = λ class lines held.
          let found = mapped parts.members class lines (ap (λ (ts : List (List TreeLine)). slice_get ts class) (sym are) ∙ held) in
          let less = slice_get_within parts.members class found.0 found.1 in
          let same = is.members_count in
          subst (λ (ls : List TreeLine). IsGrown content parts bound class (reverse ls)) found.2
          (grown-leaf discrete bound class found.0 (omega (arith, less, same, long)) long found.1);
    }
      where
        mapped : (lists : List (List ℕ)) (class : ℕ) (lines : List TreeLine) → slice_get (map (λ states. At (slice_index states 0) ∷ []) lists) class ≡ Some lines
            → (states : List ℕ) × (slice_get lists class ≡ Some states) × (At (slice_index states 0) ∷ [] ≡ lines)
        mapped [] class lines held = absurd (none-some lines held)
        mapped (states ∷ lists) zero lines held = (states, refl, same_Some (At (slice_index states 0) ∷ []) lines held)
        mapped (states ∷ lists) (suc class) lines held = mapped lists class lines held

    -- the class above a bound goes back into its parent
    module _ (bound parent : ℕ) (splitter : Splitter) (held_parent : slice_get parts.parents (bound + 1) ≡ Some parent) (held_splitter : slice_get parts.splitters (bound + 1) ≡ Some splitter) where
      abbrev line : TreeLine
      line = By splitter.sign splitter.letters

      low : parent ≤ bound
      low = let before = is.earlier (bound + 1) parent held_parent (omega arith) in omega (arith, before)

      grown-branch : (first second : List TreeLine) → IsGrown content parts (bound + 1) (bound + 1) (reverse first) → IsGrown content parts (bound + 1) parent (reverse second)
          → IsGrown content parts bound parent (reverse (second ++ first ++ line ∷ []))
      grown-branch first second one other =
          let lines : reverse (second ++ first ++ line ∷ []) ≡ line ∷ (reverse first ++ reverse second) =
          reverse-append (second ++ first) (line ∷ []) ∙ ap (λ (ls : List TreeLine). line ∷ ls) (reverse-append second first) in
          let own_line : IsLineOver content.variables line = is.over (bound + 1) splitter held_splitter in
          record {
            tree = branch splitter.sign splitter.letters one.tree other.tree;
            spelled = lines ∙ (λ i. line ∷ (one.spelled i ++ other.spelled i));
            tells = (
              λ state there. let at = one.from state there in (is.told (bound + 1) parent state at.0 (bound + 1) splitter (omega arith) held_parent held_splitter at.1 at.2).0 refl,
              λ state there. let at = other.from state there in (is.told (bound + 1) parent state at.0 parent splitter (omega arith) held_parent held_splitter at.1 at.2).1 refl,
              one.tells,
              other.tells,
            );
            over = subst (AllByRecursion (IsLineOver content.variables)) (sym lines) (own_line, all-join (IsLineOver content.variables) (reverse first) (reverse second) one.over other.over);
            from = λ state there. ⊎_elim
                (λ in_one. let at = one.from state in_one in (at.0, at.1, stems-further parts.parents (bound + 1) bound at.0 (bound + 1) parent (omega arith) (omega arith) held_parent low at.2))
                (λ in_other. let at = other.from state in_other in (at.0, at.1, stems-lower parts.parents (bound + 1) bound at.0 parent low (omega arith) at.2))
                (in-both (leaves_of one.tree) (leaves_of other.tree) state there);
            to = λ state own held stems. ⊎_elim
                (λ stays. in-right (leaves_of one.tree) (leaves_of other.tree) state (other.to state own held stays))
                (λ moves. in-left (leaves_of one.tree) (leaves_of other.tree) state (one.to state own held moves.0))
                (stems-raise parts.parents bound own parent is.earlier stems);
          }

      -- another class is what it was
      grown-other : (class : ℕ) (lines : List TreeLine) → class ≤ bound → class ≢ parent → IsGrown content parts (bound + 1) class lines → IsGrown content parts bound class lines
      grown-other class lines below differ was = record {
        tree = was.tree;
        spelled = was.spelled;
        tells = was.tells;
        over = was.over;
        from = λ state there. let at = was.from state there in (at.0, at.1, stems-lower parts.parents (bound + 1) bound at.0 class below (omega arith) at.2);
        to = λ state own held stems. ⊎_elim
            (λ stays. was.to state own held stays)
            (λ moves. absurd (differ (same_Some class parent (sym moves.1 ∙ held_parent))))
            (stems-raise parts.parents bound own class is.earlier stems);
      }

      pub grown-join : (old new : List (List TreeLine)) → AreGrown content parts (bound + 1) old → Joins parent line old new → AreGrown content parts bound new
      grown-join old new grown joins =
          let front = joins.front in
          let made = joins.second ++ joins.first ++ line ∷ [] in
          let long : length front ≡ bound + 1 = omega (arith, grown.count, ap length joins.parts, length-append front (joins.first ∷ [])) in
          let last : slice_get old (bound + 1) ≡ Some joins.first = ap (λ (ts : List (List TreeLine)). slice_get ts (bound + 1)) joins.parts ∙ subst (λ (k : ℕ). slice_get (front ++ joins.first ∷ []) k ≡ Some joins.first) long (slice_get-push front joins.first) in
          record {
            count = ap length joins.made ∙ length-set front parent made ∙ long;
            each = λ class lines held.
                let there = ap (λ (ts : List (List TreeLine)). slice_get ts class) (sym joins.made) ∙ held in
                ⊎_elim
                (λ same.
                let is_made : made ≡ lines = same_Some made lines (sym (slice_get-set_same front parent made (slice_get_within front parent joins.second joins.there)) ∙ ap (slice_get (slice_set front parent made)) (sym same) ∙ there) in
                subst (λ (k : ℕ). IsGrown content parts bound k (reverse lines)) (sym same)
                (subst (λ (ls : List TreeLine). IsGrown content parts bound parent (reverse ls)) is_made
                (grown-branch joins.first joins.second (grown.each (bound + 1) joins.first last) (grown.each parent joins.second (early old parent joins.second front joins.first joins.parts joins.there)))))
                (λ differ.
                let was = sym (slice_get-set_other front parent class made differ) ∙ there in
                let less = slice_get_within front class lines was in
                grown-other class (reverse lines) (omega (arith, less, long)) differ (grown.each class lines (early old class lines front joins.first joins.parts was)))
                (cases_eq class parent);
          }
        where
          early : (old : List (List TreeLine)) (class : ℕ) (lines : List TreeLine) (front : List (List TreeLine)) (first : List TreeLine) → old ≡ front ++ first ∷ [] → slice_get front class ≡ Some lines → slice_get old class ≡ Some lines
          early old class lines front first parts held =
              ap (λ (ts : List (List TreeLine)). slice_get ts class) parts ∙ slice_get-append_left front (first ∷ []) class (slice_get_within front class lines held) ∙ held

    -- at the end the first class has all states
    pub grown-all : (lines : List TreeLine) → IsGrown content parts 0 0 lines → AreApart content lines
    grown-all lines grown = record {
      tree = grown.tree;
      spelled = grown.spelled;
      separates = tells-separates grown.tree 0 (numbers_below (length content.states)) grown.tells (rise-range 0 (length content.states))
          (λ state there.
          let less = number-below (length content.states) state there in
          let count = is.states_count in
          let own = slice_get-held parts.classes state (omega (arith, less, count)) in
          let in_list = is.listed state own.0 own.1 in
          let within = slice_get_within parts.members own.0 in_list.0 in_list.1 in
          let same = is.members_count in
          grown.to state own.0 own.1 (stems-first parts.parents is.earlier own.0 (omega (arith, within, same))))
          (λ state there.
          let at = grown.from state there in
          let within = slice_get_within parts.classes state at.0 at.1 in
          let count = is.states_count in
          number-in (length content.states) state (omega (arith, within, count)));
    }
