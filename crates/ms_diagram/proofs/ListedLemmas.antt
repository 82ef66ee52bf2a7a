-- A table of lists of references: its entries, and the chains in which a list is looked for.
use Rattle.std.proofs.Common.{◌≡◌, ℕ, zero, suc, ◌+◌, ◌-◌, ◌<◌, ◌≤◌, Bool, true, false, nat_eq, if◌then◌else◌, List, [], ◌∷◌, ◌++◌, length, map, take, drop, slice_get, slice_range, get_or, set, All, Option, Some, refl, sym, ap, subst, ◌∙◌, ⊎_elim, inl, inr, length-append, arith}
use Rattle.std.proofs.lemmas.Bool.{cases_Bool, cases_eq, eq-eqb, false≢true}
use Rattle.std.proofs.lemmas.List.{length-map, map-append, map-set, length-drop, take_all, take-append-le, drop-append-le}
use Rattle.std.proofs.lemmas.List.Elements.{All-append}
use Rattle.std.proofs.lemmas.Option.{none-some, same_Some, slice_get_within, slice_get-get_or, slice_get-map}
use Rattle.std.proofs.Math.Seq.{drop-append_seam}
use Rattle.std.specs.Map.{lookup}
use Rattle.std.specs.Option.{option_map}
use Rattle.ms_arena.specs.declared.node.Ref.{Ref}
use Rattle.ms_arena.specs.inner.Chain.{IsLast, IsLinked}
use Rattle.ms_arena.proofs.ChainLemmas.{LeadsTo, LeadsTo-last, LeadsTo-next, IsLinked-append, IsLinked-link}
use Rattle.ms_arena.proofs.Lists.{slice_get-held, slice_get-push}
use Rattle.ms_diagram.specs.declared.listed.Cell.{Cell}
use Rattle.ms_diagram.specs.declared.listed.Listed.{Listed}
use Rattle.ms_diagram.specs.Hash.{hash_of}
use Rattle.ms_diagram.specs.inner.Equal.{roots_eq, same_roots, roots_laws}
use Rattle.ms_diagram.specs.inner.Notes.{KeepsOnly, NotesOnly}
use Rattle.ms_cache.proofs.Among.{Contains-cons}
use Rattle.ms_diagram.specs.inner.Listed.{lists_of, links_of, bucket_of, bucket_in, AreChained, entry_of, newest, entries_of, IsListedIn, listed_behind, IsListTable}

module _ {X : Type 0} where
  newest-none : (items others : List X) → newest items 0 others ≡ others
  newest-none [] others = refl
  newest-none (item ∷ items) others = refl

  -- one item more comes first
  newest-more : (items : List X) (count : ℕ) (others : List X) (item : X) → slice_get items count ≡ Some item → newest items (suc count) others ≡ item ∷ newest items count others
  newest-more [] count others item there = absurd (none-some item there)
  newest-more (first ∷ items) zero others item there = newest-none items (first ∷ others) ∙ ap (λ x. x ∷ others) (same_Some first item there)
  newest-more (first ∷ items) (suc count) others item there = newest-more items count (first ∷ others) item there

  -- items behind those that count make no difference
  newest-append : (items more : List X) (count : ℕ) (others : List X) → count ≤ length items → newest (items ++ more) count others ≡ newest items count others
  newest-append [] more zero others within = newest-none more others
  newest-append [] more (suc count) others within = absurd (omega (arith, within))
  newest-append (item ∷ items) more zero others within = refl
  newest-append (item ∷ items) more (suc count) others within = newest-append items more count (item ∷ others) (omega (arith, within))

  get_at : (items : List X) (place : ℕ) (item other : X) → slice_get items place ≡ Some item → get_or items place other ≡ item
  get_at [] place item other there = absurd (none-some item there)
  get_at (first ∷ items) zero item other there = same_Some first item there
  get_at (first ∷ items) (suc place) item other there = get_at items place item other there

  All-at : (fact : X → Type 0) (items : List X) (place : ℕ) (item : X) → All fact items → slice_get items place ≡ Some item → fact item
  All-at fact items place item all there = subst fact (get_at items place item item there) (all place item (slice_get_within items place item there))

  All-one : (fact : X → Type 0) (item : X) → fact item → All fact (item ∷ [])
  All-one fact item is zero other within = is
  All-one fact item is (suc place) other within = absurd (let never : ⊥ = omega (arith, within) in never)

module _ {K V : Type 0} (test : K → Bool) where
  lookup-passes : (entry : K × V) (rest : List (K × V)) → test entry.0 ≡ true → lookup test (entry ∷ rest) ≡ Some entry.1
  lookup-passes entry rest passes = ap (λ (t : Bool). if t then Some entry.1 else lookup test rest) passes

  lookup-fails : (entry : K × V) (rest : List (K × V)) → test entry.0 ≡ false → lookup test (entry ∷ rest) ≡ lookup test rest
  lookup-fails entry rest fails = ap (λ (t : Bool). if t then Some entry.1 else lookup test rest) fails

  -- where none passes from a place on, a look-up is one among those before it
  lookup-newest : (entries : List (K × V)) (count link : ℕ) → link ≤ count → count ≤ length entries
      → ((place : ℕ) (entry : K × V) → slice_get entries place ≡ Some entry → test entry.0 ≡ true → place < link)
      → lookup test (newest entries count []) ≡ lookup test (newest entries link [])
  lookup-newest entries zero link below within none = ap (λ n. lookup test (newest entries n [])) (omega (arith, below))
  lookup-newest entries (suc count) link below within none = ⊎_elim
      (λ same. ap (λ n. lookup test (newest entries n [])) (sym same))
      (λ less.
      let entry = slice_get-held entries count (omega (arith, within)) in
      ap (lookup test) (newest-more entries count [] entry.0 entry.1)
      ∙ lookup-fails entry.0 (newest entries count [])
      (⊎_elim (λ passes. absurd (let later = none count entry.0 entry.1 passes in omega (arith, later, less, below))) (λ fails. fails) (cases_Bool (test entry.0.0)))
      ∙ lookup-newest entries count link (omega (arith, less, below)) (omega (arith, within)) none)
      (cases_eq link (suc count))

module _ (roots more : List Ref) where
  -- a list of the row is what it was where the row grows
  slice_range-behind : (begin end : ℕ) → begin ≤ end → end ≤ length roots → slice_range (roots ++ more) begin end ≡ slice_range roots begin end
  slice_range-behind begin end ordered within =
      ap (take (end - begin)) (drop-append-le begin roots more (omega (arith, ordered, within)))
      ∙ take-append-le (end - begin) (drop begin roots) more (omega (arith, ordered, within, length-drop begin roots))

  entry_of-behind : (listed : Listed) → IsListedIn roots listed → entry_of (roots ++ more) listed ≡ entry_of roots listed
  entry_of-behind listed is = ap (λ (list : List Ref). (list, listed.made)) (slice_range-behind listed.begin listed.end is.ordered is.within)

  entries-behind : (lists : List Listed) → All (IsListedIn roots) lists → map (entry_of (roots ++ more)) lists ≡ map (entry_of roots) lists
  entries-behind [] all = refl
  entries-behind (listed ∷ lists) all =
      let first = entry_of-behind listed (all 0 listed (omega arith)) in
      let rest = entries-behind lists (λ place other within. all (suc place) other (omega (arith, within))) in
      λ i. first i ∷ rest i

  IsListedIn-behind : (lists : List Listed) → All (IsListedIn roots) lists → All (IsListedIn (roots ++ more)) lists
  IsListedIn-behind lists all place other inside =
      let listed = get_or lists place other in
      let is = all place other inside in
      record {
        ordered = is.ordered;
        within = let within = is.within in omega (arith, within, length-append roots more);
        hashed = is.hashed ∙ ap hash_of (sym (slice_range-behind listed.begin listed.end is.ordered is.within));
      }

module _ (roots list : List Ref) (made : Ref) where
  -- a list behind the row
  abbrev told : Listed
  told = listed_behind roots list made

  its_list : slice_range (roots ++ list) (length roots) (length roots + length list) ≡ list
  its_list = ap (take (length roots + length list - length roots)) (drop-append_seam roots list) ∙ take_all (length roots + length list - length roots) list (omega arith)

  IsListedIn-told : IsListedIn (roots ++ list) told
  IsListedIn-told = record {
    ordered = omega arith;
    within = omega (arith, length-append roots list);
    hashed = ap hash_of (sym its_list);
  }

  -- stands there as the others do
  pub listed-told : (lists : List Listed) → All (IsListedIn roots) lists → All (IsListedIn (roots ++ list)) (lists ++ told ∷ [])
  listed-told lists all = All-append (IsListedIn (roots ++ list)) lists (told ∷ []) (IsListedIn-behind roots list lists all) (All-one (IsListedIn (roots ++ list)) told IsListedIn-told)

  -- and is the first entry
  pub entries_of-told : (lists : List Listed) → All (IsListedIn roots) lists → entries_of (roots ++ list) (lists ++ told ∷ []) ≡ (list, made) ∷ entries_of roots lists
  entries_of-told lists all =
      let entries = map (entry_of roots) lists in
      let count : length lists ≡ length entries = sym (length-map lists (entry_of roots)) in
      let is : map (entry_of (roots ++ list)) (lists ++ told ∷ []) ≡ entries ++ (list, made) ∷ [] =
      map-append (entry_of (roots ++ list)) lists (told ∷ [])
      ∙ ap (λ front. front ++ entry_of (roots ++ list) told ∷ []) (entries-behind roots list lists all)
      ∙ ap (λ (own : List Ref). entries ++ (own, made) ∷ []) its_list in
      ap (λ all. newest all (length (lists ++ told ∷ [])) []) is
      ∙ ap (λ n. newest (entries ++ (list, made) ∷ []) n []) (length-append lists (told ∷ []) ∙ ap (λ n. n + 1) count ∙ omega arith)
      ∙ newest-more (entries ++ (list, made) ∷ []) (length entries) [] (list, made) (slice_get-push entries (list, made))
      ∙ ap (λ rest. (list, made) ∷ rest) (newest-append entries ((list, made) ∷ []) (length entries) [] (omega arith) ∙ ap (λ n. newest entries n []) (sym count))

module _ (cells : List Cell) (heads : List ℕ) where
  counted : length (lists_of cells) ≡ length cells
  counted = length-map cells (λ c. c.listed)

  list_at : (place : ℕ) (cell : Cell) → slice_get cells place ≡ Some cell → slice_get (lists_of cells) place ≡ Some cell.listed
  list_at place cell held = slice_get-map (λ c. c.listed) cells place ∙ ap (option_map (λ c. c.listed)) held

  -- a cell behind those that count makes no difference
  pub AreChained-append : (cell : Cell) → AreChained cells heads (length cells) → AreChained (cells ++ cell ∷ []) heads (length cells)
  AreChained-append cell chained =
      rw (map-append (λ (c : Cell). c.listed) cells (cell ∷ []), map-append (λ (c : Cell). c.link) cells (cell ∷ []))
      (subst (IsLinked bucket_in (lists_of cells ++ cell.listed ∷ []) (links_of cells ++ cell.link ∷ []) heads) counted
      (IsLinked-append bucket_in (lists_of cells) (links_of cells) heads cell.listed cell.link (length-map cells (λ c. c.link) ∙ sym counted) (subst (AreChained cells heads) (sym counted) chained)))

  -- the link of a cell
  linked_at : (place : ℕ) (cell : Cell) → AreChained cells heads (length cells) → slice_get cells place ≡ Some cell
      → IsLast (bucket_in (length heads)) (lists_of cells) place (bucket_in (length heads) cell.listed) cell.link
  linked_at place cell chained held =
      chained.followed place cell.listed cell.link (list_at place cell held) (slice_get-map (λ c. c.link) cells place ∙ ap (option_map (λ c. c.link)) held) (slice_get_within cells place cell held)

  -- leads to an earlier place
  pub link_falls : (place : ℕ) (cell : Cell) → AreChained cells heads (length cells) → slice_get cells place ≡ Some cell → cell.link ≤ place
  link_falls place cell chained held = (linked_at place cell chained held).within

-- a link that is written leaves the lists
pub lists_of-set : (cells : List Cell) (place : ℕ) (cell : Cell) (link : ℕ) → slice_get cells place ≡ Some cell → lists_of (set cells place (record { listed = cell.listed; link = link })) ≡ lists_of cells
lists_of-set [] place cell link held = refl
lists_of-set (first ∷ cells) zero cell link held = ap (λ (c : Cell). c.listed ∷ lists_of cells) (sym (same_Some first cell held))
lists_of-set (first ∷ cells) (suc place) cell link held = ap (λ lists. first.listed ∷ lists) (lists_of-set cells place cell link held)

-- a place that is put in front of its chain
pub AreChained-link : (cells : List Cell) (heads : List ℕ) (place head : ℕ) (own : Cell) → slice_get cells place ≡ Some own → head ≡ bucket_of (length heads) own.listed.hash → head < length heads
    → AreChained cells heads place → AreChained (set cells place (record { listed = own.listed; link = get_or heads head 0 })) (set heads head (place + 1)) (place + 1)
AreChained-link cells heads place head own held is bucketed chained =
    let within = slice_get_within cells place own held in
    rw (lists_of-set cells place own (get_or heads head 0) held, map-set (λ (c : Cell). c.link) cells place (record { listed = own.listed; link = get_or heads head 0 }))
    (IsLinked-link bucket_in (lists_of cells) (links_of cells) heads place head own.listed (list_at cells heads place own held) (omega (arith, within, length-map cells (λ (c : Cell). c.link))) is bucketed chained)

-- as many cells as lists
pub same_length : (one other : List Cell) → lists_of one ≡ lists_of other → length one ≡ length other
same_length one other same = sym (length-map one (λ c. c.listed)) ∙ ap length same ∙ length-map other (λ c. c.listed)

-- a table whose chains are made anew
pub IsListTable-linked : (roots : List Ref) (old new : List Cell) (old_heads heads : List ℕ) → IsListTable roots old old_heads → lists_of new ≡ lists_of old → AreChained new heads (length new)
    → (0 < length old_heads → 0 < length heads) → IsListTable roots new heads
IsListTable-linked roots old new old_heads heads table same chained bucketed =
    let counted = same_length new old same in
    record {
      listed = subst (All (IsListedIn roots)) (sym same) table.listed;
      chained = chained;
      small = let small = table.small in omega (arith, small, counted);
      bucketed = λ some. bucketed (table.bucketed (omega (arith, some, counted)));
    }

-- the list that is told last is found
pub lookup-told : (list : List Ref) (made : Ref) (rest : List (List Ref × Ref)) → lookup (roots_eq list) ((list, made) ∷ rest) ≡ Some made
lookup-told list made rest = lookup-passes (roots_eq list) (list, made) rest (roots_laws.refl list)

-- and it is the only one that is new
pub only-told : (old kept : List (List Ref × Ref)) (list : List Ref) (made : Ref) → KeepsOnly old kept → NotesOnly roots_eq old ((list, made) ∷ kept) list made
only-told old kept list made only entry among = ⊎_elim
    (λ own. inr (ap (λ (e : List Ref × Ref). e.1) (sym own), inl (ap (λ (e : List Ref × Ref). e.0) (sym own))))
    (λ later. inl (only entry later))
    (Contains-cons (list, made) kept entry among)

-- a table in which one list more stands
pub IsListTable-told : (roots list : List Ref) (made : Ref) (cells new : List Cell) (heads new_heads : List ℕ) → IsListTable roots cells heads → length cells < 4294967295
    → lists_of new ≡ lists_of cells ++ listed_behind roots list made ∷ [] → AreChained new new_heads (length cells + 1) → 0 < length new_heads → IsListTable (roots ++ list) new new_heads
IsListTable-told roots list made cells new heads new_heads table room same chained some =
    let told = listed_behind roots list made in
    let counted : length new ≡ length cells + 1 =
    omega (arith, length-map new (λ (c : Cell). c.listed), ap length same, length-append (lists_of cells) (told ∷ []), length-map cells (λ (c : Cell). c.listed)) in
    record {
      listed = subst (All (IsListedIn (roots ++ list))) (sym same) (listed-told roots list made (lists_of cells) table.listed);
      chained = subst (AreChained new new_heads) (sym counted) chained;
      small = omega (arith, counted, room);
      bucketed = λ any. some;
    }

-- its lists
pub lists-told : (cells put new : List Cell) (told : Listed) → put ≡ cells ++ record { listed = told; link = 0 } ∷ [] → lists_of new ≡ lists_of put → lists_of new ≡ lists_of cells ++ told ∷ []
lists-told cells put new told is same = same ∙ ap lists_of is ∙ map-append (λ (c : Cell). c.listed) cells (record { listed = told; link = 0 } ∷ [])

-- and its entries
pub entries-told : (roots list grown : List Ref) (made : Ref) (cells new : List Cell) (heads : List ℕ) → IsListTable roots cells heads → grown ≡ roots ++ list
    → lists_of new ≡ lists_of cells ++ listed_behind roots list made ∷ [] → entries_of grown (lists_of new) ≡ (list, made) ∷ entries_of roots (lists_of cells)
entries-told roots list grown made cells new heads table longer lists =
    ap (λ (row : List Ref). entries_of row (lists_of new)) longer ∙ ap (entries_of (roots ++ list)) lists ∙ entries_of-told roots list made (lists_of cells) table.listed

-- the list of each cell stands in the row
pub listed_at : (roots : List Ref) (cells : List Cell) (heads : List ℕ) → IsListTable roots cells heads → (place : ℕ) (other : Cell) → place < length cells
    → IsListedIn roots (get_or cells place other).listed
listed_at roots cells heads table place other within =
    All-at (IsListedIn roots) (lists_of cells) place (get_or cells place other).listed table.listed (list_at cells heads place (get_or cells place other) (slice_get-get_or cells place other within))

-- lists with different hashes differ
pub differs_by_hash : (key list : List Ref) (one two : ℕ) → one ≡ hash_of list → two ≡ hash_of key → nat_eq one two ≡ false → roots_eq key list ≡ false
differs_by_hash key list one two of_list of_key differs = ⊎_elim
    (λ same. absurd (false≢true (sym differs ∙ eq-eqb one two (of_list ∙ ap hash_of (sym (same_roots key list same)) ∙ sym of_key))))
    (λ differ. differ)
    (cases_Bool (roots_eq key list))

module _ (roots : List Ref) (cells : List Cell) (heads : List ℕ) (key : List Ref) where
  -- the list at the place is the key
  abbrev IsKeyAt : ℕ → Type 0
  IsKeyAt place = (listed : Listed) × (slice_get (lists_of cells) place ≡ Some listed) × (roots_eq key (slice_range roots listed.begin listed.end) ≡ true)

  -- the link leads to it
  abbrev pub LeadsToKey : ℕ → Type 0
  LeadsToKey = LeadsTo (bucket_in (length heads)) (lists_of cells) IsKeyAt (bucket_of (length heads) (hash_of key))

module _ (roots : List Ref) (cells : List Cell) (heads : List ℕ) (key : List Ref) (table : IsListTable roots cells heads) where
  found : (place : ℕ) → IsKeyAt roots cells heads key place → (listed : Listed) × (slice_get (lists_of cells) place ≡ Some listed) × (bucket_in (length heads) listed ≡ bucket_of (length heads) (hash_of key))
  found place is = (
    is.0,
    is.1,
    ap (bucket_of (length heads)) ((All-at (IsListedIn roots) (lists_of cells) place is.0 table.listed is.1).hashed ∙ ap hash_of (sym (same_roots key (slice_range roots is.0.begin is.0.end) is.2))),
  )

  -- the head of its bucket does
  pub LeadsToKey-head : (first : ℕ) → IsLast (bucket_in (length heads)) (lists_of cells) (length cells) (bucket_of (length heads) (hash_of key)) first → LeadsToKey roots cells heads key first
  LeadsToKey-head first last =
      LeadsTo-last (bucket_in (length heads)) (lists_of cells) (IsKeyAt roots cells heads key) (bucket_of (length heads) (hash_of key)) found first
      (subst (λ count. IsLast (bucket_in (length heads)) (lists_of cells) count (bucket_of (length heads) (hash_of key)) first) (sym (counted cells heads)) last)

  -- and so does the link of each cell up to its own
  pub LeadsToKey-next : (place : ℕ) (cell : Cell) → slice_get cells place ≡ Some cell → roots_eq key (slice_range roots cell.listed.begin cell.listed.end) ≡ false
      → LeadsToKey roots cells heads key (place + 1) → LeadsToKey roots cells heads key cell.link
  LeadsToKey-next place cell held differs leads =
      LeadsTo-next (bucket_in (length heads)) (lists_of cells) (IsKeyAt roots cells heads key) (bucket_of (length heads) (hash_of key)) found
      place cell.link cell.listed (list_at cells heads place cell held)
      (λ is.
      let same = same_Some cell.listed is.0 (sym (list_at cells heads place cell held) ∙ is.1) in
      absurd (false≢true (sym differs ∙ ap (λ (listed : Listed). roots_eq key (slice_range roots listed.begin listed.end)) same ∙ is.2)))
      leads (linked_at cells heads place cell table.chained held)

  -- a look-up is one among the entries before the link
  before : (link : ℕ) → LeadsToKey roots cells heads key link → lookup (roots_eq key) (entries_of roots (lists_of cells)) ≡ lookup (roots_eq key) (newest (map (entry_of roots) (lists_of cells)) link [])
  before link leads =
      let lists = lists_of cells in
      let within = leads.within in
      lookup-newest (roots_eq key) (map (entry_of roots) lists) (length lists) link within (omega (arith, length-map lists (entry_of roots)))
      (λ place entry there passes.
      let listed = slice_get-held lists place (omega (arith, slice_get_within (map (entry_of roots) lists) place entry there, length-map lists (entry_of roots))) in
      let same = same_Some (entry_of roots listed.0) entry (sym (slice_get-map (entry_of roots) lists place ∙ ap (option_map (entry_of roots)) listed.1) ∙ there) in
      leads.reaches place (listed.0, listed.1, ap (λ (e : List Ref × Ref). roots_eq key e.0) same ∙ passes))

  -- where the chain ends there is no entry
  pub lookup-end : (link : ℕ) → LeadsToKey roots cells heads key link → link ≡ 0 → lookup (roots_eq key) (entries_of roots (lists_of cells)) ≡ Option.None
  lookup-end link leads ended = before link leads ∙ ap (λ n. lookup (roots_eq key) (newest (map (entry_of roots) (lists_of cells)) n [])) ended ∙ ap (lookup (roots_eq key)) (newest-none (map (entry_of roots) (lists_of cells)) [])

  -- and a list that is the key has its own
  pub lookup-here : (place : ℕ) (cell : Cell) → slice_get cells place ≡ Some cell → roots_eq key (slice_range roots cell.listed.begin cell.listed.end) ≡ true
      → LeadsToKey roots cells heads key (place + 1) → lookup (roots_eq key) (entries_of roots (lists_of cells)) ≡ Some cell.listed.made
  lookup-here place cell held is leads =
      let entries = map (entry_of roots) (lists_of cells) in
      before (place + 1) leads
      ∙ ap (λ n. lookup (roots_eq key) (newest entries n [])) (omega arith)
      ∙ ap (lookup (roots_eq key)) (newest-more entries place [] (entry_of roots cell.listed)
      (slice_get-map (entry_of roots) (lists_of cells) place ∙ ap (option_map (entry_of roots)) (list_at cells heads place cell held)))
      ∙ lookup-passes (roots_eq key) (entry_of roots cell.listed) (newest entries place []) is
