-- The declarations that includes become, and the refusal of an include: one of them, and it is fixed by what files hold.
use Rattle.std.proofs.Common.{◌≡◌, ℕ, zero, suc, ◌+◌, Bool, true, false, inl, inr, List, [], ◌∷◌, ◌++◌, length, Option, Some, None, sym, ap, ◌∙◌, subst, arith}
use Rattle.std.proofs.lemmas.Bool.{false≢true}
use Rattle.ms_edge.specs.Files.{Seen}
use Rattle.ms_list.specs.declared.at.At.{At}
use Rattle.ms_edge.specs.declared.refusal.Refusal.{Refusal}
use Rattle.ms_logic.specs.declared.mode.Mode.{Mode}
use Rattle.ms_logic.specs.declared.source.Item.{Item}
use Rattle.ms_logic.specs.declared.source.Source.{Source}
use Rattle.ms_include.specs.declared.begun.Begun.{Begun}
use Rattle.ms_include.specs.Include.{Loading, Stopping, Becomes, AllBecome, Loads, Stops, OneStops, IsRefused, IsHeaderFault, and_next, include_of, is_among, names}
use Rattle.ms_include.specs.Load.{files_of}
use Rattle.ms_include_laws.specs.Told.{IsFromOutside, TellSame}
use Rattle.ms_include_laws.proofs.of_loads.Files.{one_source_of_file, source_or_none, source_or_unread}
use Rattle.ms_include_laws.proofs.of_loads.Names.{AreAmong, later_among, one_grows, with_next}

both : (a : Bool) → a ≡ true → a ≡ false → ⊥
both a is other = false≢true (sym other ∙ is)

-- what two loadings give is the same
abbrev Same : List (List ℕ) → List (List ℕ) → List Item → List Item → Type 0
Same after after' items items' = (after ≡ after') × (items ≡ items')

abbrev Agree : Loading → Loading → Type 0
Agree L L' = (chain : List Begun) (read : List (List ℕ)) (name : List ℕ) (after after' : List (List ℕ)) (items items' : List Item) →
    L chain read name after items → L' chain read name after' items' → Same after after' items items'

becomes_same : (L L' : Loading) → Agree L L' → (chain : List Begun) (read : List (List ℕ)) (item : Item) (named : Option (At × List ℕ)) (after after' : List (List ℕ)) (items items' : List Item) →
    Becomes L chain read item named after items → Becomes L' chain read item named after' items' → Same after after' items items'
becomes_same L L' agree chain read item None after after' items items' (same, is) (same', is') = (same ∙ sym same', is ∙ sym is')
becomes_same L L' agree chain read item (Some (at, name)) after after' items items' (inl (ended, same, is)) (inl (ended', same', is')) = (same ∙ sym same', is ∙ sym is')
becomes_same L L' agree chain read item (Some (at, name)) after after' items items' (inl (ended, same, is)) (inr (new, loads)) = absurd (both (is_among name read) ended.0 new)
becomes_same L L' agree chain read item (Some (at, name)) after after' items items' (inr (new, loads)) (inl (ended, same, is)) = absurd (both (is_among name read) ended.0 new)
becomes_same L L' agree chain read item (Some (at, name)) after after' items items' (inr (new, loads)) (inr (new', loads')) = agree chain read name after after' items items' loads loads'

all_same : (L L' : Loading) → Agree L L' → (chain : List Begun) (list : List Item) (read after after' : List (List ℕ)) (items items' : List Item) →
    AllBecome L chain read list after items → AllBecome L' chain read list after' items' → Same after after' items items'
all_same L L' agree chain [] read after after' items items' (same, is) (same', is') = (same ∙ sym same', is ∙ sym is')
all_same L L' agree chain (first ∷ more) read after after' items items' (between, one, rest, becomes, all, is) (between', one', rest', becomes', all', is') =
    let here = becomes_same L L' agree chain read first (include_of first.decl) between between' one one' becomes becomes' in
    let further = all_same L L' agree chain more between' after after' rest rest' (subst (λ r. AllBecome L chain r more after rest) here.0 all) all' in
    (further.0, is ∙ (ap (λ x. x ++ rest) here.1 ∙ (ap (λ y. one' ++ y) further.1 ∙ sym is')))

loads_same : (seen other : Seen) (told : TellSame seen other) (base room : ℕ) → Agree (Loads (files_of seen base) room) (Loads (files_of other base) room)
loads_same seen other told base zero chain read name after after' items items' loads loads' = absurd loads
loads_same seen other told base (suc deeper) chain read name after after' items items' (source, few, is, header, become) (source', few', is', header', become') =
    let same : source ≡ source' = one_source_of_file told.holding seen.before.held other.before.held (base + length read) name source source' told.one_told told.other_told is is' in
    all_same (Loads (files_of seen base) deeper) (Loads (files_of other base) deeper) (loads_same seen other told base deeper) (and_next (files_of seen base) chain read name)
    source'.items (read ++ name ∷ []) after after' items items'
    (subst (λ (s : Source). AllBecome (Loads (files_of seen base) deeper) (and_next (files_of seen base) chain read name) (read ++ name ∷ []) s.items after items) same become) become'

-- declarations that includes become in two loads
pub items_same : (seen other : Seen) (told : TellSame seen other) (base room : ℕ) (chain : List Begun) (list : List Item) (read after after' : List (List ℕ)) (items items' : List Item) →
    AllBecome (Loads (files_of seen base) room) chain read list after items → AllBecome (Loads (files_of other base) room) chain read list after' items' → Same after after' items items'
items_same seen other told base room = all_same (Loads (files_of seen base) room) (Loads (files_of other base) room) (loads_same seen other told base room)

-- a file that loads is refused from outside alone, where the chain is among the files that were read
abbrev Excludes : (Refusal → Type 0) → Loading → Stopping → Type 0
Excludes Out L R = (chain : List Begun) (read : List (List ℕ)) (at : At) (name : List ℕ) (after after' : List (List ℕ)) (items : List Item) (refusal : Refusal) →
    AreAmong (names chain) read → L chain read name after items → R chain read at name refusal after' → Out refusal

one_stops : (Out : Refusal → Type 0) (L : Loading) (R : Stopping) → Excludes Out L R → (chain : List Begun) (read : List (List ℕ)) (item : Item) (named : Option (At × List ℕ)) (after after' : List (List ℕ)) (items : List Item) (refusal : Refusal) →
    AreAmong (names chain) read → Becomes L chain read item named after items → Stops R chain read named refusal after' → Out refusal
one_stops Out L R excludes chain read item None after after' items refusal begun becomes stops = absurd stops
one_stops Out L R excludes chain read item (Some (at, name)) after after' items refusal begun (inl (ended, same, is)) (inl (cycle, told, kept)) = absurd (both (is_among name (names chain)) cycle ended.1)
one_stops Out L R excludes chain read item (Some (at, name)) after after' items refusal begun (inl (ended, same, is)) (inr (new, refused)) = absurd (both (is_among name read) ended.0 new)
one_stops Out L R excludes chain read item (Some (at, name)) after after' items refusal begun (inr (new, loads)) (inl (cycle, told, kept)) = absurd (both (is_among name read) (begun name cycle) new)
one_stops Out L R excludes chain read item (Some (at, name)) after after' items refusal begun (inr (new, loads)) (inr (new', refused)) = excludes chain read at name after after' items refusal begun loads refused

all_stop : (seen other : Seen) (told : TellSame seen other) (base room : ℕ) (Out : Refusal → Type 0) (R : Stopping) → Excludes Out (Loads (files_of seen base) room) R →
    (chain : List Begun) (list : List Item) (read after after' : List (List ℕ)) (items : List Item) (refusal : Refusal) → AreAmong (names chain) read →
    AllBecome (Loads (files_of seen base) room) chain read list after items → OneStops (Loads (files_of other base) room) R chain read list refusal after' → Out refusal
all_stop seen other told base room Out R excludes chain [] read after after' items refusal begun all stops = absurd stops
all_stop seen other told base room Out R excludes chain (first ∷ more) read after after' items refusal begun (between, one, rest, becomes, all, is) (inl stops) =
    one_stops Out (Loads (files_of seen base) room) R excludes chain read first (include_of first.decl) between after' one refusal begun becomes stops
all_stop seen other told base room Out R excludes chain (first ∷ more) read after after' items refusal begun (between, one, rest, becomes, all, is) (inr (between', one', becomes', stops)) =
    let here = becomes_same (Loads (files_of seen base) room) (Loads (files_of other base) room) (loads_same seen other told base room) chain read first (include_of first.decl) between between' one one' becomes becomes' in
    all_stop seen other told base room Out R excludes chain more between after after' rest refusal
    (later_among (names chain) read between begun (one_grows (files_of seen base) room chain read first (include_of first.decl) between one becomes))
    all (subst (λ r. OneStops (Loads (files_of other base) room) R chain r more refusal after') (sym here.0) stops)

no_header_fault : (header : Option (At × Mode)) (refusal : Refusal) → header ≡ None → IsHeaderFault header refusal → ⊥
no_header_fault header refusal none fault = subst (λ h. IsHeaderFault h refusal) none fault

loads_or_refused : (seen other : Seen) (told : TellSame seen other) (base room : ℕ) → Excludes (IsFromOutside other) (Loads (files_of seen base) room) (IsRefused (files_of other base) room)
loads_or_refused seen other told base zero chain read at name after after' items refusal begun loads refused = absurd loads
loads_or_refused seen other told base (suc deeper) chain read at name after after' items refusal begun (source, few, is, header, become) (inl (many, refused, kept)) = absurd (omega (arith, few, many))
loads_or_refused seen other told base (suc deeper) chain read at name after after' items refusal begun (source, few, is, header, become) (inr (few', inl (unread, kept))) =
    source_or_unread seen other told (base + length read) (Some at) name source refusal is unread
loads_or_refused seen other told base (suc deeper) chain read at name after after' items refusal begun (source, few, is, header, become) (inr (few', inr (inl (none, kept)))) =
    inl (source_or_none told.holding seen.before.held other.before.held (base + length read) name source refusal told.one_told told.other_told is none)
loads_or_refused seen other told base (suc deeper) chain read at name after after' items refusal begun (source, few, is, header, become) (inr (few', inr (inr (source', is', inl (fault, kept))))) =
    let same : source ≡ source' = one_source_of_file told.holding seen.before.held other.before.held (base + length read) name source source' told.one_told told.other_told is is' in
    absurd (no_header_fault source'.header refusal (sym (ap (λ (s : Source). s.header) same) ∙ header) fault)
loads_or_refused seen other told base (suc deeper) chain read at name after after' items refusal begun (source, few, is, header, become) (inr (few', inr (inr (source', is', inr (header', stops))))) =
    let same : source ≡ source' = one_source_of_file told.holding seen.before.held other.before.held (base + length read) name source source' told.one_told told.other_told is is' in
    all_stop seen other told base deeper (IsFromOutside other) (IsRefused (files_of other base) deeper) (loads_or_refused seen other told base deeper) (and_next (files_of seen base) chain read name)
    source'.items (read ++ name ∷ []) after after' items refusal (with_next chain (record { number = base + length read; name = name }) read begun)
    (subst (λ (s : Source). AllBecome (Loads (files_of seen base) deeper) (and_next (files_of seen base) chain read name) (read ++ name ∷ []) s.items after items) same become) stops

-- declarations all of which includes replace are refused from outside alone
pub items_or_refused : (seen other : Seen) (told : TellSame seen other) (base room : ℕ) (chain : List Begun) (list : List Item) (read after after' : List (List ℕ)) (items : List Item) (refusal : Refusal) →
    AreAmong (names chain) read → AllBecome (Loads (files_of seen base) room) chain read list after items →
    OneStops (Loads (files_of other base) room) (IsRefused (files_of other base) room) chain read list refusal after' → IsFromOutside other refusal
items_or_refused seen other told base room =
    all_stop seen other told base room (IsFromOutside other) (IsRefused (files_of other base) room) (loads_or_refused seen other told base room)
