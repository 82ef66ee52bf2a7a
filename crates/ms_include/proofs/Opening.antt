-- A new file, and what becomes of its declarations.
use Rattle.std.proofs.Common.{◌≡◌, ℕ, zero, suc, ◌+◌, ◌-◌, ◌<◌, ◌≤◌, ◌⊎◌, inl, inr, List, [], ◌∷◌, ◌++◌, append_assoc, length, drop, Option, Some, None, Result, OnOk, refl, sym, ap, ◌∙◌, subst, arith}
use Rattle.std.proofs.lemmas.List.{drop-append-le, length-drop}
use Rattle.ms_edge.specs.Files.{Holding, Seen}
use Rattle.ms_list.specs.declared.at.At.{At}
use Rattle.ms_edge.specs.declared.refusal.Refusal.{Refusal}
use Rattle.ms_edge.specs.declared.refusal.Refusal.TheVariants.{NotHere, Memory}
use Rattle.ms_logic.specs.declared.mode.Mode.{Mode}
use Rattle.ms_logic.specs.declared.source.Decl.{Decl}
use Rattle.ms_logic.specs.declared.source.Decl.TheVariants.{Include}
use Rattle.ms_logic.specs.declared.source.Item.{Item}
use Rattle.ms_logic.specs.declared.source.Source.{Source}
use Rattle.ms_include.specs.declared.begun.Begun.{Begun}
use Rattle.ms_include.specs.File.{IsSource, IsNoSource, IsUnread}
use Rattle.ms_include.specs.Include.{Loading, most_files, and_next, Becomes, AllBecome, Loads, Stops, OneStops, IsHeaderFault, IsRefused, include_of}
use Rattle.ms_include.specs.Load.{files_of}
use Rattle.ms_include.proofs.Placing.{and-one, then-stops}

-- the number of the next file
number-is : (base number : ℕ) (before : List (List ℕ)) → base ≤ length before → number ≡ length before → number ≡ base + length (drop base before)
number-is base number before begun is = omega (arith, begun, is, length-drop base before)

few-is : (base : ℕ) (before : List (List ℕ)) → length before < base + most_files → base ≤ length before → length (drop base before) < most_files
few-is base before few begun = omega (arith, few, begun, length-drop base before)

noted : (base : ℕ) (before after : List (List ℕ)) (name : List ℕ) → base ≤ length before → after ≡ before ++ name ∷ [] → drop base after ≡ drop base before ++ name ∷ []
noted base before after name begun is = ap (drop base) is ∙ drop-append-le base before (name ∷ []) begun

pub open-refused : (request : Seen) (held : Option Holding) (base room number : ℕ) (chain : List Begun) (before after : List (List ℕ)) (at : At) (name : List ℕ) (refusal : Refusal) →
    0 < room → base ≤ length before → number ≡ length before → length before < base + most_files → held ≡ request.before.held →
    (refusal ≡ Memory) ⊎ (IsUnread request (Some at) name refusal × (after ≡ before)) ⊎ (IsNoSource held number name refusal × (after ≡ before ++ name ∷ [])) →
    (refusal ≡ Memory) ⊎ IsRefused (files_of request base) room chain (drop base before) at name refusal (drop base after)
open-refused request held base zero number chain before after at name refusal positive begun numbered few same what = absurd (omega (arith, positive))
open-refused request held base (suc deeper) number chain before after at name refusal positive begun numbered few same (inl memory) = inl memory
open-refused request held base (suc deeper) number chain before after at name refusal positive begun numbered few same (inr (inl (unread, kept))) =
    inr (inr (few-is base before few begun, inl (unread, ap (drop base) kept)))
open-refused request held base (suc deeper) number chain before after at name refusal positive begun numbered few same (inr (inr (none, grown))) =
    inr (inr (
      few-is base before few begun,
      inr (inl (
        subst (λ n. IsNoSource request.before.held n name refusal) (number-is base number before begun numbered) (subst (λ h. IsNoSource h number name refusal) same none),
        noted base before after name begun grown,
      )),
    ))

-- the file that was opened
opened : (request : Seen) (held : Option Holding) (base number : ℕ) (before : List (List ℕ)) (name : List ℕ) (source : Source) → base ≤ length before → number ≡ length before → held ≡ request.before.held →
    IsSource held number name source → IsSource request.before.held (base + length (drop base before)) name source
opened request held base number before name source begun numbered same is =
    subst (λ n. IsSource request.before.held n name source) (number-is base number before begun numbered) (subst (λ h. IsSource h number name source) same is)

header-fault : (header : Option (At × Mode)) (at : At) (mode : Mode) → header ≡ Some (at, mode) → IsHeaderFault header (NotHere at)
header-fault header at mode is = subst (λ h. IsHeaderFault h (NotHere at)) (sym is) refl

pub header-refused : (request : Seen) (held : Option Holding) (base room number : ℕ) (chain : List Begun) (before after : List (List ℕ)) (at : At) (name : List ℕ) (source : Source) (at_header : At) (mode : Mode) →
    0 < room → base ≤ length before → number ≡ length before → length before < base + most_files → held ≡ request.before.held →
    IsSource held number name source → source.header ≡ Some (at_header, mode) → after ≡ before ++ name ∷ [] →
    (NotHere at_header ≡ Memory) ⊎ IsRefused (files_of request base) room chain (drop base before) at name (NotHere at_header) (drop base after)
header-refused request held base zero number chain before after at name source at_header mode positive begun numbered few same is header grown = absurd (omega (arith, positive))
header-refused request held base (suc deeper) number chain before after at name source at_header mode positive begun numbered few same is header grown =
    inr (inr (
      few-is base before few begun,
      inr (inr (
        source,
        opened request held base number before name source begun numbered same is,
        inl (header-fault source.header at_header mode header, noted base before after name begun grown),
      )),
    ))

-- the chain with the file
chain-is : (request : Seen) (base number : ℕ) (chain longer : List Begun) (before : List (List ℕ)) (name : List ℕ) → base ≤ length before → number ≡ length before →
    longer ≡ chain ++ record { number = number; name = name } ∷ [] → longer ≡ and_next (files_of request base) chain (drop base before) name
chain-is request base number chain longer before name begun numbered is =
    is ∙ ap (λ n. chain ++ record { number = n; name = name } ∷ []) (number-is base number before begun numbered)

one-less : (less deeper : ℕ) → less ≡ suc deeper - 1 → less ≡ deeper
one-less less deeper is = omega (arith, is)

loaded-same : (request : Seen) (held : Option Holding) (base room less number : ℕ) (chain longer : List Begun) (before between after : List (List ℕ)) (name : List ℕ) (source : Source) (made : List Item) →
    0 < room → less ≡ room - 1 → base ≤ length before → number ≡ length before → length before < base + most_files → held ≡ request.before.held →
    IsSource held number name source → source.header ≡ None → between ≡ before ++ name ∷ [] → longer ≡ chain ++ record { number = number; name = name } ∷ [] →
    AllBecome (Loads (files_of request base) less) longer (drop base between) source.items (drop base after) made →
    Loads (files_of request base) room chain (drop base before) name (drop base after) made
loaded-same request held base zero less number chain longer before between after name source made positive is_less begun numbered few same is header grown longer_is become = absurd (omega (arith, positive))
loaded-same request held base (suc deeper) less number chain longer before between after name source made positive is_less begun numbered few same is header grown longer_is become = (
  source,
  few-is base before few begun,
  opened request held base number before name source begun numbered same is,
  header,
  subst (λ c. AllBecome (Loads (files_of request base) deeper) c (drop base before ++ name ∷ []) source.items (drop base after) made) (chain-is request base number chain longer before name begun numbered longer_is)
      (subst (λ r. AllBecome (Loads (files_of request base) deeper) longer r source.items (drop base after) made) (noted base before between name begun grown)
      (subst (λ n. AllBecome (Loads (files_of request base) n) longer (drop base between) source.items (drop base after) made) (one-less less deeper is_less) become)),
)

inner-refused-same : (request : Seen) (held : Option Holding) (base room less number : ℕ) (chain longer : List Begun) (before between after : List (List ℕ)) (at : At) (name : List ℕ) (source : Source) (refusal : Refusal) →
    0 < room → less ≡ room - 1 → base ≤ length before → number ≡ length before → length before < base + most_files → held ≡ request.before.held →
    IsSource held number name source → source.header ≡ None → between ≡ before ++ name ∷ [] → longer ≡ chain ++ record { number = number; name = name } ∷ [] →
    (refusal ≡ Memory) ⊎ OneStops (Loads (files_of request base) less) (IsRefused (files_of request base) less) longer (drop base between) source.items refusal (drop base after) →
    (refusal ≡ Memory) ⊎ IsRefused (files_of request base) room chain (drop base before) at name refusal (drop base after)
inner-refused-same request held base zero less number chain longer before between after at name source refusal positive is_less begun numbered few same is header grown longer_is what = absurd (omega (arith, positive))
inner-refused-same request held base (suc deeper) less number chain longer before between after at name source refusal positive is_less begun numbered few same is header grown longer_is (inl memory) = inl memory
inner-refused-same request held base (suc deeper) less number chain longer before between after at name source refusal positive is_less begun numbered few same is header grown longer_is (inr stops) =
    inr (inr (
      few-is base before few begun,
      inr (inr (
        source,
        opened request held base number before name source begun numbered same is,
        inr (
          header,
          subst (λ c. OneStops (Loads (files_of request base) deeper) (IsRefused (files_of request base) deeper) c (drop base before ++ name ∷ []) source.items refusal (drop base after)) (chain-is request base number chain longer before name begun numbered longer_is)
              (subst (λ r. OneStops (Loads (files_of request base) deeper) (IsRefused (files_of request base) deeper) longer r source.items refusal (drop base after)) (noted base before between name begun grown)
              (subst (λ n. OneStops (Loads (files_of request base) n) (IsRefused (files_of request base) n) longer (drop base between) source.items refusal (drop base after)) (one-less less deeper is_less) stops)),
        ),
      )),
    ))

-- the same where the loader is known to have the same base
pub loaded : (request : Seen) (held : Option Holding) (base base' room less number : ℕ) (chain longer : List Begun) (before between after : List (List ℕ)) (name : List ℕ) (source : Source) (items_before items_between items_after made : List Item) → base' ≡ base →
    0 < room → less ≡ room - 1 → base ≤ length before → number ≡ length before → length before < base + most_files → held ≡ request.before.held →
    IsSource held number name source → source.header ≡ None → between ≡ before ++ name ∷ [] → longer ≡ chain ++ record { number = number; name = name } ∷ [] → items_between ≡ items_before →
    items_after ≡ items_between ++ made → AllBecome (Loads (files_of request base') less) longer (drop base' between) source.items (drop base' after) made →
    (x : List Item) × (items_after ≡ items_before ++ x) × Loads (files_of request base) room chain (drop base before) name (drop base after) x
loaded request held base base' room less number chain longer before between after name source items_before items_between items_after made based positive is_less begun numbered few same is header grown longer_is kept grows become = (
  made,
  grows ∙ ap (λ m. m ++ made) kept,
  loaded-same request held base room less number chain longer before between after name source made positive is_less begun numbered few same is header grown longer_is
      (subst (λ b. AllBecome (Loads (files_of request b) less) longer (drop b between) source.items (drop b after) made) based become),
)

pub inner-refused : (request : Seen) (held : Option Holding) (base base' room less number : ℕ) (chain longer : List Begun) (before between after : List (List ℕ)) (at : At) (name : List ℕ) (source : Source) (refusal : Refusal) → base' ≡ base →
    0 < room → less ≡ room - 1 → base ≤ length before → number ≡ length before → length before < base + most_files → held ≡ request.before.held →
    IsSource held number name source → source.header ≡ None → between ≡ before ++ name ∷ [] → longer ≡ chain ++ record { number = number; name = name } ∷ [] →
    (refusal ≡ Memory) ⊎ OneStops (Loads (files_of request base') less) (IsRefused (files_of request base') less) longer (drop base' between) source.items refusal (drop base' after) →
    (refusal ≡ Memory) ⊎ IsRefused (files_of request base) room chain (drop base before) at name refusal (drop base after)
inner-refused request held base base' room less number chain longer before between after at name source refusal based positive is_less begun numbered few same is header grown longer_is what =
    inner-refused-same request held base room less number chain longer before between after at name source refusal positive is_less begun numbered few same is header grown longer_is
    (subst (λ b. (refusal ≡ Memory) ⊎ OneStops (Loads (files_of request b) less) (IsRefused (files_of request b) less) longer (drop b between) source.items refusal (drop b after)) based what)

-- the include of a new file
pub include-refused : (M A B C : Type 0) → C → M ⊎ A → M ⊎ B ⊎ (C × A)
include-refused M A B C new (inl memory) = inl memory
include-refused M A B C new (inr stops) = inr (inr (new, stops))

-- the refusal of the next declaration, where the loader is known to have the same base and chain
pub next-refused : (request : Seen) (base base' room : ℕ) (chain chain' : List Begun) (before between after : List (List ℕ)) (xs all : List Item) (x : Item) (ys made : List Item) (refusal : Refusal) → base' ≡ base → chain' ≡ chain → all ≡ xs ++ x ∷ ys →
    AllBecome (Loads (files_of request base) room) chain (drop base before) xs (drop base between) made →
    (refusal ≡ Memory) ⊎ Stops (IsRefused (files_of request base') room) chain' (drop base' between) (include_of x.decl) refusal (drop base' after) →
    (refusal ≡ Memory) ⊎ OneStops (Loads (files_of request base) room) (IsRefused (files_of request base) room) chain (drop base before) all refusal (drop base after)
next-refused request base base' room chain chain' before between after xs all x ys made refusal based chained split become (inl memory) = inl memory
next-refused request base base' room chain chain' before between after xs all x ys made refusal based chained split become (inr stops) =
    inr (subst (λ is. OneStops (Loads (files_of request base) room) (IsRefused (files_of request base) room) chain (drop base before) is refusal (drop base after)) (sym split)
    (then-stops (Loads (files_of request base) room) (IsRefused (files_of request base) room) chain (drop base before) (drop base between) (drop base after) xs x ys made refusal become
    (subst (λ b. Stops (IsRefused (files_of request b) room) chain (drop b between) (include_of x.decl) refusal (drop b after)) based
    (subst (λ c. Stops (IsRefused (files_of request base') room) c (drop base' between) (include_of x.decl) refusal (drop base' after)) chained stops))))

-- the next declaration in place
pub next-put : (request : Seen) (base base' room : ℕ) (chain chain' : List Begun) (before between after : List (List ℕ)) (xs : List Item) (x : Item) (items items' items'' made one : List Item) → base' ≡ base → chain' ≡ chain →
    items' ≡ items ++ made → AllBecome (Loads (files_of request base) room) chain (drop base before) xs (drop base between) made →
    items'' ≡ items' ++ one → Becomes (Loads (files_of request base') room) chain' (drop base' between) x (include_of x.decl) (drop base' after) one →
    (all : List Item) × (items'' ≡ items ++ all) × AllBecome (Loads (files_of request base) room) chain (drop base before) (xs ++ x ∷ []) (drop base after) all
next-put request base base' room chain chain' before between after xs x items items' items'' made one based chained grows become grows_more becomes = (
  made ++ one,
  grows_more ∙ (ap (λ l. l ++ one) grows ∙ append_assoc items made one),
  and-one (Loads (files_of request base) room) chain (drop base before) (drop base between) (drop base after) xs x made one become
      (subst (λ b. Becomes (Loads (files_of request b) room) chain (drop b between) x (include_of x.decl) (drop b after) one) based
      (subst (λ c. Becomes (Loads (files_of request base') room) c (drop base' between) x (include_of x.decl) (drop base' after) one) chained becomes)),
)

-- what was added, and then more
pub grown-more : (names names' names'' : List (List ℕ)) → (added : List (List ℕ)) × (names' ≡ names ++ added) → (added : List (List ℕ)) × (names'' ≡ names' ++ added) → (added : List (List ℕ)) × (names'' ≡ names ++ added)
grown-more names names' names'' (a, is) (b, then) = (a ++ b, then ∙ (ap (λ l. l ++ b) is ∙ append_assoc names a b))

-- an include in place of its declaration
pub include-put : {T : Type 0} (r : Result T Refusal) (L : Loading) (chain : List Begun) (read after : List (List ℕ)) (items items' : List Item) (item : Item) (decl : Decl) (at : At) (name : List ℕ) → decl ≡ Include at name →
    OnOk r ((made : List Item) × (items' ≡ items ++ made) × Becomes L chain read item (Some (at, name)) after made) →
    OnOk r ((made : List Item) × (items' ≡ items ++ made) × Becomes L chain read item (include_of decl) after made)
include-put r L chain read after items items' item decl at name is put =
    subst (λ d. OnOk r ((made : List Item) × (items' ≡ items ++ made) × Becomes L chain read item (include_of d) after made)) (sym is) put
