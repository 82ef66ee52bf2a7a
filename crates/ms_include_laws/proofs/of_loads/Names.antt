-- The files whose loading goes on are among those that were read.
use Rattle.std.proofs.Common.{◌≡◌, ℕ, zero, suc, Bool, true, false, ◌||◌, bytes_eq, ◌⊎◌, inl, inr, ⊎_elim, List, [], ◌∷◌, ◌++◌, Option, Some, None, refl, sym, ap, subst}
use Rattle.std.proofs.lemmas.List.{map-append}
use Rattle.ms_list.specs.declared.at.At.{At}
use Rattle.ms_logic.specs.declared.source.Item.{Item}
use Rattle.ms_include.specs.declared.begun.Begun.{Begun}
use Rattle.ms_include.specs.Include.{Files, Loading, Becomes, AllBecome, Loads, and_next, include_of, is_among, names}

-- each of the first names is one of the others
abbrev pub AreAmong : List (List ℕ) → List (List ℕ) → Type 0
AreAmong some all = (name : List ℕ) → is_among name some ≡ true → is_among name all ≡ true

either : (a b : Bool) → a || b ≡ true → (a ≡ true) ⊎ (b ≡ true)
either true b is = inl refl
either false b is = inr is

or_first : (a b : Bool) → a ≡ true → a || b ≡ true
or_first a b is = ap (λ x. x || b) is

or_second : (a b : Bool) → b ≡ true → a || b ≡ true
or_second true b is = refl
or_second false b is = is

-- a name in two lists, one behind the other

step_first : (a b c : Bool) → (b ≡ true → c ≡ true) → (a ≡ true) ⊎ (b ≡ true) → a || c ≡ true
step_first a b c more (inl is) = or_first a c is
step_first a b c more (inr is) = or_second a c (more is)

in_first : (name : List ℕ) (xs ys : List (List ℕ)) → is_among name xs ≡ true → is_among name (xs ++ ys) ≡ true
in_first name [] ys is = let never : ⊥ = cc in absurd never
in_first name (x ∷ xs) ys is =
    step_first (bytes_eq name x) (is_among name xs) (is_among name (xs ++ ys)) (in_first name xs ys) (either (bytes_eq name x) (is_among name xs) is)

in_second : (name : List ℕ) (xs ys : List (List ℕ)) → is_among name ys ≡ true → is_among name (xs ++ ys) ≡ true
in_second name [] ys is = is
in_second name (x ∷ xs) ys is = or_second (bytes_eq name x) (is_among name (xs ++ ys)) (in_second name xs ys is)

step_either : (a b c d : Bool) → (b ≡ true → (c ≡ true) ⊎ (d ≡ true)) → (a ≡ true) ⊎ (b ≡ true) → (a || c ≡ true) ⊎ (d ≡ true)
step_either a b c d more (inl is) = inl (or_first a c is)
step_either a b c d more (inr is) = ⊎_elim (λ first. inl (or_second a c first)) (λ second. inr second) (more is)

in_either : (name : List ℕ) (xs ys : List (List ℕ)) → is_among name (xs ++ ys) ≡ true → (is_among name xs ≡ true) ⊎ (is_among name ys ≡ true)
in_either name [] ys is = inr is
in_either name (x ∷ xs) ys is =
    step_either (bytes_eq name x) (is_among name (xs ++ ys)) (is_among name xs) (is_among name ys) (in_either name xs ys) (either (bytes_eq name x) (is_among name (xs ++ ys)) is)

pub are_all : (names : List (List ℕ)) → AreAmong names names
are_all names name is = is

pub later_among : (some all more : List (List ℕ)) → AreAmong some all → AreAmong all more → AreAmong some more
later_among some all more first second name is = second name (first name is)

-- with one more file in the chain and among those that were read
pub with_next : (chain : List Begun) (begun : Begun) (read : List (List ℕ)) → AreAmong (names chain) read → AreAmong (names (chain ++ begun ∷ [])) (read ++ begun.name ∷ [])
with_next chain begun read are name is =
    ⊎_elim (λ first. in_first name read (begun.name ∷ []) (are name first)) (λ last. in_second name read (begun.name ∷ []) last)
    (in_either name (names chain) (begun.name ∷ []) (subst (λ l. is_among name l ≡ true) (map-append (λ (b : Begun). b.name) chain (begun ∷ [])) is))

-- what was read stays so

becomes_grow : (L : Loading) → ((chain : List Begun) (read : List (List ℕ)) (name : List ℕ) (after : List (List ℕ)) (items : List Item) → L chain read name after items → AreAmong read after) →
    (chain : List Begun) (read : List (List ℕ)) (item : Item) (named : Option (At × List ℕ)) (after : List (List ℕ)) (items : List Item) → Becomes L chain read item named after items → AreAmong read after
becomes_grow L grow chain read item None after items becomes = subst (AreAmong read) (sym becomes.0) (are_all read)
becomes_grow L grow chain read item (Some (at, name)) after items (inl (ended, same, none)) = subst (AreAmong read) (sym same) (are_all read)
becomes_grow L grow chain read item (Some (at, name)) after items (inr (new, loads)) = grow chain read name after items loads

all_grow : (L : Loading) → ((chain : List Begun) (read : List (List ℕ)) (name : List ℕ) (after : List (List ℕ)) (items : List Item) → L chain read name after items → AreAmong read after) →
    (chain : List Begun) (read : List (List ℕ)) (list : List Item) (after : List (List ℕ)) (items : List Item) → AllBecome L chain read list after items → AreAmong read after
all_grow L grow chain read [] after items become = subst (AreAmong read) (sym become.0) (are_all read)
all_grow L grow chain read (first ∷ more) after items (between, one, rest, becomes, all, is) =
    later_among read between after (becomes_grow L grow chain read first (include_of first.decl) between one becomes) (all_grow L grow chain between more after rest all)

loads_grow : (files : Files) (room : ℕ) (chain : List Begun) (read : List (List ℕ)) (name : List ℕ) (after : List (List ℕ)) (items : List Item) → Loads files room chain read name after items → AreAmong read after
loads_grow files zero chain read name after items loads = absurd loads
loads_grow files (suc deeper) chain read name after items (source, few, is, header, become) =
    later_among read (read ++ name ∷ []) after (λ n. in_first n read (name ∷ []))
    (all_grow (Loads files deeper) (loads_grow files deeper) (and_next files chain read name) (read ++ name ∷ []) source.items after items become)

-- a declaration in place of which others stand
pub one_grows : (files : Files) (room : ℕ) (chain : List Begun) (read : List (List ℕ)) (item : Item) (named : Option (At × List ℕ)) (after : List (List ℕ)) (items : List Item) →
    Becomes (Loads files room) chain read item named after items → AreAmong read after
one_grows files room = becomes_grow (Loads files room) (loads_grow files room)
