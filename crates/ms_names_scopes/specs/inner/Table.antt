-- A table of names: entries, the innermost first, and for each name the place of the entry that it means, counted from the
-- outermost. Each entry has the place of the entry that it hides.
use Rattle.std.specs.Prelude.{◌≡◌, ℕ, if◌then◌else◌, List, [], ◌∷◌, length, map, reverse, bytes_eq, string_bytes, Option, Some, None}
use Rattle.ms_names_rules.specs.declared.meaning.Meaning.{Meaning}
use Rattle.ms_names_rules.specs.declared.meaning.Meaning.TheVariants.{Variable, Constant, Predicate}
use Rattle.ms_names_rules.specs.Scope.{Bytes}
use Rattle.ms_names_scopes.specs.declared.names.Entry.{Entry}
use Rattle.ms_names_scopes.specs.inner.Numbers.{Numbered}

abbrev pub flat : Option (Option ℕ) → Option ℕ
flat None = None
flat (Some place) = place

-- the place of the innermost entry of a name
abbrev pub innermost : List Entry → Bytes → Option ℕ
innermost [] n = None
innermost (e ∷ outer) n = if bytes_eq (string_bytes e.name) n then Some (length outer) else innermost outer n

-- each entry has the place of the entry that it hides
abbrev pub KnowHidden : List Entry → Type 0
KnowHidden [] = Unit {0}
KnowHidden (e ∷ outer) = (e.hidden ≡ innermost outer (string_bytes e.name)) × KnowHidden outer

-- the number of a variable
abbrev pub number_of : Meaning → Option ℕ
number_of (Variable x order) = Some x
number_of (Constant value) = None
number_of (Predicate p parameters) = None

-- the numbers of the entries that are variables
abbrev pub entry_numbers : List Entry → Numbered
entry_numbers entries = map (λ e. number_of e.meaning) entries

-- the entries, the outermost first, with what is held for each name, and their numbers
pub record IsTable (held : Bytes → Option (Option ℕ)) (numbers : Numbered) (entries : List Entry) : Type 0 where
  pub found : (n : Bytes) → flat (held n) ≡ innermost (reverse entries) n
  pub hidden : KnowHidden (reverse entries)
  pub numbered : numbers ≡ entry_numbers entries

abbrev pub named_meaning : Entry → Bytes × Meaning
named_meaning e = (string_bytes e.name, e.meaning)

-- what the names mean, the innermost first
abbrev pub names_of : List Entry → List (Bytes × Meaning)
names_of entries = map named_meaning (reverse entries)

-- what is held after a place is noted for a name
abbrev pub IsNoted : (Bytes → Option (Option ℕ)) → (Bytes → Option (Option ℕ)) → Bytes → Option ℕ → Type 0
IsNoted old new name place = (n : Bytes) → new n ≡ (if bytes_eq name n then Some place else old n)

-- the same is held for each name
abbrev pub IsSame : (Bytes → Option (Option ℕ)) → (Bytes → Option (Option ℕ)) → Type 0
IsSame old new = (n : Bytes) → new n ≡ old n
