-- What the parts of a reader tell of the bytes that they are given. The contracts and proofs inside this crate cite it, and inside those of other texts of lines and fields.
use Rattle.std.specs.Prelude.{◌≡◌, ◌≢◌, ℕ, ◌<◌, ◌≤◌, ◌^◌, Bool, nat_lt, List, length, slice_index, ◌++◌, ◌∷◌, [], Option, Some, None, Result, Ok, Err, IsTrue}
use Rattle.std.specs.Borrow.{Bor}
use Rattle.std.specs.List.{AllByRecursion, flat_map, list_all}
use Rattle.std.specs.Fmt.{decimal}
use Rattle.ms_arena.specs.declared.node.Node.{Node}
use Rattle.ms_arena.specs.declared.node.Ref.{Ref}
use Rattle.ms_arena.specs.declared.node.Ref.TheVariants.{Leaf, Inner}
use Rattle.ms_dfa.specs.declared.plain.FileState.{FileState}
use Rattle.ms_dfa.specs.declared.plain.FileVar.{FileVar}
use Rattle.ms_text.specs.Spelling.{Spells}
use Rattle.ms_text.specs.declared.token.Kind.TheVariants as kinds
use Rattle.ms_dfafile.specs.declared.fault.FileFault.{FileFault}
use Rattle.ms_dfafile.specs.declared.fault.FileFault.TheVariants as faults

-- a byte that may stand in a field: no blank and no line feed
abbrev pub is_field_byte : ℕ → Bool
is_field_byte byte = nat_lt 32 byte

abbrev pub IsField : List ℕ → Type 0
IsField text = IsTrue (list_all is_field_byte text)

-- a field with the byte that ends it
abbrev pub ended : ℕ → List ℕ → List ℕ
ended end text = text ++ end ∷ []

-- numbers of 32 bits
abbrev pub IsSmall : ℕ → Type 0
IsSmall number = number < 2 ^ 32

abbrev pub IsSmallRef : Ref → Type 0
IsSmallRef (Leaf state) = IsSmall state
IsSmallRef (Inner node) = IsSmall node

-- the bytes begin with the text of a value that fits, and the rest stands behind it
pub record BeginsWith {X : Type 0} (text : X → List ℕ) (Fits : X → Type 0) (bytes : List ℕ) (x : X) (rest : List ℕ) : Type 0 where
  pub fits : Fits x
  pub parts : bytes ≡ text x ++ rest

-- they begin with the text of no value that fits
abbrev pub BeginsWithNone : {X : Type 0} → (X → List ℕ) → (X → Type 0) → List ℕ → Type 0
BeginsWithNone {X} text Fits bytes = (x : X) (rest : List ℕ) → Fits x → bytes ≢ text x ++ rest

-- the value at the front and the bytes behind it, or nothing where there is none
abbrev pub Reads : {X : Type 0} → (X → List ℕ) → (X → Type 0) → List ℕ → Option (X × Bor (List ℕ)) → Type 0
Reads text Fits bytes None = BeginsWithNone text Fits bytes
Reads text Fits bytes (Some found) = BeginsWith text Fits bytes found.0 found.1.now

-- the value whose text the bytes are, or nothing where there is none
abbrev pub Decodes : {X : Type 0} → (X → List ℕ) → (X → Type 0) → List ℕ → Option X → Type 0
Decodes {X} text Fits bytes None = (x : X) → Fits x → bytes ≢ text x
Decodes text Fits bytes (Some x) = Fits x × (bytes ≡ text x)

-- no value's text begins as the text of another does
abbrev pub IsOneForm : {X : Type 0} → (X → List ℕ) → (X → Type 0) → Type 0
IsOneForm {X} text Fits = (x y : X) (behind other : List ℕ) → Fits x → Fits y → text x ++ behind ≡ text y ++ other → x ≡ y

-- how a number may begin: with a digit, and with a zero only where that is all
pub record BeginsNumber (text : List ℕ) : Type 0 where
  pub nonempty : 0 < length text
  pub digit : 48 ≤ slice_index text 0
  pub zero : slice_index text 0 ≡ 48 → length text ≡ 1

-- the same as Reads where memory may be refused
abbrev pub Finds : {X : Type 0} → (X → List ℕ) → (X → Type 0) → List ℕ → Result (X × Bor (List ℕ)) FileFault → Type 0
Finds text Fits bytes (Ok found) = BeginsWith text Fits bytes found.0 found.1.now
Finds text Fits bytes (Err faults.Text) = BeginsWithNone text Fits bytes
Finds text Fits bytes (Err faults.Memory) = Unit {0}

-- the value whose text the bytes are, from the first to the last
abbrev pub Gives : {X : Type 0} → (X → List ℕ) → (X → Type 0) → List ℕ → Result X FileFault → Type 0
Gives text Fits bytes (Ok x) = Fits x × (bytes ≡ text x)
Gives {X} text Fits bytes (Err faults.Text) = (x : X) → Fits x → bytes ≢ text x
Gives text Fits bytes (Err faults.Memory) = Unit {0}

-- so many lines
abbrev pub AreLines : {X : Type 0} → (X → Type 0) → ℕ → List X → Type 0
AreLines Fits count lines = (length lines ≡ count) × AllByRecursion Fits lines

-- lines with a word and their number before them
abbrev pub section_text : {X : Type 0} → List ℕ → (X → List ℕ) → List X → List ℕ
section_text word text lines = word ++ (ended 10 (decimal (length lines)) ++ flat_map text lines)

abbrev pub IsSection : {X : Type 0} → (X → Type 0) → List X → Type 0
IsSection Fits lines = IsSmall (length lines) × AllByRecursion Fits lines

-- a variable whose name is a name of the language
abbrev pub HasName : FileVar → Type 0
HasName variable = Spells kinds.Name variable.name

-- a state and a node whose numbers have 32 bits
abbrev pub IsSmallState : FileState → Type 0
IsSmallState state = IsSmallRef state.next

abbrev pub IsSmallNode : Node → Type 0
IsSmallNode node = IsSmall node.var × IsSmallRef node.low × IsSmallRef node.high
