-- The text of a certificate: lines of fields with single blanks between them, and decimal numbers without leading zeros.
use Rattle.std.specs.Prelude.{◌≡◌, ℕ, ◌+◌, ◌*◌, ◌<◌, ◌^◌, Bool, true, false, List, ◌++◌, codes, length}
use Rattle.std.specs.Fmt.{decimal}
use Rattle.std.specs.List.{AllByRecursion, flat_map}
use Rattle.ms_list.specs.declared.word.Word.{Word}
use Rattle.ms_dfafile.specs.Spelling.{field, line, sign_text}
use Rattle.ms_cert.specs.Certificate.{Tree, lines_of}
use Rattle.ms_cert.specs.declared.cert.Cert.{Cert}
use Rattle.ms_cert.specs.declared.cert.TreeLine.{TreeLine}
use Rattle.ms_cert.specs.declared.cert.TreeLine.TheVariants.{At, By}

abbrev pub bit_text : Bool → List ℕ
bit_text false = codes "0"
bit_text true = codes "1"

-- bits, one directly after the other
abbrev pub bits_text : List Bool → List ℕ
bits_text bits = flat_map bit_text bits

-- a letter, with the blank before it
abbrev pub letter_text : List Bool → List ℕ
letter_text letter = codes " l" ++ bits_text letter

abbrev pub letters_text : List (List Bool) → List ℕ
letters_text letters = flat_map letter_text letters

-- the line of a word: its truth values, and its letters
abbrev pub word_line : Word → List ℕ
word_line word = codes "t" ++ bits_text word.truth ++ line (letters_text word.letters)

-- a line of a tree: a state, or a sign and letters
abbrev pub tree_line : TreeLine → List ℕ
tree_line (At state) = field (codes "at") ++ line (decimal state)
tree_line (By sign letters) = field (codes "by") ++ field (sign_text sign) ++ codes "w" ++ line (letters_text letters)

-- the text of a certificate, line by line
abbrev pub cert_text : Cert → List ℕ
cert_text cert =
    line (codes "monastr-cert 1")
    ++ field (codes "states") ++ line (decimal (length cert.words))
    ++ flat_map word_line cert.words
    ++ flat_map tree_line cert.tree
    ++ line (codes "end")

-- the state of a line has 32 bits
abbrev pub IsSmallLine : TreeLine → Type 0
IsSmallLine (At state) = state < 2 ^ 32
IsSmallLine (By sign letters) = Unit {0}

-- there are words, their number and those of the states have 32 bits, and the lines of the tree spell one tree with as many leaves
pub record IsWhole (cert : Cert) : Type 0 where
  pub some_word : 0 < length cert.words
  pub few_words : length cert.words < 2 ^ 32
  pub small : AllByRecursion IsSmallLine cert.tree
  pub leaves : length cert.tree + 1 ≡ 2 * length cert.words
  pub tree : Tree
  pub spelled : cert.tree ≡ lines_of tree

-- the bytes are the text of the certificate
pub record IsCertText (bytes : List ℕ) (cert : Cert) : Type 0 where
  pub text : bytes ≡ cert_text cert
  pub whole : IsWhole cert
