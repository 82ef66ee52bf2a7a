-- The parts of a text as they are read, one behind the other. Only the contracts and proofs inside this crate cite it.
use Rattle.std.specs.Prelude.{◌≡◌, ℕ, ◌+◌, ◌*◌, ◌-◌, ◌<◌, ◌^◌, List, ◌++◌, codes, length}
use Rattle.std.specs.Fmt.{decimal}
use Rattle.std.specs.List.{AllByRecursion, flat_map}
use Rattle.ms_dfafile.specs.Spelling.{field, line}
use Rattle.ms_dfafile.specs.inner.Reading.{AreLines}
use Rattle.ms_cert.specs.Text.{IsSmallLine, tree_line, word_line}
use Rattle.ms_cert.specs.declared.cert.Cert.{Cert}
use Rattle.ms_cert.specs.declared.cert.TreeLine.{TreeLine}

-- the first two lines
abbrev pub front_text : ℕ → List ℕ
front_text count = (line (codes "monastr-cert 1") ++ field (codes "states")) ++ line (decimal count)

-- the lines of a tree and the last line
abbrev pub ending_text : List TreeLine → List ℕ
ending_text tree = flat_map tree_line tree ++ line (codes "end")

abbrev pub tables_text : Cert → List ℕ
tables_text cert = flat_map word_line cert.words ++ ending_text cert.tree

abbrev pub parts_text : Cert → List ℕ
parts_text cert = front_text (length cert.words) ++ tables_text cert

-- so many words, and the lines of a tree with as many leaves
abbrev pub AreTables : ℕ → Cert → Type 0
AreTables count cert = AreLines (λ word. Unit {0}) count cert.words × AreLines IsSmallLine (2 * count - 1) cert.tree

-- there are words, their number and those of the states have 32 bits, and the tree has as many leaves
pub record IsCounted (cert : Cert) : Type 0 where
  pub some_word : 0 < length cert.words
  pub few_words : length cert.words < 2 ^ 32
  pub small : AllByRecursion IsSmallLine cert.tree
  pub leaves : length cert.tree + 1 ≡ 2 * length cert.words
