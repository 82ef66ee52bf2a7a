-- The examples that are worked by hand.
use Rattle.std.proofs.Common.{false, true, ◌≡◌, codes, refl}
use Rattle.std.proofs.lemmas.Bool.{false≢true}
use Rattle.ms_text.specs.declared.keyword.Keyword.TheVariants as words
use Rattle.ms_names_checked.specs.Spellings.{DeclaresNames, IsName}
use Rattle.ms_names_checked.proofs.Worked.{spelled}
use Rattle.ms_include_laws.specs.inner.spellings.Examples.{declares, imports}

x-is-name : IsName (codes "X")
x-is-name = spelled.globals.0

pub name : DeclaresNames (declares (codes "X"))
name = (tt, x-is-name, tt)

pub word-refused : DeclaresNames (declares (codes "where")) → ⊥
word-refused h = h.1.1 (words.Where, refl)

pub nothing-refused : DeclaresNames (declares (codes "")) → ⊥
nothing-refused h = let start : false ≡ true = h.1.0 in false≢true start

pub import : DeclaresNames (imports (codes "X"))
import = (x-is-name, tt)

pub import-of-word-refused : DeclaresNames (imports (codes "where")) → ⊥
import-of-word-refused h = h.0.1 (words.Where, refl)
