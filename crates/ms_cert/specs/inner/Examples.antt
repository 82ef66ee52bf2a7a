-- Certificates for worked examples, of the file of P sub Q.
use Rattle.std.specs.Prelude.{ℕ, Bool, true, false, List, [], ◌∷◌, ◌++◌, codes}
use Rattle.ms_list.specs.declared.word.Word.{Word}
use Rattle.ms_dfa.specs.declared.plain.FileSign.TheVariants.{Plus}
use Rattle.ms_dfafile.specs.Spelling.{line}
use Rattle.ms_cert.specs.declared.cert.Cert.{Cert}
use Rattle.ms_cert.specs.declared.cert.TreeLine.TheVariants.{At, By}

-- a word without truth values
abbrev pub word_with : List (List Bool) → Word
word_with letters = record { truth = []; letters = letters }

-- the empty word, and a word for the second state; the empty word leads to `+` from the first state alone
abbrev pub cert_with : List (List Bool) → Cert
cert_with letters = record { words = word_with [] ∷ word_with letters ∷ []; tree = By Plus [] ∷ At 0 ∷ At 1 ∷ [] }

-- the letter with P and without Q
abbrev pub cert : Cert
cert = cert_with ((true ∷ false ∷ []) ∷ [])

abbrev pub cert_bytes : List ℕ
cert_bytes =
    line (codes "monastr-cert 1") ++ line (codes "states 2")
    ++ line (codes "t") ++ line (codes "t l10")
    ++ line (codes "by + w") ++ line (codes "at 0") ++ line (codes "at 1")
    ++ line (codes "end")

-- a word that leads to the first state, one that is longer than need be, and a tree with its states turned round
abbrev pub other_state : Cert
other_state = cert_with ((true ∷ true ∷ []) ∷ [])

abbrev pub too_long : Cert
too_long = cert_with ((false ∷ false ∷ []) ∷ (true ∷ false ∷ []) ∷ [])

abbrev pub turned_round : Cert
turned_round = record cert { tree = By Plus [] ∷ At 1 ∷ At 0 ∷ [] }
