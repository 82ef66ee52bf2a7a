-- Lines of words and lines of trees, each of which is found in one way.
use Rattle.std.proofs.Common.{◌≡◌, ℕ, Bool, List, [], ◌∷◌, ◌++◌, get_or, codes, Err, refl, sym, ap, subst, ◌∙◌, arith, append_assoc}
use Rattle.std.specs.Fmt.{decimal}
use Rattle.std.proofs.lemmas.List.{append_cancel_left}
use Rattle.ms_list.specs.declared.word.Word.{Word}
use Rattle.ms_dfa.specs.declared.plain.FileSign.{FileSign}
use Rattle.ms_dfafile.specs.Spelling.{field, line, sign_text}
use Rattle.ms_dfafile.specs.declared.fault.FileFault.{FileFault}
use Rattle.ms_dfafile.specs.declared.fault.FileFault.TheVariants as faults
use Rattle.ms_dfafile.specs.inner.Reading.{Finds, IsOneForm}
use Rattle.ms_dfafile.proofs.LineLemmas.{sign-one_form}
use Rattle.ms_dfafile.proofs.NumberLemmas.{number-one_form}
use Rattle.ms_cert.specs.Text.{IsSmallLine, bits_text, letters_text, tree_line, word_line}
use Rattle.ms_cert.specs.declared.cert.TreeLine.TheVariants.{At, By}
use Rattle.ms_cert.specs.inner.Reading.{AreBits}
use Rattle.ms_cert.proofs.LettersLemmas.{bits-one, letters-one, stops-letters}

first_byte : (one two : List ℕ) → one ≡ two → get_or one 0 0 ≡ get_or two 0 0
first_byte one two same = ap (λ (bytes : List ℕ). get_or bytes 0 0) same

-- the last letters of a line
abbrev pub last_text : List (List Bool) → List ℕ
last_text letters = line (letters_text letters)

last-parts : (letters : List (List Bool)) (rest : List ℕ) → last_text letters ++ rest ≡ letters_text letters ++ 10 ∷ rest
last-parts letters rest = append_assoc (letters_text letters) (10 ∷ []) rest

last-one_form : IsOneForm last_text (λ _. Unit {0})
last-one_form one two rest other fits suits same = (letters-one one two rest other (sym (last-parts one rest) ∙ same ∙ last-parts two other)).0

word-parts : (word : Word) (rest : List ℕ) → word_line word ++ rest ≡ codes "t" ++ (bits_text word.truth ++ (letters_text word.letters ++ 10 ∷ rest))
word-parts word rest =
    append_assoc (codes "t" ++ bits_text word.truth) (last_text word.letters) rest
    ∙ append_assoc (codes "t") (bits_text word.truth) (last_text word.letters ++ rest)
    ∙ ap (λ (left : List ℕ). codes "t" ++ (bits_text word.truth ++ left)) (last-parts word.letters rest)

pub word-one_form : IsOneForm word_line (λ _. Unit {0})
word-one_form one two rest other fits suits same =
    let whole = append_cancel_left (codes "t") _ _ (sym (word-parts one rest) ∙ same ∙ word-parts two other) in
    let first = bits-one one.truth two.truth (letters_text one.letters ++ 10 ∷ rest) (letters_text two.letters ++ 10 ∷ other) (stops-letters one.letters rest) (stops-letters two.letters other) whole in
    let others = letters-one one.letters two.letters rest other first.1 in
    λ i. record { truth = first.0 i; letters = others.0 i }

-- what tells of the letters behind the truth values tells of the word in front
pub word-told : (bytes rest : List ℕ) (truth : List Bool) (after : List ℕ) → bytes ≡ codes "t" ++ rest → AreBits rest truth after → (fault : FileFault) → Finds last_text (λ _. Unit {0}) after (Err fault) → Finds word_line (λ _. Unit {0}) bytes (Err fault)
word-told bytes rest truth after begins bits faults.Text none =
    λ word other fits same.
    let whole = append_cancel_left (codes "t") _ _ (sym begins ∙ same ∙ word-parts word other) in
    let first = bits-one truth word.truth after (letters_text word.letters ++ 10 ∷ other) bits.stop (stops-letters word.letters other) (sym bits.parts ∙ whole) in
    none word.letters other tt (first.1 ∙ sym (last-parts word.letters other))
word-told bytes rest truth after begins bits faults.Memory none = tt

-- the parts of both lines of a tree
at-parts : (state : ℕ) (rest : List ℕ) → tree_line (At state) ++ rest ≡ field (codes "at") ++ (line (decimal state) ++ rest)
at-parts state rest = append_assoc (field (codes "at")) (line (decimal state)) rest

by-parts : (sign : FileSign) (letters : List (List Bool)) (rest : List ℕ) → tree_line (By sign letters) ++ rest ≡ field (codes "by") ++ (field (sign_text sign) ++ (codes "w" ++ (last_text letters ++ rest)))
by-parts sign letters rest =
    append_assoc (field (codes "by") ++ field (sign_text sign) ++ codes "w") (last_text letters) rest
    ∙ append_assoc (field (codes "by") ++ field (sign_text sign)) (codes "w") (last_text letters ++ rest)
    ∙ append_assoc (field (codes "by")) (field (sign_text sign)) (codes "w" ++ (last_text letters ++ rest))

pub tree-one_form : IsOneForm tree_line IsSmallLine
tree-one_form (At one) (At two) rest other fits suits same =
    ap At (number-one_form 10 refl one two rest other fits suits (append_cancel_left (field (codes "at")) _ _ (sym (at-parts one rest) ∙ same ∙ at-parts two other)))
tree-one_form (At one) (By sign letters) rest other fits suits same = absurd (omega (arith, first_byte _ _ same))
tree-one_form (By sign letters) (At two) rest other fits suits same = absurd (omega (arith, first_byte _ _ same))
tree-one_form (By sign letters) (By own word) rest other fits suits same =
    let whole = append_cancel_left (field (codes "by")) _ _ (sym (by-parts sign letters rest) ∙ same ∙ by-parts own word other) in
    let first : sign ≡ own = sign-one_form sign own (codes "w" ++ (last_text letters ++ rest)) (codes "w" ++ (last_text word ++ other)) tt tt whole in
    let behind = append_cancel_left (field (sign_text own)) _ _ (subst (λ (s : FileSign). field (sign_text s) ++ (codes "w" ++ (last_text letters ++ rest)) ≡ field (sign_text own) ++ (codes "w" ++ (last_text word ++ other))) first whole) in
    let others = last-one_form letters word rest other tt tt (append_cancel_left (codes "w") _ _ behind) in
    λ i. By (first i) (others i)

-- what the sign and the letters of a branch tell of its line
abbrev pub sign_field : FileSign → List ℕ
sign_field sign = field (sign_text sign)
