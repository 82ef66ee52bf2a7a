-- The parts of a text, one behind the other.
use Rattle.std.proofs.Common.{◌≡◌, ◌≢◌, ℕ, ◌*◌, ◌-◌, ◌<◌, List, [], ◌∷◌, ◌++◌, length, codes, Result, Ok, Err, refl, sym, ap, subst, ◌∙◌, arith, append_assoc}
use Rattle.std.specs.Fmt.{decimal}
use Rattle.std.specs.List.{AllByRecursion, flat_map}
use Rattle.std.proofs.lemmas.List.{append_cancel_left}
use Rattle.ms_list.specs.declared.word.Word.{Word}
use Rattle.ms_dfafile.specs.Spelling.{field, line}
use Rattle.ms_dfafile.specs.declared.fault.FileFault.{FileFault}
use Rattle.ms_dfafile.specs.declared.fault.FileFault.TheVariants as faults
use Rattle.ms_dfafile.specs.inner.Reading.{AreLines, BeginsWith, BeginsWithNone, Gives, IsOneForm, IsSmall}
use Rattle.ms_dfafile.proofs.NumberLemmas.{number-one_form}
use Rattle.ms_dfafile.proofs.PairLemmas.{second_fault-given, word-one_form as behind_word-one_form}
use Rattle.ms_dfafile.proofs.ReadingLemmas.{lines-one_form, same_front}
use Rattle.ms_cert.specs.Text.{IsCertText, IsSmallLine, IsWhole, cert_text, tree_line, word_line}
use Rattle.ms_cert.specs.declared.cert.Cert.{Cert}
use Rattle.ms_cert.specs.declared.cert.TreeLine.{TreeLine}
use Rattle.ms_cert.specs.inner.Parts.{AreTables, IsCounted, ending_text, front_text, parts_text, tables_text}
use Rattle.ms_cert.specs.inner.Separation.{SpellTrees}
use Rattle.ms_cert.proofs.LinesLemmas.{tree-one_form, word-one_form}
use Rattle.ms_cert.proofs.TreesLemmas.{one-tree, tree-one}

abbrev AnyWord : Word → Type 0
AnyWord word = Unit {0}

words_fit : (words : List Word) → AllByRecursion AnyWord words
words_fit [] = tt
words_fit (w ∷ words) = (tt, words_fit words)

front-one_form : IsOneForm front_text IsSmall
front-one_form = behind_word-one_form (line (codes "monastr-cert 1") ++ field (codes "states")) (λ n. line (decimal n)) IsSmall (number-one_form 10 refl)

-- no ending is where the lines are and no last line behind them
pub ending-missing : (count : ℕ) (bytes : List ℕ) (tree : List TreeLine) (rest : List ℕ) → BeginsWith (flat_map tree_line) (AreLines IsSmallLine count) bytes tree rest → rest ≢ line (codes "end")
    → Gives ending_text (AreLines IsSmallLine count) bytes (Err faults.Text)
ending-missing count bytes tree rest begins apart =
    let given = second_fault-given (flat_map tree_line) (AreLines IsSmallLine count) (λ (u : Unit {0}). line (codes "end")) (λ u. Unit {0}) (lines-one_form tree_line IsSmallLine tree-one_form count) bytes tree rest begins faults.Text (λ u fits. apart) in
    λ others fits same. given (others, tt) (fits, tt) same

-- a fault of what stands behind the words
pub tables-fault : (count : ℕ) (bytes : List ℕ) (words : List Word) (rest : List ℕ) → BeginsWith (flat_map word_line) (AreLines AnyWord count) bytes words rest → (fault : FileFault) → Gives ending_text (AreLines IsSmallLine (2 * count - 1)) rest (Err fault)
    → Gives tables_text (AreTables count) bytes (Err fault)
tables-fault count bytes words rest begins faults.Text none =
    λ cert fits same.
    none cert.tree fits.1 (same_front (flat_map word_line) (AreLines AnyWord count) (lines-one_form word_line AnyWord word-one_form count) bytes words cert.words rest (ending_text cert.tree) begins fits.0 same).1
tables-fault count bytes words rest begins faults.Memory none = tt

-- no first two lines, none with a number of states, and what stands behind them
pub front-missing : (bytes : List ℕ) → BeginsWithNone front_text IsSmall bytes → Gives parts_text IsCounted bytes (Err faults.Text)
front-missing bytes none cert counted same = none (length cert.words) (tables_text cert) counted.few_words same

module _ (bytes : List ℕ) (count : ℕ) (rest : List ℕ) (begins : BeginsWith front_text IsSmall bytes count rest) where
  own_count : (cert : Cert) → IsCounted cert → bytes ≡ parts_text cert → (count ≡ length cert.words) × (rest ≡ tables_text cert)
  own_count cert counted same = same_front front_text IsSmall front-one_form bytes count (length cert.words) rest (tables_text cert) begins counted.few_words same

  pub no-states : count ≡ 0 → Gives parts_text IsCounted bytes (Err faults.Text)
  no-states none cert counted same = let own = (own_count cert counted same).0 in omega (arith, own, none, counted.some_word)

  pub parts-given : 0 < count → (r : Result Cert FileFault) → Gives tables_text (AreTables count) rest r → Gives parts_text IsCounted bytes r
  parts-given some (Ok cert) tables =
      let long = tables.0.0.0 in (
        record {
          some_word = omega (arith, long, some);
          few_words = subst IsSmall (sym long) begins.fits;
          small = tables.0.1.1;
          leaves = omega (arith, long, some, tables.0.1.0);
        },
        begins.parts ∙ ap (λ (left : List ℕ). front_text count ++ left) tables.1 ∙ ap (λ (n : ℕ). front_text n ++ tables_text cert) (sym long),
      )
  parts-given some (Err faults.Text) none =
      λ cert counted same.
      let own = own_count cert counted same in
      none cert ((sym own.0, words_fit cert.words), (omega (arith, own.0, counted.leaves, some), counted.small)) own.1
  parts-given some (Err faults.Memory) none = tt

-- certificates of one text are one
pub parts-one : (one two : Cert) → IsCounted one → IsCounted two → parts_text one ≡ parts_text two → one ≡ two
parts-one one two counted counted_two same =
    let long : length one.words ≡ length two.words = front-one_form (length one.words) (length two.words) (tables_text one) (tables_text two) counted.few_words counted_two.few_words same in
    let behind : tables_text one ≡ tables_text two = append_cancel_left (front_text (length two.words)) _ _ (subst (λ (n : ℕ). front_text n ++ tables_text one ≡ parts_text two) long same) in
    let words : one.words ≡ two.words = lines-one_form word_line AnyWord word-one_form (length two.words) one.words two.words (ending_text one.tree) (ending_text two.tree) (long, words_fit one.words) (refl, words_fit two.words) behind in
    let endings : ending_text one.tree ≡ ending_text two.tree = append_cancel_left (flat_map word_line two.words) _ _ (subst (λ (ws : List Word). flat_map word_line ws ++ ending_text one.tree ≡ tables_text two) words behind) in
    let leaves : length one.tree ≡ length two.tree = omega (arith, long, counted.leaves, counted_two.leaves) in
    let tree : one.tree ≡ two.tree = lines-one_form tree_line IsSmallLine tree-one_form (length two.tree) one.tree two.tree (line (codes "end")) (line (codes "end")) (leaves, counted.small) (refl, counted_two.small) endings in
    λ i. record { words = words i; tree = tree i }

regroup : (first states count words tree end : List ℕ) → ((first ++ states) ++ count) ++ (words ++ (tree ++ end)) ≡ first ++ states ++ count ++ words ++ tree ++ end
regroup first states count words tree end = simp append_assoc

-- the text of a certificate is that of its parts
pub parts-text : (cert : Cert) → parts_text cert ≡ cert_text cert
parts-text cert = regroup (line (codes "monastr-cert 1")) (field (codes "states")) (line (decimal (length cert.words))) (flat_map word_line cert.words) (flat_map tree_line cert.tree) (line (codes "end"))

pub counted-whole : (cert : Cert) → IsWhole cert → IsCounted cert
counted-whole cert whole = record { some_word = whole.some_word; few_words = whole.few_words; small = whole.small; leaves = whole.leaves }

pub one_cert : (bytes : List ℕ) (one other : Cert) → IsCertText bytes one → IsCertText bytes other → one ≡ other
one_cert bytes one other is is_other =
    parts-one one other (counted-whole one is.whole) (counted-whole other is_other.whole) (parts-text one ∙ sym is.text ∙ is_other.text ∙ sym (parts-text other))

-- what was read is a certificate's text where its lines spell one tree, and of none where they do not
pub read-whole : (bytes : List ℕ) (cert : Cert) → IsCounted cert × (bytes ≡ parts_text cert) → SpellTrees 1 cert.tree → IsCertText bytes cert
read-whole bytes cert read spell =
    let tree = one-tree cert.tree spell in
    record {
      text = read.1 ∙ parts-text cert;
      whole = record { some_word = read.0.some_word; few_words = read.0.few_words; small = read.0.small; leaves = read.0.leaves; tree = tree.0; spelled = tree.1 };
    }

pub read-no_tree : (bytes : List ℕ) (cert other : Cert) → IsCounted cert × (bytes ≡ parts_text cert) → ¬ SpellTrees 1 cert.tree → ¬ IsCertText bytes other
read-no_tree bytes cert other read none is =
    let same : cert ≡ other = parts-one cert other read.0 (counted-whole other is.whole) (sym read.1 ∙ is.text ∙ sym (parts-text other)) in
    none (tree-one cert.tree is.whole.tree (ap (λ (c : Cert). c.tree) same ∙ is.whole.spelled))

pub read-none : (bytes : List ℕ) (fault : FileFault) → Gives parts_text IsCounted bytes (Err fault) → fault ≡ faults.Text → (cert : Cert) → ¬ IsCertText bytes cert
read-none bytes faults.Text none is_text cert is = none cert (counted-whole cert is.whole) (is.text ∙ sym (parts-text cert))
read-none bytes faults.Memory none is_text cert is = cc
