-- A certificate that certifies a file is whole.
use Rattle.std.proofs.Common.{◌≡◌, ℕ, ◌+◌, ◌*◌, ◌<◌, ◌^◌, not, List, filter, length, length-append, refl, sym, ap, subst, arith}
use Rattle.std.specs.List.{AllByRecursion}
use Rattle.ms_dfa.specs.Files.{content_of_file}
use Rattle.ms_dfa.specs.declared.plain.FileSign.{FileSign}
use Rattle.ms_dfa.specs.declared.plain.Plain.{Plain}
use Rattle.ms_dfafile.specs.File.{IsFile}
use Rattle.ms_logic.specs.FiniteSet.{numbers_below}
use Rattle.ms_logic_words.specs.Content.{Content}
use Rattle.ms_dfafile_outside.proofs.FileLemmas.{length-states}
use Rattle.ms_cert.specs.Certificate.{IsCertified, Separates, Tree, branch, ends_in, leaf, lines_of}
use Rattle.ms_cert.specs.Text.{IsSmallLine, IsWhole}
use Rattle.ms_cert.specs.declared.cert.Cert.{Cert}
use Rattle.ms_cert.specs.inner.Partition.{IsIn}
use Rattle.ms_cert.proofs.GrowingLemmas.{all-join, length-sides}
use Rattle.ms_cert.proofs.MemberLemmas.{in-filter, number-below}
use Rattle.std.proofs.lemmas.List.FromFn.{length-range_with_len}

module _ (content : Content FileSign) where
  -- a tree has two lines for each state that it separates, but for one
  lines-twice : (tree : Tree) (states : List ℕ) → Separates content tree states → length (lines_of tree) + 1 ≡ 2 * length states
  lines-twice (leaf state) states separates = let one = ap length separates in omega (arith, one)
  lines-twice (branch sign letters one other) states separates =
      let test = ends_in content sign letters in
      let first = lines-twice one (filter test states) separates.0 in
      let second = lines-twice other (filter (λ s. not (test s)) states) separates.1 in
      omega (arith, first, second, length-sides test states, length-append (lines_of one) (lines_of other))

  -- and names these states alone
  lines-small : (tree : Tree) (states : List ℕ) → Separates content tree states → ((state : ℕ) → IsIn states state → state < 2 ^ 32) → AllByRecursion IsSmallLine (lines_of tree)
  lines-small (leaf state) states separates small = (small state (subst (λ (s : List ℕ). IsIn s state) (sym separates) (0, refl)), tt)
  lines-small (branch sign letters one other) states separates small =
      let test = ends_in content sign letters in (
        tt,
        all-join IsSmallLine (lines_of one) (lines_of other)
            (lines-small one (filter test states) separates.0 (λ state there. small state (in-filter test states state there.0 there.1).0))
            (lines-small other (filter (λ s. not (test s)) states) separates.1 (λ state there. small state (in-filter (λ s. not (test s)) states state there.0 there.1).0)),
      )

pub certified-whole : (plain : Plain) (cert : Cert) → IsFile plain → IsCertified plain cert → IsWhole cert
certified-whole plain cert file certified =
    let content = content_of_file plain in
    let count = certified.words.count in
    let long = length-states plain in
    let some = file.content.some_state in
    let few = file.few_states in
    let tree = certified.tree.tree in
    let all = numbers_below (length content.states) in
    let lines = ap length certified.tree.spelled in
    let twice = lines-twice content tree all certified.tree.separates in
    record {
      some_word = omega (arith, count, some);
      few_words = omega (arith, count, long, few);
      small = subst (AllByRecursion IsSmallLine) (sym certified.tree.spelled) (lines-small content tree all certified.tree.separates (λ state there. let less = number-below (length content.states) state there in omega (arith, less, long, few)));
      leaves = omega (arith, lines, twice, count, length-range_with_len 0 (length content.states));
      tree = tree;
      spelled = certified.tree.spelled;
    }
