-- Trees that lines spell, one after the other.
use Rattle.std.proofs.Common.{◌≡◌, ℕ, zero, suc, List, [], ◌∷◌, ◌++◌, refl, sym, ap, subst, ◌∙◌, append_assoc}
use Rattle.std.proofs.lemmas.List.{append-nil}
use Rattle.ms_dfa.specs.declared.plain.FileSign.{FileSign}
use Rattle.ms_cert.specs.Certificate.{Tree, branch, leaf, lines_of}
use Rattle.ms_cert.specs.declared.cert.TreeLine.{TreeLine}
use Rattle.ms_cert.specs.declared.cert.TreeLine.TheVariants.{At, By}
use Rattle.ms_cert.specs.inner.Separation.{SpellTrees}
use Rattle.ms_cert.proofs.SeparationLemmas.{some-line}
use Rattle.std.proofs.Common.{Bool}

-- a leaf is one tree
pub leaf-to : (count state : ℕ) (rest : List TreeLine) → SpellTrees (suc count) (At state ∷ rest) → SpellTrees count rest
leaf-to count state rest spell = by_tree spell.0 spell.1 spell.2 spell.3
  where
    by_tree : (tree : Tree) (behind : List TreeLine) → At state ∷ rest ≡ lines_of tree ++ behind → SpellTrees count behind → SpellTrees count rest
    by_tree (leaf own) behind same others = let left : behind ≡ rest = cc in subst (SpellTrees count) left others
    by_tree (branch sign letters one other) behind same others = cc

pub leaf-from : (count state : ℕ) (rest : List TreeLine) → SpellTrees count rest → SpellTrees (suc count) (At state ∷ rest)
leaf-from count state rest spell = (leaf state, rest, refl, spell)

-- a branch is one with two trees behind its line
pub branch-to : (count : ℕ) (sign : FileSign) (letters : List (List Bool)) (rest : List TreeLine) → SpellTrees (suc count) (By sign letters ∷ rest) → SpellTrees (suc (suc count)) rest
branch-to count sign letters rest spell = by_tree spell.0 spell.1 spell.2 spell.3
  where
    by_tree : (tree : Tree) (behind : List TreeLine) → By sign letters ∷ rest ≡ lines_of tree ++ behind → SpellTrees count behind → SpellTrees (suc (suc count)) rest
    by_tree (leaf own) behind same others = cc
    by_tree (branch own word one other) behind same others =
        let left : rest ≡ (lines_of one ++ lines_of other) ++ behind = cc in
        (one, lines_of other ++ behind, left ∙ append_assoc (lines_of one) (lines_of other) behind, (other, behind, refl, others))

pub branch-from : (count : ℕ) (sign : FileSign) (letters : List (List Bool)) (rest : List TreeLine) → SpellTrees (suc (suc count)) rest → SpellTrees (suc count) (By sign letters ∷ rest)
branch-from count sign letters rest spell =
    let second = spell.3 in
    let lines = spell.2 ∙ ap (λ (left : List TreeLine). lines_of spell.0 ++ left) second.2 ∙ sym (append_assoc (lines_of spell.0) (lines_of second.0) second.1) in
    (branch sign letters spell.0 second.0, second.1, ap (λ (left : List TreeLine). By sign letters ∷ left) lines, second.3)

-- without a line no tree is spelled
pub no-tree : (count : ℕ) → SpellTrees count [] → count ≡ 0
no-tree zero spell = refl
no-tree (suc count) spell = absurd (some-line spell.0 spell.1 (sym spell.2))

-- one tree alone
pub one-tree : (lines : List TreeLine) → SpellTrees 1 lines → (tree : Tree) × (lines ≡ lines_of tree)
one-tree lines spell = (spell.0, spell.2 ∙ ap (λ (left : List TreeLine). lines_of spell.0 ++ left) spell.3 ∙ append-nil (lines_of spell.0))

pub tree-one : (lines : List TreeLine) (tree : Tree) → lines ≡ lines_of tree → SpellTrees 1 lines
tree-one lines tree spelled = (tree, [], spelled ∙ sym (append-nil (lines_of tree)), refl)
