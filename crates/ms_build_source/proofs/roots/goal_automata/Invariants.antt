use Rattle.std.proofs.Common.{◌≡◌, ◌+◌, ℕ, length, slice_get, Some}
use Rattle.ms_build.specs.Built.{IsWithin}
use Rattle.ms_build.specs.Roots.{IsRootAt}
use Rattle.ms_logic_words.specs.declared.sign.Sign.{Sign}
use Rattle.ms_logic_words.specs.Content.{Content}
use Rattle.ms_build_source.proofs.roots.goal_automata.Given as goal

-- the automata so far are those of the roots before this one
abbrev pub invariant-loop-root : goal.invariant-loop-root
invariant-loop-root l = record {
  all : l.exports + 1 + length l.automata ≡ l.root;
  each :
      (place : ℕ) (content : Content Sign) → slice_get l.automata place ≡ Some content
      → IsRootAt l.built.plan (l.exports + 1 + place) content × IsWithin l.limit content;
}
