use Rattle.std.proofs.Common.{List, subst, sym, ◌∙◌}
use Rattle.std.proofs.lemmas.Bool.{false≢true}
use Rattle.ms_cert.specs.inner.Separation.{SpellTrees}
use Rattle.ms_cert.specs.declared.cert.TreeLine.{TreeLine}
use Rattle.ms_cert.proofs.PartsLemmas.{read-no_tree, read-none, read-whole}
use Rattle.ms_cert.proofs.reading.read_cert.Goals as goal

pub returns-in-Err-clause-none : goal.returns-in-Err-clause-none
returns-in-Err-clause-none c = λ is_text. read-none c.args.bytes.now c.in-Err.fault c.in-Err.ensures cc

pub returns-then-not-is_one_tree-clause-none : goal.returns-then-not-is_one_tree-clause-none
returns-then-not-is_one_tree-clause-none c =
    λ is_text other.
    read-no_tree c.args.bytes.now c.in-Ok.cert other c.in-Ok.ensures (λ spell. false≢true (sym c.if-not-is_one_tree.true ∙ c.is_one_tree.ensures.1 (subst (λ (lines : List TreeLine). SpellTrees 1 lines) (sym c.slice.ensures) spell)))

pub returns-clause-cert : goal.returns-clause-cert
returns-clause-cert c =
    read-whole c.args.bytes.now c.in-Ok.cert c.in-Ok.ensures (subst (λ (lines : List TreeLine). SpellTrees 1 lines) c.slice.ensures (c.is_one_tree.ensures.0 c.if-not-is_one_tree.false))
