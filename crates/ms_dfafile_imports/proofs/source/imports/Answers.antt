use Rattle.std.proofs.Common.{sym, ◌∙◌, subst, arith}
use Rattle.std.proofs.lemmas.List.{take_all}
use Rattle.indexmap.specs.IndexMap.{get_by_text}
use Rattle.ms_dfafile_imports.specs.inner.Taken.{AreHeld, AreTaken}
use Rattle.ms_dfafile_imports.proofs.Later.{later-read}
use Rattle.ms_dfafile_imports.proofs.Takings.{refused-at, taken-imported, taken-next}
use Rattle.ms_dfafile_imports.proofs.source.imports.Goals as goal

pub take-requires-clause-held : goal.take-requires-clause-held
take-requires-clause-held g c = subst (λ held. AreHeld held (λ n. get_by_text c.loop-used.taking.contents n)) (sym c.loop-used.invariant.2.held) c.loop-used.invariant.3

pub returns-in-Err-clause-refused : goal.returns-in-Err-clause-refused
returns-in-Err-clause-refused g c =
    refused-at (g.F.Files.told c.args.files.now) (g.F.Files.told c.loop-used.files) (g.F.Files.told c.take.new.files) c.args.checked.now.mode c.loop-used.taking.mode c.args.limit c.loop-used.taking.limit
    (λ n. get_by_text c.loop-used.taking.contents n) c.args.checked.now.imports c.slice-used-items.result.now c.loop-used.used-index c.used-item.result c.loop-used.taking.automata c.in-Err.refusal
    c.slice-used-items.ensures c.loop-used.invariant.0 c.loop-used.invariant.1 c.loop-used.invariant.2 c.loop-used.invariant.3 (omega arith) c.used-item.is c.loop-used.invariant.4 c.in-Err.ensures.refused

pub loop-used-preserved : goal.loop-used-preserved
loop-used-preserved g c = (
  c.in_default.ensures.mode ∙ c.loop-used.invariant.0,
  c.in_default.ensures.limit ∙ c.loop-used.invariant.1,
  later-read (g.F.Files.told c.args.files.now) (g.F.Files.told c.loop-used.files) (g.F.Files.told c.take.new.files) c.loop-used.invariant.2 c.in_default.ensures.only_read,
  subst (λ held. AreHeld held (λ n. get_by_text c.take.new.self.contents n)) c.loop-used.invariant.2.held c.in_default.ensures.held,
  taken-next c.args.limit c.loop-used.taking.limit c.args.checked.now.mode c.loop-used.taking.mode (λ n. get_by_text c.loop-used.taking.contents n) (λ n. get_by_text c.take.new.self.contents n) c.slice-used-items.result.now c.loop-used.used-index c.used-item.result
      c.loop-used.taking.automata c.take.new.self.automata c.loop-used.invariant.1 c.loop-used.invariant.0 c.in_default.ensures.kept (omega arith) c.used-item.is c.loop-used.invariant.4 c.in_default.ensures.taken,
)

pub returns-clause-imported : goal.returns-clause-imported
returns-clause-imported g c =
    taken-imported c.args.limit (g.F.Files.told c.args.files.now).held c.args.checked.now.mode (λ n. get_by_text c.loop-used.taking.contents n) c.args.checked.now.imports c.loop-used.taking.automata c.loop-used.invariant.3
    (subst (λ uses. AreTaken c.args.limit c.args.checked.now.mode (λ n. get_by_text c.loop-used.taking.contents n) uses c.loop-used.taking.automata)
    (take_all c.loop-used.used-index c.slice-used-items.result.now (omega arith) ∙ c.slice-used-items.ensures) c.loop-used.invariant.4)
