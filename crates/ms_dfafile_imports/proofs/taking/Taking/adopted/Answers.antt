use Rattle.std.proofs.Common.{◌≡◌, ◌⊎◌, inl, inr, ⊎_elim, length, subst, sym}
use Rattle.ms_edge.specs.declared.refusal.Refusal.TheVariants.{Memory}
use Rattle.ms_dfafile_imports.specs.inner.Taken.{refused_at}
use Rattle.ms_dfafile_imports.proofs.Takings.{not-taken}
use Rattle.ms_dfafile_imports.proofs.taking.Taking.adopted.Goals as goal

pub adopt-requires-clause-file : goal.adopt-requires-clause-file
adopt-requires-clause-file c = c.requires.file c.in-Some.plain.now (sym c.in-Some.ensures)

pub returns-in-Err-clause-refused : goal.returns-in-Err-clause-refused
returns-in-Err-clause-refused c =
    let refusal = c.in-Err.refusal in
    let at = subst (λ place. (c.at_import.result ≡ Memory) ⊎ (c.at_import.result ≡ refused_at place refusal)) c.len.ensures c.at_import.ensures in
    ⊎_elim inl (λ not. inr (c.in-Some.plain.now, sym c.in-Some.ensures, not))
    (not-taken c.in-Some.plain.now c.args.used.now c.args.self.now.mode c.args.self.now.limit (length c.args.self.now.automata) refusal c.at_import.result (c.requires.file c.in-Some.plain.now (sym c.in-Some.ensures)) c.requires.different c.in-Err.ensures.refused at)
