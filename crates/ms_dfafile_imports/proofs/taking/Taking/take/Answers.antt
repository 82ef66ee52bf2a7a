use Rattle.std.proofs.Common.{inl, inr, ⊎_elim}
use Rattle.ms_dfafile_imports.proofs.taking.Taking.take.Goals as goal

pub adopted-requires-clause-file : goal.adopted-requires-clause-file
adopted-requires-clause-file g c = λ plain is. (c.in_default.ensures.held c.args.used.now.name plain is).spelled.rules

pub returns-in-Err-adopted-clause-refused : goal.returns-in-Err-adopted-clause-refused
returns-in-Err-adopted-clause-refused g c =
    ⊎_elim inl (λ known. inr (inr (inr (known.0, c.in_default.ensures.held c.args.used.now.name known.0 known.1, known.2)))) c.in-Err-adopted.ensures.refused
