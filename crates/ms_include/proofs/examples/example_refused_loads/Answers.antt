use Rattle.std.proofs.Common.{[], ◌∷◌, inl, inr, refl, arith}
use Rattle.ms_include.specs.inner.Examples.{mark, include, plain, headed}
use Rattle.ms_include.specs.inner.Examples as files
use Rattle.ms_include.proofs.examples.example_refused_loads.Goals as goal

pub returns-clause-cycle : goal.returns-clause-cycle
returns-clause-cycle c = inr (inr (
  plain (include 0 0 files.b ∷ []),
  refl,
  inl (inr (
    refl,
    inr (
      omega arith,
      inr (inr (
        plain (mark 1 ∷ include 1 13 files.c ∷ []),
        refl,
        inr (
          refl,
          inr (
            files.a ∷ files.b ∷ [],
            mark 1 ∷ [],
            (refl, refl),
            inl (inr (
              refl,
              inr (
                omega arith,
                inr (inr (
                  plain (include 2 0 files.a ∷ []),
                  refl,
                  inr (refl, inl (inl (refl, refl, refl))),
                )),
              ),
            )),
          ),
        ),
      )),
    ),
  )),
))

pub returns-clause-first : goal.returns-clause-first
returns-clause-first c = inr (inr (
  plain (include 0 0 files.b ∷ include 0 13 files.d ∷ []),
  refl,
  inl (inr (
    refl,
    inr (
      omega arith,
      inr (inr (
        plain (mark 1 ∷ include 1 9 files.c ∷ []),
        refl,
        inr (
          refl,
          inr (
            files.a ∷ files.b ∷ [],
            mark 1 ∷ [],
            (refl, refl),
            inl (inr (
              refl,
              inr (
                omega arith,
                inr (inr (
                  headed 2 [],
                  refl,
                  inl (refl, refl),
                )),
              ),
            )),
          ),
        ),
      )),
    ),
  )),
))
