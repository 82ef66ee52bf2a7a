use Rattle.std.proofs.Common.{[], ◌∷◌, inl, inr, refl, arith}
use Rattle.ms_include.specs.inner.Examples.{mark, include, plain}
use Rattle.ms_include.specs.inner.Examples as files
use Rattle.ms_include.proofs.examples.example_loads.Goals as goal

pub returns-clause-one_file : goal.returns-clause-one_file
returns-clause-one_file c = record {
  source = plain (mark 1 ∷ mark 2 ∷ []);
  is = refl;
  mode = refl;
  items = (files.a ∷ [], mark 1 ∷ [], mark 2 ∷ [], (refl, refl), (files.a ∷ [], mark 2 ∷ [], [], (refl, refl), (refl, refl), refl), refl);
}

pub returns-clause-in_place : goal.returns-clause-in_place
returns-clause-in_place c = record {
  source = plain (mark 1 ∷ include 0 20 files.b ∷ mark 2 ∷ include 0 60 files.b ∷ mark 3 ∷ []);
  is = refl;
  mode = refl;
  items = (files.a ∷ [], mark 1 ∷ [], mark 7 ∷ mark 8 ∷ mark 2 ∷ mark 3 ∷ [], (refl, refl), (files.a ∷ files.b ∷ [], mark 7 ∷ mark 8 ∷ [], mark 2 ∷ mark 3 ∷ [], inr (refl, (plain (mark 7 ∷ mark 8 ∷ []), omega arith, refl, refl, (files.a ∷ files.b ∷ [], mark 7 ∷ [], mark 8 ∷ [], (refl, refl), (files.a ∷ files.b ∷ [], mark 8 ∷ [], [], (refl, refl), (refl, refl), refl), refl))), (files.a ∷ files.b ∷ [], mark 2 ∷ [], mark 3 ∷ [], (refl, refl), (files.a ∷ files.b ∷ [], [], mark 3 ∷ [], inl ((refl, refl), refl, refl), (files.a ∷ files.b ∷ [], mark 3 ∷ [], [], (refl, refl), (refl, refl), refl), refl), refl), refl), refl);
}

pub returns-clause-shared : goal.returns-clause-shared
returns-clause-shared c = record {
  source = plain (include 0 0 files.b ∷ include 0 13 files.c ∷ []);
  is = refl;
  mode = refl;
  items = (files.a ∷ files.b ∷ files.d ∷ [], mark 3 ∷ mark 1 ∷ [], mark 2 ∷ [], inr (refl, (plain (include 1 0 files.d ∷ mark 1 ∷ []), omega arith, refl, refl, (files.a ∷ files.b ∷ files.d ∷ [], mark 3 ∷ [], mark 1 ∷ [], inr (refl, (plain (mark 3 ∷ []), omega arith, refl, refl, (files.a ∷ files.b ∷ files.d ∷ [], mark 3 ∷ [], [], (refl, refl), (refl, refl), refl))), (files.a ∷ files.b ∷ files.d ∷ [], mark 1 ∷ [], [], (refl, refl), (refl, refl), refl), refl))), (files.a ∷ files.b ∷ files.d ∷ files.c ∷ [], mark 2 ∷ [], [], inr (refl, (plain (include 3 0 files.d ∷ mark 2 ∷ []), omega arith, refl, refl, (files.a ∷ files.b ∷ files.d ∷ files.c ∷ [], [], mark 2 ∷ [], inl ((refl, refl), refl, refl), (files.a ∷ files.b ∷ files.d ∷ files.c ∷ [], mark 2 ∷ [], [], (refl, refl), (refl, refl), refl), refl))), (refl, refl), refl), refl);
}

pub returns-clause-goals : goal.returns-clause-goals
returns-clause-goals c = record {
  source = plain (include 0 0 files.b ∷ files.goal 0 13 files.c ∷ []);
  is = refl;
  mode = refl;
  items = (
    files.a ∷ files.b ∷ [],
    files.goal 1 0 files.d ∷ [],
    files.goal 0 13 files.c ∷ [],
    inr (refl, (plain (files.goal 1 0 files.d ∷ []), omega arith, refl, refl, (files.a ∷ files.b ∷ [], files.goal 1 0 files.d ∷ [], [], (refl, refl), (refl, refl), refl))),
    (files.a ∷ files.b ∷ [], files.goal 0 13 files.c ∷ [], [], (refl, refl), (refl, refl), refl),
    refl,
  );
}
