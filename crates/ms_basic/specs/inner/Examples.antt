-- An assignment for worked examples.
use Rattle.std.specs.Prelude.{◌==◌, true, if◌then◌else◌, [], ◌∷◌, Some}
use Rattle.ms_logic.specs.Assignment.{Env}

-- on a string of four letters, the number 9 is 2, the set 4 has 0 and 2 as members, and every other number is 3
abbrev pub on_four_letters : Env
on_four_letters = record {
  universe = Some 4;
  truth = λ a. true;
  number = λ x. if x == 9 then 2 else 3;
  set = λ s. if s == 4 then 0 ∷ 2 ∷ [] else [];
}
