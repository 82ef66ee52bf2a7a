-- The examples of what can be done, worked by hand.
use Rattle.std.proofs.Common.{◌≡◌, ℕ, ◌≤◌, inl, inr, List, [], ◌∷◌, Some, None, refl, arith}
use Rattle.std.proofs.lemmas.Option.{none-some}
use Rattle.std.specs.Prelude.{codes}
use Rattle.ms_edge.specs.Counts.{Rose}
use Rattle.ms_edge.specs.Files.{Holding}
use Rattle.ms_gen.specs.Generated.{IsNumber}
use Rattle.ms_logic.specs.declared.source.Source.{Source}
use Rattle.ms_include.specs.File.{ReadAs}
use Rattle.ms_app.specs.Completeness.{CanBeSolved, NothingFailed}
use Rattle.ms_app.specs.inner.CompletenessExamples.{empty_files, no_files, nothing_checked, nothing_loaded, silent_files, sink_after, still}
use Rattle.ms_app.specs.Source.{file_of}

abbrev nothing : Source
nothing = record { header = None; items = [] }

never_cons : {A : Type 0} (x : A) (xs : List A) → [] ≡ x ∷ xs → ⊥
never_cons x xs same = cc

reads_nothing : ReadAs 0 [] nothing
reads_nothing = record {
  tokens = [];
  are_tokens = ([], tt, refl);
  reads = record { read = ([], (refl, λ at f header. never_cons _ _ header.3.1), refl); declarations = tt };
}

pub empty_file : (outs : List (List ℕ)) → CanBeSolved (file_of (still (empty_files 0)) 0 (codes "a")) outs
empty_file outs = (
  nothing_loaded (codes "a"),
  nothing_checked (codes "a"),
  [],
  record {
    is = record {
      is = record {
        is_loaded = record { source = nothing; is = ([], record { holds = refl; within = omega arith }, reads_nothing); mode = refl; items = (refl, refl) };
        accepted = refl;
        typed = record { mode = refl; globals_are = refl; predicates_are = refl; imports_are = refl; exports_are = refl; formulas_are = refl; files = refl };
      };
      free = λ k d less. absurd (omega (arith, less));
      imported = record { each = tt; once = λ i j one other p q held held' name at at'. absurd (none-some p at) };
    };
    within = record { depth = omega arith; size = omega arith };
  },
)

nothing_held : (bytes : List ℕ) → None ≡ Some bytes → ⊥
nothing_held bytes same = cc

pub no_file : CanBeSolved (file_of (still no_files) 0 (codes "a")) [] → ⊥
no_file can = let is = can.3.is.is.is_loaded.is in nothing_held is.0 is.1.holds

same_count : (n : ℕ) → n ≤ 9 → Rose n n → ⊥
same_count n small (inl less) = omega (arith, less)
same_count n small (inr last) = omega (arith, last, small)

pub well : NothingFailed (sink_after 3) (sink_after 3) (still (empty_files 2))
well = record { holding = λ name. Some []; told = refl; works = same_count 2 (omega arith); prints = same_count 3 (omega arith) }

pub sink_failed : NothingFailed (sink_after 3) (sink_after 4) (still (empty_files 2)) → ⊥
sink_failed is = is.prints (inl (omega arith))

untold : (holding : Holding) → None ≡ Some holding → ⊥
untold holding same = cc

pub nothing_told : NothingFailed (sink_after 3) (sink_after 3) (still silent_files) → ⊥
nothing_told is = untold is.holding is.told

pub first_number : IsNumber 1
first_number = record { some = omega arith; small = omega arith }

pub no_number : IsNumber 0 → ⊥
no_number is = omega (arith, is.some)
