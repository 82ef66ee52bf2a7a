-- Files are equal exactly where the values that they give are.
use Rattle.std.specs.Prelude.{◌≡◌, ◌↔◌, ℕ, List}
use Rattle.ms_dfa.specs.declared.plain.FileVersion.{FileVersion}
use Rattle.ms_dfa.specs.declared.plain.Plain.{Plain}
use Rattle.ms_dfafile.specs.File.{IsSpelled}
use Rattle.ms_logic.specs.declared.mode.Mode.{Mode}
use Rattle.ms_logic.specs.Assignment.{Env, Variable, IsAssignment}
use Rattle.ms_logic_core.specs.Roots.{AreFreeVariables}
use Rattle.ms_logic.specs.Lists.{AreRising}
use Rattle.ms_logic.specs.Tree.{Form}
use Rattle.ms_logic.specs.Truth.{Given, Yes, No}
use Rattle.ms_logic.specs.Verdict.{Agree, MainNo, MainYes, Problem, variables_of}
use Rattle.ms_build_source.specs.Moved.{HaveSameOrders, moved}
use Rattle.ms_build_source.specs.Values.{IsFileOf, IsMainFile, form_meaning}

-- a property of the assignments of some variables is one of those of others, where these take their values one for one
abbrev pub IsOneFact : Mode → List Variable → List Variable → (Env → Type 0) → (Env → Type 0) → Type 0
IsOneFact mode variables others Fact Other = (e : Env) → IsAssignment mode variables e → Fact e ↔ Other (moved variables others e)

-- two formulas, each of a source of its own and over its own variables, have one value at the same values of these
abbrev pub HaveOneValue : Mode → List Variable → List Variable → Given → Form → Given → Form → Type 0
HaveOneValue mode variables others given f there g =
    IsOneFact mode variables others (Yes given f) (Yes there g) × IsOneFact mode variables others (No given f) (No there g)

-- Files of two formulas, of one version and one mode, whose free variables have the same orders and stand there under the same names, have equal bytes
-- exactly where the values are one. Which numbers the variables have in their sources has no bearing.
abbrev pub ExportsAreEqualWhereValuesAre : Type 0
ExportsAreEqualWhereValuesAre =
    (version : FileVersion) (mode : Mode) (variables others : List Variable) (names : List (List ℕ)) (given there : Given) (f g : Form) (plain second : Plain) (bytes more : List ℕ)
    → AreFreeVariables given f variables → AreFreeVariables there g others → HaveSameOrders variables others
    → IsFileOf version mode variables names (form_meaning given f) plain → IsFileOf version mode others names (form_meaning there g) second
    → IsSpelled bytes plain → IsSpelled more second → (bytes ≡ more) ↔ HaveOneValue mode variables others given f there g

-- so has the file of a formula, and that of the main value of a source with such globals
abbrev pub ExportsAreMainFilesWhereValuesAre : Type 0
ExportsAreMainFilesWhereValuesAre =
    (version : FileVersion) (variables : List Variable) (names : List (List ℕ)) (given : Given) (f : Form) (problem : Problem) (plain second : Plain) (bytes more : List ℕ)
    → AreFreeVariables given f variables → AreRising (variables_of problem.globals) → HaveSameOrders variables (variables_of problem.globals)
    → IsFileOf version problem.mode variables names (form_meaning given f) plain → IsMainFile version problem names second → IsSpelled bytes plain → IsSpelled more second
    → (bytes ≡ more)
    ↔ (IsOneFact problem.mode variables (variables_of problem.globals) (Yes given f) (MainYes problem)
    × IsOneFact problem.mode variables (variables_of problem.globals) (No given f) (MainNo problem))

-- and so have those of the main values of two sources with the same globals
abbrev pub MainFilesAreEqualWhereValuesAre : Type 0
MainFilesAreEqualWhereValuesAre =
    (version : FileVersion) (one two : Problem) (names : List (List ℕ)) (plain second : Plain) (bytes more : List ℕ) → one.mode ≡ two.mode → variables_of one.globals ≡ variables_of two.globals
    → AreRising (variables_of one.globals) → IsMainFile version one names plain → IsMainFile version two names second → IsSpelled bytes plain → IsSpelled more second
    → (bytes ≡ more) ↔ Agree one two
