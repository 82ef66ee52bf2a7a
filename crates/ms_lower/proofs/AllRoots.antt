-- The roots of a source.
use Rattle.std.proofs.Common.{◌≡◌, ℕ, ◌+◌, ◌<◌, true, List, [], ◌∷◌, ◌++◌, length, map, take, drop, get_or, sym, ap, ap₂, ◌∙◌}
use Rattle.std.proofs.lemmas.List.{map-append}
use Rattle.std.specs.Option.{is_some}
use Rattle.std.specs.Prelude.{filter}
use Rattle.ms_logic.specs.declared.checked.Checked.{Checked}
use Rattle.ms_logic.specs.declared.checked.Global.{Global}
use Rattle.ms_logic.specs.declared.checked.Placed.{Placed}
use Rattle.ms_logic_core.specs.declared.core_formula.Root as code
use Rattle.ms_logic.specs.Assignment.{Variable}
use Rattle.ms_logic_core.specs.Roots.{Root}
use Rattle.ms_logic.specs.View.{declared_in}
use Rattle.ms_lower.specs.declared.scope.Named.{Named}
use Rattle.ms_lower.specs.declared.tables.Tables.{Tables}
use Rattle.ms_lower.specs.NumberedRoots.{all_roots, export_roots, globals_over, goal_roots, main_over, renumbered_root, root_of, seen_over}
use Rattle.ms_lower.proofs.Parts.{kept-more}
use Rattle.ms_lower.proofs.SeenVariables.{seen_over-append}
use Rattle.ms_lower.proofs.ValueLists.{drop_at}

-- one global more is seen
pub global_seen : (seen made : List Named) (globals : List Global) (i number : ℕ) (g : Global) (n : Named) → i < length globals → g ≡ get_or globals i g → number ≡ i → n.variable ≡ number → n.order ≡ g.order →
    globals_over number (seen_over [] seen) (drop i globals) ≡ globals_over 0 [] globals → made ≡ seen ++ n ∷ [] →
    globals_over (number + 1) (seen_over [] made) (drop (i + 1) globals) ≡ globals_over 0 [] globals
global_seen seen made globals i number g n below is counted variable order before made_is =
    ap (λ l. globals_over (number + 1) (seen_over [] l) (drop (i + 1) globals)) made_is
    ∙ (ap (λ s. globals_over (number + 1) s (drop (i + 1) globals)) (seen_over-append [] seen n)
    ∙ (ap (λ x. globals_over (number + 1) (let v : Variable = record { name = x; order = n.order } in v ∷ seen_over [] seen) (drop (i + 1) globals)) variable
    ∙ (ap (λ o. globals_over (number + 1) (let v : Variable = record { name = number; order = o } in v ∷ seen_over [] seen) (drop (i + 1) globals)) order
    ∙ (ap (globals_over number (seen_over [] seen)) (sym (drop_at globals i g below is)) ∙ before))))

-- the root of one goal more
pub goal_roots-more : (tables : Tables) (gs : List Global) (fs : List Placed) (i : ℕ) (p : Placed) (before made : List code.Root) (root : code.Root) → i < length fs → p ≡ get_or fs i p → is_some p.title ≡ true →
    map root_of before ≡ map (renumbered_root tables) (map (λ goal. main_over tables gs (goal ∷ [])) (filter (λ placed. is_some placed.title) (take i fs))) →
    root_of root ≡ renumbered_root tables (main_over tables gs (p ∷ [])) → made ≡ before ++ root ∷ [] →
    map root_of made ≡ map (renumbered_root tables) (map (λ goal. main_over tables gs (goal ∷ [])) (filter (λ placed. is_some placed.title) (take (i + 1) fs)))
goal_roots-more tables gs fs i p before made root below is titled before_is root_is made_is =
    let over : Placed → Root = λ goal. main_over tables gs (goal ∷ []) in
    let front = filter (λ placed. is_some placed.title) (take i fs) in
    ap (map root_of) made_is
    ∙ (map-append root_of before (root ∷ [])
    ∙ (ap₂ (λ l r. l ++ r ∷ []) before_is root_is
    ∙ (sym (map-append (renumbered_root tables) (map over front) (over p ∷ []))
    ∙ (ap (map (renumbered_root tables)) (sym (map-append over front (p ∷ [])))
    ∙ ap (λ l. map (renumbered_root tables) (map over l)) (sym (kept-more (λ placed. is_some placed.title) fs i p below is titled))))))

-- the roots of a source
pub roots_joined : (tables : Tables) (checked : Checked) (main : code.Root) (first exported front goals all : List code.Root) →
    root_of main ≡ renumbered_root tables (main_over tables checked.globals (declared_in checked)) → first ≡ main ∷ [] →
    map root_of exported ≡ map (renumbered_root tables) (export_roots tables checked) → front ≡ first ++ exported →
    map root_of goals ≡ map (renumbered_root tables) (goal_roots tables checked) → all ≡ front ++ goals →
    map root_of all ≡ map (renumbered_root tables) (all_roots tables checked)
roots_joined tables checked main first exported front goals all main_is first_is exported_is front_is goals_is all_is =
    let joined : all ≡ main ∷ (exported ++ goals) = all_is ∙ (ap (λ l. l ++ goals) front_is ∙ ap (λ l. (l ++ exported) ++ goals) first_is) in
    ap (map root_of) joined
    ∙ ap₂ (λ r l. r ∷ l) main_is
    (map-append root_of exported goals
    ∙ (ap₂ (λ l k. l ++ k) exported_is goals_is ∙ sym (map-append (renumbered_root tables) (export_roots tables checked) (goal_roots tables checked))))
