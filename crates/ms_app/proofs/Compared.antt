-- Two sources that can be compared are refused for want of memory alone, or of nodes under a limit that is not enough.
use Rattle.std.proofs.Common.{◌≡◌, ℕ, ◌≤◌, inl, inr, List, [], ◌∷◌, length, map, Option, Some, refl, sym, ap, ◌∙◌, subst, arith}
use Rattle.ms_edge.specs.Counts.{Rose}
use Rattle.ms_edge.specs.Files.{FilesTold, Holding, Seen}
use Rattle.ms_edge.specs.declared.refusal.Refusal.{Refusal}
use Rattle.ms_logic.specs.declared.checked.Checked.{Checked}
use Rattle.ms_logic.specs.declared.checked.Global.{Global}
use Rattle.ms_logic.specs.declared.mode.Order.{Order}
use Rattle.ms_logic.specs.declared.source.Loaded.{Loaded}
use Rattle.ms_names_rules.specs.TypedSource.{IsTyped, TypedGlobal, global_of}
use Rattle.ms_include_laws.specs.Told.{TellSame}
use Rattle.ms_include_laws.proofs.of_loads.Loads.{one_load}
use Rattle.ms_include_laws.proofs.of_loads.Typing.{one_globals}
use Rattle.ms_app.specs.Comparison as comparisons
use Rattle.ms_app.specs.Comparison.{AreParts, AreSolved, HaveSameGlobals, IsRefusedComparison, Taken}
use Rattle.ms_app.specs.Source.{IsRefused, IsSolved, file_of}
use Rattle.ms_app.specs.Completeness.{IsEnoughForBoth, IsEnoughForOrigin}
use Rattle.ms_app.proofs.Solvable.{IsWantUnder, files_settle, solvable}

-- names and orders of globals are those of the typed tree

names_typed : (globals : List Global) → map (λ (g : Global). g.name) globals ≡ map (λ (g : TypedGlobal). g.name) (map global_of globals)
names_typed [] = refl
names_typed (g ∷ more) = ap (λ (names : List (List ℕ)). g.name ∷ names) (names_typed more)

orders_typed : (globals : List Global) → map (λ (g : Global). g.order) globals ≡ map (λ (g : TypedGlobal). g.order) (map global_of globals)
orders_typed [] = refl
orders_typed (g ∷ more) = ap (λ (orders : List Order). g.order ∷ orders) (orders_typed more)

-- checked sources of one loaded source have the same mode and globals
same_source : (loaded : Loaded) (one other : Checked) → IsTyped loaded one → IsTyped loaded other → HaveSameGlobals one other
same_source loaded one other is is' = record {
  mode = is.mode ∙ sym is'.mode;
  names =
      names_typed one.globals
      ∙ (ap (map (λ (g : TypedGlobal). g.name)) (one_globals loaded one other is is') ∙ sym (names_typed other.globals));
  orders =
      orders_typed one.globals
      ∙ (ap (map (λ (g : TypedGlobal). g.order)) (one_globals loaded one other is is') ∙ sym (orders_typed other.globals));
}

turned : (one other : Checked) → HaveSameGlobals one other → HaveSameGlobals other one
turned one other same = record { mode = sym same.mode; names = sym same.names; orders = sym same.orders }

joined : (one two three : Checked) → HaveSameGlobals one two → HaveSameGlobals two three → HaveSameGlobals one three
joined one two three first second = record { mode = first.mode ∙ second.mode; names = first.names ∙ second.names; orders = first.orders ∙ second.orders }

-- what the parts of a request told

abbrev held_by : FilesTold → Option Holding
held_by told = told.held

first_told : (holding : Holding) (seen first rest : Seen) → AreParts seen first rest → seen.before.held ≡ Some holding → first.before.held ≡ Some holding
first_told holding seen first rest are told = ap held_by are.begin ∙ told

rest_told : (holding : Holding) (seen first rest : Seen) → AreParts seen first rest → seen.before.held ≡ Some holding → rest.before.held ≡ Some holding
rest_told holding seen first rest are told = ap held_by are.middle ∙ (are.reads.held ∙ first_told holding seen first rest are told)

pub rose_within : (a b c : ℕ) → a ≤ b → Rose b c → Rose a c
rose_within a b c le (inl less) = inl (omega (arith, le, less))
rose_within a b c le (inr last) = inr last

rest_rose : (seen first rest : Seen) → AreParts seen first rest → Rose rest.before.faults rest.after.faults → Rose seen.before.faults seen.after.faults
rest_rose seen first rest are rose =
    let begin : first.before.faults ≡ seen.before.faults = ap (λ (told : FilesTold). told.faults) are.begin in
    let middle : rest.before.faults ≡ first.after.faults = ap (λ (told : FilesTold). told.faults) are.middle in
    let end : rest.after.faults ≡ seen.after.faults = ap (λ (told : FilesTold). told.faults) are.end in
    rose_within seen.before.faults rest.before.faults seen.after.faults (omega (arith, begin, middle, are.reads.counts.faults)) (subst (Rose rest.before.faults) end rose)

-- the left file, and the right one, of two comparisons in one request

same_left : (holding : Holding) (left right right' : List ℕ) (seen : Seen) (one two one' two' : Taken) → seen.before.held ≡ Some holding →
    (are : AreSolved left right seen one two) (are' : AreSolved left right' seen one' two') → are.left_loaded ≡ are'.left_loaded
same_left holding left right right' seen one two one' two' told are are' =
    one_load are.first are'.first (record {
      holding = holding;
      one_told = first_told holding seen are.first are.rest are.are_parts told;
      other_told = first_told holding seen are'.first are'.rest are'.are_parts told;
    }) 0 left are.left_loaded are'.left_loaded are.is_left.is.is.is_loaded are'.is_left.is.is.is_loaded

same_right : (holding : Holding) (left right : List ℕ) (seen : Seen) (one two one' two' : Taken) → seen.before.held ≡ Some holding →
    (are : AreSolved left right seen one two) (are' : AreSolved left right seen one' two') → are.right_loaded ≡ are'.right_loaded
same_right holding left right seen one two one' two' told are are' =
    let same = same_left holding left right right seen one two one' two' told are are' in
    let is = subst (λ (l : Loaded). IsSolved (file_of are'.rest (length l.files) right) [] are'.right_loaded two'.checked two'.plains) (sym same) are'.is_right in
    one_load are.rest are'.rest (record {
      holding = holding;
      one_told = rest_told holding seen are.first are.rest are.are_parts told;
      other_told = rest_told holding seen are'.first are'.rest are'.are_parts told;
    }) (length are.left_loaded.files) right are.right_loaded are'.right_loaded are.is_right.is.is.is_loaded is.is.is.is_loaded

same_globals : (holding : Holding) (left right : List ℕ) (seen : Seen) (one two one' two' : Taken) → seen.before.held ≡ Some holding →
    AreSolved left right seen one two → AreSolved left right seen one' two' → HaveSameGlobals one.checked two.checked → HaveSameGlobals one'.checked two'.checked
same_globals holding left right seen one two one' two' told are are' globals =
    let on_left = same_left holding left right right seen one two one' two' told are are' in
    let on_right = same_right holding left right seen one two one' two' told are are' in
    let first = same_source are'.left_loaded one.checked one'.checked (subst (λ l. IsTyped l one.checked) on_left are.is_left.is.is.typed) are'.is_left.is.is.typed in
    let second = same_source are'.right_loaded two.checked two'.checked (subst (λ l. IsTyped l two.checked) on_right are.is_right.is.is.typed) are'.is_right.is.is.typed in
    joined one'.checked one.checked two'.checked (turned one.checked one'.checked first) (joined one.checked two.checked two'.checked globals second)

under : (Enough All : Type 0) (limit : ℕ) (refusal : Refusal) → (All → Enough) → IsWantUnder Enough limit refusal → IsWantUnder All limit refusal
under Enough All limit refusal holds (inl memory) = inl memory
under Enough All limit refusal holds (inr (lacks, short)) = inr (lacks, λ all. short (holds all))

pub comparable : (holding : Holding) (left right : List ℕ) (limit : ℕ) (seen : Seen) (one two : Taken) → seen.before.held ≡ Some holding → (Rose seen.before.faults seen.after.faults → ⊥) →
    AreSolved left right seen one two → HaveSameGlobals one.checked two.checked → (refusal : Refusal) (files : List (List ℕ)) → IsRefusedComparison left right limit seen refusal files → IsWantUnder (IsEnoughForBoth left right limit seen) limit refusal
comparable holding left right limit seen one two told works are globals refusal files (comparisons.left_refused why) =
    let same : TellSame are.first seen = record { holding = holding; one_told = first_told holding seen are.first are.rest are.are_parts told; other_told = told } in
    under (IsEnoughForOrigin (file_of seen 0 left) [] limit) (IsEnoughForBoth left right limit seen) limit refusal (λ enough. enough.for_left)
    (solvable (file_of are.first 0 left) (file_of seen 0 left) (files_settle are.first seen same works 0 left) [] are.left_loaded one.checked one.plains are.is_left limit refusal files why)
comparable holding left right limit seen one two told works are globals refusal files (comparisons.right_refused first rest are_parts loaded one' is_left read all why) =
    let left_same : are.left_loaded ≡ loaded = one_load are.first first (record {
      holding = holding;
      one_told = first_told holding seen are.first are.rest are.are_parts told;
      other_told = first_told holding seen first rest are_parts told;
    }) 0 left are.left_loaded loaded are.is_left.is.is.is_loaded is_left.is.is.is_loaded in
    let same : TellSame are.rest rest = record {
      holding = holding;
      one_told = rest_told holding seen are.first are.rest are.are_parts told;
      other_told = rest_told holding seen first rest are_parts told;
    } in
    let base = length are.left_loaded.files in
    under (IsEnoughForOrigin (file_of rest base right) [] limit) (IsEnoughForBoth left right limit seen) limit refusal (λ enough. enough.for_right first rest base are_parts)
    (solvable (file_of are.rest base right) (file_of rest base right) (files_settle are.rest rest same (λ rose. works (rest_rose seen first rest are_parts rose)) base right)
    [] are.right_loaded two.checked two.plains are.is_right limit refusal read (subst (λ (l : Loaded). IsRefused (file_of rest (length l.files) right) [] limit refusal read) (sym left_same) why))
comparable holding left right limit seen one two told works are globals refusal files (comparisons.not_comparable one' two' are' differ is) =
    absurd (differ (same_globals holding left right seen one two one' two' told are are' globals))
comparable holding left right limit seen one two told works are globals refusal files (comparisons.no_memory why) = inl why
