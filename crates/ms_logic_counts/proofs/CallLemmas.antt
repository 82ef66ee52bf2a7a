-- Each call of an operation on automata has a measure.
use Rattle.std.proofs.Common.{ℕ, ◌+◌, refl}
use Rattle.ms_logic_words.specs.Content.{Content, IsContent}
use Rattle.ms_logic_measures.specs.CallMeasures.{HasReachedParts, HaveReachedParts, in_order_of, no_restriction}
use Rattle.ms_logic_measures.specs.FullContent.{part_count}
use Rattle.ms_logic_measures.specs.Steps.{joined}
use Rattle.ms_logic_counts.specs.Calls.{CombinesAreMeasured, MinimisesAreMeasured, ProjectsAreMeasured, FreeProjectsAreMeasured, RenamesAreMeasured, AdoptsAreMeasured, WideningsArePaired}
use Rattle.ms_logic_counts.proofs.Doubts.{and-then, not-refuted}
use Rattle.ms_logic_counts.proofs.NoRestriction.{no_restriction-rules}
use Rattle.ms_logic_counts.proofs.SetLemmas.{sets_are_counted}
use Rattle.ms_logic_counts.proofs.StartLemmas.{pairs_are_counted, references_are_counted}

pub parts_are_counted : {Sign : Type 0} (content : Content Sign) → IsContent content → ¬ ¬ ((n : ℕ) × HasReachedParts content n)
parts_are_counted content rules = references_are_counted content content.variables rules

pub both_parts_are_counted : {Left Right : Type 0} (left : Content Left) (right : Content Right) → IsContent left → IsContent right
    → ¬ ¬ ((n : ℕ) × HaveReachedParts left right n)
both_parts_are_counted left right left_rules right_rules =
    and-then (parts_are_counted left left_rules)
    (λ one. and-then (parts_are_counted right right_rules) (λ other. not-refuted (one.0 + other.0, (one.0, other.0, one.1, other.1, refl))))

pub combines_are_measured : {Left Right : Type 0} → CombinesAreMeasured Left Right
combines_are_measured left right left_rules right_rules =
    and-then (pairs_are_counted left right (joined left.variables right.variables) left_rules right_rules)
    (λ made. and-then (both_parts_are_counted left right left_rules right_rules)
    (λ read. not-refuted (made.0, read.0, record { made = made.1; read = read.1 })))

pub minimises_are_measured : {Sign : Type 0} → MinimisesAreMeasured Sign
minimises_are_measured content rules =
    and-then (parts_are_counted content rules) (λ made. not-refuted (made.0, 0, record { made = made.1; read = refl }))

pub projects_are_measured : {Body Domain : Type 0} → ProjectsAreMeasured Body Domain
projects_are_measured body restriction x body_rules restriction_rules =
    and-then (sets_are_counted body restriction x body_rules restriction_rules)
    (λ made. and-then (pairs_are_counted body restriction body.variables body_rules restriction_rules)
    (λ pairs. and-then (both_parts_are_counted body restriction body_rules restriction_rules)
    (λ parts. not-refuted (
      made.0,
      pairs.0 + parts.0,
      record { made = made.1; pairs = pairs.0; parts = parts.0; pairs_read = pairs.1; parts_read = parts.1; read = refl },
    ))))

pub free_projects_are_measured : {Body : Type 0} → FreeProjectsAreMeasured Body
free_projects_are_measured body mode x rules = projects_are_measured body (no_restriction mode) x rules (no_restriction-rules mode)

pub renames_are_measured : {Sign : Type 0} → RenamesAreMeasured Sign
renames_are_measured content numbers rules =
    and-then (references_are_counted content (in_order_of numbers content.variables) rules)
    (λ made. and-then (parts_are_counted content rules) (λ read. not-refuted (made.0, read.0, record { made = made.1; read = read.1 })))

pub adopts_are_measured : {FileSign : Type 0} → AdoptsAreMeasured FileSign
adopts_are_measured file encodings file_rules rules =
    and-then (pairs_are_counted file encodings encodings.variables file_rules rules)
    (λ made. not-refuted (made.0, part_count file + part_count encodings, record { made = made.1; read = refl }))

pub widenings_are_paired : WideningsArePaired
widenings_are_paired imports mode f variables content encodings of_formula of_true =
    and-then (pairs_are_counted content encodings variables of_formula.canonical.rules of_true.canonical.rules)
    (λ made. not-refuted (
      made.0,
      part_count content + part_count encodings,
      record { content = content; encodings = encodings; of_formula = of_formula; of_true = of_true; made = made.1; read = refl },
    ))
