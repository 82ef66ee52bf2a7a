use Rattle.std.proofs.Common.{◌≡◌, ◌+◌, ◌≤◌, List, [], ℕ, Option, None, Some, length, map, replicate, sym, ap, subst, ◌∙◌, arith}
use Rattle.std.specs.Option.{MatchOption}
use Rattle.std.proofs.lemmas.Bool.{false≢true}
use Rattle.std.proofs.lemmas.Option.{MatchOption-at_none, MatchOption-at_some}
use Rattle.ms_arena.specs.declared.node.Ref.{Ref}
use Rattle.ms_dfa.specs.Files.{content_of_file}
use Rattle.ms_dfa.specs.declared.plain.FileVar.{FileVar}
use Rattle.ms_dfa.specs.declared.plain.Plain.{Plain}
use Rattle.ms_logic.specs.declared.mode.Order.{Order}
use Rattle.ms_dfafile_outside.specs.declared.label.Label.{Label}
use Rattle.ms_dfafile_outside.specs.declared.label.Label.TheVariants.{Seen}
use Rattle.ms_dfafile_outside.specs.inner.Labels.{AreLabels, HasCome, orders_in}
use Rattle.ms_dfafile_outside.specs.inner.Numbers.{AreSetsBefore, numbers_in}
use Rattle.ms_dfafile_outside.proofs.ComeLemmas.{come-start}
use Rattle.ms_dfafile_outside.proofs.FewLemmas.{few-numbers}
use Rattle.ms_dfafile_outside.proofs.FileLemmas.{length-states, length-variables, orders-file, rising-file}
use Rattle.ms_dfafile_outside.proofs.LabelsLemmas.{AreLabels-none}
use Rattle.ms_dfafile_outside.proofs.outside.marks_outside.Goals as goal

abbrev orders_of_file : List FileVar → List Order
orders_of_file variables = map (λ v. v.order) variables

pub returns-in_default : goal.returns-in_default
returns-in_default c =
    let plain = c.args.plain.now in
    let content = content_of_file plain in
    let many = MatchOption-at_none (32 ≤ numbers_in (orders_of_file c.slice.result.now)) (AreSetsBefore (orders_of_file c.slice.result.now)) c.in_default.is c.in_ok-sets.ensures in
    let same : orders_of_file c.slice.result.now ≡ orders_in content = ap orders_of_file c.slice.ensures ∙ sym (orders-file plain) in
    let all = subst (λ orders. 32 ≤ numbers_in orders) same many in (
      λ never. absurd (false≢true never),
      λ marks. absurd (let few = few-numbers content c.requires.content (rising-file plain) marks (omega (arith, c.requires.few, length-states plain)) in omega (arith, few, all)),
    )

-- what is found of the variables of the file is so of those of its content
sets-told : (plain : Plain) (variables : List FileVar) (found : Option (List ℕ)) (sets : List ℕ) → variables ≡ plain.variables → found ≡ Some sets
    → MatchOption found (32 ≤ numbers_in (orders_of_file variables)) (AreSetsBefore (orders_of_file variables)) → AreSetsBefore (orders_in (content_of_file plain)) sets
sets-told plain variables found sets is some told =
    let are = MatchOption-at_some (32 ≤ numbers_in (orders_of_file variables)) (AreSetsBefore (orders_of_file variables)) sets some told in
    subst (λ orders. AreSetsBefore orders sets) (ap orders_of_file is ∙ sym (orders-file plain)) are

pub arrive-requires-clause-sets : goal.arrive-requires-clause-sets
arrive-requires-clause-sets c =
    let plain = c.args.plain.now in
    subst (AreSetsBefore (orders_in (content_of_file plain))) (sym c.slice-3.ensures)
    (sets-told plain c.slice.result.now c.in_ok-sets.field-0 c.in-Some.sets c.slice.ensures c.in-Some.is c.in_ok-sets.ensures)

pub follow-requires-clause-sets : goal.follow-requires-clause-sets
follow-requires-clause-sets c =
    let plain = c.args.plain.now in
    subst (AreSetsBefore (orders_in (content_of_file plain))) (sym c.slice-4.ensures)
    (sets-told plain c.slice.result.now c.in_ok-sets.field-0 c.in-Some.sets c.slice.ensures c.in-Some.is c.in_ok-sets.ensures)

pub arrive-requires-clause-come : goal.arrive-requires-clause-come
arrive-requires-clause-come c =
    let plain = c.args.plain.now in
    let content = content_of_file plain in
    subst (HasCome content plain.start (Seen 0)) (length-variables plain ∙ sym c.len-2.ensures) (come-start content c.requires.content)

pub arrive-requires-clause-labels : goal.arrive-requires-clause-labels
arrive-requires-clause-labels c =
    let plain = c.args.plain.now in
    let content = content_of_file plain in
    let labels = c.in_ok-labels.labels in
    let count : length content.states + length content.nodes ≡ c.len.result + length c.slice-2.result.now = omega (arith, length-states plain, ap length c.slice-2.ensures) in
    let known : replicate (length content.states + length content.nodes) None ≡ labels.known.items = ap (λ n. replicate n None) count ∙ sym c.in_ok-labels.ensures.known in
    subst (λ (work : List Ref). AreLabels content labels.known.items work) (sym c.in_ok-labels.ensures.work)
    (subst (λ (list : List (Option Label)). AreLabels content list []) known (AreLabels-none content))
