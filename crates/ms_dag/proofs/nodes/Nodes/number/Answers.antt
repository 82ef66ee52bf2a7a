use Rattle.std.proofs.Common.{◌≡◌, ◌==◌, ◌++◌, ◌∷◌, [], if◌then◌else◌, length, slice_get, Some, IfOk, ap, ◌∙◌}
use Rattle.ms_diagram.specs.Numbering.{Numbers}
use Rattle.ms_dag.specs.inner.Keys.{keys_of}
use Rattle.ms_dag.specs.inner.Codes.{codes_of_entry}
use Rattle.ms_dag.proofs.KeyLemmas.{Kept, kept, both_ok}
use Rattle.ms_dag.proofs.Results.{if_ok}
use Rattle.ms_dag.proofs.nodes.Nodes.number.Goals as goal

kept_at : (c : goal.After-keep) → IfOk c.keep.result (λ n. Kept c.args.self.now.entries c.keep.new.items (keys_of c.number_of_codes-number.new.self) c.args.entry n)
kept_at c =
    let same = c.number_of_codes-number.ensures.entries in
    both_ok c.keep.result c.number_of_codes-number.result
    (λ n. c.keep.new.items ≡ (if n == length c.number_of_codes-number.new.self.entries then c.number_of_codes-number.new.self.entries ++ c.args.entry ∷ [] else c.number_of_codes-number.new.self.entries))
    (λ n. Numbers (keys_of c.args.self.now) (keys_of c.number_of_codes-number.new.self) (codes_of_entry c.args.entry))
    (λ n. slice_get (keys_of c.number_of_codes-number.new.self) n ≡ Some (codes_of_entry c.args.entry))
    (λ n. Kept c.args.self.now.entries c.keep.new.items (keys_of c.number_of_codes-number.new.self) c.args.entry n)
    c.keep.ensures.number c.keep.ensures.kept c.number_of_codes-number.ensures.numbers c.number_of_codes-number.ensures.number
    (λ n known numbers at.
    kept c.args.self.now.entries c.keep.new.items (keys_of c.args.self.now) (keys_of c.number_of_codes-number.new.self) c.args.entry n
    c.requires.keyed at (known ∙ ap (λ list. if n == length list then list ++ c.args.entry ∷ [] else list) same) numbers)

pub returns-clause-keyed : goal.returns-clause-keyed
returns-clause-keyed c = if_ok c.keep.result _ _ (λ n k. k.still_keyed) (kept_at c)

pub returns-clause-numbers : goal.returns-clause-numbers
returns-clause-numbers c = if_ok c.keep.result _ _ (λ n k. k.numbers) (kept_at c)

pub returns-clause-number : goal.returns-clause-number
returns-clause-number c = if_ok c.keep.result _ _ (λ n k. k.number) (kept_at c)
