use Rattle.std.proofs.Common.{[], sym, ◌∙◌}
use Rattle.ms_diagram.specs.inner.Computed.{held}
use Rattle.ms_diagram.proofs.ComputedLemmas.{lookup-has, lookup-lacks, short-full}
use Rattle.ms_diagram.proofs.PairLemmas.{numbers_eq}
use Rattle.ms_diagram.proofs.computed_table.Bucket.find.Goals as goal

pub returns-then-has : goal.returns-then-has
returns-then-has c =
    let first = c.args.self.first in
    let passes = sym c.has.ensures ∙ c.if-has.true in
    sym (lookup-has (numbers_eq c.args.codes) first (held c.args.self.second []) (short-full c.args.codes first c.requires passes) passes)

pub returns-then-has-2 : goal.returns-then-has-2
returns-then-has-2 c =
    let test = numbers_eq c.args.codes in
    let second = c.args.self.second in
    let fails = sym c.has.ensures ∙ c.if-has.false in
    let passes = sym c.has-else-has.ensures ∙ c.if-has-2.true in
    sym (lookup-lacks test c.args.self.first (held second []) fails ∙ lookup-has test second [] (short-full c.args.codes second c.requires passes) passes)

pub returns-else-has-2 : goal.returns-else-has-2
returns-else-has-2 c =
    let test = numbers_eq c.args.codes in
    let second = c.args.self.second in
    let fails = sym c.has.ensures ∙ c.if-has.false in
    let lacks = sym c.has-else-has.ensures ∙ c.if-has-2.false in
    sym (lookup-lacks test c.args.self.first (held second []) fails ∙ lookup-lacks test second [] lacks)
