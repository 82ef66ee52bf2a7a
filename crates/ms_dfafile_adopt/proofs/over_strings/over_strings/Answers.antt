use Rattle.std.proofs.Common.{◌≡◌, List, length, map, ap, sym, subst, ◌∙◌}
use Rattle.std.proofs.lemmas.List.{length-map}
use Rattle.ms_dfa.specs.Automaton.{variable_of, variables_of}
use Rattle.ms_logic_words.specs.Content.{Content}
use Rattle.ms_logic_words.specs.declared.sign.Sign.{Sign}
use Rattle.ms_dfafile_adopt.specs.Short.{StringsLack}
use Rattle.ms_dfafile_adopt.proofs.ShortLemmas.{NumbersOrProductLack, refused_more, strings_lack}
use Rattle.ms_dfa.specs.declared.plain.FileVar.{FileVar}
use Rattle.ms_logic_words.specs.Content.{variables_by_place}
use Rattle.ms_logic.specs.Lists.{AreRising}
use Rattle.ms_dfafile_adopt.proofs.VariableLemmas.{rising-by_place}
use Rattle.ms_dfafile_adopt.proofs.over_strings.over_strings.Goals as goal

pub with_numbers-requires-clause-rising : goal.with_numbers-requires-clause-rising
with_numbers-requires-clause-rising c =
    subst AreRising (sym (c.in-Ok.ensures ∙ ap (λ (variables : List FileVar). variables_by_place (map (λ v. v.order) variables)) c.slice.ensures))
    (rising-by_place 0 (map (λ v. v.order) c.args.plain.now.variables))

pub returns-clause-nodes : goal.returns-clause-nodes
returns-clause-nodes c =
    let plain = c.args.plain.now in
    let limit = c.args.limit in
    let tracks = c.in-Ok.tracks in
    let said = c.in-Ok-over_sets.said in
    let are = c.in-Ok.ensures ∙ ap (λ (variables : List FileVar). variables_by_place (map (λ v. v.order) variables)) c.slice.ensures in
    refused_more (Content Sign) (λ refused. (refused ≡ limit) × NumbersOrProductLack limit said (variables_of tracks) (length tracks)) (λ refused. (refused ≡ limit) × StringsLack limit plain) c.with_numbers.result
    (λ refused why. (why.0, strings_lack limit plain said (variables_of tracks) (length tracks) are (sym (length-map tracks variable_of)) c.in-Ok-over_sets.ensures.said why.1)) c.with_numbers.ensures.nodes
