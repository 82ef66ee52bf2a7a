use Rattle.std.proofs.Common.{ℕ, ◌++◌, ◌∷◌, [], List, drop, take, ◌+◌, refl, sym, ap, subst, ◌∙◌}
use Rattle.std.specs.List.{list_any}
use Rattle.std.specs.Str.{bytes_eq}
use Rattle.std.proofs.lemmas.Bool.{false≢true}
use Rattle.std.proofs.lemmas.List.{take_all}
use Rattle.ms_dfafile.proofs.NamesLemmas.{AreDifferent, HasSeen, HasSeen-more, HasSeen-none, different, is_new, names_in, names_in-cut, names_in-more, not_new, twice}
use Rattle.ms_dfafile.proofs.names.names_differ.Goals as goal

pub loop-variable-init : goal.loop-variable-init
loop-variable-init c = HasSeen-none c.in-Ok.seen c.in-Ok.ensures.empty

pub returns-in-Ok-false : goal.returns-in-Ok-false
returns-in-Ok-false c =
    let variables = c.args.variables.now in
    let place = c.loop-variable.variable-index in
    let v = c.variable-item.result in
    let front = names_in (take place variables) in
    let held = not_new _ (sym c.in-Ok-false.ensures.added ∙ c.in-Ok-false.field-0-test) in
    let among = ap (λ (name : List ℕ). list_any (bytes_eq name) front) (sym c.bytes.ensures) ∙ sym (c.loop-variable.invariant.keys c.bytes.result) ∙ held in (
      λ no. absurd (false≢true no),
      λ differ. absurd (twice front v.name (names_in (drop (place + 1) variables)) among (subst AreDifferent (names_in-cut variables place v c.loop-variable-test.true c.variable-item.is) differ)),
    )

pub loop-variable-preserved : goal.loop-variable-preserved
loop-variable-preserved c =
    let variables = c.args.variables.now in
    let place = c.loop-variable.variable-index in
    let v = c.variable-item.result in
    let front = names_in (take place variables) in
    let more = HasSeen-more c.loop-variable.seen c.insert.new.self front c.bytes.result c.loop-variable.invariant c.in-Ok-true.ensures.updates (is_new _ (sym c.in-Ok-true.ensures.added ∙ c.in-Ok-true.field-0-test)) in
    subst (HasSeen c.insert.new.self) (ap (λ (name : List ℕ). front ++ name ∷ []) c.bytes.ensures ∙ sym (names_in-more variables place v c.loop-variable-test.true c.variable-item.is)) more

pub returns : goal.returns
returns c =
    let variables = c.args.variables.now in
    let all = ap names_in (take_all c.loop-variable.variable-index variables c.loop-variable-test.false) in
    (λ yes. subst AreDifferent all (different (names_in (take c.loop-variable.variable-index variables)) c.loop-variable.invariant.distinct), λ differ. refl)
