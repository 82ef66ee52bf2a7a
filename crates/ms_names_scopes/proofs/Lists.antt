-- Lists that are gone through item by item: what is found so far and what the rest gives.
use Rattle.std.proofs.Common.{◌≡◌, ℕ, ◌+◌, List, [], ap, ◌∙◌, arith, get_or, length, sym, take, ◌<◌}
use Rattle.ms_logic.specs.declared.mode.Order.{Order}
use Rattle.ms_names_rules.specs.declared.meaning.Meaning.TheVariants.{Variable}
use Rattle.ms_names_rules.specs.Scope.{bind, under_parts, count_of_parts}
use Rattle.ms_names_rules.specs.inner.Binder.{default_for}
use Rattle.ms_names_rules.specs.Reads.{readings_of_bounds, readings_of_default}
use Rattle.ms_names_rules.proofs.Lists.{default-readings, count_of_parts-length}
use Rattle.ms_names_scopes.specs.inner.Found.{Found, noted}
use Rattle.ms_names_scopes.proofs.Repeats.{noted-noted}
use Rattle.ms_parse_grammar.specs.View.{part_of, parts_of, variable_of, variables_of}
use Rattle.std.proofs.lemmas.List.{length-take}
use Rattle.ms_names_rules.proofs.Operands.{parts-more, variables-more}
use Rattle.ms_names_rules.proofs.Repeats.{part_name-out}
use Rattle.ms_logic.specs.declared.source.Bound.{Bound}
use Rattle.ms_logic.specs.declared.source.LetPart.{LetPart, out-LetPart}

pub defaults-next : (s t u : Found) (vs : List Bound) (i : ℕ) (v : Bound) → i < length vs → v ≡ get_or vs i v →
    t ≡ noted s [] (readings_of_bounds s.scope (variables_of (take i vs))) →
    u ≡ noted t [] (readings_of_default (default_for t.scope (variable_of v).order (variable_of v).domain)) →
    u ≡ noted s [] (readings_of_bounds s.scope (variables_of (take (i + 1) vs)))
defaults-next s t u vs i v below is before here =
    let all = variables_of (take i vs) in
    let own = readings_of_default (default_for s.scope (variable_of v).order (variable_of v).domain) in
    here
    ∙ (ap (λ there. noted there [] (readings_of_default (default_for there.scope (variable_of v).order (variable_of v).domain))) before
    ∙ (noted-noted s [] [] (readings_of_bounds s.scope all) own
    ∙ (ap (noted s []) (default-readings s.scope (variable_of v).at (variable_of v).order (variable_of v).name (variable_of v).domain all)
    ∙ ap (λ there. noted s [] (readings_of_bounds s.scope there)) (variables-more vs i v below is))))

-- the next name of a `let`
pub names-next : (s t u : Found) (first x : ℕ) (o : Order) (ps : List LetPart) (i : ℕ) (p : LetPart) → i < length ps → p ≡ get_or ps i p →
    t ≡ record s { scope = under_parts s.scope first o (parts_of (take i ps)) } → x ≡ first + i →
    u ≡ record t { scope = bind (out-LetPart p).name (Variable x o) t.scope } →
    u ≡ record s { scope = under_parts s.scope first o (parts_of (take (i + 1) ps)) }
names-next s t u first x o ps i p below is before number here =
    let inner = under_parts s.scope first o (parts_of (take i ps)) in
    let count = count_of_parts-length (take i ps) in
    let taken = length-take i ps in
    let at : x ≡ first + count_of_parts (parts_of (take i ps)) = omega (arith, number, count, taken, below) in
    let F : Found → Found = λ there. record there { scope = bind (out-LetPart p).name (Variable x o) there.scope } in
    here
    ∙ (ap F before
    ∙ (ap (λ n. record s { scope = bind n (Variable x o) inner }) (sym (part_name-out p))
    ∙ (ap (λ y. record s { scope = bind (part_of p).name (Variable y o) inner }) at
    ∙ ap (λ all. record s { scope = under_parts s.scope first o all }) (parts-more ps i p below is))))
