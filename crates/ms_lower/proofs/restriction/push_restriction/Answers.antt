use Rattle.std.proofs.Common.{◌++◌, ◌∷◌, [], map, sym, ap, ◌∙◌, append-nil}
use Rattle.std.proofs.lemmas.List.{map-append}
use Rattle.ms_logic_core.specs.CoreForm.{core_form_of, restrict}
use Rattle.ms_lower.proofs.restriction.push_restriction.Goals as goal

pub returns-in-None-clause-cores : goal.returns-in-None-clause-cores
returns-in-None-clause-cores c = rw c.in-None.is (sym (append-nil (map core_form_of c.args.cores.now)))

pub returns-in_ok-push-in-Some-clause-cores : goal.returns-in_ok-push-in-Some-clause-cores
returns-in_ok-push-in-Some-clause-cores c =
    let cores = c.args.cores.now in
    rw c.in-Some.is (ap (map core_form_of) c.in_ok-push-in-Some.ensures.ok ∙ map-append core_form_of cores (c.into_inner.result ∷ [])
    ∙ ap (λ k. map core_form_of cores ++ k ∷ []) (ap core_form_of c.into_inner.ensures ∙ c.in_ok-restricted-in-Some.ensures ∙ ap restrict c.in_ok-core-in-Some.ensures.core))
