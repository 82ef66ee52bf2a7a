use Rattle.std.proofs.Common.{◌≤◌, ◌^◌, IfNone, sym, subst}
use Rattle.std.specs.Str.Parse.{digits_value, ParsesUnsigned}
use Rattle.std.proofs.lemmas.Str.Parse.{parse_digits}
use Rattle.ms_text.proofs.Fronts.{digit_texts, digits_are_text, large_unless_parsed}
use Rattle.ms_text.proofs.scan.number_of.Goals as goal

pub returns-in-Ok-clause-large : goal.returns-in-Ok-clause-large
returns-in-Ok-clause-large c =
    let digits = c.args.digits.now in
    let read = subst (λ text. ParsesUnsigned 64 10 text c.parse.result) c.in-Ok.ensures.cases.0 c.parse.ensures.value.0 in
    subst (λ ok. IfNone ok (2 ^ 64 ≤ digits_value 10 digits)) (sym c.ok.ensures.value)
    (large_unless_parsed c.parse.result _ _ (parse_digits digit_texts 64 digits c.parse.result read c.requires.digits) c.requires.nonempty)

pub returns-in-Err-clause-large : goal.returns-in-Err-clause-large
returns-in-Err-clause-large c = absurd (c.in-Err.ensures.cases.0 (digits_are_text c.args.digits.now c.requires.digits))
