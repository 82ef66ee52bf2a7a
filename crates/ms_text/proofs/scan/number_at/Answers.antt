use Rattle.std.specs.Char.{is_ascii_digit}
use Rattle.ms_text.proofs.Fronts.{run_passes, run_nonempty, number_token, number_too_large}
use Rattle.ms_text.proofs.scan.number_at.Goals as goal

pub number_of-requires-clause-digits : goal.number_of-requires-clause-digits
number_of-requires-clause-digits c = run_passes is_ascii_digit c.args.rest.now _ c.digits_length-length.ensures.run

pub returns-in-Some-clause-token : goal.returns-in-Some-clause-token
returns-in-Some-clause-token c =
    number_token c.args.rest.now _ _ c.digits_length-length.ensures.run
    (run_nonempty is_ascii_digit c.args.rest.now _ c.requires.nonempty c.requires.digit c.digits_length-length.ensures.run)
    c.in-Some.ensures.value c.in-Some.ensures.small

pub returns-in-None-clause-fault : goal.returns-in-None-clause-fault
returns-in-None-clause-fault c =
    number_too_large c.args.rest.now _ c.digits_length-length.ensures.run
    (run_nonempty is_ascii_digit c.args.rest.now _ c.requires.nonempty c.requires.digit c.digits_length-length.ensures.run)
    c.in-None.ensures.large
