use Rattle.std.proofs.Common.{[], refl}
use Rattle.ms_text.proofs.Lists.{token_stands, spans_rise, length-tokens}
use Rattle.ms_text.proofs.laws.spans.Goals as goal

pub returns-clause-within : goal.returns-clause-within
returns-clause-within c bytes tokens i token listed at = (token_stands [] bytes 0 tokens i token refl listed at).within

pub returns-clause-nonempty : goal.returns-clause-nonempty
returns-clause-nonempty c bytes tokens i token listed at = (token_stands [] bytes 0 tokens i token refl listed at).nonempty

pub returns-clause-spelled : goal.returns-clause-spelled
returns-clause-spelled c bytes tokens i token listed at = (token_stands [] bytes 0 tokens i token refl listed at).spelled

pub returns-clause-rising : goal.returns-clause-rising
returns-clause-rising c bytes tokens i j one two = spans_rise 0 bytes tokens i j one two

pub returns-clause-count : goal.returns-clause-count
returns-clause-count c bytes tokens = length-tokens 0 bytes tokens
