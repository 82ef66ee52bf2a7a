-- What the code holds of an outcome.
use Rattle.monastr_c.specs.declared.outcome.Held.{Held}
use Rattle.monastr_c.specs.Request.{Outcome}

abbrev pub outcome_of : Held → Outcome
outcome_of held = record { status = held.status; text = held.text.items; written = held.written.items; lengths = held.lengths.items }
