-- A source that fits is printed.
use Rattle.std.proofs.Common.{◌≡◌, ℕ, List, ◌++◌}
use Rattle.ms_logic.specs.declared.source.Source.{Source}
use Rattle.ms_parse_grammar.specs.Declarations.{Fits}
use Rattle.ms_parse_grammar.specs.View.{document_of}
use Rattle.ms_parse_print.specs.inner.Printed.{text_of}
use Rattle.ms_parse_print.specs.Text.{IsTextOf}
use Rattle.ms_parse_print.proofs.Fitting.{is_printable}
use Rattle.ms_parse_print.proofs.Sources.{is_text}

pub is_text_of : (source : Source) (old new : List ℕ) → Fits source → new ≡ old ++ text_of (document_of source) → (printed : List ℕ) × (new ≡ old ++ printed) × IsTextOf source printed
is_text_of source old new fits appended = (text_of (document_of source), appended, is_text source (is_printable source fits))
