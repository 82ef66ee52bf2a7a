-- What becomes of what a command asks for: its files are written, and its text is printed; or a file is not written.
use Rattle.std.specs.Prelude.{◌≡◌, ℕ, ◌⊎◌, List, [], map, slice_get, Some}
use Rattle.ms_edge.specs.Counts.{Rose}
use Rattle.ms_edge.specs.Files.{FilesTold}
use Rattle.ms_edge.specs.Sink.{SinkTold}
use Rattle.ms_edge.specs.declared.refusal.Refusal.TheVariants.{WriteFault}
use Rattle.ms_edge.specs.declared.refusal.Status.{Status}
use Rattle.ms_app.specs.Answer.{Prints, answer_of, done_with}
use Rattle.ms_app.specs.Written.{AreHeld, AreHeldUpTo, File}

abbrev pub WasDelivered : FilesTold → FilesTold → SinkTold → SinkTold → List ℕ → List File → Status → Type 0
WasDelivered middle last before after text written status =
    (AreHeld middle.held last.held written × Prints before after (done_with text) status)
    ⊎ ((count : ℕ) × (name : List ℕ) × AreHeldUpTo count middle.held last.held written × (slice_get (map (λ file. file.0) written) count ≡ Some name)
    × Rose middle.faults last.faults × Prints before after (answer_of (WriteFault name) []) status)
