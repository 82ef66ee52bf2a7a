-- A call within a request, by what the files told.
use Rattle.std.specs.Prelude.{◌≡◌}
use Rattle.ms_edge.specs.Files.{NoCountFell, Seen}

-- the call, which saw this of the files, is a part of the request
pub record IsPart (call request : Seen) : Type 0 where
  pub held : call.before.held ≡ request.before.held
  pub before : NoCountFell request.before call.before
  pub during : NoCountFell call.before call.after
  pub after : NoCountFell call.after request.after
