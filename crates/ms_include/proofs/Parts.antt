-- Calls as parts of a request.
use Rattle.std.proofs.Common.{refl, ◌∙◌, arith}
use Rattle.ms_edge.specs.Files.{FilesTold, NoCountFell, OnlyRead, Seen, between}
use Rattle.ms_include.specs.inner.Seen.{IsPart}

pub same-counts : (told : FilesTold) → NoCountFell told told
same-counts told = record { faults = omega arith; absences = omega arith; overlongs = omega arith }

pub later-counts : (one two three : FilesTold) → NoCountFell one two → NoCountFell two three → NoCountFell one three
later-counts one two three first second = record {
  faults = omega (arith, first.faults, second.faults);
  absences = omega (arith, first.absences, second.absences);
  overlongs = omega (arith, first.overlongs, second.overlongs);
}

-- one call after another
pub later-read : (one two three : FilesTold) → OnlyRead one two → OnlyRead two three → OnlyRead one three
later-read one two three first second = record {
  held = second.held ∙ first.held;
  counts = later-counts one two three first.counts second.counts;
}

pub only-nothing : (told : FilesTold) → OnlyRead told told
only-nothing told = record { held = refl; counts = same-counts told }

-- the first of two calls
pub first-part : (one two three : FilesTold) (request : Seen) → IsPart (between one three) request → OnlyRead one two → OnlyRead two three → IsPart (between one two) request
first-part one two three request part first second = record {
  held = part.held;
  before = part.before;
  during = first.counts;
  after = later-counts two three request.after second.counts part.after;
}

-- the second of two calls
pub second-part : (one two three : FilesTold) (request : Seen) → IsPart (between one three) request → OnlyRead one two → OnlyRead two three → IsPart (between two three) request
second-part one two three request part first second = record {
  held = first.held ∙ part.held;
  before = later-counts request.before one two part.before first.counts;
  during = second.counts;
  after = part.after;
}

-- a call that is the whole request
pub whole : (one two : FilesTold) → OnlyRead one two → IsPart (between one two) (between one two)
whole one two read = record { held = refl; before = same-counts one; during = read.counts; after = same-counts two }
