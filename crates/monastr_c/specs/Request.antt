-- What a request asks, and what it comes to.
use Rattle.std.specs.Prelude.{◌≡◌, ℕ, List, All, IsUtf8, length, sum}
use Rattle.ms_edge.specs.declared.refusal.Status.{Status}
use Rattle.ms_edge.specs.FilesInMemory.{Entry}
use Rattle.monastr_c.specs.declared.request.FileLengths.{FileLengths}
use Rattle.monastr_c.specs.declared.request.Request.{Request}
use Rattle.monastr_c.specs.Buffers.{FilesAddUp, files_in, names_in, pieces}
use Rattle.monastr_c.specs.Ran.{Ran}

-- the words that it has
abbrev pub words_in : Request → List (List ℕ)
words_in request = pieces request.words.now request.word_lengths.now

-- the files that it hands over
abbrev pub given_in : Request → List Entry
given_in request = files_in request.files.now request.file_lengths.now

-- its lengths add up to its bytes
pub record AddUp (request : Request) : Type 0 where
  pub words : sum request.word_lengths.now ≡ length request.words.now
  pub files : FilesAddUp request.files.now request.file_lengths.now

-- its words and the names of its files are text
pub record AreTexts (request : Request) : Type 0 where
  pub words : All IsUtf8 (words_in request)
  pub names : All IsUtf8 (names_in request.files.now request.file_lengths.now)

-- what a request may come to: a status, the text that is printed, and the files that are written, as bytes and lengths
pub record Outcome : Type 0 where
  pub status : Status
  pub text : List ℕ
  pub written : List ℕ
  pub lengths : List FileLengths

-- that is what its words come to over its files
pub record IsOutcome (request : Request) (outcome : Outcome) : Type 0 where
  pub lengths : AddUp request
  pub texts : AreTexts request
  pub ran : Ran (words_in request) (given_in request) outcome.status outcome.text (files_in outcome.written outcome.lengths)
  pub files : FilesAddUp outcome.written outcome.lengths
