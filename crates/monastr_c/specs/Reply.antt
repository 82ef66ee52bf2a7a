-- How a caller gets what a request came to, or what it needs for that.
use Rattle.std.specs.Prelude.{◌≡◌, ℕ, ◌+◌, ◌<◌, ◌⊎◌, List, ◌++◌, length, drop}
use Rattle.monastr_c.specs.declared.request.Answer.{Answer}
use Rattle.monastr_c.specs.declared.request.FileLengths.{FileLengths}
use Rattle.monastr_c.specs.declared.request.Request.{Request}
use Rattle.monastr_c.specs.Ran.{number_of}
use Rattle.monastr_c.specs.Request.{IsOutcome, Outcome}

-- how much an outcome needs
abbrev pub sizes_of : Outcome → Answer
sizes_of outcome = record {
  text = length outcome.text;
  bytes = length outcome.text + length outcome.written;
  files = length outcome.lengths;
}

-- the front of a room has become these items, and the rest is as before
abbrev pub Begins : {A : Type 0} → List A → List A → List A → Type 0
Begins old new items = new ≡ items ++ drop (length items) old

-- what the request came to was given: its number, how much it needs, the text and behind it the written files, and their lengths
pub record IsGiven (request : Request) (status : ℕ) (room room' : List ℕ) (written written' : List FileLengths) (answer : Answer) : Type 0 where
  pub outcome : Outcome
  pub is : IsOutcome request outcome
  pub number : status ≡ number_of outcome.status
  pub sizes : answer ≡ sizes_of outcome
  pub bytes : Begins room room' (outcome.text ++ outcome.written)
  pub lengths : Begins written written' outcome.lengths

-- what the request came to needs more than so many bytes and files, and how much was told
pub record IsTooLong (request : Request) (bytes files : ℕ) (answer : Answer) : Type 0 where
  pub outcome : Outcome
  pub is : IsOutcome request outcome
  pub sizes : answer ≡ sizes_of outcome
  pub more : (bytes < answer.bytes) ⊎ (files < answer.files)
