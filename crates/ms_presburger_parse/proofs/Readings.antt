-- What the machine's state behind some symbols tells of what they begin.
use Rattle.std.proofs.Common.{◌≡◌, ◌≤◌, List, [], ◌++◌, refl, sym, ap, ◌∙◌, subst, arith, append-nil}
use Rattle.ms_presburger.specs.Tree.{Arithmetic, depth}
use Rattle.ms_presburger_parse.specs.Reading.{ReadsAtAnyDepth, Reads, greatest_depth, CanFollow, CanFollowAtAnyDepth}
use Rattle.ms_presburger_parse.specs.Symbol.{Symbol, symbol_of}
use Rattle.ms_parse_stack.specs.inner.Machine.{done, GoesOn}
use Rattle.ms_parse_stack.proofs.Readings.{Reading, Recognises}
use Rattle.ms_parse_stack.proofs.Runs.{run_on, run-append}
use Rattle.ms_parse_stack.proofs.Soundness.{shortest_sound}
use Rattle.ms_parse_stack.proofs.Spellings as spellings
use Rattle.ms_parse_stack.proofs.Spellings.{HasRead, read_run, rest_spelled}
use Rattle.ms_presburger_parse.specs.contracts.frame.LinearArithmeticGrammar.TheImpl.{ghosts}
use Rattle.ms_presburger_parse.specs.inner.Machine.{State, machine, action, run, start, shortest}
use Rattle.ms_presburger_parse.specs.inner.Reached.{reached}
use Rattle.ms_presburger_parse.proofs.Completeness.{reads_whole}
use Rattle.ms_presburger_parse.proofs.Growth.{run_grows}
use Rattle.ms_presburger_parse.proofs.Soundness.{grammar, sound_grammar}
use Rattle.ms_presburger_parse.proofs.Spellings.{acting, spelling, is_spelling}

has_read : (front : List Symbol) → HasRead machine grammar spelling front (reached front)
has_read front = read_run machine grammar spelling sound_grammar is_spelling action [] start front (acting front) (record { sound = (tt, tt); is = λ on. refl })

-- the shortest row of symbols that ends what a state has begun
abbrev rest : State → List Symbol
rest s = spellings.rest spelling s

-- where the machine has not stopped, the symbols begin a formula
pub begins : (front : List Symbol) → GoesOn (reached front) → ReadsAtAnyDepth (front ++ rest (reached front)) (shortest (reached front))
begins front on =
    let h = has_read front in
    record {
      is_spelled = rest_spelled machine grammar spelling sound_grammar is_spelling front (reached front) h on;
      grammatical = shortest_sound machine grammar sound_grammar (reached front) h.sound;
    }

pub follows_deeper : (front : List Symbol) → GoesOn (reached front) → CanFollowAtAnyDepth front
follows_deeper front on = (rest (reached front), shortest (reached front), begins front on)

pub follows : (front : List Symbol) → GoesOn (reached front) → depth (shortest (reached front)) ≤ greatest_depth → CanFollow front
follows front on shallow = (rest (reached front), shortest (reached front), record { read = begins front on; shallow = shallow })

-- symbols that read as a formula are read by the machine as that
pub reached-whole : (all : List Symbol) (f : Arithmetic) → ReadsAtAnyDepth all f → reached all ≡ done f
reached-whole all f reads = ap (run start) reads.is_spelled ∙ reads_whole f reads.grammatical

-- further symbols go on from where the machine is
pub reached-append : (front more : List Symbol) → reached (front ++ more) ≡ run (reached front) more
reached-append front more = run-append machine action start front more

pub goes_on : (front : List Symbol) → CanFollowAtAnyDepth front → GoesOn (reached front)
goes_on front (more, f, reads) =
    let end = sym (reached-append front more) ∙ reached-whole (front ++ more) f reads in
    run_on machine action (reached front) more (subst GoesOn (sym end) tt)

pub is_shallow : (front : List Symbol) → CanFollow front → depth (shortest (reached front)) ≤ greatest_depth
is_shallow front (more, f, reads) =
    let end = sym (reached-append front more) ∙ reached-whole (front ++ more) f reads.read in
    let on = subst GoesOn (sym end) tt in
    let less = run_grows (reached front) more on in
    let small = subst (λ s. depth (shortest (reached front)) ≤ depth (shortest s)) end less in
    omega (arith, small, reads.shallow)

-- which rows of symbols read as a formula, begin one, and would begin one if the depth had no limit
abbrev pub reading : Reading ghosts Symbol
reading = record { symbol_of = symbol_of; reached = reached; Reads = λ all. (f : Arithmetic) × Reads all f; CanFollow = CanFollow; CanFollowAtAnyDepth = CanFollowAtAnyDepth }

pub recognises : Recognises reading
recognises = record {
  whole = λ all reads. record { formula = reads.0; is = reached-whole all reads.0 reads.1.read; shallow = reads.1.shallow };
  front_follows = λ front more reads. (more, reads.0, reads.1);
  deeper = λ front any. (any.0, any.1, any.2.read);
  follows = follows;
  follows_deeper = follows_deeper;
  goes_on = goes_on;
  is_shallow = is_shallow;
}

-- the machine has come to the end
pub reads_done : (all : List Symbol) (f : Arithmetic) → reached all ≡ done f → depth f ≤ greatest_depth → Reads all f
reads_done all f end shallow =
    let P : State → Type 0 = λ s. GoesOn s → ReadsAtAnyDepth (all ++ rest s) (shortest s) in
    record {
      read = subst (λ x. ReadsAtAnyDepth x f) (append-nil all) (subst P end (begins all) tt);
      shallow = shallow;
    }

-- symbols read as one formula at most
pub one_reading : (all : List Symbol) (f f' : Arithmetic) → Reads all f → Reads all f' → f ≡ f'
one_reading all f f' reads reads' =
    let same : done f ≡ done f' = sym (reached-whole all f reads.read) ∙ reached-whole all f' reads'.read in
    cc
