-- What the machine's state behind some symbols tells of what they begin.
use Rattle.std.proofs.Common.{◌≡◌, ℕ, ◌<◌, ◌≤◌, List, [], ◌∷◌, ◌++◌, length, get_or, refl, sym, ap, ◌∙◌, subst, arith, append-nil}
use Rattle.ms_ltlf.specs.Tree.{Temporal, depth}
use Rattle.ms_ltlf_parse.specs.Grammar.{Names}
use Rattle.ms_ltlf_parse.specs.Reading.{place, with_sights, first_sights, ReadsAtAnyDepth, Reads, greatest_depth, CanFollow, CanFollowAtAnyDepth}
use Rattle.ms_ltlf_parse.specs.Symbol.{Symbol, semicolon, symbol_of}
use Rattle.ms_parse_stack.specs.inner.Frames.{in_brackets, behind_prefix, behind_infix, behind_joining}
use Rattle.ms_parse_stack.specs.inner.Machine.{within, done, stopped, GoesOn}
use Rattle.ms_parse_stack.proofs.Readings.{Reading, Recognises}
use Rattle.ms_parse_stack.proofs.Runs.{run_on, run-append}
use Rattle.ms_parse_stack.proofs.Soundness.{shortest_sound}
use Rattle.ms_parse_stack.proofs.Spellings as spellings
use Rattle.ms_parse_stack.proofs.Spellings.{closing, HasRead, read_run, rest_spelled}
use Rattle.ms_ltlf_parse.specs.contracts.frame.TemporalLogicGrammar.TheImpl.{ghosts}
use Rattle.ms_ltlf_parse.specs.inner.Machine.{Frame, State, wanted, holding, machine, action, run, start, shortest}
use Rattle.ms_ltlf_parse.specs.inner.Reached.{reached}
use Rattle.ms_ltlf_parse.proofs.Completeness.{reads_whole}
use Rattle.ms_ltlf_parse.proofs.Growth.{run_grows}
use Rattle.ms_ltlf_parse.proofs.Names.{place-get, different_first_sights, among_sights, are_acting, sights_go, run-further, with_sights-append, Goes}
use Rattle.ms_ltlf_parse.proofs.Soundness.{grammar, sound_grammar}
use Rattle.ms_ltlf_parse.proofs.Spellings.{spelling, is_spelling}

has_read : (front : List Symbol) → HasRead machine (grammar (length (first_sights front))) (spelling (first_sights front)) front (reached front)
has_read front =
    let names = first_sights front in
    let first : HasRead machine (grammar (length names)) (spelling names) [] start = record { sound = (tt, tt); is = λ on. refl } in
    read_run machine (grammar (length names)) (spelling names) (sound_grammar (length names)) (is_spelling names) (action (place names)) [] start front (are_acting names front (among_sights [] front)) first

-- the shortest row of symbols that ends what a state has begun
abbrev rest : Names → State → List Symbol
rest names s = spellings.rest (spelling names) s

with_sights-closing : (ms names : Names) (frames : List Frame) → with_sights ms (closing (spelling names) frames ++ semicolon ∷ []) ≡ ms
with_sights-closing ms names [] = refl
with_sights-closing ms names (in_brackets ∷ frames) = with_sights-closing ms names frames
with_sights-closing ms names (behind_prefix op ∷ frames) = with_sights-closing ms names frames
with_sights-closing ms names (behind_infix op left ∷ frames) = with_sights-closing ms names frames
with_sights-closing ms names (behind_joining op operands ∷ frames) = with_sights-closing ms names frames

with_sights-rest : (ms names : Names) (s : State) → with_sights ms (rest names s) ≡ ms
with_sights-rest ms names (within frames wanted) = with_sights-closing ms names frames
with_sights-rest ms names (within frames (holding f)) = with_sights-closing ms names frames
with_sights-rest ms names (done f) = refl
with_sights-rest ms names stopped = refl

-- where the machine has not stopped, the symbols begin a formula
pub begins : (front : List Symbol) → GoesOn (reached front) → ReadsAtAnyDepth (front ++ rest (first_sights front) (reached front)) (first_sights front) (shortest (reached front))
begins front on =
    let names = first_sights front in
    let h = has_read front in
    let part = shortest_sound machine (grammar (length names)) (sound_grammar (length names)) (reached front) h.sound in
    record {
      is_spelled = rest_spelled machine (grammar (length names)) (spelling names) (sound_grammar (length names)) (is_spelling names) front (reached front) h on;
      grammatical = part.0;
      numbered = sym (with_sights-append [] front (rest (first_sights front) (reached front)) ∙ with_sights-rest names names (reached front));
      named = part.1;
    }

pub follows_deeper : (front : List Symbol) → GoesOn (reached front) → CanFollowAtAnyDepth front
follows_deeper front on = (rest (first_sights front) (reached front), first_sights front, shortest (reached front), begins front on)

pub follows : (front : List Symbol) → GoesOn (reached front) → depth (shortest (reached front)) ≤ greatest_depth → CanFollow front
follows front on shallow = (rest (first_sights front) (reached front), first_sights front, shortest (reached front), record { read = begins front on; shallow = shallow })

-- symbols that read as a formula are read by the machine as that
pub reached-whole : (all : List Symbol) (names : Names) (f : Temporal) → ReadsAtAnyDepth all names f → reached all ≡ done f
reached-whole all names f reads =
    let different = subst (λ (x : Names). (i : ℕ) → i < length x → place x (get_or x i []) ≡ i) (sym reads.numbered) (place-get (first_sights all) (different_first_sights all)) in
    ap (λ x. run (place x) start all) (sym reads.numbered) ∙ ap (run (place names) start) reads.is_spelled
    ∙ reads_whole names (place names) different f reads.grammatical reads.named

-- further symbols go on from where the machine is
pub reached-append : (front more : List Symbol) → reached (front ++ more) ≡ run (place (first_sights (front ++ more))) (reached front) more
reached-append front more =
    let number = place (first_sights (front ++ more)) in
    let go = subst (Goes (length more) (first_sights front)) (sym (with_sights-append [] front more)) (sights_go (first_sights front) more) in
    run-append machine (action number) start front more ∙ ap (λ s. run number s more) (run-further (length more) (first_sights front) (first_sights (front ++ more)) start front go (among_sights [] front))

pub goes_on : (front : List Symbol) → CanFollowAtAnyDepth front → GoesOn (reached front)
goes_on front (more, names, f, reads) =
    let end = sym (reached-append front more) ∙ reached-whole (front ++ more) names f reads in
    run_on machine (action (place (first_sights (front ++ more)))) (reached front) more (subst GoesOn (sym end) tt)

pub is_shallow : (front : List Symbol) → CanFollow front → depth (shortest (reached front)) ≤ greatest_depth
is_shallow front (more, names, f, reads) =
    let end = sym (reached-append front more) ∙ reached-whole (front ++ more) names f reads.read in
    let on = subst GoesOn (sym end) tt in
    let less = run_grows (place (first_sights (front ++ more))) (reached front) more on in
    let small = subst (λ s. depth (shortest (reached front)) ≤ depth (shortest s)) end less in
    omega (arith, small, reads.shallow)

-- which rows of symbols read as a formula, begin one, and would begin one if the depth had no limit
abbrev pub reading : Reading ghosts Symbol
reading = record { symbol_of = symbol_of; reached = reached; Reads = λ all. (names : Names) × (f : Temporal) × Reads all names f; CanFollow = CanFollow; CanFollowAtAnyDepth = CanFollowAtAnyDepth }

pub recognises : Recognises reading
recognises = record {
  whole = λ all reads. record { formula = reads.1; is = reached-whole all reads.0 reads.1 reads.2.read; shallow = reads.2.shallow };
  front_follows = λ front more reads. (more, reads.0, reads.1, reads.2);
  deeper = λ front any. (any.0, any.1, any.2, any.3.read);
  follows = follows;
  follows_deeper = follows_deeper;
  goes_on = goes_on;
  is_shallow = is_shallow;
}

-- the machine has come to the end
pub reads_done : (all : List Symbol) (f : Temporal) → reached all ≡ done f → depth f ≤ greatest_depth → Reads all (first_sights all) f
reads_done all f end shallow =
    let P : State → Type 0 = λ s. GoesOn s → ReadsAtAnyDepth (all ++ rest (first_sights all) s) (first_sights all) (shortest s) in
    record {
      read = subst (λ x. ReadsAtAnyDepth x (first_sights all) f) (append-nil all) (subst P end (begins all) tt);
      shallow = shallow;
    }

-- symbols read as one formula at most
pub one_reading : (all : List Symbol) (names names' : Names) (f f' : Temporal) → Reads all names f → Reads all names' f' → (names ≡ names') × (f ≡ f')
one_reading all names names' f f' reads reads' =
    let same : done f ≡ done f' = sym (reached-whole all names f reads.read) ∙ reached-whole all names' f' reads'.read in
    (reads.read.numbered ∙ sym reads'.read.numbered, cc)
