-- What a step finds: what it takes, it takes whatever follows that may follow, at this limit of the depth and above it; where
-- it is stuck, what it has taken by then can be followed, and with the symbol at fault it cannot.
use Rattle.std.proofs.Common.{◌≡◌, ℕ, suc, ◌+◌, ◌≤◌, max, leb, Bool, true, false, cond, ◌⊎◌, inl, inr, List, [], ◌∷◌, ◌++◌, length, Option, Some, None, refl, sym, ap, ◌∙◌, subst, arith}
use Rattle.std.proofs.lemmas.Bool.{le-leb, leb-true}
use Rattle.ms_list.specs.declared.at.At.{At}
use Rattle.ms_logic.specs.declared.source.Int.TheVariants.{Number}
use Rattle.ms_logic.specs.declared.source.PlacedInt.{PlacedInt}
use Rattle.ms_parse_grammar.specs.Symbol.{Symbol, name, number, text, Placed, placed}
use Rattle.ms_parse_steps.specs.inner.Machine.{Frame, Context, Configuration, wanted, Move, took, misplaced, too_deep, frame_depth, enter, with_room, is_mark, either_mark, mark_then, or_else, said_then, name_then, text_then, int_then, symbol_then, step, finished}
use Rattle.ms_parse_steps.specs.inner.Said.{name_of, text_of, int_of}
use Rattle.ms_parse_steps.proofs.Closing.{anywhere, symbol, FramesFit}
use Rattle.ms_parse_steps.proofs.Completions.{Fits}
use Rattle.ms_parse_steps.proofs.Frames.{chosen, chosen_yes, chosen_no}
use Rattle.ms_parse_steps.proofs.Lookahead.{lacks, may_follow}
use Rattle.ms_parse_steps.proofs.Steps.{IsStuck, roomy}

-- with some symbols behind these the step is taken to its end
abbrev pub Opens : (List Placed → Move) → List Placed → Type 0
Opens f front = (more : List Placed) × (s : Configuration) × (f (front ++ more) ≡ took s [])

-- a step that is not taken, or that leads to where none is
abbrev pub Dead : ℕ → Move → Type 0
Dead limit (took s ts) = (finished s ts ≡ None) × IsStuck (step limit s ts)
Dead limit (misplaced from) = Unit {0}
Dead limit (too_deep from) = Unit {0}

-- a step that takes all symbols, alone or with the one behind it
abbrev pub Leads : ℕ → Move → Type 0
Leads limit next = ((s : Configuration) × (next ≡ took s [])) ⊎ ((s s' : Configuration) × (ts : List Placed) × (next ≡ took s ts) × (step limit s ts ≡ took s' []))

-- within the limit and above it the step is not taken with the symbol in front of these
abbrev pub Shuts : ℕ → (ℕ → List Placed → Move) → List Placed → List Placed → Type 0
Shuts limit f front [] = Unit {0}
Shuts limit f front (y ∷ after) = (above : ℕ) (more : List Placed) → limit ≤ above → Dead above (f above (front ++ y ∷ more))

-- within the limit it is not taken with that symbol, and above it it is
abbrev pub ShutsHere : ℕ → (ℕ → List Placed → Move) → List Placed → List Placed → Type 0
ShutsHere limit f front [] = ⊥
ShutsHere limit f front (y ∷ after) =
    ((more : List Placed) → IsStuck (f limit (front ++ y ∷ more))) × (more : List Placed) × Leads (suc (suc limit)) (f (suc (suc limit)) (front ++ y ∷ more))

pub record Takes (limit : ℕ) (f : ℕ → List Placed → Move) (ts : List Placed) (s : Configuration) (rest : List Placed) : Type 0 where
  pub front : List Placed
  pub split : ts ≡ front ++ rest
  pub free : may_follow s rest ≡ true
  pub fits : Fits limit s
  pub again : (above : ℕ) (other : List Placed) → limit ≤ above → may_follow s other ≡ true → f above (front ++ other) ≡ took s other

pub record Refuses (limit : ℕ) (f : ℕ → List Placed → Move) (ts from : List Placed) : Type 0 where
  pub front : List Placed
  pub split : ts ≡ front ++ from
  pub opens : (front ≡ []) ⊎ Opens (f limit) front
  pub shuts : Shuts limit f front from

pub record IsDeep (limit : ℕ) (f : ℕ → List Placed → Move) (ts from : List Placed) : Type 0 where
  pub front : List Placed
  pub split : ts ≡ front ++ from
  pub opens : (front ≡ []) ⊎ Opens (f limit) front
  pub shuts : ShutsHere limit f front from

-- what a step comes to says what it finds
abbrev pub Finds : ℕ → (ℕ → List Placed → Move) → List Placed → Move → Type 0
Finds limit f ts (took s rest) = Takes limit f ts s rest
Finds limit f ts (misplaced from) = Refuses limit f ts from
Finds limit f ts (too_deep from) = IsDeep limit f ts from

-- a step that can be taken, and that finds what it says
pub record Tells (limit : ℕ) (f : ℕ → List Placed → Move) : Type 0 where
  pub opens : Opens (f limit) []
  pub finds : (ts : List Placed) → Finds limit f ts (f limit ts)

pub dead : (limit : ℕ) (next : Move) (from : List Placed) → next ≡ misplaced from → Dead limit next
dead limit next from none = subst (Dead limit) (sym none) tt

pub stuck_deep : (next : Move) (from : List Placed) → next ≡ too_deep from → IsStuck next
stuck_deep next from none = subst IsStuck (sym none) tt

-- a fault at the first symbol
pub first : (limit : ℕ) (f : ℕ → List Placed → Move) (ts : List Placed) → Shuts limit f [] ts → Refuses limit f ts ts
first limit f ts shuts = record { front = []; split = refl; opens = inl refl; shuts = shuts }

pub first_deep : (limit : ℕ) (f : ℕ → List Placed → Move) (ts : List Placed) → ShutsHere limit f [] ts → IsDeep limit f ts ts
first_deep limit f ts shuts = record { front = []; split = refl; opens = inl refl; shuts = shuts }

-- a symbol that is refused
pub refuse : (limit : ℕ) (g : ℕ → List Placed → Move) (y : Placed) (ts : List Placed) → ((l : ℕ) (more : List Placed) → limit ≤ l → g l (y ∷ more) ≡ misplaced (y ∷ more)) → Refuses limit g (y ∷ ts) (y ∷ ts)
refuse limit g y ts none = first limit g (y ∷ ts) (λ above more is. dead above (g above (y ∷ more)) (y ∷ more) (none above more is))

-- a symbol that is taken
pub takes : (limit : ℕ) (g : ℕ → List Placed → Move) (y : Placed) (ts : List Placed) (s : Configuration) → Fits limit s → may_follow s ts ≡ true
    → ((l : ℕ) (more : List Placed) → limit ≤ l → may_follow s more ≡ true → g l (y ∷ more) ≡ took s more) → Takes limit g (y ∷ ts) s ts
takes limit g y ts s fits free same = record { front = y ∷ []; split = refl; free = free; fits = fits; again = λ above other more may. same above other more may }

-- nothing is taken
pub leave : (limit : ℕ) (g : ℕ → List Placed → Move) (ts : List Placed) (s : Configuration) → Fits limit s → may_follow s ts ≡ true
    → ((l : ℕ) (other : List Placed) → limit ≤ l → may_follow s other ≡ true → g l other ≡ took s other) → Takes limit g ts s ts
leave limit g ts s fits free same = record { front = []; split = refl; free = free; fits = fits; again = λ above other more may. same above other more may }

-- behind a symbol that is taken

still_opens : (limit : ℕ) (f g : ℕ → List Placed → Move) (t : Placed) (front : List Placed) → ((l : ℕ) (more : List Placed) → limit ≤ l → g l (t ∷ more) ≡ f l more) → Opens (f limit) []
    → (front ≡ []) ⊎ Opens (f limit) front → Opens (g limit) (t ∷ front)
still_opens limit f g t front same able (inl none) = (able.0, able.1, same limit (front ++ able.0) (omega arith) ∙ ap (λ x. f limit (x ++ able.0)) none ∙ able.2)
still_opens limit f g t front same able (inr opens) = (opens.0, opens.1, same limit (front ++ opens.0) (omega arith) ∙ opens.2)

still_shuts : (limit : ℕ) (f g : ℕ → List Placed → Move) (t : Placed) (front from : List Placed) → ((l : ℕ) (more : List Placed) → limit ≤ l → g l (t ∷ more) ≡ f l more)
    → Shuts limit f front from → Shuts limit g (t ∷ front) from
still_shuts limit f g t front [] same shuts = tt
still_shuts limit f g t front (y ∷ after) same shuts = λ above more is. subst (Dead above) (sym (same above (front ++ y ∷ more) is)) (shuts above more is)

still_shuts_here : (limit : ℕ) (f g : ℕ → List Placed → Move) (t : Placed) (front from : List Placed) → ((l : ℕ) (more : List Placed) → limit ≤ l → g l (t ∷ more) ≡ f l more)
    → ShutsHere limit f front from → ShutsHere limit g (t ∷ front) from
still_shuts_here limit f g t front [] same shuts = shuts
still_shuts_here limit f g t front (y ∷ after) same (none, more, leads) = (
  λ other. subst IsStuck (sym (same limit (front ++ y ∷ other) (omega arith))) (none other),
  more,
  subst (Leads (suc (suc limit))) (sym (same (suc (suc limit)) (front ++ y ∷ more) (omega arith))) leads,
)

pub behind : (limit : ℕ) (f g : ℕ → List Placed → Move) (t : Placed) (ts : List Placed) (next : Move) → ((l : ℕ) (more : List Placed) → limit ≤ l → g l (t ∷ more) ≡ f l more)
    → Opens (f limit) [] → Finds limit f ts next → Finds limit g (t ∷ ts) next
behind limit f g t ts (took s rest) same able is = record {
  front = t ∷ is.front;
  split = ap (λ x. t ∷ x) is.split;
  free = is.free;
  fits = is.fits;
  again = λ above other more may. same above (is.front ++ other) more ∙ is.again above other more may;
}
behind limit f g t ts (misplaced from) same able is = record {
  front = t ∷ is.front;
  split = ap (λ x. t ∷ x) is.split;
  opens = inr (still_opens limit f g t is.front same able is.opens);
  shuts = still_shuts limit f g t is.front from same is.shuts;
}
behind limit f g t ts (too_deep from) same able is = record {
  front = t ∷ is.front;
  split = ap (λ x. t ∷ x) is.split;
  opens = inr (still_opens limit f g t is.front same able is.opens);
  shuts = still_shuts_here limit f g t is.front from same is.shuts;
}

-- a step that goes on as another one does behind a symbol
pub goes : (limit : ℕ) (f g : ℕ → List Placed → Move) (t : Placed) (ts : List Placed) → ((l : ℕ) (more : List Placed) → limit ≤ l → g l (t ∷ more) ≡ f l more) → Tells limit f → Finds limit g (t ∷ ts) (f limit ts)
goes limit f g t ts same tells = behind limit f g t ts (f limit ts) same tells.opens (tells.finds ts)

-- What is wanted next, one after the other.

pub took_tells : (limit : ℕ) (s : Configuration) → Fits limit s → ((ts : List Placed) → may_follow s ts ≡ true) → Tells limit (λ l. took s)
took_tells limit s fits free = record { opens = ([], s, refl); finds = λ ts. leave limit (λ l. took s) ts s fits (free ts) (λ l other more may. refl) }

mark_finds : (limit : ℕ) (m : Symbol) (f : ℕ → List Placed → Move) → Tells limit f → (ts : List Placed) → Finds limit (λ l. mark_then m (f l)) ts (mark_then m (f limit) ts)
mark_finds limit m f tells [] = first limit (λ l. mark_then m (f l)) [] tt
mark_finds limit m f tells (placed s a ∷ ts) =
    let g : ℕ → List Placed → Move = λ l. mark_then m (f l) in
    chosen (Finds limit g (placed s a ∷ ts)) (is_mark m s) (f limit ts) (misplaced (placed s a ∷ ts))
    (λ is. goes limit f g (placed s a) ts (λ l more above. chosen_yes (is_mark m s) (f l more) (misplaced (placed s a ∷ more)) is) tells)
    (λ other. refuse limit g (placed s a) ts (λ l more above. chosen_no (is_mark m s) (f l more) (misplaced (placed s a ∷ more)) other))

pub marked : (m : Symbol) (further other : List Placed → Move) (more : List Placed) → is_mark m m ≡ true → either_mark m further other (symbol m ∷ more) ≡ further more
marked m further other more is = chosen_yes (is_mark m m) (further more) (other (symbol m ∷ more)) is

pub mark_tells : (limit : ℕ) (m : Symbol) (f : ℕ → List Placed → Move) → is_mark m m ≡ true → Tells limit f → Tells limit (λ l. mark_then m (f l))
mark_tells limit m f is tells = record {
  opens = (symbol m ∷ tells.opens.0, tells.opens.1, marked m (f limit) misplaced tells.opens.0 is ∙ tells.opens.2);
  finds = mark_finds limit m f tells;
}

said_or_not : {X : Type 0} (limit : ℕ) (said : Symbol → Option X) (f : At → X → ℕ → List Placed → Move) → ((a : At) (x : X) → Tells limit (f a x)) → (s : Symbol) (a : At) (ts : List Placed) (o : Option X) → said s ≡ o
    → Finds limit (λ l. said_then said (λ a x. f a x l)) (placed s a ∷ ts) (or_else (λ x. f a x limit ts) (misplaced (placed s a ∷ ts)) o)
said_or_not limit said f tells s a ts None is =
    refuse limit (λ l. said_then said (λ a x. f a x l)) (placed s a) ts (λ l more above. ap (or_else (λ x. f a x l more) (misplaced (placed s a ∷ more))) is)
said_or_not limit said f tells s a ts (Some x) is =
    goes limit (f a x) (λ l. said_then said (λ a x. f a x l)) (placed s a) ts (λ l more above. ap (or_else (λ x. f a x l more) (misplaced (placed s a ∷ more))) is) (tells a x)

said_finds : {X : Type 0} (limit : ℕ) (said : Symbol → Option X) (f : At → X → ℕ → List Placed → Move) → ((a : At) (x : X) → Tells limit (f a x)) → (ts : List Placed)
    → Finds limit (λ l. said_then said (λ a x. f a x l)) ts (said_then said (λ a x. f a x limit) ts)
said_finds limit said f tells [] = first limit (λ l. said_then said (λ a x. f a x l)) [] tt
said_finds limit said f tells (placed s a ∷ ts) = said_or_not limit said f tells s a ts (said s) refl

-- the second and third of the arguments are a symbol that is wanted, and what it says
said_tells : {X : Type 0} (limit : ℕ) (s : Symbol) (x : X) (said : Symbol → Option X) (f : At → X → ℕ → List Placed → Move) → said s ≡ Some x → ((a : At) (x : X) → Tells limit (f a x))
    → Tells limit (λ l. said_then said (λ a x. f a x l))
said_tells limit s x said f is tells =
    let (more, end, same) = (tells anywhere x).opens in
    record { opens = (symbol s ∷ more, end, ap (or_else (λ x. f anywhere x limit more) (misplaced (symbol s ∷ more))) is ∙ same); finds = said_finds limit said f tells }

pub name_tells : (limit : ℕ) (f : At → List ℕ → ℕ → List Placed → Move) → ((a : At) (n : List ℕ) → Tells limit (f a n)) → Tells limit (λ l. name_then (λ a n. f a n l))
name_tells limit f tells = said_tells limit (name []) [] name_of f refl tells

pub text_tells : (limit : ℕ) (f : At → List ℕ → ℕ → List Placed → Move) → ((a : At) (t : List ℕ) → Tells limit (f a t)) → Tells limit (λ l. text_then (λ a t. f a t l))
text_tells limit f tells = said_tells limit (text []) [] text_of f refl tells

pub int_tells : (limit : ℕ) (minus : Bool) (f : PlacedInt → ℕ → List Placed → Move) → ((n : PlacedInt) → Tells limit (f n)) → Tells limit (λ l. int_then minus (λ n. f n l))
int_tells limit minus f tells = said_tells limit (number 0) (Number 0) int_of (λ a v. f (record { at = a; value = v; minus = minus })) refl (λ a v. tells (record { at = a; value = v; minus = minus }))

pub symbol_finds : (limit : ℕ) (f : ℕ → At → Symbol → List Placed → List Placed → Move)
    → ((a : At) (s : Symbol) (ts : List Placed) → Finds limit (λ l. symbol_then (f l)) (placed s a ∷ ts) (f limit a s (placed s a ∷ ts) ts)) → (ts : List Placed) → Finds limit (λ l. symbol_then (f l)) ts (symbol_then (f limit) ts)
symbol_finds limit f finds [] = first limit (λ l. symbol_then (f l)) [] tt
symbol_finds limit f finds (placed s a ∷ ts) = finds a s ts

pub symbol_tells : (limit : ℕ) (f : ℕ → At → Symbol → List Placed → List Placed → Move) → Opens (symbol_then (f limit)) []
    → ((a : At) (s : Symbol) (ts : List Placed) → Finds limit (λ l. symbol_then (f l)) (placed s a ∷ ts) (f limit a s (placed s a ∷ ts) ts)) → Tells limit (λ l. symbol_then (f l))
symbol_tells limit f opens finds = record { opens = opens; finds = symbol_finds limit f finds }

-- a symbol, or nothing more

pub negated : (b : Bool) → cond b false true ≡ true → b ≡ false
negated true h = sym h
negated false h = refl

pub unmarked : (m : Symbol) (further other : List Placed → Move) (ts : List Placed) → lacks m ts ≡ true → either_mark m further other ts ≡ other ts
unmarked m further other [] none = refl
unmarked m further other (placed s a ∷ ts) none = chosen_no (is_mark m s) (further ts) (other (placed s a ∷ ts)) (negated (is_mark m s) none)

mark_or_finds : (limit : ℕ) (m : Symbol) (f : ℕ → List Placed → Move) (s : Configuration) → Tells limit f → Fits limit s → ((ts : List Placed) → may_follow s ts ≡ lacks m ts) → (ts : List Placed)
    → Finds limit (λ l. either_mark m (f l) (took s)) ts (either_mark m (f limit) (took s) ts)
mark_or_finds limit m f s tells fits free [] =
    leave limit (λ l. either_mark m (f l) (took s)) [] s fits (free []) (λ l other more may. unmarked m (f l) (took s) other (sym (free other) ∙ may))
mark_or_finds limit m f s tells fits free (placed x a ∷ ts) =
    let g : ℕ → List Placed → Move = λ l. either_mark m (f l) (took s) in
    chosen (Finds limit g (placed x a ∷ ts)) (is_mark m x) (f limit ts) (took s (placed x a ∷ ts))
    (λ is. goes limit f g (placed x a) ts (λ l more above. chosen_yes (is_mark m x) (f l more) (took s (placed x a ∷ more)) is) tells)
    (λ other. leave limit g (placed x a ∷ ts) s fits (free (placed x a ∷ ts) ∙ chosen_no (is_mark m x) false true other) (λ l others more may. unmarked m (f l) (took s) others (sym (free others) ∙ may)))

pub mark_or_tells : (limit : ℕ) (m : Symbol) (f : ℕ → List Placed → Move) (s : Configuration) → Tells limit f → Fits limit s → ((ts : List Placed) → may_follow s ts ≡ lacks m ts) → Tells limit (λ l. either_mark m (f l) (took s))
mark_or_tells limit m f s tells fits free = record { opens = ([], s, refl); finds = mark_or_finds limit m f s tells fits free }

-- a step that ends in a configuration before any symbols that may stand there, and tells of each other symbol

pub either : (A : Type 0) (b : Bool) → (b ≡ true → A) → (b ≡ false → A) → A
either A true one other = one refl
either A false one other = other refl

looked_finds : (limit : ℕ) (g : ℕ → List Placed → Move) (s : Configuration) → Fits limit s → may_follow s [] ≡ true
    → ((l : ℕ) (ts : List Placed) → may_follow s ts ≡ true → g l ts ≡ took s ts)
    → ((y : Placed) (ts : List Placed) → may_follow s (y ∷ ts) ≡ false → Finds limit g (y ∷ ts) (g limit (y ∷ ts))) → (ts : List Placed) → Finds limit g ts (g limit ts)
looked_finds limit g s fits free alone others [] =
    subst (Finds limit g []) (sym (alone limit [] free)) (leave limit g [] s fits free (λ l other above may. alone l other may))
looked_finds limit g s fits free alone others (y ∷ ts) =
    either (Finds limit g (y ∷ ts) (g limit (y ∷ ts))) (may_follow s (y ∷ ts))
    (λ is. subst (Finds limit g (y ∷ ts)) (sym (alone limit (y ∷ ts) is)) (leave limit g (y ∷ ts) s fits is (λ l other above may. alone l other may)))
    (others y ts)

pub looked_tells : (limit : ℕ) (g : ℕ → List Placed → Move) (s : Configuration) → Fits limit s → may_follow s [] ≡ true
    → ((l : ℕ) (ts : List Placed) → may_follow s ts ≡ true → g l ts ≡ took s ts)
    → ((y : Placed) (ts : List Placed) → may_follow s (y ∷ ts) ≡ false → Finds limit g (y ∷ ts) (g limit (y ∷ ts))) → Tells limit g
looked_tells limit g s fits free alone others = record { opens = ([], s, alone limit [] free); finds = looked_finds limit g s fits free alone others }

-- one of two symbols

two_marks_finds : (limit : ℕ) (m k : Symbol) (f h : ℕ → List Placed → Move) → Tells limit f → Tells limit h → (ts : List Placed)
    → Finds limit (λ l. either_mark m (f l) (mark_then k (h l))) ts (either_mark m (f limit) (mark_then k (h limit)) ts)
two_marks_finds limit m k f h one other [] = first limit (λ l. either_mark m (f l) (mark_then k (h l))) [] tt
two_marks_finds limit m k f h one other (placed s a ∷ ts) =
    let g : ℕ → List Placed → Move = λ l. either_mark m (f l) (mark_then k (h l)) in
    chosen (Finds limit g (placed s a ∷ ts)) (is_mark m s) (f limit ts) (mark_then k (h limit) (placed s a ∷ ts))
    (λ is. goes limit f g (placed s a) ts (λ l more above. chosen_yes (is_mark m s) (f l more) (mark_then k (h l) (placed s a ∷ more)) is) one)
    (λ not_m. chosen (Finds limit g (placed s a ∷ ts)) (is_mark k s) (h limit ts) (misplaced (placed s a ∷ ts))
    (λ is. goes limit h g (placed s a) ts
    (λ l more above. chosen_no (is_mark m s) (f l more) (mark_then k (h l) (placed s a ∷ more)) not_m ∙ chosen_yes (is_mark k s) (h l more) (misplaced (placed s a ∷ more)) is) other)
    (λ not_k. refuse limit g (placed s a) ts
    (λ l more above. chosen_no (is_mark m s) (f l more) (mark_then k (h l) (placed s a ∷ more)) not_m ∙ chosen_no (is_mark k s) (h l more) (misplaced (placed s a ∷ more)) not_k)))

pub two_marks_tells : (limit : ℕ) (m k : Symbol) (f h : ℕ → List Placed → Move) → is_mark m m ≡ true → Tells limit f → Tells limit h → Tells limit (λ l. either_mark m (f l) (mark_then k (h l)))
two_marks_tells limit m k f h is one other = record {
  opens = (symbol m ∷ one.opens.0, one.opens.1, marked m (f limit) (mark_then k (h limit)) one.opens.0 is ∙ one.opens.2);
  finds = two_marks_finds limit m k f h one other;
}

-- Where the depth leaves room.

pub entered_at : (limit : ℕ) (c : Context) (f : Frame) (st : List Frame) (otherwise : Move) (ts : List Placed) → suc (length st) + max 1 (frame_depth f) ≤ limit → enter limit c f st otherwise ts ≡ took (wanted c (f ∷ st)) ts
entered_at limit c f st otherwise ts room = chosen_yes (leb (suc (length st) + max 1 (frame_depth f)) limit) (took (wanted c (f ∷ st)) ts) otherwise (le-leb (suc (length st) + max 1 (frame_depth f)) limit room)

pub wanted_fits : (limit : ℕ) (c : Context) (f : Frame) (st : List Frame) → FramesFit limit st → suc (length st) + max 1 (frame_depth f) ≤ limit → Fits limit (wanted c (f ∷ st))
wanted_fits limit c f st fit room = ((fit, omega arith), omega arith, λ n. refl)

-- a symbol that opens a frame
pub enter_finds : (limit : ℕ) (c : Context) (f : Frame) (st : List Frame) (g : ℕ → List Placed → Move) (y : Placed) (ts : List Placed) → FramesFit limit st → ((more : List Placed) → may_follow (wanted c (f ∷ st)) more ≡ true)
    → ((l : ℕ) (more : List Placed) → limit ≤ l → g l (y ∷ more) ≡ enter l c f st (too_deep (y ∷ more)) more) → suc (length st) + max 1 (frame_depth f) ≤ suc (suc limit)
    → Finds limit g (y ∷ ts) (enter limit c f st (too_deep (y ∷ ts)) ts)
enter_finds limit c f st g y ts fit free same room =
    let n = suc (length st) + max 1 (frame_depth f) in
    chosen (Finds limit g (y ∷ ts)) (leb n limit) (took (wanted c (f ∷ st)) ts) (too_deep (y ∷ ts))
    (λ fits. let small = leb-true n limit fits in
    takes limit g y ts (wanted c (f ∷ st)) (wanted_fits limit c f st fit small) (free ts) (λ l more above may. same l more above ∙ entered_at l c f st (too_deep (y ∷ more)) more (omega (arith, small))))
    (λ full. first_deep limit g (y ∷ ts) (
      λ more. stuck_deep (g limit (y ∷ more)) (y ∷ more) (same limit more (omega arith) ∙ chosen_no (leb n limit) (took (wanted c (f ∷ st)) more) (too_deep (y ∷ more)) full),
      [],
      inl (wanted c (f ∷ st), same (suc (suc limit)) [] (omega arith) ∙ entered_at (suc (suc limit)) c f st (too_deep (y ∷ [])) [] room),
    ))

-- a symbol behind which there has to be room
pub room_finds : (limit : ℕ) (st : List Frame) (f : List Placed → Move) (g : ℕ → List Placed → Move) (y : Placed) (ts : List Placed) → Opens f [] → (suc (suc (length st)) ≤ limit → Tells limit (λ l. f))
    → ((l : ℕ) (more : List Placed) → limit ≤ l → g l (y ∷ more) ≡ with_room l st (y ∷ more) (f more)) → suc (length st) ≤ limit → Finds limit g (y ∷ ts) (with_room limit st (y ∷ ts) (f ts))
room_finds limit st f g y ts opens tells same room =
    let n = suc (suc (length st)) in
    chosen (Finds limit g (y ∷ ts)) (leb n limit) (f ts) (too_deep (y ∷ ts))
    (λ fits. let wide = leb-true n limit fits in goes limit (λ l. f) g y ts (λ l more above. same l more above ∙ roomy l st (y ∷ more) (f more) (omega (arith, wide))) (tells wide))
    (λ full. first_deep limit g (y ∷ ts) (
      λ more. stuck_deep (g limit (y ∷ more)) (y ∷ more) (same limit more (omega arith) ∙ chosen_no (leb n limit) (f more) (too_deep (y ∷ more)) full),
      opens.0,
      inl (opens.1, same (suc (suc limit)) opens.0 (omega arith) ∙ roomy (suc (suc limit)) st (y ∷ opens.0) (f opens.0) (omega arith) ∙ opens.2),
    ))
