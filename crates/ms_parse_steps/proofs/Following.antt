-- What can follow the symbols up to a fault, and what cannot.
use Rattle.std.proofs.Common.{◌≡◌, ℕ, zero, suc, ◌≤◌, true, false, ◌⊎◌, inl, inr, List, [], ◌∷◌, ◌++◌, refl, sym, arith, ap, ◌∙◌, subst, append_assoc}
use Rattle.std.proofs.lemmas.List.{append-nil, append_cancel_right}
use Rattle.ms_list.specs.declared.at.At.{At}
use Rattle.ms_parse_grammar.specs.Symbol.{word_ws1s, Placed, placed}
use Rattle.ms_parse_grammar.specs.Tree.{Document}
use Rattle.ms_parse_steps.specs.inner.Machine.{Configuration, outside, start, step, took, Runs}
use Rattle.ms_parse_steps.proofs.Beginning.{no_header, Headed, header_or_none, none_or_begun, RunsPlain, none_or_plain}
use Rattle.ms_parse_steps.proofs.Closing.{RunsToEnd, further}
use Rattle.ms_parse_steps.proofs.Completions.{Fits, can_end}
use Rattle.ms_parse_steps.proofs.Headers.{is_header_word, document_read}
use Rattle.ms_parse_steps.proofs.Limits.{ReadsWithin}
use Rattle.ms_parse_steps.proofs.Lookahead.{may_follow}
use Rattle.ms_parse_steps.proofs.Reached.{may_follow_first, taken, Reached}
use Rattle.ms_parse_steps.proofs.Runs.{runs_read}

-- some list of symbols that begins so is a document within the limit
abbrev pub CanFollowWithin : ℕ → List Placed → Type 0
CanFollowWithin limit front = (more : List Placed) × (d : Document) × ReadsWithin limit (front ++ more) d

-- nothing has been taken, or these symbols can be led to the end
abbrev pub GoesOn : ℕ → Configuration → List Placed → Type 0
GoesOn limit s front = (front ≡ []) ⊎ ((more : List Placed) × RunsToEnd limit s (front ++ more))

-- nothing is read where the symbol follows
abbrev pub Shuts : ℕ → Configuration → List Placed → Placed → Type 0
Shuts limit s front y = (more : List Placed) (d : Document) → ¬ (Runs limit s (front ++ y ∷ more) d)

-- a step can be taken, and further steps to the end
pub step_ends : (limit : ℕ) (s s' : Configuration) (ts : List Placed) → 1 ≤ limit → Fits limit s → step limit s ts ≡ took s' [] → (more : List Placed) × RunsToEnd limit s (ts ++ more)
step_ends limit s s' ts some fits stepped =
    let whole = taken limit s s' ts [] some fits stepped in
    let end = can_end limit s' whole.fits in
    let same : whole.first ∷ (whole.others ++ end.more) ≡ ts ++ end.more =
    ap (λ l. l ++ end.more) (ap (λ l. whole.first ∷ l) (sym (append-nil whole.others)) ∙ sym whole.split) in
    (end.more, subst (RunsToEnd limit s) same (further limit s s' (whole.first ∷ (whole.others ++ end.more)) end.more (whole.again limit end.more (omega arith) end.follows) end.ends))

-- the symbols of a step begin as those that it has found
begins_alike : (s : Configuration) (front after more : List Placed) (y : Placed) → may_follow s (front ++ y ∷ after) ≡ true → may_follow s (front ++ y ∷ more) ≡ true
begins_alike s [] after more y may = may_follow_first s y more after ∙ may
begins_alike s (x ∷ front) after more y may = may_follow_first s x (front ++ y ∷ more) (front ++ y ∷ after) ∙ may

follows_on : (s : Configuration) (x : Placed) (front after more : List Placed) → may_follow s ((x ∷ front) ++ after) ≡ true → may_follow s ((x ∷ front) ++ more) ≡ true
follows_on s x front after more may = may_follow_first s x (front ++ more) (front ++ after) ∙ may

-- from the configuration on, and so from the beginning on
runs_through : (limit : ℕ) (d0 : Document) (body : List Placed) (s : Configuration) (ts front more : List Placed) → (here : Reached limit d0 body s ts) → may_follow s (front ++ more) ≡ true → RunsToEnd limit s (front ++ more)
    → RunsToEnd limit (outside d0) ((here.done ++ front) ++ more)
runs_through limit d0 body s ts front more here may (d, runs) =
    subst (RunsToEnd limit (outside d0)) (sym (append_assoc here.done front more)) (d, (here.runs (front ++ more) may d).1 runs)

opens_to_end : (limit : ℕ) (d0 : Document) (body : List Placed) (s : Configuration) (ts front after : List Placed) → 1 ≤ limit → (here : Reached limit d0 body s ts) → ts ≡ front ++ after → GoesOn limit s front
    → (more : List Placed) × RunsToEnd limit (outside d0) ((here.done ++ front) ++ more)
opens_to_end limit d0 body s ts [] after some here split opens =
    let end = can_end limit s here.fits in
    (end.more, runs_through limit d0 body s ts [] end.more here end.follows end.ends)
opens_to_end limit d0 body s ts (x ∷ front) after some here split (inl none) = let never : ⊥ = cc in absurd never
opens_to_end limit d0 body s ts (x ∷ front) after some here split (inr (more, runs)) =
    (more, runs_through limit d0 body s ts (x ∷ front) more here (follows_on s x front after more (ap (may_follow s) (sym split) ∙ here.free)) runs)

-- symbols behind which the automaton begins with this document are read
read_from : (limit : ℕ) (all body : List Placed) (d0 : Document) → 1 ≤ limit → start all ≡ (d0, body) → RunsToEnd limit (outside d0) body → (d : Document) × ReadsWithin limit all d
read_from limit all body d0 some begun (d, runs) =
    (d, runs_read limit some all d (subst (λ (x : Document × List Placed). Runs limit (outside x.0) x.1 d) (sym begun) runs))

run_from : (limit : ℕ) (all body : List Placed) (d0 d : Document) → start all ≡ (d0, body) → ReadsWithin limit all d → Runs limit (outside d0) body d
run_from limit all body d0 d begun reads = subst (λ (x : Document × List Placed). Runs limit (outside x.0) x.1 d) begun (document_read limit all d reads)

-- What stands before the symbols that are left is the header and what has been done.
header_before : (all body header done rest after before : List Placed) → all ≡ header ++ body → body ≡ done ++ (rest ++ after) → all ≡ before ++ after → before ≡ header ++ (done ++ rest)
header_before all body header done rest after before whole split cut =
    append_cancel_right before (header ++ (done ++ rest)) after
    (sym cut ∙ whole ∙ ap (λ l. header ++ l) (split ∙ sym (append_assoc done rest after)) ∙ sym (append_assoc header (done ++ rest) after))

-- the symbols begin with the header, or there is none
record Behind (all : List Placed) (d0 : Document) (body : List Placed) : Type 0 where
  pub header : List Placed
  pub split : all ≡ header ++ body
  pub again : ((other : List Placed) → start (header ++ other) ≡ (d0, other)) ⊎ ((header ≡ []) × (d0 ≡ no_header) × (start all ≡ (no_header, all)))

behind_of : (all body : List Placed) (d0 : Document) → start all ≡ (d0, body) → Headed all ⊎ (start all ≡ (no_header, all)) → Behind all d0 body
behind_of all body d0 begun (inl is) =
    let both : (is.document, is.rest) ≡ (d0, body) = sym (ap start is.split ∙ is.again is.rest) ∙ begun in
    let same : is.document ≡ d0 = ap (λ (x : Document × List Placed). x.0) both in
    let rest : is.rest ≡ body = ap (λ (x : Document × List Placed). x.1) both in
    record { header = is.header; split = is.split ∙ ap (λ l. is.header ++ l) rest; again = inl (λ other. is.again other ∙ ap (λ d. (d, other)) same) }
behind_of all body d0 begun (inr none) =
    let both : (no_header, all) ≡ (d0, body) = sym none ∙ begun in
    record { header = []; split = ap (λ (x : Document × List Placed). x.1) both; again = inr (refl, sym (ap (λ (x : Document × List Placed). x.0) both), none) }

opened_plain : (limit : ℕ) (front more : List Placed) → 1 ≤ limit → RunsToEnd limit (outside no_header) (front ++ more)
    → (start (front ++ more) ≡ (no_header, front ++ more)) ⊎ ((rest : List Placed) × (d : Document) × (start (front ++ rest) ≡ (d, []))) → CanFollowWithin limit front
opened_plain limit front more some runs (inl none) = let read = read_from limit (front ++ more) (front ++ more) no_header some none runs in (more, read.0, read.1)
opened_plain limit front more some runs (inr (rest, d, begun)) = let read = read_from limit (front ++ rest) [] d some begun (d, (0, refl)) in (rest, read.0, read.1)

opened_behind : (limit : ℕ) (all body : List Placed) (d0 : Document) (header front more after : List Placed) → 1 ≤ limit
    → ((other : List Placed) → start (header ++ other) ≡ (d0, other)) ⊎ ((header ≡ []) × (d0 ≡ no_header) × (start all ≡ (no_header, all)))
    → all ≡ (header ++ front) ++ after → RunsToEnd limit (outside d0) (front ++ more) → CanFollowWithin limit (header ++ front)
opened_behind limit all body d0 header front more after some (inl again) split runs =
    let read = read_from limit ((header ++ front) ++ more) (front ++ more) d0 some (ap start (append_assoc header front more) ∙ again (front ++ more)) runs in (more, read.0, read.1)
opened_behind limit all body d0 header front more after some (inr (nothing, plain, none)) split runs =
    subst (λ h. CanFollowWithin limit (h ++ front)) (sym nothing)
    (opened_plain limit front more some (subst (λ d. RunsToEnd limit (outside d) (front ++ more)) plain runs)
    (none_or_begun all front after more (split ∙ ap (λ h. (h ++ front) ++ after) nothing) none))

-- Where the automaton can go on, the symbols up to there can be followed.
pub opened : (limit : ℕ) (all body : List Placed) (d0 : Document) (s : Configuration) (ts front after before : List Placed) → 1 ≤ limit → start all ≡ (d0, body) → Reached limit d0 body s ts
    → ts ≡ front ++ after → GoesOn limit s front → all ≡ before ++ after → CanFollowWithin limit before
opened limit all body d0 s ts front after before some begun here split opens cut =
    let behind = behind_of all body d0 begun (header_or_none all) in
    let is = header_before all body behind.header here.done front after before behind.split (here.split ∙ ap (λ l. here.done ++ l) split) cut in
    let end = opens_to_end limit d0 body s ts front after some here split opens in
    subst (CanFollowWithin limit) (sym is) (opened_behind limit all body d0 behind.header (here.done ++ front) end.0 after some behind.again (cut ∙ ap (λ l. l ++ after) is) end.1)

-- from the beginning on nothing is read where the configuration shuts
shut_through : (limit : ℕ) (d0 : Document) (body : List Placed) (s : Configuration) (ts front after : List Placed) (y : Placed) (more : List Placed) (d : Document) → (here : Reached limit d0 body s ts) → ts ≡ front ++ y ∷ after
    → Shuts limit s front y → ¬ (Runs limit (outside d0) ((here.done ++ front) ++ y ∷ more) d)
shut_through limit d0 body s ts front after y more d here split shuts runs =
    let may = begins_alike s front after more y (ap (may_follow s) (sym split) ∙ here.free) in
    shuts more d ((here.runs (front ++ y ∷ more) may d).0 (subst (λ l. Runs limit (outside d0) l d) (append_assoc here.done front (y ∷ more)) runs))

header_word_first : (x : Placed) (ts other : List Placed) → is_header_word (x ∷ ts) ≡ is_header_word (x ∷ other)
header_word_first (placed word_ws1s a) ts other = refl
header_word_first (placed _ a) ts other = refl

header_word_alike : (before : List Placed) (y : Placed) (after more : List Placed) → is_header_word (before ++ y ∷ more) ≡ is_header_word (before ++ y ∷ after)
header_word_alike [] y after more = header_word_first y more after
header_word_alike (x ∷ before) y after more = header_word_first x (before ++ y ∷ more) (before ++ y ∷ after)

shut_plain : (limit : ℕ) (all front after : List Placed) (y : Placed) (more : List Placed) (d : Document) → ((more : List Placed) (d : Document) → ¬ (Runs limit (outside no_header) (front ++ y ∷ more) d))
    → (start ((front ++ y ∷ []) ++ more) ≡ (no_header, (front ++ y ∷ []) ++ more)) ⊎ RunsPlain limit (front ++ y ∷ []) → ¬ (ReadsWithin limit ((front ++ y ∷ []) ++ more) d)
shut_plain limit all front after y more d shuts (inl none) reads =
    let whole = (front ++ y ∷ []) ++ more in
    shuts more d (subst (λ l. Runs limit (outside no_header) l d) (append_assoc front (y ∷ []) more) (run_from limit whole whole no_header d none reads))
shut_plain limit all front after y more d shuts (inr (more', none, (d', runs))) reads =
    shuts more' d' (subst (λ l. Runs limit (outside no_header) l d') (append_assoc front (y ∷ []) more') runs)

shut_behind : (limit : ℕ) (all : List Placed) (d0 : Document) (header front after : List Placed) (y : Placed) → 3 ≤ limit
    → ((other : List Placed) → start (header ++ other) ≡ (d0, other)) ⊎ ((header ≡ []) × (d0 ≡ no_header) × (start all ≡ (no_header, all)))
    → ((more : List Placed) (d : Document) → ¬ (Runs limit (outside d0) (front ++ y ∷ more) d)) → (d0 ≡ no_header → is_header_word all ≡ false) → all ≡ (header ++ front) ++ y ∷ after
    → ¬ (CanFollowWithin limit ((header ++ front) ++ y ∷ []))
shut_behind limit all d0 header front after y enough (inl again) shuts other cut (more, d, reads) =
    let same : ((header ++ front) ++ y ∷ []) ++ more ≡ header ++ (front ++ y ∷ more) = append_assoc (header ++ front) (y ∷ []) more ∙ append_assoc header front (y ∷ more) in
    shuts more d (run_from limit (((header ++ front) ++ y ∷ []) ++ more) (front ++ y ∷ more) d0 d (ap start same ∙ again (front ++ y ∷ more)) reads)
shut_behind limit all d0 header front after y enough (inr (nothing, plain, none)) shuts other cut (more, d, reads) =
    let here : all ≡ front ++ y ∷ after = cut ∙ ap (λ h. (h ++ front) ++ y ∷ after) nothing in
    let longer : all ≡ (front ++ y ∷ []) ++ after = here ∙ sym (append_assoc front (y ∷ []) after) in
    let word : is_header_word ((front ++ y ∷ []) ++ more) ≡ false =
    ap is_header_word (append_assoc front (y ∷ []) more) ∙ header_word_alike front y after more ∙ ap is_header_word (sym here) ∙ other plain in
    shut_plain limit all front after y more d (subst (λ x. (more : List Placed) (d : Document) → ¬ (Runs limit (outside x) (front ++ y ∷ more) d)) plain shuts)
    (none_or_plain limit all (front ++ y ∷ []) after more enough longer none word)
    (subst (λ h. ReadsWithin limit (((h ++ front) ++ y ∷ []) ++ more) d) nothing reads)

-- Where the automaton cannot go on, nothing follows. Without a header the first word is not `ws1s`, which begins one.
pub shut : (limit : ℕ) (all body : List Placed) (d0 : Document) (s : Configuration) (ts front after before : List Placed) (y : Placed) → 3 ≤ limit → start all ≡ (d0, body) → Reached limit d0 body s ts
    → ts ≡ front ++ y ∷ after → Shuts limit s front y → (d0 ≡ no_header → is_header_word all ≡ false) → all ≡ before ++ y ∷ after → ¬ (CanFollowWithin limit (before ++ y ∷ []))
shut limit all body d0 s ts front after before y enough begun here split shuts other cut =
    let behind = behind_of all body d0 begun (header_or_none all) in
    let is = header_before all body behind.header here.done front (y ∷ after) before behind.split (here.split ∙ ap (λ l. here.done ++ l) split) cut in
    subst (λ b. ¬ (CanFollowWithin limit (b ++ y ∷ []))) (sym is)
    (shut_behind limit all d0 behind.header (here.done ++ front) after y enough behind.again (λ more d. shut_through limit d0 body s ts front after y more d here split shuts) other (cut ∙ ap (λ l. l ++ y ∷ after) is))

-- Without a header no symbols begin with `ws1s`, but where it is the first of all.

-- no declaration begins with the word
pub word_stuck : (limit : ℕ) (at : At) (ts : List Placed) (d0 d : Document) → ¬ (Runs limit (outside d0) (placed word_ws1s at ∷ ts) d)
word_stuck limit at ts d0 d (zero, read) = let never : ⊥ = cc in never
word_stuck limit at ts d0 d (suc n, read) = let never : ⊥ = cc in never

plain_body : (all body : List Placed) (d0 : Document) → start all ≡ (d0, body) → d0 ≡ no_header → Headed all ⊎ (start all ≡ (no_header, all)) → all ≡ body
plain_body all body d0 begun plain (inl is) =
    absurd (is.some (ap (λ (x : Document × List Placed). x.0) (sym (ap start is.split ∙ is.again is.rest) ∙ begun) ∙ plain))
plain_body all body d0 begun plain (inr none) = ap (λ (x : Document × List Placed). x.1) (sym none ∙ begun)

word_of : (limit : ℕ) (d0 : Document) (all before after more : List Placed) → RunsToEnd limit (outside d0) (before ++ more) → all ≡ before ++ after → (before ≡ [] → is_header_word all ≡ false) → is_header_word all ≡ false
word_of limit d0 all [] after more runs cut first = first refl
word_of limit d0 all (placed word_ws1s a ∷ before) after more (d, runs) cut first = absurd (word_stuck limit a (before ++ more) d0 d runs)
word_of limit d0 all (placed _ a ∷ before) after more runs cut first = ap is_header_word cut

pub no_word : (limit : ℕ) (all body : List Placed) (d0 : Document) (s : Configuration) (ts front after before : List Placed) → 1 ≤ limit → start all ≡ (d0, body) → Reached limit d0 body s ts
    → ts ≡ front ++ after → GoesOn limit s front → all ≡ before ++ after → (before ≡ [] → is_header_word all ≡ false) → d0 ≡ no_header → is_header_word all ≡ false
no_word limit all body d0 s ts front after before some begun here split opens cut first plain =
    let is = header_before all body [] here.done front after before (plain_body all body d0 begun plain (header_or_none all)) (here.split ∙ ap (λ l. here.done ++ l) split) cut in
    let end = opens_to_end limit d0 body s ts front after some here split opens in
    word_of limit d0 all before after end.0 (subst (λ l. RunsToEnd limit (outside d0) (l ++ end.0)) (sym is) end.1) cut first

-- where nothing stands before the symbols that are left, there is no header
nothing_header : (all : List Placed) (d0 : Document) (header front : List Placed) → [] ≡ header ++ front → ((other : List Placed) → start (header ++ other) ≡ (d0, other)) ⊎ ((header ≡ []) × (d0 ≡ no_header) × (start all ≡ (no_header, all)))
    → start all ≡ (no_header, all)
nothing_header all d0 (x ∷ header) front same again = let never : ⊥ = cc in absurd never
nothing_header all d0 [] front same (inl again) = again all ∙ ap (λ (d : Document). (d, all)) (sym (ap (λ (x : Document × List Placed). x.0) (again [])))
nothing_header all d0 [] front same (inr (nothing, plain, none)) = none

pub nothing_before : (limit : ℕ) (all body : List Placed) (d0 : Document) (s : Configuration) (ts front : List Placed) → start all ≡ (d0, body) → Reached limit d0 body s ts → ts ≡ front ++ all → start all ≡ (no_header, all)
nothing_before limit all body d0 s ts front begun here split =
    let behind = behind_of all body d0 begun (header_or_none all) in
    let is = header_before all body behind.header here.done front all [] behind.split (here.split ∙ ap (λ l. here.done ++ l) split) refl in
    nothing_header all d0 behind.header (here.done ++ front) is behind.again
