-- Lines of trees, taken one after the other.
use Rattle.std.proofs.Common.{◌≡◌, ◌↔◌, ℕ, zero, suc, ◌+◌, ◌<◌, ◌≤◌, ◌==◌, Bool, true, false, not, cond, IsTrue, List, [], ◌∷◌, ◌++◌, drop, filter, length, reverse, slice_get, slice_index_or, All, Some, refl, sym, ap, subst, ◌∙◌, arith, append_assoc, length-append}
use Rattle.std.proofs.Math.ListN.{get_or-append}
use Rattle.std.proofs.Math.Seq.{get_or-append_seam}
use Rattle.std.proofs.lemmas.Bool.Decides.{nat_tests}
use Rattle.std.proofs.lemmas.List.{append-nil, length-reverse, nil_from_length, reverse-append}
use Rattle.std.proofs.lemmas.List.Elements.{All-append}
use Rattle.std.proofs.lemmas.Option.{none-some, same_Some}
use Rattle.std.specs.List.{range_with_len}
use Rattle.ms_dfa.specs.declared.plain.FileSign.{FileSign}
use Rattle.ms_dfa.specs.declared.plain.Plain.{Plain}
use Rattle.ms_logic.specs.FiniteSet.{numbers_below}
use Rattle.ms_logic_words.specs.Content.{Content}
use Rattle.ms_cert.specs.Certificate.{AreApart, Separates, Tree, branch, ends_in, leaf, lines_of}
use Rattle.ms_cert.specs.declared.cert.TreeLine.{TreeLine}
use Rattle.ms_cert.specs.declared.cert.TreeLine.TheVariants.{At, By}
use Rattle.ms_cert.specs.declared.separation.Sides.{Sides}
use Rattle.ms_cert.specs.inner.Separation.{AreStates, IsSplit, SeparateEach, Takes, failing, passing}
use Rattle.ms_cert.proofs.ListLemmas.{drop-item, drop-past}

-- a tree has a line
pub some-line : (tree : Tree) (rest : List TreeLine) → lines_of tree ++ rest ≡ [] → ⊥
some-line (leaf state) rest none = cc
some-line (branch sign letters one other) rest none = cc

module _ (content : Content FileSign) where
  -- a leaf separates the list of its state alone
  pub leaf-to : (own : ℕ) (states : List ℕ) (more : List (List ℕ)) (rest : List TreeLine) → SeparateEach content (states ∷ more) (At own ∷ rest) → (states ≡ own ∷ []) × SeparateEach content more rest
  leaf-to own states more rest each = by_tree each.0 each.1 each.2 each.3 each.4
    where
      by_tree : (tree : Tree) (behind : List TreeLine) → At own ∷ rest ≡ lines_of tree ++ behind → Separates content tree states → SeparateEach content more behind → (states ≡ own ∷ []) × SeparateEach content more rest
      by_tree (leaf state) behind same separates others =
          let is : state ≡ own = cc in
          let left : behind ≡ rest = cc in
          (separates ∙ ap (λ (s : ℕ). s ∷ []) is, subst (SeparateEach content more) left others)
      by_tree (branch sign letters one other) behind same separates others = cc

  -- a branch goes on with both sides of the list
  pub branch-to : (sign : FileSign) (letters : List (List Bool)) (states : List ℕ) (more : List (List ℕ)) (rest : List TreeLine) → SeparateEach content (states ∷ more) (By sign letters ∷ rest)
      → SeparateEach content (passing content (By sign letters) states ∷ failing content (By sign letters) states ∷ more) rest
  branch-to sign letters states more rest each = by_tree each.0 each.1 each.2 each.3 each.4
    where
      by_tree : (tree : Tree) (behind : List TreeLine) → By sign letters ∷ rest ≡ lines_of tree ++ behind → Separates content tree states → SeparateEach content more behind
          → SeparateEach content (passing content (By sign letters) states ∷ failing content (By sign letters) states ∷ more) rest
      by_tree (leaf state) behind same separates others = cc
      by_tree (branch own word one other) behind same separates others =
          let is_sign : own ≡ sign = cc in
          let is_word : word ≡ letters = cc in
          let left : rest ≡ (lines_of one ++ lines_of other) ++ behind = cc in
          let by_line = λ (s : FileSign) (w : List (List Bool)). Separates content one (filter (ends_in content s w) states) × Separates content other (filter (λ state. not (ends_in content s w state)) states) in
          let sides : by_line sign letters = subst (λ (s : FileSign). by_line s letters) is_sign (subst (by_line own) is_word separates) in
          (one, lines_of other ++ behind, left ∙ append_assoc (lines_of one) (lines_of other) behind, sides.0, (other, behind, refl, sides.1, others))

  branch-from : (sign : FileSign) (letters : List (List Bool)) (states : List ℕ) (more : List (List ℕ)) (rest : List TreeLine)
      → SeparateEach content (passing content (By sign letters) states ∷ failing content (By sign letters) states ∷ more) rest → SeparateEach content (states ∷ more) (By sign letters ∷ rest)
  branch-from sign letters states more rest each =
      let second = each.4 in
      let lines = each.2 ∙ ap (λ (left : List TreeLine). lines_of each.0 ++ left) second.2 ∙ sym (append_assoc (lines_of each.0) (lines_of second.0) second.1) in
      (branch sign letters each.0 second.0, second.1, ap (λ (left : List TreeLine). By sign letters ∷ left) lines, (each.3, second.3), second.4)

  pub no-line : (waiting : List (List ℕ)) → SeparateEach content waiting [] → waiting ≡ []
  no-line [] each = refl
  no-line (states ∷ more) each = absurd (some-line each.0 each.1 (sym each.2))

  pub last_first : (front : List (List ℕ)) (states : List ℕ) → reverse (front ++ states ∷ []) ≡ states ∷ reverse front
  last_first front states = reverse-append front (states ∷ [])

  pub takes-leaf : (line : TreeLine) (own : ℕ) (waiting left : List (List ℕ)) (states : List ℕ) (goes_on : Bool) → line ≡ At own → waiting ≡ left ++ states ∷ [] → IsTrue goes_on ↔ (states ≡ own ∷ []) → Takes content line waiting left goes_on
  takes-leaf line own waiting left states goes_on is_at parts told rest =
      let Each = λ (l : TreeLine) (ls : List (List ℕ)). SeparateEach content ls (l ∷ rest) in
      let order = ap (λ (ls : List (List ℕ)). reverse ls) parts ∙ last_first left states in (
        λ each.
            let parts_of = leaf-to own states (reverse left) rest (subst (λ (l : TreeLine). Each l (states ∷ reverse left)) is_at (subst (Each line) order each)) in
            (told.1 parts_of.0, parts_of.1),
        λ goes. subst (Each line) (sym order) (subst (λ (l : TreeLine). Each l (states ∷ reverse left)) (sym is_at) (leaf own, rest, refl, told.0 goes.0, goes.1)),
      )

  pub takes-branch : (line : TreeLine) (sign : FileSign) (letters : List (List Bool)) (waiting left behind last : List (List ℕ)) (states : List ℕ) (sides : Sides) → line ≡ By sign letters → waiting ≡ left ++ states ∷ [] → IsSplit content line states sides
      → behind ≡ left ++ sides.second ∷ [] → last ≡ behind ++ sides.first ∷ [] → Takes content line waiting last true
  takes-branch line sign letters waiting left behind last states sides is_by parts split is_behind is_last rest =
      let Each = λ (l : TreeLine) (ls : List (List ℕ)). SeparateEach content ls (l ∷ rest) in
      let order = ap (λ (ls : List (List ℕ)). reverse ls) parts ∙ last_first left states in
      let first = split.first ∙ ap (λ (l : TreeLine). passing content l states) is_by in
      let second = split.second ∙ ap (λ (l : TreeLine). failing content l states) is_by in
      let after : reverse last ≡ passing content (By sign letters) states ∷ failing content (By sign letters) states ∷ reverse left =
      ap (λ (ls : List (List ℕ)). reverse ls) is_last ∙ last_first behind sides.first ∙ ap (λ (ls : List (List ℕ)). sides.first ∷ reverse ls) is_behind ∙ ap (λ (ls : List (List ℕ)). sides.first ∷ ls) (last_first left sides.second)
      ∙ (λ i. first i ∷ second i ∷ reverse left) in (
        λ each. (refl, subst (λ (ls : List (List ℕ)). SeparateEach content ls rest) (sym after) (branch-to sign letters states (reverse left) rest (subst (λ (l : TreeLine). Each l (states ∷ reverse left)) is_by (subst (Each line) order each)))),
        λ goes. subst (Each line) (sym order) (subst (λ (l : TreeLine). Each l (states ∷ reverse left)) (sym is_by) (branch-from sign letters states (reverse left) rest (subst (λ (ls : List (List ℕ)). SeparateEach content ls rest) after goes.1))),
      )

  -- the list of all states alone
  pub apart-each : (lines : List TreeLine) → SeparateEach content (numbers_below (length content.states) ∷ []) lines → AreApart content lines
  apart-each lines each = record {
    tree = each.0;
    spelled = each.2 ∙ ap (λ (left : List TreeLine). lines_of each.0 ++ left) each.4 ∙ append-nil (lines_of each.0);
    separates = each.3;
  }

  pub each-apart : (lines : List TreeLine) → AreApart content lines → SeparateEach content (numbers_below (length content.states) ∷ []) lines
  each-apart lines apart = (apart.tree, [], apart.spelled ∙ sym (append-nil (lines_of apart.tree)), apart.separates, refl)

-- a state in front of states, where a test keeps it
kept-front : (plain : Plain) (kept : Bool) (s : ℕ) (states : List ℕ) → s < length plain.states → AreStates plain states → AreStates plain (cond kept (s ∷ states) states)
kept-front plain true s states own are zero state held = subst (λ (n : ℕ). n < length plain.states) (same_Some s state held) own
kept-front plain true s states own are (suc place) state held = are place state held
kept-front plain false s states own are place state held = are place state held

-- states that are kept are states
pub states-filter : (plain : Plain) (test : ℕ → Bool) (states : List ℕ) → AreStates plain states → AreStates plain (filter test states)
states-filter plain test [] are = are
states-filter plain test (s ∷ states) are =
    kept-front plain (test s) s (filter test states) (are 0 s refl) (states-filter plain test states (λ place state held. are (suc place) state held))

-- what holds of all lists that wait holds of the last, and of the others
pub all-last : {X : Type 0} (P : X → Type 0) (all front : List X) (x : X) → all ≡ front ++ x ∷ [] → All P all → P x
all-last {X} P all front x parts holds =
    let at = holds (length front) x (omega (arith, ap length parts, length-append front (x ∷ []))) in
    subst P (ap (λ (xs : List X). slice_index_or xs (length front) x) parts ∙ get_or-append_seam front x [] x) at

pub all-front : {X : Type 0} (P : X → Type 0) (all front : List X) (x : X) → all ≡ front ++ x ∷ [] → All P all → All P front
all-front {X} P all front x parts holds k d within =
    let at = holds k d (omega (arith, within, ap length parts, length-append front (x ∷ []))) in
    subst P (ap (λ (xs : List X). slice_index_or xs k d) parts ∙ get_or-append front (x ∷ []) d k within) at

pub all-pushed : {X : Type 0} (P : X → Type 0) (all front : List X) (x : X) → all ≡ front ++ x ∷ [] → All P front → P x → All P all
all-pushed {X} P all front x parts holds own = subst (All P) (sym parts) (All-append P front (x ∷ []) holds (all-one x own))
  where
    all-one : (y : X) → P y → All P (y ∷ [])
    all-one y is k d within = let first : k ≡ 0 = omega arith in subst (λ (n : ℕ). P (slice_index_or (y ∷ []) n d)) (sym first) is

-- the lists that wait and the lines that are left are right exactly where all states and all lines are
pub record StandsFor (content : Content FileSign) (lines : List TreeLine) (waiting : List (List ℕ)) (rest : List TreeLine) : Type 0 where
  pub from : SeparateEach content (reverse waiting) rest → AreApart content lines
  pub to : AreApart content lines → SeparateEach content (reverse waiting) rest

module _ (content : Content FileSign) (lines : List TreeLine) where
  pub stands-first : (waiting : List (List ℕ)) (states : List ℕ) → states ≡ numbers_below (length content.states) → waiting ≡ states ∷ [] → StandsFor content lines waiting lines
  stands-first waiting states all first =
      let order : reverse waiting ≡ numbers_below (length content.states) ∷ [] = ap (λ (ls : List (List ℕ)). reverse ls) first ∙ ap (λ (s : List ℕ). s ∷ []) all in record {
        from = λ each. apart-each content lines (subst (λ (ls : List (List ℕ)). SeparateEach content ls lines) order each);
        to = λ apart. subst (λ (ls : List (List ℕ)). SeparateEach content ls lines) (sym order) (each-apart content lines apart);
      }

  -- a line that is not taken, and one that is
  module _ (place : ℕ) (line : TreeLine) (within : place < length lines) (is : line ≡ slice_index_or lines place line) (waiting left : List (List ℕ)) (stands : StandsFor content lines waiting (drop place lines)) where
    front : drop place lines ≡ line ∷ drop (place + 1) lines
    front = drop-item lines place line within is

  -- at the end no list may wait
  pub stands-all : (place : ℕ) (waiting : List (List ℕ)) → length lines ≤ place → StandsFor content lines waiting (drop place lines) → (waiting ≡ []) ↔ AreApart content lines
  stands-all place waiting past stands =
      let none = drop-past lines place past in (
        λ empty. stands.from (subst (λ (ls : List (List ℕ)). SeparateEach content (reverse ls) (drop place lines)) (sym empty) none),
        λ apart. nothing_waits waiting (no-line content (reverse waiting) (subst (SeparateEach content (reverse waiting)) none (stands.to apart))),
      )
    where
      nothing_waits : (ls : List (List ℕ)) → reverse ls ≡ [] → ls ≡ []
      nothing_waits ls empty = nil_from_length ls (sym (length-reverse ls) ∙ ap length empty)

-- the numbers of all states are states
pub states-below : (plain : Plain) (states : List ℕ) → states ≡ numbers_below (length plain.states) → AreStates plain states
states-below plain states all place state held =
    let n = length plain.states in
    let below : slice_get (range_with_len 0 n) place ≡ Some state = ap (λ (s : List ℕ). slice_get s place) (sym all) ∙ held in
    let same : 0 + n ≡ n = omega arith in
    subst (λ (m : ℕ). state < m) same (in_range 0 n place state below)
  where
    in_range : (a n place state : ℕ) → slice_get (range_with_len a n) place ≡ Some state → state < a + n
    in_range a zero place state held = absurd (none-some state held)
    in_range a (suc n) zero state held = let same : a ≡ state = same_Some a state held in omega (arith, same)
    in_range a (suc n) (suc place) state held = let less = in_range (a + 1) n place state held in omega (arith, less)

-- whether no list waits
pub none-waits : {X : Type 0} (items : List X) (count : ℕ) (result : Bool) → length items ≡ count → result ≡ (count == 0) → IsTrue result ↔ (items ≡ [])
none-waits items count result long is = (
  λ yes. nil_from_length items (let none : count ≡ 0 = grind (arith, nat_tests) in long ∙ none),
  λ none. let empty : count ≡ 0 = sym long ∙ ap length none in is ∙ grind (arith, nat_tests),
)
