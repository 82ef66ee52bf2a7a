-- What the first symbols say of the header, whatever follows them.
use Rattle.std.proofs.Common.{◌≡◌, ℕ, ◌≤◌, leb, Bool, true, false, cond, ◌&&◌, ◌⊎◌, inl, inr, List, [], ◌∷◌, ◌++◌, codes, bytes_eq, Some, None, refl, sym, ap, ◌∙◌, subst, arith, append_assoc}
use Rattle.std.proofs.lemmas.Bool.{false≢true, le-leb}
use Rattle.std.proofs.lemmas.List.{append-nil}
use Rattle.std.proofs.lemmas.Slice.Eq.{bytes_eq-Decides}
use Rattle.ms_list.specs.declared.at.At.{At}
use Rattle.ms_logic.specs.declared.mode.Mode.{Mode}
use Rattle.ms_logic.specs.declared.mode.Mode.TheVariants.{Ws1s, M2lStr}
use Rattle.ms_logic.specs.declared.source.Int.TheVariants.{Number, Constant}
use Rattle.ms_logic.specs.declared.source.PlacedInt.{PlacedInt}
use Rattle.ms_parse_grammar.specs.Symbol.{name, number, sign, word_ws1s, semicolon, Placed, placed}
use Rattle.ms_parse_grammar.specs.Tree.{named}
use Rattle.ms_parse_grammar.specs.Tree.{atom, shifted, formula, Document}
use Rattle.ms_parse_steps.specs.inner.Machine.{in_formula, outside, declare, holding, start, took, too_deep}
use Rattle.ms_parse_steps.proofs.Frames.{chosen_yes}
use Rattle.ms_parse_steps.proofs.Headers.{is_header_word}
use Rattle.ms_parse_steps.proofs.Closing.{anywhere, symbol, RunsToEnd, further}

abbrev pub no_header : Document
no_header = record { header = None; declarations = [] }

-- The symbols begin with a header, whatever follows it.
pub record Headed (all : List Placed) : Type 0 where
  pub document : Document
  pub header : List Placed
  pub rest : List Placed
  pub split : all ≡ header ++ rest
  pub again : (other : List Placed) → start (header ++ other) ≡ (document, other)
  pub some : document ≡ no_header → ⊥

pub some_header : (d : Document) (h : At × Mode) → d.header ≡ Some h → d ≡ no_header → ⊥
some_header d h is same = let both : Some h ≡ None = sym is ∙ ap (λ (x : Document). x.header) same in let never : ⊥ = cc in never

headed_or : (b : Bool) (n m : List ℕ) (at a1 a2 a3 : At) (ts : List Placed) → (bytes_eq n (codes "m2l") && bytes_eq m (codes "str")) ≡ b
    → let all = placed (name n) at ∷ placed (sign true) a1 ∷ placed (name m) a2 ∷ placed semicolon a3 ∷ ts in Headed all ⊎ (start all ≡ (no_header, all))
headed_or true n m at a1 a2 a3 ts test = inl (record {
  document = record { header = Some (at, M2lStr); declarations = [] };
  header = placed (name n) at ∷ placed (sign true) a1 ∷ placed (name m) a2 ∷ placed semicolon a3 ∷ [];
  rest = ts;
  split = refl;
  again = λ other.
      ap (λ b. cond b (record { header = Some (at, M2lStr); declarations = [] }, other) (no_header, placed (name n) at ∷ placed (sign true) a1 ∷ placed (name m) a2 ∷ placed semicolon a3 ∷ other)) test;
  some = some_header (record { header = Some (at, M2lStr); declarations = [] }) (at, M2lStr) refl;
})
headed_or false n m at a1 a2 a3 ts test =
    inr (ap (λ b. cond b (record { header = Some (at, M2lStr); declarations = [] }, ts) (no_header, placed (name n) at ∷ placed (sign true) a1 ∷ placed (name m) a2 ∷ placed semicolon a3 ∷ ts)) test)

pub header_or_none : (all : List Placed) → Headed all ⊎ (start all ≡ (no_header, all))
header_or_none (placed word_ws1s at ∷ placed semicolon a1 ∷ ts) = inl (record {
  document = record { header = Some (at, Ws1s); declarations = [] };
  header = placed word_ws1s at ∷ placed semicolon a1 ∷ [];
  rest = ts;
  split = refl;
  again = λ other. refl;
  some = some_header (record { header = Some (at, Ws1s); declarations = [] }) (at, Ws1s) refl;
})
header_or_none (placed (name n) at ∷ placed (sign true) a1 ∷ placed (name m) a2 ∷ placed semicolon a3 ∷ ts) = headed_or (bytes_eq n (codes "m2l") && bytes_eq m (codes "str")) n m at a1 a2 a3 ts refl
header_or_none ts = inr refl

with_first : (x z : Placed) (xs zs : List Placed) → x ≡ z → ((more : List Placed) × (xs ≡ zs ++ more)) ⊎ ((more : List Placed) × (zs ≡ xs ++ more))
    → ((more : List Placed) × (x ∷ xs ≡ z ∷ (zs ++ more))) ⊎ ((more : List Placed) × (z ∷ zs ≡ x ∷ (xs ++ more)))
with_first x z xs zs same (inl (more, is)) = inl (more, cc)
with_first x z xs zs same (inr (more, is)) = inr (more, cc)

-- one of two beginnings of a list begins the other
pub one_begins : (xs ys zs ws : List Placed) → xs ++ ys ≡ zs ++ ws → ((more : List Placed) × (xs ≡ zs ++ more)) ⊎ ((more : List Placed) × (zs ≡ xs ++ more))
one_begins [] ys zs ws same = inr (zs, refl)
one_begins (x ∷ xs) ys [] ws same = inl (x ∷ xs, refl)
one_begins (x ∷ xs) ys (z ∷ zs) ws same =
    let first : x ≡ z = cc in
    let others : xs ++ ys ≡ zs ++ ws = cc in
    with_first x z xs zs first (one_begins xs ys zs ws others)

-- symbols without a header do not begin with one
no_header_in : (all front after rest header : List Placed) (d : Document) → all ≡ front ++ after → start all ≡ (no_header, all) → front ≡ header ++ rest → ((other : List Placed) → start (header ++ other) ≡ (d, other))
    → (d ≡ no_header → ⊥) → ⊥
no_header_in all front after rest header d split plain begins again some =
    let whole : all ≡ header ++ (rest ++ after) = split ∙ ap (λ x. x ++ after) begins ∙ append_assoc header rest after in
    let both : (no_header, all) ≡ (d, rest ++ after) = sym plain ∙ ap start whole ∙ again (rest ++ after) in
    some (sym (ap (λ (x : Document × List Placed). x.0) both))

or_prefix : (all front after more : List Placed) → all ≡ front ++ after → start all ≡ (no_header, all) → (is : Headed (front ++ more))
    → ((rest : List Placed) × (front ≡ is.header ++ rest)) ⊎ ((rest : List Placed) × (is.header ≡ front ++ rest))
    → (start (front ++ more) ≡ (no_header, front ++ more)) ⊎ ((rest : List Placed) × (d : Document) × (start (front ++ rest) ≡ (d, [])))
or_prefix all front after more split plain is (inl (rest, begins)) = absurd (no_header_in all front after rest is.header is.document split plain begins is.again is.some)
or_prefix all front after more split plain is (inr (rest, begins)) = inr (rest, is.document, ap start (sym begins ∙ sym (append-nil is.header)) ∙ is.again [])

or_begun : (all front after more : List Placed) → all ≡ front ++ after → start all ≡ (no_header, all) → Headed (front ++ more) ⊎ (start (front ++ more) ≡ (no_header, front ++ more))
    → (start (front ++ more) ≡ (no_header, front ++ more)) ⊎ ((rest : List Placed) × (d : Document) × (start (front ++ rest) ≡ (d, [])))
or_begun all front after more split plain (inr none) = inl none
or_begun all front after more split plain (inl is) = or_prefix all front after more split plain is (one_begins front more is.header is.rest is.split)

-- Where symbols that begin no header are followed by others, there is no header, or what has begun is the beginning of one.
pub none_or_begun : (all front after more : List Placed) → all ≡ front ++ after → start all ≡ (no_header, all)
    → (start (front ++ more) ≡ (no_header, front ++ more)) ⊎ ((rest : List Placed) × (d : Document) × (start (front ++ rest) ≡ (d, [])))
none_or_begun all front after more split plain = or_begun all front after more split plain (header_or_none (front ++ more))

-- Where a list might be the header `m2l-str;`, its beginnings are also those of an expression.

-- the symbols begin with `m2l-str;`
record Strings (all : List Placed) : Type 0 where
  pub at : At
  pub a1 : At
  pub a2 : At
  pub a3 : At
  pub rest : List Placed
  pub split : all ≡ placed (name (codes "m2l")) at ∷ placed (sign true) a1 ∷ placed (name (codes "str")) a2 ∷ placed semicolon a3 ∷ rest

both_true : (a b : Bool) → (a && b) ≡ true → (a ≡ true) × (b ≡ true)
both_true true b h = (refl, h)
both_true false b h = absurd (false≢true h)

strings_or : (b : Bool) (n m : List ℕ) (at a1 a2 a3 : At) (ts : List Placed) → (bytes_eq n (codes "m2l") && bytes_eq m (codes "str")) ≡ b
    → let all = placed (name n) at ∷ placed (sign true) a1 ∷ placed (name m) a2 ∷ placed semicolon a3 ∷ ts in Strings all ⊎ (start all ≡ (no_header, all))
strings_or true n m at a1 a2 a3 ts test =
    let tests = both_true (bytes_eq n (codes "m2l")) (bytes_eq m (codes "str")) test in
    let first : n ≡ codes "m2l" = (bytes_eq-Decides n (codes "m2l")).0 tests.0 in
    let third : m ≡ codes "str" = (bytes_eq-Decides m (codes "str")).0 tests.1 in
    inl (record {
      at = at;
      a1 = a1;
      a2 = a2;
      a3 = a3;
      rest = ts;
      split = ap (λ x. placed (name x) at ∷ placed (sign true) a1 ∷ placed (name m) a2 ∷ placed semicolon a3 ∷ ts) first
          ∙ ap (λ x. placed (name (codes "m2l")) at ∷ placed (sign true) a1 ∷ placed (name x) a2 ∷ placed semicolon a3 ∷ ts) third;
    })
strings_or false n m at a1 a2 a3 ts test =
    inr (ap (λ b. cond b (record { header = Some (at, M2lStr); declarations = [] }, ts) (no_header, placed (name n) at ∷ placed (sign true) a1 ∷ placed (name m) a2 ∷ placed semicolon a3 ∷ ts)) test)

strings_or_none : (all : List Placed) → is_header_word all ≡ false → Strings all ⊎ (start all ≡ (no_header, all))
strings_or_none (placed word_ws1s at ∷ ts) other = absurd (false≢true (sym other))
strings_or_none (placed (name n) at ∷ placed (sign true) a1 ∷ placed (name m) a2 ∷ placed semicolon a3 ∷ ts) other = strings_or (bytes_eq n (codes "m2l") && bytes_eq m (codes "str")) n m at a1 a2 a3 ts refl
strings_or_none ts other = inr refl

-- all but the last
abbrev front_of : List Placed → List Placed
front_of [] = []
front_of (x ∷ []) = []
front_of (x ∷ y ∷ ys) = x ∷ front_of (y ∷ ys)

front_behind : (xs : List Placed) (y : Placed) (ys : List Placed) → front_of (xs ++ y ∷ ys) ≡ xs ++ front_of (y ∷ ys)
front_behind [] y ys = refl
front_behind (x ∷ []) y ys = refl
front_behind (x ∷ z ∷ xs) y ys = ap (λ l. x ∷ l) (front_behind (z ∷ xs) y ys)

-- `m2l-str+0;` is a formula
sum_runs : (limit : ℕ) (at a1 a2 : At) → 3 ≤ limit
    → RunsToEnd limit (outside no_header) (placed (name (codes "m2l")) at ∷ placed (sign true) a1 ∷ placed (name (codes "str")) a2 ∷ symbol (sign false) ∷ symbol (number 0) ∷ symbol semicolon ∷ [])
sum_runs limit at a1 a2 enough =
    let c = in_formula no_header at in
    let e = atom at (named (codes "m2l")) in
    let x : PlacedInt = record { at = a2; value = Constant (codes "str"); minus = true } in
    let y : PlacedInt = record { at = anywhere; value = Number 0; minus = false } in
    let behind = symbol (sign false) ∷ symbol (number 0) ∷ symbol semicolon ∷ [] in
    let last = symbol semicolon ∷ [] in
    further limit (outside no_header) (holding c e []) (placed (name (codes "m2l")) at ∷ placed (sign true) a1 ∷ placed (name (codes "str")) a2 ∷ behind) (placed (sign true) a1 ∷ placed (name (codes "str")) a2 ∷ behind) refl
    (further limit (holding c e []) (holding c (shifted at e x) []) (placed (sign true) a1 ∷ placed (name (codes "str")) a2 ∷ behind) behind
    (chosen_yes (leb 2 limit) (took (holding c (shifted at e x) []) behind) (too_deep (placed (sign true) a1 ∷ placed (name (codes "str")) a2 ∷ behind)) (le-leb 2 limit (omega arith)))
    (further limit (holding c (shifted at e x) []) (holding c (shifted at (shifted at e x) y) []) behind last
    (chosen_yes (leb 3 limit) (took (holding c (shifted at (shifted at e x) y) []) last) (too_deep behind) (le-leb 3 limit enough))
    (declare no_header at (formula (shifted at (shifted at e x) y)), (1, refl))))

-- an expression that begins so
abbrev pub RunsPlain : ℕ → List Placed → Type 0
RunsPlain limit front = (more : List Placed) × (start (front ++ more) ≡ (no_header, front ++ more)) × RunsToEnd limit (outside no_header) (front ++ more)

plain_instead : (limit : ℕ) (front : List Placed) (at a1 a2 a3 : At) (y : Placed) (ys : List Placed) → 3 ≤ limit
    → placed (name (codes "m2l")) at ∷ placed (sign true) a1 ∷ placed (name (codes "str")) a2 ∷ placed semicolon a3 ∷ [] ≡ front ++ y ∷ ys → RunsPlain limit front
plain_instead limit front at a1 a2 a3 y ys enough split =
    let behind = symbol (sign false) ∷ symbol (number 0) ∷ symbol semicolon ∷ [] in
    let three = placed (name (codes "m2l")) at ∷ placed (sign true) a1 ∷ placed (name (codes "str")) a2 ∷ [] in
    let short : three ≡ front ++ front_of (y ∷ ys) = ap front_of split ∙ front_behind front y ys in
    let long : three ++ behind ≡ front ++ (front_of (y ∷ ys) ++ behind) = ap (λ l. l ++ behind) short ∙ append_assoc front (front_of (y ∷ ys)) behind in (
      front_of (y ∷ ys) ++ behind,
      subst (λ l. start l ≡ (no_header, l)) long refl,
      subst (λ l. RunsToEnd limit (outside no_header) l) long (sum_runs limit at a1 a2 enough),
    )

plain_or : (limit : ℕ) (all front after more : List Placed) → 3 ≤ limit → all ≡ front ++ after → start all ≡ (no_header, all) → (is : Strings (front ++ more))
    → let four = placed (name (codes "m2l")) is.at ∷ placed (sign true) is.a1 ∷ placed (name (codes "str")) is.a2 ∷ placed semicolon is.a3 ∷ [] in
    ((rest : List Placed) × (front ≡ four ++ rest)) ⊎ ((rest : List Placed) × (four ≡ front ++ rest)) → RunsPlain limit front
plain_or limit all front after more enough split plain is (inl (rest, begins)) =
    absurd (no_header_in all front after rest (placed (name (codes "m2l")) is.at ∷ placed (sign true) is.a1 ∷ placed (name (codes "str")) is.a2 ∷ placed semicolon is.a3 ∷ [])
    (record { header = Some (is.at, M2lStr); declarations = [] }) split plain begins (λ other. refl) (some_header (record { header = Some (is.at, M2lStr); declarations = [] }) (is.at, M2lStr) refl))
plain_or limit all front after more enough split plain is (inr ([], begins)) =
    absurd (no_header_in all front after [] (placed (name (codes "m2l")) is.at ∷ placed (sign true) is.a1 ∷ placed (name (codes "str")) is.a2 ∷ placed semicolon is.a3 ∷ [])
    (record { header = Some (is.at, M2lStr); declarations = [] }) split plain
    (sym (append-nil front) ∙ sym begins) (λ other. refl) (some_header (record { header = Some (is.at, M2lStr); declarations = [] }) (is.at, M2lStr) refl))
plain_or limit all front after more enough split plain is (inr (y ∷ ys, begins)) = plain_instead limit front is.at is.a1 is.a2 is.a3 y ys enough begins

none_or : (limit : ℕ) (all front after more : List Placed) → 3 ≤ limit → all ≡ front ++ after → start all ≡ (no_header, all) → Strings (front ++ more) ⊎ (start (front ++ more) ≡ (no_header, front ++ more))
    → (start (front ++ more) ≡ (no_header, front ++ more)) ⊎ RunsPlain limit front
none_or limit all front after more enough split plain (inr none) = inl none
none_or limit all front after more enough split plain (inl is) =
    let four = placed (name (codes "m2l")) is.at ∷ placed (sign true) is.a1 ∷ placed (name (codes "str")) is.a2 ∷ placed semicolon is.a3 ∷ [] in
    inr (plain_or limit all front after more enough split plain is (one_begins front more four is.rest is.split))

-- Where symbols that begin no header are followed by others, there is no header, or an expression begins so.
pub none_or_plain : (limit : ℕ) (all front after more : List Placed) → 3 ≤ limit → all ≡ front ++ after → start all ≡ (no_header, all) → is_header_word (front ++ more) ≡ false
    → (start (front ++ more) ≡ (no_header, front ++ more)) ⊎ RunsPlain limit front
none_or_plain limit all front after more enough split plain other = none_or limit all front after more enough split plain (strings_or_none (front ++ more) other)
