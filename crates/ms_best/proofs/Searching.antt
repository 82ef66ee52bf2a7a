-- A step of the search for distances.
use Rattle.std.proofs.Common.{◌≡◌, ◌≢◌, ℕ, zero, suc, ◌+◌, ◌-◌, ◌<◌, ◌≤◌, ◌⊎◌, inl, inr, min, List, [], ◌∷◌, ◌++◌, length, replicate, set, get_or, slice_get, Some, refl, sym, subst, ◌∙◌, arith, length-set, get_or-set_same, get_or-set_other}
use Rattle.std.specs.List.{All, Contains, range_with_len, sum}
use Rattle.std.proofs.lemmas.Bool.{cases_eq}
use Rattle.std.proofs.lemmas.List.{get_or_default, length-replicate}
use Rattle.std.proofs.lemmas.List.Elements.{All-from_get_or, All-push, All-tail, Contains-append_left, Contains-get_or, Contains-push}
use Rattle.std.proofs.lemmas.List.Sums.{sum_by-set}
use Rattle.std.proofs.lemmas.Option.{same_Some, slice_get_within}
use Rattle.ms_best.specs.declared.graph.Vertex.{Vertex}
use Rattle.ms_best.specs.declared.graph.Vertex.TheVariants.{Goal, Letter, Choice}
use Rattle.ms_best.specs.inner.Graph.{LeadsTo, ListsUsers, AreDistances, distance_by}
use Rattle.ms_best.specs.inner.Search.{IsSearch}

-- the distance of a vertex by its form, where the places are within the list
pub one_further : (far : ℕ) (distances : List ℕ) (vertex : Vertex) (next : ℕ) → vertex ≡ Letter next → next < length distances
    → get_or distances next 0 < far → get_or distances next 0 + 1 ≡ distance_by far distances vertex
one_further far distances vertex next same within below =
    let known = get_or_default distances next 0 far within in
    let P : Vertex → Type 0 = λ v. get_or distances next 0 + 1 ≡ distance_by far distances v in
    subst P (sym same) (omega (arith, known, below))

pub nearer_of : (far : ℕ) (distances : List ℕ) (vertex : Vertex) (low high found : ℕ) → vertex ≡ Choice low high → low < length distances → high < length distances
    → found ≡ min (get_or distances low 0) (get_or distances high 0) → found ≡ distance_by far distances vertex
nearer_of far distances vertex low high found same in_low in_high is =
    let P : Vertex → Type 0 = λ v. found ≡ distance_by far distances v in
    subst P (sym same) (is ∙ rw (get_or_default distances low 0 far in_low, get_or_default distances high 0 far in_high) refl)

-- smaller distances of others give no greater distance
distance_by-smaller : (far : ℕ) (less more : List ℕ) → ((p : ℕ) → get_or less p far ≤ get_or more p far)
    → (vertex : Vertex) → distance_by far less vertex ≤ distance_by far more vertex
distance_by-smaller far less more smaller Goal = omega arith
distance_by-smaller far less more smaller (Letter next) = omega (arith, smaller next)
distance_by-smaller far less more smaller (Choice low high) = omega (arith, smaller low, smaller high)

-- a distance that changes at one place matters to those that lead there
distance_by-set : (far : ℕ) (distances : List ℕ) (place value : ℕ) (vertex : Vertex)
    → LeadsTo vertex place ⊎ (distance_by far (set distances place value) vertex ≡ distance_by far distances vertex)
distance_by-set far distances place value Goal = inr refl
distance_by-set far distances place value (Letter next) =
    elim (cases_eq next place) [ inl same ↦ inl same | inr differ ↦ inr (rw (get_or-set_other distances place next value far differ) refl) ]
distance_by-set far distances place value (Choice low high) =
    elim (cases_eq low place) [
      | inl same ↦ inl (inl same)
      | inr one ↦
          elim (cases_eq high place) [
            | inl same ↦ inl (inr same)
            | inr two ↦ inr (rw (get_or-set_other distances place low value far one, get_or-set_other distances place high value far two) refl)
          ]
    ]

-- a vertex that is due is the first or one of the others
due_cases : (place : ℕ) (due : List ℕ) (i : ℕ) → Contains (place ∷ due) i → (i ≡ place) ⊎ Contains due i
due_cases place due i (zero, below, same) = inl (sym same)
due_cases place due i (suc k, below, same) = inr (k, omega (arith, below), same)

-- after a look at a due vertex whose distance is as it should be, the others are due
pub looked : (graph : List Vertex) (far : ℕ) (distances nearer : List ℕ) (place : ℕ) (due : List ℕ) (vertex : Vertex)
    → IsSearch graph far distances nearer (place ∷ due) → slice_get graph place ≡ Some vertex
    → get_or distances place far ≤ distance_by far distances vertex
    → IsSearch graph far distances nearer due
looked graph far distances nearer place due vertex search there right = record {
  count = search.count;
  bounded = search.bounded;
  not_too_small = search.not_too_small;
  settled = λ i found held.
      elim (search.settled i found held) [
        | inl settled ↦ inl settled
        | inr (inl pending) ↦ inr (inl pending)
        | inr (inr is_due) ↦ elim (due_cases place due i is_due) [
          | inl now ↦
              (let held_now : slice_get graph place ≡ Some found = subst (λ (n : ℕ). slice_get graph n ≡ Some found) now held in
              let same : vertex ≡ found = same_Some vertex found (sym there ∙ held_now) in
              inl (subst (λ (n : ℕ). get_or distances n far ≤ distance_by far distances found) (sym now)
              (subst (λ (v : Vertex). get_or distances place far ≤ distance_by far distances v) same right)))
          | inr later ↦ inr (inr later)
        ]
      ];
  queued = search.queued;
}

module _ (graph : List Vertex) (far : ℕ) (distances nearer : List ℕ) (place : ℕ) (due : List ℕ) (vertex : Vertex)
    (search : IsSearch graph far distances nearer (place ∷ due)) (there : slice_get graph place ≡ Some vertex)
    (smaller : distance_by far distances vertex < get_or distances place far) where
  abbrev pub value : ℕ
  value = distance_by far distances vertex

  within : place < length distances
  within = rw search.count (slice_get_within graph place vertex there)

  here : get_or (set distances place value) place far ≡ value
  here = get_or-set_same distances place value far within

  elsewhere : (p : ℕ) → p ≢ place → get_or (set distances place value) p far ≡ get_or distances p far
  elsewhere p differ = get_or-set_other distances place p value far differ

  lower : (p : ℕ) → get_or (set distances place value) p far ≤ get_or distances p far
  lower p =
      elim (cases_eq p place) [
        | inl same ↦
            (let P : ℕ → Type 0 = λ n. get_or (set distances place value) n far ≤ get_or distances n far in
            subst P (sym same) (rw here (omega (arith, smaller))))
        | inr differ ↦ rw (elsewhere p differ) (omega arith)
      ]

  same_vertex : (i : ℕ) (found : Vertex) → i ≡ place → slice_get graph i ≡ Some found → vertex ≡ found
  same_vertex i found now held =
      let held_now : slice_get graph place ≡ Some found = subst (λ (n : ℕ). slice_get graph n ≡ Some found) now held in
      same_Some vertex found (sym there ∙ held_now)

  large_enough : (i : ℕ) (found : Vertex) → slice_get graph i ≡ Some found → distance_by far (set distances place value) found ≤ get_or (set distances place value) i far
  large_enough i found held =
      let less = distance_by-smaller far (set distances place value) distances lower found in
      elim (cases_eq i place) [
        | inl now ↦
            (let P : ℕ → Type 0 = λ n. distance_by far (set distances place value) found ≤ get_or (set distances place value) n far in
            let Q : Vertex → Type 0 = λ v. distance_by far (set distances place value) found ≤ distance_by far distances v in
            subst P (sym now) (rw here (subst Q (sym (same_vertex i found now held)) less)))
        | inr differ ↦ rw (elsewhere i differ) (omega (arith, less, search.not_too_small i found held))
      ]

  -- one that was right is right still, or leads to the place
  stays_settled : (i : ℕ) (found : Vertex) → slice_get graph i ≡ Some found → get_or (set distances place value) i far ≤ distance_by far distances found
      → (get_or (set distances place value) i far ≤ distance_by far (set distances place value) found)
      ⊎ ((p : ℕ) × LeadsTo found p × Contains (nearer ++ place ∷ []) p)
      ⊎ Contains due i
  stays_settled i found held right =
      elim (distance_by-set far distances place value found) [
        | inl leads ↦ inr (inl (place, leads, Contains-push nearer place))
        | inr same ↦ inl (rw same right)
      ]

  settled_now : (i : ℕ) (found : Vertex) → slice_get graph i ≡ Some found → i ≡ place → get_or (set distances place value) i far ≤ distance_by far distances found
  settled_now i found held now =
      let P : ℕ → Type 0 = λ n. get_or (set distances place value) n far ≤ distance_by far distances found in
      let Q : Vertex → Type 0 = λ v. value ≤ distance_by far distances v in
      subst P (sym now) (rw here (subst Q (same_vertex i found now held) (omega arith)))

  settled_later : (i : ℕ) (found : Vertex) → slice_get graph i ≡ Some found
      → (get_or (set distances place value) i far ≤ distance_by far (set distances place value) found)
      ⊎ ((p : ℕ) × LeadsTo found p × Contains (nearer ++ place ∷ []) p)
      ⊎ Contains due i
  settled_later i found held =
      elim (search.settled i found held) [
        | inl settled ↦ stays_settled i found held (omega (arith, lower i, settled))
        | inr (inl pending) ↦ inr (inl (pending.0, pending.1, Contains-append_left nearer (place ∷ []) pending.0 pending.2))
        | inr (inr is_due) ↦ elim (due_cases place due i is_due) [
          | inl now ↦ stays_settled i found held (settled_now i found held now)
          | inr later ↦ inr (inr later)
        ]
      ]

  -- after a look at a due vertex whose distance becomes smaller, the others are due, and the vertex is noted
  pub lowered : IsSearch graph far (set distances place value) (nearer ++ place ∷ []) due
  lowered = record {
    count = length-set distances place value ∙ search.count;
    bounded = λ i. omega (arith, lower i, search.bounded i);
    not_too_small = large_enough;
    settled = settled_later;
    queued = All-push (λ p. p < length graph) nearer place search.queued (slice_get_within graph place vertex there);
  }

  -- and the sum of all distances falls
  pub sum_falls : sum (set distances place value) + 1 ≤ sum distances
  sum_falls = omega (arith, sum_by-set (λ x. x) distances place value far within, smaller)

-- the same, by what was computed
pub lowered_to : (graph : List Vertex) (far : ℕ) (distances nearer : List ℕ) (place : ℕ) (due : List ℕ) (vertex : Vertex) (found : ℕ) (noted : List ℕ)
    → IsSearch graph far distances nearer (place ∷ due) → slice_get graph place ≡ Some vertex → found ≡ distance_by far distances vertex
    → found < get_or distances place far → noted ≡ nearer ++ place ∷ [] → IsSearch graph far (set distances place found) noted due
lowered_to graph far distances nearer place due vertex found noted search there is smaller pushed =
    let below : distance_by far distances vertex < get_or distances place far = omega (arith, is, smaller) in
    rw (is, pushed) (lowered graph far distances nearer place due vertex search there below)

-- once a vertex is taken from those noted, those that lead there are due
pub taken : (graph : List Vertex) (far : ℕ) (distances nearer : List ℕ) (place : ℕ) (users : List (List ℕ))
    → ListsUsers graph users → IsSearch graph far distances (place ∷ nearer) [] → IsSearch graph far distances nearer (get_or users place [])
taken graph far distances nearer place users lists search = record {
  count = search.count;
  bounded = search.bounded;
  not_too_small = search.not_too_small;
  settled = λ i found held.
      elim (search.settled i found held) [
        | inl settled ↦ inl settled
        | inr (inl pending) ↦ elim (due_cases place nearer pending.0 pending.2) [
          | inl now ↦ inr (inr (lists.listed i found place held (subst (λ (p : ℕ). LeadsTo found p) now pending.1)))
          | inr later ↦ inr (inl (pending.0, pending.1, later))
        ]
        | inr (inr is_due) ↦ absurd (omega (arith, is_due.1))
      ];
  queued = All-tail (λ p. p < length graph) place nearer search.queued;
}

-- with nothing noted and nothing due, all distances are right
pub at_rest : (graph : List Vertex) (far : ℕ) (distances : List ℕ) → IsSearch graph far distances [] [] → AreDistances graph far distances
at_rest graph far distances search = record {
  count = search.count;
  each = λ i found held.
      elim (search.settled i found held) [
        | inl settled ↦ omega (arith, settled, search.not_too_small i found held)
        | inr (inl pending) ↦ absurd (omega (arith, pending.2.1))
        | inr (inr is_due) ↦ absurd (omega (arith, is_due.1))
      ];
}

get_or-replicate_same : (n i far : ℕ) → get_or (replicate n far) i far ≡ far
get_or-replicate_same zero i far = refl
get_or-replicate_same (suc n) zero far = refl
get_or-replicate_same (suc n) (suc i) far = get_or-replicate_same n i far

distance_by-bounded : (far n : ℕ) (vertex : Vertex) → distance_by far (replicate n far) vertex ≤ far
distance_by-bounded far n Goal = omega arith
distance_by-bounded far n (Letter next) = omega arith
distance_by-bounded far n (Choice low high) = rw (get_or-replicate_same n low far, get_or-replicate_same n high far) (omega arith)

-- all distances are bounded
pub all_bounded : (graph : List Vertex) (far : ℕ) (distances nearer due : List ℕ) → IsSearch graph far distances nearer due → All (λ distance. distance ≤ far) distances
all_bounded graph far distances nearer due search = All-from_get_or (λ distance. distance ≤ far) distances far (λ i below. search.bounded i)

-- before the first look all vertices are due
all_due : (n start i : ℕ) → start ≤ i → i < start + n → Contains (range_with_len start n) i
all_due zero start i from to = absurd (omega arith)
all_due (suc n) start i from to =
    elim (cases_eq i start) [
      | inl first ↦ (0, omega arith, sym first)
      | inr later ↦
          (let found = all_due n (start + 1) i (omega (arith, later)) (omega arith) in
          (suc found.0, omega (arith, found.1), found.2))
    ]

pub begun : (graph : List Vertex) (far : ℕ) → IsSearch graph far (replicate (length graph) far) [] (range_with_len 0 (length graph))
begun graph far = record {
  count = length-replicate (length graph) far;
  bounded = λ i. rw (get_or-replicate_same (length graph) i far) (omega arith);
  not_too_small = λ i vertex held. rw (get_or-replicate_same (length graph) i far) (distance_by-bounded far (length graph) vertex);
  settled = λ i vertex held. inr (inr (all_due (length graph) 0 i (omega arith) (omega (arith, slice_get_within graph i vertex held))));
  queued = λ k d below. absurd (omega (arith, below));
}

-- the vertices that are due, the first in front
pub due_from : (place n : ℕ) → place < n → range_with_len place (n - place) ≡ place ∷ range_with_len (place + 1) (n - (place + 1))
due_from place n below =
    let more : n - place ≡ suc (n - (place + 1)) = omega arith in
    rw more refl

-- the users of a place are vertices
pub users_within : (graph : List Vertex) (users : List (List ℕ)) (place : ℕ) → ListsUsers graph users → All (λ i. i < length graph) (get_or users place [])
users_within graph users place lists =
    All-from_get_or (λ i. i < length graph) (get_or users place []) 0 (λ i below. lists.within place (get_or (get_or users place []) i 0) (Contains-get_or (get_or users place []) i 0 below))
