-- The variables of a translation are seen where they stand, and what it binds is new.
use Rattle.std.proofs.Common.{ℕ, ◌+◌, ◌<◌, zero, suc, cond, inl, inr, List, [], ◌∷◌, length, map, take, drop, refl, sym, ap, subst, arith}
use Rattle.ms_logic.specs.declared.mode.Order.TheVariants.{One, Two}
use Rattle.ms_logic.specs.declared.mode.Quant.{Quant}
use Rattle.ms_logic.specs.declared.mode.Rel.{Rel}
use Rattle.ms_logic.specs.declared.mode.Rel.TheVariants.{Equal, Differs, Less, AtMost, Greater, AtLeast, Member, NotMember, Sub}
use Rattle.ms_logic.specs.Assignment.{Variable}
use Rattle.ms_logic.specs.FiniteSet.{one_bits}
use Rattle.ms_logic.specs.Lists.{Each}
use Rattle.ms_logic.specs.Tree.{set_comparison, set_variable}
use Rattle.ms_names_rules.specs.Numbers.{Tables, Sees, IsNew, seeing, IsNumbered, AreNumbered}
use Rattle.ms_presburger.specs.declared.linear.Part.{Part}
use Rattle.ms_presburger.specs.declared.linear.Part.TheVariants.{Number, Var, Times}
use Rattle.ms_presburger.specs.declared.summand.Summand.{Summand}
use Rattle.ms_presburger.specs.declared.summand.Summand.TheVariants.{Constant, Shifted}
use Rattle.ms_presburger.specs.Sets.{Scope, with_variable, summands_of_part, summands_of, term_of_summand, adds, is_less, half, sum_is, related, compared, over_sets, set_form, set_forms}
use Rattle.ms_presburger.specs.Source.{place_of}
use Rattle.ms_presburger.specs.Tree.{Arithmetic, truth, falsity, comparison, brackets, negation, conjunction, disjunction, implication, equivalence, quantified, Arithmetics, no_arithmetics, more_arithmetics, names_in_part, names_in_sum, except, free_places, free_places_in_all}
use Rattle.ms_presburger.proofs.Named.{IsNamed, place-below, each-weaker}
use Rattle.ms_presburger.proofs.Scopes.{each-bound, each-left, each-right, except-none}
use Rattle.ms_presburger.proofs.Totals.{each-both, each-take, each-drop}
use Rattle.ms_translation.proofs.Globals.{names_seen, names-new, new-above, sees-name}

-- behind what is bound at x
new-behind : (seen : List Variable) (x y : ℕ) → x < y → IsNew seen x → IsNew (seeing x Two seen) y
new-behind seen x y above new = (above, new-above seen x y (omega (arith, above)) new)

-- a summand's variable is seen
abbrev SummandSees : List Variable → Summand → Type 0
SummandSees seen (Constant n) = Unit {0}
SummandSees seen (Shifted y j) = Sees seen y Two

sees-behind : (seen : List Variable) (x : ℕ) (terms : List Summand) → Each (SummandSees seen) terms → Each (SummandSees (seeing x Two seen)) terms
sees-behind seen x [] each = tt
sees-behind seen x (Constant n ∷ more) each = (tt, sees-behind seen x more each.1)
sees-behind seen x (Shifted y j ∷ more) each = (inr each.0, sees-behind seen x more each.1)

module _ (tables : Tables) (bound : ℕ) where
  adds-numbered : (seen : List Variable) (y u v x : ℕ) → IsNew seen x → Sees seen y Two → Sees seen u Two → Sees seen v Two → IsNumbered tables bound seen (adds y u v x)
  adds-numbered seen y u v x new in-y in-u in-v =
      let y' : Sees (seeing (x + 3) One (seeing x Two seen)) y Two = inr (inr in-y) in
      let u' : Sees (seeing (x + 3) One (seeing x Two seen)) u Two = inr (inr in-u) in
      let v' : Sees (seeing (x + 3) One (seeing x Two seen)) v Two = inr (inr in-v) in
      let c' : Sees (seeing (x + 3) One (seeing x Two seen)) x Two = inr (inl refl) in
      let p' : Sees (seeing (x + 3) One (seeing x Two seen)) (x + 3) One = inl refl in (
        new,
        tt,
        (
          (tt, inl refl),
          (
            (
              new-behind seen x (x + 3) (omega arith) new,
              tt,
              (
                ((p', y'), ((p', u'), ((p', v'), (p', c')))),
                (((p', c'), (((p', u'), ((p', v'), tt)), (((p', u'), ((p', c'), tt)), (((p', v'), ((p', c'), tt)), tt)))), tt),
              ),
            ),
            tt,
          ),
        ),
      )

  less-numbered : (seen : List Variable) (u v x : ℕ) → IsNew seen x → Sees seen u Two → Sees seen v Two → IsNumbered tables bound seen (is_less u v x)
  less-numbered seen u v x new in-u in-v =
      let p' : Sees (seeing (x + 1) One seen) (x + 1) One = inl refl in (
        new-above seen x (x + 1) (omega arith) new,
        tt,
        (
          (p', inr in-v),
          (
            (p', inr in-u),
            (
              (
                (omega arith, new-above seen x (x + 3) (omega arith) new),
                tt,
                ((inr (inl refl), inl refl), ((inl refl, inr (inr in-u)), (inl refl, inr (inr in-v)))),
              ),
              tt,
            ),
          ),
        ),
      )

  term-numbered : (seen : List Variable) (y : ℕ) (t : Summand) → Sees seen y Two → SummandSees seen t → IsNumbered tables bound seen (set_comparison Equal (set_variable y) (term_of_summand t))
  term-numbered seen y (Constant n) in-y sees = (in-y, tt)
  term-numbered seen y (Shifted x j) in-y sees = (in-y, sees)

  sum-numbered : (limit : ℕ) (terms : List Summand) (seen : List Variable) (y x : ℕ) → IsNew seen x → Sees seen y Two → Each (SummandSees seen) terms → IsNumbered tables bound seen (sum_is limit terms y x)
  sum-numbered zero [] seen y x new in-y each = in-y
  sum-numbered (suc limit) [] seen y x new in-y each = in-y
  sum-numbered zero (t ∷ []) seen y x new in-y each = term-numbered seen y t in-y each.0
  sum-numbered (suc limit) (t ∷ []) seen y x new in-y each = term-numbered seen y t in-y each.0
  sum-numbered zero (t ∷ (s ∷ more)) seen y x new in-y each = tt
  sum-numbered (suc limit) (t ∷ (s ∷ more)) seen y x new in-y each =
      let terms : List Summand = t ∷ (s ∷ more) in
      let n = half terms in
      let there = seeing x Two seen in
      let beyond = seeing (x + 2) Two there in
      let new-there = new-behind seen x (x + 2) (omega arith) new in
      let new-beyond = new-behind there (x + 2) (x + 4) (omega arith) new-there in
      let front = sees-behind seen x (take n terms) (each-take (SummandSees seen) n terms each) in
      let rest = sees-behind there (x + 2) (drop n terms) (sees-behind seen x (drop n terms) (each-drop (SummandSees seen) n terms each)) in (
        new,
        sum-numbered limit (take n terms) there x (x + 2) new-there (inl refl) front,
        (new-there, sum-numbered limit (drop n terms) beyond (x + 2) (x + 4) new-beyond (inl refl) rest, adds-numbered beyond y x (x + 2) (x + 4) new-beyond (inr (inr in-y)) (inr (inl refl)) (inl refl)),
      )

  related-numbered : (r : Rel) (seen : List Variable) (u v x : ℕ) → IsNew seen x → Sees seen u Two → Sees seen v Two → IsNumbered tables bound seen (related r u v x)
  related-numbered Equal seen u v x new in-u in-v = (in-u, in-v)
  related-numbered Differs seen u v x new in-u in-v = (in-u, in-v)
  related-numbered Less seen u v x new in-u in-v = less-numbered seen u v x new in-u in-v
  related-numbered AtMost seen u v x new in-u in-v = less-numbered seen v u x new in-v in-u
  related-numbered Greater seen u v x new in-u in-v = less-numbered seen v u x new in-v in-u
  related-numbered AtLeast seen u v x new in-u in-v = less-numbered seen u v x new in-u in-v
  related-numbered Member seen u v x new in-u in-v = tt
  related-numbered NotMember seen u v x new in-u in-v = tt
  related-numbered Sub seen u v x new in-u in-v = tt

  compared-numbered : (r : Rel) (left right : List Summand) (seen : List Variable) (x : ℕ) → IsNew seen x → Each (SummandSees seen) left → Each (SummandSees seen) right → IsNumbered tables bound seen (compared r left right x)
  compared-numbered r left right seen x new one other =
      let there = seeing x Two seen in
      let beyond = seeing (x + 2) Two there in
      let new-there = new-behind seen x (x + 2) (omega arith) new in
      let new-beyond = new-behind there (x + 2) (x + 4) (omega arith) new-there in (
        new,
        sum-numbered (length left) left there x (x + 2) new-there (inl refl) (sees-behind seen x left one),
        (
          new-there,
          sum-numbered (length right) right beyond (x + 2) (x + 4) new-beyond (inl refl) (sees-behind there (x + 2) right (sees-behind seen x right other)),
          related-numbered r beyond x (x + 2) (x + 4) new-beyond (inr (inl refl)) (inl refl),
        ),
      )

-- the names in scope are seen

abbrev pub NameSees : List Variable → Scope → List ℕ → Type 0
NameSees seen scope name = Sees seen (scope name) Two

moved-sees : (seen : List Variable) (x : ℕ) (places : List ℕ) → Sees seen x Two → Each (SummandSees seen) (map (λ j. Shifted x j) places)
moved-sees seen x [] sees = tt
moved-sees seen x (j ∷ places) sees = (sees, moved-sees seen x places sees)

part-sees : (seen : List Variable) (scope : Scope) (part : Part) → Each (NameSees seen scope) (names_in_part part) → Each (SummandSees seen) (summands_of_part scope part)
part-sees seen scope (Number zero) each = tt
part-sees seen scope (Number (suc n)) each = (tt, tt)
part-sees seen scope (Var name) each = (each.0, tt)
part-sees seen scope (Times n name) each = moved-sees seen (scope name) (one_bits n) each.0

sum-sees : (seen : List Variable) (scope : Scope) (parts : List Part) → Each (NameSees seen scope) (names_in_sum parts) → Each (SummandSees seen) (summands_of scope parts)
sum-sees seen scope [] each = tt
sum-sees seen scope (part ∷ more) each =
    each-both (SummandSees seen) (summands_of_part scope part) (summands_of scope more) (part-sees seen scope part (each-left (NameSees seen scope) (names_in_part part) (names_in_sum more) each))
    (sum-sees seen scope more (each-right (NameSees seen scope) (names_in_part part) (names_in_sum more) each))

bound-sees : (seen : List Variable) (scope : Scope) (x : ℕ) (name : List ℕ) (names places : List (List ℕ)) → Each (NameSees seen scope) (except (name ∷ names) places) →
    Each (NameSees (seeing x Two seen) (with_variable name x scope)) (except names places)
bound-sees seen scope x name =
    each-bound name (NameSees seen scope) (NameSees (seeing x Two seen) (with_variable name x scope))
    (λ other same. let P : ℕ → Type 0 = λ k. Sees (seeing x Two seen) k Two in subst P (sym (ap (λ t. cond t x (scope other)) same)) (inl refl))
    (λ other differs sees. let P : ℕ → Type 0 = λ k. Sees (seeing x Two seen) k Two in subst P (sym (ap (λ t. cond t x (scope other)) differs)) (inr sees))

module _ (tables : Tables) (bound : ℕ) where
  over-numbered : (q : Quant) (names : List (List ℕ)) (f : Arithmetic) →
      ((seen : List Variable) (scope : Scope) (x : ℕ) → IsNew seen x → Each (NameSees seen scope) (free_places f) → IsNumbered tables bound seen (set_form f scope x)) →
      (seen : List Variable) (scope : Scope) (x : ℕ) → IsNew seen x → Each (NameSees seen scope) (except names (free_places f)) → IsNumbered tables bound seen (over_sets q names (λ inner y. set_form f inner y) scope x)
  over-numbered q [] f body seen scope x new each = body seen scope x new (let P : List (List ℕ) → Type 0 = Each (NameSees seen scope) in subst P (except-none (free_places f)) each)
  over-numbered q (name ∷ names) f body seen scope x new each =
      (new, tt, over-numbered q names f body (seeing x Two seen) (with_variable name x scope) (x + 2) (new-behind seen x (x + 2) (omega arith) new) (bound-sees seen scope x name names (free_places f) each))

  mutual
    numbered : (f : Arithmetic) (seen : List Variable) (scope : Scope) (x : ℕ) → IsNew seen x → Each (NameSees seen scope) (free_places f) → IsNumbered tables bound seen (set_form f scope x)
    numbered truth seen scope x new each = tt
    numbered falsity seen scope x new each = tt
    numbered (comparison r left right) seen scope x new each =
        compared-numbered tables bound r (summands_of scope left) (summands_of scope right) seen x new (sum-sees seen scope left (each-left (NameSees seen scope) (names_in_sum left) (names_in_sum right) each))
        (sum-sees seen scope right (each-right (NameSees seen scope) (names_in_sum left) (names_in_sum right) each))
    numbered (brackets f) seen scope x new each = numbered f seen scope x new each
    numbered (negation f) seen scope x new each = numbered f seen scope x new each
    numbered (conjunction fs) seen scope x new each = all-numbered fs seen scope x new each
    numbered (disjunction fs) seen scope x new each = all-numbered fs seen scope x new each
    numbered (implication f g) seen scope x new each =
        (numbered f seen scope x new (each-left (NameSees seen scope) (free_places f) (free_places g) each), numbered g seen scope x new (each-right (NameSees seen scope) (free_places f) (free_places g) each))
    numbered (equivalence f g) seen scope x new each =
        (numbered f seen scope x new (each-left (NameSees seen scope) (free_places f) (free_places g) each), numbered g seen scope x new (each-right (NameSees seen scope) (free_places f) (free_places g) each))
    numbered (quantified q names f) seen scope x new each = over-numbered q names f (numbered f) seen scope x new each

    all-numbered : (fs : Arithmetics) (seen : List Variable) (scope : Scope) (x : ℕ) → IsNew seen x → Each (NameSees seen scope) (free_places_in_all fs) → AreNumbered tables bound seen (set_forms fs scope x)
    all-numbered no_arithmetics seen scope x new each = tt
    all-numbered (more_arithmetics f fs) seen scope x new each =
        (numbered f seen scope x new (each-left (NameSees seen scope) (free_places f) (free_places_in_all fs) each), all-numbered fs seen scope x new (each-right (NameSees seen scope) (free_places f) (free_places_in_all fs) each))

pub main-numbered : (tables : Tables) (bound : ℕ) (names : List (List ℕ)) (f : Arithmetic) → Each (IsNamed names) (free_places f) → IsNumbered tables bound (names_seen names) (set_form f (place_of names) (length names))
main-numbered tables bound names f covered =
    numbered tables bound f (names_seen names) (place_of names) (length names) (names-new names)
    (each-weaker (IsNamed names) (NameSees (names_seen names) (place_of names)) (λ x named. sees-name names (place_of names x) (place-below names x named)) (free_places f) covered)
