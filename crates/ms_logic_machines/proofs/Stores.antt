-- States in the order in which they were found, and the nodes of the diagrams that were made so far.
use Rattle.std.proofs.Common.{◌≡◌, ℕ, ◌<◌, ◌≤◌, inl, inr, ⊎_elim, List, [], ◌∷◌, ◌++◌, length, slice_get, Some, refl, sym, ap, subst, ◌∙◌, length-append, arith}
use Rattle.std.proofs.lemmas.Option.{slice_get_within}
use Rattle.ms_arena.specs.declared.node.Ref.{Ref}
use Rattle.ms_arena.specs.declared.node.Ref.TheVariants.{Leaf, Inner}
use Rattle.ms_arena.specs.declared.node.Node.{Node}
use Rattle.ms_arena.specs.Diagram.{IsOrdered, IsReduced}
use Rattle.ms_arena.specs.Target.{Extends, IsFormed}
use Rattle.ms_arena.proofs.Appending.{Extends-same, IsOrdered-push, IsReduced-push}
use Rattle.ms_arena.proofs.Lists.{slice_get-push, slice_get-pushed}
use Rattle.ms_logic_machines.proofs.Finding.{found_or_new, numbers-tested, nodes-tested}
use Rattle.ms_logic_machines.proofs.Sights.{Sees}

-- a reference is a leaf below the count, or a node
abbrev pub NamesLeaf : ℕ → Ref → Type 0
NamesLeaf count (Leaf value) = value < count
NamesLeaf count (Inner place) = Unit {0}

pub NamesLeaf-later : (one two : ℕ) (reference : Ref) → one ≤ two → NamesLeaf one reference → NamesLeaf two reference
NamesLeaf-later one two (Leaf value) later named = omega (arith, later, named)
NamesLeaf-later one two (Inner place) later named = tt

-- the leaves of a node are among so many states, and its variable is one of so many
pub record IsSound (states variables : ℕ) (node : Node) : Type 0 where
  pub low : NamesLeaf states node.low
  pub high : NamesLeaf states node.high
  pub variable : node.var < variables

-- the states are distinct and have the property, and the nodes are reduced and lead to these states
pub record IsStore (variables : ℕ) (P : ℕ → Type 0) (found : List ℕ) (nodes : List Node) : Type 0 where
  pub ordered : IsOrdered nodes
  pub reduced : IsReduced nodes
  pub sound : (place : ℕ) (node : Node) → slice_get nodes place ≡ Some node → IsSound (length found) variables node
  pub distinct : (one two state : ℕ) → slice_get found one ≡ Some state → slice_get found two ≡ Some state → one ≡ two
  pub good : (place state : ℕ) → slice_get found place ≡ Some state → P state

-- a place of a list that was there or is the last, and it is the next number
pub record IsPut {A : Type 0} (old new : List A) (item : A) (place : ℕ) : Type 0 where
  pub extends : Extends old new
  pub held : slice_get new place ≡ Some item
  pub sees : Sees (length old) (place ∷ []) (length new)

put-found : {A : Type 0} (old : List A) (item : A) (place : ℕ) → slice_get old place ≡ Some item → IsPut old old item place
put-found old item place held = record { extends = Extends-same old; held = held; sees = inl (slice_get_within old place item held, refl) }

put-last : {A : Type 0} (old : List A) (item : A) → IsPut old (old ++ item ∷ []) item (length old)
put-last old item = record {
  extends = (item ∷ [], refl);
  held = slice_get-push old item;
  sees = inr (refl, let long = length-append old (item ∷ []) in omega (arith, long));
}

module _ (variables : ℕ) (P : ℕ → Type 0) (found : List ℕ) (nodes : List Node) (store : IsStore variables P found nodes) where
  -- a state has a place among those found, or gets the next
  pub record PutState (state : ℕ) : Type 0 where
    pub after : List ℕ
    pub place : ℕ
    pub put : IsPut found after state place
    pub store_after : IsStore variables P after nodes

  pub put_state : (state : ℕ) → P state → PutState state
  put_state state good = ⊎_elim
      (λ there. record { after = found; place = there.0; put = put-found found state there.0 there.1; store_after = store })
      (λ none. record {
        after = found ++ state ∷ [];
        place = length found;
        put = put-last found state;
        store_after = record {
          ordered = store.ordered;
          reduced = store.reduced;
          sound = λ place node held.
              let before = store.sound place node held in
              let longer : length found ≤ length (found ++ state ∷ []) = (let long = length-append found (state ∷ []) in omega (arith, long)) in
              record {
                low = NamesLeaf-later (length found) (length (found ++ state ∷ [])) node.low longer before.low;
                high = NamesLeaf-later (length found) (length (found ++ state ∷ [])) node.high longer before.high;
                variable = before.variable;
              };
          distinct = λ one two other first second. ⊎_elim
              (λ there. ⊎_elim
              (λ here. store.distinct one two other there here)
              (λ last. absurd (none one (there ∙ ap Some (sym last.1))))
              (slice_get-pushed found state two other second))
              (λ last. ⊎_elim
              (λ here. absurd (none two (here ∙ ap Some (sym last.1))))
              (λ also. last.0 ∙ sym also.0)
              (slice_get-pushed found state two other second))
              (slice_get-pushed found state one other first);
          good = λ place other held. ⊎_elim (store.good place other) (λ last. subst P last.1 good) (slice_get-pushed found state place other held);
        };
      })
      (found_or_new numbers-tested found state)

  -- a node has a place among those that were made, or gets the next
  pub record PutNode (node : Node) : Type 0 where
    pub after : List Node
    pub place : ℕ
    pub put : IsPut nodes after node place
    pub store_after : IsStore variables P found after

  pub put_node : (node : Node) → IsFormed nodes node → IsSound (length found) variables node → PutNode node
  put_node node formed sound = ⊎_elim
      (λ there. record { after = nodes; place = there.0; put = put-found nodes node there.0 there.1; store_after = store })
      (λ none. record {
        after = nodes ++ node ∷ [];
        place = length nodes;
        put = put-last nodes node;
        store_after = record {
          ordered = IsOrdered-push nodes node formed store.ordered;
          reduced = IsReduced-push nodes node formed none store.reduced;
          sound = λ place other held.
              ⊎_elim (store.sound place other) (λ last. subst (IsSound (length found) variables) last.1 sound) (slice_get-pushed nodes node place other held);
          distinct = store.distinct;
          good = store.good;
        };
      })
      (found_or_new nodes-tested nodes node)
