-- An entry is known by its codes.
use Rattle.std.proofs.Common.{◌≡◌, ℕ, zero, suc, ◌==◌, cond, List, [], ◌∷◌, ◌++◌, length, map, take, drop, slice_index, Option, Some, None, refl, sym, ◌∙◌, ap, append-nil}
use Rattle.std.proofs.Math.Seq.{take-append_seam, drop-append_seam}
use Rattle.ms_logic_core.specs.declared.core_formula.Basic.{Basic as Relation}
use Rattle.ms_logic_core.specs.declared.core_formula.Basic.TheVariants.{Truth, Number, Plus, Less, Member, Sub, Union, Inter, Diff, Up, Down, Min, Max, Bits}
use Rattle.ms_logic.specs.declared.mode.Order.{Order}
use Rattle.ms_logic.specs.declared.mode.Order.TheVariants.{Zero, One, Two}
use Rattle.ms_logic.specs.declared.mode.Quant.{Quant}
use Rattle.ms_logic.specs.declared.mode.Quant.TheVariants.{Ex, All}
use Rattle.ms_dag.specs.declared.node.Child.{Child}
use Rattle.ms_dag.specs.declared.node.DagNode.{DagNode}
use Rattle.ms_dag.specs.declared.node.DagNode.TheVariants.{True, False, Basic, Not, And, Or, Implies, Iff, Restrict, Import, Bind}
use Rattle.ms_dag.specs.declared.node.Entry.{Entry}
use Rattle.ms_dag.specs.inner.Codes.{code_of_order, code_of_quant, codes_of_numbers, codes_of_basic, codes_of_child, codes_of_each, codes_of_node, codes_of_entry}

-- what stands at the head of some codes, and what comes after it

numbers_in : List ℕ → List ℕ
numbers_in [] = []
numbers_in (n ∷ codes) = take n codes

after_numbers : List ℕ → List ℕ
after_numbers [] = []
after_numbers (n ∷ codes) = drop n codes

numbers_in-codes : (xs rest : List ℕ) → numbers_in (codes_of_numbers xs ++ rest) ≡ xs
unfolding numbers_in
numbers_in-codes xs rest = take-append_seam xs rest

after_numbers-codes : (xs rest : List ℕ) → after_numbers (codes_of_numbers xs ++ rest) ≡ rest
unfolding after_numbers
after_numbers-codes xs rest = drop-append_seam xs rest

child_in : List ℕ → Child
child_in [] = record { node = 0; map = [] }
child_in (n ∷ codes) = record { node = n; map = numbers_in codes }

after_child : List ℕ → List ℕ
after_child [] = []
after_child (n ∷ codes) = after_numbers codes

child_in-codes : (c : Child) (rest : List ℕ) → child_in (codes_of_child c ++ rest) ≡ c
unfolding child_in
child_in-codes c rest = ap (λ xs. record { node = c.node; map = xs }) (numbers_in-codes c.map rest)

after_child-codes : (c : Child) (rest : List ℕ) → after_child (codes_of_child c ++ rest) ≡ rest
unfolding after_child
after_child-codes c rest = after_numbers-codes c.map rest

children_in : ℕ → List ℕ → List Child
children_in zero codes = []
children_in (suc n) codes = child_in codes ∷ children_in n (after_child codes)

children_in-codes : (cs : List Child) → children_in (length cs) (codes_of_each cs) ≡ cs
unfolding children_in
children_in-codes [] = refl
children_in-codes (c ∷ cs) =
    let first = child_in-codes c (codes_of_each cs) in
    let others = ap (children_in (length cs)) (after_child-codes c (codes_of_each cs)) ∙ children_in-codes cs in cc

order_in : ℕ → Order
order_in n = cond (n == 0) Zero (cond (n == 1) One Two)

order_in-code : (o : Order) → order_in (code_of_order o) ≡ o
unfolding order_in
order_in-code Zero = refl
order_in-code One = refl
order_in-code Two = refl

orders_in-codes : (os : List Order) → map order_in (map code_of_order os) ≡ os
orders_in-codes [] = refl
orders_in-codes (o ∷ os) = let first = order_in-code o in let others = orders_in-codes os in cc

quant_in : ℕ → Quant
quant_in n = cond (n == 0) Ex All

quant_in-code : (q : Quant) → quant_in (code_of_quant q) ≡ q
unfolding quant_in
quant_in-code Ex = refl
quant_in-code All = refl

-- by the form, three variables and a number
basic_of : (form a b c n : ℕ) → Relation
basic_of form a b c n =
    cond (form == 0) (Truth a) (cond (form == 1) (Number a n) (cond (form == 2) (Plus a b n) (cond (form == 3) (Less a b) (cond (form == 4) (Member a b)
    (cond (form == 5) (Sub a b) (cond (form == 6) (Union a b c) (cond (form == 7) (Inter a b c) (cond (form == 8) (Diff a b c) (cond (form == 9) (Up a b n)
    (cond (form == 10) (Down a b n) (cond (form == 11) (Min a b) (cond (form == 12) (Max a b) (Bits a n)))))))))))))

basic_in : List ℕ → Relation
basic_in codes = basic_of (slice_index codes 0) (slice_index codes 1) (slice_index codes 2) (slice_index codes 3) (slice_index codes 4)

basic_in-codes : (b : Relation) → basic_in (codes_of_basic b) ≡ b
unfolding basic_in basic_of
basic_in-codes (Truth a) = refl
basic_in-codes (Number x n) = refl
basic_in-codes (Plus x y n) = refl
basic_in-codes (Less x y) = refl
basic_in-codes (Member x s) = refl
basic_in-codes (Sub s t) = refl
basic_in-codes (Union s t u) = refl
basic_in-codes (Inter s t u) = refl
basic_in-codes (Diff s t u) = refl
basic_in-codes (Up s t n) = refl
basic_in-codes (Down s t n) = refl
basic_in-codes (Min x s) = refl
basic_in-codes (Max x s) = refl
basic_in-codes (Bits s n) = refl

-- a restriction by the code before it
domain_of : ℕ → List ℕ → Option Child
domain_of n codes = cond (n == 0) None (Some (child_in codes))

after_domain : ℕ → List ℕ → List ℕ
after_domain n codes = cond (n == 0) codes (after_child codes)

binder_of : (q o k n : ℕ) → List ℕ → DagNode
binder_of q o k n codes = Bind (quant_in q) (order_in o) k (domain_of n codes) (child_in (after_domain n codes))

-- a node by the codes after the first
node_of : ℕ → List ℕ → DagNode
node_of form codes =
    cond (form == 0) True (cond (form == 1) False (cond (form == 2) (Basic (basic_in codes)) (cond (form == 3) (Not (child_in codes))
    (cond (form == 4) (And (children_in (slice_index codes 0) (drop 1 codes))) (cond (form == 5) (Or (children_in (slice_index codes 0) (drop 1 codes)))
    (cond (form == 6) (Implies (child_in codes) (child_in (after_child codes))) (cond (form == 7) (Iff (child_in codes) (child_in (after_child codes)))
    (cond (form == 8) (Restrict (child_in codes)) (cond (form == 9) (Import (slice_index codes 0) (numbers_in (drop 1 codes)))
    (binder_of (slice_index codes 0) (slice_index codes 1) (slice_index codes 2) (slice_index codes 3) (drop 4 codes)))))))))))

node_in : List ℕ → DagNode
node_in [] = True
node_in (form ∷ codes) = node_of form codes

child_in-alone : (c : Child) → child_in (codes_of_child c) ≡ c
child_in-alone c = ap child_in (sym (append-nil (codes_of_child c))) ∙ child_in-codes c []

numbers_in-alone : (xs : List ℕ) → numbers_in (codes_of_numbers xs) ≡ xs
numbers_in-alone xs = ap numbers_in (sym (append-nil (codes_of_numbers xs))) ∙ numbers_in-codes xs []

second_in : (c d : Child) → child_in (after_child (codes_of_child c ++ codes_of_child d)) ≡ d
second_in c d = ap child_in (after_child-codes c (codes_of_child d)) ∙ child_in-alone d

node_in-codes : (node : DagNode) → node_in (codes_of_node node) ≡ node
unfolding node_in node_of binder_of domain_of after_domain
node_in-codes True = refl
node_in-codes False = refl
node_in-codes (Basic b) = ap Basic (basic_in-codes b)
node_in-codes (Not c) = ap Not (child_in-alone c)
node_in-codes (And cs) = ap And (children_in-codes cs)
node_in-codes (Or cs) = ap Or (children_in-codes cs)
node_in-codes (Implies c d) = let first = child_in-codes c (codes_of_child d) in let second = second_in c d in cc
node_in-codes (Iff c d) = let first = child_in-codes c (codes_of_child d) in let second = second_in c d in cc
node_in-codes (Restrict c) = ap Restrict (child_in-alone c)
node_in-codes (Import i xs) = ap (Import i) (numbers_in-alone xs)
node_in-codes (Bind q o k None c) = let quant = quant_in-code q in let order = order_in-code o in let body = child_in-alone c in cc
node_in-codes (Bind q o k (Some d) c) =
    let quant = quant_in-code q in let order = order_in-code o in
    let domain = child_in-codes d (codes_of_child c) in let body = second_in d c in cc

entry_in : List ℕ → Entry
entry_in codes = record { node = node_in (after_numbers codes); orders = map order_in (numbers_in codes) }

entry_in-codes : (entry : Entry) → entry_in (codes_of_entry entry) ≡ entry
unfolding entry_in
entry_in-codes entry =
    let node = ap node_in (after_numbers-codes (map code_of_order entry.orders) (codes_of_node entry.node)) ∙ node_in-codes entry.node in
    let orders = ap (map order_in) (numbers_in-codes (map code_of_order entry.orders) (codes_of_node entry.node)) ∙ orders_in-codes entry.orders in
    λ i. record { node = node i; orders = orders i }

pub same_codes : (one two : Entry) → codes_of_entry one ≡ codes_of_entry two → one ≡ two
same_codes one two same = sym (entry_in-codes one) ∙ ap entry_in same ∙ entry_in-codes two
